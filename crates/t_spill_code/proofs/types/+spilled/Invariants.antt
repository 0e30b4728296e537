use Rattle.std.proofs.Common.{◌≡◌, take, map}
use Rattle.t_types.specs.Read.{flag}
use Rattle.t_spill_code.proofs.Made.{Divides, spilled_flag}
use Rattle.t_spill_code.proofs.types.+spilled.Given as goal

abbrev pub invariant-spilled_file-loop-reg : goal.invariant-spilled_file-loop-reg
invariant-spilled_file-loop-reg l = Divides l.split.low l.regs l.lows.items l.frame.items l.reg-index

abbrev pub invariant-spilled_fields-loop-field : goal.invariant-spilled_fields-loop-field
invariant-spilled_fields-loop-field l =
    map flag l.made.items ≡ map (spilled_flag l.split.low) (take l.field-index l.fs)
