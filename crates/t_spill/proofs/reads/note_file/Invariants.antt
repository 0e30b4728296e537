use Rattle.std.proofs.Common.{◌≡◌, ℕ, List, drop}
use Rattle.t_types.specs.Read.{file}
use Rattle.t_spill_rules.specs.Spill.{numbers}
use Rattle.t_spill.specs.Wants.{join}
use Rattle.t_spill.proofs.reads.note_file.Given as goal

abbrev pub invariant-loop-reg : goal.invariant-loop-reg
invariant-loop-reg l = (rest : List ℕ) → join l.wants.items (join (numbers (file (drop l.reg-index l.regs))) rest)
    ≡ join l.initial.wants.items (join (numbers (file l.regs)) rest)
