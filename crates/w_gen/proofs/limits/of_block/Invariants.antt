use Rattle.std.proofs.Common.{◌≡◌, max, drop}
use Rattle.t_terms.specs.Read.{end_of}
use Rattle.w_gen.specs.Limits.{seq_register, seq_field}
use Rattle.w_gen.proofs.Bounds.{left}
use Rattle.w_gen.proofs.limits.of_block.Given as goal

abbrev pub invariant-loop-step : goal.invariant-loop-step
invariant-loop-step l = record {
  register : max l.register (seq_register (left (drop l.step-index l.step-items) (end_of l.block.end)))
      ≡ seq_register (left l.step-items (end_of l.block.end));
  field : max l.field (seq_field (left (drop l.step-index l.step-items) (end_of l.block.end)))
      ≡ seq_field (left l.step-items (end_of l.block.end));
}
