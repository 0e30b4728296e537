use Rattle.std.proofs.Common.{drop}
use Rattle.t_terms.specs.Spanned.{seq_of}
use Rattle.t_terms.specs.Read.{body, end_of}
use Rattle.t_rules.specs.Erase.{erase_seq}
use Rattle.t_machine.specs.Code.{all_moved}
use Rattle.t_machine.specs.Heap.{AllStarted}
use Rattle.t_machine.specs.Lowering.{IsBegun}
use Rattle.t_machine.proofs.loading.load_block.Given as goal

abbrev pub invariant-loop-step : goal.invariant-loop-step
invariant-loop-step l = record {
  begun : IsBegun l.fn.code l.code (erase_seq (seq_of (body (drop l.step-index l.step-items)) (end_of l.block.end)))
      (erase_seq (seq_of (body l.step-items) (end_of l.block.end)));
  started : AllStarted l.starts (all_moved l.fn.code.instructions.items) →
      AllStarted l.starts (all_moved l.code.instructions.items);
}
