use Rattle.std.proofs.Common.{take}
use Rattle.t_intern.specs.Grown.{Grown, AreNumbers}
use Rattle.t_known.specs.Labels.{code_types}
use Rattle.t_known.proofs.labels.number_blocks.Given as goal

abbrev pub invariant-loop-block : goal.invariant-loop-block
invariant-loop-block l = record {
  grown : Grown l.fn.types l.types;
  made : AreNumbers l.types (code_types (take l.block-index l.blocks)) l.made.items;
}
