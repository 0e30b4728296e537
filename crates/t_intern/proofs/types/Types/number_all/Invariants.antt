use Rattle.std.proofs.Common.{take}
use Rattle.t_types.specs.Read.{types}
use Rattle.t_intern.specs.Grown.{Grown, AreNumbers}
use Rattle.t_intern.proofs.types.Types.number_all.Given as goal

abbrev pub invariant-loop-t : goal.invariant-loop-t
invariant-loop-t l = record {
  grown : Grown l.fn.self l.self;
  made : AreNumbers l.self (types (take l.t-index l.ts)) l.made.items;
}
