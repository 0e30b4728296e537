use Rattle.t_reader.proofs.Naming.{TypesLeft}
use Rattle.t_reader.proofs.types.types_in.Given as goal

abbrev pub invariant-loop-ty : goal.invariant-loop-ty
invariant-loop-ty l = TypesLeft l.text l.initial.scope l.list l.ty-index l.scope l.made.items
