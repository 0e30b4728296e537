use Rattle.idx_core.specs.Over.{IsWord, ShiftFitsAt, shifted}
use Rattle.t_types.specs.Tree.{VarTy}
use Rattle.t_terms.proofs.BodyWalks.{Walk, DepthAt, RestHas}
use Rattle.t_terms.proofs.bodies.shift_body.Given as goal

abbrev pub invariant-loop-entry : goal.invariant-loop-entry
invariant-loop-entry l = record {
  small : IsWord l.depth;
  fits : RestHas (ShiftFitsAt l.by) IsWord l.entries l.entry-index l.depth;
  walk : Walk (shifted VarTy l.by) l.cut l.entries l.made.items l.entry-index l.depth;
  deep : DepthAt l.cut l.entries l.entry-index l.depth;
}
