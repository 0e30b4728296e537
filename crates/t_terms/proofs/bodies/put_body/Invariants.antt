use Rattle.std.proofs.Common.{◌≤◌}
use Rattle.idx_core.specs.Over.{IsWord, PutFitsAt, putted}
use Rattle.t_types.specs.Tree.{VarTy, over, each}
use Rattle.t_types.specs.Read.{tree}
use Rattle.t_terms.proofs.BodyWalks.{Walk, DepthAt, RestHas}
use Rattle.t_terms.proofs.bodies.put_body.Given as goal

abbrev pub invariant-loop-entry : goal.invariant-loop-entry
invariant-loop-entry l = record {
  below : l.at ≤ l.depth;
  small : IsWord l.depth;
  fits : RestHas (PutFitsAt each l.at (tree l.what)) IsWord l.entries l.entry-index l.depth;
  walk : Walk (putted VarTy over l.at (tree l.what)) l.start l.entries l.made.items l.entry-index l.depth;
  deep : DepthAt l.start l.entries l.entry-index l.depth;
}
