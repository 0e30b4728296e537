use Rattle.std.proofs.Common.{◌≡◌, take}
use Rattle.idx_core.specs.Over.{shifted}
use Rattle.c_terms.specs.Read.{ctys}
use Rattle.a_terms.specs.Tree.{AVar, over_types, over_fields}
use Rattle.a_terms.specs.Read.{atrees, afields}
use Rattle.a_terms.specs.Typing.{aset}
use Rattle.a_laws.specs.Allocate.{atypes}
use Rattle.a_pass.proofs.types.+allocating.Given as goal

abbrev pub invariant-a_types_under-loop-t : goal.invariant-a_types_under-loop-t
invariant-a_types_under-loop-t l =
    atrees l.made.items ≡ over_types (shifted AVar l.by) l.d (atypes (ctys (take l.t-index l.ts)))

abbrev pub invariant-a_fields-loop-t : goal.invariant-a_fields-loop-t
invariant-a_fields-loop-t l =
    afields l.made.items ≡ over_fields (shifted AVar l.by) l.d (aset (atypes (ctys (take l.t-index l.ts))))
