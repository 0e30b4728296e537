use Rattle.std.proofs.Common.{◌≡◌, take}
use Rattle.idx_core.specs.Over.{putted}
use Rattle.a_terms.specs.Tree.{AVar, over, over_types, over_fields}
use Rattle.a_terms.specs.Read.{atree, atrees, afields}
use Rattle.a_terms.proofs.walks.+putting.Given as goal

abbrev pub invariant-put_all-loop-t : goal.invariant-put_all-loop-t
invariant-put_all-loop-t l =
    atrees l.made.items ≡ over_types (putted AVar over l.c (atree l.s)) l.d (atrees (take l.t-index l.ts))

abbrev pub invariant-put_fields-loop-t : goal.invariant-put_fields-loop-t
invariant-put_fields-loop-t l =
    afields l.made.items ≡ over_fields (putted AVar over l.c (atree l.s)) l.d (afields (take l.t-index l.ts))
