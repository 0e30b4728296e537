use Rattle.std.proofs.Common.{◌≡◌, take}
use Rattle.idx_core.specs.Over.{shifted}
use Rattle.a_terms.specs.Tree.{AVar, over_types, over_fields}
use Rattle.a_terms.specs.Read.{atrees, afields}
use Rattle.a_terms.proofs.walks.+shifting.Given as goal

abbrev pub invariant-shift_all-loop-t : goal.invariant-shift_all-loop-t
invariant-shift_all-loop-t l = atrees l.made.items ≡ over_types (shifted AVar l.by) l.d (atrees (take l.t-index l.ts))

abbrev pub invariant-shift_fields-loop-t : goal.invariant-shift_fields-loop-t
invariant-shift_fields-loop-t l =
    afields l.made.items ≡ over_fields (shifted AVar l.by) l.d (afields (take l.t-index l.ts))
