-- That nodes are right is a proposition.
use Rattle.std.specs.Prelude.{ℕ, zero, suc, List, [], ◌∷◌}
use Rattle.std.proofs.Props.{props}
use Rattle.h_terms.specs.declared.node.HForm.{HForm}
use Rattle.h_terms.specs.declared.node.HForm.TheVariants as H
use Rattle.h_terms.specs.declared.node.HNode.{HNode}
use Rattle.h_terms.specs.declared.node.HBlock.{HBlock}
use Rattle.calc_core.specs.Ends.{lift}
use Rattle.h_terms.specs.H.{HVal}
use Rattle.h_terms.specs.Nodes.{HArity, HRow, HRows, h_kids, values}
use Rattle.calc_core.specs.Row.{one_prop, two_prop, some_prop}

h_arity_prop : (f : HForm) (vs : List HVal) → IsProp (HArity f vs)
h_arity_prop H.Name vs = one_prop vs
h_arity_prop (H.Proj i) vs = one_prop vs
h_arity_prop (H.Arith o) vs = two_prop vs
h_arity_prop H.Unpack vs = one_prop vs
h_arity_prop H.Cell vs = one_prop vs
h_arity_prop H.Get vs = one_prop vs
h_arity_prop H.Set vs = two_prop vs
h_arity_prop (H.Call us) vs = some_prop vs
h_arity_prop H.If0 vs = one_prop vs
h_arity_prop H.Halt vs = one_prop vs

pub h_row_prop : (xs : List HNode) (n : ℕ) → IsProp (HRow xs n)
h_row_prop [] n = hlevel props
h_row_prop (x ∷ xs) zero = hlevel
h_row_prop (x ∷ xs) (suc n) = hlevel (h_arity_prop x.form (values x), h_row_prop xs (lift (h_kids x.form) n))

pub h_rows_prop : (ks : List HBlock) → IsProp (HRows ks)
h_rows_prop [] = hlevel
h_rows_prop (k ∷ ks) = hlevel (h_row_prop k.body.items 1, h_rows_prop ks)
