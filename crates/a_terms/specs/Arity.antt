-- Which nodes are terms.
use Rattle.std.specs.Prelude.{◌≡◌, ℕ, zero, suc, List, [], ◌∷◌}
use Rattle.std.proofs.Props.{props}
use Rattle.calc_core.specs.Ends.{lift}
use Rattle.a_terms.specs.Tree as a
use Rattle.calc_core.specs.Row.{IsOne, IsTwo, IsSome, IsNone, one_prop, two_prop, some_prop, none_prop}
use Rattle.a_terms.specs.NodeTrees.{a_values}
use Rattle.a_terms.specs.declared.nodes.AForm.{AForm}
use Rattle.a_terms.specs.declared.nodes.AForm.TheVariants.{Value, Proj, Arith, Unpack, Malloc, Init, Call, If0, Halt}
use Rattle.a_terms.specs.declared.nodes.ANode.{ANode}
use Rattle.a_terms.specs.declared.nodes.ABlock.{ABlock}

-- how many terms stand below a node
abbrev pub a_kids : AForm → ℕ
a_kids Value = 1
a_kids (Proj i) = 1
a_kids (Arith o) = 1
a_kids Unpack = 1
a_kids (Malloc us) = 1
a_kids (Init i) = 1
a_kids (Call us) = 0
a_kids If0 = 2
a_kids Halt = 0

-- how many values a node has
abbrev pub AArity : AForm → List a.AVal → Type 0
AArity Value vs = IsOne vs
AArity (Proj i) vs = IsOne vs
AArity (Arith o) vs = IsTwo vs
AArity Unpack vs = IsOne vs
AArity (Malloc us) vs = IsNone vs
AArity (Init i) vs = IsTwo vs
AArity (Call us) vs = IsSome vs
AArity If0 vs = IsOne vs
AArity Halt vs = IsOne vs

-- the nodes of exactly n terms
abbrev pub ARow : List ANode → ℕ → Type 0
ARow [] n = n ≡ 0
ARow (x ∷ xs) zero = ⊥
ARow (x ∷ xs) (suc n) = AArity x.form (a_values x.values.items) × ARow xs (lift (a_kids x.form) n)

-- the body of each block is one term
abbrev pub ARows : List ABlock → Type 0
ARows [] = Unit {0}
ARows (k ∷ ks) = ARow k.body.items 1 × ARows ks

-- there is one proof of it at most
a_arity_prop : (f : AForm) (vs : List a.AVal) → IsProp (AArity f vs)
a_arity_prop Value vs = one_prop vs
a_arity_prop (Proj i) vs = one_prop vs
a_arity_prop (Arith o) vs = two_prop vs
a_arity_prop Unpack vs = one_prop vs
a_arity_prop (Malloc us) vs = none_prop vs
a_arity_prop (Init i) vs = two_prop vs
a_arity_prop (Call us) vs = some_prop vs
a_arity_prop If0 vs = one_prop vs
a_arity_prop Halt vs = one_prop vs

pub a_row_prop : (xs : List ANode) (n : ℕ) → IsProp (ARow xs n)
a_row_prop [] n = hlevel props
a_row_prop (x ∷ xs) zero = hlevel
a_row_prop (x ∷ xs) (suc n) =
    hlevel (a_arity_prop x.form (a_values x.values.items), a_row_prop xs (lift (a_kids x.form) n))

pub a_rows_prop : (ks : List ABlock) → IsProp (ARows ks)
a_rows_prop [] = hlevel
a_rows_prop (k ∷ ks) = hlevel (a_row_prop k.body.items 1, a_rows_prop ks)
