-- The part of a whole that its value is that of, by the forms of nodes.
use Rattle.std.proofs.Common.{◌≡◌, ◌<◌, ℕ, Some, None, refl, ap, subst, arith}
use Rattle.std.specs.List.{All}
use Rattle.f_terms.specs.Tm.{Spn, Tm, span_of}
use Rattle.f_terms.specs.Shape.{children, shape_tree}
use Rattle.f_terms.specs.declared.node.FShape.{FShape}
use Rattle.f_terms.specs.declared.node.FShape.TheVariants.{Var, Int, Fix, App, Gen, Inst, Tuple, Proj, Arith, If0, Let}
use Rattle.f_terms.specs.declared.node.FShape.TheVariants.{Pack, Open, Ref, Deref, Assign}
use Rattle.talc_faults.specs.Value.{rest_of, value_part, value_place}

module _ (at : ℕ → Tm) (s : Spn) where
  pub place_is : (shape : FShape) → span_of (shape_tree at s shape) ≡ s
  place_is (Var i) = refl
  place_is (Int n) = refl
  place_is (Fix a r b) = refl
  place_is (App f x) = refl
  place_is (Gen b) = refl
  place_is (Inst e t) = refl
  place_is (Tuple es) = refl
  place_is (Proj i e) = refl
  place_is (Arith op a b) = refl
  place_is (If0 c a b) = refl
  place_is (Let a b) = refl
  place_is (Pack h e t) = refl
  place_is (Open a b) = refl
  place_is (Ref e) = refl
  place_is (Deref e) = refl
  place_is (Assign a b) = refl

  pub goes_on : (shape : FShape) (k : ℕ) → rest_of shape ≡ Some k →
      value_part (shape_tree at s shape) ≡ value_part (at k)
  goes_on (Var i) k is = cc
  goes_on (Int n) k is = cc
  goes_on (Fix a r b) k is = cc
  goes_on (App f x) k is = cc
  goes_on (Gen b) k is = cc
  goes_on (Inst e t) k is = cc
  goes_on (Tuple es) k is = cc
  goes_on (Proj i e) k is = cc
  goes_on (Arith op a b) k is = cc
  goes_on (If0 c a b) k is = cc
  goes_on (Let a b) k is = ap (λ i. value_part (at i)) (let same : b ≡ k = cc in same)
  goes_on (Pack h e t) k is = cc
  goes_on (Open a b) k is = ap (λ i. value_part (at i)) (let same : b ≡ k = cc in same)
  goes_on (Ref e) k is = cc
  goes_on (Deref e) k is = cc
  goes_on (Assign a b) k is = cc

  pub ends : (shape : FShape) → rest_of shape ≡ None → value_part (shape_tree at s shape) ≡ shape_tree at s shape
  ends (Var i) is = refl
  ends (Int n) is = refl
  ends (Fix a r b) is = refl
  ends (App f x) is = refl
  ends (Gen b) is = refl
  ends (Inst e t) is = refl
  ends (Tuple es) is = refl
  ends (Proj i e) is = refl
  ends (Arith op a b) is = refl
  ends (If0 c a b) is = refl
  ends (Let a b) is = cc
  ends (Pack h e t) is = refl
  ends (Open a b) is = cc
  ends (Ref e) is = refl
  ends (Deref e) is = refl
  ends (Assign a b) is = refl

  pub has_place : (shape : FShape) (k : ℕ) → rest_of shape ≡ Some k →
      value_place (shape_tree at s shape) ≡ Some (span_of (value_part (at k)))
  has_place (Var i) k is = cc
  has_place (Int n) k is = cc
  has_place (Fix a r b) k is = cc
  has_place (App f x) k is = cc
  has_place (Gen b) k is = cc
  has_place (Inst e t) k is = cc
  has_place (Tuple es) k is = cc
  has_place (Proj i e) k is = cc
  has_place (Arith op a b) k is = cc
  has_place (If0 c a b) k is = cc
  has_place (Let a b) k is = ap (λ i. Some (span_of (value_part (at i)))) (let same : b ≡ k = cc in same)
  has_place (Pack h e t) k is = cc
  has_place (Open a b) k is = ap (λ i. Some (span_of (value_part (at i)))) (let same : b ≡ k = cc in same)
  has_place (Ref e) k is = cc
  has_place (Deref e) k is = cc
  has_place (Assign a b) k is = cc

  pub has_none : (shape : FShape) → rest_of shape ≡ None → value_place (shape_tree at s shape) ≡ None
  has_none (Var i) is = refl
  has_none (Int n) is = refl
  has_none (Fix a r b) is = refl
  has_none (App f x) is = refl
  has_none (Gen b) is = refl
  has_none (Inst e t) is = refl
  has_none (Tuple es) is = refl
  has_none (Proj i e) is = refl
  has_none (Arith op a b) is = refl
  has_none (If0 c a b) is = refl
  has_none (Let a b) is = cc
  has_none (Pack h e t) is = refl
  has_none (Open a b) is = cc
  has_none (Ref e) is = refl
  has_none (Deref e) is = refl
  has_none (Assign a b) is = refl

-- the second part stands before the whole
pub rest_kid : (m : ℕ) (shape : FShape) (k : ℕ) → All (λ i. i < m) (children shape) → rest_of shape ≡ Some k → k < m
rest_kid m (Var i) k kids is = cc
rest_kid m (Int n) k kids is = cc
rest_kid m (Fix a r b) k kids is = cc
rest_kid m (App f x) k kids is = cc
rest_kid m (Gen b) k kids is = cc
rest_kid m (Inst e t) k kids is = cc
rest_kid m (Tuple es) k kids is = cc
rest_kid m (Proj i e) k kids is = cc
rest_kid m (Arith op a b) k kids is = cc
rest_kid m (If0 c a b) k kids is = cc
rest_kid m (Let a b) k kids is = subst (λ i. i < m) (let same : b ≡ k = cc in same) (kids 1 0 (omega arith))
rest_kid m (Pack h e t) k kids is = cc
rest_kid m (Open a b) k kids is = subst (λ i. i < m) (let same : b ≡ k = cc in same) (kids 1 0 (omega arith))
rest_kid m (Ref e) k kids is = cc
rest_kid m (Deref e) k kids is = cc
rest_kid m (Assign a b) k kids is = cc
