-- One form more on a stack of parts.
use Rattle.std.proofs.Common.{◌≡◌, ℕ, ◌-◌, ◌<◌, inl, inr, length, take, drop, List, [], ◌∷◌, ◌++◌, map, refl, ap, ap₂}
use Rattle.std.proofs.Common.{◌∙◌, sym, subst, arith, All}
use Rattle.std.proofs.lemmas.List.{map-append, take-map, drop-map, length-map}
use Rattle.std.proofs.lemmas.List.Elements.{All-head, All-tail}
use Rattle.calc_core.specs.Roots.{Differ, Among, without_all, roots}
use Rattle.calc_core.proofs.Roots.{of_among, roots_low, differ_back, all_before, among_last, without_last, roots_differ}
use Rattle.f_terms.specs.Tm.{Tm, Spn}
use Rattle.f_terms.specs.Shape.{children, kids, shape_tree}
use Rattle.f_terms.specs.ReadTerm.{size_of, part, IsLoose, loose_parts}
use Rattle.f_terms.specs.Made.{IsAdded, IsStack}
use Rattle.f_terms.specs.declared.node.FParts.{FParts}
use Rattle.f_terms.specs.declared.node.FShape.{FShape}
use Rattle.f_terms.specs.declared.stack.FStep.{FStep}
use Rattle.f_terms.specs.Stacked.{arity, step_tree, stacked}

same_trees : (f g : ℕ → Tm) (n : ℕ) → ((k : ℕ) → k < n → g k ≡ f k) → (ks : List ℕ) → All (λ k. k < n) ks →
    map g ks ≡ map f ks
same_trees f g n same [] h = refl
same_trees f g n same (k ∷ ks) h =
    ap₂ (λ (t : Tm) (ts : List Tm). t ∷ ts) (same k (All-head (λ k. k < n) k ks h))
    (same_trees f g n same ks (All-tail (λ k. k < n) k ks h))

low_of : (p : FParts) (k : ℕ) → IsLoose p k → k < size_of p
low_of p k h = of_among (λ k. k < size_of p) (roots kids p.nodes.items) k (roots_low kids p.nodes.items) h

module _ (p : FParts) (ks js : List ℕ) (h : IsStack p (ks ++ js)) where
  differ : Differ (ks ++ js)
  differ = subst Differ h (roots_differ kids p.nodes.items)

  -- the uppermost parts may be a form's children
  pub top_loose : All (λ k. IsLoose p k) js
  top_loose = subst (λ xs. All (λ k. Among xs k) js) (sym h) (among_last ks js)

  pub top_differ : Differ js
  top_differ = differ_back ks js differ

  -- and the form takes their place
  module _ (q : FParts) (s : Spn) (shape : FShape) (n : ℕ) (e : children shape ≡ js) (a : IsAdded p q s shape n) where
    pub stack_put : IsStack q (ks ++ n ∷ [])
    stack_put =
        a.left ∙ ap (λ (xs : List ℕ). without_all xs (loose_parts p) ++ n ∷ []) e
        ∙ ap (λ (xs : List ℕ). without_all js xs ++ n ∷ []) h
        ∙ ap (λ (xs : List ℕ). xs ++ n ∷ []) (without_last ks js differ)

    kept : All (λ k. k < size_of p) ks
    kept = λ i d lt.
        low_of p _ (all_before (λ k. IsLoose p k) ks js
        (subst (λ xs. All (λ k. Among xs k) (ks ++ js)) (sym h) (among_last [] (ks ++ js))) i d lt)

    pub stack_trees : map (part q) (ks ++ n ∷ []) ≡ map (part p) ks ++ shape_tree (part p) s shape ∷ []
    stack_trees =
        map-append (part q) ks (n ∷ [])
        ∙ ap₂ (λ (xs ys : List Tm). xs ++ ys) (same_trees (part p) (part q) (size_of p) a.same ks kept)
        (ap (λ (u : Tm). u ∷ []) a.tree)

-- a form takes its parts from the top
pub stacked_is : (f : ℕ → Tm) (s : Spn) (step : FStep) (ns : List ℕ) (m : ℕ) → m ≡ length ns - arity step →
    stacked s step (map f ns) ≡ map f (take m ns) ++ step_tree s step (map f (drop m ns)) ∷ []
stacked_is f s step ns m e =
    let e' : length (map f ns) - arity step ≡ m = omega (arith, e, length-map ns f) in
    ap (λ k. take k (map f ns) ++ step_tree s step (drop k (map f ns)) ∷ []) e'
    ∙ ap₂ (λ (xs ys : List Tm). xs ++ step_tree s step ys ∷ []) (take-map f m ns) (drop-map f m ns)

-- the one part of a stack is the last that is nobody's child
pub one_part : (p : FParts) (ks : List ℕ) → IsStack p ks → length (map (part p) ks) ≡ 1 →
    (k : ℕ) × (ks ≡ k ∷ []) × IsLoose p k × ((j : ℕ) → IsLoose p j → j ≡ k)
one_part p [] h e = absurd (omega (arith, e))
one_part p (k ∷ []) h e = (
  k,
  refl,
  subst (λ xs. Among xs k) (sym h) (inl refl),
  λ j m. elim (subst (λ xs. Among xs j) h m) as (λ x. j ≡ k) [ inl x ↦ x | inr b ↦ absurd b ],
)
one_part p (k ∷ j ∷ ks) h e = absurd (omega (arith, e, length-map ks (part p)))
