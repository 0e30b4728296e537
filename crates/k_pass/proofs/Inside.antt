-- The numbers of nodes that are kept.
use Rattle.std.proofs.Common.{◌≡◌, ℕ, ◌<◌, List, [], ◌∷◌, ◌++◌, Some, refl, sym, All}
use Rattle.std.proofs.lemmas.List.Elements.{All-head, All-tail, All-same, All-push, All-pop}
use Rattle.f_terms.specs.Shape.{children}
use Rattle.f_terms.specs.declared.node.FShape.{FShape}

module _ {A : Type 0} (P : A → Type 0) where
  pub all_push : (xs ys : List A) (x : A) → ys ≡ xs ++ x ∷ [] → All P xs → P x → All P ys
  all_push xs ys x e all h = All-same P ys (xs ++ x ∷ []) e (All-push P xs x all h)

  pub all_pop : (xs ys : List A) (x : A) → xs ≡ ys ++ x ∷ [] → All P xs → All P ys × P x
  all_pop xs ys x e all = All-pop P (ys ++ x ∷ []) ys (Some x) refl (All-same P (ys ++ x ∷ []) xs (sym e) all)

  pub all_same : (xs ys : List A) → ys ≡ xs → All P xs → All P ys
  all_same xs ys e all = All-same P ys xs e all

  pub all_two : (x : A) (xs : List A) → All P (x ∷ xs) → P x × All P xs
  all_two x xs all = (All-head P x xs all, All-tail P x xs all)

abbrev Below : ℕ → FShape → Type 0
Below m n = All (λ k. k < m) (children n)

pub kids_one : (m : ℕ) (n : FShape) (b : ℕ) → children n ≡ b ∷ [] → Below m n → b < m
kids_one m n b e all = (all_two (λ k. k < m) b [] (all_same (λ k. k < m) _ _ (sym e) all)).0

pub kids_two : (m : ℕ) (n : FShape) (a b : ℕ) → children n ≡ a ∷ b ∷ [] → Below m n → (a < m) × (b < m)
kids_two m n a b e all =
    let r = all_two (λ k. k < m) a (b ∷ []) (all_same (λ k. k < m) _ _ (sym e) all) in
    (r.0, (all_two (λ k. k < m) b [] r.1).0)

pub kids_three : (m : ℕ) (n : FShape) (a b c : ℕ) → children n ≡ a ∷ b ∷ c ∷ [] → Below m n →
    (a < m) × (b < m) × (c < m)
kids_three m n a b c e all =
    let r = all_two (λ k. k < m) a (b ∷ c ∷ []) (all_same (λ k. k < m) _ _ (sym e) all) in
    let s = all_two (λ k. k < m) b (c ∷ []) r.1 in
    (r.0, s.0, (all_two (λ k. k < m) c [] s.1).0)
