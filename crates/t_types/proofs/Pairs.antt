-- Two lists gone through side by side: what holds of all exactly where it holds of what is left.
use Rattle.std.proofs.Common.{◌≡◌, List, [], ◌∷◌, length, ap, arith}

-- of the lists a and b, xs and ys are left
pub record Left {A : Type 0} (R : List A → List A → Type 0) (a b xs ys : List A) : Type 0 where
  pub long : length xs ≡ length ys
  pub whole : R xs ys → R a b
  pub part : R a b → R xs ys

module _ {A : Type 0} (R : List A → List A → Type 0) (a b xs ys : List A) where
  pub starts : xs ≡ a → ys ≡ b → length a ≡ length b → Left R a b xs ys
  starts e f same = rw (e, f) (record { long = same; whole = λ h. h; part = λ h. h })

  pub ends : Left R a b xs ys → xs ≡ [] → ys ≡ [] → R [] [] → R a b
  ends l e f none = l.whole (rw (e, f) none)

  module _ (us vs : List A) (x y : A) (l : Left R a b xs ys) (e : xs ≡ x ∷ us) (f : ys ≡ y ∷ vs) where
    pub firsts : R a b → R (x ∷ us) (y ∷ vs)
    firsts h = rw (e, f) at (l.part h)

    pub goes_on : (R us vs → R (x ∷ us) (y ∷ vs)) → (R (x ∷ us) (y ∷ vs) → R us vs) → Left R a b us vs
    goes_on more fewer = record {
      long = omega (arith, l.long, ap length e, ap length f);
      whole = λ h. l.whole (rw (e, f) (more h));
      part = λ h. fewer (firsts h);
    }
