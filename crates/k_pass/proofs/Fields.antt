-- The fields of a tuple.
use Rattle.std.proofs.Common.{◌≡◌, ℕ, zero, suc, ◌+◌, ◌<◌, ◌≤◌, List, [], ◌∷◌, map, length, get_or, drop, refl, ap}
use Rattle.std.proofs.Common.{◌∙◌, arith}
use Rattle.k_pass.specs.Machine.{atom}
use Rattle.k_pass.specs.declared.work.Atom.{Atom}

pub length_map : (xs : List Atom) → length xs ≡ length (map atom xs)
length_map [] = refl
length_map (x ∷ xs) = ap suc (length_map xs)

module _ {A : Type 0} where
  pub drop_end : (xs : List A) (i : ℕ) → length xs ≤ i → drop i xs ≡ []
  drop_end [] zero le = refl
  drop_end [] (suc i) le = refl
  drop_end (x ∷ xs) zero le = absurd (omega (arith, le))
  drop_end (x ∷ xs) (suc i) le = drop_end xs i (omega (arith, le))

  pub drop_next : (xs : List A) (i : ℕ) (d : A) → i < length xs → drop i xs ≡ get_or xs i d ∷ drop (i + 1) xs
  drop_next [] i d lt = absurd (omega (arith, lt))
  drop_next (y ∷ xs) zero d lt = refl
  drop_next (y ∷ xs) (suc i) d lt = drop_next xs i d (omega (arith, lt))
      ∙ ap (λ (k : ℕ). get_or xs i d ∷ drop k (y ∷ xs)) (let h : suc (i + 1) ≡ suc i + 1 = omega arith in h)
