-- Registers one by one.
use Rattle.std.proofs.Common.{◌≡◌, ℕ, zero, suc, ◌<◌, ◌≤◌, List, [], ◌∷◌, ◌++◌, refl, ap, drop, length}
use Rattle.std.proofs.Common.{get_or, arith}
use Rattle.t_types.specs.declared.types.TType.{TType}
use Rattle.t_types.specs.Read.{file}
use Rattle.t_spill_rules.specs.Spill.{numbers}
use Rattle.t_spill.specs.Wants.{join}

pub join_snoc : (xs : List ℕ) (r : ℕ) (rest : List ℕ) → join (xs ++ r ∷ []) rest ≡ join xs (r ∷ rest)
join_snoc [] r rest = refl
join_snoc (x ∷ xs) r rest = ap (λ (ys : List ℕ). x ∷ ys) (join_snoc xs r rest)

pub join_is : (xs ys : List ℕ) → join xs ys ≡ xs ++ ys
join_is [] ys = refl
join_is (x ∷ xs) ys = ap (λ (zs : List ℕ). x ∷ zs) (join_is xs ys)

numbers_suc : (xs : List (ℕ × TType)) (i : ℕ) (d : ℕ × TType) → i < length xs →
    numbers (file (drop i xs)) ≡ (get_or xs i d).0 ∷ numbers (file (drop (suc i) xs))
numbers_suc [] i d lt = absurd (omega arith)
numbers_suc (x ∷ xs) zero d lt = refl
numbers_suc (x ∷ xs) (suc i) d lt = numbers_suc xs i d (omega arith)

pub numbers_none : (xs : List (ℕ × TType)) (n : ℕ) → length xs ≤ n → numbers (file (drop n xs)) ≡ []
numbers_none [] zero le = refl
numbers_none [] (suc n) le = refl
numbers_none (x ∷ xs) zero le = absurd (omega arith)
numbers_none (x ∷ xs) (suc n) le = numbers_none xs n (omega arith)
