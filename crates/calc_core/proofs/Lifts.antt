-- Numbers, and renamings, under more names.
use Rattle.std.proofs.Common.{◌≡◌, ◌≤◌, ℕ, zero, suc, ◌+◌, refl, ap, arith}
use Rattle.calc_core.specs.Ends.{lift, under}

pub lift_zero : (n : ℕ) → lift n 0 ≡ n
lift_zero zero = refl
lift_zero (suc n) = ap suc (lift_zero n)

pub lift_suc : (n i : ℕ) → lift n (suc i) ≡ suc (lift n i)
lift_suc zero i = refl
lift_suc (suc n) i = ap suc (lift_suc n i)

pub lift_is : (n i : ℕ) → lift n i ≡ i + n
lift_is zero i = omega arith
lift_is (suc n) i = omega (arith, lift_is n i)

pub lift_add : (n i : ℕ) → lift n i ≡ n + i
lift_add zero i = omega arith
lift_add (suc n) i = omega (arith, lift_add n i)

pub under_ren : (n : ℕ) (q r p : ℕ → ℕ) → ((i : ℕ) → q (r i) ≡ p i) → (i : ℕ) → under n q (under n r i) ≡ under n p i
under_ren zero q r p f i = f i
under_ren (suc n) q r p f zero = refl
under_ren (suc n) q r p f (suc i) = ap suc (under_ren n q r p f i)

pub lift_le : (k i : ℕ) → i ≤ lift k i
lift_le k i = let r = lift_add k i in omega (arith, r)
