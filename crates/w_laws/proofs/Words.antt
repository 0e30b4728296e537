-- Operations on words are those on the integers that they stand for.
use Rattle.std.proofs.Common.{◌≡◌, ℕ, ◌+◌, ◌-◌, ◌*◌, ◌<◌, ◌^◌, nat_eq}
use Rattle.std.proofs.Common.{sym, ap, ap₂, ◌∙◌, arith}
use Rattle.std.proofs.lemmas.Bool.Decides.{same_from_decides, Decides-int_eq, Decides-eqb, Decides-like}
use Rattle.std.specs.Prelude.{ℤ, pos}
use Rattle.std.specs.Ordering.{int_eq}
use Rattle.std.specs.Int.{cast_signed, cast_unsigned, w64}
use Rattle.std.specs.Prelude.{FitsSigned}
use Rattle.std.proofs.lemmas.Int.{wrapping_add-bits, wrapping_sub-bits, wrapping_mul-bits, to_z-of_z}
use Rattle.std.proofs.Math.Facts.{to_z_inj, Fits-of_z}
use Rattle.std.proofs.Math.Nat.{mod-lt}
use Rattle.idx_core.specs.declared.arith.Op.{Op}
use Rattle.idx_core.specs.declared.arith.Op.TheVariants.{Add, Sub, Mul}
use Rattle.idx_core.specs.Arith.{compute, is_zero}
use Rattle.w_terms.specs.Machine.{word_op}
use Rattle.w_laws.specs.Code.{word_op_of}

-- the word stands for the integer
abbrev pub Int64 : ℤ → ℕ → Type 0
Int64 i n = (n < 2 ^ 64) × (cast_signed w64 n ≡ i)

lit_pos : 0 < 2 ^ 64
lit_pos = omega arith

pub computed : (op : Op) (i j : ℤ) (m n : ℕ) → Int64 i m → Int64 j n →
    Int64 (compute op i j) (word_op (word_op_of op) m n)
computed Add i j m n h k =
    (mod-lt (m + n) (lit_pos), wrapping_add-bits w64 m n h.0 k.0 ∙ ap₂ (λ x y. compute Add x y) h.1 k.1)
computed Sub i j m n h k =
    (mod-lt (m + (2 ^ 64 - n)) (lit_pos), wrapping_sub-bits w64 m n h.0 k.0 ∙ ap₂ (λ x y. compute Sub x y) h.1 k.1)
computed Mul i j m n h k =
    (mod-lt (m * n) (lit_pos), wrapping_mul-bits w64 m n h.0 k.0 ∙ ap₂ (λ x y. compute Mul x y) h.1 k.1)

pub constant : (i : ℤ) → FitsSigned w64 i → Int64 i (cast_unsigned w64 i)
constant i f = ((Fits-of_z f).fits, to_z-of_z w64 i f)

pub zero_test : (i : ℤ) (n : ℕ) → Int64 i n → is_zero i ≡ nat_eq n 0
zero_test i n h = same_from_decides (int_eq i (pos 0)) (nat_eq n 0) (Decides-int_eq i (pos 0))
    (Decides-like (nat_eq n 0) (λ e. sym h.1 ∙ ap (cast_signed w64) e)
    (λ e. to_z_inj {w = w64} {a = n} {b = 0} (record { fits = h.0 }) (record { fits = lit_pos }) (h.1 ∙ e))
    (Decides-eqb n 0))
