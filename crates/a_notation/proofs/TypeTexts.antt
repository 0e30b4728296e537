-- Types that a loop writes one by one.
use Rattle.std.proofs.Common.{Bool, ◌≡◌, ◌≤◌, ◌<◌, ℕ, suc, List, [], ◌∷◌, ◌++◌, length, drop, refl, sym}
use Rattle.std.proofs.Common.{◌∙◌, ap, append_assoc, codes, arith}
use Rattle.page_core.specs.Names.{separator}
use Rattle.page_core.proofs.Listed.{Left, left_none, listed}
use Rattle.a_terms.specs.declared.types.AType.{AType}
use Rattle.a_terms.specs.Tree.{AFields, ATuple, ATy}
use Rattle.a_terms.specs.Read.{afields, atree, atrees}
use Rattle.a_notation.specs.Types.{applied_text, fields_text, flag_text, others_text, type_text, types_text}

abbrev pub type_item : ℕ → ℕ → AType → List ℕ
type_item d i t = separator i ++ type_text d (atree t)

abbrev pub field_item : ℕ → ℕ → AType × Bool → List ℕ
field_item d i t = separator i ++ (type_text d (atree t.0) ++ flag_text t.1)

pub types_listed : (i d : ℕ) (xs : List AType) → types_text i d (atrees xs) ≡ listed (type_item d) i xs
types_listed i d [] = refl
types_listed i d (x ∷ xs) = rw (types_listed (suc i) d xs) (simp append_assoc)

pub fields_listed : (i d : ℕ) (xs : List (AType × Bool)) → fields_text i d (afields xs) ≡ listed (field_item d) i xs
fields_listed i d [] = refl
fields_listed i d (x ∷ xs) = rw (fields_listed (suc i) d xs) (simp append_assoc)

pub types_done : (d : ℕ) (xs : List AType) (old new : List ℕ) (from i k : ℕ) →
    Left (type_item d) new i k xs (old ++ listed (type_item d) 0 (drop from xs)) → length xs ≤ k →
    new ≡ old ++ types_text 0 d (atrees (drop from xs))
types_done d xs old new from i k h le =
    left_none (type_item d) new i k xs _ h le ∙ ap (λ (s : List ℕ). old ++ s) (sym (types_listed 0 d (drop from xs)))

pub fields_done : (d : ℕ) (xs : List (AType × Bool)) (old new : List ℕ) (i k : ℕ) →
    Left (field_item d) new i k xs (old ++ listed (field_item d) 0 xs) → length xs ≤ k →
    new ≡ old ++ fields_text 0 d (afields xs)
fields_done d xs old new i k h le =
    left_none (field_item d) new i k xs _ h le ∙ ap (λ (s : List ℕ). old ++ s) (sym (fields_listed 0 d xs))

-- a type by its parts
pub tuple_done : (d : ℕ) (t : ATy) (fs : AFields) (t0 t1 t2 t3 : List ℕ) → t1 ≡ t0 ++ codes "<" →
    t2 ≡ t1 ++ fields_text 0 d fs → t3 ≡ t2 ++ codes ">" → t ≡ ATuple fs → t3 ≡ t0 ++ type_text d t
tuple_done d t fs t0 t1 t2 t3 e1 e2 e3 is = rw (e3, e2, e1, is) (simp append_assoc)

pub others_are : (d : ℕ) (xs : List AType) → others_text d (atrees xs) ≡ types_text 0 d (atrees (drop 1 xs))
others_are d [] = refl
others_are d (x ∷ xs) = refl

pub applied_is : (d : ℕ) (xs : List AType) → 0 < length xs →
    applied_text d (atrees xs) ≡ codes "[" ++ (types_text 0 d (atrees xs) ++ codes "]")
applied_is d [] lt = absurd (omega (arith, lt))
applied_is d (x ∷ xs) lt = refl
