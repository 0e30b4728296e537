-- The types of names, and of their parts.
use Rattle.std.proofs.Common.{◌≡◌, ◌<◌, ◌≤◌, ◌∙◌, ◌+◌, ℕ, zero, suc, List, [], ◌∷◌, ◌++◌, length, get_or, refl, sym}
use Rattle.std.proofs.Common.{ap, arith, length-append}
use Rattle.k_terms.specs.Types.{kfield, kproj_type, ktype_at}
use Rattle.calc_core.specs.Read.{tree, all_trees}
use Rattle.calc_core.specs.Types.{Ty, IntTy, TupleTy, Tys, NoTys, MoreTys}
use Rattle.calc_core.specs.Walks.{shift, shift_all}
use Rattle.calc_core.specs.declared.types.CoreType.{CoreType}
use Rattle.let_types.specs.Names.{scope, shown}
use Rattle.let_types.specs.declared.named.Named.{Named}

pub length_scope : (k : ℕ) (es : List Named) → length (scope k es) ≡ length es
length_scope k [] = refl
length_scope k (e ∷ es) = let h = length_scope k es in omega (arith, h, length-append (scope k es) (shown k e ∷ []))

at_front : (xs : List Ty) (t : Ty) (n : ℕ) → n < length xs → ktype_at (xs ++ t ∷ []) n ≡ ktype_at xs n
at_front [] t n lt = absurd (omega arith)
at_front (x ∷ xs) t zero lt = refl
at_front (x ∷ xs) t (suc n) lt = at_front xs t n (omega arith)

at_end : (xs : List Ty) (t : Ty) (n : ℕ) → n ≡ length xs → ktype_at (xs ++ t ∷ []) n ≡ t
at_end [] t zero e = refl
at_end [] t (suc n) e = absurd (omega (arith, e))
at_end (x ∷ xs) t zero e = absurd (omega (arith, e))
at_end (x ∷ xs) t (suc n) e = at_end xs t n (omega (arith, e))

at_none : (xs : List Ty) (n : ℕ) → length xs ≤ n → ktype_at xs n ≡ IntTy
at_none [] n le = refl
at_none (x ∷ xs) zero le = absurd (omega arith)
at_none (x ∷ xs) (suc n) le = at_none xs n (omega arith)

pub name_in : (k : ℕ) (es : List Named) (n j : ℕ) (e : Named) → j + suc n ≡ length es → e ≡ get_or es j e →
    shown k e ≡ ktype_at (scope k es) n
name_in k [] n j e s is = absurd (omega arith)
name_in k (x ∷ es) n zero e s is =
    ap (shown k) is ∙ sym (at_end (scope k es) (shown k x) n (omega (arith, s, length_scope k es)))
name_in k (x ∷ es) n (suc j) e s is =
    name_in k es n j e (omega (arith, s)) is
    ∙ sym (at_front (scope k es) (shown k x) n (omega (arith, s, length_scope k es)))

pub name_out : (k : ℕ) (es : List Named) (n : ℕ) → length es ≤ n → IntTy ≡ ktype_at (scope k es) n
name_out k es n le = sym (at_none (scope k es) n (omega (arith, length_scope k es)))

-- fields
field_shift : (by i : ℕ) (ts : Tys) → kfield i (shift_all by 0 ts) ≡ shift by 0 (kfield i ts)
field_shift by i NoTys = refl
field_shift by zero (MoreTys t ts) = refl
field_shift by (suc zero) (MoreTys t ts) = refl
field_shift by (suc (suc i)) (MoreTys t ts) = field_shift by (suc i) ts

pub proj_shift : (by i : ℕ) (t : Ty) (ts : Tys) → t ≡ TupleTy ts →
    shift by 0 (kfield i ts) ≡ kproj_type i (shift by 0 t)
proj_shift by i t ts is = sym (field_shift by i ts) ∙ ap (λ u. kproj_type i (shift by 0 u)) (sym is)

pub field_none : (ts : List CoreType) (i : ℕ) → i ≡ 0 → IntTy ≡ kfield i (all_trees ts)
field_none [] i e = refl
field_none (t ∷ ts) zero e = refl
field_none (t ∷ ts) (suc i) e = absurd (omega (arith, e))

pub field_in : (ts : List CoreType) (i k : ℕ) (t : CoreType) → i ≡ suc k → k < length ts → t ≡ get_or ts k t →
    tree t ≡ kfield i (all_trees ts)
field_in [] i k t e lt is = absurd (omega arith)
field_in (x ∷ ts) zero k t e lt is = absurd (omega (arith, e))
field_in (x ∷ ts) (suc zero) zero t e lt is = ap tree is
field_in (x ∷ ts) (suc zero) (suc k) t e lt is = absurd (omega (arith, e))
field_in (x ∷ ts) (suc (suc i)) zero t e lt is = absurd (omega (arith, e))
field_in (x ∷ ts) (suc (suc i)) (suc k) t e lt is = field_in ts (suc i) k t (omega (arith, e)) (omega arith) is

pub field_out : (ts : List CoreType) (i k : ℕ) → i ≡ suc k → length ts ≤ k → IntTy ≡ kfield i (all_trees ts)
field_out [] i k e le = refl
field_out (x ∷ ts) zero k e le = absurd (omega (arith, e))
field_out (x ∷ ts) (suc zero) zero e le = absurd (omega arith)
field_out (x ∷ ts) (suc zero) (suc k) e le = absurd (omega (arith, e))
field_out (x ∷ ts) (suc (suc i)) zero e le = absurd (omega (arith, e))
field_out (x ∷ ts) (suc (suc i)) (suc k) e le = field_out ts (suc i) k (omega (arith, e)) (omega arith)
