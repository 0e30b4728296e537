-- Closed types put for all type variables of a type, one after the other.
use Rattle.std.proofs.Common.{◌≡◌, ℕ, ◌+◌, ◌-◌, ◌<◌, ◌⊎◌, inl, inr, refl, sym, ap, ap₂, ◌∙◌, subst, arith, zero-add}
use Rattle.std.proofs.lemmas.Bool.{cases_order}
use Rattle.idx_core.specs.Over.{deep, At, putted}
use Rattle.idx_core.specs.Laws as laws
use Rattle.f_terms.specs.Ty.{Ty, TInt, TVar, TArrow, TAll, TTuple, TSome, TRef, Tys, NoTys, MoreTys, over, over_all}
use Rattle.f_terms.specs.Ty.{shift, put, put_from, Below, Closed}
use Rattle.f_terms.specs.TyLaws.{types_part, types_over, types_each, put_put, put_bound}
use Rattle.f_terms.specs.Typing.{raised}

-- the first of ss for the variable c, the second for c + 1, and so on
abbrev pub close : ℕ → Tys → Ty → Ty
close c NoTys t = t
close c (MoreTys s ss) t = close c ss (put c s t)

abbrev pub close_fields : ℕ → Tys → Tys → Tys
close_fields c NoTys ts = ts
close_fields c (MoreTys s ss) ts = close_fields c ss (over_all (putted TVar over c s) c ts)

abbrev pub close_all : Tys → Tys → Tys
close_all ss NoTys = NoTys
close_all ss (MoreTys t g) = MoreTys (close 0 ss t) (close_all ss g)

abbrev pub AllClosed : Tys → Type 0
AllClosed NoTys = Unit {0}
AllClosed (MoreTys s ss) = Closed s × AllClosed ss

abbrev pub count : Tys → ℕ
count NoTys = 0
count (MoreTys s ss) = count ss + 1

-- by the form of the type
pub close_int : (c : ℕ) (ss : Tys) → close c ss TInt ≡ TInt
close_int c NoTys = refl
close_int c (MoreTys s ss) = close_int c ss

pub close_arrow : (c : ℕ) (ss : Tys) (a b : Ty) → close c ss (TArrow a b) ≡ TArrow (close c ss a) (close c ss b)
close_arrow c NoTys a b = refl
close_arrow c (MoreTys s ss) a b = close_arrow c ss (put c s a) (put c s b)

pub close_tuple : (c : ℕ) (ss ts : Tys) → close c ss (TTuple ts) ≡ TTuple (close_fields c ss ts)
close_tuple c NoTys ts = refl
close_tuple c (MoreTys s ss) ts = close_tuple c ss (over_all (putted TVar over c s) c ts)

pub close_ref : (c : ℕ) (ss : Tys) (t : Ty) → close c ss (TRef t) ≡ TRef (close c ss t)
close_ref c NoTys t = refl
close_ref c (MoreTys s ss) t = close_ref c ss (put c s t)

no_fields : (c : ℕ) (ss : Tys) → close_fields c ss NoTys ≡ NoTys
no_fields c NoTys = refl
no_fields c (MoreTys s ss) = no_fields c ss

more_fields : (c : ℕ) (ss : Tys) (t : Ty) (ts : Tys) →
    close_fields c ss (MoreTys t ts) ≡ MoreTys (close c ss t) (close_fields c ss ts)
more_fields c NoTys t ts = refl
more_fields c (MoreTys s ss) t ts = more_fields c ss (put c s t) (over_all (putted TVar over c s) c ts)

pub fields_are_closed : (ss ts : Tys) → close_fields 0 ss ts ≡ close_all ss ts
fields_are_closed ss NoTys = no_fields 0 ss
fields_are_closed ss (MoreTys t ts) = more_fields 0 ss t ts ∙ ap (MoreTys (close 0 ss t)) (fields_are_closed ss ts)

-- two walks that agree at each variable
same_over : (f g : At Ty) (a b : ℕ) → ((e i : ℕ) → f (deep a e) i ≡ g (deep b e) i) → (t : Ty) → over f a t ≡ over g b t
same_over f g a b h t =
    sym (ap (over f a) (types_over.keeps (λ d i. TVar i) 0 (λ e i. refl) t))
    ∙ types_over.after (λ d i. TVar i) f g 0 a b h t

-- nothing moves in a closed type
closed_shift : (k c : ℕ) (s : Ty) → Closed s → shift k c s ≡ s
closed_shift k c s h = laws.shift_below types_part types_each types_over types_each.has k c 0 s (omega arith) h

closed_put : (c : ℕ) (s t : Ty) → Closed t → put c s t ≡ t
closed_put c s t h = laws.put_below types_part types_each types_over types_each.has c s 0 t (omega arith) h

-- under a binder
put_under : (c : ℕ) (s t : Ty) → Closed s → put_from c s (c + 1) t ≡ put (c + 1) s t
put_under c s t h =
    same_over (putted TVar over c s) (putted TVar over (c + 1) s) (c + 1) (c + 1)
    (λ e i. here (deep (c + 1) e) i (cases_order i (deep (c + 1) e))) t
  where
    here : (d i : ℕ) → (i ≡ d) ⊎ ((i < d) ⊎ (d < i)) → putted TVar over c s d i ≡ putted TVar over (c + 1) s d i
    here d i (inl e) = laws.putted_eq TVar over c s d i e ∙ closed_shift (d - c) 0 s h
        ∙ sym (closed_shift (d - (c + 1)) 0 s h) ∙ sym (laws.putted_eq TVar over (c + 1) s d i e)
    here d i (inr (inl lt)) = laws.putted_lt TVar over c s d i lt ∙ sym (laws.putted_lt TVar over (c + 1) s d i lt)
    here d i (inr (inr gt)) = laws.putted_gt TVar over c s d i gt ∙ sym (laws.putted_gt TVar over (c + 1) s d i gt)

pub close_under : (c : ℕ) (ss : Tys) (t : Ty) → AllClosed ss → close c ss (TAll t) ≡ TAll (close (c + 1) ss t)
close_under c NoTys t h = refl
close_under c (MoreTys s ss) t h =
    ap (λ u. close c ss (TAll u)) (put_under c s t h.0) ∙ close_under c ss (put (c + 1) s t) h.1

pub close_under_some : (c : ℕ) (ss : Tys) (t : Ty) → AllClosed ss → close c ss (TSome t) ≡ TSome (close (c + 1) ss t)
close_under_some c NoTys t h = refl
close_under_some c (MoreTys s ss) t h =
    ap (λ u. close c ss (TSome u)) (put_under c s t h.0) ∙ close_under_some c ss (put (c + 1) s t) h.1

-- a context under one more type variable, which stands for r
pub close_raised : (r : Ty) (ss g : Tys) → close_all (MoreTys r ss) (raised g) ≡ close_all ss g
close_raised r ss NoTys = refl
close_raised r ss (MoreTys t g) =
    ap₂ MoreTys (ap (close 0 ss) (laws.put_shift_law types_part types_over 0 r t)) (close_raised r ss g)

-- a put, and then the closed types
pub close_put : (ss : Tys) (s t : Ty) → AllClosed ss → close 0 ss (put 0 s t) ≡ put 0 (close 0 ss s) (close 1 ss t)
close_put NoTys s t h = refl
close_put (MoreTys r ss) s t h =
    ap (close 0 ss)
    (put_put 0 0 s r t (omega arith) ∙ ap (λ (u : Ty). put 0 (put 0 r s) (put 1 u t)) (closed_shift 1 0 r h.0))
    ∙ close_put ss (put 0 r s) (put 1 r t) h.1

pub close_closed : (c : ℕ) (ss : Tys) (t : Ty) → Closed t → close c ss t ≡ t
close_closed c NoTys t h = refl
close_closed c (MoreTys s ss) t h = ap (close c ss) (closed_put c s t h) ∙ close_closed c ss t h

-- one more type variable, which stands for the closed type r
pub close_more : (r : Ty) (ss : Tys) (t : Ty) → Closed r → AllClosed ss →
    close 0 (MoreTys r ss) t ≡ put 0 r (close 1 ss t)
close_more r ss t h k = close_put ss r t k ∙ ap (λ u. put 0 u (close 1 ss t)) (close_closed 0 ss r h)

-- and a type from outside of it
pub close_outside : (r : Ty) (ss : Tys) (t : Ty) → close 0 (MoreTys r ss) (shift 1 0 t) ≡ close 0 ss t
close_outside r ss t = ap (close 0 ss) (laws.put_shift_law types_part types_over 0 r t)

-- a type with a closed type for each of its variables is closed
closed_below : (n : ℕ) (t : Ty) → Closed t → Below n t
closed_below n t h =
    subst (Below n) (closed_shift n 0 t h)
    (subst (λ m. Below m (shift n 0 t)) (zero-add n)
    (laws.below_shift types_part types_each types_over types_each.has n 0 0 t h))

pub close_is_closed : (ss : Tys) (t : Ty) → AllClosed ss → Below (count ss) t → Closed (close 0 ss t)
close_is_closed NoTys t h k = k
close_is_closed (MoreTys s ss) t h k =
    close_is_closed ss (put 0 s t) h.1 (put_bound (count ss) s t (closed_below (count ss) s h.0) k)
