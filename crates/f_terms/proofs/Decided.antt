-- A closed term passes every check, or one of its checks is the first that fails.
use Rattle.std.proofs.Common.{◌≡◌, ◌<◌, ◌≤◌, ◌⊎◌, inl, inr, ℕ, zero, suc, ◌+◌, nat_le, Bool, true, false, Option, Some}
use Rattle.std.proofs.Common.{None, refl, sym, ap, ◌∙◌, subst, arith}
use Rattle.std.proofs.lemmas.Bool.{cases_eq, leb-true, leb-false}
use Rattle.idx_core.specs.Over.{shifted}
use Rattle.f_terms.specs.Ty.{Ty, TInt, TVar, TArrow, TAll, TTuple, TSome, TRef, Tys, NoTys, MoreTys, over, shift, put}
use Rattle.f_terms.specs.Ty.{size}
use Rattle.f_terms.specs.Ty.{depth}
use Rattle.f_terms.specs.Tm.{Spn, Tm, SVar, SNum, SFix, SApp, SGen, SInst, STuple, SProj, SArith, SIf0, SLet, SPack}
use Rattle.f_terms.specs.Tm.{SOpen, SRef, SDeref, SAssign, Tms, NoTms, MoreTms, plain, plain_all}
use Rattle.f_terms.specs.TyLaws.{type_is_below, unshift}
use Rattle.f_terms.specs.Scope.{InScope, AllInScope}
use Rattle.f_terms.specs.Limits.{Within}
use Rattle.f_terms.specs.Typing.{ty_at, field_ty, raised, in_fix, in_open}
use Rattle.text_core.specs.Refusals.{Refusal}
use Rattle.text_core.proofs.Refusals.{Settles, holds, comes, refused, settle_check, settle_part, settle_map}
use Rattle.f_terms.specs.Faults.{Passes, PassAll, Note, limits, if_arrow, if_all, if_tuple, if_some, if_ref, if_none}
use Rattle.f_terms.specs.Faults.{IsOutside, fitting, FaultNoted, FaultAllNoted, Fault}
use Rattle.f_terms.specs.Laws.{PassOrFault}
use Rattle.f_terms.specs.declared.fault.Code.{Code}

-- a fact that holds or not, and another that holds exactly then
abbrev Either : Type 0 → Type 0
Either P = P ⊎ (P → ⊥)

same_as : {P Q : Type 0} → (P → Q) → (Q → P) → Either P → Either Q
same_as f g (inl p) = inl (f p)
same_as f g (inr n) = inr (λ q. n (g q))

both : {P Q : Type 0} → Either P → Either Q → Either (P × Q)
both (inl p) (inl q) = inl (p, q)
both (inl p) (inr n) = inr (λ x. n x.1)
both (inr n) d = inr (λ x. n x.0)

-- two types are equal or not
mutual
  same_ty : (a b : Ty) → Either (a ≡ b)
  same_ty TInt TInt = inl refl
  same_ty (TVar i) (TVar j) = same_as {P = i ≡ j} (λ e. cc) (λ e. cc) (cases_eq i j)
  same_ty (TArrow a b) (TArrow c d) =
      same_as {P = (a ≡ c) × (b ≡ d)} (λ e. let p = e.0 in let q = e.1 in cc) (λ e. (cc, cc))
      (both (same_ty a c) (same_ty b d))
  same_ty (TAll a) (TAll b) = same_as {P = a ≡ b} (λ e. cc) (λ e. cc) (same_ty a b)
  same_ty (TTuple ts) (TTuple us) = same_as {P = ts ≡ us} (λ e. cc) (λ e. cc) (same_tys ts us)
  same_ty (TSome a) (TSome b) = same_as {P = a ≡ b} (λ e. cc) (λ e. cc) (same_ty a b)
  same_ty (TRef a) (TRef b) = same_as {P = a ≡ b} (λ e. cc) (λ e. cc) (same_ty a b)
  same_ty _ _ = inr (λ e. cc)

  same_tys : (a b : Tys) → Either (a ≡ b)
  same_tys NoTys NoTys = inl refl
  same_tys (MoreTys t ts) (MoreTys u us) =
      same_as {P = (t ≡ u) × (ts ≡ us)} (λ e. let p = e.0 in let q = e.1 in cc) (λ e. (cc, cc))
      (both (same_ty t u) (same_tys ts us))
  same_tys _ _ = inr (λ e. cc)

-- a type is one of outside, or not
is_outside : (n : ℕ) (v : Ty) → Either ((w : Ty) × IsOutside n v w)
is_outside n v =
    let w = put 0 TInt v in
    same_as {P = IsOutside n v w} (λ q. (w, q))
    (λ x. subst (λ y. IsOutside n v y) (sym (ap (put 0 TInt) x.1.0 ∙ unshift x.0)) x.1)
    (both (same_ty v (shift 1 0 w)) (same_as (type_is_below n w).1 (type_is_below n w).0 (same_ty (shift 1 n w) w)))

at_most : (a b : ℕ) → Either (a ≤ b)
at_most a b = by_test (nat_le a b) refl
  where
    by_test : (x : Bool) → nat_le a b ≡ x → Either (a ≤ b)
    by_test true e = inl (leb-true a b e)
    by_test false e = inr (λ h. let l = leb-false a b e in omega arith)

-- each check in turn: what passes, or the refusal
module _ {G : Type 0} where
  settle_limits : (t : Ty) (s : Spn) {r : Refusal Note Spn} → (Within t → Settles G r) → Settles G (limits t s r)
  settle_limits t s go =
      settle_check (at_most (depth t) 200) refused
      (λ d. settle_check (at_most (size t) 10000) refused (λ w. go (d, w)))

  settle_fitting : (n : ℕ) (w t : Ty) (s : Spn) → Settles G (fitting n w t s)
  settle_fitting n w t s = settle_check (both (at_most (depth w) 200) (at_most (size w) 10000)) refused (λ k. refused)

  settle_arrow : (t : Ty) {other : Refusal Note Spn} {go : Ty → Ty → Refusal Note Spn} → Settles G other →
      ((a b : Ty) → t ≡ TArrow a b → Settles G (go a b)) → Settles G (if_arrow t other go)
  settle_arrow (TArrow a b) x go = go a b refl
  settle_arrow _ x go = x

  settle_all : (t : Ty) {other : Refusal Note Spn} {go : Ty → Refusal Note Spn} → Settles G other →
      ((b : Ty) → t ≡ TAll b → Settles G (go b)) → Settles G (if_all t other go)
  settle_all (TAll b) x go = go b refl
  settle_all _ x go = x

  settle_tuple : (t : Ty) {other : Refusal Note Spn} {go : Tys → Refusal Note Spn} → Settles G other →
      ((ts : Tys) → t ≡ TTuple ts → Settles G (go ts)) → Settles G (if_tuple t other go)
  settle_tuple (TTuple ts) x go = go ts refl
  settle_tuple _ x go = x

  settle_some : (t : Ty) {other : Refusal Note Spn} {go : Ty → Refusal Note Spn} → Settles G other →
      ((b : Ty) → t ≡ TSome b → Settles G (go b)) → Settles G (if_some t other go)
  settle_some (TSome b) x go = go b refl
  settle_some _ x go = x

  settle_ref : (t : Ty) {other : Refusal Note Spn} {go : Ty → Refusal Note Spn} → Settles G other →
      ((b : Ty) → t ≡ TRef b → Settles G (go b)) → Settles G (if_ref t other go)
  settle_ref (TRef b) x go = go b refl
  settle_ref _ x go = x

  settle_field : (o : Option Ty) {fault : Refusal Note Spn} → Settles G fault → ((t : Ty) → o ≡ Some t → G) →
      Settles G (if_none o fault)
  settle_field None x go = x
  settle_field (Some t) x go = holds (go t refl)

-- each of the first m value variables has a type
abbrev Covers : Tys → ℕ → Type 0
Covers g m = (i : ℕ) → i < m → (t : Ty) × (ty_at g i ≡ Some t)

covers_fix : (arg res : Ty) (g : Tys) (m : ℕ) → Covers g m → Covers (in_fix arg res g) (m + 2)
covers_fix arg res g m h zero l = (arg, refl)
covers_fix arg res g m h (suc zero) l = (TArrow arg res, refl)
covers_fix arg res g m h (suc (suc i)) l = h i (omega (arith, l))

covers_more : (t : Ty) (g : Tys) (m : ℕ) → Covers g m → Covers (MoreTys t g) (m + 1)
covers_more t g m h zero l = (t, refl)
covers_more t g m h (suc i) l = h i (omega (arith, l))

raised_at : (g : Tys) (i : ℕ) (t : Ty) → ty_at g i ≡ Some t → ty_at (raised g) i ≡ Some (over (shifted TVar 1) 0 t)
raised_at NoTys i t e = absurd (cc)
raised_at (MoreTys u g) zero t e =
    let same : u ≡ t = cc in
    subst (λ x. ty_at (raised (MoreTys u g)) zero ≡ Some (over (shifted TVar 1) 0 x)) same refl
raised_at (MoreTys u g) (suc i) t e = raised_at g i t e

covers_raised : (g : Tys) (m : ℕ) → Covers g m → Covers (raised g) m
covers_raised g m h i l = let x = h i l in (over (shifted TVar 1) 0 x.0, raised_at g i x.0 x.1)

abbrev Outcome : Tm → ℕ → Tys → Type 0
Outcome e n g = Settles ((t : Ty) × Passes e n g t) (FaultNoted e n g)

abbrev Outcomes : Tms → ℕ → Tys → Type 0
Outcomes es n g = Settles ((ts : Tys) × PassAll es n g ts) (FaultAllNoted es n g)

mutual
  outcome : (e : Tm) (n m : ℕ) (g : Tys) → Covers g m → InScope (plain e) n m → Outcome e n g
  outcome (SVar s i) n m g c h = holds (c i h)
  outcome (SNum s i) n m g c h = holds (TInt, refl)
  outcome (SFix s arg res e) n m g c h =
      settle_limits (TArrow arg res) s
      (λ w. settle_part (outcome e n (m + 2) (in_fix arg res g) (covers_fix arg res g m c) h.2) (λ t p.
      settle_check (same_ty t res) refused
      (λ q. holds (TArrow arg res, (refl, h.0, h.1, w, subst (λ u. Passes e n (in_fix arg res g) u) q p)))))
  outcome (SApp s f x) n m g c h =
      settle_part (outcome f n m g c h.0) (λ t p. settle_arrow t refused (λ a b q.
      settle_part (outcome x n m g c h.1) (λ u r. settle_check (same_ty u a) refused (λ e.
      holds (b, (a, subst (λ y. Passes f n g y) q p, subst (λ y. Passes x n g y) e r))))))
  outcome (SGen s e) n m g c h =
      settle_part (outcome e (n + 1) m (raised g) (covers_raised g m c) h)
      (λ t p. settle_limits (TAll t) s (λ w. holds (TAll t, (t, refl, p, w))))
  outcome (SInst s e a) n m g c h =
      settle_part (outcome e n m g c h.0) (λ t p. settle_all t refused (λ b q.
      settle_limits a s
      (λ w. settle_limits (put 0 a b) s
      (λ v. holds (put 0 a b, (b, refl, h.1, subst (λ y. Passes e n g y) q p, w, v))))))
  outcome (STuple s es) n m g c h =
      settle_part (outcomes es n m g c h)
      (λ ts p. settle_limits (TTuple ts) s (λ w. holds (TTuple ts, (ts, refl, p, w))))
  outcome (SProj s i e) n m g c h =
      settle_part (outcome e n m g c h) (λ t p. settle_tuple t refused (λ ts q.
      settle_field (field_ty ts i) refused (λ u r. (u, (ts, r, subst (λ y. Passes e n g y) q p)))))
  outcome (SArith s op a b) n m g c h =
      settle_part (outcome a n m g c h.0) (λ t p. settle_check (same_ty t TInt) refused (λ q.
      settle_part (outcome b n m g c h.1) (λ u r. settle_check (same_ty u TInt) refused (λ e.
      holds (TInt, (refl, subst (λ y. Passes a n g y) q p, subst (λ y. Passes b n g y) e r))))))
  outcome (SIf0 s z a b) n m g c h =
      settle_part (outcome z n m g c h.0) (λ t p. settle_check (same_ty t TInt) refused (λ q.
      settle_part (outcome a n m g c h.1)
      (λ u r. settle_part (outcome b n m g c h.2) (λ v k. settle_check (same_ty v u) refused (λ e.
      holds (u, (subst (λ y. Passes z n g y) q p, r, subst (λ y. Passes b n g y) e k)))))))
  outcome (SLet s a b) n m g c h =
      settle_part (outcome a n m g c h.0) (λ t p. settle_map (λ x. (x.0, (t, p, x.1)))
      (outcome b n (m + 1) (MoreTys t g) (covers_more t g m c) h.1))
  outcome (SPack s x e r) n m g c h =
      settle_some r refused (λ u q. settle_limits x s (λ w. settle_limits r s (λ v.
      settle_part (outcome e n m g c h.2) (λ t p.
      settle_check (same_ty t (put 0 x u)) (settle_fitting _ _ _ _)
      (λ d. holds (r, (u, q, refl, h.0, h.1, subst (λ y. Passes e n g y) d p, w, v)))))))
  outcome (SOpen s a b) n m g c h =
      settle_part (outcome a n m g c h.0) (λ t p. settle_some t refused (λ u q.
      settle_part (outcome b (n + 1) (m + 1) (in_open u g) (covers_more u (raised g) m (covers_raised g m c)) h.1)
      (λ v r. settle_check (is_outside n v) refused (λ o.
      holds (o.0, (u, o.1.1, subst (λ y. Passes a n g y) q p, subst (Passes b (n + 1) (in_open u g)) o.1.0 r))))))
  outcome (SRef s e) n m g c h =
      settle_part (outcome e n m g c h) (λ t p. settle_limits (TRef t) s (λ w. holds (TRef t, (t, refl, p, w))))
  outcome (SDeref s e) n m g c h =
      settle_part (outcome e n m g c h)
      (λ t p. settle_ref t refused (λ u q. holds (u, subst (λ y. Passes e n g y) q p)))
  outcome (SAssign s a b) n m g c h =
      settle_part (outcome a n m g c h.0) (λ t p. settle_ref t refused (λ u q.
      settle_part (outcome b n m g c h.1) (λ v r. settle_check (same_ty v u) refused (λ e.
      holds (TTuple NoTys, (u, refl, subst (λ y. Passes a n g y) q p, subst (λ y. Passes b n g y) e r))))))

  outcomes : (es : Tms) (n m : ℕ) (g : Tys) → Covers g m → AllInScope (plain_all es) n m → Outcomes es n g
  outcomes NoTms n m g c h = holds (NoTys, refl)
  outcomes (MoreTms e es) n m g c h =
      settle_part (outcome e n m g c h.0)
      (λ t p. settle_map (λ x. (MoreTys t x.0, (t, x.0, refl, p, x.1))) (outcomes es n m g c h.1))

pub pass_or_fault : PassOrFault
pass_or_fault e h = by_case (outcome e 0 0 NoTys (λ i l. absurd (omega (arith, l))) h)
  where
    by_case : Outcome e 0 NoTys → ((t : Ty) × Passes e 0 NoTys t) ⊎ ((c : Code) × (p : Spn) × Fault e 0 NoTys c p)
    by_case (holds x) = inl x
    by_case (comes (c, m) p k) = inr (c, p, (m, k))
