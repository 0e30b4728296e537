-- Data that stand for the same tuples of constants are the same, but for the numbers that are named in them.
use Rattle.std.proofs.Common.{◌≡◌, ℕ, zero, suc, List, [], ◌∷◌, Some, refl, sym, ap, ap₂, ◌∙◌, subst, arith}
use Rattle.std.specs.Prelude.{ℤ, true, slice_get}
use Rattle.c_terms.specs.C.{CTy, CTys}
use Rattle.h_terms.specs.H.{HVal, HVar, HInt, HLabel, HTuple, HApply, HPack, HVals, NoHVals, MoreHVals}
use Rattle.a_terms.specs.Tree.{ABlk, AConsts, AProg, ATuple, AVal, Var, Num, Lab, Data, Apply, Pack}
use Rattle.a_terms.specs.Tree.{MoreAFields}
use Rattle.a_terms.specs.Typing as typing
use Rattle.a_terms.specs.Typing.{code_type, data_fields, data_type, type_of}
use Rattle.a_laws.specs.Allocate.{atype, atypes}
use Rattle.a_laws.specs.OneAllocation.{plain_blocks, plain_data, plain_fields, unnumbered}
use Rattle.a_laws.specs.Stands.{AllHaveKinds, HasKinds, Carries, Carries_fields, Carries_v}
use Rattle.a_laws.proofs.Cells.{none_some}
use Rattle.a_laws.proofs.Inside.{applied, content, first_value, hidden, inside, integer, label, more_values, no_values}
use Rattle.a_laws.proofs.Inside.{shape, types}
use Rattle.a_laws.proofs.Shown.{other, carries_at}

-- which data a number names has its types
kinds_at : (p : AProg) (xs : List AConsts) (n : ℕ) (x : AConsts) → AllHaveKinds p xs → slice_get xs n ≡ Some x →
    HasKinds p x
kinds_at p [] n x k e = absurd (none_some x e)
kinds_at p (y ∷ xs) zero x k e = subst (HasKinds p) (same e) k.0
  where
    same : Some y ≡ Some x → y ≡ x
    same q = cc
kinds_at p (y ∷ xs) (suc n) x k e = kinds_at p xs n x k.1 e

-- the type of code is told by its block's head
code_plain : (bs : List ABlk) (l : ℕ) → code_type (slice_get bs l) ≡ code_type (slice_get (plain_blocks bs) l)
code_plain [] l = refl
code_plain (b ∷ bs) zero = refl
code_plain (b ∷ bs) (suc l) = code_plain bs l

-- values of data by what they are
module _ (p : AProg) (ds : List HVal) (carried : Carries ds p.tuples ds) where
  no_data : (n : ℕ) (w : HVal) → ((vs : HVals) → w ≡ HTuple vs → ⊥) → slice_get ds n ≡ Some w → ⊥
  no_data n w f e = let x = carries_at ds p.tuples ds n w carried e in f x.1 x.3

  is_number : (v : AVal) (i : ℤ) → Carries_v ds v (HInt i) → v ≡ Num i
  is_number (Var n) i s = absurd s
  is_number (Num n) i s = ap Num (sym (integer s))
  is_number (Lab l) i s = absurd (other _ _ s (λ e. omega (arith, e)))
  is_number (Data n) i s = absurd (no_data n (HInt i) (λ vs q. other _ _ q (λ e. omega (arith, e))) s)
  is_number (Apply v ts) i s = absurd (other _ _ s.2 (λ e. omega (arith, e)))
  is_number (Pack h v b) i s = absurd (other _ _ s.3 (λ e. omega (arith, e)))

  is_label : (v : AVal) (l : ℕ) → Carries_v ds v (HLabel l) → v ≡ Lab l
  is_label (Var n) l s = absurd s
  is_label (Num n) l s = absurd (other _ _ s (λ e. omega (arith, e)))
  is_label (Lab m) l s = ap Lab (sym (label s))
  is_label (Data n) l s = absurd (no_data n (HLabel l) (λ vs q. other _ _ q (λ e. omega (arith, e))) s)
  is_label (Apply v ts) l s = absurd (other _ _ s.2 (λ e. omega (arith, e)))
  is_label (Pack h v b) l s = absurd (other _ _ s.3 (λ e. omega (arith, e)))

  is_data : (v : AVal) (vs : HVals) → Carries_v ds v (HTuple vs) → (n : ℕ) × (v ≡ Data n)
      × (slice_get ds n ≡ Some (HTuple vs))
  is_data (Var n) vs s = absurd s
  is_data (Num n) vs s = absurd (other _ _ s (λ e. omega (arith, e)))
  is_data (Lab l) vs s = absurd (other _ _ s (λ e. omega (arith, e)))
  is_data (Data n) vs s = (n, refl, s)
  is_data (Apply v ts) vs s = absurd (other _ _ s.2 (λ e. omega (arith, e)))
  is_data (Pack h v b) vs s = absurd (other _ _ s.3 (λ e. omega (arith, e)))

  is_applied : (v : AVal) (w : HVal) (us : CTys) → Carries_v ds v (HApply w us) → (x : AVal)
      × (v ≡ Apply x (atypes us)) × Carries_v ds x w
  is_applied (Var n) w us s = absurd s
  is_applied (Num n) w us s = absurd (other _ _ s (λ e. omega (arith, e)))
  is_applied (Lab l) w us s = absurd (other _ _ s (λ e. omega (arith, e)))
  is_applied (Data n) w us s = absurd (no_data n (HApply w us) (λ vs q. other _ _ q (λ e. omega (arith, e))) s)
  is_applied (Apply v ts) w us s =
      (v, ap (Apply v) (sym s.3 ∙ ap atypes (sym (types s.2))), subst (Carries_v ds v) (sym (applied s.2)) s.4)
  is_applied (Pack h v b) w us s = absurd (other _ _ s.3 (λ e. omega (arith, e)))

  is_packed : (v : AVal) (a : CTy) (w : HVal) (b : CTy) → Carries_v ds v (HPack a w b) → (x : AVal)
      × (v ≡ Pack (atype a) x (atype b)) × Carries_v ds x w
  is_packed (Var n) a w b s = absurd s
  is_packed (Num n) a w b s = absurd (other _ _ s (λ e. omega (arith, e)))
  is_packed (Lab l) a w b s = absurd (other _ _ s (λ e. omega (arith, e)))
  is_packed (Data n) a w b s = absurd (no_data n (HPack a w b) (λ vs q. other _ _ q (λ e. omega (arith, e))) s)
  is_packed (Apply v ts) a w b s = absurd (other _ _ s.2 (λ e. omega (arith, e)))
  is_packed (Pack h v c) a w b s = (
    v,
    ap₂ (λ x y. Pack x v y) (sym s.4 ∙ ap atype (sym (hidden s.3))) (sym s.5 ∙ ap atype (sym (shape s.3))),
    subst (Carries_v ds v) (sym (content s.3)) s.6,
  )

  no_variable : (v : AVal) (i : ℕ) → Carries_v ds v (HVar i) → ⊥
  no_variable (Var n) i s = s
  no_variable (Num n) i s = other _ _ s (λ e. omega (arith, e))
  no_variable (Lab l) i s = other _ _ s (λ e. omega (arith, e))
  no_variable (Data n) i s = no_data n (HVar i) (λ vs q. other _ _ q (λ e. omega (arith, e))) s
  no_variable (Apply v ts) i s = other _ _ s.2 (λ e. omega (arith, e))
  no_variable (Pack h v b) i s = other _ _ s.3 (λ e. omega (arith, e))

module _ (p q : AProg) (ds : List HVal) (blocks : plain_blocks p.blocks ≡ plain_blocks q.blocks)
    (carried_p : Carries ds p.tuples ds) (carried_q : Carries ds q.tuples ds) (kinds_p : AllHaveKinds p p.tuples)
    (kinds_q : AllHaveKinds q q.tuples) where
  -- the same but for numbers, and of one type
  abbrev Alike : AVal → AVal → Type 0
  Alike v u = (unnumbered v ≡ unnumbered u) × (type_of p [] v ≡ type_of q [] u)

  alike : (v u x y : AVal) → v ≡ x → u ≡ y → Alike x y → Alike v u
  alike v u x y e f a = (
    ap unnumbered e ∙ a.0 ∙ sym (ap unnumbered f),
    ap (type_of p []) e ∙ a.1 ∙ sym (ap (type_of q []) f),
  )

  code_alike : (l : ℕ) → code_type (slice_get p.blocks l) ≡ code_type (slice_get q.blocks l)
  code_alike l = code_plain p.blocks l ∙ ap (λ bs. code_type (slice_get bs l)) blocks ∙ sym (code_plain q.blocks l)

  mutual
    one_value : (w : HVal) (v u : AVal) → Carries_v ds v w → Carries_v ds u w → Alike v u
    one_value (HVar i) v u s r = absurd (no_variable p ds carried_p v i s)
    one_value (HInt i) v u s r =
        alike v u (Num i) (Num i) (is_number p ds carried_p v i s) (is_number q ds carried_q u i r) (refl, refl)
    one_value (HLabel l) v u s r =
        alike v u (Lab l) (Lab l) (is_label p ds carried_p v l s) (is_label q ds carried_q u l r) (refl, code_alike l)
    one_value (HTuple vs) v u s r =
        let a = is_data p ds carried_p v vs s in
        let b = is_data q ds carried_q u vs r in
        let x = carries_at ds p.tuples ds a.0 (HTuple vs) carried_p a.2 in
        let y = carries_at ds q.tuples ds b.0 (HTuple vs) carried_q b.2 in
        let fields = one_tuple vs x.0 y.0 (subst (Carries_fields ds x.0) (sym (inside x.3)) x.4)
        (subst (Carries_fields ds y.0) (sym (inside y.3)) y.4) (kinds_at p p.tuples a.0 x.0 kinds_p x.2)
        (kinds_at q q.tuples b.0 y.0 kinds_q y.2) in
        alike v u (Data a.0) (Data b.0) a.1 b.1 (
          refl,
          ap data_type x.2 ∙ ap (λ fs. Some (ATuple fs)) fields.1 ∙ sym (ap data_type y.2),
        )
    one_value (HApply w us) v u s r =
        let a = is_applied p ds carried_p v w us s in
        let b = is_applied q ds carried_q u w us r in
        let x = one_value w a.0 b.0 a.2 b.2 in
        alike v u (Apply a.0 (atypes us)) (Apply b.0 (atypes us)) a.1 b.1
        (ap (λ z. Apply z (atypes us)) x.0, ap (λ o. typing.applied o (atypes us)) x.1)
    one_value (HPack h w c) v u s r =
        let a = is_packed p ds carried_p v h w c s in
        let b = is_packed q ds carried_q u h w c r in
        let x = one_value w a.0 b.0 a.2 b.2 in
        alike v u (Pack (atype h) a.0 (atype c)) (Pack (atype h) b.0 (atype c)) a.1 b.1
        (ap (λ z. Pack (atype h) z (atype c)) x.0, refl)

    one_tuple : (vs : HVals) (x y : AConsts) → Carries_fields ds x vs → Carries_fields ds y vs → HasKinds p x →
        HasKinds q y → (plain_fields x ≡ plain_fields y) × (data_fields x ≡ data_fields y)
    one_tuple NoHVals [] [] s r k m = (refl, refl)
    one_tuple NoHVals [] (d ∷ y) s r k m = absurd (no_values r.2)
    one_tuple NoHVals (c ∷ x) y s r k m = absurd (no_values s.2)
    one_tuple (MoreHVals v vs) [] y s r k m = absurd (no_values (sym s))
    one_tuple (MoreHVals v vs) (c ∷ x) [] s r k m = absurd (no_values (sym r))
    one_tuple (MoreHVals v vs) (c ∷ x) (d ∷ y) s r k m =
        let first = one_value v c.value d.value (subst (Carries_v ds c.value) (sym (first_value s.2)) s.3)
        (subst (Carries_v ds d.value) (sym (first_value r.2)) r.3) in
        let more = one_tuple vs x y (subst (Carries_fields ds x) (sym (more_values s.2)) s.4)
        (subst (Carries_fields ds y) (sym (more_values r.2)) r.4) k.1 m.1 in
        let kind = same c.kind d.kind (sym k.0 ∙ first.1 ∙ m.0) in (
          ap₂ (λ z zs. z ∷ zs) (ap₂ (λ z t. record { value = z; kind = t }) first.0 kind) more.0,
          ap₂ (λ t fs. MoreAFields t true fs) kind more.1,
        )
      where
        same : {T : Type 0} (t s : T) → Some t ≡ Some s → t ≡ s
        same t s e = cc

  all_alike : (us : List HVal) (xs ys : List AConsts) → Carries ds xs us → Carries ds ys us → AllHaveKinds p xs →
      AllHaveKinds q ys → plain_data xs ≡ plain_data ys
  all_alike us [] [] s r k m = refl
  all_alike us [] (y ∷ ys) s r k m = absurd (none_more (sym s ∙ r.2))
    where
      none_more : {v : HVal} {vs : List HVal} → [] ≡ v ∷ vs → ⊥
      none_more e = cc
  all_alike us (x ∷ xs) [] s r k m = absurd (none_more (sym r ∙ s.2))
    where
      none_more : {v : HVal} {vs : List HVal} → [] ≡ v ∷ vs → ⊥
      none_more e = cc
  all_alike us (x ∷ xs) (y ∷ ys) s r k m =
      let e = sym s.2 ∙ r.2 in
      let first = one_tuple s.0 x y s.3 (subst (Carries_fields ds y) (sym (inside (head e))) r.3) k.0 m.0 in
      ap₂ (λ z zs. z ∷ zs) first.0
      (all_alike s.1 xs ys s.4 (subst (Carries ds ys) (sym (tail e)) r.4) k.1 m.1)
    where
      head : {v w : HVal} {vs ws : List HVal} → v ∷ vs ≡ w ∷ ws → v ≡ w
      head q = cc

      tail : {v w : HVal} {vs ws : List HVal} → v ∷ vs ≡ w ∷ ws → vs ≡ ws
      tail q = cc

  pub one_data : plain_data p.tuples ≡ plain_data q.tuples
  one_data = all_alike ds p.tuples q.tuples carried_p carried_q kinds_p kinds_q
