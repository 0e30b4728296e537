-- Words of types: what the calculi with codes share of never being stuck.
use Rattle.std.proofs.Common.{◌≡◌, ℤ, ℕ, zero, suc, Bool, true, false, List, [], ◌∷◌, ◌++◌, Option, Some, None, refl}
use Rattle.std.proofs.Common.{sym, ap, ◌∙◌, subst, subst₂}
use Rattle.idx_core.specs.declared.arith.Op.{Op}
use Rattle.idx_core.specs.Arith.{is_zero}
use Rattle.calc_core.specs.Ends.{Result, lift, pick}
use Rattle.calc_core.specs.Scope.{IsField, IsTypeOf, args_onto}
use Rattle.calc_core.specs.Substitution.{renamed, scope_renamed, with_type, under_binders, substituted as sub}
use Rattle.calc_core.specs.Substitution.{all_substituted as subs}
use Rattle.calc_core.specs.Types.{Ty, IntTy, VarTy, TupleTy, CodeTy, ExistsTy, RefTy, Tys, NoTys, MoreTys, count}
use Rattle.calc_core.specs.Words.{Word, WInt, WTuple, WCode, WCell, Words, NoWords, MoreWords, at, size, onto, field}
use Rattle.calc_core.specs.Words.{project, operate, held, hold, one_more, Made, Makes, Fails, given, get, set}
use Rattle.calc_core.specs.Words.{with_value, at_zero, halt_with}
use Rattle.calc_core.proofs.Ends.{Fine}
use Rattle.calc_core.proofs.Opening.{Opens, opens_plain, opens_some}
use Rattle.calc_core.proofs.Substituting.{names_up, scons_sub, sub_ren, sub_sub}

-- more cells
abbrev pub More : List Ty → List Ty → Type 0
More S Z = (i : ℕ) (t : Ty) → IsTypeOf S i t → IsTypeOf Z i t

pub at_front : (S : List Ty) (t : Ty) → More S (S ++ t ∷ [])
at_front [] t i u a = absurd a
at_front (x ∷ S) t zero u a = a
at_front (x ∷ S) t (suc i) u a = at_front S t i u a

-- a code takes so many types and values of these types, among values of the types g, where s stands for their free type
-- variables
abbrev pub CodeIs : Type 0 → Type 1
CodeIs C = C → (owes : ℕ) → (args : Tys) → (s : ℕ → Ty) → (g : List Ty) → Type 0

-- a type put for the variable of a package's type
opened : (h t : Ty) (s : ℕ → Ty) → sub (with_type h VarTy) (sub (under_binders 1 s) t) ≡ sub (with_type h s) t
opened h t s = sub_sub t (with_type h VarTy) (under_binders 1 s) (with_type h s) (names_up (MoreTys h NoTys) s)

module _ {C : Type 0} (Is : CodeIs C) where
  -- values of closed types, where cells hold values of the types S
  abbrev mutual
    pub Has : List Ty → Word C → Ty → Type 0
    Has S (WInt n) t = Opens t IntTy
    Has S (WTuple vs) t = (ts : Tys) × Opens t (TupleTy ts) × Have S vs ts
    Has S (WCode c env) t = (owes : ℕ) × (args : Tys) × (s : ℕ → Ty) × (g : List Ty) × Opens t (CodeTy owes args)
        × Is c owes args s g × EnvHas S env s g
    Has S (WCell p) t = (u : Ty) × Opens t (RefTy u) × IsTypeOf S p u

    pub Have : List Ty → Words C → Tys → Type 0
    Have S NoWords ts = ts ≡ NoTys
    Have S (MoreWords v vs) ts = (u : Ty) × (us : Tys) × (ts ≡ MoreTys u us) × Has S v u × Have S vs us

    -- values among which a code was made
    pub EnvHas : List Ty → Words C → (ℕ → Ty) → List Ty → Type 0
    EnvHas S NoWords s g = g ≡ []
    EnvHas S (MoreWords v env) s g = (u : Ty) × (h : List Ty) × (g ≡ u ∷ h) × Has S v (sub s u) × EnvHas S env s h

  -- a store whose cells hold values of the types g
  abbrev pub Stored : List Ty → Words C → List Ty → Type 0
  Stored S NoWords g = g ≡ []
  Stored S (MoreWords v st) g = (u : Ty) × (h : List Ty) × (g ≡ u ∷ h) × Has S v u × Stored S st h

  mutual
    pub has_more : (v : Word C) (S Z : List Ty) (t : Ty) → More S Z → Has S v t → Has Z v t
    has_more (WInt n) S Z t m h = h
    has_more (WTuple vs) S Z t m h = (h.0, h.1, have_more vs S Z h.0 m h.2)
    has_more (WCode c env) S Z t m h = (h.0, h.1, h.2, h.3, h.4, h.5, env_more env S Z h.2 h.3 m h.6)
    has_more (WCell p) S Z t m h = (h.0, h.1, m p h.0 h.2)

    have_more : (vs : Words C) (S Z : List Ty) (ts : Tys) → More S Z → Have S vs ts → Have Z vs ts
    have_more NoWords S Z ts m h = h
    have_more (MoreWords v vs) S Z ts m h = (h.0, h.1, h.2, has_more v S Z h.0 m h.3, have_more vs S Z h.1 m h.4)

    pub env_more : (env : Words C) (S Z : List Ty) (s : ℕ → Ty) (g : List Ty) → More S Z → EnvHas S env s g →
        EnvHas Z env s g
    env_more NoWords S Z s g m h = h
    env_more (MoreWords v env) S Z s g m h =
        (h.0, h.1, h.2, has_more v S Z (sub s h.0) m h.3, env_more env S Z s h.1 m h.4)

  pub stored_more : (st : Words C) (S Z : List Ty) (g : List Ty) → More S Z → Stored S st g → Stored Z st g
  stored_more NoWords S Z g m h = h
  stored_more (MoreWords v st) S Z g m h = (h.0, h.1, h.2, has_more v S Z h.0 m h.3, stored_more st S Z h.1 m h.4)

  -- packs are not seen
  packed : (v : Word C) (S : List Ty) (t h : Ty) → Has S v (sub (with_type h VarTy) t) → Has S v (ExistsTy t)
  packed (WInt n) S t h q = (suc q.0, (t, h, refl, q.1))
  packed (WTuple vs) S t h q = (q.0, (suc q.1.0, (t, h, refl, q.1.1)), q.2)
  packed (WCode c env) S t h q = (q.0, q.1, q.2, q.3, (suc q.4.0, (t, h, refl, q.4.1)), q.5, q.6)
  packed (WCell p) S t h q = (q.0, (suc q.1.0, (t, h, refl, q.1.1)), q.2)

  unpacked : (v : Word C) (S : List Ty) (t : Ty) → Has S v (ExistsTy t) → (h : Ty)
      × Has S v (sub (with_type h VarTy) t)
  unpacked (WInt n) S t q = opens_some t IntTy refl q
  unpacked (WTuple vs) S t q = let o = opens_some t (TupleTy q.0) refl q.1 in (o.0, (q.0, o.1, q.2))
  unpacked (WCode c env) S t q =
      let o = opens_some t (CodeTy q.0 q.1) refl q.4 in (o.0, (q.0, q.1, q.2, q.3, o.1, q.5, q.6))
  unpacked (WCell p) S t q = let o = opens_some t (RefTy q.0) refl q.1 in (o.0, (q.0, o.1, q.2))

  pub pack_sound : (v : Word C) (S : List Ty) (s : ℕ → Ty) (t h : Ty) → Has S v (sub s (sub (with_type h VarTy) t)) →
      Has S v (sub s (ExistsTy t))
  pack_sound v S s t h q =
      packed v S (sub (under_binders 1 s) t) (sub s h)
      (subst (Has S v)
      (sub_sub t s (with_type h VarTy) (with_type (sub s h) s) (scons_sub h s VarTy s (λ i. refl))
      ∙ sym (opened (sub s h) t s)) q)

  pub unpack_sound : (v : Word C) (S : List Ty) (s : ℕ → Ty) (t : Ty) → Has S v (sub s (ExistsTy t)) →
      (h : Ty) × Has S v (sub (with_type h s) t)
  unpack_sound v S s t q =
      let o = unpacked v S (sub (under_binders 1 s) t) q in (o.0, subst (Has S v) (opened o.0 t s) o.1)

  pub env_at : (env : Words C) (S : List Ty) (s : ℕ → Ty) (g : List Ty) (i : ℕ) (t : Ty) → EnvHas S env s g →
      IsTypeOf g i t → Has S (at env i) (sub s t)
  env_at NoWords S s g i t h a = absurd (subst (λ k. IsTypeOf k i t) h a)
  env_at (MoreWords v env) S s g zero t h a =
      subst (λ x. Has S v (sub s x)) (sym (subst (λ k. IsTypeOf k 0 t) h.2 a)) h.3
  env_at (MoreWords v env) S s g (suc i) t h a = env_at env S s h.1 i t h.4 (subst (λ k. IsTypeOf k (suc i) t) h.2 a)

  -- an integer's value, and a code's
  pub int_only : {P : Type 0} (v : Word C) (S : List Ty) → Has S v IntTy → ((n : ℤ) → v ≡ WInt n → P) → P
  int_only (WInt n) S h f = f n refl
  int_only (WTuple vs) S h f = let q = opens_plain IntTy (TupleTy h.0) refl h.1 in absurd cc
  int_only (WCode c env) S h f = let q = opens_plain IntTy (CodeTy h.0 h.1) refl h.4 in absurd cc
  int_only (WCell p) S h f = let q = opens_plain IntTy (RefTy h.0) refl h.1 in absurd cc

  pub code_only : {P : Type 0} (v : Word C) (S : List Ty) (owes : ℕ) (us : Tys) → Has S v (CodeTy owes us) →
      ((c : C) (env : Words C) (s : ℕ → Ty) (g : List Ty) → v ≡ WCode c env → Is c owes us s g → EnvHas S env s g →
      P) → P
  code_only (WInt n) S owes us h f = let q = opens_plain (CodeTy owes us) IntTy refl h in absurd cc
  code_only (WTuple vs) S owes us h f = let q = opens_plain (CodeTy owes us) (TupleTy h.0) refl h.1 in absurd cc
  code_only (WCode c env) S owes us h f =
      let q = opens_plain (CodeTy owes us) (CodeTy h.0 h.1) refl h.4 in
      let same : h.0 ≡ owes = cc in
      let same_args : h.1 ≡ us = cc in
      f c env h.2 h.3 refl (subst₂ (λ m ts. Is c m ts h.2 h.3) same same_args h.5) h.6
  code_only (WCell p) S owes us h f = let q = opens_plain (CodeTy owes us) (RefTy h.0) refl h.1 in absurd cc

  abbrev pub OptionHas : List Ty → Option (Word C) → Ty → Type 0
  OptionHas S None t = ⊥
  OptionHas S (Some v) t = Has S v t

  field_sound : (i : ℕ) (vs : Words C) (S : List Ty) (s : ℕ → Ty) (ts us : Tys) (t : Ty) → Have S vs us →
      us ≡ subs s ts → IsField i ts t → OptionHas S (field i vs) (sub s t)
  field_sound i vs S s NoTys us t h e a = absurd a
  field_sound zero vs S s (MoreTys u ts) us t h e a = absurd a
  field_sound (suc zero) NoWords S s (MoreTys u ts) us t h e a = absurd cc
  field_sound (suc zero) (MoreWords v vs) S s (MoreTys u ts) us t h e a =
      let q : h.0 ≡ sub s t = cc in subst (Has S v) q h.3
  field_sound (suc (suc i)) NoWords S s (MoreTys u ts) us t h e a = absurd cc
  field_sound (suc (suc i)) (MoreWords v vs) S s (MoreTys u ts) us t h e a =
      field_sound (suc i) vs S s ts h.1 t h.4 (cc) a

  pub project_sound : (i : ℕ) (v : Word C) (S : List Ty) (s : ℕ → Ty) (ts : Tys) (t : Ty) →
      Has S v (TupleTy (subs s ts)) → IsField i ts t → OptionHas S (project i v) (sub s t)
  project_sound i (WInt n) S s ts t h a = let q = opens_plain (TupleTy (subs s ts)) IntTy refl h in absurd cc
  project_sound i (WTuple vs) S s ts t h a =
      let q = opens_plain (TupleTy (subs s ts)) (TupleTy h.0) refl h.1 in field_sound i vs S s ts h.0 t h.2 (cc) a
  project_sound i (WCode c env) S s ts t h a =
      let q = opens_plain (TupleTy (subs s ts)) (CodeTy h.0 h.1) refl h.4 in absurd cc
  project_sound i (WCell p) S s ts t h a = let q = opens_plain (TupleTy (subs s ts)) (RefTy h.0) refl h.1 in absurd cc

  pub compute_sound : (op : Op) (v w : Word C) (S : List Ty) → Has S v IntTy → Has S w IntTy →
      OptionHas S (operate op v w) IntTy
  compute_sound op v w S h k =
      int_only {P = OptionHas S (operate op v w) IntTy} v S h
      (λ n e. int_only {P = OptionHas S (operate op v w) IntTy} w S k
      (λ m d. subst₂ (λ x y. OptionHas S (operate op x y) IntTy) (sym e) (sym d) (0, refl)))

  -- a declared value and the store then
  abbrev pub MadeHas : List Ty → Made C → Ty → Type 0
  MadeHas S Fails t = ⊥
  MadeHas S (Makes v st) t = (Z : List Ty) × More S Z × Has Z v t × Stored Z st Z

  pub given_has : (o : Option (Word C)) (st : Words C) (S : List Ty) (t : Ty) → OptionHas S o t → Stored S st S →
      MadeHas S (given o st) t
  given_has None st S t h k = absurd h
  given_has (Some v) st S t h k = (S, (λ i u a. a), h, k)

  held_has : (st : Words C) (S g : List Ty) (p : ℕ) (t : Ty) → Stored S st g → IsTypeOf g p t →
      OptionHas S (held p st) t
  held_has NoWords S g p t h a = absurd (subst (λ k. IsTypeOf k p t) h a)
  held_has (MoreWords v st) S g zero t h a = subst (Has S v) (sym (subst (λ k. IsTypeOf k 0 t) h.2 a)) h.3
  held_has (MoreWords v st) S g (suc p) t h a = held_has st S h.1 p t h.4 (subst (λ k. IsTypeOf k (suc p) t) h.2 a)

  hold_has : (st : Words C) (S g : List Ty) (p : ℕ) (w : Word C) (t : Ty) → Stored S st g → IsTypeOf g p t →
      Has S w t → Stored S (hold p w st) g
  hold_has NoWords S g p w t h a q = h
  hold_has (MoreWords v st) S g zero w t h a q =
      (h.0, h.1, h.2, subst (Has S w) (subst (λ k. IsTypeOf k 0 t) h.2 a) q, h.4)
  hold_has (MoreWords v st) S g (suc p) w t h a q =
      (h.0, h.1, h.2, h.3, hold_has st S h.1 p w t h.4 (subst (λ k. IsTypeOf k (suc p) t) h.2 a) q)

  more_has : (st : Words C) (S g : List Ty) (w : Word C) (t : Ty) → Stored S st g → Has S w t →
      Stored S (one_more st w) (g ++ t ∷ []) × IsTypeOf (g ++ t ∷ []) (size st) t
  more_has NoWords S g w t h q =
      subst (λ k. Stored S (MoreWords w NoWords) (k ++ t ∷ []) × IsTypeOf (k ++ t ∷ []) 0 t) (sym h)
      ((t, [], refl, q, refl), refl)
  more_has (MoreWords v st) S g w t h q =
      let r = more_has st S h.1 w t h.4 q in
      subst (λ k. Stored S (MoreWords v (one_more st w)) (k ++ t ∷ []) × IsTypeOf (k ++ t ∷ []) (suc (size st)) t)
      (sym h.2) ((h.0, h.1 ++ t ∷ [], refl, h.3, r.0), r.1)

  -- a new cell
  pub cell_sound : (v : Word C) (st : Words C) (S : List Ty) (t : Ty) → Has S v t → Stored S st S →
      MadeHas S (Makes (WCell (size st)) (one_more st v)) (RefTy t)
  cell_sound v st S t h k =
      let Z = S ++ t ∷ [] in
      let a = at_front S t in
      let r = more_has st Z S v t (stored_more st S Z S a k) (has_more v S Z t a h) in
      (Z, a, (t, (0, refl), r.1), r.0)

  pub get_sound : (v : Word C) (st : Words C) (S : List Ty) (t : Ty) → Has S v (RefTy t) → Stored S st S →
      MadeHas S (get v st) t
  get_sound (WInt n) st S t h k = let q = opens_plain (RefTy t) IntTy refl h in absurd cc
  get_sound (WTuple vs) st S t h k = let q = opens_plain (RefTy t) (TupleTy h.0) refl h.1 in absurd cc
  get_sound (WCode c env) st S t h k = let q = opens_plain (RefTy t) (CodeTy h.0 h.1) refl h.4 in absurd cc
  get_sound (WCell p) st S t h k =
      let q = opens_plain (RefTy t) (RefTy h.0) refl h.1 in
      let e : h.0 ≡ t = cc in given_has (held p st) st S t (held_has st S S p t k (subst (IsTypeOf S p) e h.2)) k

  pub set_sound : (v w : Word C) (st : Words C) (S : List Ty) (t : Ty) → Has S v (RefTy t) → Has S w t →
      Stored S st S → MadeHas S (set v w st) (TupleTy NoTys)
  set_sound (WInt n) w st S t h q k = let c = opens_plain (RefTy t) IntTy refl h in absurd cc
  set_sound (WTuple vs) w st S t h q k = let c = opens_plain (RefTy t) (TupleTy h.0) refl h.1 in absurd cc
  set_sound (WCode c env) w st S t h q k = let d = opens_plain (RefTy t) (CodeTy h.0 h.1) refl h.4 in absurd cc
  set_sound (WCell p) w st S t h q k =
      let c = opens_plain (RefTy t) (RefTy h.0) refl h.1 in
      let e : h.0 ≡ t = cc in
      (S, (λ i u a. a), (NoTys, (0, refl), refl), hold_has st S S p w t k (subst (IsTypeOf S p) e h.2) q)

  -- the environment under more type variables
  pub outer_has : (env : Words C) (S : List Ty) (s r : ℕ → Ty) (m : ℕ) (g : List Ty) →
      ((i : ℕ) → s (lift m i) ≡ r i) → EnvHas S env r g → EnvHas S env s (scope_renamed (lift m) g)
  outer_has NoWords S s r m g f h = ap (scope_renamed (lift m)) h
  outer_has (MoreWords v env) S s r m g f h = (
    renamed (lift m) h.0,
    scope_renamed (lift m) h.1,
    ap (scope_renamed (lift m)) h.2,
    subst (Has S v) (sym (sub_ren h.0 s (lift m) r f)) h.3,
    outer_has env S s r m h.1 f h.4,
  )

  -- a code's arguments before what it was made among
  pub args_has : (vs env : Words C) (S : List Ty) (s : ℕ → Ty) (args ts : Tys) (g : List Ty) → Have S vs ts →
      ts ≡ subs s args → EnvHas S env s g → EnvHas S (onto vs env) s (args_onto args g)
  args_has NoWords env S s NoTys ts g h e k = k
  args_has NoWords env S s (MoreTys u args) ts g h e k = absurd cc
  args_has (MoreWords v vs) env S s NoTys ts g h e k = let q = h.2 in absurd cc
  args_has (MoreWords v vs) env S s (MoreTys u args) ts g h e k =
      let q = h.2 in
      let a : h.0 ≡ sub s u = cc in
      let c : h.1 ≡ subs s args = cc in
      args_has vs (MoreWords v env) S s args h.1 (u ∷ g) h.4 c (u, g, refl, subst (Has S v) a h.3, k)

  pub have_size : (vs : Words C) (S : List Ty) (ts : Tys) → Have S vs ts → size vs ≡ count ts
  have_size NoWords S ts h = sym (ap count h)
  have_size (MoreWords v vs) S ts h = ap suc (have_size vs S h.1 h.4) ∙ sym (ap count h.2)

  -- what follows is not stuck
  pub value_fine : (o : Made C) (f : Word C → Words C → Result) (S : List Ty) (t : Ty) → MadeHas S o t →
      ((v : Word C) (st : Words C) (Z : List Ty) → More S Z → Has Z v t → Stored Z st Z → Fine (f v st).end) →
      Fine (with_value o f).end
  value_fine Fails f S t h k = absurd h
  value_fine (Makes v st) f S t h k = k v st h.0 h.1 h.2 h.3

  pub zero_fine : (v : Word C) (S : List Ty) (r q : Result) → Has S v IntTy → Fine r.end → Fine q.end →
      Fine (at_zero v r q).end
  zero_fine v S r q h a c =
      int_only {P = Fine (at_zero v r q).end} v S h
      (λ n e. subst (λ x. Fine (at_zero x r q).end) (sym e) (go (is_zero n)))
    where
      go : (b : Bool) → Fine (pick b r q).end
      go true = a
      go false = c

  pub halt_fine : (v : Word C) (S : List Ty) → Has S v IntTy → Fine (halt_with v).end
  halt_fine v S h = int_only {P = Fine (halt_with v).end} v S h (λ n e. subst (λ x. Fine (halt_with x).end) (sym e) tt)
