-- The steps of the walk over a term: each leaves what is found in the end as it is.
use Rattle.std.proofs.Common.{◌≡◌, ◌<◌, ◌≤◌, ℕ, ◌+◌, ◌-◌, List, [], ◌∷◌, ◌++◌, length, refl, sym, ap, ap₂, ◌∙◌, subst}
use Rattle.std.proofs.Common.{arith, append_assoc, slice_set}
use Rattle.std.proofs.lemmas.List.{append-nil}
use Rattle.std.proofs.Math.Seq.{set-append_seam}
use Rattle.idx_core.specs.Laws as laws
use Rattle.f_terms.specs.Ty.{Ty, TInt, TArrow, TAll, TTuple, TSome, TRef, Tys, NoTys, MoreTys, shift, put, Below}
use Rattle.f_terms.specs.Ty.{PutFits}
use Rattle.f_terms.specs.Limits.{Within}
use Rattle.f_terms.specs.Faults.{Passes}
use Rattle.f_terms.proofs.Limited.{arrow_within, some_within, passed_within}
use Rattle.f_terms.proofs.TypeOf.{type_passed}
use Rattle.f_terms.specs.TyLaws.{types_part, types_over}
use Rattle.f_terms.specs.Tm.{Tm, SVar, SNum, SFix, SApp, SGen, SInst, STuple, SProj, SArith, SIf0, SLet, SPack}
use Rattle.f_terms.specs.Tm.{SOpen, SRef, SDeref, SAssign, Tms, NoTms, MoreTms, plain}
use Rattle.f_terms.specs.Typing.{ty_at, raised, in_fix, in_open}
use Rattle.f_terms.specs.Noted.{or_int, body_of, opened_of, outside, result_of, type_of}
use Rattle.types_page.specs.Binders.{Value, Function, TypeName, Opened, Binder, binder}
use Rattle.types_page.specs.Walk.{Named, Now, context, IsScope, HasScope, AreReady, Todo, Visit, VisitAll}
use Rattle.types_page.specs.Walk.{Checked, AllChecked, binders, names_of, visited, done, all_done, begun, left}
use Rattle.types_page.specs.Walk.{left_fields, weight, steps, Steps}
use Rattle.types_page.proofs.Fields.{state, state_is, fields}
use Rattle.types_page.proofs.Ready.{context_below, context_within, passed_below}
use Rattle.f_check.proofs.Scoping.{same_now}
use Rattle.f_check.proofs.Types.{put_fits}

-- ---- names in scope

raised_context : (n : ℕ) (bs : List Named) → IsScope n bs → raised (context n bs) ≡ context (n + 1) bs
raised_context n [] ok = refl
raised_context n (b ∷ bs) ok =
    let le = ok.0 in
    let e : (n - b.at) + 1 ≡ n + 1 - b.at = omega (arith, le) in
    let up : shift 1 0 (shift (n - b.at) 0 b.ty) ≡ shift (n + 1 - b.at) 0 b.ty =
    laws.shift_add_law types_part types_over (n - b.at) 1 0 b.ty ∙ ap (λ m. shift m 0 b.ty) e in
    ap₂ MoreTys up (raised_context n bs ok.3)

up : (n : ℕ) (bs : List Named) → IsScope n bs → IsScope (n + 1) bs
up n [] ok = tt
up n (b ∷ bs) ok = let le = ok.0 in (omega (arith, le), ok.1, ok.2, up n bs ok.3)

one_less : (n : ℕ) → n ≡ n + 1 - 1
one_less n = omega arith

at_most : (n : ℕ) → n ≤ n
at_most n = omega arith

-- ---- lists of what is to be done

left_is : (e : Tm) (k : ℕ) (ts : List Todo) → left e k ts ≡ left e k [] ++ ts
left_is (SVar s i) k ts = refl
left_is (SNum s z) k ts = refl
left_is (SFix s a r e) k ts = refl
left_is (SApp s f x) k ts = refl
left_is (SGen s e) k ts = refl
left_is (SInst s e t) k ts = refl
left_is (STuple s es) k ts = refl
left_is (SProj s i e) k ts = refl
left_is (SArith s op a b) k ts = refl
left_is (SIf0 s c a b) k ts = refl
left_is (SLet s a b) k ts = refl
left_is (SPack s h e r) k ts = refl
left_is (SOpen s a b) k ts = refl
left_is (SRef s e) k ts = refl
left_is (SDeref s e) k ts = refl
left_is (SAssign s a b) k ts = refl

all_done_append : (us ts : List Todo) (x : Now) → all_done (us ++ ts) x ≡ all_done ts (all_done us x)
all_done_append [] ts x = refl
all_done_append (u ∷ us) ts x = all_done_append us ts (done u x)

ready_append : (us ts : List Todo) (x : Now) → AreReady us x → AreReady ts (all_done us x) → AreReady (us ++ ts) x
ready_append [] ts x h k = k
ready_append (u ∷ us) ts x h k = (h.0, h.1, ready_append us ts (done u x) h.2 k)

less_left : (e : Tm) (k : ℕ) (ts : List Todo) → steps (left e k ts) < weight e + steps ts
less_left (SVar s i) k ts = omega arith
less_left (SNum s z) k ts = omega arith
less_left (SFix s a r e) k ts = omega arith
less_left (SApp s f x) k ts = omega arith
less_left (SGen s e) k ts = omega arith
less_left (SInst s e t) k ts = omega arith
less_left (STuple s es) k ts = omega arith
less_left (SProj s i e) k ts = omega arith
less_left (SArith s op a b) k ts = omega arith
less_left (SIf0 s c a b) k ts = omega arith
less_left (SLet s a b) k ts = omega arith
less_left (SPack s h e r) k ts = omega arith
less_left (SOpen s a b) k ts = omega arith
less_left (SRef s e) k ts = omega arith
less_left (SDeref s e) k ts = omega arith
less_left (SAssign s a b) k ts = omega arith

-- ---- a form and its parts

module _ (x : Now) where
  abbrev f : List Binder
  f = x.found

  abbrev n : ℕ
  n = x.around

  abbrev g : Tys
  g = names_of x

  -- the parts of one form find what both find
  twice : (a b : Tm) (us : List Ty) →
      state ((f ++ binders a n g) ++ binders b n g) x.scope us n
      ≡ state (f ++ (binders a n g ++ binders b n g)) x.scope us n
  twice a b us =
      state_is ((f ++ binders a n g) ++ binders b n g) (f ++ (binders a n g ++ binders b n g)) x.scope us us n n
      (append_assoc f (binders a n g) (binders b n g)) refl refl

  -- one binder, and then what is found inside of it
  inside : (b : Binder) (cs ds : List Binder) → cs ≡ ds → (f ++ b ∷ []) ++ cs ≡ f ++ b ∷ ds
  inside b cs ds e = append_assoc f (b ∷ []) cs ∙ ap (λ (zs : List Binder). f ++ b ∷ zs) e

  fix_names : (arg res : Ty) →
      context n (record { ty = arg; at = n } ∷ record { ty = TArrow arg res; at = n } ∷ x.scope) ≡ in_fix arg res g
  fix_names arg res = ap₂ (λ (t u : Ty). MoreTys t (MoreTys u g)) (same_now n arg) (same_now n (TArrow arg res))

  -- the binder of a first part is known once that is done
  set_binder : (old new : Binder) (cs ds es : List Binder) → ds ≡ es →
      slice_set ((f ++ old ∷ []) ++ cs) (length f) new ++ ds ≡ f ++ new ∷ (cs ++ es)
  set_binder old new cs ds es e =
      ap (λ (zs : List Binder). slice_set zs (length f) new ++ ds) (append_assoc f (old ∷ []) cs)
      ∙ ap (λ (zs : List Binder). zs ++ ds) (set-append_seam f old cs new)
      ∙ append_assoc f (new ∷ cs) ds
      ∙ ap (λ (zs : List Binder). f ++ new ∷ (cs ++ zs)) e

  three : (a b c : Tm) → ((f ++ binders a n g) ++ binders b n g) ++ binders c n g
      ≡ f ++ (binders a n g ++ (binders b n g ++ binders c n g))
  three a b c =
      append_assoc (f ++ binders a n g) (binders b n g) (binders c n g)
      ∙ append_assoc f (binders a n g) (binders b n g ++ binders c n g)

  form : (e : Tm) → HasScope x → all_done (left e (length f) []) (begun e x) ≡ visited e x
  form (SVar p i) scoped =
      let t = or_int (ty_at g i) in
      state_is f (f ++ []) x.scope (t ∷ x.types) (t ∷ x.types) n n (sym (append-nil f)) refl refl
  form (SNum p z) scoped =
      state_is f (f ++ []) x.scope (TInt ∷ x.types) (TInt ∷ x.types) n n (sym (append-nil f)) refl refl
  form (SFix p arg res e) scoped =
      let names = context n (record { ty = arg; at = n } ∷ record { ty = TArrow arg res; at = n } ∷ x.scope) in
      let b = binder p n (Function arg res) in
      state_is ((f ++ b ∷ []) ++ binders e n names) (f ++ b ∷ binders e n (in_fix arg res g)) x.scope
      (TArrow arg res ∷ x.types) (TArrow arg res ∷ x.types) n n
      (inside b (binders e n names) (binders e n (in_fix arg res g)) (ap (binders e n) (fix_names arg res))) refl refl
  form (SApp p a b) scoped = twice a b (result_of (type_of (plain a) g) ∷ x.types)
  form (SGen p e) scoped =
      let c : context (n + 1) x.scope ≡ raised g = sym (raised_context n x.scope scoped) in
      let b = binder p n TypeName in
      state_is ((f ++ b ∷ []) ++ binders e (n + 1) (context (n + 1) x.scope)) (f ++ b ∷ binders e (n + 1) (raised g))
      x.scope (TAll (type_of (plain e) (context (n + 1) x.scope)) ∷ x.types)
      (TAll (type_of (plain e) (raised g)) ∷ x.types) (n + 1 - 1) n
      (inside b (binders e (n + 1) (context (n + 1) x.scope)) (binders e (n + 1) (raised g)) (ap (binders e (n + 1)) c))
      (ap (λ (z : Tys). TAll (type_of (plain e) z) ∷ x.types) c) (sym (one_less n))
  form (SInst p e t) scoped = refl
  form (STuple p es) scoped = fields es f x.scope x.types n
  form (SProj p i e) scoped = refl
  form (SArith p op a b) scoped = twice a b (TInt ∷ x.types)
  form (SIf0 p c a b) scoped =
      let ts = type_of (plain a) g ∷ x.types in
      state_is (((f ++ binders c n g) ++ binders a n g) ++ binders b n g)
      (f ++ (binders c n g ++ (binders a n g ++ binders b n g))) x.scope ts ts n n (three c a b) refl refl
  form (SLet p a b) scoped =
      let t = type_of (plain a) g in
      let names = context n (record { ty = t; at = n } ∷ x.scope) in
      let e : names ≡ MoreTys t g = ap (λ (u : Ty). MoreTys u g) (same_now n t) in
      let old = binder p n (Value TInt) in
      let new = binder p n (Value t) in
      state_is (slice_set ((f ++ old ∷ []) ++ binders a n g) (length f) new ++ binders b n names)
      (f ++ new ∷ (binders a n g ++ binders b n (MoreTys t g))) x.scope (type_of (plain b) names ∷ x.types)
      (type_of (plain b) (MoreTys t g) ∷ x.types) n n
      (set_binder old new (binders a n g) (binders b n names) (binders b n (MoreTys t g)) (ap (binders b n) e))
      (ap (λ (z : Tys). type_of (plain b) z ∷ x.types) e) refl
  form (SPack p h e r) scoped = refl
  form (SOpen p a b) scoped =
      let t = opened_of (type_of (plain a) g) in
      let names = context (n + 1) (record { ty = t; at = n + 1 } ∷ x.scope) in
      let e : names ≡ in_open t g = ap₂ MoreTys (same_now (n + 1) t) (sym (raised_context n x.scope scoped)) in
      let old = binder p n (Opened TInt) in
      let new = binder p n (Opened t) in
      state_is (slice_set ((f ++ old ∷ []) ++ binders a n g) (length f) new ++ binders b (n + 1) names)
      (f ++ new ∷ (binders a n g ++ binders b (n + 1) (in_open t g))) x.scope
      (outside (type_of (plain b) names) ∷ x.types) (outside (type_of (plain b) (in_open t g)) ∷ x.types) (n + 1 - 1) n
      (set_binder old new (binders a n g) (binders b (n + 1) names) (binders b (n + 1) (in_open t g))
      (ap (binders b (n + 1)) e))
      (ap (λ (z : Tys). outside (type_of (plain b) z) ∷ x.types) e) (sym (one_less n))
  form (SRef p e) scoped = refl
  form (SDeref p e) scoped = refl
  form (SAssign p a b) scoped = twice a b (TTuple NoTys ∷ x.types)

  down : HasScope x → IsScope (n + 1 - 1) x.scope
  down scoped = subst (λ (m : ℕ). IsScope m x.scope) (one_less n) scoped

  -- the types of the names are in scope and keep the limits, and so does the type of a term that passes
  module _ (scoped : HasScope x) where
    below : (e : Tm) (t : Ty) → Passes e n g t → Below n t
    below e t h = passed_below e n g t (context_below n x.scope scoped) h

    within : (e : Tm) (t : Ty) → Passes e n g t → Within t
    within e t h = passed_within e n g t (context_within n x.scope scoped) h

  readies : (e : Tm) → HasScope x → Checked e x → HasScope (begun e x) × AreReady (left e (length f) []) (begun e x)
  readies (SVar p i) scoped c = (scoped, tt)
  readies (SNum p z) scoped c = (scoped, tt)
  readies (SFix p arg res e) scoped c =
      let room = c.2 in
      let h = c.1 in
      let names : List Named = record { ty = arg; at = n } ∷ record { ty = TArrow arg res; at = n } ∷ x.scope in
      let small = (arrow_within arg res h.3).0 in
      let new : IsScope n names = (at_most n, h.1, small, (at_most n, (h.1, h.2), h.3, scoped)) in
      let inner = subst (λ (z : Tys). Passes e n z res) (sym (fix_names arg res)) h.4 in
      (new, ((res, inner, omega (arith, room)), new, (tt, scoped, tt)))
  readies (SApp p a b) scoped c =
      let room = c.2 in
      let h = c.1 in
      let second : Checked b x = (h.0, h.2, omega (arith, room)) in
      (scoped, ((TArrow h.0 c.0, h.1, omega (arith, room)), scoped, (second, scoped, (tt, scoped, tt))))
  readies (SGen p e) scoped c =
      let room = c.2 in
      let h = c.1 in
      let inner = subst (λ (z : Tys). Passes e (n + 1) z h.0) (raised_context n x.scope scoped) h.2 in
      let more = up n x.scope scoped in
      (more, ((h.0, inner, omega (arith, room)), more, (tt, down scoped, tt)))
  readies (SInst p e t) scoped c =
      let room = c.2 in
      let h = c.1 in
      let whole = within scoped e (TAll h.0) h.3 in
      let deep = whole.0 in
      let is : body_of (type_of (plain e) g) ≡ h.0 = ap body_of (type_passed e n g (TAll h.0) h.3) in
      let fits = put_fits n t h.0 (omega (arith, room)) h.2 h.4.0 (omega (arith, deep)) in
      let put = subst (λ (u : Ty). PutFits 0 t 0 u) (sym is) fits in
      (scoped, ((TAll h.0, h.3, omega (arith, room)), scoped, (put, scoped, tt)))
  readies (STuple p es) scoped c =
      let room = c.2 in
      let h = c.1 in (
        scoped,
        ((h.0, h.2, omega (arith, room)), subst HasScope (sym (fields es f x.scope x.types n)) scoped, tt),
      )
  readies (SProj p i e) scoped c =
      let room = c.2 in
      let h = c.1 in
      (scoped, ((TTuple h.0, h.2, omega (arith, room)), scoped, (tt, scoped, tt)))
  readies (SArith p op a b) scoped c =
      let room = c.2 in
      let h = c.1 in
      (scoped, ((TInt, h.1, omega (arith, room)), scoped, ((TInt, h.2, omega (arith, room)), scoped, (tt, scoped, tt))))
  readies (SIf0 p e a b) scoped c =
      let room = c.2 in
      let h = c.1 in
      let zero : Checked a x = (c.0, h.1, omega (arith, room)) in
      let other : Checked b x = (c.0, h.2, omega (arith, room)) in
      (scoped, ((TInt, h.0, omega (arith, room)), scoped, (zero, scoped, (other, scoped, (tt, scoped, tt)))))
  readies (SLet p a b) scoped c =
      let room = c.2 in
      let h = c.1 in
      let t = type_of (plain a) g in
      let is : t ≡ h.0 = type_passed a n g h.0 h.1 in
      let scope : List Named = record { ty = t; at = n } ∷ x.scope in
      let e : context n scope ≡ MoreTys h.0 g = ap (λ (u : Ty). MoreTys u g) (same_now n t ∙ is) in
      let new : IsScope n scope = (
        at_most n,
        subst (Below n) (sym is) (below scoped a h.0 h.1),
        subst Within (sym is) (within scoped a h.0 h.1),
        scoped,
      ) in
      let second = subst (λ (z : Tys). Passes b n z c.0) (sym e) h.2 in (
        scoped,
        (
          (h.0, h.1, omega (arith, room)),
          scoped,
          (omega (arith, room), new, ((c.0, second, omega (arith, room)), new, (tt, scoped, tt))),
        ),
      )
  readies (SPack p d e r) scoped c =
      let room = c.2 in
      let h = c.1 in
      (scoped, ((put 0 d h.0, h.5, omega (arith, room)), scoped, (tt, scoped, tt)))
  readies (SOpen p a b) scoped c =
      let room = c.2 in
      let h = c.1 in
      let t = opened_of (type_of (plain a) g) in
      let is : t ≡ h.0 = ap opened_of (type_passed a n g (TSome h.0) h.2) in
      let small = some_within h.0 (within scoped a (TSome h.0) h.2) in
      let scope : List Named = record { ty = t; at = n + 1 } ∷ x.scope in
      let names = context (n + 1) scope in
      let e : names ≡ in_open h.0 g = ap₂ MoreTys (same_now (n + 1) t ∙ is) (sym (raised_context n x.scope scoped)) in
      let new : IsScope (n + 1) scope = (
        at_most (n + 1),
        subst (Below (n + 1)) (sym is) (below scoped a (TSome h.0) h.2).1,
        subst Within (sym is) small,
        up n x.scope scoped,
      ) in
      let second = subst (λ (z : Tys). Passes b (n + 1) z (shift 1 0 c.0)) (sym e) h.3 in
      let inner = passed_within b (n + 1) names (shift 1 0 c.0) (context_within (n + 1) scope new) second in
      let fits = put_fits 0 TInt (shift 1 0 c.0) (omega arith) tt (omega arith) inner.0 in
      let same = type_passed b (n + 1) names (shift 1 0 c.0) second in
      let put = subst (λ (u : Ty). PutFits 0 TInt 0 u) (sym same) fits in (
        scoped,
        (
          (TSome h.0, h.2, omega (arith, room)),
          scoped,
          (omega (arith, room), new, ((shift 1 0 c.0, second, omega (arith, room)), new, (put, down scoped, tt))),
        ),
      )
  readies (SRef p e) scoped c =
      let room = c.2 in
      let h = c.1 in
      (scoped, ((h.0, h.2, omega (arith, room)), scoped, (tt, scoped, tt)))
  readies (SDeref p e) scoped c =
      let room = c.2 in
      (scoped, ((TRef c.0, c.1, omega (arith, room)), scoped, (tt, scoped, tt)))
  readies (SAssign p a b) scoped c =
      let room = c.2 in
      let h = c.1 in
      let second : Checked b x = (h.0, h.3, omega (arith, room)) in
      (scoped, ((TRef h.0, h.2, omega (arith, room)), scoped, (second, scoped, (tt, scoped, tt))))

-- ---- the steps

-- a term is begun
pub begins : (e : Tm) (ts new : List Todo) (x y : Now) → HasScope x → AreReady (Visit e ∷ ts) x → y ≡ begun e x →
    new ≡ left e (length x.found) ts → Steps (Visit e ∷ ts) x new y
begins e ts new x y scoped ready is same =
    let k = length x.found in
    let goes = form x e scoped in
    let scopes = readies x e scoped ready.0 in
    let whole = left_is e k ts in
    let both = ready_append (left e k []) ts (begun e x) scopes.1 (subst (AreReady ts) (sym goes) ready.2) in
    let made : Steps (Visit e ∷ ts) x (left e k ts) (begun e x) = record {
      same = ap (λ (us : List Todo). all_done us (begun e x)) whole ∙ all_done_append (left e k []) ts (begun e x)
          ∙ ap (all_done ts) goes;
      scope = scopes.0;
      ready = subst (λ (us : List Todo). AreReady us (begun e x)) (sym whole) both;
      less = less_left e k ts;
    } in
    subst (λ (us : List Todo). Steps (Visit e ∷ ts) x us y) (sym same)
    (subst (λ (z : Now). Steps (Visit e ∷ ts) x (left e k ts) z) (sym is) made)

-- the next field
pub next : (es : Tms) (ts new : List Todo) (x : Now) → HasScope x → AreReady (VisitAll es ∷ ts) x →
    new ≡ left_fields es ts → Steps (VisitAll es ∷ ts) x new x
next NoTms ts new x scoped ready same =
    subst (λ (us : List Todo). Steps (VisitAll NoTms ∷ ts) x us x) (sym same) (record {
      same = refl;
      scope = scoped;
      ready = ready.2;
      less = omega arith;
    })
next (MoreTms e es) ts new x scoped ready same =
    let h = ready.0 in
    let room = h.2 in
    let others : AllChecked es x = (h.1.1, h.1.4, omega (arith, room)) in
    subst (λ (us : List Todo). Steps (VisitAll (MoreTms e es) ∷ ts) x us x) (sym same) (record {
      same = refl;
      scope = scoped;
      ready = ((h.1.0, h.1.3, omega (arith, room)), scoped, (tt, scoped, (others, ready.1, ready.2)));
      less = omega arith;
    })

-- what takes one step
pub at_once : (t : Todo) (ts : List Todo) (x y : Now) → steps ts < steps (t ∷ ts) → AreReady (t ∷ ts) x →
    y ≡ done t x → Steps (t ∷ ts) x ts y
at_once t ts x y less ready is = subst (λ (z : Now). Steps (t ∷ ts) x ts z) (sym is) (record {
  same = refl;
  scope = ready.1;
  ready = ready.2;
  less = less;
})

-- ---- the same of a task, which is known to be such a one

pub visit_done : (t : Todo) (e : Tm) (ts new : List Todo) (x y : Now) → t ≡ Visit e → HasScope x → AreReady (t ∷ ts) x →
    (y ≡ begun e x) × (new ≡ left e (length x.found) ts) → Steps (t ∷ ts) x new y
visit_done t e ts new x y is scoped ready q =
    subst (λ (u : Todo). Steps (u ∷ ts) x new y) (sym is)
    (begins e ts new x y scoped (subst (λ (u : Todo). AreReady (u ∷ ts) x) is ready) q.0 q.1)

pub next_done : (t : Todo) (es : Tms) (ts new : List Todo) (x : Now) → t ≡ VisitAll es → HasScope x →
    AreReady (t ∷ ts) x → new ≡ left_fields es ts → Steps (t ∷ ts) x new x
next_done t es ts new x is scoped ready same =
    subst (λ (u : Todo). Steps (u ∷ ts) x new x) (sym is)
    (next es ts new x scoped (subst (λ (u : Todo). AreReady (u ∷ ts) x) is ready) same)

pub once_done : (t u : Todo) (ts : List Todo) (x y : Now) → t ≡ u → steps ts < steps (u ∷ ts) → AreReady (t ∷ ts) x →
    y ≡ done u x → Steps (t ∷ ts) x ts y
once_done t u ts x y is less ready same =
    subst (λ (v : Todo). Steps (v ∷ ts) x ts y) (sym is)
    (at_once u ts x y less (subst (λ (v : Todo). AreReady (v ∷ ts) x) is ready) same)
