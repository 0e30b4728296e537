-- What comes after the type of a part.
use Rattle.std.proofs.Common.{◌≡◌, ◌≢◌, ℕ, ◌+◌, ◌-◌, ◌<◌, ◌≤◌, ◌∙◌, refl, ap, ap₂, sym, subst, arith, List, [], ◌∷◌}
use Rattle.std.proofs.Common.{◌++◌, map, length, take, Vec, Global, Bor, Result, Ok, Err, Option, Some, None, inl, inr}
use Rattle.std.proofs.lemmas.List.Elements.{All-head, All-tail, All-same}
use Rattle.idx_core.specs.declared.span.Span.{Span}
use Rattle.f_terms.specs.Ty.{Ty, Tys, TInt, TArrow, TAll, TTuple, TSome, TRef, NoTys, shift, put, ShiftFits, tys, Below}
use Rattle.f_terms.specs.Ty.{PutFits}
use Rattle.f_terms.specs.Tm.{Tm, SFix, SApp, SGen, SInst, STuple, SProj, SArith, SIf0, SLet, SPack, SOpen, SRef, SDeref}
use Rattle.f_terms.specs.Tm.{SAssign, plain, span_of, tms}
use Rattle.f_terms.specs.Limits.{nodes, Within, Shallow}
use Rattle.f_terms.specs.Scope.{InScope}
use Rattle.f_terms.specs.Typing.{field_ty, in_fix, in_open, raised}
use Rattle.text_core.specs.Refusals.{nothing}
use Rattle.f_terms.specs.Faults.{Passes, limits, FaultNoted, FaultWith}
use Rattle.f_terms.specs.Read.{tree, place}
use Rattle.f_terms.specs.declared.types.FType.{FType}
use Rattle.f_terms.specs.declared.types.FType.TheVariants as T
use Rattle.f_terms.specs.declared.fault.Code.{Code}
use Rattle.f_terms.specs.declared.fault.Code.TheVariants.{E07, E08, E09, E10, E11, E12, E13, E14, E16, E17, E18, E21}
use Rattle.f_terms.specs.declared.fault.Code.TheVariants.{E22}
use Rattle.f_terms.proofs.Trees.{tree_Tuple}
use Rattle.f_terms.specs.ReadTerm.{count, node_at}
use Rattle.f_terms.specs.declared.node.FTerm.{FTerm}
use Rattle.f_check.specs.Scopes.{Bound, bound, IsScope}
use Rattle.f_check.specs.Verdict.{IsTypeOf}
use Rattle.f_terms.specs.Mismatch.{Mismatch, Wanted, WType, WFunction, WPolymorphic, WTuple, WField, WPackage}
use Rattle.f_terms.specs.Mismatch.{WReference, WOutside, odds}
use Rattle.f_check.specs.Told.{read, Tells, IsPut, IsFound}
use Rattle.f_check.specs.declared.mismatch.Mismatch as M
use Rattle.f_check.specs.declared.failure.Failure.{Failure}
use Rattle.f_check.specs.declared.failure.Failure.TheVariants.{Refused}
use Rattle.f_check.specs.Walk.{Task, context, TypeIs, FaultOf, fix_names, IsReady, AllPass, Same, Part, top, now}
use Rattle.f_check.specs.Walk.{Holds, Offered, Enters, frame_work, left, offer_work, Goes}
use Rattle.calc_core.specs.Stack.{Chain, stack_sum}
use Rattle.f_check.specs.declared.scope.Binder.{Binder}
use Rattle.f_check.specs.declared.frame.Head.{Head}
use Rattle.f_check.specs.declared.frame.Applied.{Applied}
use Rattle.f_check.specs.declared.frame.Instance.{Instance}
use Rattle.f_check.specs.declared.frame.Fields.{Fields}
use Rattle.f_check.specs.declared.frame.Branches.{Branches}
use Rattle.f_check.specs.declared.frame.Assignment.{Assignment}
use Rattle.f_check.specs.declared.frame.Packing.{Packing}
use Rattle.f_check.specs.declared.frame.Frame.{Frame}
use Rattle.f_check.specs.declared.frame.Frame.TheVariants as C
use Rattle.f_check.specs.declared.frame.Control.{Control}
use Rattle.f_check.specs.declared.frame.Control.TheVariants.{Give}
use Rattle.f_check.specs.declared.frame.State.{State}
use Rattle.f_check.proofs.Forms as forms
use Rattle.f_check.proofs.Fields as fields
use Rattle.f_check.proofs.Types.{shift_fits, put_fits}
use Rattle.f_check.proofs.Puts.{outside_depth}
use Rattle.f_terms.proofs.Limited.{some_within}
use Rattle.f_terms.specs.TyLaws.{put_bound}
use Rattle.f_terms.specs.Noted.{outside}
use Rattle.std.proofs.lemmas.List.{length-append, same_from_push}
use Rattle.f_check.proofs.Rows.{part_known, part_nodes, one_more, all_more, tuple_ok, tuple_limit}
use Rattle.f_check.proofs.Scoping.{scope_more, scope_push, bounds_pop, last_bound}
use Rattle.f_check.proofs.Steps.{moved, in_body, in_gen, in_let, in_opened, fails}

-- where the state stands at the form around the part
task_is : (w : Task) (n : ℕ) (bs : List Bound) → n ≡ w.around → bs ≡ w.scope →
    record { e = w.e; around = n; scope = bs } ≡ w
task_is w n bs en es =
    ap₂ (λ (n : ℕ) (bs : List Bound). let t : Task = record { e = w.e; around = n; scope = bs } in t) en es

-- the walk stops at this fault: such a type was wanted under the type names of the state, and t is there
abbrev pub Stops : State → Code → Span → Wanted → Ty → Result Control Failure → Type 0
Stops st c s w t z = (x : Option M.Mismatch) × (z ≡ Err (Refused c s x)) × (read x ≡ odds st.around w t)

module _ (f : FTerm) (st : State) (w : Task) (hold : Holds f st w) where
  -- a form is refused, where x is what the code says of it
  pub refused : (e : Tm) (st' : State) (c : Code) (s : Span) (x : Option M.Mismatch) (o : Option Mismatch)
      (r : Result Control Failure) (m : ℕ) → r ≡ Err (Refused c s x) → read x ≡ o → w.e ≡ e →
      FaultWith e w.around (context w) c (place s) o → Goes f st' r m
  refused e st' c s x o r m er ex is k =
      subst (λ z. Goes f st' z m) (sym er) (fails f st w hold (Refused c s x)
      (subst (λ z. FaultWith z w.around (context w) c (place s) (read x)) (sym is)
      (subst (FaultWith e w.around (context w) c (place s)) (sym ex) k)))

  pub faulty : (e : Tm) (x : Failure) → w.e ≡ e → Tells x (FaultNoted e w.around (context w)) →
      Tells x (FaultOf (top f))
  faulty e x is k = fails f st w hold x (subst (λ z. Tells x (FaultNoted z w.around (context w))) (sym is) k)

  -- a form has its type
  pub given : (o : FType) (st' : State) (e : Tm) (t : FType) (s : Span) (m : ℕ) → st'.frames.items ≡ st.frames.items →
      now st' w.e ≡ w → w.e ≡ e → IsTypeOf e w.around (context w) (tree t) → span_of e ≡ place s → 1 + left f st < m →
      Goes f st' (Ok (Give t s o)) m
  given o st' e t s m ef en is h sp lt =
      let typed : TypeIs w (tree t) = subst (λ z. IsTypeOf z w.around (context w) (tree t)) (sym is) h in
      let hold' : Holds f st' w = subst (λ fs. Chain (Part f) fs w (top f)) (sym ef) hold in (
        (w.e, (subst (λ z. TypeIs z (tree t)) (sym en) typed, ap span_of is ∙ sp, subst (Holds f st') (sym en) hold')),
        omega (arith, lt, ap (stack_sum (frame_work f)) ef),
      )

  -- the next part
  pub next : (fr : Frame) (j : ℕ) (e : Tm) → st.around ≡ w.around → map bound st.scope.items ≡ w.scope → w.e ≡ e →
      IsReady w → j < count f →
      ((n m : ℕ) → InScope (plain e) n m → InScope (plain (node_at f j)) n m) →
      nodes (plain (node_at f j)) ≤ nodes (plain e) → Part f fr (now st (node_at f j)) w → Enters f st fr j
  next fr j e en es is ok lt in' few part =
      let o = subst IsReady (sym (task_is w st.around (map bound st.scope.items) en es)) ok in
      let o' = subst (λ z. IsReady (now st z)) is o in
      let room = o'.2 in
      (w, lt, (o'.0, in' _ _ o'.1, omega (arith, few, room)), part, hold)

-- the forms, where the type of a part is there
module _ (f : FTerm) (st : State) (ty : FType) (q : Span) where
  -- a function
  pub fix_refused : (x : Head) → Offered f st (C.Fix x) ty q → (st' : State) (z : Result Control Failure) (m : ℕ) →
      Stops st E14 q (WType (tree x.res.now)) (tree ty) z → tree ty ≢ tree x.res.now → Goes f st' z m
  fix_refused x h st' z m k ne =
      let w = h.1 in
      let a = tree x.arg.now in
      let r = tree x.res.now in
      refused f st w h.5 (SFix (place x.span) a r h.0) st' E14 q k.0 (odds w.around (WType r) (tree ty)) z m k.1
      (k.2 ∙ ap (λ n. odds n (WType r) (tree ty)) h.4.2) h.4.0
      (forms.fix_res w.around (context w) (place x.span) a r (tree ty) h.0 (in_fix a r (context w)) (place q) refl h.4.4
      (in_body (now st h.0) w a r h.4.2 h.4.3 (λ n g. Passes h.0 n g (tree ty)) h.2.0) ne h.3)

  pub fix_given : (x : Head) → Offered f st (C.Fix x) ty q → (sc : Vec Binder Global) (t : FType) →
      sc.items ≡ take (length st.scope.items - 2) st.scope.items → tree ty ≡ tree x.res.now →
      tree t ≡ TArrow (tree x.arg.now) (tree x.res.now) →
      Goes f (record st { scope = sc }) (Ok (Give t x.span T.Int)) (offer_work f st [])
  fix_given x h sc t ec et eq =
      let w = h.1 in
      let ok = subst (λ z. InScope (plain z) w.around (length w.scope)) h.4.0 h.4.1.1 in
      given f st w h.5 T.Int (record st { scope = sc }) (SFix (place x.span) (tree x.arg.now) (tree x.res.now) h.0) t
      x.span (offer_work f st []) refl
      (task_is w st.around (map bound sc.items) h.4.2
      (bounds_pop st.scope.items sc.items w.scope (fix_names w.around (tree x.arg.now) (tree x.res.now)) h.4.3 ec))
      h.4.0
      (forms.fix_ok w.around (context w) (place x.span) (tree x.arg.now) (tree x.res.now) (tree ty) (tree t) h.0
      (in_fix (tree x.arg.now) (tree x.res.now) (context w)) refl h.4.4 ok.0 ok.1
      (in_body (now st h.0) w (tree x.arg.now) (tree x.res.now) h.4.2 h.4.3 (λ n g. Passes h.0 n g (tree ty)) h.2.0) et
      eq) refl (omega arith)

  -- what holds of the part, under the same names
  same_type : (fr : Frame) (h : Offered f st fr ty q) → Same (now st h.0) h.1 →
      IsTypeOf h.0 h.1.around (context h.1) (tree ty)
  same_type fr h s = moved (now st h.0) h.1 s (λ n g. IsTypeOf h.0 n g (tree ty)) h.2

  -- an application
  pub fun_refused : (s : Span) (x : ℕ) → Offered f st (C.Function s x) ty q → (z : Result Control Failure) (m : ℕ) →
      Stops st E07 q WFunction (tree ty) z → ((a b : Ty) → tree ty ≢ TArrow a b) → Goes f st z m
  fun_refused s x h z m k ne =
      let w = h.1 in
      refused f st w h.5 (SApp (place s) h.0 (node_at f x)) st E07 q k.0 (odds w.around WFunction (tree ty)) z m k.1
      (k.2 ∙ ap (λ n. odds n WFunction (tree ty)) h.4.2.0) h.4.0
      (forms.app_fun w.around (context w) (place s) h.0 (node_at f x) (tree ty) (place q)
      (same_type (C.Function s x) h h.4.2).0 ne h.3)

  pub arg_refused : (x : Applied) → Offered f st (C.Argument x) ty q →
      (z : Result Control Failure) (m : ℕ) →
      Stops st E08 q (WType (tree x.arg)) (tree ty) z → tree ty ≢ tree x.arg → Goes f st z m
  arg_refused x h z m k ne =
      let w = h.1 in
      refused f st w h.5 (SApp (place x.span) h.4.0 h.0) st E08 q k.0 (odds w.around (WType (tree x.arg)) (tree ty)) z m
      k.1 (k.2 ∙ ap (λ n. odds n (WType (tree x.arg)) (tree ty)) h.4.3.0) h.4.1
      (forms.app_arg w.around (context w) (place x.span) h.4.0 h.0 (TArrow (tree x.arg) (tree x.res)) (tree x.arg)
      (tree x.res) (tree ty) (place q) h.4.4.0 refl (same_type (C.Argument x) h h.4.3).0 ne h.3)

  pub arg_given : (x : Applied) → Offered f st (C.Argument x) ty q → tree ty ≡ tree x.arg →
      Goes f st (Ok (Give x.res x.span T.Int)) (offer_work f st [])
  arg_given x h et =
      let w = h.1 in
      given f st w h.5 T.Int st (SApp (place x.span) h.4.0 h.0) x.res x.span (offer_work f st []) refl
      (task_is w st.around (map bound st.scope.items) h.4.3.0 h.4.3.1) h.4.1
      (forms.app_ok w.around (context w) (place x.span) h.4.0 h.0 (TArrow (tree x.arg) (tree x.res)) (tree x.arg)
      (tree x.res) (tree ty) h.4.4 refl (same_type (C.Argument x) h h.4.3).0 et) refl (omega arith)

  -- a type abstraction
  gen_type : (s : Span) (h : Offered f st (C.Gen s) ty q) →
      IsTypeOf h.0 (h.1.around + 1) (raised (context h.1)) (tree ty)
  gen_type s h = in_gen (now st h.0) h.1 h.4.1 h.4.2 h.4.3 (λ n g. IsTypeOf h.0 n g (tree ty)) h.2

  pub gen_refused : (s : Span) → Offered f st (C.Gen s) ty q → (x : Failure) →
      Tells x (limits (TAll (tree ty)) (place s) nothing) → Tells x (FaultOf (top f))
  gen_refused s h x k =
      let w = h.1 in
      faulty f st w h.5 (SGen (place s) h.0) x h.4.0
      (forms.tells_map x _ (FaultNoted (SGen (place s) h.0) w.around (context w))
      (forms.gen_limit w.around (context w) (place s) h.0 (raised (context w)) (tree ty) refl (gen_type s h).0) k)

  pub gen_given : (s : Span) → Offered f st (C.Gen s) ty q → (t : FType) → tree t ≡ TAll (tree ty) →
      Within (TAll (tree ty)) →
      Goes f (record st { around = st.around - 1 }) (Ok (Give t s T.Int)) (offer_work f st [])
  gen_given s h t et wi =
      let w = h.1 in
      let en = h.4.2 in
      given f st w h.5 T.Int (record st { around = st.around - 1 }) (SGen (place s) h.0) t s (offer_work f st []) refl
      (task_is w (st.around - 1) (map bound st.scope.items) (omega (arith, en)) h.4.3) h.4.0
      (forms.gen_ok w.around (context w) (place s) h.0 (raised (context w)) (tree ty) (tree t) refl
      (gen_type s h) wi et) refl (omega arith)

  -- a type application
  pub inst_refused : (i : Instance) → Offered f st (C.Inst i) ty q →
      (z : Result Control Failure) (m : ℕ) →
      Stops st E09 q WPolymorphic (tree ty) z → ((b : Ty) → tree ty ≢ TAll b) → Goes f st z m
  inst_refused i h z m k ne =
      let w = h.1 in
      refused f st w h.5 (SInst (place i.span) h.0 (tree i.ty.now)) st E09 q k.0
      (odds w.around WPolymorphic (tree ty)) z m k.1
      (k.2 ∙ ap (λ n. odds n WPolymorphic (tree ty)) h.4.2.0) h.4.0
      (forms.inst_all w.around (context w) (place i.span) h.0 (tree i.ty.now) (tree ty) (place q)
      (same_type (C.Inst i) h h.4.2).0 ne h.3)

  inst_below : (i : Instance) (h : Offered f st (C.Inst i) ty q) → Below h.1.around (tree i.ty.now)
  inst_below i h = (subst (λ z. InScope (plain z) h.1.around (length h.1.scope)) h.4.0 h.4.1.1).1

  pub inst_fits : (i : Instance) → Offered f st (C.Inst i) ty q → (b : FType) → tree ty ≡ TAll (tree b) →
      Shallow (tree i.ty.now) → PutFits 0 (tree i.ty.now) 0 (tree b)
  inst_fits i h b eb small =
      let wi = subst Within eb h.2.2 in
      let room = h.4.1.2 in
      put_fits h.1.around (tree i.ty.now) (tree b) (omega (arith, room)) (inst_below i h) small (omega (arith, wi.0))

  inst_put : (i : Instance) (h : Offered f st (C.Inst i) ty q) (b : FType) → tree ty ≡ TAll (tree b) →
      (r : Result FType Failure) → IsPut (tree i.ty.now) (tree b) (place i.span) r →
      IsFound (SInst (place i.span) h.0 (tree i.ty.now)) h.1.around (context h.1) r
  inst_put i h b eb r put =
      forms.inst_put h.1.around (context h.1) (place i.span) h.0 (tree i.ty.now) (tree ty) (tree b)
      (same_type (C.Inst i) h h.4.2) eb (inst_below i h) r put

  pub inst_given : (i : Instance) → Offered f st (C.Inst i) ty q → (b t : FType) →
      tree ty ≡ TAll (tree b) → IsPut (tree i.ty.now) (tree b) (place i.span) (Ok t) →
      Goes f st (Ok (Give t i.span T.Int)) (offer_work f st [])
  inst_given i h b t eb put =
      let w = h.1 in
      given f st w h.5 T.Int st (SInst (place i.span) h.0 (tree i.ty.now)) t i.span (offer_work f st []) refl
      (task_is w st.around (map bound st.scope.items) h.4.2.0 h.4.2.1) h.4.0 (inst_put i h b eb (Ok t) put) refl
      (omega arith)

  pub inst_faulty : (i : Instance) → Offered f st (C.Inst i) ty q → (b : FType) (x : Failure) →
      tree ty ≡ TAll (tree b) → IsPut (tree i.ty.now) (tree b) (place i.span) (Err x) → Tells x (FaultOf (top f))
  inst_faulty i h b x eb put =
      faulty f st h.1 h.5 (SInst (place i.span) h.0 (tree i.ty.now)) x h.4.0 (inst_put i h b eb (Err x) put)

  -- a projection
  pub proj_refused : (s : Span) (i : ℕ) → Offered f st (C.Proj s i) ty q → (z : Result Control Failure) (m : ℕ) →
      Stops st E10 q WTuple (tree ty) z → ((ts : Tys) → tree ty ≢ TTuple ts) → Goes f st z m
  proj_refused s i h z m k ne =
      let w = h.1 in
      refused f st w h.5 (SProj (place s) i h.0) st E10 q k.0 (odds w.around WTuple (tree ty)) z m k.1
      (k.2 ∙ ap (λ n. odds n WTuple (tree ty)) h.4.2.0) h.4.0
      (fields.proj_tuple w.around (context w) (place s) i h.0 (tree ty) (place q)
      (same_type (C.Proj s i) h h.4.2).0 ne h.3)

  pub proj_missing : (s : Span) (i : ℕ) → Offered f st (C.Proj s i) ty q →
      (ts : Tys) (z : Result Control Failure) (m : ℕ) →
      Stops st E11 s WField (tree ty) z → tree ty ≡ TTuple ts → field_ty ts i ≡ None → Goes f st z m
  proj_missing s i h ts z m k et none =
      let w = h.1 in
      refused f st w h.5 (SProj (place s) i h.0) st E11 s k.0 (odds w.around WField (tree ty)) z m k.1
      (k.2 ∙ ap (λ n. odds n WField (tree ty)) h.4.2.0) h.4.0
      (fields.proj_field w.around (context w) (place s) i h.0 (tree ty) ts (same_type (C.Proj s i) h h.4.2).0 et none)

  pub proj_given : (s : Span) (i : ℕ) → Offered f st (C.Proj s i) ty q → (ts : Tys) (t : FType) → tree ty ≡ TTuple ts →
      field_ty ts i ≡ Some (tree t) → Goes f st (Ok (Give t s T.Int)) (offer_work f st [])
  proj_given s i h ts t et at =
      let w = h.1 in
      given f st w h.5 T.Int st (SProj (place s) i h.0) t s (offer_work f st []) refl
      (task_is w st.around (map bound st.scope.items) h.4.2.0 h.4.2.1) h.4.0
      (fields.proj_ok w.around (context w) (place s) i h.0 (tree ty) (tree t) ts (same_type (C.Proj s i) h h.4.2) et
      at) refl (omega arith)

  -- operands
  pub left_refused : (s : Span) (b : ℕ) → Offered f st (C.Left s b) ty q → (z : Result Control Failure) (m : ℕ) →
      Stops st E12 q (WType TInt) (tree ty) z → tree ty ≢ TInt → Goes f st z m
  left_refused s b h z m k ne =
      let w = h.1 in
      refused f st w h.5 (SArith (place s) h.4.0 h.0 (node_at f b)) st E12 q k.0 (odds w.around (WType TInt) (tree ty))
      z m
      k.1 (k.2 ∙ ap (λ n. odds n (WType TInt) (tree ty)) h.4.3.0) h.4.1
      (inr (tree ty, (same_type (C.Left s b) h h.4.3).0, inl (ne, (refl, sym h.3))))

  pub right_refused : (s : Span) → Offered f st (C.Right s) ty q → (z : Result Control Failure) (m : ℕ) →
      Stops st E12 q (WType TInt) (tree ty) z → tree ty ≢ TInt → Goes f st z m
  right_refused s h z m k ne =
      let w = h.1 in
      refused f st w h.5 (SArith (place s) h.4.0 h.4.1 h.0) st E12 q k.0 (odds w.around (WType TInt) (tree ty)) z m
      k.1 (k.2 ∙ ap (λ n. odds n (WType TInt) (tree ty)) h.4.4.0) h.4.2
      (inr (TInt, h.4.5, inr (refl, inr (tree ty, (same_type (C.Right s) h h.4.4).0, inl (ne, (refl, sym h.3))))))

  pub right_given : (s : Span) → Offered f st (C.Right s) ty q → tree ty ≡ TInt →
      Goes f st (Ok (Give T.Int s T.Int)) (offer_work f st [])
  right_given s h et =
      let w = h.1 in
      given f st w h.5 T.Int st (SArith (place s) h.4.0 h.4.1 h.0) T.Int s (offer_work f st []) refl
      (task_is w st.around (map bound st.scope.items) h.4.4.0 h.4.4.1) h.4.2 (
        (refl, h.4.5, subst (Passes h.0 w.around (context w)) et (same_type (C.Right s) h h.4.4).0),
        tt,
        (omega arith, omega arith),
      ) refl (omega arith)

  -- an if0
  pub test_refused : (b : Branches) → Offered f st (C.Test b) ty q → (z : Result Control Failure) (m : ℕ) →
      Stops st E12 q (WType TInt) (tree ty) z → tree ty ≢ TInt → Goes f st z m
  test_refused b h z m k ne =
      let w = h.1 in
      refused f st w h.5 (SIf0 (place b.span) h.0 (node_at f b.zero) (node_at f b.other)) st E12 q k.0
      (odds w.around (WType TInt) (tree ty)) z m k.1 (k.2 ∙ ap (λ n. odds n (WType TInt) (tree ty)) h.4.2.0) h.4.0
      (inr (tree ty, (same_type (C.Test b) h h.4.2).0, inl (ne, (refl, sym h.3))))

  pub other_refused : (s : Span) (zero : FType) → Offered f st (C.Other s zero) ty q →
      (z : Result Control Failure) (m : ℕ) →
      Stops st E13 q (WType (tree zero)) (tree ty) z → tree ty ≢ tree zero → Goes f st z m
  other_refused s zero h z m k ne =
      let w = h.1 in
      refused f st w h.5 (SIf0 (place s) h.4.0 h.4.1 h.0) st E13 q k.0 (odds w.around (WType (tree zero)) (tree ty))
      z m k.1
      (k.2 ∙ ap (λ n. odds n (WType (tree zero)) (tree ty)) h.4.4.0) h.4.2
      (forms.if_branches w.around (context w) (place s) h.4.0 h.4.1 h.0 (tree zero) (tree ty) (place q) h.4.5 h.4.6.0
      (same_type (C.Other s zero) h h.4.4).0 ne h.3)

  pub other_given : (s : Span) (zero : FType) → Offered f st (C.Other s zero) ty q → tree ty ≡ tree zero →
      Goes f st (Ok (Give zero s T.Int)) (offer_work f st [])
  other_given s zero h et =
      let w = h.1 in
      given f st w h.5 T.Int st (SIf0 (place s) h.4.0 h.4.1 h.0) zero s (offer_work f st []) refl
      (task_is w st.around (map bound st.scope.items) h.4.4.0 h.4.4.1) h.4.2 (
        (h.4.5, h.4.6.0, subst (Passes h.0 w.around (context w)) et (same_type (C.Other s zero) h h.4.4).0),
        h.4.6.1,
        h.4.6.2,
      ) refl (omega arith)

  -- a tuple
  pub field_passes : (x : Fields) (us : Vec FType Global) (h : Offered f st (C.Fields x) ty q) →
      map tree us.items ≡ map tree x.types.items ++ tree ty ∷ [] →
      AllPass h.1.around (context h.1) (h.4.0 ++ h.0 ∷ []) (map tree us.items)
  field_passes x us h eu =
      let w = h.1 in
      let p = same_type (C.Fields x) h h.4.3 in
      subst (AllPass w.around (context w) (h.4.0 ++ h.0 ∷ [])) (sym eu)
      (all_more w.around (context w) h.4.0 (map tree x.types.items) h.0 (tree ty) h.4.4 p.0 p.1)

  pub field_enters : (x : Fields) (us : Vec FType Global) → Offered f st (C.Fields x) ty q →
      map tree us.items ≡ map tree x.types.items ++ tree ty ∷ [] →
      (j : ℕ) (more : Bor (List ℕ)) → x.rest.now ≡ j ∷ more.now →
      Enters f st (C.Fields (record x { types = us; rest = more })) j
  field_enters x us h eu j more er =
      let w = h.1 in
      let es = h.4.0 ++ h.0 ∷ [] in
      let tail = map (node_at f) more.now in
      let is : w.e ≡ STuple (place x.span) (tms (es ++ node_at f j ∷ tail)) =
      h.4.1 ∙ ap (λ (ks : List ℕ). STuple (place x.span) (tms (h.4.0 ++ h.0 ∷ map (node_at f) ks))) er
      ∙ ap (λ (es : List Tm). STuple (place x.span) (tms es)) (one_more h.4.0 h.0 (node_at f j) tail) in
      let low = All-same (λ k. k < count f) (j ∷ more.now) x.rest.now (sym er) h.4.5 in
      next f st w h.5 (C.Fields (record x { types = us; rest = more })) j
      (STuple (place x.span) (tms (es ++ node_at f j ∷ tail))) h.4.3.0 h.4.3.1 is h.4.2
      (All-head (λ k. k < count f) j more.now low)
      (λ n m. part_known n m es (node_at f j) tail) (omega (arith, part_nodes es (node_at f j) tail))
      (es, is, h.4.2, h.4.3, field_passes x us h eu, All-tail (λ k. k < count f) j more.now low)

  no_rest : (x : Fields) (h : Offered f st (C.Fields x) ty q) →
      length x.rest.now ≡ 0 → h.1.e ≡ STuple (place x.span) (tms (h.4.0 ++ h.0 ∷ []))
  no_rest x h z = h.4.1 ∙ go x.rest.now z
    where
      go : (ks : List ℕ) → length ks ≡ 0 → STuple (place x.span) (tms (h.4.0 ++ h.0 ∷ map (node_at f) ks))
          ≡ STuple (place x.span) (tms (h.4.0 ++ h.0 ∷ []))
      go [] z = refl
      go (k ∷ ks) z = absurd (omega (arith, z))

  pub field_given : (x : Fields) (us : Vec FType Global) → Offered f st (C.Fields x) ty q →
      map tree us.items ≡ map tree x.types.items ++ tree ty ∷ [] →
      length x.rest.now ≡ 0 → Within (TTuple (tys (map tree us.items))) →
      Goes f st (Ok (Give (T.Tuple us) x.span T.Int)) (offer_work f st x.rest.now)
  field_given x us h eu z wi =
      let w = h.1 in
      given f st w h.5 T.Int st (STuple (place x.span) (tms (h.4.0 ++ h.0 ∷ []))) (T.Tuple us) x.span
      (offer_work f st x.rest.now) refl (task_is w st.around (map bound st.scope.items) h.4.3.0 h.4.3.1) (no_rest x h z)
      (tuple_ok w.around (context w) (place x.span) (h.4.0 ++ h.0 ∷ []) (map tree us.items) (tree (T.Tuple us))
      (field_passes x us h eu) (tree_Tuple us) wi) refl (omega arith)

  pub field_faulty : (x : Fields) (us : Vec FType Global) → Offered f st (C.Fields x) ty q →
      map tree us.items ≡ map tree x.types.items ++ tree ty ∷ [] →
      length x.rest.now ≡ 0 →
      (e : Failure) → Tells e (limits (TTuple (tys (map tree us.items))) (place x.span) nothing) →
      Tells e (FaultOf (top f))
  field_faulty x us h eu z e k =
      let w = h.1 in
      faulty f st w h.5 (STuple (place x.span) (tms (h.4.0 ++ h.0 ∷ []))) e (no_rest x h z)
      (forms.tells_map e _ (FaultNoted (STuple (place x.span) (tms (h.4.0 ++ h.0 ∷ []))) w.around (context w))
      (tuple_limit w.around (context w) (place x.span) (h.4.0 ++ h.0 ∷ []) (map tree us.items)
      (field_passes x us h eu)) k)

  -- a let
  pub let_enters : (s : Span) (b : ℕ) → Offered f st (C.Let s b) ty q → (sc : Vec Binder Global) →
      map bound sc.items ≡ map bound st.scope.items ++ record { ty = tree ty; at = st.around } ∷ [] →
      Enters f (record st { scope = sc }) (C.Body s) b
  let_enters s b h sc e =
      let w = h.1 in
      let bs = map bound st.scope.items in
      let n = st.around in
      let o = subst IsReady (sym (task_is w n bs h.4.2.0 h.4.2.1)) h.4.1 in
      let o' = subst (λ z. IsReady (now st z)) h.4.0 o in
      let room = o'.2 in
      let long : length bs + 1 ≡ length (map bound sc.items) =
      omega (arith, ap length e, length-append bs (record { ty = tree ty; at = n } ∷ [])) in (
        w,
        h.4.3,
        (
          subst (IsScope n) (sym e)
              (scope_push n bs (record { ty = tree ty; at = n }) o'.0 (omega arith, h.2.1, h.2.2)),
          subst (InScope (plain (node_at f b)) n) long o'.1.1,
          omega (arith, room),
        ),
        (
          h.0,
          h.4.0,
          h.4.1,
          h.4.2.0,
          tree ty,
          e ∙ ap₂ (λ (xs : List Bound) (k : ℕ). xs ++ record { ty = tree ty; at = k } ∷ []) h.4.2.1 h.4.2.0,
          (same_type (C.Let s b) h h.4.2).0,
        ),
        h.5,
      )

  pub body_given : (s : Span) → Offered f st (C.Body s) ty q → (sc : Vec Binder Global) →
      sc.items ≡ take (length st.scope.items - 1) st.scope.items →
      Goes f (record st { scope = sc }) (Ok (Give ty s T.Int)) (offer_work f st [])
  body_given s h sc ec =
      let w = h.1 in
      let u = h.4.4 in
      let p = in_let (now st h.0) w u h.4.3 h.4.5 (λ n g. IsTypeOf h.0 n g (tree ty)) h.2 in
      given f st w h.5 T.Int (record st { scope = sc }) (SLet (place s) h.4.0 h.0) ty s (offer_work f st []) refl
      (task_is w st.around (map bound sc.items) h.4.3
      (bounds_pop st.scope.items sc.items w.scope (record { ty = u; at = w.around } ∷ []) h.4.5 ec)) h.4.1
      ((u, h.4.6, p.0), p.1, p.2) refl (omega arith)

  -- a package
  pub pack_refused : (p : Packing) → Offered f st (C.Pack p) ty q → (z : Result Control Failure) (m : ℕ) →
      Stops st E17 q (WType (put 0 (tree p.hidden.now) (tree p.body.now))) (tree ty) z →
      tree ty ≢ put 0 (tree p.hidden.now) (tree p.body.now) → Within (put 0 (tree p.hidden.now) (tree p.body.now)) →
      Goes f st z m
  pack_refused p h z m k ne wi =
      let w = h.1 in
      let made = put 0 (tree p.hidden.now) (tree p.body.now) in
      refused f st w h.5 (SPack (place p.span) (tree p.hidden.now) h.0 (tree p.shape.now)) st E17 q k.0
      (odds w.around (WType made) (tree ty)) z m k.1 (k.2 ∙ ap (λ n. odds n (WType made) (tree ty)) h.4.2.0) h.4.0
      (forms.pack_other w.around (context w) (place p.span) (tree p.hidden.now) (tree p.shape.now) (tree p.body.now)
      (tree ty)
      h.0 (place q) h.4.3 h.4.4 h.4.5 (same_type (C.Pack p) h h.4.2).0 ne wi h.3)

  pub pack_large : (p : Packing) → Offered f st (C.Pack p) ty q → (z : Result Control Failure) (m : ℕ) →
      z ≡ Err (Refused E17 q None) →
      (Within (put 0 (tree p.hidden.now) (tree p.body.now)) → ⊥) → Goes f st z m
  pack_large p h z m ez large =
      let w = h.1 in
      refused f st w h.5 (SPack (place p.span) (tree p.hidden.now) h.0 (tree p.shape.now)) st E17 q None None z m ez
      refl
      h.4.0
      (forms.pack_large w.around (context w) (place p.span) (tree p.hidden.now) (tree p.shape.now) (tree p.body.now)
      (tree ty)
      h.0 (place q) h.4.3 h.4.4 h.4.5 (same_type (C.Pack p) h h.4.2).0 (λ e. large (subst Within e h.2.2)) large h.3)

  pub pack_small : (p : Packing) → Offered f st (C.Pack p) ty q → Within (tree p.body.now)
  pack_small p h = some_within (tree p.body.now) (subst Within h.4.3 h.4.5)

  pack_scope : (p : Packing) (h : Offered f st (C.Pack p) ty q) →
      InScope (plain (SPack (place p.span) (tree p.hidden.now) h.0 (tree p.shape.now))) h.1.around (length h.1.scope)
  pack_scope p h = subst (λ z. InScope (plain z) h.1.around (length h.1.scope)) h.4.0 h.4.1.1

  pub pack_fits : (p : Packing) → Offered f st (C.Pack p) ty q → PutFits 0 (tree p.hidden.now) 0 (tree p.body.now)
  pack_fits p h =
      let room = h.4.1.2 in
      put_fits h.1.around (tree p.hidden.now) (tree p.body.now) (omega (arith, room)) (pack_scope p h).0 h.4.4.0
      (pack_small p h).0

  pub pack_given : (p : Packing) → Offered f st (C.Pack p) ty q → (t : FType) →
      tree ty ≡ put 0 (tree p.hidden.now) (tree p.body.now) → tree t ≡ tree p.shape.now →
      Goes f st (Ok (Give t p.span T.Int)) (offer_work f st [])
  pack_given p h t et eu =
      let w = h.1 in
      let sc = pack_scope p h in
      given f st w h.5 T.Int st (SPack (place p.span) (tree p.hidden.now) h.0 (tree p.shape.now)) t p.span
      (offer_work f st []) refl (task_is w st.around (map bound st.scope.items) h.4.2.0 h.4.2.1) h.4.0
      (forms.pack_ok w.around (context w) (place p.span) (tree p.hidden.now) (tree p.shape.now) (tree p.body.now)
      (tree ty) (tree t) h.0 h.4.3 h.4.4 h.4.5 sc.0 sc.1 (same_type (C.Pack p) h h.4.2).0 et eu) refl (omega arith)

  -- an open
  pub open_refused : (s : Span) (b : ℕ) → Offered f st (C.Open s b) ty q → (z : Result Control Failure) (m : ℕ) →
      Stops st E16 q WPackage (tree ty) z → ((u : Ty) → tree ty ≢ TSome u) → Goes f st z m
  open_refused s b h z m k ne =
      let w = h.1 in
      refused f st w h.5 (SOpen (place s) h.0 (node_at f b)) st E16 q k.0 (odds w.around WPackage (tree ty)) z m k.1
      (k.2 ∙ ap (λ n. odds n WPackage (tree ty)) h.4.2.0) h.4.0
      (forms.open_first w.around (context w) (place s) h.0 (node_at f b) (tree ty) (place q)
      (same_type (C.Open s b) h h.4.2).0 ne h.3)

  pub open_enters : (s : Span) (b : ℕ) → Offered f st (C.Open s b) ty q → (sc : Vec Binder Global) (x : FType) →
      tree ty ≡ TSome (tree x) →
      map bound sc.items ≡ map bound st.scope.items ++ record { ty = tree x; at = st.around + 1 } ∷ [] →
      Enters f (record st { scope = sc; around = st.around + 1 }) (C.Opened s) b
  open_enters s b h sc x et e =
      let w = h.1 in
      let bs = map bound st.scope.items in
      let n = st.around in
      let o = subst IsReady (sym (task_is w n bs h.4.2.0 h.4.2.1)) h.4.1 in
      let o' = subst (λ z. IsReady (now st z)) h.4.0 o in
      let room = o'.2 in
      let long : length bs + 1 ≡ length (map bound sc.items) =
      omega (arith, ap length e, length-append bs (record { ty = tree x; at = n + 1 } ∷ [])) in (
        w,
        h.4.3,
        (
          subst (IsScope (n + 1)) (sym e)
              (scope_push (n + 1) bs (record { ty = tree x; at = n + 1 }) (scope_more n bs o'.0)
              (omega arith, (subst (Below n) et h.2.1).1, some_within (tree x) (subst Within et h.2.2))),
          subst (InScope (plain (node_at f b)) (n + 1)) long o'.1.1,
          omega (arith, room),
        ),
        (
          h.0,
          h.4.0,
          h.4.1,
          ap (λ k. k + 1) h.4.2.0,
          tree x,
          e ∙ ap₂ (λ (xs : List Bound) (k : ℕ). xs ++ record { ty = tree x; at = k + 1 } ∷ []) h.4.2.1 h.4.2.0,
          subst (Passes h.0 w.around (context w)) et (same_type (C.Open s b) h h.4.2).0,
        ),
        h.5,
      )

  opened_type : (s : Span) (h : Offered f st (C.Opened s) ty q) →
      IsTypeOf h.0 (h.1.around + 1) (in_open h.4.4 (context h.1)) (tree ty)
  opened_type s h = in_opened (now st h.0) h.1 h.4.4 h.4.2 h.4.3 h.4.5 (λ n g. IsTypeOf h.0 n g (tree ty)) h.2

  pub opened_last : (s : Span) → Offered f st (C.Opened s) ty q →
      (bs : List Binder) × (b : Binder) × (st.scope.items ≡ bs ++ b ∷ [])
  opened_last s h =
      let w = h.1 in
      last_bound st.scope.items w.scope (record { ty = h.4.4; at = w.around + 1 }) h.4.5

  pub opened_puts : (s : Span) → Offered f st (C.Opened s) ty q → PutFits 0 TInt 0 (tree ty)
  opened_puts s h = put_fits 0 TInt (tree ty) (omega arith) tt (omega arith) h.2.2.0

  pub opened_shifts : (s : Span) → Offered f st (C.Opened s) ty q → ShiftFits 1 0 (outside (tree ty))
  opened_shifts s h =
      let w = h.1 in
      let room = h.4.2.2 in
      let p = opened_type s h in
      shift_fits 1 w.around (outside (tree ty)) (omega (arith, room)) (put_bound w.around TInt (tree ty) tt p.1)
      (outside_depth (tree ty) p.2.0)

  pub opened_refused : (s : Span) → Offered f st (C.Opened s) ty q →
      (st' : State) (z : Result Control Failure) (m : ℕ) →
      Stops st E18 q WOutside (tree ty) z → tree ty ≢ shift 1 0 (outside (tree ty)) → Goes f st' z m
  opened_refused s h st' z m k ne =
      let w = h.1 in
      refused f st w h.5 (SOpen (place s) h.4.0 h.0) st' E18 q k.0 (odds (w.around + 1) WOutside (tree ty)) z m k.1
      (k.2 ∙ ap (λ n. odds n WOutside (tree ty)) h.4.3) h.4.1
      (forms.open_escapes w.around (context w) (place s) h.4.0 h.0 h.4.4 (tree ty) (place q) h.4.6
      (opened_type s h).0 ne h.3)

  pub opened_given : (s : Span) → Offered f st (C.Opened s) ty q → (sc : Vec Binder Global) (t o : FType) (n : ℕ) →
      map bound st.scope.items ≡ map bound sc.items ++ record { ty = tree o; at = n } ∷ [] →
      (tree ty ≡ shift 1 0 (tree t)) × (tree t ≡ outside (tree ty)) →
      Goes f (record st { scope = sc; around = st.around - 1 }) (Ok (Give t s o)) (offer_work f st [])
  opened_given s h sc t o n ec out =
      let w = h.1 in
      let en = h.4.3 in
      let kept = same_from_push (map bound sc.items) w.scope (record { ty = tree o; at = n }) (record {
        ty = h.4.4;
        at =
            w.around + 1;
      }) (sym ec ∙ h.4.5) in
      given f st w h.5 o (record st { scope = sc; around = st.around - 1 }) (SOpen (place s) h.4.0 h.0) t s
      (offer_work f st []) refl
      (task_is w (st.around - 1) (map bound sc.items) (omega (arith, en)) kept.0) h.4.1
      (forms.open_ok w.around (context w) (place s) h.4.0 h.0 h.4.4 (tree ty) (tree t) h.4.6
      (opened_type s h) out.0 out.1)
      refl (omega arith)

  -- references
  pub ref_refused : (s : Span) → Offered f st (C.Ref s) ty q → (x : Failure) →
      Tells x (limits (TRef (tree ty)) (place s) nothing) → Tells x (FaultOf (top f))
  ref_refused s h x k =
      let w = h.1 in
      faulty f st w h.5 (SRef (place s) h.0) x h.4.0
      (forms.tells_map x _ (FaultNoted (SRef (place s) h.0) w.around (context w))
      (forms.ref_limit w.around (context w) (place s) h.0 (tree ty) (same_type (C.Ref s) h h.4.2).0) k)

  pub ref_given : (s : Span) → Offered f st (C.Ref s) ty q → (t : FType) → tree t ≡ TRef (tree ty) →
      Within (TRef (tree ty)) → Goes f st (Ok (Give t s T.Int)) (offer_work f st [])
  ref_given s h t et wi =
      let w = h.1 in
      given f st w h.5 T.Int st (SRef (place s) h.0) t s (offer_work f st []) refl
      (task_is w st.around (map bound st.scope.items) h.4.2.0 h.4.2.1) h.4.0
      (forms.ref_ok w.around (context w) (place s) h.0 (tree ty) (tree t) (same_type (C.Ref s) h h.4.2) wi et) refl
      (omega arith)

  pub deref_refused : (s : Span) → Offered f st (C.Deref s) ty q → (z : Result Control Failure) (m : ℕ) →
      Stops st E21 q WReference (tree ty) z → ((u : Ty) → tree ty ≢ TRef u) → Goes f st z m
  deref_refused s h z m k ne =
      let w = h.1 in
      refused f st w h.5 (SDeref (place s) h.0) st E21 q k.0 (odds w.around WReference (tree ty)) z m k.1
      (k.2 ∙ ap (λ n. odds n WReference (tree ty)) h.4.2.0) h.4.0
      (forms.deref_other w.around (context w) (place s) h.0 (tree ty) (place q) (same_type (C.Deref s) h h.4.2).0 ne
      h.3)

  pub deref_given : (s : Span) → Offered f st (C.Deref s) ty q → (t : FType) → tree ty ≡ TRef (tree t) →
      Goes f st (Ok (Give t s T.Int)) (offer_work f st [])
  deref_given s h t et =
      let w = h.1 in
      given f st w h.5 T.Int st (SDeref (place s) h.0) t s (offer_work f st []) refl
      (task_is w st.around (map bound st.scope.items) h.4.2.0 h.4.2.1) h.4.0
      (forms.deref_ok w.around (context w) (place s) h.0 (tree ty) (tree t) (same_type (C.Deref s) h h.4.2) et) refl
      (omega arith)

  pub target_refused : (s : Span) (b : ℕ) → Offered f st (C.Target s b) ty q → (z : Result Control Failure) (m : ℕ) →
      Stops st E21 q WReference (tree ty) z → ((u : Ty) → tree ty ≢ TRef u) → Goes f st z m
  target_refused s b h z m k ne =
      let w = h.1 in
      refused f st w h.5 (SAssign (place s) h.0 (node_at f b)) st E21 q k.0 (odds w.around WReference (tree ty)) z m k.1
      (k.2 ∙ ap (λ n. odds n WReference (tree ty)) h.4.2.0) h.4.0
      (forms.assign_first w.around (context w) (place s) h.0 (node_at f b) (tree ty) (place q)
      (same_type (C.Target s b) h h.4.2).0 ne h.3)

  pub assigned_refused : (x : Assignment) → Offered f st (C.Assigned x) ty q →
      (z : Result Control Failure) (m : ℕ) →
      Stops st E22 q (WType (tree x.cell)) (tree ty) z → tree ty ≢ tree x.cell → Goes f st z m
  assigned_refused x h z m k ne =
      let w = h.1 in
      refused f st w h.5 (SAssign (place x.span) h.4.0 h.0) st E22 q k.0 (odds w.around (WType (tree x.cell)) (tree ty))
      z m k.1 (k.2 ∙ ap (λ n. odds n (WType (tree x.cell)) (tree ty)) h.4.3.0) h.4.1
      (forms.assign_other w.around (context w) (place x.span) h.4.0 h.0 (tree x.cell) (tree ty) (place q) h.4.4
      (same_type (C.Assigned x) h h.4.3).0 ne h.3)

  pub assigned_given : (x : Assignment) → Offered f st (C.Assigned x) ty q → (t : FType) →
      tree t ≡ TTuple NoTys → tree ty ≡ tree x.cell → Goes f st (Ok (Give t x.span T.Int)) (offer_work f st [])
  assigned_given x h t eu et =
      let w = h.1 in
      let wi : Within (TTuple NoTys) = (omega arith, omega arith) in
      given f st w h.5 T.Int st (SAssign (place x.span) h.4.0 h.0) t x.span (offer_work f st []) refl
      (task_is w st.around (map bound st.scope.items) h.4.3.0 h.4.3.1) h.4.1 (
        (tree x.cell, eu, h.4.4, subst (Passes h.0 w.around (context w)) et (same_type (C.Assigned x) h h.4.3).0),
        subst (Below w.around) (sym eu) tt,
        subst Within (sym eu) wi,
      ) refl (omega arith)
