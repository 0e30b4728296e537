-- The steps of a checker.
use Rattle.std.proofs.Common.{◌≡◌, ℕ, ◌+◌, ◌*◌, ◌<◌, [], ◌∷◌, ◌++◌, map, refl, ap, ◌∙◌, sym, subst, arith, inl, inr}
use Rattle.std.proofs.Common.{Ok, Vec, Global}
use Rattle.calc_core.specs.Stack.{Chain, stack_sum}
use Rattle.calc_core.proofs.Stacks.{chain_push, chain_pop, chain_up, sum_push}
use Rattle.f_terms.specs.Ty.{Ty, Tys, NoTys, MoreTys, TInt, TArrow, TRef}
use Rattle.f_terms.specs.Tm.{Tm, Spn, plain}
use Rattle.f_terms.specs.Limits.{nodes}
use Rattle.f_terms.specs.Typing.{raised, in_fix, in_open}
use Rattle.f_terms.specs.Faults.{Note, FaultNoted}
use Rattle.f_terms.specs.Read.{tree, place}
use Rattle.idx_core.specs.declared.span.Span.{Span}
use Rattle.f_terms.specs.declared.types.FType.{FType}
use Rattle.f_terms.specs.ReadTerm.{node_at}
use Rattle.f_terms.specs.declared.node.FTerm.{FTerm}
use Rattle.f_check.specs.Scopes.{names}
use Rattle.f_check.specs.Told.{Tells}
use Rattle.f_check.specs.declared.failure.Failure.{Failure}
use Rattle.f_check.specs.Walk.{Task, context, FaultOf, fix_names, IsReady, Same, Part, top, now, Holds, Leads, Offered}
use Rattle.f_check.specs.Walk.{Enters, rest_of, frame_work, left, offer_work, work, Goes}
use Rattle.f_check.specs.declared.frame.Frame.{Frame}
use Rattle.f_check.specs.declared.frame.Frame.TheVariants as C
use Rattle.f_check.specs.declared.frame.Control.TheVariants.{Run, Give}
use Rattle.f_check.specs.declared.frame.State.{State}
use Rattle.f_check.proofs.Forms.{tells_map}
use Rattle.f_check.proofs.Forms as forms
use Rattle.f_check.proofs.Rows.{fault_part}
use Rattle.f_check.proofs.Scoping.{push_now, push_both, raised_names}

-- one frame more
pub entered : (f : FTerm) (st : State) (fs : Vec Frame Global) (fr : Frame) (j : ℕ) →
    fs.items ≡ st.frames.items ++ fr ∷ [] → Enters f st fr j →
    (m : ℕ) → 2 * nodes (plain (node_at f j)) + frame_work f fr + left f st < m →
    Goes f (record st { frames = fs }) (Ok (Run j)) m
entered f st fs fr j e h m lt = (
  (
    h.1,
    (
      h.2,
      subst (λ gs. Chain (Part f) gs (now st (node_at f j)) (top f)) (sym e)
          (chain_push (Part f) st.frames.items fr (now st (node_at f j)) h.0 (top f) h.4 h.3),
    ),
  ),
  omega (arith, lt, ap (stack_sum (frame_work f)) e, sum_push (frame_work f) st.frames.items fr),
)

-- what holds under the same names
pub moved : (t w : Task) → Same t w → (P : ℕ → Tys → Type 0) → P t.around (context t) → P w.around (context w)
moved t w h P k =
    subst (λ bs. P w.around (names w.around NoTys bs)) h.1 (subst (λ n. P n (names n NoTys t.scope)) h.0 k)

-- what holds in the body of a function
pub in_body : (t w : Task) (a r : Ty) → t.around ≡ w.around → t.scope ≡ w.scope ++ fix_names w.around a r →
    (P : ℕ → Tys → Type 0) → P t.around (context t) → P w.around (in_fix a r (context w))
in_body t w a r en es P k =
    let e : names w.around NoTys t.scope ≡ in_fix a r (context w) =
    ap (names w.around NoTys) es ∙ push_both w.around NoTys w.scope (TArrow a r) a in
    subst (P w.around) e (subst (λ n. P n (names n NoTys t.scope)) en k)

-- what holds in the second part of a let
pub in_let : (t w : Task) (u : Ty) → t.around ≡ w.around → t.scope ≡ w.scope ++ record { ty = u; at = w.around } ∷ [] →
    (P : ℕ → Tys → Type 0) → P t.around (context t) → P w.around (MoreTys u (context w))
in_let t w u en es P k =
    let e : names w.around NoTys t.scope ≡ MoreTys u (context w) =
    ap (names w.around NoTys) es ∙ push_now w.around NoTys w.scope u in
    subst (P w.around) e (subst (λ n. P n (names n NoTys t.scope)) en k)

-- what holds in the second part of an open
pub in_opened : (t w : Task) (u : Ty) → IsReady w → t.around ≡ w.around + 1 →
    t.scope ≡ w.scope ++ record { ty = u; at = w.around + 1 } ∷ [] →
    (P : ℕ → Tys → Type 0) → P t.around (context t) → P (w.around + 1) (in_open u (context w))
in_opened t w u ok en es P k =
    let n = w.around + 1 in
    let e : names n NoTys t.scope ≡ in_open u (context w) = ap (names n NoTys) es ∙ push_now n NoTys w.scope u
    ∙ ap (MoreTys u) (sym (raised_names w.around NoTys w.scope ok.0)) in
    subst (P n) e (subst (λ n. P n (names n NoTys t.scope)) en k)

-- what holds in the body of a type abstraction
pub in_gen : (t w : Task) → IsReady w → t.around ≡ w.around + 1 → t.scope ≡ w.scope → (P : ℕ → Tys → Type 0) →
    P t.around (context t) → P (w.around + 1) (raised (context w))
in_gen t w ok en es P k =
    subst (P (w.around + 1)) (ap (names (w.around + 1) NoTys) es ∙ sym (raised_names w.around NoTys w.scope ok.0))
    (subst (λ n. P n (names n NoTys t.scope)) en k)

-- a fault of the part is one of the whole form
module _ (f : FTerm) (c : Note) (p : Spn) where
  up : (fr : Frame) (t w : Task) → Part f fr t w → FaultOf t c p → FaultOf w c p
  up fr t w h k = go fr h
    where
      same : Same t w → FaultNoted t.e w.around (context w) c p
      same s = moved t w s (λ n g. FaultNoted t.e n g c p) k

      back : (e : Tm) → w.e ≡ e → FaultNoted e w.around (context w) c p → FaultOf w c p
      back e is x = subst (λ z. FaultNoted z w.around (context w) c p) (sym is) x

      go : (fr : Frame) → Part f fr t w → FaultOf w c p
      go (C.Fix x) h =
          let body = in_body t w (tree x.arg.now) (tree x.res.now) h.2 h.3 (λ n g. FaultNoted t.e n g c p) k in
          back _ h.0 (inr (h.4.0, inr (h.4.1, inl body)))
      go (C.Function s x) h = back _ h.0 (inl (same h.2))
      go (C.Argument x) h = back _ h.1 (inr (TArrow (tree x.arg) (tree x.res), h.4.0, inl (same h.3)))
      go (C.Gen s) h = back _ h.0 (inl (in_gen t w h.1 h.2 h.3 (λ n g. FaultNoted t.e n g c p) k))
      go (C.Inst x) h = back _ h.0 (inl (same h.2))
      go (C.Fields x) h =
          let more = map (node_at f) x.rest.now in
          back _ h.1 (inl (fault_part w.around (context w) h.0 (map tree x.types.items) t.e more h.4 c p (same h.3)))
      go (C.Proj s i) h = back _ h.0 (inl (same h.2))
      go (C.Left s b) h = back _ h.1 (inl (same h.3))
      go (C.Right s) h = back _ h.2 (inr (TInt, h.5, inr (refl, inl (same h.4))))
      go (C.Test x) h = back _ h.0 (inl (same h.2))
      go (C.Zero s b) h = back _ h.1 (inr (TInt, h.4, inr (refl, inl (same h.3))))
      go (C.Other s z) h = back _ h.2 (inr (TInt, h.5, inr (refl, inr (tree z, h.6.0, inl (same h.4)))))
      go (C.Let s b) h = back _ h.0 (inl (same h.2))
      go (C.Body s) h = back _ h.1 (inr (h.4, h.6, in_let t w h.4 h.3 h.5 (λ n g. FaultNoted t.e n g c p) k))
      go (C.Pack x) h =
          back _ h.0 (forms.pack_part w.around (context w) (place x.span) (tree x.hidden.now) (tree x.shape.now)
          (tree x.body.now)
          t.e h.3 h.4 h.5 c p (same h.2))
      go (C.Open s b) h = back _ h.0 (inl (same h.2))
      go (C.Opened s) h =
          back _ h.1 (forms.open_second w.around (context w) (place s) h.0 t.e h.4 h.6 c p
          (in_opened t w h.4 h.2 h.3 h.5 (λ n g. FaultNoted t.e n g c p) k))
      go (C.Ref s) h = back _ h.0 (inl (same h.2))
      go (C.Deref s) h = back _ h.0 (inl (same h.2))
      go (C.Target s b) h = back _ h.0 (inl (same h.2))
      go (C.Assigned x) h = back _ h.1 (inr (TRef (tree x.cell), h.4, inl (same h.3)))

-- a fault of a task is the fault of the whole
pub fails : (f : FTerm) (st : State) (w : Task) → Holds f st w → (e : Failure) → Tells e (FaultOf w) →
    Tells e (FaultOf (top f))
fails f st w h e k = tells_map e (FaultOf w) (FaultOf (top f))
    (λ c p x. chain_up (Part f) (λ t. FaultOf t c p) (up f c p) st.frames.items w (top f) h x) k

-- the last frame is taken
pub offered : (f : FTerm) (st : State) (fs : Vec Frame Global) (fr : Frame) (ty o : FType) (q : Span) →
    st.frames.items ≡ fs.items ++ fr ∷ [] → Leads f st (Give ty q o) →
    Offered f (record st { frames = fs }) fr ty q
    × (offer_work f (record st { frames = fs }) (rest_of fr) ≡ work f st (Give ty q o))
offered f st fs fr ty o q e h =
    let p = chain_pop (Part f) fs.items fr (now st h.0) (top f)
    (subst (λ gs. Chain (Part f) gs (now st h.0) (top f)) e h.1.2) in (
      (h.0, p.0, h.1.0, h.1.1, p.1, p.2),
      omega (arith, ap (stack_sum (frame_work f)) e, sum_push (frame_work f) fs.items fr),
    )
