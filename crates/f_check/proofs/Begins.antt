-- The first step of each form.
use Rattle.std.proofs.Common.{◌≡◌, ℕ, ◌+◌, ◌*◌, ◌<◌, ◌≤◌, ◌∙◌, refl, ap, sym, subst, arith, All, List, [], ◌∷◌, ◌++◌}
use Rattle.std.proofs.Common.{map, length, Vec, Global, Bor, Ok}
use Rattle.std.proofs.lemmas.List.{length-append}
use Rattle.std.proofs.lemmas.List.Elements.{All-head, All-tail, All-same}
use Rattle.idx_core.specs.declared.arith.Op.{Op}
use Rattle.idx_core.specs.declared.span.Span.{Span}
use Rattle.f_terms.specs.Ty.{TArrow, TTuple, TSome, NoTys, Below}
use Rattle.f_terms.specs.Tm.{Tm, SFix, SApp, SGen, SInst, STuple, SProj, SArith, SIf0, SLet, SPack, SOpen, SRef, SDeref}
use Rattle.f_terms.specs.Tm.{SAssign, plain, plain_all, tms, NoTms}
use Rattle.f_terms.specs.Limits.{nodes, nodes_all, Within}
use Rattle.f_terms.specs.Scope.{InScope}
use Rattle.f_terms.specs.Read.{tree, place}
use Rattle.f_terms.specs.declared.types.FType.{FType}
use Rattle.f_terms.specs.Shape.{children, kids, shape_tree, node_tree}
use Rattle.f_terms.specs.declared.node.FShape.TheVariants as S
use Rattle.f_terms.specs.ReadTerm.{count, node_at}
use Rattle.f_terms.specs.declared.node.FTerm.{FTerm}
use Rattle.f_terms.specs.declared.node.FNode.{FNode}
use Rattle.f_terms.specs.declared.node.FShape.{FShape}
use Rattle.f_check.specs.Walk.{Part, AllPass, context, fix_names, Goes, now, Opens, Leads, Enters, all_nodes, rest_of}
use Rattle.f_check.specs.Walk.{frame_work, left, open_work, work}
use Rattle.f_check.specs.Scopes.{bound, IsScope}
use Rattle.f_check.specs.declared.scope.Binder.{Binder}
use Rattle.f_check.specs.declared.frame.Head.{Head}
use Rattle.f_check.specs.declared.frame.Fields.{Fields}
use Rattle.f_check.specs.declared.frame.Packing.{Packing}
use Rattle.f_check.specs.declared.frame.Frame.{Frame}
use Rattle.f_check.specs.declared.frame.Frame.TheVariants as C
use Rattle.f_terms.specs.declared.types.FType.TheVariants as T
use Rattle.f_terms.proofs.Limited.{arrow_within}
use Rattle.f_check.proofs.Scoping.{scope_more, scope_two}
use Rattle.f_check.specs.declared.frame.State.{State}
use Rattle.f_check.specs.declared.frame.Control.TheVariants.{Run, Give}

pub form_at : (f : FTerm) (i : ℕ) (n : FNode) (shape : FShape) → node_at f i ≡ node_tree (node_at f) n →
    n.shape ≡ shape → node_at f i ≡ shape_tree (node_at f) (place n.span) shape
form_at f i n shape e is = e ∙ ap (shape_tree (node_at f) (place n.span)) is

-- a part under the same names is next
pub enter_same : (f : FTerm) (st : State) (fr : Frame) (j : ℕ) (e : Tm) → Opens f st e → j < count f →
    ((n m : ℕ) → InScope (plain e) n m → InScope (plain (node_at f j)) n m) →
    nodes (plain (node_at f j)) + all_nodes f (rest_of fr) + 1 ≤ nodes (plain e) →
    Part f fr (now st (node_at f j)) (now st e) →
    Enters f st fr j × (2 * nodes (plain (node_at f j)) + frame_work f fr + left f st < open_work f st e)
enter_same f st fr j e h lt in' few part =
    let room = h.0.2 in (
      (now st e, lt, (h.0.0, in' _ _ h.0.1, omega (arith, few, room)), part, h.1),
      omega (arith, few),
    )

-- the frames of a use at a type, and of a test
abbrev used : Span → Bor FType → Frame
used s t = C.Inst (record { span = s; ty = t })

abbrev tested : Span → ℕ → ℕ → Frame
tested s a b = C.Test (record { span = s; zero = a; other = b })

-- the forms whose parts stand under the same names
module _ (f : FTerm) (st : State) (i : ℕ) (n : FNode) (h : Leads f st (Run i))
    (is : node_at f i ≡ node_tree (node_at f) n) (low : All (λ k. k < i) (kids n)) where
  pub opens : (shape : FShape) → n.shape ≡ shape → Opens f st (shape_tree (node_at f) (place n.span) shape)
  opens shape e = subst (Opens f st) (form_at f i n shape is e) h.1

  pub inside : (shape : FShape) → n.shape ≡ shape → All (λ k. k < count f) (children shape)
  inside shape e =
      subst (λ x. All (λ k. k < count f) (children x)) e (λ j d lt. let b = low j d lt in omega (arith, b, h.0))

  pub work_is : (shape : FShape) → n.shape ≡ shape → open_work f st (shape_tree (node_at f) (place n.span) shape)
      ≡ work f st (Run i)
  work_is shape e = ap (open_work f st) (sym (form_at f i n shape is e))

  by_form : (shape : FShape) → n.shape ≡ shape → (fr : Frame) (j : ℕ) →
      (let e = shape_tree (node_at f) (place n.span) shape in
      Enters f st fr j × (2 * nodes (plain (node_at f j)) + frame_work f fr + left f st < open_work f st e)) →
      Enters f st fr j × (2 * nodes (plain (node_at f j)) + frame_work f fr + left f st < work f st (Run i))
  by_form shape e fr j x =
      (x.0, subst (λ m. 2 * nodes (plain (node_at f j)) + frame_work f fr + left f st < m) (work_is shape e) x.1)

  pub app : (a x : ℕ) → n.shape ≡ S.App a x → Enters f st (C.Function n.span x) a
      × (2 * nodes (plain (node_at f a)) + frame_work f (C.Function n.span x) + left f st < work f st (Run i))
  app a x e =
      let o = opens (S.App a x) e in
      let ks = inside (S.App a x) e in
      by_form (S.App a x) e (C.Function n.span x) a
      (enter_same f st (C.Function n.span x) a (SApp (place n.span) (node_at f a) (node_at f x)) o
      (ks 0 0 (omega arith)) (λ n m k. k.0) (omega arith) (refl, o.0, (refl, refl), ks 1 0 (omega arith)))

  pub inst : (a : ℕ) (t : Bor FType) → n.shape ≡ S.Inst a t.now → Enters f st (used n.span t) a
      × (2 * nodes (plain (node_at f a)) + frame_work f (used n.span t) + left f st < work f st (Run i))
  inst a t e =
      let o = opens (S.Inst a t.now) e in
      let ks = inside (S.Inst a t.now) e in
      by_form (S.Inst a t.now) e (used n.span t) a
      (enter_same f st (used n.span t) a (SInst (place n.span) (node_at f a) (tree t.now)) o (ks 0 0 (omega arith))
      (λ n m k. k.0) (omega arith) (refl, o.0, (refl, refl)))

  pub proj : (k a : ℕ) → n.shape ≡ S.Proj k a → Enters f st (C.Proj n.span k) a
      × (2 * nodes (plain (node_at f a)) + frame_work f (C.Proj n.span k) + left f st < work f st (Run i))
  proj k a e =
      let o = opens (S.Proj k a) e in
      let ks = inside (S.Proj k a) e in
      by_form (S.Proj k a) e (C.Proj n.span k) a
      (enter_same f st (C.Proj n.span k) a (SProj (place n.span) k (node_at f a)) o (ks 0 0 (omega arith)) (λ n m k. k)
      (omega arith) (refl, o.0, (refl, refl)))

  pub arith_form : (op : Op) (a b : ℕ) → n.shape ≡ S.Arith op a b → Enters f st (C.Left n.span b) a
      × (2 * nodes (plain (node_at f a)) + frame_work f (C.Left n.span b) + left f st < work f st (Run i))
  arith_form op a b e =
      let o = opens (S.Arith op a b) e in
      let ks = inside (S.Arith op a b) e in
      by_form (S.Arith op a b) e (C.Left n.span b) a
      (enter_same f st (C.Left n.span b) a (SArith (place n.span) op (node_at f a) (node_at f b)) o
      (ks 0 0 (omega arith)) (λ n m k. k.0) (omega arith) (op, refl, o.0, (refl, refl), ks 1 0 (omega arith)))

  pub let_form : (a b : ℕ) → n.shape ≡ S.Let a b → Enters f st (C.Let n.span b) a
      × (2 * nodes (plain (node_at f a)) + frame_work f (C.Let n.span b) + left f st < work f st (Run i))
  let_form a b e =
      let o = opens (S.Let a b) e in
      let ks = inside (S.Let a b) e in
      by_form (S.Let a b) e (C.Let n.span b) a
      (enter_same f st (C.Let n.span b) a (SLet (place n.span) (node_at f a) (node_at f b)) o (ks 0 0 (omega arith))
      (λ n m k. k.0) (omega arith) (refl, o.0, (refl, refl), ks 1 0 (omega arith)))

  pub open_form : (a b : ℕ) → n.shape ≡ S.Open a b → Enters f st (C.Open n.span b) a
      × (2 * nodes (plain (node_at f a)) + frame_work f (C.Open n.span b) + left f st < work f st (Run i))
  open_form a b e =
      let o = opens (S.Open a b) e in
      let ks = inside (S.Open a b) e in
      by_form (S.Open a b) e (C.Open n.span b) a
      (enter_same f st (C.Open n.span b) a (SOpen (place n.span) (node_at f a) (node_at f b)) o (ks 0 0 (omega arith))
      (λ n m k. k.0) (omega arith) (refl, o.0, (refl, refl), ks 1 0 (omega arith)))

  pub ref_form : (a : ℕ) → n.shape ≡ S.Ref a → Enters f st (C.Ref n.span) a
      × (2 * nodes (plain (node_at f a)) + frame_work f (C.Ref n.span) + left f st < work f st (Run i))
  ref_form a e =
      let o = opens (S.Ref a) e in
      let ks = inside (S.Ref a) e in
      by_form (S.Ref a) e (C.Ref n.span) a
      (enter_same f st (C.Ref n.span) a (SRef (place n.span) (node_at f a)) o (ks 0 0 (omega arith)) (λ n m k. k)
      (omega arith) (refl, o.0, (refl, refl)))

  pub deref_form : (a : ℕ) → n.shape ≡ S.Deref a → Enters f st (C.Deref n.span) a
      × (2 * nodes (plain (node_at f a)) + frame_work f (C.Deref n.span) + left f st < work f st (Run i))
  deref_form a e =
      let o = opens (S.Deref a) e in
      let ks = inside (S.Deref a) e in
      by_form (S.Deref a) e (C.Deref n.span) a
      (enter_same f st (C.Deref n.span) a (SDeref (place n.span) (node_at f a)) o (ks 0 0 (omega arith)) (λ n m k. k)
      (omega arith) (refl, o.0, (refl, refl)))

  pub assign_form : (a b : ℕ) → n.shape ≡ S.Assign a b → Enters f st (C.Target n.span b) a
      × (2 * nodes (plain (node_at f a)) + frame_work f (C.Target n.span b) + left f st < work f st (Run i))
  assign_form a b e =
      let o = opens (S.Assign a b) e in
      let ks = inside (S.Assign a b) e in
      by_form (S.Assign a b) e (C.Target n.span b) a
      (enter_same f st (C.Target n.span b) a (SAssign (place n.span) (node_at f a) (node_at f b)) o
      (ks 0 0 (omega arith)) (λ n m k. k.0) (omega arith) (refl, o.0, (refl, refl), ks 1 0 (omega arith)))

  pub if_form : (c a b : ℕ) → n.shape ≡ S.If0 c a b → Enters f st (tested n.span a b) c
      × (2 * nodes (plain (node_at f c)) + frame_work f (tested n.span a b) + left f st < work f st (Run i))
  if_form c a b e =
      let o = opens (S.If0 c a b) e in
      let ks = inside (S.If0 c a b) e in
      by_form (S.If0 c a b) e (tested n.span a b) c
      (enter_same f st (tested n.span a b) c (SIf0 (place n.span) (node_at f c) (node_at f a) (node_at f b)) o
      (ks 0 0 (omega arith)) (λ n m k. k.0) (omega arith)
      (refl, o.0, (refl, refl), ks 1 0 (omega arith), ks 2 0 (omega arith)))

module _ (f : FTerm) (st : State) where
  -- the body of a function
  pub fix_enters : (x : Head) (j : ℕ) (sc : Vec Binder Global) →
      Opens f st (SFix (place x.span) (tree x.arg.now) (tree x.res.now) (node_at f j)) → j < count f →
      Within (TArrow (tree x.arg.now) (tree x.res.now)) →
      map bound sc.items ≡ map bound st.scope.items ++ fix_names st.around (tree x.arg.now) (tree x.res.now) →
      Enters f (record st { scope = sc }) (C.Fix x) j
  fix_enters x j sc o lt w e =
      let bs = map bound st.scope.items in
      let long : length bs + 2 ≡ length (map bound sc.items) =
      omega (arith, ap length e, length-append bs (fix_names st.around (tree x.arg.now) (tree x.res.now))) in
      let room = o.0.2 in
      let wa = arrow_within (tree x.arg.now) (tree x.res.now) w in (
        now st (SFix (place x.span) (tree x.arg.now) (tree x.res.now) (node_at f j)),
        lt,
        (
          subst (IsScope st.around) (sym e)
              (scope_two st.around bs (record { ty = TArrow (tree x.arg.now) (tree x.res.now); at = st.around })
              (record { ty = tree x.arg.now; at = st.around }) o.0.0
              (omega arith, (o.0.1.0, o.0.1.1), w) (omega arith, o.0.1.0, wa.0)),
          subst (InScope (plain (node_at f j)) st.around) long o.0.1.2,
          omega (arith, room),
        ),
        (refl, o.0, refl, e, w),
        o.1,
      )

  -- the part of a package
  pub pack_enters : (p : Packing) (j : ℕ) →
      Opens f st (SPack (place p.span) (tree p.hidden.now) (node_at f j) (tree p.shape.now)) → j < count f →
      tree p.shape.now ≡ TSome (tree p.body.now) → Within (tree p.hidden.now) → Within (tree p.shape.now) →
      Enters f st (C.Pack p) j
  pack_enters p j o lt is w v =
      let room = o.0.2 in (
        now st (SPack (place p.span) (tree p.hidden.now) (node_at f j) (tree p.shape.now)),
        lt,
        (o.0.0, o.0.1.2, omega (arith, room)),
        (refl, o.0, (refl, refl), is, w, v),
        o.1,
      )

  -- the body of a type abstraction
  pub gen_enters : (s : Span) (j : ℕ) → Opens f st (SGen (place s) (node_at f j)) → j < count f →
      Enters f (record st { around = st.around + 1 }) (C.Gen s) j
  gen_enters s j o lt =
      let room = o.0.2 in (
        now st (SGen (place s) (node_at f j)),
        lt,
        (scope_more st.around (map bound st.scope.items) o.0.0, o.0.1, omega (arith, room)),
        (refl, o.0, refl, refl),
        o.1,
      )

  pub nodes_of : (ks : List ℕ) → all_nodes f ks ≡ nodes_all (plain_all (tms (map (node_at f) ks)))
  nodes_of [] = refl
  nodes_of (k ∷ ks) = ap (λ n. nodes (plain (node_at f k)) + n) (nodes_of ks)

  -- the first field of a tuple
  pub tuple_enters : (x : Fields) (es : List ℕ) (j : ℕ) →
      Opens f st (STuple (place x.span) (tms (map (node_at f) es))) → All (λ k. k < count f) es →
      es ≡ j ∷ x.rest.now → x.types.items ≡ [] →
      Enters f st (C.Fields x) j
      × (2 * nodes (plain (node_at f j)) + frame_work f (C.Fields x) + left f st
      < open_work f st (STuple (place x.span) (tms (map (node_at f) es))))
  tuple_enters x es j o low e et =
      let is = ap (λ (ks : List ℕ). STuple (place x.span) (tms (map (node_at f) ks))) e in
      let o' = subst (Opens f st) is o in
      let low' = All-same (λ k. k < count f) (j ∷ x.rest.now) es (sym e) low in
      let w = now st (STuple (place x.span) (tms (map (node_at f) (j ∷ x.rest.now)))) in
      let y = enter_same f st (C.Fields x) j (STuple (place x.span) (tms (map (node_at f) (j ∷ x.rest.now)))) o'
      (All-head (λ k. k < count f) j x.rest.now low') (λ n m k. k.0) (omega (arith, nodes_of x.rest.now)) (
        [],
        refl,
        o'.0,
        (refl, refl),
        subst (λ (xs : List FType). AllPass w.around (context w) [] (map tree xs))
            (sym et) tt,
        All-tail (λ k. k < count f) j x.rest.now low',
      ) in (
        y.0,
        subst (λ z. 2 * nodes (plain (node_at f j)) + frame_work f (C.Fields x) + left f st
            < open_work f st z) (sym is) y.1,
      )

  -- a tuple with no field
  pub tuple_empty : (s : Span) (es : List ℕ) (t : FType) → length es ≡ 0 → tree t ≡ TTuple NoTys →
      Opens f st (STuple (place s) (tms (map (node_at f) es))) →
      Goes f st (Ok (Give t s T.Int)) (open_work f st (STuple (place s) (tms (map (node_at f) es))))
  tuple_empty s [] t e et o =
      let w : Within (TTuple NoTys) = (omega arith, omega arith) in (
        (
          STuple (place s) NoTms,
          (((NoTys, et, refl, w), subst (Below st.around) (sym et) tt, subst Within (sym et) w), refl, o.1),
        ),
        omega arith,
      )
  tuple_empty s (k ∷ es) t e et o = absurd (omega (arith, e))
