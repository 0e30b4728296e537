-- The steps of the walk, with the types that are noted.
use Rattle.std.proofs.Common.{◌+◌, Vec, Global, ◌≡◌, ◌≤◌, ◌<◌, ℕ, suc, ◌-◌, List, [], ◌∷◌, ◌++◌, map, length}
use Rattle.std.proofs.Common.{slice_set, refl, ap, ap₂, ◌∙◌, sym, subst, arith, All, append_assoc}
use Rattle.std.proofs.lemmas.List.{get_or-set_same, length-set, same_from_push}
use Rattle.std.proofs.lemmas.List.Elements.{All-nil, All-head, All-tail, All-push, All-same}
use Rattle.idx_core.specs.declared.span.Span.{Span}
use Rattle.f_terms.specs.Ty.{Ty, Tys, NoTys, MoreTys}
use Rattle.f_terms.specs.Tm.{Tm, Spn, plain}
use Rattle.f_terms.specs.Typing.{raised, in_fix, in_open}
use Rattle.f_terms.specs.Noted.{Noted, Beside, AllBeside, bare, noteds, opened_of, type_of}
use Rattle.f_terms.specs.NotedTerm.{noted_at, noted_of, noted_shape, under_all}
use Rattle.f_terms.specs.Read.{tree}
use Rattle.f_terms.specs.ReadTerm.{count, node_at, shape_at, spanned, term_of}
use Rattle.f_terms.specs.Shape.{children, shape_tree}
use Rattle.f_terms.specs.declared.types.FType.{FType}
use Rattle.f_terms.specs.declared.types.FType.TheVariants as T
use Rattle.f_terms.specs.declared.node.FShape.{FShape}
use Rattle.f_terms.specs.declared.node.FShape.TheVariants as S
use Rattle.f_terms.specs.declared.node.FTerm.{FTerm}
use Rattle.f_terms.proofs.Occurs.{node_of, times_self, times_root, noted_here, bare_at, low}
use Rattle.f_terms.proofs.TypeOf.{type_passed}
use Rattle.calc_core.specs.Stack.{Chain}
use Rattle.calc_core.proofs.Stacks.{chain_pop}
use Rattle.f_terms.specs.Limits.{nodes}
use Rattle.f_terms.specs.Scope.{InScope, IsClosed}
use Rattle.f_check.specs.Scopes.{Bound, bound, IsScope}
use Rattle.f_check.specs.declared.scope.Binder.{Binder}
use Rattle.f_check.specs.Verdict.{IsTypeOf}
use Rattle.f_check.specs.Walk.{Task, context, Part, top, now, Leads, rest_of}
use Rattle.f_check.specs.Notes.{IsNoted, first_type, inner, IsOf, Waits, Leading, Parts, Begun, HandsOn, Resumed}
use Rattle.f_check.specs.Notes.{Keeps, Noting, opened}
use Rattle.f_check.specs.declared.frame.Frame.{Frame}
use Rattle.f_check.specs.declared.frame.Frame.TheVariants as C
use Rattle.f_check.specs.declared.frame.Control.{Control}
use Rattle.f_check.specs.declared.frame.Control.TheVariants.{Run, Give}
use Rattle.f_check.specs.declared.frame.State.{State}
use Rattle.f_check.proofs.Leads.{same_end, open_type, follow, lead_push, lead_pop, lead_last, times_up, lead_stays}
use Rattle.f_check.proofs.Leads.{parts_stay}

-- what is to be noted beside an `open`
abbrev pub Suits : FTerm → Tys → FShape → Ty → Type 0
Suits f g (S.Open a b) o = o ≡ opened_of (type_of (plain (node_at f a)) g)
Suits f g n o = Unit {0}

-- what is known of the nodes at a step
abbrev pub Known : FTerm → List FType → List Frame → List ℕ → Control → Type 0
Known f ts fs ks (Run i) = (h : Tys) × Leading f ts fs ks (count f - 1) NoTys i h
Known f ts fs ks (Give ty s o) = (j : ℕ) × (h : Tys) × Leading f ts fs ks (count f - 1) NoTys j h
    × Parts f ts h (shape_at f j) × Suits f h (shape_at f j) (tree o)

module _ (f : FTerm) (ts : List FType) (g : Tys) where
  -- a node with no part
  leaf : (n : FShape) → children n ≡ [] → Parts f ts g n
  leaf (S.Var i) e = All-nil (IsNoted f ts g)
  leaf (S.Int n) e = All-nil (IsNoted f ts g)
  leaf (S.Fix t u b) e = let x : b ∷ [] ≡ [] = e in cc
  leaf (S.App a b) e = let x : a ∷ b ∷ [] ≡ [] = e in cc
  leaf (S.Gen b) e = let x : b ∷ [] ≡ [] = e in cc
  leaf (S.Inst a t) e = let x : a ∷ [] ≡ [] = e in cc
  leaf (S.Tuple es) e = All-same (IsNoted f ts g) es.items [] e (All-nil (IsNoted f ts g))
  leaf (S.Proj i a) e = let x : a ∷ [] ≡ [] = e in cc
  leaf (S.Arith op a b) e = let x : a ∷ b ∷ [] ≡ [] = e in cc
  leaf (S.If0 c a b) e = let x : c ∷ a ∷ b ∷ [] ≡ [] = e in cc
  leaf (S.Let a b) e = let x : a ∷ b ∷ [] ≡ [] = e in absurd (cc)
  leaf (S.Pack h a t) e = let x : a ∷ [] ≡ [] = e in cc
  leaf (S.Open a b) e = let x : a ∷ b ∷ [] ≡ [] = e in absurd (cc)
  leaf (S.Ref a) e = let x : a ∷ [] ≡ [] = e in cc
  leaf (S.Deref a) e = let x : a ∷ [] ≡ [] = e in cc
  leaf (S.Assign a b) e = let x : a ∷ b ∷ [] ≡ [] = e in cc

  leaf_suits : (n : FShape) (o : Ty) → children n ≡ [] → Suits f g n o
  leaf_suits (S.Var i) o e = tt
  leaf_suits (S.Int n) o e = tt
  leaf_suits (S.Fix t u b) o e = tt
  leaf_suits (S.App a b) o e = tt
  leaf_suits (S.Gen b) o e = tt
  leaf_suits (S.Inst a t) o e = tt
  leaf_suits (S.Tuple es) o e = tt
  leaf_suits (S.Proj i a) o e = tt
  leaf_suits (S.Arith op a b) o e = tt
  leaf_suits (S.If0 c a b) o e = tt
  leaf_suits (S.Let a b) o e = tt
  leaf_suits (S.Pack h a t) o e = tt
  leaf_suits (S.Open a b) o e = let x : a ∷ b ∷ [] ≡ [] = e in absurd (cc)
  leaf_suits (S.Ref a) o e = tt
  leaf_suits (S.Deref a) o e = tt
  leaf_suits (S.Assign a b) o e = tt

  -- the last part of a node is noted
  module _ (n : FShape) (l : ℕ) where
    all : (fr : Frame) → Waits f ts g n fr l → rest_of fr ≡ [] → IsNoted f ts g l → (m : FShape) → n ≡ m →
        All (IsNoted f ts g) (children m)
    all fr w e h m is =
        All-same (IsNoted f ts g) (children m) (w.1.0 ++ l ∷ [])
        (sym (ap children is) ∙ w.1.1 ∙ ap (λ (r : List ℕ). w.1.0 ++ l ∷ r) e)
        (All-push (IsNoted f ts g) w.1.0 l w.1.2 h)

    only : (fr : Frame) → (w : Waits f ts g n fr l) → rest_of fr ≡ [] → (m : FShape) (b : ℕ) → n ≡ m →
        children m ≡ b ∷ [] → l ≡ b
    only fr w e m b is one' =
        sym (same_end [] b [] w.1.0 l []
        (sym one' ∙ sym (ap children is) ∙ w.1.1 ∙ ap (λ (r : List ℕ). w.1.0 ++ l ∷ r) e) refl)

    -- the last of two parts
    both : (fr : Frame) → (w : Waits f ts g n fr l) → rest_of fr ≡ [] → (a b : ℕ) → children n ≡ a ∷ b ∷ [] →
        IsNoted f ts g a × (l ≡ b)
    both fr w e a b is =
        let p = same_from_push (a ∷ []) w.1.0 b l (sym is ∙ w.1.1 ∙ ap (λ (r : List ℕ). w.1.0 ++ l ∷ r) e) in
        (All-head (IsNoted f ts g) a [] (All-same (IsNoted f ts g) (a ∷ []) w.1.0 p.0 w.1.2), sym p.1)

    last_part : (fr : Frame) → Waits f ts g n fr l → rest_of fr ≡ [] → IsNoted f ts (inner f n fr g) l → Parts f ts g n
    last_part (C.Fix y) w e h =
        let is = w.0 in
        subst (Parts f ts g) (sym is.3)
        (subst (IsNoted f ts (in_fix (tree is.1) (tree is.2) g)) (only (C.Fix y) w e _ is.0 is.3 refl)
        (subst (λ x. IsNoted f ts (in_fix x (tree is.2) g) l) is.4
        (subst (λ x. IsNoted f ts (in_fix (tree y.arg.now) x g) l) is.5 h)))
    last_part (C.Function s x) w e h = let y : x ∷ [] ≡ [] = e in cc
    last_part (C.Argument x) w e h =
        let is = w.0 in subst (Parts f ts g) (sym is.2) (all (C.Argument x) w e h _ is.2)
    last_part (C.Gen s) w e h =
        let is = w.0 in
        subst (Parts f ts g) (sym is.1) (subst (IsNoted f ts (raised g)) (only (C.Gen s) w e _ is.0 is.1 refl) h)
    last_part (C.Inst x) w e h = let is = w.0 in subst (Parts f ts g) (sym is.2) (all (C.Inst x) w e h _ is.2)
    last_part (C.Fields x) w e h =
        let is = w.0 in subst (Parts f ts g) (sym is.1) (all (C.Fields x) w e h _ is.1)
    last_part (C.Proj s i) w e h = let is = w.0 in subst (Parts f ts g) (sym is.2) (all (C.Proj s i) w e h _ is.2)
    last_part (C.Left s b) w e h = let y : b ∷ [] ≡ [] = e in cc
    last_part (C.Right s) w e h = let is = w.0 in subst (Parts f ts g) (sym is.3) (all (C.Right s) w e h _ is.3)
    last_part (C.Test x) w e h = let y : x.zero ∷ x.other ∷ [] ≡ [] = e in cc
    last_part (C.Zero s b) w e h = let y : b ∷ [] ≡ [] = e in cc
    last_part (C.Other s z) w e h = let is = w.0 in subst (Parts f ts g) (sym is.3) (all (C.Other s z) w e h _ is.3)
    last_part (C.Let s b) w e h = let y : b ∷ [] ≡ [] = e in absurd (cc)
    last_part (C.Body s) w e h =
        let is = w.0 in
        let ends = both (C.Body s) w e is.0 is.1 (ap children is.2) in
        let last = subst (λ m. IsNoted f ts (MoreTys (first_type f m g) g) l) is.2 h in
        subst (Parts f ts g) (sym is.2)
        (ends.0, subst (IsNoted f ts (MoreTys (type_of (plain (node_at f is.0)) g) g)) ends.1 last)
    last_part (C.Pack p) w e h = let is = w.0 in subst (Parts f ts g) (sym is.3) (all (C.Pack p) w e h _ is.3)
    last_part (C.Open s b) w e h = let y : b ∷ [] ≡ [] = e in absurd (cc)
    last_part (C.Opened s) w e h =
        let is = w.0 in
        let ends = both (C.Opened s) w e is.0 is.1 (ap children is.2) in
        let last = subst (λ m. IsNoted f ts (in_open (opened_of (first_type f m g)) g) l) is.2 h in
        subst (Parts f ts g) (sym is.2)
        (ends.0, subst (IsNoted f ts (in_open (opened_of (type_of (plain (node_at f is.0)) g)) g)) ends.1 last)
    last_part (C.Ref s) w e h = let is = w.0 in subst (Parts f ts g) (sym is.1) (all (C.Ref s) w e h _ is.1)
    last_part (C.Deref s) w e h = let is = w.0 in subst (Parts f ts g) (sym is.1) (all (C.Deref s) w e h _ is.1)
    last_part (C.Target s b) w e h = let y : b ∷ [] ≡ [] = e in absurd (cc)
    last_part (C.Assigned x) w e h =
        let is = w.0 in subst (Parts f ts g) (sym is.2) (all (C.Assigned x) w e h _ is.2)

    -- and what is handed on suits it
    module _ (q : Spn) (t v : Task) (whole : v.e ≡ shape_tree (node_at f) q n) (names : context v ≡ g) where
      last_suits : (fr : Frame) (o : FType) → Part f fr t v → Waits f ts g n fr l → rest_of fr ≡ [] →
          HandsOn t.scope fr o → Suits f g n (tree o)
      last_suits (C.Fix y) o p w e h = let is = w.0 in subst (λ m. Suits f g m (tree o)) (sym is.3) tt
      last_suits (C.Function s x) o p w e h = let y : x ∷ [] ≡ [] = e in absurd (cc)
      last_suits (C.Argument x) o p w e h = let is = w.0 in subst (λ m. Suits f g m (tree o)) (sym is.2) tt
      last_suits (C.Gen s) o p w e h = let is = w.0 in subst (λ m. Suits f g m (tree o)) (sym is.1) tt
      last_suits (C.Inst x) o p w e h = let is = w.0 in subst (λ m. Suits f g m (tree o)) (sym is.2) tt
      last_suits (C.Fields x) o p w e h = let is = w.0 in subst (λ m. Suits f g m (tree o)) (sym is.1) tt
      last_suits (C.Proj s i) o p w e h = let is = w.0 in subst (λ m. Suits f g m (tree o)) (sym is.2) tt
      last_suits (C.Left s b) o p w e h = let y : b ∷ [] ≡ [] = e in absurd (cc)
      last_suits (C.Right s) o p w e h = let is = w.0 in subst (λ m. Suits f g m (tree o)) (sym is.3) tt
      last_suits (C.Test x) o p w e h = let y : x.zero ∷ x.other ∷ [] ≡ [] = e in absurd (cc)
      last_suits (C.Zero s b) o p w e h = let y : b ∷ [] ≡ [] = e in absurd (cc)
      last_suits (C.Other s z) o p w e h = let is = w.0 in subst (λ m. Suits f g m (tree o)) (sym is.3) tt
      last_suits (C.Let s b) o p w e h = let y : b ∷ [] ≡ [] = e in absurd (cc)
      last_suits (C.Body s) o p w e h = let is = w.0 in subst (λ m. Suits f g m (tree o)) (sym is.2) tt
      last_suits (C.Pack y) o p w e h = let is = w.0 in subst (λ m. Suits f g m (tree o)) (sym is.3) tt
      last_suits (C.Open s b) o p w e h = let y : b ∷ [] ≡ [] = e in absurd (cc)
      last_suits (C.Opened s) o p w e h =
          let is = w.0 in
          let last = same_from_push h.0 v.scope (record { ty = tree o; at = h.1 }) (record {
            ty = p.4;
            at =
                v.around + 1;
          }) (sym h.2 ∙ p.5) in
          let same : tree o ≡ p.4 = ap (λ (b : Bound). b.ty) last.1 in
          let type = open_type f t v s q n whole p is ∙ ap (λ x. opened_of (first_type f n x)) names in
          let form = ap (λ m. opened_of (first_type f m g)) is.2 in
          subst (λ m. Suits f g m (tree o)) (sym is.2) (same ∙ type ∙ form)
      last_suits (C.Ref s) o p w e h = let is = w.0 in subst (λ m. Suits f g m (tree o)) (sym is.1) tt
      last_suits (C.Deref s) o p w e h = let is = w.0 in subst (λ m. Suits f g m (tree o)) (sym is.1) tt
      last_suits (C.Target s b) o p w e h = let y : b ∷ [] ≡ [] = e in absurd (cc)
      last_suits (C.Assigned x) o p w e h = let is = w.0 in subst (λ m. Suits f g m (tree o)) (sym is.2) tt

    -- one part more is noted
    next_part : (fr more : Frame) (j : ℕ) → Waits f ts g n fr l → IsNoted f ts (inner f n fr g) l →
        rest_of fr ≡ j ∷ rest_of more → IsOf n more → inner f n fr g ≡ g → Waits f ts g n more j
    next_part fr more j w h e to same = (
      to,
      (
        w.1.0 ++ l ∷ [],
        w.1.1 ∙ ap (λ (r : List ℕ). w.1.0 ++ l ∷ r) e ∙ sym (append_assoc w.1.0 (l ∷ []) (j ∷ rest_of more)),
        All-push (IsNoted f ts g) w.1.0 l w.1.2 (subst (λ x. IsNoted f ts x l) same h),
      ),
    )

-- a node whose parts are noted and whose type is put down
module _ (f : FTerm) (ts : List FType) (m : ℕ) (x : FType) (t o : Ty) (g : Tys) (lt : m < count f)
    (full : count f ≤ length ts) where
  abbrev N : ℕ → Noted
  N = noted_at f (slice_set ts m x)

  all_beside : (ks : List ℕ) → All (λ k. Beside (N k) g) ks → AllBeside (noteds (map N ks)) g
  all_beside [] h = tt
  all_beside (k ∷ ks) h = (All-head (λ k. Beside (N k) g) k ks h, all_beside ks (All-tail (λ k. Beside (N k) g) k ks h))

  part_one : (k : ℕ) (ks : List ℕ) → All (λ k. Beside (N k) g) (k ∷ ks) → Beside (N k) g
  part_one k ks h = All-head (λ k. Beside (N k) g) k ks h

  part_two : (k j : ℕ) (ks : List ℕ) → All (λ k. Beside (N k) g) (k ∷ j ∷ ks) → Beside (N j) g
  part_two k j ks h = All-head (λ k. Beside (N k) g) j ks (All-tail (λ k. Beside (N k) g) k (j ∷ ks) h)

  part_three : (k j i : ℕ) (ks : List ℕ) → All (λ k. Beside (N k) g) (k ∷ j ∷ i ∷ ks) → Beside (N i) g
  part_three k j i ks h = part_two j i ks (All-tail (λ k. Beside (N k) g) k (j ∷ i ∷ ks) h)

  bare_is : (k : ℕ) → k < count f → bare (N k) ≡ plain (node_at f k)
  bare_is k lk = bare_at f (slice_set ts m x) (suc k) k (omega arith) lk

  build : (n : FShape) → All (λ k. k < count f) (children n) → Parts f (slice_set ts m x) g n → Keeps n (tree x) t o →
      Suits f g n o → type_of (bare (noted_shape N (tree x) n)) g ≡ t → Beside (noted_shape N (tree x) n) g
  build (S.Var i) low p k q e = tt
  build (S.Int i) low p k q e = tt
  build (S.Fix a r b) low p k q e = p
  build (S.App a b) low p k q e = (k ∙ sym e, part_one a (b ∷ []) p, part_two a b [] p)
  build (S.Gen b) low p k q e = (ap under_all (k ∙ sym e), p)
  build (S.Inst a s) low p k q e = (k ∙ sym e, part_one a [] p)
  build (S.Tuple es) low p k q e = (k ∙ sym e, all_beside es.items p)
  build (S.Proj i a) low p k q e = (k ∙ sym e, part_one a [] p)
  build (S.Arith op a b) low p k q e = (part_one a (b ∷ []) p, part_two a b [] p)
  build (S.If0 c a b) low p k q e =
      (k ∙ sym e, part_one c (a ∷ b ∷ []) p, part_two c a (b ∷ []) p, part_three c a b [] p)
  build (S.Let a b) low p k q e = (
    p.0,
    subst (λ z. Beside (N b) (MoreTys (type_of z g) g))
        (sym (bare_is a (All-head (λ k. k < count f) a (b ∷ []) low))) p.1,
  )
  build (S.Pack h a s) low p k q e = part_one a [] p
  build (S.Open a b) low p k q e =
      let is = k ∙ q in (
        is ∙ ap (λ z. opened_of (type_of z g)) (sym (bare_is a (All-head (λ k. k < count f) a (b ∷ []) low))),
        p.0,
        subst (λ z. Beside (N b) (in_open z g)) (sym is) p.1,
      )
  build (S.Ref a) low p k q e = (k ∙ sym e, part_one a [] p)
  build (S.Deref a) low p k q e = (k ∙ sym e, part_one a [] p)
  build (S.Assign a b) low p k q e = (part_one a (b ∷ []) p, part_two a b [] p)

  finish : Parts f (slice_set ts m x) g (shape_at f m) → Keeps (shape_at f m) (tree x) t o →
      Suits f g (shape_at f m) o → type_of (plain (node_at f m)) g ≡ t → IsNoted f (slice_set ts m x) g m
  finish p k q e =
      let us = slice_set ts m x in
      let whole : noted_at f us m ≡ noted_shape N (tree x) (shape_at f m) =
      noted_here f us m lt (omega (arith, full, length-set ts m x))
      ∙ ap (λ (u : FType). noted_shape N (tree u) (shape_at f m))
      (get_or-set_same ts m x T.Int (omega (arith, lt, full))) in
      subst (λ z. Beside z g) (sym whole)
      (build (shape_at f m) (λ j d l. let b = low f m lt j d l in omega (arith, b, lt)) p k q
      (ap (λ z. type_of (bare z) g) (sym whole) ∙ ap (λ z. type_of z g) (bare_at f us (suc m) m (omega arith) lt)
      ∙ e))

module _ (f : FTerm) where
  root_in : count f - 1 < count f
  root_in = let some = f.some in omega (arith, some)

  -- the beginning
  pub at_first : (ts : List FType) (fs : List Frame) (ks : List ℕ) (i : ℕ) → fs ≡ [] → ks ≡ i ∷ [] → i ≡ count f - 1 →
      Known f ts fs ks (Run i)
  at_first ts fs ks i ef ek ei =
      subst (λ (gs : List Frame). Known f ts gs ks (Run i)) (sym ef)
      (subst (λ (ls : List ℕ). Known f ts [] ls (Run i)) (sym ek) (NoTys, (refl, sym ei, refl, refl)))

  pub starts : (fs : Vec Frame Global) (sc : Vec Binder Global) (i : ℕ) → fs.items ≡ [] → sc.items ≡ [] →
      IsClosed (term_of f) → nodes (term_of f) ≤ 4294967295 → i ≡ count f - 1 →
      Leads f (record { frames = fs; scope = sc; around = 0 }) (Run i)
  starts fs sc i ef es closed few ei =
      let st : State = record { frames = fs; scope = sc; around = 0 } in
      let eb : map bound sc.items ≡ [] = ap (map bound) es in
      let et : node_at f i ≡ spanned f = ap (node_at f) ei in
      let ew : now st (node_at f i) ≡ top f =
      ap₂ (λ (e : Tm) (bs : List Bound). let t : Task = record { e = e; around = 0; scope = bs } in t) et eb in
      let few' : nodes (plain (node_at f i)) ≤ 4294967295 = subst (λ e. nodes (plain e) ≤ 4294967295) (sym et) few in (
        subst (λ x. x < count f) (sym ei) root_in,
        (
          (
            subst (IsScope 0) (sym eb) tt,
            subst (λ (bs : List Bound). InScope (plain (node_at f i)) 0 (length bs)) (sym eb)
                (subst (λ e. InScope (plain e) 0 0) (sym et) closed),
            omega (arith, few'),
          ),
          subst (λ (gs : List Frame). Chain (Part f) gs (now st (node_at f i)) (top f)) (sym ef) ew,
        ),
      )

  pub after_begin : (ts : List FType) (fs fs' : List Frame) (ks : List ℕ) (i : ℕ) (c : Control) →
      Known f ts fs ks (Run i) → Begun (shape_at f i) fs fs' c → Known f ts fs' (opened ks c) c
  after_begin ts fs fs' ks i (Run j) k b = (
    inner f (shape_at f i) b.0 k.0,
    subst (λ (gs : List Frame). Leading f ts gs (ks ++ j ∷ []) (count f - 1) NoTys j (inner f (shape_at f i) b.0 k.0))
        (sym b.1)
        (lead_push f ts fs ks (count f - 1) NoTys i k.0 b.0 j k.1 (b.2, ([], b.3, All-nil (IsNoted f ts k.0)))),
  )
  after_begin ts fs fs' ks i (Give ty s o) k b = (
    i,
    k.0,
    subst (λ (gs : List Frame). Leading f ts gs ks (count f - 1) NoTys i k.0) (sym b.0) k.1,
    leaf f ts k.0 (shape_at f i) b.1,
    leaf_suits f ts k.0 (shape_at f i) (tree o) b.1,
  )

  pub last_open : (ts : List FType) (fs : List Frame) (ks : List ℕ) (ty o : FType) (s : Span) →
      Known f ts fs ks (Give ty s o) → (ls : List ℕ) × (k : ℕ) × (ks ≡ ls ++ k ∷ [])
  last_open ts fs ks ty o s k = let r = lead_last f ts fs ks (count f - 1) NoTys k.0 k.1 k.2 in (r.0, k.0, r.1)

  -- the node whose type is given is noted, and has that type
  abbrev pub HasNoted : List FType → List Frame → List ℕ → ℕ → Ty → Type 0
  HasNoted ts fs ks at t = (h : Tys) × Leading f ts fs ks (count f - 1) NoTys at h × IsNoted f ts h at
      × (type_of (plain (node_at f at)) h ≡ t)

  pub given_at : (ts : List FType) (st : State) (ks ls : List ℕ) (at : ℕ) (ty o : FType) (s : Span) →
      Known f ts st.frames.items ks (Give ty s o) → Leads f st (Give ty s o) → ks ≡ ls ++ at ∷ [] → at < count f
  given_at ts st ks ls at ty o s k h e =
      let is =
      (same_from_push ls _ at k.0 (sym e ∙ (lead_last f ts st.frames.items ks (count f - 1) NoTys k.0 k.1 k.2).1)).1 in
      subst (λ x. x < count f) (sym is)
      (follow f ts st.frames.items ks (count f - 1) NoTys k.0 k.1 (now st h.0) (top f) root_in k.2 h.1.2 refl
      refl).2

  pub noted_now : (ts us : List FType) (st : State) (ks ls : List ℕ) (at : ℕ) (ty o : FType) (s : Span) →
      count f ≤ length ts → Known f ts st.frames.items ks (Give ty s o) → Leads f st (Give ty s o) →
      ks ≡ ls ++ at ∷ [] → Noting f ts us at (tree ty) (tree o) → HasNoted us st.frames.items ks at (tree ty)
  noted_now ts us st ks ls at ty o s full k h e put =
      let is : at ≡ k.0 =
      (same_from_push ls _ at k.0 (sym e ∙ (lead_last f ts st.frames.items ks (count f - 1) NoTys k.0 k.1 k.2).1)).1 in
      let p = follow f ts st.frames.items ks (count f - 1) NoTys k.0 k.1 (now st h.0) (top f) root_in k.2 h.1.2 refl
      refl in
      let lead : Leading f ts st.frames.items ks (count f - 1) NoTys at k.1 =
      subst (λ x. Leading f ts st.frames.items ks (count f - 1) NoTys x k.1) (sym is) k.2 in
      let parts : Parts f ts k.1 (shape_at f at) = subst (λ x. Parts f ts k.1 (shape_at f x)) (sym is) k.3 in
      let suits : Suits f k.1 (shape_at f at) (tree o) =
      subst (λ x. Suits f k.1 (shape_at f x) (tree o)) (sym is) k.4 in
      let lt : at < count f = subst (λ x. x < count f) (sym is) p.2 in
      let typed : type_of (plain (node_at f at)) k.1 ≡ tree ty =
      ap (λ x. type_of (plain (node_at f x)) k.1) is ∙ ap (λ z. type_of (plain z) k.1) (sym p.0)
      ∙ ap (type_of (plain h.0)) (sym p.1) ∙ type_passed h.0 st.around (context (now st h.0)) (tree ty) h.1.0.0 in
      let self = times_self f at lt in
      let root = times_root f at in
      let up = times_up f ts at st.frames.items ks (count f - 1) NoTys at k.1 root_in lead in
      subst (λ (vs : List FType). HasNoted vs st.frames.items ks at (tree ty)) (sym put.1) (
        k.1,
        lead_stays f ts at put.0 full st.frames.items ks (count f - 1) NoTys at k.1 root_in root self lead,
        finish f ts at put.0 (tree ty) (tree o) k.1 lt full
            (parts_stay f ts at put.0 full k.1 lt (omega (arith, up, root)) parts) put.2 suits typed,
        typed,
      )

  pub all_noted : (ts : List FType) (fs : List Frame) (ks : List ℕ) (at : ℕ) (t : Ty) → fs ≡ [] →
      HasNoted ts fs ks at t → Beside (noted_of f ts) NoTys
  all_noted ts fs ks at t e h = go ks (subst (λ (gs : List Frame). Leading f ts gs ks (count f - 1) NoTys at h.0) e h.1)
    where
      go : (ks : List ℕ) → Leading f ts [] ks (count f - 1) NoTys at h.0 → Beside (noted_of f ts) NoTys
      go [] l = absurd l
      go (k ∷ ks) l = subst (λ x. IsNoted f ts NoTys x) (sym (l.1 ∙ l.2)) (subst (λ x. IsNoted f ts x at) (sym l.3) h.2)

  pub after_resume : (ts : List FType) (st : State) (gs new : List Frame) (fr : Frame) (ks ls : List ℕ) (at : ℕ)
      (ty o : FType) (q : Span) (c : Control) → st.frames.items ≡ gs ++ fr ∷ [] → ks ≡ ls ++ at ∷ [] →
      HasNoted ts st.frames.items ks at (tree ty) → Leads f st (Give ty q o) →
      Resumed fr (map bound st.scope.items) gs new c → Known f ts new (opened ls c) c
  after_resume ts st gs new fr ks ls at ty o q c ef ek h a r =
      let p = lead_pop f ts gs fr ks (count f - 1) NoTys at h.0
      (subst (λ (xs : List Frame). Leading f ts xs ks (count f - 1) NoTys at h.0) ef h.1) in
      let lead : Leading f ts gs ls (count f - 1) NoTys p.0 p.1 =
      subst (λ (xs : List ℕ). Leading f ts gs xs (count f - 1) NoTys p.0 p.1) (same_from_push p.2 ls at at
      (sym p.3 ∙ ek)).0
      p.4 in
      let t = now st a.0 in
      let under = chain_pop (Part f) gs fr t (top f) (subst (λ xs. Chain (Part f) xs t (top f)) ef a.1.2) in
      let at_node = follow f ts gs ls (count f - 1) NoTys p.0 p.1 under.0 (top f) root_in lead under.2 refl refl in
      go p.0 p.1 under.0 _ lead (at_node.0 ∙ node_of f p.0 at_node.2) at_node.1 under.1 p.5
      (subst (λ x. IsNoted f ts x at) (sym p.6) h.2) c r
    where
      go : (j : ℕ) (m : Tys) (w : Task) (x : Spn) → Leading f ts gs ls (count f - 1) NoTys j m →
          w.e ≡ shape_tree (node_at f) x (shape_at f j) → context w ≡ m → Part f fr (now st a.0) w →
          Waits f ts m (shape_at f j) fr at → IsNoted f ts (inner f (shape_at f j) fr m) at → (c : Control) →
          Resumed fr (map bound st.scope.items) gs new c → Known f ts new (opened ls c) c
      go j m w x lead whole names part waits n (Run i) r =
          let n' = shape_at f j in (
            inner f n' r.0 m,
            subst (λ (xs : List Frame). Leading f ts xs (ls ++ i ∷ []) (count f - 1) NoTys i (inner f n' r.0 m))
                (sym r.1)
                (lead_push f ts gs ls (count f - 1) NoTys j m r.0 i lead
                (next_part f ts m n' at fr r.0 i waits n r.2 (r.3 n' waits.0) (r.4 f n' m))),
          )
      go j m w x lead whole names part waits n (Give ty s o) r = (
        j,
        m,
        subst (λ (xs : List Frame). Leading f ts xs ls (count f - 1) NoTys j m) (sym r.0) lead,
        last_part f ts m (shape_at f j) at fr waits r.1 n,
        last_suits f ts m (shape_at f j) at x (now st a.0) w whole names fr o part waits r.1 r.2,
      )

  -- the type of the whole is there
  pub ended : (st : State) (ty o : FType) (s : Span) → st.frames.items ≡ [] → Leads f st (Give ty s o) →
      IsTypeOf (spanned f) 0 NoTys (tree ty)
  ended st ty o s e h =
      let same : now st h.0 ≡ top f = subst (λ (gs : List Frame). Chain (Part f) gs (now st h.0) (top f)) e h.1.2 in
      subst (λ (t : Task). IsTypeOf t.e t.around (context t) (tree ty)) same h.1.0
