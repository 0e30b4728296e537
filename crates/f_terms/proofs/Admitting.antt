-- One node is looked at, and its parts wait.
use Rattle.std.proofs.Common.{◌≡◌, ℕ, ◌+◌, ◌*◌, ◌<◌, ◌≤◌, ◌↔◌, List, [], ◌∷◌, ◌++◌, map, refl, ap, ◌∙◌, sym, subst}
use Rattle.std.proofs.Common.{arith, All}
use Rattle.std.proofs.lemmas.List.Elements.{All-nil, All-cons, All-head, All-tail}
use Rattle.f_terms.specs.Tm.{Tm, Spn, plain, plain_all, tms}
use Rattle.f_terms.specs.Limits.{nodes, nodes_all}
use Rattle.f_terms.specs.Scope.{InScope, AllInScope, IsClosed}
use Rattle.f_terms.specs.Read.{place}
use Rattle.f_terms.specs.ReadTerm.{count, node_at, term_of}
use Rattle.f_terms.specs.Shape.{children, kids, shape_tree, node_tree}
use Rattle.f_terms.specs.Waiting.{IsBound, waits, parts_wait, PartBound, AllBound, HasRoom, AllRoom, waiting_nodes}
use Rattle.f_terms.specs.Waiting.{Holds}
use Rattle.f_terms.specs.declared.node.FTerm.{FTerm}
use Rattle.f_terms.specs.declared.node.FNode.{FNode}
use Rattle.f_terms.specs.declared.node.FShape.{FShape}
use Rattle.f_terms.specs.declared.node.FShape.TheVariants.{Var, Int, Fix, App, Gen, Inst, Tuple, Proj, Arith, If0, Let}
use Rattle.f_terms.specs.declared.node.FShape.TheVariants.{Pack, Open, Ref, Deref, Assign}
use Rattle.f_terms.specs.declared.admission.Waiting.{Waiting}

module _ (at : ℕ → Tm) where
  bound_both : (ws vs : List Waiting) → AllBound at (ws ++ vs) → AllBound at ws × AllBound at vs
  bound_both [] vs h = (tt, h)
  bound_both (w ∷ ws) vs h = let r = bound_both ws vs h.1 in ((h.0, r.0), r.1)

  bound_join : (ws vs : List Waiting) → AllBound at ws → AllBound at vs → AllBound at (ws ++ vs)
  bound_join [] vs h k = k
  bound_join (w ∷ ws) vs h k = (h.0, bound_join ws vs h.1 k)

  room_both : (size : ℕ) (ws vs : List Waiting) → AllRoom size at (ws ++ vs) → AllRoom size at ws × AllRoom size at vs
  room_both size [] vs h = (tt, h)
  room_both size (w ∷ ws) vs h = let r = room_both size ws vs h.1 in ((h.0, r.0), r.1)

  room_join : (size : ℕ) (ws vs : List Waiting) → AllRoom size at ws → AllRoom size at vs → AllRoom size at (ws ++ vs)
  room_join size [] vs h k = k
  room_join size (w ∷ ws) vs h k = (h.0, room_join size ws vs h.1 k)

  waiting_both : (ws vs : List Waiting) → waiting_nodes at (ws ++ vs) ≡ waiting_nodes at ws + waiting_nodes at vs
  waiting_both [] vs = omega arith
  waiting_both (w ∷ ws) vs = omega (arith, waiting_both ws vs)

  all_bound : (ks : List ℕ) (n m : ℕ) → AllBound at (waits ks n m) ↔ AllInScope (plain_all (tms (map at ks))) n m
  all_bound [] n m = (λ h. h, λ h. h)
  all_bound (k ∷ ks) n m = let r = all_bound ks n m in (λ h. (h.0, r.0 h.1), λ h. (h.0, r.1 h.1))

  all_waiting : (ks : List ℕ) (n m : ℕ) → waiting_nodes at (waits ks n m) ≡ nodes_all (plain_all (tms (map at ks)))
  all_waiting [] n m = refl
  all_waiting (k ∷ ks) n m = ap (λ x. nodes (plain (at k)) + x) (all_waiting ks n m)

  -- a form is bound where its own names and its parts are
  form_bound : (s : Spn) (shape : FShape) (n m : ℕ) →
      InScope (plain (shape_tree at s shape)) n m ↔ (IsBound shape n m × AllBound at (parts_wait shape n m))
  form_bound s (Var i) n m = (λ h. (h, tt), λ h. h.0)
  form_bound s (Int i) n m = (λ h. (tt, tt), λ h. tt)
  form_bound s (Fix a r b) n m = (λ h. ((h.0, h.1), (h.2, tt)), λ h. (h.0.0, h.0.1, h.1.0))
  form_bound s (App f x) n m = (λ h. (tt, (h.0, (h.1, tt))), λ h. (h.1.0, h.1.1.0))
  form_bound s (Gen b) n m = (λ h. (tt, (h, tt)), λ h. h.1.0)
  form_bound s (Inst e t) n m = (λ h. (h.1, (h.0, tt)), λ h. (h.1.0, h.0))
  form_bound s (Tuple es) n m = let r = all_bound es.items n m in (λ h. (tt, r.1 h), λ h. r.0 h.1)
  form_bound s (Proj i e) n m = (λ h. (tt, (h, tt)), λ h. h.1.0)
  form_bound s (Arith op a b) n m = (λ h. (tt, (h.0, (h.1, tt))), λ h. (h.1.0, h.1.1.0))
  form_bound s (If0 c a b) n m = (λ h. (tt, (h.0, (h.1, (h.2, tt)))), λ h. (h.1.0, h.1.1.0, h.1.1.1.0))
  form_bound s (Let a b) n m = (λ h. (tt, (h.0, (h.1, tt))), λ h. (h.1.0, h.1.1.0))
  form_bound s (Pack x e t) n m = (λ h. ((h.0, h.1), (h.2, tt)), λ h. (h.0.0, h.0.1, h.1.0))
  form_bound s (Open a b) n m = (λ h. (tt, (h.0, (h.1, tt))), λ h. (h.1.0, h.1.1.0))
  form_bound s (Ref e) n m = (λ h. (tt, (h, tt)), λ h. h.1.0)
  form_bound s (Deref e) n m = (λ h. (tt, (h, tt)), λ h. h.1.0)
  form_bound s (Assign a b) n m = (λ h. (tt, (h.0, (h.1, tt))), λ h. (h.1.0, h.1.1.0))

  form_waiting : (s : Spn) (shape : FShape) (n m : ℕ) →
      1 + waiting_nodes at (parts_wait shape n m) ≡ nodes (plain (shape_tree at s shape))
  form_waiting s (Var i) n m = omega arith
  form_waiting s (Int i) n m = omega arith
  form_waiting s (Fix a r b) n m = omega arith
  form_waiting s (App f x) n m = omega arith
  form_waiting s (Gen b) n m = omega arith
  form_waiting s (Inst e t) n m = omega arith
  form_waiting s (Tuple es) n m = ap (λ x. 1 + x) (all_waiting es.items n m)
  form_waiting s (Proj i e) n m = omega arith
  form_waiting s (Arith op a b) n m = omega arith
  form_waiting s (If0 c a b) n m = omega arith
  form_waiting s (Let a b) n m = omega arith
  form_waiting s (Pack x e t) n m = omega arith
  form_waiting s (Open a b) n m = omega arith
  form_waiting s (Ref e) n m = omega arith
  form_waiting s (Deref e) n m = omega arith
  form_waiting s (Assign a b) n m = omega arith

  -- the parts have room where the form has
  parts_room : (size : ℕ) (ks : List ℕ) (n m : ℕ) → All (λ k. k < size) ks →
      n + waiting_nodes at (waits ks n m) ≤ 4294967295 → m + 2 * waiting_nodes at (waits ks n m) ≤ 8589934590 →
      AllRoom size at (waits ks n m)
  parts_room size [] n m low a b = tt
  parts_room size (k ∷ ks) n m low a b = (
    (All-head (λ k. k < size) k ks low, omega (arith, a), omega (arith, b)),
    parts_room size ks n m (All-tail (λ k. k < size) k ks low) (omega (arith, a)) (omega (arith, b)),
  )

  first : (size k j : ℕ) → All (λ i. i < size) (k ∷ j ∷ []) → All (λ i. i < size) (k ∷ [])
  first size k j low = All-cons (λ i. i < size) k [] (All-head (λ i. i < size) k (j ∷ []) low) (All-nil (λ i. i < size))

  form_room : (size : ℕ) (shape : FShape) (n m : ℕ) → All (λ k. k < size) (children shape) →
      n + 1 + waiting_nodes at (parts_wait shape n m) ≤ 4294967295 →
      m + 2 + 2 * waiting_nodes at (parts_wait shape n m) ≤ 8589934590 →
      AllRoom size at (parts_wait shape n m)
  form_room size (Var i) n m low a b = tt
  form_room size (Int i) n m low a b = tt
  form_room size (Fix x r e) n m low a b = parts_room size (e ∷ []) n (m + 2) low (omega (arith, a)) (omega (arith, b))
  form_room size (App f x) n m low a b = parts_room size (f ∷ x ∷ []) n m low (omega (arith, a)) (omega (arith, b))
  form_room size (Gen e) n m low a b = parts_room size (e ∷ []) (n + 1) m low (omega (arith, a)) (omega (arith, b))
  form_room size (Inst e t) n m low a b = parts_room size (e ∷ []) n m low (omega (arith, a)) (omega (arith, b))
  form_room size (Tuple es) n m low a b = parts_room size es.items n m low (omega (arith, a)) (omega (arith, b))
  form_room size (Proj i e) n m low a b = parts_room size (e ∷ []) n m low (omega (arith, a)) (omega (arith, b))
  form_room size (Arith op x y) n m low a b = parts_room size (x ∷ y ∷ []) n m low (omega (arith, a)) (omega (arith, b))
  form_room size (If0 c x y) n m low a b =
      parts_room size (c ∷ x ∷ y ∷ []) n m low (omega (arith, a)) (omega (arith, b))
  form_room size (Let x y) n m low a b =
      room_join size (waits (x ∷ []) n m) (waits (y ∷ []) n (m + 1))
      (parts_room size (x ∷ []) n m (first size x y low) (omega (arith, a)) (omega (arith, b)))
      (parts_room size (y ∷ []) n (m + 1) (All-tail (λ i. i < size) x (y ∷ []) low) (omega (arith, a))
      (omega (arith, b)))
  form_room size (Pack x e t) n m low a b = parts_room size (e ∷ []) n m low (omega (arith, a)) (omega (arith, b))
  form_room size (Open x y) n m low a b =
      room_join size (waits (x ∷ []) n m) (waits (y ∷ []) (n + 1) (m + 1))
      (parts_room size (x ∷ []) n m (first size x y low) (omega (arith, a)) (omega (arith, b)))
      (parts_room size (y ∷ []) (n + 1) (m + 1) (All-tail (λ i. i < size) x (y ∷ []) low) (omega (arith, a))
      (omega (arith, b)))
  form_room size (Ref e) n m low a b = parts_room size (e ∷ []) n m low (omega (arith, a)) (omega (arith, b))
  form_room size (Deref e) n m low a b = parts_room size (e ∷ []) n m low (omega (arith, a)) (omega (arith, b))
  form_room size (Assign x y) n m low a b = parts_room size (x ∷ y ∷ []) n m low (omega (arith, a)) (omega (arith, b))

module _ (f : FTerm) (ws : List Waiting) (w : Waiting) (n : FNode) (is : node_at f w.at ≡ node_tree (node_at f) n)
    (low : All (λ k. k < w.at) (kids n)) where
  -- a part that waits is bound where its own names are and its parts that wait then
  pub part_bound : PartBound (node_at f) w ↔
      (IsBound n.shape w.types w.values × AllBound (node_at f) (parts_wait n.shape w.types w.values))
  part_bound =
      let r = form_bound (node_at f) (place n.span) n.shape w.types w.values in (
        λ h. r.0 (subst (λ t. InScope (plain t) w.types w.values) is h),
        λ h. subst (λ t. InScope (plain t) w.types w.values) (sym is) (r.1 h),
      )

  -- the parts wait in its place
  pub looked : Holds f (ws ++ w ∷ []) → IsBound n.shape w.types w.values → (vs : List Waiting) →
      vs ≡ ws ++ parts_wait n.shape w.types w.values →
      Holds f vs × (waiting_nodes (node_at f) vs < waiting_nodes (node_at f) (ws ++ w ∷ []))
  looked h own vs e =
      let at = node_at f in
      let ps = parts_wait n.shape w.types w.values in
      let rooms = room_both at (count f) ws (w ∷ []) h.1 in
      let room = rooms.1.0 in
      let inside = room.0 in
      let most = form_waiting at (place n.span) n.shape w.types w.values ∙ ap (λ t. nodes (plain t)) (sym is) in
      let within : All (λ k. k < count f) (kids n) = λ i d lt. let b = low i d lt in omega (arith, b, inside) in (
        (
          (
            λ k. (let b = bound_both at ws ps (subst (AllBound at) e k) in
                h.0.0 (bound_join at ws (w ∷ []) b.0 (part_bound.1 (own, b.1), tt))),
            λ k. subst (AllBound at) (sym e) (let b = bound_both at ws (w ∷ []) (h.0.1 k) in
                bound_join at ws ps b.0 (part_bound.0 b.1.0).1),
          ),
          subst (AllRoom (count f) at) (sym e) (room_join at (count f) ws ps rooms.0
              (form_room at (count f) n.shape w.types w.values within (omega (arith, most, room.1))
              (omega (arith, most, room.2)))),
        ),
        omega (arith, ap (waiting_nodes at) e, waiting_both at ws ps, waiting_both at ws (w ∷ []), most),
      )

  -- a name that is not bound
  pub not_bound : Holds f (ws ++ w ∷ []) → (IsBound n.shape w.types w.values → ⊥) → IsClosed (term_of f) → ⊥
  not_bound h free k = free (part_bound.0 (bound_both (node_at f) ws (w ∷ []) (h.0.1 k)).1.0).0

-- there is room for a part that waits
pub has_room : (f : FTerm) (ws : List Waiting) (w : Waiting) → Holds f (ws ++ w ∷ []) → HasRoom (count f) (node_at f) w
has_room f ws w h = (room_both (node_at f) (count f) ws (w ∷ []) h.1).1.0
