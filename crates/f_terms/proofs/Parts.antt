-- One part more, and the last one.
use Rattle.std.proofs.Common.{◌≡◌, ◌≢◌, ℕ, ◌+◌, ◌-◌, ◌<◌, ◌⊎◌, List, [], ◌∷◌, ◌++◌, Bool, true, false, if◌then◌else◌}
use Rattle.std.proofs.Common.{refl, ap, ◌∙◌, sym, subst, length, map, get_or, arith, All, inl, inr}
use Rattle.std.proofs.lemmas.List.{length_push}
use Rattle.calc_core.specs.Arena.{parts, InOrder}
use Rattle.calc_core.proofs.Nodes.{part_at, part_new, part_old, order_new}
use Rattle.f_terms.specs.Limits.{nodes, nodes_all}
use Rattle.f_terms.specs.Tm.{Tm, Spn, SVar, plain, plain_all, tms}
use Rattle.f_terms.specs.Read.{place}
use Rattle.calc_core.specs.Roots.{Differ, Among, total, without_all, roots}
use Rattle.f_terms.specs.Shape.{children, kids, shape_tree, node_tree, tree_at, nodes_at}
use Rattle.f_terms.specs.ReadTerm.{size_of, part, IsLoose, node_at, count}
use Rattle.f_terms.specs.Made.{IsAdded}
use Rattle.f_terms.specs.declared.node.FNode.{FNode}
use Rattle.f_terms.specs.declared.node.FParts.{FParts}
use Rattle.f_terms.specs.declared.node.FTerm.{FTerm}
use Rattle.f_terms.specs.declared.node.FShape.{FShape}
use Rattle.f_terms.specs.declared.node.FShape.TheVariants.{Var, Int, Fix, App, Gen, Inst, Tuple, Proj, Arith, If0, Let}
use Rattle.f_terms.specs.declared.node.FShape.TheVariants.{Pack, Open, Ref, Deref, Assign}
use Rattle.f_terms.proofs.Shapes.{local}
use Rattle.calc_core.proofs.Roots.{among_push, among_pop, among_left_all, among_was_all, of_among, roots_push}
use Rattle.calc_core.proofs.Roots.{roots_low}
use Rattle.calc_core.proofs.Roots.{roots_differ, counted_push, just_one, last_among}

pub low : (ns : List FNode) (ks : List ℕ) → All (λ k. Among (roots kids ns) k) ks → All (λ k. k < length ns) ks
low ns ks h i d lt = of_among (λ k. k < length ns) (roots kids ns) _ (roots_low kids ns) (h i d lt)

-- a node's tree has one node more than those of its children
nodes_all_of : (f : ℕ → Tm) (ks : List ℕ) → nodes_all (plain_all (tms (map f ks))) ≡ total (λ k. nodes (plain (f k))) ks
nodes_all_of f [] = refl
nodes_all_of f (k ∷ ks) = ap (λ n. nodes (plain (f k)) + n) (nodes_all_of f ks)

pub nodes_of : (f : ℕ → Tm) (s : Spn) (shape : FShape) →
    nodes (plain (shape_tree f s shape)) ≡ 1 + total (λ k. nodes (plain (f k))) (children shape)
nodes_of f s (Var i) = refl
nodes_of f s (Int n) = refl
nodes_of f s (Fix a r b) = omega arith
nodes_of f s (App a x) = omega arith
nodes_of f s (Gen b) = omega arith
nodes_of f s (Inst e t) = omega arith
nodes_of f s (Tuple es) = ap (λ n. 1 + n) (nodes_all_of f es.items)
nodes_of f s (Proj i e) = omega arith
nodes_of f s (Arith op a b) = omega arith
nodes_of f s (If0 c a b) = omega arith
nodes_of f s (Let a b) = omega arith
nodes_of f s (Pack x e t) = omega arith
nodes_of f s (Open a b) = omega arith
nodes_of f s (Ref e) = omega arith
nodes_of f s (Deref e) = omega arith
nodes_of f s (Assign a b) = omega arith

pub added : (old new : FParts) (n : FNode) (r : ℕ) → new.nodes.items ≡ old.nodes.items ++ n ∷ [] →
    r ≡ length old.nodes.items → All (λ k. IsLoose old k) (kids n) → IsAdded old new (place n.span) n.shape r
added old new n r e er loose =
    let ns = old.nodes.items in
    let blank = SVar (0, 0) 0 in
    let re : roots kids new.nodes.items ≡ without_all (kids n) (roots kids ns) ++ length ns ∷ [] =
    ap (roots kids) e ∙ roots_push kids ns n in
    record {
      last = er;
      more = ap length e ∙ length_push ns n;
      tree = ap (λ (xs : List FNode). parts blank node_tree xs r) e ∙ ap (parts blank node_tree (ns ++ n ∷ [])) er
          ∙ part_new kids node_tree local blank ns n;
      same = λ k lt. ap (λ (xs : List FNode). parts blank node_tree xs k) e
          ∙ part_old kids node_tree local blank ns n k lt;
      left = re ∙ ap (λ (x : ℕ). without_all (kids n) (roots kids ns) ++ x ∷ []) (sym er);
      loose =
          subst (λ xs. Among xs r) (sym re) (among_push (without_all (kids n) (roots kids ns)) (length ns) r (inl er));
      others = λ k h f. subst (λ xs. Among xs k) (sym re)
          (among_push (without_all (kids n) (roots kids ns)) (length ns) k
          (inr (among_left_all (kids n) (roots kids ns) k h f)));
      alone = λ k h.
          elim (among_pop (without_all (kids n) (roots kids ns)) (length ns) k (subst (λ xs. Among xs k) re h)) as
          (λ x. (k ≡ r) ⊎ (IsLoose old k × All (λ j. j ≢ k) (kids n))) [
            | inl x ↦ inl (x ∙ sym er)
            | inr y ↦ inr (among_was_all (kids n) (roots kids ns) k y)
          ];
    }

-- the invariant, with one node more
pub order_more : (p : FParts) (n : FNode) (xs : List FNode) → xs ≡ p.nodes.items ++ n ∷ [] →
    All (λ k. IsLoose p k) (kids n) → InOrder kids xs
order_more p n xs e loose =
    subst (InOrder kids) (sym e) (order_new kids p.nodes.items n p.ordered (low p.nodes.items (kids n) loose))

pub counted_more : (p : FParts) (n : FNode) (xs : List FNode) → xs ≡ p.nodes.items ++ n ∷ [] → Differ (kids n) →
    All (λ k. IsLoose p k) (kids n) → total (nodes_at xs) (roots kids xs) ≡ length xs
counted_more p n xs e d loose =
    let ns = p.nodes.items in
    let blank = SVar (0, 0) 0 in
    subst (λ (ys : List FNode). total (nodes_at ys) (roots kids ys) ≡ length ys) (sym e)
    (counted_push kids (nodes_at ns) (nodes_at (ns ++ n ∷ [])) ns n
    (λ k lt. ap (λ t. nodes (plain t)) (part_old kids node_tree local blank ns n k lt))
    (ap (λ t. nodes (plain t)) (part_new kids node_tree local blank ns n)
    ∙ nodes_of (tree_at ns) (place n.span) n.shape)
    d loose p.counted ∙ sym (length_push ns n))

-- the one part that is nobody's child is the last one
pub done_roots : (p : FParts) (k : ℕ) → IsLoose p k → ((i : ℕ) → IsLoose p i → i ≡ k) →
    roots kids p.nodes.items ≡ (size_of p - 1) ∷ []
done_roots p k h one =
    let ns = p.nodes.items in
    let lt = of_among (λ k. k < length ns) (roots kids ns) k (roots_low kids ns) h in
    let last : size_of p - 1 ≡ k = one (size_of p - 1) (last_among kids ns (size_of p - 1) (omega (arith, lt))) in
    just_one (roots kids ns) k (roots_differ kids ns) h one ∙ ap (λ (x : ℕ). x ∷ []) (sym last)

pub done_root : (p : FParts) (k j : ℕ) → IsLoose p k → ((i : ℕ) → IsLoose p i → i ≡ k) → IsLoose p j →
    part p (size_of p - 1) ≡ part p j
done_root p k j h one hj =
    let e = just_one (roots kids p.nodes.items) k (roots_differ kids p.nodes.items) h one in
    ap (part p) (head_is (sym (done_roots p k h one) ∙ e) ∙ sym (one j hj))
  where
    head_is : {a b : ℕ} → a ∷ [] ≡ b ∷ [] → a ≡ b
    head_is e = cc

pub done_counted : (p : FParts) (k : ℕ) → IsLoose p k → ((i : ℕ) → IsLoose p i → i ≡ k) →
    nodes_at p.nodes.items (size_of p - 1) ≡ size_of p
done_counted p k h one = omega (arith, ap (total (nodes_at p.nodes.items)) (done_roots p k h one), p.counted)

pub node_is : (t : FTerm) (i : ℕ) (n : FNode) → i < count t → n ≡ get_or t.nodes.items i n →
    node_at t i ≡ node_tree (node_at t) n
node_is t i n lt is =
    part_at kids node_tree local (SVar (0, 0) 0) t.nodes.items i n lt t.ordered ∙ ap (node_tree (node_at t)) (sym is)

pub done_some : (p : FParts) (k : ℕ) → IsLoose p k → 0 < size_of p
done_some p k h =
    let lt = of_among (λ k. k < size_of p) (roots kids p.nodes.items) k (roots_low kids p.nodes.items) h in
    omega (arith, lt)

-- whether or not there was memory
pub either : {A : Type 0} (P : A → Type 0) (b : Bool) (x y z : A) → x ≡ (if b then y else z) → P y → P z → P x
either P true x y z e hy hz = subst P (sym e) hy
either P false x y z e hy hz = subst P (sym e) hz
