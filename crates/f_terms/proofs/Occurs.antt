-- How often a node occurs in another, and what a change of a table of types leaves as it was.
use Rattle.std.proofs.Common.{◌≡◌, ◌≢◌, ◌≤◌, ◌<◌, ℕ, zero, suc, ◌+◌, ◌-◌, List, [], ◌∷◌, map, length, get_or}
use Rattle.std.proofs.Common.{slice_set, refl, ap, ap₂, ◌∙◌, sym, arith, All}
use Rattle.std.proofs.lemmas.List.{get_or-set_other, length-set}
use Rattle.std.proofs.lemmas.List.Elements.{All-nil, All-cons, All-head, All-tail}
use Rattle.calc_core.specs.Roots.{total}
use Rattle.calc_core.proofs.Once as once
use Rattle.calc_core.proofs.Roots.{if_same, same_total as total_eq}
use Rattle.f_terms.specs.Limits.{nodes}
use Rattle.f_terms.specs.Tm.{Tm, Spn, plain, plain_all, tms, MFix, MApp, MGen, MInst, MTuple, MProj, MArith, MIf0}
use Rattle.f_terms.specs.Tm.{MLet, MPack, MOpen, MRef, MDeref, MAssign, MoreTerms}
use Rattle.f_terms.specs.Noted.{Noted, bare, bare_all, noteds}
use Rattle.f_terms.specs.Ty.{Ty}
use Rattle.f_terms.specs.Read.{tree, place}
use Rattle.f_terms.specs.Shape.{children, kids, shape_tree}
use Rattle.f_terms.specs.ReadTerm.{count, node_at, shape_at, no_node, term_of}
use Rattle.f_terms.specs.NotedTerm.{noted_shape, noted_at, noted_of}
use Rattle.f_terms.specs.declared.types.FType.{FType}
use Rattle.f_terms.specs.declared.types.FType.TheVariants as T
use Rattle.f_terms.specs.declared.node.FNode.{FNode}
use Rattle.f_terms.specs.declared.node.FTerm.{FTerm}
use Rattle.f_terms.specs.declared.node.FShape.{FShape}
use Rattle.f_terms.specs.declared.node.FShape.TheVariants.{Var, Int, Fix, App, Gen, Inst, Tuple, Proj, Arith, If0, Let}
use Rattle.f_terms.specs.declared.node.FShape.TheVariants.{Pack, Open, Ref, Deref, Assign}
use Rattle.f_terms.proofs.Parts.{node_is, nodes_of}
use Rattle.f_terms.proofs.NotedNodes.{noted_is, noted_any, shape_local}

-- how often node m occurs in node i
abbrev pub times : FTerm → ℕ → ℕ → ℕ
times f m = once.times kids f.nodes.items m

abbrev pub one : ℕ → ℕ → ℕ
one m i = once.one kids m i

pub times_of : (f : FTerm) (m i : ℕ) → i < count f → times f m i ≡ one m i + total (times f m) (children (shape_at f i))
times_of f m i lt = once.times_is kids f.nodes.items m i no_node lt f.ordered

pub times_self : (f : FTerm) (i : ℕ) → i < count f → 1 ≤ times f i i
times_self f i lt = once.times_self kids f.nodes.items i no_node lt f.ordered

-- children stand before
pub low : (f : FTerm) (i : ℕ) → i < count f → All (λ k. k < i) (children (shape_at f i))
low f i lt = f.ordered i no_node lt

same_get : {A : Type 0} (d : A) (xs : List A) (i : ℕ) → get_or xs i d ≡ get_or xs i (get_or xs i d)
same_get d [] i = refl
same_get d (x ∷ xs) zero = refl
same_get d (x ∷ xs) (suc i) = same_get d xs i

abbrev pub at : FTerm → ℕ → FNode
at f i = get_or f.nodes.items i no_node

pub node_of : (f : FTerm) (i : ℕ) → i < count f →
    node_at f i ≡ shape_tree (node_at f) (place (at f i).span) (shape_at f i)
node_of f i lt = node_is f i (at f i) lt (same_get no_node f.nodes.items i)

abbrev full : FTerm → ℕ → ℕ
full f = once.weight kids (λ j. 1) f.nodes.items

full_is : (f : FTerm) (b i : ℕ) → i < b → i < count f → full f i ≡ nodes (plain (node_at f i))
full_is f zero i lb lt = absurd (omega (arith, lb))
full_is f (suc b) i lb lt =
    let ks = children (shape_at f i) in
    let same : total (full f) ks ≡ total (λ k. nodes (plain (node_at f k))) ks =
    total_eq (full f) (λ k. nodes (plain (node_at f k))) ks
    (λ j d l. let k = low f i lt j d l in
    full_is f b (get_or ks j d) (omega (arith, lb, k)) (omega (arith, lt, k))) in
    omega (
      arith,
      once.weight_is kids (λ j. 1) f.nodes.items i no_node lt f.ordered,
      same,
      nodes_of (node_at f) (place (at f i).span) (shape_at f i),
      ap (λ e. nodes (plain e)) (node_of f i lt),
    )

-- every node occurs at most once in the whole
pub times_root : (f : FTerm) (m : ℕ) → times f m (count f - 1) ≤ 1
times_root f m =
    let some = f.some in
    once.once kids f.nodes.items (count f - 1) m f.ordered f.one
    (full_is f (count f) (count f - 1) (omega (arith, some)) (omega (arith, some)) ∙ f.counted)

-- the tree of a node with its type beside it
pub noted_here : (f : FTerm) (ts : List FType) (i : ℕ) → i < count f → count f ≤ length ts →
    noted_at f ts i ≡ noted_shape (noted_at f ts) (tree (get_or ts i T.Int)) (shape_at f i)
noted_here f ts i lt long =
    noted_is f ts i (at f i) (get_or ts i T.Int) lt (omega (arith, lt, long)) (same_get no_node f.nodes.items i)
    (same_get T.Int ts i)

pub total_none : (f : ℕ → ℕ) (ks : List ℕ) → total f ks ≡ 0 → All (λ k. f k ≡ 0) ks
total_none f [] h = All-nil (λ k. f k ≡ 0)
total_none f (k ∷ ks) h = All-cons (λ k. f k ≡ 0) k ks (omega (arith, h)) (total_none f ks (omega (arith, h)))

-- a type that is put down for a node which does not occur
pub noted_same : (f : FTerm) (ts : List FType) (m : ℕ) (x : FType) (b i : ℕ) → i < b → i < count f →
    count f ≤ length ts → times f m i ≡ 0 →
    noted_at f (slice_set ts m x) i ≡ noted_at f ts i
noted_same f ts m x zero i lb lt long none = absurd (omega (arith, lb))
noted_same f ts m x (suc b) i lb lt long none =
    let ks = children (shape_at f i) in
    let us = slice_set ts m x in
    let parts = total_none (times f m) ks (omega (arith, times_of f m i lt, none)) in
    let apart : i ≢ m = λ e. absurd (omega (arith, times_of f m i lt, none, if_same {A = ℕ} i m 1 0 e)) in
    noted_here f us i lt (omega (arith, long, length-set ts m x))
    ∙ ap (λ (u : FType). noted_shape (noted_at f us) (tree u) (shape_at f i)) (get_or-set_other ts m i x T.Int apart)
    ∙ shape_local (noted_at f us) (noted_at f ts) (tree (get_or ts i T.Int)) (shape_at f i)
    (λ j d l. let k = low f i lt j d l in
    noted_same f ts m x b (get_or ks j d) (omega (arith, lb, k)) (omega (arith, lt, k)) long (parts j d l))
    ∙ sym (noted_here f ts i lt long)

-- with the types left aside
same_bares : (g : ℕ → Noted) (h : ℕ → Tm) (ks : List ℕ) → All (λ k. bare (g k) ≡ plain (h k)) ks →
    bare_all (noteds (map g ks)) ≡ plain_all (tms (map h ks))
same_bares g h [] e = refl
same_bares g h (k ∷ ks) e =
    ap₂ MoreTerms (All-head (λ k. bare (g k) ≡ plain (h k)) k ks e)
    (same_bares g h ks (All-tail (λ k. bare (g k) ≡ plain (h k)) k ks e))

shape_bare : (g : ℕ → Noted) (h : ℕ → Tm) (t : Ty) (s : Spn) (n : FShape) →
    All (λ k. bare (g k) ≡ plain (h k)) (children n) → bare (noted_shape g t n) ≡ plain (shape_tree h s n)
shape_bare g h t s (Var i) e = refl
shape_bare g h t s (Int n) e = refl
shape_bare g h t s (Fix a r b) e = ap (MFix (tree a) (tree r)) (e 0 0 (omega arith))
shape_bare g h t s (App a b) e = ap₂ MApp (e 0 0 (omega arith)) (e 1 0 (omega arith))
shape_bare g h t s (Gen b) e = ap MGen (e 0 0 (omega arith))
shape_bare g h t s (Inst a u) e = ap (λ x. MInst x (tree u)) (e 0 0 (omega arith))
shape_bare g h t s (Tuple es) e = ap MTuple (same_bares g h es.items e)
shape_bare g h t s (Proj i a) e = ap (MProj i) (e 0 0 (omega arith))
shape_bare g h t s (Arith op a b) e = ap₂ (MArith op) (e 0 0 (omega arith)) (e 1 0 (omega arith))
shape_bare g h t s (If0 c a b) e =
    ap (λ x. MIf0 x (bare (g a)) (bare (g b))) (e 0 0 (omega arith))
    ∙ ap₂ (MIf0 (plain (h c))) (e 1 0 (omega arith)) (e 2 0 (omega arith))
shape_bare g h t s (Let a b) e = ap₂ MLet (e 0 0 (omega arith)) (e 1 0 (omega arith))
shape_bare g h t s (Pack x a u) e = ap (λ y. MPack (tree x) y (tree u)) (e 0 0 (omega arith))
shape_bare g h t s (Open a b) e = ap₂ MOpen (e 0 0 (omega arith)) (e 1 0 (omega arith))
shape_bare g h t s (Ref a) e = ap MRef (e 0 0 (omega arith))
shape_bare g h t s (Deref a) e = ap MDeref (e 0 0 (omega arith))
shape_bare g h t s (Assign a b) e = ap₂ MAssign (e 0 0 (omega arith)) (e 1 0 (omega arith))

pub bare_at : (f : FTerm) (ts : List FType) (b i : ℕ) → i < b → i < count f →
    bare (noted_at f ts i) ≡ plain (node_at f i)
bare_at f ts zero i lb lt = absurd (omega (arith, lb))
bare_at f ts (suc b) i lb lt =
    let ks = children (shape_at f i) in
    let n = noted_any f ts i (at f i) lt (same_get no_node f.nodes.items i) in
    ap bare n.1
    ∙ shape_bare (noted_at f ts) (node_at f) n.0 (place (at f i).span) (shape_at f i)
    (λ j d l. let k = low f i lt j d l in bare_at f ts b (get_or ks j d) (omega (arith, lb, k)) (omega (arith, lt, k)))
    ∙ sym (ap plain (node_of f i lt))

pub types_left : (f : FTerm) (ts : List FType) → bare (noted_of f ts) ≡ term_of f
types_left f ts = let some = f.some in bare_at f ts (count f) (count f - 1) (omega (arith, some)) (omega (arith, some))
