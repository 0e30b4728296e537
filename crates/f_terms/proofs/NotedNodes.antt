-- The tree of a node with types beside it, by its own children.
use Rattle.std.proofs.Common.{◌≡◌, ◌<◌, ℕ, zero, suc, List, [], ◌∷◌, map, length, get_or, refl, ap, ap₂, ◌∙◌, sym}
use Rattle.std.proofs.Common.{subst, arith, All}
use Rattle.std.proofs.lemmas.List.Elements.{All-head, All-tail}
use Rattle.calc_core.specs.Arena.{InOrder}
use Rattle.calc_core.proofs.Nodes.{part_at}
use Rattle.f_terms.specs.Ty.{Ty}
use Rattle.f_terms.specs.Noted.{Noted, EVar, EFix, EApp, EGen, EInst, ETuple, EProj, EArith, EIf, ELet, EPack, EOpen}
use Rattle.f_terms.specs.Noted.{ERef, EDeref, EAssign, noteds}
use Rattle.f_terms.specs.Read.{tree}
use Rattle.f_terms.specs.ReadTerm.{count}
use Rattle.f_terms.specs.Shape.{children, kids}
use Rattle.f_terms.specs.NotedTerm.{under_all, noted_shape, noted_node, beside, noted_at}
use Rattle.f_terms.specs.declared.types.FType.{FType}
use Rattle.f_terms.specs.declared.types.FType.TheVariants as T
use Rattle.f_terms.specs.declared.node.FTerm.{FTerm}
use Rattle.f_terms.specs.declared.node.FNode.{FNode}
use Rattle.f_terms.specs.declared.node.FShape.{FShape}
use Rattle.f_terms.specs.declared.node.FShape.TheVariants.{Var, Int, Fix, App, Gen, Inst, Tuple, Proj, Arith, If0, Let}
use Rattle.f_terms.specs.declared.node.FShape.TheVariants.{Pack, Open, Ref, Deref, Assign}

same_all : (f g : ℕ → Noted) (ks : List ℕ) → All (λ k. f k ≡ g k) ks → map f ks ≡ map g ks
same_all f g [] h = refl
same_all f g (k ∷ ks) h =
    ap₂ (λ (t : Noted) (ts : List Noted). t ∷ ts) (All-head (λ k. f k ≡ g k) k ks h)
    (same_all f g ks (All-tail (λ k. f k ≡ g k) k ks h))

pub shape_local : (f g : ℕ → Noted) (t : Ty) (n : FShape) → All (λ k. f k ≡ g k) (children n) →
    noted_shape f t n ≡ noted_shape g t n
shape_local f g t (Var i) h = refl
shape_local f g t (Int n) h = refl
shape_local f g t (Fix a r b) h = ap (EFix (tree a) (tree r)) (h 0 0 (omega arith))
shape_local f g t (App a b) h = ap₂ (λ x y. EApp x y t) (h 0 0 (omega arith)) (h 1 0 (omega arith))
shape_local f g t (Gen b) h = ap (λ u. EGen u (under_all t)) (h 0 0 (omega arith))
shape_local f g t (Inst e s) h = ap (λ u. EInst u (tree s) t) (h 0 0 (omega arith))
shape_local f g t (Tuple es) h = ap (λ (us : List Noted). ETuple (noteds us) t) (same_all f g es.items h)
shape_local f g t (Proj i e) h = ap (λ u. EProj i u t) (h 0 0 (omega arith))
shape_local f g t (Arith op a b) h = ap₂ (EArith op) (h 0 0 (omega arith)) (h 1 0 (omega arith))
shape_local f g t (If0 c a b) h =
    ap (λ u. EIf u (f a) (f b) t) (h 0 0 (omega arith))
    ∙ ap₂ (λ u v. EIf (g c) u v t) (h 1 0 (omega arith)) (h 2 0 (omega arith))
shape_local f g t (Let a b) h = ap₂ ELet (h 0 0 (omega arith)) (h 1 0 (omega arith))
shape_local f g t (Pack x e s) h = ap (λ u. EPack (tree x) u (tree s)) (h 0 0 (omega arith))
shape_local f g t (Open a b) h = ap₂ (λ x y. EOpen x y t) (h 0 0 (omega arith)) (h 1 0 (omega arith))
shape_local f g t (Ref e) h = ap (λ u. ERef u t) (h 0 0 (omega arith))
shape_local f g t (Deref e) h = ap (λ u. EDeref u t) (h 0 0 (omega arith))
shape_local f g t (Assign a b) h = ap₂ EAssign (h 0 0 (omega arith)) (h 1 0 (omega arith))

abbrev pub pair_kids : FNode × FType → List ℕ
pair_kids n = kids n.0

pub noted_local : (f g : ℕ → Noted) (n : FNode × FType) → All (λ k. f k ≡ g k) (pair_kids n) →
    noted_node f n ≡ noted_node g n
noted_local f g n h = shape_local f g (tree n.1) n.0.shape h

pub beside_length : (ns : List FNode) (ts : List FType) → length (beside ns ts) ≡ length ns
beside_length [] ts = refl
beside_length (n ∷ ns) [] = ap suc (beside_length ns [])
beside_length (n ∷ ns) (t ∷ ts) = ap suc (beside_length ns ts)

-- a node beside its type
beside_node : (ns : List FNode) (ts : List FType) (i : ℕ) (d : FNode × FType) → i < length ns →
    (get_or (beside ns ts) i d).0 ≡ get_or ns i d.0
beside_node [] ts i d lt = absurd (omega (arith, lt))
beside_node (n ∷ ns) [] zero d lt = refl
beside_node (n ∷ ns) (t ∷ ts) zero d lt = refl
beside_node (n ∷ ns) [] (suc i) d lt = beside_node ns [] i d (omega (arith, lt))
beside_node (n ∷ ns) (t ∷ ts) (suc i) d lt = beside_node ns ts i d (omega (arith, lt))

pub beside_is : (ns : List FNode) (ts : List FType) (i : ℕ) (n : FNode) (t : FType) → i < length ns → i < length ts →
    get_or (beside ns ts) i (n, t) ≡ (get_or ns i n, get_or ts i t)
beside_is [] ts i n t lt short = absurd (omega (arith, lt))
beside_is (m ∷ ns) [] i n t lt short = absurd (omega (arith, short))
beside_is (m ∷ ns) (u ∷ ts) zero n t lt short = refl
beside_is (m ∷ ns) (u ∷ ts) (suc i) n t lt short = beside_is ns ts i n t (omega (arith, lt)) (omega (arith, short))

pub beside_order : (ns : List FNode) (ts : List FType) → InOrder kids ns → InOrder pair_kids (beside ns ts)
beside_order ns ts h i d lt =
    let less : i < length ns = omega (arith, lt, beside_length ns ts) in
    subst (λ n. All (λ k. k < i) (kids n)) (sym (beside_node ns ts i d less)) (h i d.0 less)

pub noted_is : (f : FTerm) (ts : List FType) (i : ℕ) (n : FNode) (t : FType) → i < count f → i < length ts →
    n ≡ get_or f.nodes.items i n → t ≡ get_or ts i t →
    noted_at f ts i ≡ noted_node (noted_at f ts) (n, t)
noted_is f ts i n t lt short en et =
    part_at pair_kids noted_node noted_local (EVar 0) (beside f.nodes.items ts) i (n, t)
    (omega (arith, lt, beside_length f.nodes.items ts)) (beside_order f.nodes.items ts f.ordered)
    ∙ ap (noted_node (noted_at f ts))
    (beside_is f.nodes.items ts i n t lt short ∙ ap₂ (λ (m : FNode) (u : FType). (m, u)) (sym en) (sym et))

-- the same, whatever the table has
pub noted_any : (f : FTerm) (ts : List FType) (i : ℕ) (n : FNode) → i < count f → n ≡ get_or f.nodes.items i n →
    (u : Ty) × (noted_at f ts i ≡ noted_shape (noted_at f ts) u n.shape)
noted_any f ts i n lt en =
    let x : FNode × FType = get_or (beside f.nodes.items ts) i (n, T.Int) in (
      tree x.1,
      part_at pair_kids noted_node noted_local (EVar 0) (beside f.nodes.items ts) i (n, T.Int)
          (omega (arith, lt, beside_length f.nodes.items ts)) (beside_order f.nodes.items ts f.ordered)
          ∙ ap (λ (m : FNode). noted_shape (noted_at f ts) (tree x.1) m.shape)
          (beside_node f.nodes.items ts i (n, T.Int) lt ∙ sym en),
    )
