-- A node's tree looks at its children alone.
use Rattle.std.proofs.Common.{◌≡◌, ℕ, List, [], ◌∷◌, map, refl, ap, ap₂, ◌∙◌, arith, All}
use Rattle.std.proofs.lemmas.List.Elements.{All-head, All-tail}
use Rattle.f_terms.specs.Tm.{Spn, Tm, SFix, SApp, SGen, SInst, STuple, SProj, SArith, SIf0, SLet, SPack, SOpen, SRef}
use Rattle.f_terms.specs.Tm.{SDeref, SAssign, tms}
use Rattle.f_terms.specs.Read.{tree, place}
use Rattle.f_terms.specs.Shape.{children, shape_tree, kids, node_tree}
use Rattle.f_terms.specs.declared.node.FNode.{FNode}
use Rattle.f_terms.specs.declared.node.FShape.{FShape}
use Rattle.f_terms.specs.declared.node.FShape.TheVariants.{Var, Int, Fix, App, Gen, Inst, Tuple, Proj, Arith, If0, Let}
use Rattle.f_terms.specs.declared.node.FShape.TheVariants.{Pack, Open, Ref, Deref, Assign}

same_all : (f g : ℕ → Tm) (ks : List ℕ) → All (λ k. f k ≡ g k) ks → map f ks ≡ map g ks
same_all f g [] h = refl
same_all f g (k ∷ ks) h =
    ap₂ (λ (t : Tm) (ts : List Tm). t ∷ ts) (All-head (λ k. f k ≡ g k) k ks h)
    (same_all f g ks (All-tail (λ k. f k ≡ g k) k ks h))

pub shape_local : (f g : ℕ → Tm) (s : Spn) (n : FShape) → All (λ k. f k ≡ g k) (children n) →
    shape_tree f s n ≡ shape_tree g s n
shape_local f g s (Var i) h = refl
shape_local f g s (Int n) h = refl
shape_local f g s (Fix a r b) h = ap (SFix s (tree a) (tree r)) (h 0 0 (omega arith))
shape_local f g s (App a b) h = ap₂ (SApp s) (h 0 0 (omega arith)) (h 1 0 (omega arith))
shape_local f g s (Gen b) h = ap (SGen s) (h 0 0 (omega arith))
shape_local f g s (Inst e t) h = ap (λ u. SInst s u (tree t)) (h 0 0 (omega arith))
shape_local f g s (Tuple es) h = ap (λ (ts : List Tm). STuple s (tms ts)) (same_all f g es.items h)
shape_local f g s (Proj i e) h = ap (SProj s i) (h 0 0 (omega arith))
shape_local f g s (Arith op a b) h = ap₂ (SArith s op) (h 0 0 (omega arith)) (h 1 0 (omega arith))
shape_local f g s (If0 c a b) h =
    ap (λ u. SIf0 s u (f a) (f b)) (h 0 0 (omega arith))
    ∙ ap₂ (SIf0 s (g c)) (h 1 0 (omega arith)) (h 2 0 (omega arith))
shape_local f g s (Let a b) h = ap₂ (SLet s) (h 0 0 (omega arith)) (h 1 0 (omega arith))
shape_local f g s (Pack x e t) h = ap (λ u. SPack s (tree x) u (tree t)) (h 0 0 (omega arith))
shape_local f g s (Open a b) h = ap₂ (SOpen s) (h 0 0 (omega arith)) (h 1 0 (omega arith))
shape_local f g s (Ref e) h = ap (SRef s) (h 0 0 (omega arith))
shape_local f g s (Deref e) h = ap (SDeref s) (h 0 0 (omega arith))
shape_local f g s (Assign a b) h = ap₂ (SAssign s) (h 0 0 (omega arith)) (h 1 0 (omega arith))

pub local : (f g : ℕ → Tm) (n : FNode) → All (λ k. f k ≡ g k) (kids n) → node_tree f n ≡ node_tree g n
local f g n h = shape_local f g (place n.span) n.shape h
