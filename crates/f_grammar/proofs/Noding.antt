-- A node's tree looks at its children alone.
use Rattle.std.proofs.Common.{◌≡◌, ◌<◌, ℕ, List, [], ◌∷◌, ◌++◌, map, length, get_or, refl, ap, ap₂, ◌∙◌, sym, arith}
use Rattle.std.proofs.Common.{All}
use Rattle.std.proofs.lemmas.List.Elements.{All-head, All-tail}
use Rattle.calc_core.specs.Arena.{InOrder}
use Rattle.calc_core.proofs.Nodes.{part_at, part_new, part_old}
use Rattle.idx_core.specs.declared.span.Span.{Span}
use Rattle.f_grammar.specs.Raw.{RawTm, RVar, RFix, RGen, RApp, RInst, RFields, RProj, RArith, RIf0, RLet, RPack, ROpen}
use Rattle.f_grammar.specs.Raw.{RCell, RDeref, RAssign, raw_tms}
use Rattle.f_grammar.specs.Read.{type_of}
use Rattle.f_grammar.specs.Nodes.{children, shape_tree, kids, node_tree, tree_at, no_place}
use Rattle.f_grammar.specs.declared.raw.RawNode.{RawNode}
use Rattle.f_grammar.specs.declared.raw.RawShape.{RawShape}
use Rattle.f_grammar.specs.declared.raw.RawShape.TheVariants.{Var, Num, Fix, Gen, App, Inst, Tuple, Proj, Arith, If0}
use Rattle.f_grammar.specs.declared.raw.RawShape.TheVariants.{Let, Pack, Open, Ref, Deref, Assign}

pub same_all : (f g : ℕ → RawTm) (ks : List ℕ) → All (λ k. f k ≡ g k) ks → map f ks ≡ map g ks
same_all f g [] h = refl
same_all f g (k ∷ ks) h =
    ap₂ (λ (t : RawTm) (ts : List RawTm). t ∷ ts) (All-head (λ k. f k ≡ g k) k ks h)
    (same_all f g ks (All-tail (λ k. f k ≡ g k) k ks h))

pub shape_local : (f g : ℕ → RawTm) (s : Span) (n : RawShape) → All (λ k. f k ≡ g k) (children n) →
    shape_tree f s n ≡ shape_tree g s n
shape_local f g s Var h = refl
shape_local f g s (Num z) h = refl
shape_local f g s (Fix n x t r e) h = ap (RFix s n x (type_of t) (type_of r)) (h 0 0 (omega arith))
shape_local f g s (Gen a e) h = ap (RGen s a) (h 0 0 (omega arith))
shape_local f g s (App d e) h = ap₂ (RApp s) (h 0 0 (omega arith)) (h 1 0 (omega arith))
shape_local f g s (Inst e t) h = ap (λ u. RInst s u (type_of t)) (h 0 0 (omega arith))
shape_local f g s (Tuple es) h = ap (λ (ts : List RawTm). RFields s (raw_tms ts)) (same_all f g es.items h)
shape_local f g s (Proj n e) h = ap (RProj s n) (h 0 0 (omega arith))
shape_local f g s (Arith op d e) h = ap₂ (RArith s op) (h 0 0 (omega arith)) (h 1 0 (omega arith))
shape_local f g s (If0 c d e) h =
    ap (λ u. RIf0 s u (f d) (f e)) (h 0 0 (omega arith))
    ∙ ap₂ (RIf0 s (g c)) (h 1 0 (omega arith)) (h 2 0 (omega arith))
shape_local f g s (Let x d e) h = ap₂ (RLet s x) (h 0 0 (omega arith)) (h 1 0 (omega arith))
shape_local f g s (Pack t e r) h = ap (λ u. RPack s (type_of t) u (type_of r)) (h 0 0 (omega arith))
shape_local f g s (Open n x d e) h = ap₂ (ROpen s n x) (h 0 0 (omega arith)) (h 1 0 (omega arith))
shape_local f g s (Ref e) h = ap (RCell s) (h 0 0 (omega arith))
shape_local f g s (Deref e) h = ap (RDeref s) (h 0 0 (omega arith))
shape_local f g s (Assign d e) h = ap₂ (RAssign s) (h 0 0 (omega arith)) (h 1 0 (omega arith))

pub local : (f g : ℕ → RawTm) (n : RawNode) → All (λ k. f k ≡ g k) (kids n) → node_tree f n ≡ node_tree g n
local f g n h = shape_local f g n.span n.shape h

pub node_is : (ns : List RawNode) (i : ℕ) (n : RawNode) → i < length ns → InOrder kids ns → n ≡ get_or ns i n →
    tree_at ns i ≡ node_tree (tree_at ns) n
node_is ns i n l h e = part_at kids node_tree local (RVar no_place) ns i n l h ∙ ap (node_tree (tree_at ns)) (sym e)

-- one node more
pub tree_new : (ns : List RawNode) (n : RawNode) → tree_at (ns ++ n ∷ []) (length ns) ≡ node_tree (tree_at ns) n
tree_new ns n = part_new kids node_tree local (RVar no_place) ns n

pub tree_old : (ns : List RawNode) (n : RawNode) (i : ℕ) → i < length ns → tree_at (ns ++ n ∷ []) i ≡ tree_at ns i
tree_old ns n i l = part_old kids node_tree local (RVar no_place) ns n i l
