-- The children of a node of a term whose names are not resolved, and its tree over theirs.
use Rattle.std.specs.Prelude.{ℕ, List, [], ◌∷◌, map}
use Rattle.calc_core.specs.Arena.{parts}
use Rattle.idx_core.specs.declared.span.Span.{Span}
use Rattle.f_grammar.specs.Raw.{RawTm, RVar, RNum, RFix, RGen, RApp, RInst, RFields, RProj, RArith, RIf0, RLet}
use Rattle.f_grammar.specs.Raw.{RPack, ROpen, RCell, RDeref, RAssign, raw_tms}
use Rattle.f_grammar.specs.Read.{type_of}
use Rattle.f_grammar.specs.declared.raw.RawShape.{RawShape}
use Rattle.f_grammar.specs.declared.raw.RawShape.TheVariants.{Var, Num, Fix, Gen, App, Inst, Tuple, Proj, Arith, If0}
use Rattle.f_grammar.specs.declared.raw.RawShape.TheVariants.{Let, Pack, Open, Ref, Deref, Assign}
use Rattle.f_grammar.specs.declared.raw.RawNode.{RawNode}

-- from left to right
abbrev pub children : RawShape → List ℕ
children Var = []
children (Num z) = []
children (Fix f x t r e) = e ∷ []
children (Gen a e) = e ∷ []
children (App d e) = d ∷ e ∷ []
children (Inst e t) = e ∷ []
children (Tuple es) = es.items
children (Proj n e) = e ∷ []
children (Arith op d e) = d ∷ e ∷ []
children (If0 c d e) = c ∷ d ∷ e ∷ []
children (Let x d e) = d ∷ e ∷ []
children (Pack t e r) = e ∷ []
children (Open n x d e) = d ∷ e ∷ []
children (Ref e) = e ∷ []
children (Deref e) = e ∷ []
children (Assign d e) = d ∷ e ∷ []

-- the tree of a form at the place s, where at has those of its children
abbrev pub shape_tree : (ℕ → RawTm) → Span → RawShape → RawTm
shape_tree at s Var = RVar s
shape_tree at s (Num z) = RNum s z
shape_tree at s (Fix f x t r e) = RFix s f x (type_of t) (type_of r) (at e)
shape_tree at s (Gen a e) = RGen s a (at e)
shape_tree at s (App d e) = RApp s (at d) (at e)
shape_tree at s (Inst e t) = RInst s (at e) (type_of t)
shape_tree at s (Tuple es) = RFields s (raw_tms (map at es.items))
shape_tree at s (Proj n e) = RProj s n (at e)
shape_tree at s (Arith op d e) = RArith s op (at d) (at e)
shape_tree at s (If0 c d e) = RIf0 s (at c) (at d) (at e)
shape_tree at s (Let x d e) = RLet s x (at d) (at e)
shape_tree at s (Pack t e r) = RPack s (type_of t) (at e) (type_of r)
shape_tree at s (Open n x d e) = ROpen s n x (at d) (at e)
shape_tree at s (Ref e) = RCell s (at e)
shape_tree at s (Deref e) = RDeref s (at e)
shape_tree at s (Assign d e) = RAssign s (at d) (at e)

abbrev pub kids : RawNode → List ℕ
kids n = children n.shape

abbrev pub node_tree : (ℕ → RawTm) → RawNode → RawTm
node_tree at n = shape_tree at n.span n.shape

-- the tree of each node
abbrev pub no_place : Span
no_place = record { start = 0; end = 0 }

abbrev pub tree_at : List RawNode → ℕ → RawTm
tree_at ns = parts (RVar no_place) node_tree ns
