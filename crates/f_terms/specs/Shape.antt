-- The children of a node, and its tree over theirs.
use Rattle.std.specs.Prelude.{ℕ, List, [], ◌∷◌, map}
use Rattle.calc_core.specs.Arena.{parts}
use Rattle.f_terms.specs.Limits.{nodes}
use Rattle.f_terms.specs.Tm.{plain, Spn, Tm, SVar, SNum, SFix, SApp, SGen, SInst, STuple, SProj, SArith, SIf0, SLet}
use Rattle.f_terms.specs.Tm.{SPack, SOpen, SRef, SDeref, SAssign, tms}
use Rattle.f_terms.specs.Read.{tree, place}
use Rattle.f_terms.specs.declared.node.FShape.{FShape}
use Rattle.f_terms.specs.declared.node.FShape.TheVariants.{Var, Int, Fix, App, Gen, Inst, Tuple, Proj, Arith, If0, Let}
use Rattle.f_terms.specs.declared.node.FShape.TheVariants.{Pack, Open, Ref, Deref, Assign}
use Rattle.f_terms.specs.declared.node.FNode.{FNode}

-- from left to right
abbrev pub children : FShape → List ℕ
children (Var i) = []
children (Int n) = []
children (Fix a r b) = b ∷ []
children (App f x) = f ∷ x ∷ []
children (Gen b) = b ∷ []
children (Inst e t) = e ∷ []
children (Tuple es) = es.items
children (Proj i e) = e ∷ []
children (Arith op a b) = a ∷ b ∷ []
children (If0 c a b) = c ∷ a ∷ b ∷ []
children (Let a b) = a ∷ b ∷ []
children (Pack h e t) = e ∷ []
children (Open a b) = a ∷ b ∷ []
children (Ref e) = e ∷ []
children (Deref e) = e ∷ []
children (Assign a b) = a ∷ b ∷ []

-- the tree of a form with the place s, where at has those of its children
abbrev pub shape_tree : (ℕ → Tm) → Spn → FShape → Tm
shape_tree at s (Var i) = SVar s i
shape_tree at s (Int n) = SNum s n
shape_tree at s (Fix a r b) = SFix s (tree a) (tree r) (at b)
shape_tree at s (App f x) = SApp s (at f) (at x)
shape_tree at s (Gen b) = SGen s (at b)
shape_tree at s (Inst e t) = SInst s (at e) (tree t)
shape_tree at s (Tuple es) = STuple s (tms (map at es.items))
shape_tree at s (Proj i e) = SProj s i (at e)
shape_tree at s (Arith op a b) = SArith s op (at a) (at b)
shape_tree at s (If0 c a b) = SIf0 s (at c) (at a) (at b)
shape_tree at s (Let a b) = SLet s (at a) (at b)
shape_tree at s (Pack h e t) = SPack s (tree h) (at e) (tree t)
shape_tree at s (Open a b) = SOpen s (at a) (at b)
shape_tree at s (Ref e) = SRef s (at e)
shape_tree at s (Deref e) = SDeref s (at e)
shape_tree at s (Assign a b) = SAssign s (at a) (at b)

abbrev pub kids : FNode → List ℕ
kids n = children n.shape

abbrev pub node_tree : (ℕ → Tm) → FNode → Tm
node_tree at n = shape_tree at (place n.span) n.shape

-- the tree of each node, and its number of nodes
abbrev pub tree_at : List FNode → ℕ → Tm
tree_at ns = parts (SVar (0, 0) 0) node_tree ns

abbrev pub nodes_at : List FNode → ℕ → ℕ
nodes_at ns k = nodes (plain (tree_at ns k))
