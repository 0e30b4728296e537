-- The trees of a term's nodes, and of parts.
use Rattle.std.specs.Prelude.{◌-◌, ℕ, List, length, slice_index_or}
use Rattle.calc_core.specs.Arena.{parts}
use Rattle.calc_core.specs.Roots.{Among, roots}
use Rattle.f_terms.specs.Tm.{Tm, Term, SVar, plain}
use Rattle.f_terms.specs.Shape.{kids, node_tree}
use Rattle.f_terms.specs.declared.node.FShape.{FShape}
use Rattle.f_terms.specs.declared.node.FShape.TheVariants.{Var}
use Rattle.f_terms.specs.declared.node.FNode.{FNode}
use Rattle.f_terms.specs.declared.node.FTerm.{FTerm}
use Rattle.f_terms.specs.declared.node.FParts.{FParts}

-- the number of nodes
abbrev pub count : FTerm → ℕ
count t = length t.nodes.items

-- the tree of node i
abbrev pub node_at : FTerm → ℕ → Tm
node_at t = parts (SVar (0, 0) 0) node_tree t.nodes.items

-- the form of node i
abbrev pub no_node : FNode
no_node = record { span = record { start = 0; end = 0 }; shape = Var 0 }

abbrev pub shape_at : FTerm → ℕ → FShape
shape_at t i = (slice_index_or t.nodes.items i no_node).shape

-- the plain tree of a term with its places, and with places left aside
abbrev pub spanned : FTerm → Tm
spanned t = node_at t (count t - 1)

abbrev pub term_of : FTerm → Term
term_of t = plain (spanned t)

-- the number of parts, the tree of part i, and the parts that are nobody's child, in the order of their numbers
abbrev pub size_of : FParts → ℕ
size_of p = length p.nodes.items

abbrev pub part : FParts → ℕ → Tm
part p = parts (SVar (0, 0) 0) node_tree p.nodes.items

abbrev pub loose_parts : FParts → List ℕ
loose_parts p = roots kids p.nodes.items

abbrev pub IsLoose : FParts → ℕ → Type 0
IsLoose p k = Among (loose_parts p) k
