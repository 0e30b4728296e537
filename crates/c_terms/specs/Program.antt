-- What a program's nodes hold.
use Rattle.std.specs.Prelude.{◌≡◌, List, []}
use Rattle.c_terms.specs.C.{CTm}
use Rattle.c_terms.specs.Bound.{CBound}
use Rattle.c_terms.specs.Stream.{clin_t}
use Rattle.c_terms.specs.Decode.{cdecode}
use Rattle.c_terms.specs.Read.{written}
use Rattle.c_terms.specs.Props.{nodes_set}
use Rattle.c_terms.specs.declared.node.CNode.{CNode}

-- the term that nodes hold
abbrev pub closed_of : List CNode → CTm
closed_of ns = cdecode (written ns [])

-- these are the nodes of a term, and nothing else
abbrev pub CWhole : List CNode → Type 0
CWhole ns = clin_t 0 (closed_of ns) [] ≡ written ns []

pub whole_is_one : (ns : List CNode) → IsProp (CWhole ns)
whole_is_one ns = nodes_set (clin_t 0 (closed_of ns) []) (written ns [])

-- the nodes of a term within the bound of programs
abbrev pub CHolds : List CNode → CTm → Type 0
CHolds ns t = (written ns [] ≡ clin_t 0 t []) × CBound t

-- nodes of a program
abbrev pub IsC : List CNode → Type 0
IsC ns = ∥ ((t : CTm) × CHolds ns t) ∥₁
