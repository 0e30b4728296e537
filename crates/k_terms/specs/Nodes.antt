-- The nodes of one term.
use Rattle.std.specs.Prelude.{◌≡◌, List, [], map}
use Rattle.k_terms.specs.Decode.{decode}
use Rattle.k_terms.specs.Props.{nodes_set}
use Rattle.k_terms.specs.Read.{knode}
use Rattle.k_terms.specs.Stream.{klin_t}
use Rattle.k_terms.specs.declared.node.KNode.{KNode}

-- these are the nodes of a term, and nothing else
abbrev pub KWhole : List KNode → Type 0
KWhole ns = klin_t 0 0 [] (decode (map knode ns)) [] ≡ map knode ns

pub whole_is_one : (ns : List KNode) → IsProp (KWhole ns)
whole_is_one ns = nodes_set (klin_t 0 0 [] (decode (map knode ns)) []) (map knode ns)
