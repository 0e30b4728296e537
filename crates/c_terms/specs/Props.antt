-- Equality of nodes is a proposition, so that a program may keep that its nodes are those of a term.
use Rattle.std.proofs.Common.{List}
use Rattle.std.proofs.Props.{props}
use Rattle.calc_core.specs.Props.{types_set, type_set}
use Rattle.c_terms.specs.Stream.{CNd}

node_set : IsSet CNd
node_set = hlevel (props, types_set, type_set)

pub nodes_set : IsSet (List CNd)
nodes_set = hlevel (props, node_set)
