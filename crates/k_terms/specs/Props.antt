-- Nodes are a set, so that a program may keep that its nodes are those of a tree.
use Rattle.std.proofs.Common.{List}
use Rattle.std.proofs.Props.{props}
use Rattle.calc_core.specs.Props.{types_set, type_set}
use Rattle.k_terms.specs.Stream.{KNd}

node_set : IsSet KNd
node_set = hlevel (props, types_set, type_set)

pub nodes_set : IsSet (List KNd)
nodes_set = hlevel (props, node_set)
