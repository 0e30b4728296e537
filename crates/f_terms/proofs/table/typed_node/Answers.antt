use Rattle.f_terms.proofs.NotedNodes.{noted_is}
use Rattle.f_terms.proofs.table.typed_node.Goals as goal

pub returns-clause-tree : goal.returns-clause-tree
returns-clause-tree c =
    noted_is c.args.term.now c.args.types.now c.args.i c.index.result.now c.index-types-i.result c.requires.inside
    c.requires.table c.index.ensures c.index-types-i.is
