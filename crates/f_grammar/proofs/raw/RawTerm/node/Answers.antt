use Rattle.std.proofs.Common.{rules}
use Rattle.f_grammar.proofs.Noding.{node_is}
use Rattle.f_grammar.proofs.raw.RawTerm.node.Goals as goal

pub returns-clause-tree : goal.returns-clause-tree
returns-clause-tree c =
    let t = c.args.self.now in
    node_is t.nodes.items c.args.i c.index.result.now c.requires t.ordered (search (rules, c.index.ensures))
