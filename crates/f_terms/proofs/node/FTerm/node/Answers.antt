use Rattle.std.proofs.Common.{rules}
use Rattle.f_terms.proofs.Parts.{node_is}
use Rattle.f_terms.proofs.node.FTerm.node.Goals as goal

pub returns-clause-tree : goal.returns-clause-tree
returns-clause-tree c = node_is c.args.self.now c.args.i c.index.result.now c.requires (search (rules, c.index.ensures))
