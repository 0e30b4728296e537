use Rattle.h_terms.specs.Nodes.{h_blocks, values}
use Rattle.h_notation.proofs.ScopeTexts.{other_done}
use Rattle.h_notation.proofs.terms.step_other.Goals as goal

pub returns : goal.returns
returns c =
    other_done c.args.of.typed (h_blocks c.args.of.blocks.now) c.args.walk.now.names.items
    c.args.walk.now.scopes.items c.push_scopes.new.scopes.items c.args.scope c.args.node.now.form
    (values c.args.node.now) _ _ c.requires.form c.requires.ready c.in_ok-write_node.ensures
    c.in_ok-push_scopes.ensures
