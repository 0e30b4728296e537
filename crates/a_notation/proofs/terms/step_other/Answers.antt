use Rattle.a_terms.specs.NodeTrees.{a_values}
use Rattle.a_terms.specs.Program.{program_in}
use Rattle.a_notation.proofs.ScopeTexts.{other_done}
use Rattle.a_notation.proofs.terms.step_other.Goals as goal

pub returns : goal.returns
returns c =
    other_done c.args.of.typed (program_in c.args.of.program.now) c.args.walk.now.vars.items
    c.args.walk.now.scopes.items c.push_scopes.new.scopes.items c.args.scope c.args.node.now.form
    (a_values c.args.node.now.values.items) _ _ c.requires.form c.requires.ready c.in_ok-write_node.ensures
    c.in_ok-push_scopes.ensures
