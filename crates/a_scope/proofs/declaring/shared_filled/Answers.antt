use Rattle.a_terms.specs.NodeTrees.{a_value}
use Rattle.a_scope.proofs.Scopes.{filled_stands}
use Rattle.a_scope.proofs.declaring.shared_filled.Goals as goal

pub returns-in_ok-made-in-Some-filled_then : goal.returns-in_ok-made-in-Some-filled_then
returns-in_ok-made-in-Some-filled_then c = λ p.
    let made = c.in_ok-made-in-Some-filled_then in
    filled_stands p c.args.names c.args.vars.now (a_value c.args.v.now) c.in-Some.entry.now made.made c.args.i
    c.in-Some-filled_then.count (c.in-Some.ensures p c.args.names) c.requires c.in-Some-filled_then.ensures.2
    made.ensures.ty made.ensures.names
