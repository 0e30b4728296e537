use Rattle.a_terms.specs.NodeTrees.{a_value}
use Rattle.a_terms.specs.Program.{program_in}
use Rattle.a_scope.proofs.Scopes.{same_stands}
use Rattle.a_scope.proofs.declaring.value_entry.Goals as goal

pub returns-in_ok-made-in-Some : goal.returns-in_ok-made-in-Some
returns-in_ok-made-in-Some c =
    let at = c.args.around.now in
    let p = program_in at.program.now in
    same_stands p at.names at.vars.now (a_value c.args.v.now) c.in-Some.entry.now c.in_ok-made-in-Some.made
    (c.in-Some.ensures p at.names) c.requires c.in_ok-made-in-Some.ensures.ty c.in_ok-made-in-Some.ensures.names
