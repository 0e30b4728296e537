use Rattle.std.proofs.Common.{◌∙◌, ap}
use Rattle.a_terms.specs.Typing.{or_int}
use Rattle.a_terms.specs.Program.{program_in}
use Rattle.a_scope.specs.Scope.{scope}
use Rattle.a_scope.proofs.Scopes.{own_stands}
use Rattle.a_scope.proofs.declaring.other_entry.Goals as goal

pub returns-in-Some : goal.returns-in-Some
returns-in-Some c =
    let at = c.args.around.now in
    own_stands at.names c.noted_lent.result _ (c.noted_lent.ensures.ty
    ∙ ap or_int (c.in-Some.ensures (program_in at.program.now) (scope at.names at.vars.now)))
    c.noted_lent.ensures.names

pub returns-in_ok-made-in-None : goal.returns-in_ok-made-in-None
returns-in_ok-made-in-None c =
    let made = c.in_ok-made-in-None in
    own_stands c.args.around.now.names made.made _
    (made.ensures.ty ∙ c.known.ensures ∙ ap or_int c.in_ok-ty-in-None.ensures) made.ensures.names
