use Rattle.std.proofs.Common.{subst}
use Rattle.a_terms.specs.Typing.{field_of}
use Rattle.a_terms.specs.Program.{program_in}
use Rattle.a_scope.specs.Scope.{EntryOf}
use Rattle.a_scope.proofs.field.field_entry.Goals as goal

pub field_of_entry-requires : goal.field_of_entry-requires
field_of_entry-requires c =
    let at = c.args.around.now in
    (c.in-Some.ensures (program_in at.program.now) at.names).1 c.requires

pub returns-in_ok-made-in-Some : goal.returns-in_ok-made-in-Some
returns-in_ok-made-in-Some c =
    let at = c.args.around.now in
    subst (λ o. EntryOf at.names (field_of c.args.i o) c.in_ok-made-in-Some.made)
    (c.in-Some.ensures (program_in at.program.now) at.names).0 c.in_ok-made-in-Some.ensures
