use Rattle.std.proofs.Common.{subst}
use Rattle.a_terms.specs.Typing.{filled_of}
use Rattle.a_terms.specs.NodeTrees.{a_value}
use Rattle.a_terms.specs.Program.{program_in}
use Rattle.a_scope.specs.Scope.{MaybeEntryOf, type_here}
use Rattle.a_scope.proofs.declaring.filled_entry.Goals as goal

pub returns-in-Some : goal.returns-in-Some
returns-in-Some c =
    let at = c.args.around.now in
    let t = filled_of c.args.i (type_here at (a_value c.args.v.now)) in
    subst (MaybeEntryOf at.names t) c.in-Some.is (c.in_ok-entry.ensures (program_in at.program.now))
