use Rattle.std.proofs.Common.{◌∙◌}
use Rattle.c_terms.specs.Read.{cnode}
use Rattle.let_types.specs.KnownRead.{known}
use Rattle.kc_notation.proofs.ClosedStepping.{nothing_noted}
use Rattle.kc_notation.proofs.closed_program.note_next.Goals as goal

pub returns-then-not-typed-clause-note : goal.returns-then-not-typed-clause-note
returns-then-not-typed-clause-note c =
    c.new.ensures.items
    ∙ nothing_noted c.args.typed (cnode c.args.node.now) c.args.types (known c.args.known.now) c.if-not-typed.true
