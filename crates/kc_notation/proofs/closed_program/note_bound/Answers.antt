use Rattle.std.proofs.Common.{◌∙◌, arith}
use Rattle.let_types.specs.Known.{level_bound}
use Rattle.let_types.specs.KnownRead.{known}
use Rattle.c_terms.specs.Read.{cnode}
use Rattle.kc_notation.proofs.ClosedStepping.{bound_here, bound_none}
use Rattle.kc_notation.proofs.closed_program.note_bound.Goals as goal

pub returns-in_ok-note-in-Some : goal.returns-in_ok-note-in-Some
returns-in_ok-note-in-Some c =
    c.in_ok-note-in-Some.ensures
    ∙ bound_here c.names-names.result.now (known c.args.known.now).body.names (level_bound (cnode c.args.node.now))
    c.in-Some.level c.index-names-level.result c.names-names.ensures c.in-Some.ensures
    (omega (arith, c.if-level-names.true)) c.index-names-level.is

pub returns-else-level-names : goal.returns-else-level-names
returns-else-level-names c =
    c.new-else-level-names.ensures.items
    ∙ bound_none c.names-names.result.now (known c.args.known.now).body.names (level_bound (cnode c.args.node.now))
    c.in-Some.level c.names-names.ensures c.in-Some.ensures (omega (arith, c.if-level-names.false))
