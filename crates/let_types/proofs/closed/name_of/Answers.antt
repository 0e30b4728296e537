use Rattle.std.proofs.Common.{arith}
use Rattle.let_types.proofs.Knowing.{name_in, name_out}
use Rattle.let_types.proofs.closed.name_of.Goals as goal

pub returns-then-level-names : goal.returns-then-level-names
returns-then-level-names c =
    name_in c.args.names.now c.args.value.now c.in-Some.level c.index-names-level.result c.in-Some.is
    (omega (arith, c.if-level-names.true)) c.index-names-level.is

pub returns-else-level-names : goal.returns-else-level-names
returns-else-level-names c =
    name_out c.args.names.now c.args.value.now c.in-Some.level c.in-Some.is (omega (arith, c.if-level-names.false))
