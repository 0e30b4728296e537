use Rattle.std.proofs.Common.{◌∙◌, ◌-◌, arith, length}
use Rattle.let_types.proofs.Naming.{name_in, name_out}
use Rattle.let_types.proofs.named.variable.Goals as goal

pub returns-in_ok-t : goal.returns-in_ok-t
returns-in_ok-t c =
    c.in_ok-t.ensures
    ∙ name_in c.args.types c.args.names.now c.args.i (length c.args.names.now - 1 - c.args.i)
    c.index-names-count.result (omega (arith, c.if-i-count.true)) c.index-names-count.is

pub returns-else-i-count : goal.returns-else-i-count
returns-else-i-count c = name_out c.args.types c.args.names.now c.args.i (omega (arith, c.if-i-count.false))
