use Rattle.std.proofs.Common.{◌-◌, ◌∙◌, arith, length}
use Rattle.t_emit.proofs.Emitted.{register_in, register_out}
use Rattle.t_emit.proofs.values.register.Goals as goal

pub returns-then-n-count : goal.returns-then-n-count
returns-then-n-count c =
    c.moved.ensures
    ∙ register_in c.args.vars.now c.args.saved.now c.args.n (length c.args.vars.now - 1 - c.args.n)
    c.index-vars-count.result (omega (arith, c.if-n-count.true)) c.index-vars-count.is

pub returns-else-n-count : goal.returns-else-n-count
returns-else-n-count c = register_out c.args.vars.now c.args.saved.now c.args.n (omega (arith, c.if-n-count.false))
