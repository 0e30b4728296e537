use Rattle.std.proofs.Common.{◌-◌, arith, length}
use Rattle.let_types.proofs.OneMore.{bare_is}
use Rattle.let_types.proofs.declaring.bare_name.Goals as goal

pub returns-then-i-count : goal.returns-then-i-count
returns-then-i-count c = λ ks k.
    bare_is k c.args.names.now c.args.parts.now c.in_ok-i.i (length c.args.names.now - 1 - c.in_ok-i.i)
    c.index-names-count.result c.in_ok-i.ensures (omega (arith, c.if-i-count.true)) c.index-names-count.is ks
