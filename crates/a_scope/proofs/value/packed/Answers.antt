use Rattle.std.proofs.Common.{◌-◌, arith, length}
use Rattle.a_terms.specs.NodeTrees.{base}
use Rattle.a_scope.proofs.Scopes.{packed_of}
use Rattle.a_scope.proofs.value.packed.Goals as goal

pub returns-in-Pack : goal.returns-in-Pack
returns-in-Pack c = λ p g.
    packed_of p g (base c.args.v.now.base) c.args.v.now.wraps.items c.as_slice-wraps.result.now
    c.as_slice-wraps.ensures.value (length c.as_slice-wraps.result.now - 1) c.index-wraps-count.result
    c.in-Pack.hidden c.in-Pack.shape (omega (arith, c.if-count-eq0.false)) c.index-wraps-count.is c.in-Pack.is
