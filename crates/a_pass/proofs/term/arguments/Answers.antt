use Rattle.std.proofs.Common.{refl}
use Rattle.a_pass.proofs.Walking.{named_none, named_next, named_all}
use Rattle.a_pass.proofs.term.arguments.Goals as goal

pub loop-level-init : goal.loop-level-init
loop-level-init c = named_none _ c.new-names.ensures.items

pub loop-level-preserved : goal.loop-level-preserved
loop-level-preserved c = named_next c.args.args.now c.loop-level.level c.index-args-level.result _ _ _
    c.loop-level-test.true c.index-args-level.is c.in_ok-push.ensures.items refl refl refl refl c.loop-level.invariant

pub returns : goal.returns
returns c =
    let named = named_all c.args.args.now c.loop-level.level c.loop-level.names.items c.loop-level-test.false
    c.loop-level.invariant in
    record { knowns = named.knowns; scope = named.scope; depth = named.depth; bound = named.bound }
