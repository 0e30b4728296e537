use Rattle.std.proofs.Common.{◌∙◌, ap}
use Rattle.std.proofs.lemmas.List.{take_all}
use Rattle.a_terms.specs.NodeTrees.{wrapped}
use Rattle.a_pass.proofs.Every.{wraps_next}
use Rattle.a_pass.proofs.constants.copied_wraps.Goals as goal

pub loop-wrap-init : goal.loop-wrap-init
loop-wrap-init c = λ v. ap (wrapped v) c.in_ok-made.ensures.items

pub loop-wrap-preserved : goal.loop-wrap-preserved
loop-wrap-preserved c =
    wraps_next c.args.wraps.now c.loop-wrap.made.items _ c.loop-wrap.wrap-index c.wrap-item.result c.in_ok-one.one
    c.loop-wrap-test.true c.wrap-item.is c.in_ok-push.ensures.items c.in_ok-one.ensures c.loop-wrap.invariant

pub returns : goal.returns
returns c = λ v. c.loop-wrap.invariant v
    ∙ ap (wrapped v) (take_all c.loop-wrap.wrap-index c.args.wraps.now c.loop-wrap-test.false)
