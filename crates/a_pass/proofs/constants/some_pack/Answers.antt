use Rattle.std.proofs.Common.{◌∙◌, ap, sym, refl}
use Rattle.std.proofs.lemmas.List.{take_all}
use Rattle.a_terms.specs.NodeTrees.{wrapped}
use Rattle.a_laws.specs.Allocate.{is_pack}
use Rattle.a_pass.proofs.Every.{packs_at, packs_next}
use Rattle.a_pass.proofs.constants.some_pack.Goals as goal

pub loop-wrap-init : goal.loop-wrap-init
loop-wrap-init c = λ v e. e

pub loop-wrap-preserved : goal.loop-wrap-preserved
loop-wrap-preserved c =
    packs_next c.args.wraps.now c.loop-wrap.wrap-index c.wrap-item.result c.loop-wrap-test.true c.wrap-item.is
    (c.if-packs.ensures.other refl) c.loop-wrap.invariant

pub returns-then-packs : goal.returns-then-packs
returns-then-packs c =
    λ v e. sym (packs_at c.args.wraps.now c.loop-wrap.wrap-index c.wrap-item.result c.loop-wrap-test.true
    c.wrap-item.is (c.if-packs.ensures.yes refl) v)

pub returns : goal.returns
returns c = λ v e.
    sym (ap (λ xs. is_pack (wrapped v xs))
    (sym (take_all c.loop-wrap.wrap-index c.args.wraps.now c.loop-wrap-test.false)) ∙ c.loop-wrap.invariant v e)
