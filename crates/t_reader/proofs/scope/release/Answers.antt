use Rattle.std.proofs.Common.{◌≡◌, List, refl, ◌∙◌, ap, arith, drop}
use Rattle.std.proofs.lemmas.List.{drop-drop}
use Rattle.idx_core.specs.Names.{Name}
use Rattle.t_reader.proofs.scope.release.Goals as goal

pub loop-init : goal.loop-init
loop-init c =
    refl

pub loop-preserved : goal.loop-preserved
loop-preserved c =
    c.pop.ensures ∙ (ap (λ (x : List Name). drop 1 x) c.loop.invariant ∙ drop-drop 1 c.loop.counter c.args.scope.now)

pub returns : goal.returns
returns c =
    let q : c.loop.counter ≡ c.args.count = omega (arith, c.loop.auto.counter-end, c.loop-test.false) in
    rw (← q) c.loop.invariant
