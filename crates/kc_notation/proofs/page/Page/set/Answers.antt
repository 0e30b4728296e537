use Rattle.std.proofs.Common.{codes}
use Rattle.std.proofs.lemmas.Result.{on_ok_weaker}
use Rattle.kc_notation.specs.ClosedWalk.{pair}
use Rattle.kc_notation.proofs.page.Page.set.Goals as goal

pub returns : goal.returns
returns c = on_ok_weaker c.declare.result (λ f p h. f (pair p (codes " := ")) (c.in_ok-pair.ensures p h))
    c.declare.ensures
