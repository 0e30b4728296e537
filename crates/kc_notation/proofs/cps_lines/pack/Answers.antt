use Rattle.std.proofs.lemmas.Result.{on_ok_weaker}
use Rattle.k_terms.specs.Read.{ktree}
use Rattle.kc_notation.specs.CpsWalk.{packed}
use Rattle.kc_notation.proofs.cps_lines.pack.Goals as goal

pub returns : goal.returns
returns c = on_ok_weaker c.declare.result
    (λ f p h. f (packed p (ktree c.args.hidden.now) (ktree c.args.shape.now)) (c.in_ok-package.ensures p h))
    c.declare.ensures
