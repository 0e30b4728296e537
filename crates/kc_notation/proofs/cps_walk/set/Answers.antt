use Rattle.std.proofs.Common.{[], codes, ap, ◌∙◌, subst}
use Rattle.std.proofs.lemmas.Result.{on_ok_weaker}
use Rattle.calc_core.proofs.Trees.{tree_Tuple}
use Rattle.k_terms.specs.K.{TKTuple}
use Rattle.k_terms.specs.Read.{ktys}
use Rattle.kc_notation.specs.Standing.{IsPage}
use Rattle.kc_notation.specs.ClosedWalk.{declare, pair}
use Rattle.kc_notation.specs.CpsWalk.{noted}
use Rattle.kc_notation.proofs.cps_walk.set.Goals as goal

pub returns : goal.returns
returns c = on_ok_weaker c.declare.result
    (λ f p h.
    subst
    (λ t. IsPage c.declare.new.page (declare (pair p (codes " := ")) c.args.level (noted c.args.typed p t) []))
    (tree_Tuple c.new.result ∙ ap (λ ts. TKTuple (ktys ts)) c.new.ensures.items)
    (f (pair p (codes " := ")) (c.in_ok-pair.ensures p h)))
    c.declare.ensures
