use Rattle.std.proofs.Common.{List, ℕ, ◌++◌, ap, ◌∙◌, subst}
use Rattle.std.proofs.lemmas.Result.{on_ok_weaker}
use Rattle.page_core.specs.Names.{op_sign}
use Rattle.kc_notation.specs.Standing.{IsPage}
use Rattle.kc_notation.specs.ClosedWalk.{pair}
use Rattle.kc_notation.proofs.page.Page.arith.Goals as goal

pub returns : goal.returns
returns c = on_ok_weaker c.declare.result
    (λ f p h.
    let sign = c.deref.ensures.value ∙ c.in_ok-write_op.ensures
    ∙ ap (λ (x : List ℕ). x ++ op_sign c.args.op) c.new-sign.ensures.items in
    f (pair p (op_sign c.args.op))
    (subst (λ (s : List ℕ). IsPage c.pair.new.self (pair p s)) sign (c.in_ok-pair.ensures p h)))
    c.declare.ensures
