use Rattle.std.proofs.Common.{◌++◌}
use Rattle.std.proofs.lemmas.Result.{on_ok_weaker}
use Rattle.kc_notation.specs.ClosedWalk.{last, popped}
use Rattle.kc_notation.proofs.Pages.{keeps_page}
use Rattle.kc_notation.proofs.page.Page.wrap.Goals as goal

pub returns : goal.returns
returns c = on_ok_weaker c.push.result
    (λ f p h.
    let after = c.pop-value.ensures.popped p h in
    f (popped p) (c.args.front.items ++ (last p.body.values ++ c.args.behind.items))
    (keeps_page c.pop-value.new.self c.wrapped.new.pieces (popped p) c.in_ok-whole.ensures.keeps after.0)
    (c.in_ok-whole.ensures.stands _ after.1))
    c.push.ensures
