use Rattle.std.proofs.Common.{List, ℕ, ◌++◌, sym, subst}
use Rattle.std.proofs.lemmas.Result.{on_ok_weaker}
use Rattle.page_core.specs.Pieces.{HasText}
use Rattle.kc_notation.specs.ClosedWalk.{last, others, popped}
use Rattle.kc_notation.proofs.Pages.{keeps_page}
use Rattle.kc_notation.proofs.page.Page.pair.Goals as goal

pub returns : goal.returns
returns c = on_ok_weaker c.push.result
    (λ f p h.
    let first = c.pop-right.ensures.popped p h in
    let second = c.pop-left.ensures.popped (popped p) first.0 in
    let right = subst (λ ps. HasText ps c.pop-right.result (last p.body.values)) (sym c.pop-left.ensures.pieces) first.1
    in
    f (popped (popped p)) (last (others p.body.values) ++ (c.args.sign.now ++ last p.body.values))
    (keeps_page c.pop-left.new.self c.joined.new.pieces (popped (popped p)) c.in_ok-whole.ensures.keeps second.0)
    (subst
    (λ (e : List ℕ). HasText c.joined.new.pieces c.in_ok-whole.whole (last (others p.body.values) ++ (e
    ++ last p.body.values)))
    c.in_ok-between.ensures.items
    (c.in_ok-whole.ensures.stands _ _ second.1 right)))
    c.push.ensures
