use Rattle.std.proofs.Common.{List, ℕ, ◌++◌, subst}
use Rattle.page_core.specs.Pieces.{HasText}
use Rattle.kc_notation.specs.ClosedWalk.{last, popped}
use Rattle.kc_notation.proofs.Pages.{text_page}
use Rattle.kc_notation.proofs.page.Page.line.Goals as goal

pub returns : goal.returns
returns c = λ p h.
    let after = c.pop-value.ensures.popped p h in
    text_page c.pop-value.new.self c.joined.new.self c.in_ok-self.field-0 (popped p)
    (p.body.text ++ (c.args.front.items ++ (last p.body.values ++ c.args.behind.now)))
    (λ i s k. c.in_ok-self.ensures.keeps i s (c.in_ok-whole.ensures.keeps i s k))
    (subst
    (λ (e : List ℕ). HasText c.joined.new.self c.in_ok-self.field-0 (p.body.text ++ (c.args.front.items
    ++ (last p.body.values ++ e))))
    c.in_ok-end.ensures.items
    (c.in_ok-self.ensures.stands _ _ (c.in_ok-whole.ensures.keeps _ _ after.0.body.text) (c.in_ok-whole.ensures.stands _
    after.1)))
    after.0
