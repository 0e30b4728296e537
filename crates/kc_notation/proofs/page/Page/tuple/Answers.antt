use Rattle.std.proofs.Common.{◌++◌, codes}
use Rattle.std.proofs.lemmas.Result.{on_ok_weaker}
use Rattle.kc_notation.specs.ClosedWalk.{gathered, past, with_values}
use Rattle.kc_notation.proofs.Pages.{keeps_page}
use Rattle.kc_notation.proofs.page.Page.tuple.Goals as goal

pub returns : goal.returns
returns c = on_ok_weaker c.push.result
    (λ f p h.
    let count = c.args.count in
    let first = keeps_page c.args.self.now c.piece_of.new.pieces p c.in_ok-end.ensures.keeps h in
    let both = c.in_ok-fields.ensures.gathered p (codes ">") first c.in_ok-end.ensures.stands in
    f (with_values p (past count p.body.values)) (codes "<" ++ gathered count 0 p.body.values (codes ">"))
    (keeps_page c.gather.new.self c.joined.new.self (with_values p (past count p.body.values))
    (λ i s st. c.in_ok-whole.ensures.keeps i s (c.in_ok-begin.ensures.keeps i s st)) both.0)
    (c.in_ok-whole.ensures.stands _ _ c.in_ok-begin.ensures.stands (c.in_ok-begin.ensures.keeps _ _ both.1)))
    c.push.ensures
