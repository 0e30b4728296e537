use Rattle.std.proofs.Common.{codes, arith, sym, ◌∙◌, subst}
use Rattle.page_core.specs.Pieces.{HasText}
use Rattle.kc_notation.specs.ClosedWalk.{past, with_values}
use Rattle.kc_notation.proofs.Pages.{keeps_page, shut_called, stand_length}
use Rattle.kc_notation.proofs.page.Page.shut.Goals as goal

pub returns-clause-keeps : goal.returns-clause-keeps
returns-clause-keeps c = λ i s st.
    c.in_ok-text.ensures.keeps i s (c.in_ok-arguments.ensures.keeps i s (c.in_ok-end.ensures.keeps i s st))

pub returns-clause-shut : goal.returns-clause-shut
returns-clause-shut c = λ p h.
    let count = c.len-count.result in
    let first = keeps_page c.args.self.now c.piece_of.new.pieces p c.in_ok-end.ensures.keeps h in
    let both = c.in_ok-arguments.ensures.gathered p (codes ")\n") first c.in_ok-end.ensures.stands in
    let long = stand_length c.args.self.now.pieces c.args.self.now.body.values.items p.body.values h.body.values in
    record {
      text =
          subst (HasText c.joined.new.self c.in_ok-text.text)
          (shut_called p.body count (sym h.body.called ∙ c.if-not-self.false) (omega (
            arith,
            c.len-count.ensures,
            long,
          )))
          (c.in_ok-text.ensures.stands _ _ both.0.body.text both.1);
      values = past count p.body.values;
      page = keeps_page c.gather.new.self c.joined.new.self (with_values p (past count p.body.values))
          c.in_ok-text.ensures.keeps both.0;
    }
