use Rattle.std.proofs.Common.{sym, ◌∙◌}
use Rattle.t_text.proofs.Finding.{word_goes_on, register_stands}
use Rattle.t_text.proofs.scan.register.Goals as goal

pub returns-then-goes_on : goal.returns-then-goes_on
returns-then-goes_on c =
    let d = c.digits_at-digits in
    word_goes_on c.args.text.now c.args.at c.requires d.result d.ensures.end (sym c.goes_on.ensures ∙ c.if-goes_on.true)

pub returns : goal.returns
returns c =
    let d = c.digits_at-digits in
    register_stands c.args.text.now c.args.at c.requires d.result d.ensures.end c.if-text-at-ne114.false
    (sym c.goes_on.ensures ∙ c.if-goes_on.false) c.if-digits-at.false d.ensures.is_value
