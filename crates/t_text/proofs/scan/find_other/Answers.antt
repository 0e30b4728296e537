use Rattle.std.proofs.Common.{sym, ◌∙◌}
use Rattle.t_text.proofs.Finding.{letter_found, digit_found, word_is_found, plain_is_found}
use Rattle.t_text.proofs.scan.find_other.Goals as goal

pub returns-then-is_letter : goal.returns-then-is_letter
returns-then-is_letter c =
    let t = c.args.text.now in
    let at = c.args.at in
    let e = c.word_end-end in
    let (w, p) = letter_found t at c.requires.at (sym c.is_letter.ensures ∙ c.if-is_letter.true) e.result e.ensures in
    rw c.bare.ensures (word_is_found t at e.result _ c.requires.at c.requires.register w p c.word.ensures)

pub returns-then-is_digit : goal.returns-then-is_digit
returns-then-is_digit c =
    let t = c.args.text.now in
    let at = c.args.at in
    let d = c.digits_at in
    let (w, p, v) = digit_found t at c.requires.at (sym c.is_digit.ensures ∙ c.if-is_digit.true) d.result d.ensures.end
    d.ensures.is_value in
    rw c.plain.ensures (plain_is_found t at d.result w p v)
