use Rattle.std.proofs.Common.{sym, ◌∙◌}
use Rattle.text_core.proofs.Pieces.{comment_found, word_found, negative_found}
use Rattle.text_core.proofs.lexeme.next_lexeme.Goals as goal

pub returns-then-is_comment : goal.returns-then-is_comment
returns-then-is_comment c =
    comment_found c.args.text.now c.args.at c.requires c.line_end.result c.line_end.ensures
    (sym c.is_space.ensures ∙ c.if-is_space.false) (sym c.is_comment.ensures ∙ c.if-is_comment.true)

pub returns-then-is_letter : goal.returns-then-is_letter
returns-then-is_letter c =
    word_found c.args.text.now c.args.at c.requires c.word_end.result c.word_end.ensures
    (sym c.is_space.ensures ∙ c.if-is_space.false) (sym c.is_comment.ensures ∙ c.if-is_comment.false)
    (sym c.is_letter.ensures ∙ c.if-is_letter.true)

pub returns-then-is_negative : goal.returns-then-is_negative
returns-then-is_negative c =
    let d = c.read_digits-then-is_negative in
    negative_found c.args.text.now c.args.at c.requires d.result.value d.result.fits d.result.end d.ensures.end
    d.ensures.is_value (sym c.is_space.ensures ∙ c.if-is_space.false)
    (sym c.is_comment.ensures ∙ c.if-is_comment.false) (sym c.is_letter.ensures ∙ c.if-is_letter.false)
    (sym c.is_digit.ensures ∙ c.if-is_digit.false) (sym c.is_negative.ensures ∙ c.if-is_negative.true)
