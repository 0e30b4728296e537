use Rattle.std.proofs.Common.{◌∙◌, arith, sym}
use Rattle.types_page.proofs.Marks.{word_at}
use Rattle.types_page.proofs.words.word_of.Goals as goal

pub returns-then-number-tokens : goal.returns-then-number-tokens
returns-then-number-tokens c =
    c.bytes_of.ensures ∙ sym (word_at c.args.text.now c.args.tokens.now c.args.number _ (omega arith))
