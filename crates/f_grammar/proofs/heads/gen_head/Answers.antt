use Rattle.f_grammar.specs.declared.cursor.Wanted.TheVariants as want
use Rattle.f_grammar.proofs.Typing.{fails_after, fails_expect, refused}
use Rattle.f_grammar.proofs.Heading.{gen_deep, gen_1, gen_2, gen_read}
use Rattle.f_grammar.proofs.heads.gen_head.Goals as goal

pub returns-in_err-opened : goal.returns-in_err-opened
returns-in_err-opened c =
    refused _ _ _ _ c.from_residual.ensures.1 (gen_deep _ _ _ c.args.word c.requires.word _ c.in_err-opened.ensures)

pub returns-in_err-name : goal.returns-in_err-name
returns-in_err-name c =
    refused _ _ _ _ c.from_residual-in_err-name.ensures.1 (fails_after _ _ _ _ _ _ _ _ _
    (gen_1 _ _ _ c.args.word c.requires.word c.in_ok-opened.ensures.1)
    (fails_expect _ _ _ want.Name _ _ _ c.in_err-name.ensures))

pub returns-in_err-expect : goal.returns-in_err-expect
returns-in_err-expect c =
    refused _ _ _ _ c.from_residual-in_err-expect.ensures.1 (fails_after _ _ _ _ _ _ _ _ _
    (gen_2 _ _ _ c.args.word c.requires.word c.in_ok-opened.ensures.1 _ c.in_ok-name.ensures)
    (fails_expect _ _ _ want.Dot _ _ _ c.in_err-expect.ensures))

pub returns : goal.returns
returns c = gen_read c.args.tokens.now c.args.depth c.args.at c.args.word c.requires.word c.in_ok-opened.ensures.1 _ _
    c.in_ok-name.ensures c.in_ok-expect.ensures
