use Rattle.std.proofs.Common.{◌+◌, refl, arith}
use Rattle.std.proofs.lemmas.Result.{err_from_is_err_and}
use Rattle.f_grammar.specs.Machine.{LBranches}
use Rattle.f_grammar.specs.declared.cursor.Wanted.TheVariants as want
use Rattle.text_core.proofs.Going.{is_next, is_of}
use Rattle.f_grammar.specs.Machine.{table}
use Rattle.f_grammar.proofs.Reaching.{stops_deep}
use Rattle.f_grammar.proofs.Follows.{branches_owed, after_paren}
use Rattle.f_grammar.proofs.Steps.{one_more}
use Rattle.f_grammar.proofs.Beginning.{no_branches, branches_open, test_begun}
use Rattle.f_grammar.proofs.begin.begin_if0.Goals as goal

pub returns-in_err-expect : goal.returns-in_err-expect
returns-in_err-expect c =
    let p = err_from_is_err_and c.from_residual.result c.from_residual.ensures.1 in
    rw (p.1, p.2)
    (no_branches c.args.reader.now.tokens.now _ c.in_err-expect.ensures
    (branches_open c.args.reader.now.tokens.now c.args.word c.requires.token c.requires.stays c.requires.kind))

pub returns-in_err-reader : goal.returns-in_err-reader
returns-in_err-reader c =
    let p = err_from_is_err_and c.from_residual-in_err-reader.result c.from_residual-in_err-reader.ensures.1 in
    rw (p.1, p.2) (let o = c.in_ok-expect.ensures in
    stops_deep c.args.reader.now.tokens.now LBranches _ branches_owed _ c.in_err-reader.ensures
    (is_next table c.args.reader.now.tokens.now (c.args.reader.now.at + 1) want.LeftParen _ o)
    (after_paren _ (is_of table c.args.reader.now.tokens.now (c.args.reader.now.at + 1) want.LeftParen _ o)) refl
    (branches_open c.args.reader.now.tokens.now c.args.word c.requires.token c.requires.stays c.requires.kind))

pub returns : goal.returns
returns c =
    let e = c.in_ok-push.ensures in
    let r = test_begun c.args.reader.now.tokens.now c.args.word c.requires.token c.requires.stays _ c.requires.kind
    c.in_ok-expect.ensures c.in_ok-reader.ensures e in
    (refl, r, omega (arith, one_more _ _ _ e, r.in_range))
