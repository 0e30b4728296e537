use Rattle.std.proofs.Common.{◌∷◌, refl, arith}
use Rattle.std.proofs.lemmas.Result.{err_from_is_err_and}
use Rattle.text_core.specs.Table.{Tm}
use Rattle.f_grammar.specs.Machine.{LE, MakeLet, body_owed}
use Rattle.f_grammar.specs.declared.cursor.Wanted.TheVariants as want
use Rattle.f_grammar.proofs.Reaching.{stops_deep, stops_token}
use Rattle.f_grammar.proofs.Steps.{one_more}
use Rattle.f_grammar.proofs.Beginning.{let_word, let_owes, let_open, let_named, let_begun}
use Rattle.f_grammar.proofs.begin.begin_let.Goals as goal

pub returns-in_err-reader : goal.returns-in_err-reader
returns-in_err-reader c =
    let p = err_from_is_err_and c.from_residual.result c.from_residual.ensures.1 in
    let ts = c.args.reader.now.tokens.now in
    rw (p.1, p.2)
    (stops_deep ts LE c.args.word (Tm want.Name ∷ body_owed MakeLet) _ c.in_err-reader.ensures
    (let_word ts c.args.word c.requires.word c.requires.stays)
    (let_owes ts c.args.word c.requires.word c.requires.stays) refl c.requires.stays)

pub returns-in_err-name : goal.returns-in_err-name
returns-in_err-name c =
    let p = err_from_is_err_and c.from_residual-in_err-name.result c.from_residual-in_err-name.ensures.1 in
    rw (p.1, p.2)
    (stops_token c.args.reader.now.tokens.now want.Name _ c.in_err-name.ensures
    (let_open c.args.reader.now.tokens.now c.args.word c.requires.word c.requires.stays _ c.in_ok-reader.ensures))

pub returns-in_err-expect : goal.returns-in_err-expect
returns-in_err-expect c =
    let p = err_from_is_err_and c.from_residual-in_err-expect.result c.from_residual-in_err-expect.ensures.1 in
    rw (p.1, p.2)
    (stops_token c.args.reader.now.tokens.now want.Equals _ c.in_err-expect.ensures
    (let_named c.args.reader.now.tokens.now c.args.word c.requires.word c.requires.stays _ c.in_ok-reader.ensures _
    c.in_ok-name.ensures))

pub returns : goal.returns
returns c =
    let e = c.in_ok-push.ensures in
    let r = let_begun c.args.reader.now.tokens.now c.args.word c.requires.word c.requires.stays _
    c.in_ok-reader.ensures c.in_ok-name.name c.in_ok-name.ensures _ c.in_ok-expect.ensures e in
    (refl, r, omega (arith, one_more _ _ _ e, r.in_range))
