use Rattle.std.proofs.Common.{[], ◌∷◌, refl, arith}
use Rattle.std.proofs.lemmas.Result.{err_from_is_err_and}
use Rattle.text_core.specs.Table.{Tm, Nt, Do, Mark}
use Rattle.f_grammar.specs.Machine.{LE, LP, MakeParen}
use Rattle.f_grammar.specs.declared.cursor.Wanted.TheVariants as want
use Rattle.f_grammar.proofs.Reaching.{stops_deep}
use Rattle.f_grammar.proofs.Steps.{one_more}
use Rattle.f_grammar.proofs.Beginning.{paren_begun}
use Rattle.f_grammar.proofs.begin.begin_paren.Goals as goal

pub returns-in_err-reader : goal.returns-in_err-reader
returns-in_err-reader c =
    let p = err_from_is_err_and c.from_residual.result c.from_residual.ensures.1 in
    rw (p.1, p.2)
    (stops_deep c.args.reader.now.tokens.now LP c.args.left
    (Nt LE ∷ (Tm want.RightParen ∷ (Mark ∷ (Do MakeParen ∷ [])))) _ c.in_err-reader.ensures c.requires.token
    (rw c.requires.kind refl) refl c.requires.stays)

pub returns : goal.returns
returns c =
    let e = c.in_ok-push.ensures in
    let r = paren_begun c.args.reader.now.tokens.now c.args.left c.requires.token c.requires.stays c.requires.kind
    c.in_ok-reader.ensures e in
    (refl, r, omega (arith, one_more _ _ _ e, r.in_range))
