use Rattle.std.proofs.Common.{[], ◌∷◌, refl, arith}
use Rattle.std.proofs.lemmas.Result.{err_from_is_err_and}
use Rattle.text_core.specs.Table.{Tm, Nt, Do, Mark}
use Rattle.f_grammar.specs.Machine.{LP, MakeProj}
use Rattle.f_grammar.specs.declared.cursor.Wanted.TheVariants as want
use Rattle.f_grammar.proofs.Reaching.{stops_deep, stops_token}
use Rattle.f_grammar.proofs.Steps.{one_more}
use Rattle.f_grammar.proofs.Beginning.{proj_open, proj_begun}
use Rattle.f_grammar.proofs.begin.begin_proj.Goals as goal

pub returns-in_err-reader : goal.returns-in_err-reader
returns-in_err-reader c =
    let p = err_from_is_err_and c.from_residual.result c.from_residual.ensures.1 in
    rw (p.1, p.2)
    (stops_deep c.args.reader.now.tokens.now LP c.args.hash
    (Tm want.Number ∷ (Nt LP ∷ (Mark ∷ (Do MakeProj ∷ [])))) _ c.in_err-reader.ensures c.requires.token
    (rw c.requires.kind refl) refl c.requires.stays)

pub returns-in_err-field : goal.returns-in_err-field
returns-in_err-field c =
    let p = err_from_is_err_and c.from_residual-in_err-field.result c.from_residual-in_err-field.ensures.1 in
    rw (p.1, p.2)
    (stops_token c.args.reader.now.tokens.now want.Number _ c.in_err-field.ensures
    (proj_open c.args.reader.now.tokens.now c.args.hash c.requires.token c.requires.stays _ c.requires.kind
    c.in_ok-reader.ensures))

pub returns : goal.returns
returns c =
    let e = c.in_ok-push.ensures in
    let r = proj_begun c.args.reader.now.tokens.now c.args.hash c.requires.token c.requires.stays c.requires.kind
    c.in_ok-reader.ensures c.in_ok-field.ensures e in
    (refl, r, omega (arith, one_more _ _ _ e, r.in_range))
