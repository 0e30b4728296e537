use Rattle.std.proofs.Common.{refl}
use Rattle.std.proofs.lemmas.Result.{err_from_is_err_and}
use Rattle.t_text.specs.declared.wanted.Wanted.TheVariants as want
use Rattle.t_text.specs.GrammarTable.{LInt, MakeInt}
use Rattle.t_shapes.proofs.Stepping.{not_opening}
use Rattle.t_shapes.proofs.Lines.{opens_int}
use Rattle.t_shapes.proofs.Bracketed.{two_stop, two_read}
use Rattle.t_text.specs.Kept.{tokens_of}
use Rattle.t_shapes.proofs.parts.int.Goals as goal

pub returns-in_err-expect : goal.returns-in_err-expect
returns-in_err-expect c =
    let ts = tokens_of c.args.tokens.now in
    let i = c.args.at in
    let p = err_from_is_err_and c.from_residual.result c.from_residual.ensures.1 in
    rw (p.1, p.2) (not_opening ts 0 i _ LInt want.LeftBracket _ opens_int refl c.in_err-expect.ensures)

pub returns-in_err-close : goal.returns-in_err-close
returns-in_err-close c =
    let ts = tokens_of c.args.tokens.now in
    let i = c.args.at in
    let p = err_from_is_err_and c.from_residual-in_err-close.result c.from_residual-in_err-close.ensures.1 in
    rw (p.1, p.2)
    (two_stop ts i LInt want.Int want.RightBracket MakeInt opens_int _ c.in_ok-expect.ensures _
    c.in_err-close.ensures)

pub returns : goal.returns
returns c =
    let ts = tokens_of c.args.tokens.now in
    let i = c.args.at in
    two_read ts i LInt want.Int want.RightBracket MakeInt opens_int _ c.in_ok-expect.ensures _ c.in_ok-close.close _
    c.in_ok-close.ensures (λ below. refl)
