use Rattle.std.proofs.Common.{[], ◌∷◌, refl, arith}
use Rattle.std.proofs.lemmas.Result.{err_from_is_err_and}
use Rattle.f_grammar.specs.declared.cursor.Wanted.TheVariants as want
use Rattle.f_grammar.specs.Machine.{OfToken}
use Rattle.f_grammar.proofs.Reaching.{stops_token}
use Rattle.f_grammar.proofs.Steps.{has_mark, got_are}
use Rattle.f_grammar.proofs.Resuming.{paren_given}
use Rattle.f_grammar.proofs.resume.after_paren.Goals as goal

pub returns-in_err-right : goal.returns-in_err-right
returns-in_err-right c =
    let p = err_from_is_err_and c.from_residual.result c.from_residual.ensures.1 in
    rw (p.1, p.2)
    (let x = c.requires in stops_token c.args.reader.now.tokens.now want.RightParen _ c.in_err-right.ensures x.4)

pub overflow_sub-reader : goal.overflow_sub-reader
overflow_sub-reader c = let m = has_mark (omega arith) c.requires.4 in omega (arith, m)

pub returns : goal.returns
returns c =
    let x = c.requires in
    let o = x.3.0 in
    let m = has_mark (omega arith) x.4 in
    let g = paren_given c.args.reader.now.tokens.now x.0 o c.in_ok-right.right x.3.1 x.2 c.in_ok-right.ensures
    (omega (arith, m)) (got_are x.0 x.1 (OfToken o ∷ []) x.3.2 x.4) in
    (refl, (g.piece, g.stands, g.reached), omega (arith, g.reached.in_range))
