use Rattle.std.proofs.Common.{refl, arith}
use Rattle.std.proofs.lemmas.Result.{err_from_is_err_and}
use Rattle.f_grammar.specs.declared.cursor.Wanted.TheVariants as want
use Rattle.f_grammar.proofs.Reaching.{stops_token}
use Rattle.f_grammar.proofs.Steps.{one_more, got_are}
use Rattle.f_grammar.proofs.Resuming.{other_begun}
use Rattle.f_grammar.proofs.resume.after_zero.Goals as goal

pub returns-in_err-expect : goal.returns-in_err-expect
returns-in_err-expect c =
    let p = err_from_is_err_and c.from_residual.result c.from_residual.ensures.1 in
    rw (p.1, p.2) (stops_token c.args.reader.now.tokens.now want.Comma _ c.in_err-expect.ensures c.requires.4)

pub returns : goal.returns
returns c =
    let x = c.requires in
    let h = x.3 in
    let e = c.in_ok-push.ensures in
    let r = other_begun c.args.reader.now.tokens.now h.3 x.0 h.0 h.1 h.2 _ h.4 h.5 x.2 c.in_ok-expect.ensures e
    (got_are x.0 x.1 _ h.6 x.4) in
    (refl, r, omega (arith, one_more _ _ _ e, r.in_range))
