use Rattle.std.proofs.Common.{refl, arith}
use Rattle.std.proofs.lemmas.Result.{err_from_is_err_and}
use Rattle.f_grammar.specs.declared.cursor.Wanted.TheVariants as want
use Rattle.f_grammar.proofs.Reaching.{stops_token}
use Rattle.f_grammar.proofs.Steps.{one_more, has_mark, got_are}
use Rattle.f_grammar.proofs.Resuming.{let_body_begun}
use Rattle.f_grammar.proofs.resume.after_let.Goals as goal

pub returns-in_err-expect : goal.returns-in_err-expect
returns-in_err-expect c =
    let p = err_from_is_err_and c.from_residual.result c.from_residual.ensures.1 in
    rw (p.1, p.2) (stops_token c.args.reader.now.tokens.now want.In _ c.in_err-expect.ensures c.requires.4)

pub overflow_sub-reader : goal.overflow_sub-reader
overflow_sub-reader c = let m = has_mark (omega arith) c.requires.4 in omega (arith, m)

pub returns : goal.returns
returns c =
    let x = c.requires in
    let h = x.3 in
    let e = c.in_ok-push.ensures in
    let m = has_mark (omega arith) x.4 in
    let r = let_body_begun c.args.reader.now.tokens.now x.0 h.0 h.1 h.2 _ h.3 h.4 x.2 c.in_ok-expect.ensures
    (omega (arith, m)) e (got_are x.0 x.1 _ h.5 x.4) in
    (refl, r, omega (arith, one_more _ _ _ e, r.in_range))
