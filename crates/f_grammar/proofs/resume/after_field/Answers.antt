use Rattle.std.proofs.Common.{◌≡◌, ◌-◌, ◌+◌, refl, sym, arith}
use Rattle.std.proofs.lemmas.Result.{err_from_is_err_and}
use Rattle.f_grammar.specs.declared.cursor.Wanted.TheVariants as want
use Rattle.f_grammar.proofs.Reaching.{stops_token}
use Rattle.f_grammar.proofs.Steps.{one_more, has_mark}
use Rattle.f_grammar.proofs.Resuming.{next_begun, fields_end, tuple_given}
use Rattle.f_grammar.proofs.resume.after_field.Goals as goal

pub returns-in-Some : goal.returns-in-Some
returns-in-Some c =
    let x = c.requires in
    let e = c.in_ok-push.ensures in
    let r = next_begun c.args.reader.now.tokens.now c.args.left c.args.fields x.0 _ x.1 x.2 x.3
    (sym c.in-Some.ensures) e x.4 in
    (refl, r, omega (arith, one_more _ _ _ e, r.in_range))

pub returns-in_err-close : goal.returns-in_err-close
returns-in_err-close c =
    let p = err_from_is_err_and c.from_residual-in_err-close.result c.from_residual-in_err-close.ensures.1 in
    rw (p.1, p.2)
    (let x = c.requires in
    stops_token c.args.reader.now.tokens.now want.RightAngle _ c.in_err-close.ensures
    (fields_end c.args.reader.now.tokens.now x.1 x.0 (sym c.in_default.ensures) x.4))

pub overflow_sub-reader : goal.overflow_sub-reader
overflow_sub-reader c = let m = has_mark (omega arith) c.requires.4 in omega (arith, m)

pub put-requires : goal.put-requires
put-requires c = λ f. (c.requires.3 f).0

pub returns : goal.returns
returns c =
    let x = c.requires in
    let m = has_mark (omega arith) x.4 in
    let d : c.args.reader.now.depth ≡ c.args.reader.now.depth - 1 + 1 = omega (arith, m) in
    let g = tuple_given c.args.reader.now.tokens.now c.args.left c.args.fields x.0 c.in_ok-close.close x.1 x.2 x.3
    (sym c.in_default.ensures) c.in_ok-close.ensures d c.in_ok-part.ensures x.4 in
    (refl, (g.piece, g.stands, g.reached), omega (arith, g.reached.in_range))
