use Rattle.std.proofs.Common.{refl, arith}
use Rattle.std.proofs.lemmas.Result.{err_from_is_err_and}
use Rattle.f_grammar.specs.declared.cursor.Wanted.TheVariants as want
use Rattle.f_grammar.proofs.Reaching.{stops_token}
use Rattle.f_grammar.proofs.Steps.{has_mark, got_are, three_children}
use Rattle.f_grammar.proofs.Resuming.{if0_given}
use Rattle.f_grammar.proofs.resume.after_other.Goals as goal

pub returns-in_err-close : goal.returns-in_err-close
returns-in_err-close c =
    let p = err_from_is_err_and c.from_residual.result c.from_residual.ensures.1 in
    rw (p.1, p.2) (stops_token c.args.reader.now.tokens.now want.RightParen _ c.in_err-close.ensures c.requires.4)

pub overflow_sub-reader : goal.overflow_sub-reader
overflow_sub-reader c = let m = has_mark (omega arith) c.requires.4 in omega (arith, m)

pub put-requires : goal.put-requires
put-requires c = λ f. three_children c.requires.3.7 c.requires.3.8 c.requires.2 f

pub returns : goal.returns
returns c =
    let x = c.requires in
    let h = x.3 in
    let m = has_mark (omega arith) x.4 in
    let g = if0_given c.args.reader.now.tokens.now h.4 h.5 x.0 h.0 h.1 h.2 h.3 c.in_ok-close.close h.6 h.7 h.8 x.2
    c.in_ok-close.ensures (omega (arith, m)) c.in_ok-part.ensures (got_are x.0 x.1 _ h.9 x.4) in
    (refl, (g.piece, g.stands, g.reached), omega (arith, g.reached.in_range))
