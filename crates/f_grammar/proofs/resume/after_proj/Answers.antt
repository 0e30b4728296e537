use Rattle.std.proofs.Common.{refl, arith}
use Rattle.f_grammar.proofs.Steps.{has_mark, got_are, one_child}
use Rattle.f_grammar.proofs.Resuming.{proj_given}
use Rattle.f_grammar.proofs.resume.after_proj.Goals as goal

pub overflow_sub-reader : goal.overflow_sub-reader
overflow_sub-reader c = let m = has_mark (omega arith) c.requires.4 in omega (arith, m)

pub put-requires : goal.put-requires
put-requires c = λ f. one_child c.requires.2 f

pub returns : goal.returns
returns c =
    let x = c.requires in
    let h = x.3 in
    let m = has_mark (omega arith) x.4 in
    let g = proj_given c.args.reader.now.tokens.now x.0 h.0 h.1 h.2 h.3 x.2 (omega (arith, m)) c.in_ok-part.ensures
    (got_are x.0 x.1 _ h.4 x.4) in
    (refl, (g.piece, g.stands, g.reached), omega (arith, g.reached.in_range))
