use Rattle.std.proofs.Common.{refl, arith}
use Rattle.f_grammar.proofs.Steps.{got_are, two_children}
use Rattle.f_grammar.proofs.Resuming.{let_given}
use Rattle.f_grammar.proofs.resume.after_let_body.Goals as goal

pub put-requires : goal.put-requires
put-requires c = λ f. two_children c.requires.3.7 c.requires.2 f

pub returns : goal.returns
returns c =
    let x = c.requires in
    let h = x.3 in
    let g = let_given c.args.reader.now.tokens.now h.4 x.0 h.0 h.1 h.2 h.3 h.5 h.6 h.7 x.2 c.in_ok-part.ensures
    (got_are x.0 x.1 _ h.8 x.4) in
    (refl, (g.piece, g.stands, g.reached), omega (arith, g.reached.in_range))
