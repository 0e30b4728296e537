use Rattle.std.proofs.Common.{refl, arith}
use Rattle.f_grammar.proofs.Steps.{got_are, two_children}
use Rattle.f_grammar.proofs.Resuming.{assign_given}
use Rattle.f_grammar.proofs.resume.after_assigned.Goals as goal

pub put-requires : goal.put-requires
put-requires c = λ f. two_children c.requires.3.2 c.requires.2 f

pub returns : goal.returns
returns c =
    let x = c.requires in
    let h = x.3 in
    let g = assign_given c.args.reader.now.tokens.now h.1 x.0 h.0 h.2 x.2 c.in_ok-part.ensures
    (got_are x.0 x.1 _ h.3 x.4) in
    (refl, (g.piece, g.stands, g.reached), omega (arith, g.reached.in_range))
