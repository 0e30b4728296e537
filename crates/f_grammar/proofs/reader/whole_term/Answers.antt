use Rattle.f_grammar.proofs.Steps.{at_frame}
use Rattle.f_grammar.proofs.reader.whole_term.Goals as goal

pub resume-requires : goal.resume-requires
resume-requires c =
    let l = c.loop-control in
    at_frame c.args.tokens.now l.reader l.control c.in-Give.part c.pop.new.self c.in-Some.frame c.in-Some.ensures.items
    c.in-Give.is l.invariant
