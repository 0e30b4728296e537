use Rattle.f_terms.proofs.Parts.{done_root, done_roots, done_counted, done_some}
use Rattle.f_terms.proofs.node.FParts.done.Goals as goal

pub returns : goal.returns
returns c = λ k h. done_root c.args.self c.requires.0 k c.requires.1 c.requires.2 h

pub invariant_of-result : goal.invariant_of-result
invariant_of-result c =
    let p = c.args.self in
    let one = c.requires.2 in
    record {
      some = done_some p c.requires.0 c.requires.1;
      ordered = p.ordered;
      one = done_roots p c.requires.0 c.requires.1 one;
      counted = done_counted p c.requires.0 c.requires.1 one;
    }
