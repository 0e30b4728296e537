use Rattle.c_terms.proofs.Held.{whole, bound, the_term}
use Rattle.c_terms.proofs.program.CProgram.new.Goals as goal

pub invariant_of-result : goal.invariant_of-result
invariant_of-result c =
    record { whole = whole c.args.nodes.items c.requires; bound = bound c.args.nodes.items c.requires }

pub returns : goal.returns
returns c = λ t h e. the_term c.args.nodes.items t h e
