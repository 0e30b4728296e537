use Rattle.t_terms.specs.Read.{spanned}
use Rattle.listing.proofs.Passing.{met_next, passed_next}
use Rattle.listing.proofs.program.next_block.Goals as goal

pub returns-in_ok-out-in-Some : goal.returns-in_ok-out-in-Some
returns-in_ok-out-in-Some c = λ bs.
    met_next c.args.place c.args.met (spanned c.args.block) c.in-Some.count (spanned c.in_ok-out-in-Some.out)
    c.in-Some.ensures c.in_ok-out-in-Some.ensures bs

pub returns-in-None : goal.returns-in-None
returns-in-None c = λ bs. passed_next c.args.place c.args.met (spanned c.args.block) c.in-None.ensures bs
