use Rattle.std.proofs.Common.{ap}
use Rattle.t_terms.specs.Read.{body, spanned}
use Rattle.listing.proofs.Counting.{at_step, at_last}
use Rattle.listing.proofs.cut_place.steps_before.Goals as goal

pub returns-in-Some : goal.returns-in-Some
returns-in-Some c =
    at_step c.args.place (spanned c.args.block.now) (body c.as_slice-steps.result.now) c.in-Some.count
    (ap body c.as_slice-steps.ensures.value) c.in-Some.ensures

pub returns-in-None : goal.returns-in-None
returns-in-None c =
    at_last c.args.place (spanned c.args.block.now) (body c.as_slice-steps.result.now) c.last_at.result
    (ap body c.as_slice-steps.ensures.value) c.in-None.ensures c.last_at.ensures
