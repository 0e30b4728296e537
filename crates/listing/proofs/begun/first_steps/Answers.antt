use Rattle.std.proofs.Common.{◌∙◌, ap, take}
use Rattle.std.proofs.lemmas.List.{take_min}
use Rattle.listing.proofs.begun.first_steps.Goals as goal

pub returns : goal.returns
returns c = ap (λ k. take k c.args.steps.now) c.min-few.ensures ∙ take_min c.args.count c.args.steps.now
