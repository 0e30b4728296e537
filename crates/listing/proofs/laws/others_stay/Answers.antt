use Rattle.listing.proofs.Staying.{others_stay}
use Rattle.listing.proofs.laws.others_stay.Goals as goal

pub returns : goal.returns
returns c = others_stay
