use Rattle.listing.proofs.Staying.{set_is_known}
use Rattle.listing.proofs.laws.set_is_known.Goals as goal

pub returns : goal.returns
returns c = set_is_known
