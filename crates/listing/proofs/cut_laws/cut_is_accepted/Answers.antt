use Rattle.listing.proofs.Accepting as lemmas
use Rattle.listing.proofs.cut_laws.cut_is_accepted.Goals as goal

pub returns : goal.returns
returns c = lemmas.cut_is_accepted
