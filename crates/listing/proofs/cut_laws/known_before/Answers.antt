use Rattle.listing.proofs.Knowing as lemmas
use Rattle.listing.proofs.cut_laws.known_before.Goals as goal

pub returns : goal.returns
returns c = lemmas.known_before
