use Rattle.talc_core.proofs.ListingLemmas.{one_listing}
use Rattle.talc_core.proofs.laws.one_listing.Goals as goal

pub returns : goal.returns
returns c = one_listing c.texts_keep_laws.ensures c.places_are_known.ensures.one
