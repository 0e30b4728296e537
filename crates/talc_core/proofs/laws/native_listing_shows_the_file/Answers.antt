use Rattle.talc_core.proofs.NativeListingLemmas as lemmas
use Rattle.talc_core.proofs.laws.native_listing_shows_the_file.Goals as goal

pub returns : goal.returns
returns c = lemmas.native_listing_shows_the_file c.texts_keep_laws.ensures
