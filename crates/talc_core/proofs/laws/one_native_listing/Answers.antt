use Rattle.talc_core.proofs.NativeListingLemmas as lemmas
use Rattle.talc_core.proofs.laws.one_native_listing.Goals as goal

pub returns : goal.returns
returns c = lemmas.one_native_listing c.texts_keep_laws.ensures
