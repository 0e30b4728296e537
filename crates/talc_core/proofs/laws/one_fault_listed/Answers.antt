use Rattle.talc_core.proofs.ListingLemmas as lemma
use Rattle.talc_core.proofs.laws.one_fault_listed.Goals as goal

pub returns : goal.returns
returns c =
    lemma.one_fault_listed c.texts_keep_laws.ensures c.places_are_known.ensures.one c.mismatches_keep_laws.ensures
