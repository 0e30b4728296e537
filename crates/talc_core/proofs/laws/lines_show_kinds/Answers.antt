use Rattle.talc_core.proofs.LineLemmas as lemmas
use Rattle.talc_core.proofs.laws.lines_show_kinds.Goals as goal

pub returns : goal.returns
returns c = lemmas.lines_show_kinds c.erased_words_are_of_their_kind.ensures
