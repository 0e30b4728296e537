use Rattle.talc_words.proofs.Commands as lemmas
use Rattle.talc_words.proofs.laws.numbers_are_in_bounds.Goals as goal

pub returns : goal.returns
returns c = lemmas.numbers_are_in_bounds
