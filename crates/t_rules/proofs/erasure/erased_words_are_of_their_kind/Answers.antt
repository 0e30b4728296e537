use Rattle.t_rules.proofs.Kinded.{known_words_have_kinds}
use Rattle.t_rules.proofs.erasure.erased_words_are_of_their_kind.Goals as goal

pub returns : goal.returns
returns c = known_words_have_kinds
