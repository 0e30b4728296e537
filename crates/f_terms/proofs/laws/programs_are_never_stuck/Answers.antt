use Rattle.f_terms.proofs.Sound.{never_stuck}
use Rattle.f_terms.proofs.laws.programs_are_never_stuck.Goals as goal

pub returns : goal.returns
returns c = never_stuck
