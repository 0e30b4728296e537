use Rattle.f_writer.proofs.Standing as standing
use Rattle.f_writer.proofs.laws.texts_stand_for_their_terms.Goals as goal

pub returns : goal.returns
returns c = standing.stands_for_itself
