use Rattle.f_writer.proofs.Standing as standing
use Rattle.f_writer.proofs.laws.written_texts_are_within.Goals as goal

pub returns : goal.returns
returns c = standing.written_within
