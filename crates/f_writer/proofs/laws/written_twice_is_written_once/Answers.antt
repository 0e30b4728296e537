use Rattle.f_writer.proofs.Standing as standing
use Rattle.f_writer.proofs.laws.written_twice_is_written_once.Goals as goal

pub returns : goal.returns
returns c = standing.written_twice c.one_term.ensures
