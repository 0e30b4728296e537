use Rattle.f_writer.proofs.Reading as reading
use Rattle.f_writer.proofs.laws.read_terms_can_be_written.Goals as goal

pub returns : goal.returns
returns c = reading.can_be_written
