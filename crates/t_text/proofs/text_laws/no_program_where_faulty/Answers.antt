use Rattle.t_text.proofs.TextExact.{no_program_where_faulty}
use Rattle.t_text.proofs.text_laws.no_program_where_faulty.Goals as goal

pub returns : goal.returns
returns c = no_program_where_faulty
