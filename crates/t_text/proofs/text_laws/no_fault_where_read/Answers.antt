use Rattle.t_text.proofs.TextExact.{no_fault_where_read}
use Rattle.t_text.proofs.text_laws.no_fault_where_read.Goals as goal

pub returns : goal.returns
returns c = no_fault_where_read
