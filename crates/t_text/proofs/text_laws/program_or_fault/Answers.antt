use Rattle.t_text.proofs.Worked.{program_or_fault}
use Rattle.t_text.proofs.text_laws.program_or_fault.Goals as goal

pub returns : goal.returns
returns c = program_or_fault
