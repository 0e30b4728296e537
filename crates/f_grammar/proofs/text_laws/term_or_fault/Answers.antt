use Rattle.f_grammar.proofs.Decided as decided
use Rattle.f_grammar.proofs.text_laws.term_or_fault.Goals as goal

pub returns : goal.returns
returns c = decided.term_or_fault
