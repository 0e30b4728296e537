use Rattle.f_grammar.proofs.Exact as exact
use Rattle.f_grammar.proofs.text_laws.one_fault.Goals as goal

pub returns : goal.returns
returns c = exact.one_fault
