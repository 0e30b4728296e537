use Rattle.f_grammar.proofs.Exact as exact
use Rattle.f_grammar.proofs.text_laws.same_nodes.Goals as goal

pub returns : goal.returns
returns c = exact.same_nodes_of_text
