use Rattle.idx_core.specs.Laws as laws
use Rattle.a_terms.specs.TreeLaws.{a_part, a_over}
use Rattle.a_terms.proofs.laws.puts_exchange.Goals as goal

pub returns : goal.returns
returns c = λ i j u v t le. laws.put_put a_part a_over i j u v t le
