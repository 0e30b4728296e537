use Rattle.idx_core.specs.Laws as laws
use Rattle.t_types.specs.TreeLaws.{types_part, types_over, file_over}
use Rattle.t_types.proofs.laws.puts_exchange.Goals as goal

pub returns : goal.returns
returns c = record {
  ty = λ i j u v t le. laws.put_put types_part types_over i j u v t le;
  file = λ i j u v t le. laws.put_put types_part file_over i j u v t le;
}
