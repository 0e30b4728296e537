use Rattle.idx_core.specs.Laws as laws
use Rattle.t_types.specs.TreeLaws.{types_part}
use Rattle.t_terms.specs.TreeLaws.{value_over, instr_over, end_over, seq_over, block_over}
use Rattle.t_terms.proofs.laws.puts_exchange.Goals as goal

pub returns : goal.returns
returns c = record {
  value = λ i j u v t le. laws.put_put types_part value_over i j u v t le;
  instr = λ i j u v t le. laws.put_put types_part instr_over i j u v t le;
  end = λ i j u v t le. laws.put_put types_part end_over i j u v t le;
  seq = λ i j u v t le. laws.put_put types_part seq_over i j u v t le;
  block = λ i j u v t le. laws.put_put types_part block_over i j u v t le;
}
