use Rattle.std.proofs.Common.{◌≡◌, ◌<◌}
use Rattle.f_terms.specs.ReadTerm.{count, node_at}
use Rattle.talc_faults.specs.Value.{value_part}
use Rattle.talc_faults.proofs.value.value_span.Given as goal

abbrev pub invariant-loop-rest : goal.invariant-loop-rest
invariant-loop-rest l = record {
  bound : l.at < count l.term;
  same : value_part (node_at l.term l.at) ≡ value_part (node_at l.term l.part);
}

abbrev pub decreases-loop-rest : goal.decreases-loop-rest
decreases-loop-rest l = l.at
