use Rattle.f_terms.specs.ReadTerm.{node_at}
use Rattle.f_terms.specs.Waiting.{Holds, waiting_nodes}
use Rattle.f_terms.proofs.admission.admit.Given as goal

abbrev pub invariant-loop-part : goal.invariant-loop-part
invariant-loop-part l = Holds l.term l.waiting.items

abbrev pub decreases-loop-part : goal.decreases-loop-part
decreases-loop-part l = waiting_nodes (node_at l.term) l.waiting.items
