use Rattle.std.proofs.Common.{◌≤◌, length}
use Rattle.f_terms.specs.ReadTerm.{count}
use Rattle.f_check.specs.Walk.{Leads, work}
use Rattle.f_check.proofs.Noting.{Known}
use Rattle.f_check.proofs.checker.type_of.Given as goal

abbrev pub invariant-loop-control : goal.invariant-loop-control
invariant-loop-control l = record {
  leads : Leads l.term l.state l.control;
  table : count l.term ≤ length l.types.items;
  known : Known l.term l.types.items l.state.frames.items l.path.items l.control;
}

abbrev pub decreases-loop-control : goal.decreases-loop-control
decreases-loop-control l = work l.term l.state l.control
