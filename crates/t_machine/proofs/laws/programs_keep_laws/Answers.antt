use Rattle.t_machine.proofs.laws.programs_keep_laws.Goals as goal

pub returns : goal.returns
returns c = record {
  stuck = c.accepted_programs_are_never_stuck.ensures.states;
  one = c.runs_are_unique.ensures.states;
  last = c.runs_are_unique.ensures.last;
  answers = c.runs_are_unique.ensures.answers;
  starts = c.erased_machine_starts.ensures;
  stands = c.erased_code_stands_at_its_place.ensures;
  goes = c.erased_states_go_on.ensures.goes;
  next = c.erased_states_go_on.ensures.next;
  alike = c.erased_states_halt_alike.ensures;
  follows = c.kept_states_follow.ensures;
  drops = c.kept_states_drop.ensures;
}
