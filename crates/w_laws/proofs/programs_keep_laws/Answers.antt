use Rattle.w_laws.proofs.programs_keep_laws.Goals as goal

pub returns : goal.returns
returns c = record {
  starts = c.erased_machine_starts.ensures;
  goes = c.erased_states_go_on.ensures.goes;
  next = c.erased_states_go_on.ensures.next;
  halts = c.erased_states_halt_alike.ensures;
  last = c.runs_are_unique.ensures.last;
  answer = c.runs_are_unique.ensures.answers;
  follows = c.kept_states_follow.ensures;
  drops = c.kept_states_drop.ensures;
}
