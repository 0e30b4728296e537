use Rattle.talc_core.proofs.laws.texts_keep_laws.Goals as goal

pub returns : goal.returns
returns c = record {
  one_term = c.one_term.ensures;
  closed_terms = c.closed_terms.ensures;
  term_or_fault = c.term_or_fault.ensures;
  no_fault_of_a_term = c.no_fault_where_read.ensures;
  one_reading_fault = c.one_fault.ensures;
  one_type = c.one_type.ensures;
  passes_where_typed = c.passes_where_typed.ensures;
  pass_or_fault = c.pass_or_fault.ensures;
  no_fault_beside_a_pass = c.no_fault_beside_a_pass.ensures;
  one_typing_fault = c.one_fault-2.ensures;
  one_value = c.one_answer.ensures;
  value_or_spent = c.programs_are_never_stuck.ensures;
  leaves_at_most = c.evaluation_leaves_at_most_its_turns.ensures;
  one_program = c.at_most_one_program.ensures;
  program_or_fault = c.program_or_fault.ensures;
  no_fault_of_a_program = c.no_fault_where_read-2.ensures;
  one_assembly_fault = c.at_most_one_fault.ensures;
  accepted_or_fault = c.accepted_or_fault.ensures;
  no_fault_where_accepted = c.no_fault_where_accepted.ensures;
  one_accepting_fault = c.at_most_one_fault-2.ensures;
  one_run = c.runs_are_unique.ensures.states;
  halting_is_last = c.runs_are_unique.ensures.last;
  halted_or_one_step = c.accepted_programs_go_on.ensures.steps;
  runs_on = c.accepted_programs_go_on.ensures.runs;
  nothing_sticks = c.accepted_programs_are_never_stuck.ensures.runs;
}
