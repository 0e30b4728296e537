-- The laws of the crates below on which the laws of texts stand.
use Rattle.f_grammar.specs.Text as reading
use Rattle.f_terms.specs.Laws as typing
use Rattle.t_text.specs.Text as assembly
use Rattle.t_rules.specs.LawsFaults as checking
use Rattle.talc_wanted.specs.SourceText as source_wanted
use Rattle.talc_wanted.specs.AssemblyText as assembly_wanted
use Rattle.t_rules.specs.LawsSound.{OneRun, HaltingIsLast, HaltedOrOneStep, RunsOn, NothingSticks}

pub record TextLaws : Type 0 where
  -- of source texts
  pub one_term : reading.OneTerm
  pub closed_terms : reading.ClosedTerms
  pub term_or_fault : reading.TermOrFault
  pub no_fault_of_a_term : reading.NoFaultWhereRead
  pub one_reading_fault : reading.OneFault
  -- of terms
  pub one_type : typing.OneType
  pub passes_where_typed : typing.PassesWhereTyped
  pub pass_or_fault : typing.PassOrFault
  pub no_fault_beside_a_pass : typing.NoFaultBesideAPass
  pub one_typing_fault : typing.OneFault
  pub one_value : typing.OneAnswer
  pub value_or_spent : typing.NeverStuck
  pub leaves_at_most : typing.LeavesAtMost
  -- of assembly texts
  pub one_program : assembly.AtMostOneProgram
  pub program_or_fault : assembly.ProgramOrFault
  pub no_fault_of_a_program : assembly.NoFaultWhereRead
  pub one_assembly_fault : assembly.AtMostOneFault
  -- of programs
  pub accepted_or_fault : checking.AcceptedOrFault
  pub no_fault_where_accepted : checking.NoFaultWhereAccepted
  pub one_accepting_fault : checking.AtMostOneFault
  pub one_run : OneRun
  pub halting_is_last : HaltingIsLast
  pub halted_or_one_step : HaltedOrOneStep
  pub runs_on : RunsOn
  pub nothing_sticks : NothingSticks

-- and on the types that are at odds in faults, and on what could stand at their places
pub record MismatchLaws : Type 0 where
  pub one_of_a_source : typing.OneMismatch
  pub one_of_an_assembly : checking.AtMostOneMismatch
  pub one_source_line : source_wanted.OneLine
  pub one_assembly_line : assembly_wanted.OneLine
