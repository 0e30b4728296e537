use Rattle.f_seeds.proofs.Faultless.{faultless}
use Rattle.f_seeds.proofs.laws.sources_have_no_fault.Goals as goal

pub returns : goal.returns
returns c = faultless c.sources_are_programs.ensures c.no_fault_where_read.ensures c.one_term.ensures
    c.passes_where_typed.ensures c.no_fault_beside_a_pass.ensures
