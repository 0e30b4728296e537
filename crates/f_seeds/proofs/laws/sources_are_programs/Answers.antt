use Rattle.f_seeds.proofs.Programs.{programs}
use Rattle.f_seeds.proofs.laws.sources_are_programs.Goals as goal

pub returns : goal.returns
returns c = programs c.passes_where_typed.ensures c.evaluation_keeps_its_rules.ensures
