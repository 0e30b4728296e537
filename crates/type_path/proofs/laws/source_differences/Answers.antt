use Rattle.type_path.specs.Source.{heads}
use Rattle.type_path.proofs.Walks.{one_first}
use Rattle.type_path.proofs.SourceWalks.{first, none}
use Rattle.type_path.proofs.laws.source_differences.Goals as goal

pub returns-clause-first : goal.returns-clause-first
returns-clause-first c = first

pub returns-clause-one : goal.returns-clause-one
returns-clause-one c = λ a b. one_first (heads a) (heads b)

pub returns-clause-none : goal.returns-clause-none
returns-clause-none c = none
