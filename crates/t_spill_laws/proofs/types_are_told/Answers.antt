use Rattle.t_spill_laws.proofs.Computed.{value_is, next_is}
use Rattle.t_spill_laws.proofs.types_are_told.Goals as goal

pub returns-clause-types : goal.returns-clause-types
returns-clause-types c = value_is

pub returns-clause-files : goal.returns-clause-files
returns-clause-files c = next_is
