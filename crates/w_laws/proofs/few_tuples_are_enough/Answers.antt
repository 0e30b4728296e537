use Rattle.w_laws.proofs.Enough.{few_are_enough}
use Rattle.w_laws.proofs.few_tuples_are_enough.Goals as goal

pub returns : goal.returns
returns c = few_are_enough c.programs_keep_laws.ensures c.blocks_print_integers.ensures
