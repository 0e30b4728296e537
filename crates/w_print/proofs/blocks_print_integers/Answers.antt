use Rattle.w_print.proofs.Runs.{prints_integer}
use Rattle.w_print.proofs.blocks_print_integers.Goals as goal

pub returns : goal.returns
returns c = prints_integer
