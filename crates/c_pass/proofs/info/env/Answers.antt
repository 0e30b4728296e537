use Rattle.std.proofs.Common.{◌∙◌, ap}
use Rattle.c_terms.specs.C as C
use Rattle.calc_core.proofs.Trees.{tree_Tuple}
use Rattle.c_pass.proofs.info.env.Goals as goal

pub returns : goal.returns
returns c = tree_Tuple c.in_ok-made.made ∙ ap C.TCTuple c.in_ok-made.ensures
