use Rattle.h_pass.proofs.laws.hoist_is_back_law.Goals as goal
use Rattle.h_pass.proofs.PutsBack.{is_hoisted}

pub returns : goal.returns
returns c = λ t h. is_hoisted t (c.typed_is_scoped_law.ensures t h)
