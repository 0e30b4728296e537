use Rattle.std.proofs.Math.Logic.{∥∥₁_elim}
use Rattle.h_pass.proofs.laws.bound_is_small_law.Goals as goal
use Rattle.h_pass.proofs.ScopedProps.{walked_prop}

pub returns : goal.returns
returns c = λ t b. ∥∥₁_elim b (walked_prop 17592186044416 t)
    (λ h. (c.typed_is_scoped_law.ensures t (c.within_is_typed_law.ensures _ _ _ t h.0), h.1))
