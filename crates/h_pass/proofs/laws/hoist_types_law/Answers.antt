use Rattle.h_pass.proofs.laws.hoist_types_law.Goals as goal
use Rattle.c_terms.specs.Reach.{CWithin}
use Rattle.h_pass.proofs.Sizes.{hoist_fits}
use Rattle.h_pass.proofs.Types.{hoist_each}
use Rattle.h_pass.specs.Hoist.{blocks_of, main_of}

pub returns-clause-types : goal.returns-clause-types
returns-clause-types c =
    λ t h. (c.h_typed_is_any_law.ensures (blocks_of t) (main_of t)).1
    (hoist_each _ t ((c.typed_is_any_law.ensures t).0 h))

pub returns-clause-reach : goal.returns-clause-reach
returns-clause-reach c = λ N R B t h. hoist_each (CWithin N R B) t h

pub returns-clause-fits : goal.returns-clause-fits
returns-clause-fits c = hoist_fits
