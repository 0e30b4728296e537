use Rattle.std.proofs.Common.{◌∙◌, ap}
use Rattle.h_pass.specs.Hoist.{blocks_of, main_of}
use Rattle.h_pass.proofs.laws.closed_never_stuck_law.Goals as goal

pub returns : goal.returns
returns c = λ t good n stuck.
    c.h_never_stuck_law.ensures (blocks_of t) (main_of t) (c.hoist_types_law.ensures.types t good) n
    (ap (λ r. r.end) (c.hoist_meaning_law.ensures t n) ∙ stuck)
