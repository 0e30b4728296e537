use Rattle.std.proofs.Common.{◌≡◌, drop}
use Rattle.c_rules.specs.Know as W
use Rattle.k_terms.specs.Read.{ktys}
use Rattle.c_pass.specs.Read.{bounds}
use Rattle.c_pass.proofs.bounds.bind_all.Given as goal

abbrev pub invariant-loop-t : goal.invariant-loop-t
invariant-loop-t l = W.bind_all (bounds l.xs.items) l.level (ktys (drop l.t-index l.args)) l.depth
    ≡ W.bind_all (bounds l.initial.xs.items) l.fn.level (ktys l.args) l.depth
