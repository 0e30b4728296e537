use Rattle.std.proofs.Common.{◌≡◌, drop}
use Rattle.c_rules.specs.Close as L
use Rattle.k_terms.specs.Read.{ktys}
use Rattle.calc_core.specs.Read.{joined}
use Rattle.c_emit.specs.Names.{renaming}
use Rattle.c_emit.proofs.close_type.+close.Given as goal

abbrev pub invariant-close_types-loop-t : goal.invariant-close_types-loop-t
invariant-close_types-loop-t l = joined l.made.items (L.ctypes (renaming l.names) (ktys (drop l.t-index l.ts)))
    ≡ joined l.initial.made.items (L.ctypes (renaming l.names) (ktys l.ts))
