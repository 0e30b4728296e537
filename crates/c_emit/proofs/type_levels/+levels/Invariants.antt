use Rattle.std.proofs.Common.{◌≡◌, ◌++◌, drop}
use Rattle.c_rules.specs.Know as W
use Rattle.k_terms.specs.Read.{ktys}
use Rattle.c_emit.proofs.type_levels.+levels.Given as goal

abbrev pub invariant-types_levels-loop-t : goal.invariant-types_levels-loop-t
invariant-types_levels-loop-t l = l.out.items ++ W.types_levels l.depth l.under (ktys (drop l.t-index l.ts))
    ≡ l.initial.out.items ++ W.types_levels l.depth l.under (ktys l.ts)
