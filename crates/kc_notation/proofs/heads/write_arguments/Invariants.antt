use Rattle.std.proofs.Common.{◌≡◌, ◌++◌, drop}
use Rattle.calc_core.specs.Read.{all_trees}
use Rattle.kc_notation.specs.Heads.{arguments_text}
use Rattle.kc_notation.proofs.heads.write_arguments.Given as goal

abbrev pub invariant-loop-i : goal.invariant-loop-i
invariant-loop-i l = l.text.items ++ arguments_text l.closures l.depth l.first l.i (all_trees (drop l.i l.ts)) ≡
    l.initial.text.items ++ arguments_text l.closures l.depth l.first 0 (all_trees l.ts)
