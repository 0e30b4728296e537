use Rattle.std.proofs.Common.{◌≡◌, drop}
use Rattle.t_types.specs.Read.{file}
use Rattle.t_terms.specs.Tree.{TSeq}
use Rattle.t_spill_rules.specs.Spill.{before, fill, numbers}
use Rattle.t_spill_code.specs.Onto.{onto}
use Rattle.t_spill_code.specs.Homes.{home_in}
use Rattle.t_spill_code.proofs.emit.fill.Given as goal

abbrev pub invariant-loop-j : goal.invariant-loop-j
invariant-loop-j l = (rest : TSeq) →
    onto l.code.items (before (fill l.homes.split.low (home_in l.homes) (numbers (file (drop l.j l.to))) l.j) rest)
    ≡ onto l.initial.code.items (before (fill l.homes.split.low (home_in l.homes) (numbers (file l.to)) 0) rest)
