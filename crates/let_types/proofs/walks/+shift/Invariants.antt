use Rattle.std.proofs.Common.{◌≡◌, take, map}
use Rattle.idx_core.specs.Over.{shifted}
use Rattle.calc_core.specs.Read.{tree}
use Rattle.calc_core.specs.Types.{VarTy}
use Rattle.calc_core.specs.Walks.{over}
use Rattle.let_types.proofs.walks.+shift.Given as goal

abbrev pub invariant-shift_types-loop-t : goal.invariant-shift_types-loop-t
invariant-shift_types-loop-t l =
    map tree l.made.items ≡ map (λ t. over (shifted VarTy l.by) l.cut (tree t))
    (take l.t-index l.ts)
