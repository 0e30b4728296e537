use Rattle.std.proofs.Common.{◌≡◌, take, map}
use Rattle.let_types.specs.Parts.{placed}
use Rattle.calc_core.specs.Read.{tree, all_trees}
use Rattle.calc_core.specs.Walks.{over}
use Rattle.let_types.proofs.walks.+put.Given as goal

abbrev pub invariant-put_types_in_all-loop-t : goal.invariant-put_types_in_all-loop-t
invariant-put_types_in_all-loop-t l =
    map tree l.made.items ≡ map (λ t. over (placed (all_trees l.types)) l.depth (tree t))
    (take l.t-index l.ts)
