use Rattle.std.proofs.Common.{sym, ap, ◌∙◌}
use Rattle.t_types.specs.Tree.{Ty, TupleTy}
use Rattle.t_types.proofs.Trees.{tree_Tuple, tree_is_tuple}
use Rattle.t_spill_rules.specs.Spill.{filled_type}
use Rattle.t_spill.proofs.shapes.filled_of.Goals as goal

pub returns-in_ok-fs-in-Tuple : goal.returns-in_ok-fs-in-Tuple
returns-in_ok-fs-in-Tuple c =
    tree_Tuple c.in_ok-fs-in-Tuple.fs ∙ ap TupleTy c.in_ok-fs-in-Tuple.ensures
    ∙ sym (ap (λ (t : Ty). filled_type t c.args.i)
    (tree_is_tuple c.args.t.now c.in-Tuple.fs c.deref.result.now c.in-Tuple.is c.deref.ensures.value))
