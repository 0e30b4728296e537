use Rattle.std.proofs.Common.{sym, ap, ◌∙◌}
use Rattle.std.proofs.lemmas.Result.{IfOk-weaker}
use Rattle.t_types.specs.Tree.{Ty}
use Rattle.t_types.proofs.Trees.{tree_is_tuple}
use Rattle.t_spill_rules.specs.Spill.{field_type}
use Rattle.t_spill.proofs.shapes.field_of.Goals as goal

pub returns-in-Tuple : goal.returns-in-Tuple
returns-in-Tuple c =
    IfOk-weaker c.field_at.result _ _
    (λ r h. h ∙ sym
    (ap (λ (t : Ty). field_type t c.args.i)
    (tree_is_tuple c.args.t.now c.in-Tuple.fs c.deref.result.now c.in-Tuple.is c.deref.ensures.value)))
    c.field_at.ensures
