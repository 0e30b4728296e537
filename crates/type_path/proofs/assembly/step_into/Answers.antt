use Rattle.std.proofs.Common.{sym, ap₂, ◌∙◌}
use Rattle.t_types.proofs.Trees.{tree_is_tuple, tree_is_code}
use Rattle.type_path.specs.Assembly.{type_into}
use Rattle.type_path.proofs.assembly.step_into.Goals as goal

pub returns-in-Field-Tuple : goal.returns-in-Field-Tuple
returns-in-Field-Tuple c =
    c.field_type.ensures
    ∙ ap₂ type_into (sym c.in-Field-Tuple.is-0)
    (sym (tree_is_tuple _ _ _ c.in-Field-Tuple.is-1 c.deref-in-Field-Tuple.ensures.value))

pub returns-in-Flag-Tuple : goal.returns-in-Flag-Tuple
returns-in-Flag-Tuple c =
    c.field_flag.ensures
    ∙ ap₂ type_into (sym c.in-Flag-Tuple.is-0)
    (sym (tree_is_tuple _ _ _ c.in-Flag-Tuple.is-1 c.deref-in-Flag-Tuple.ensures.value))

pub returns-in-Register-Code : goal.returns-in-Register-Code
returns-in-Register-Code c =
    c.register_type.ensures
    ∙ ap₂ type_into (sym c.in-Register-Code.is-0)
    (sym (tree_is_code _ _ _ _ c.in-Register-Code.is-1 c.deref-in-Register-Code.ensures.value))
