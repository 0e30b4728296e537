use Rattle.std.proofs.Common.{sym, ap₂, ◌∙◌}
use Rattle.f_terms.proofs.Trees.{tree_parts}
use Rattle.type_path.specs.Source.{into}
use Rattle.type_path.proofs.source.step_into.Goals as goal

pub returns-in-Field-Tuple : goal.returns-in-Field-Tuple
returns-in-Field-Tuple c =
    c.field.ensures
    ∙ ap₂ into (sym c.in-Field-Tuple.is-0)
    (sym (tree_parts _ _ _ c.in-Field-Tuple.is-1 c.deref-in-Field-Tuple.ensures.value))
