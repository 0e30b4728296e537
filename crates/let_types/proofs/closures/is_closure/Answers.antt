use Rattle.std.proofs.Common.{sym, ap, ◌∙◌}
use Rattle.calc_core.proofs.Trees.{tree_is_tuple}
use Rattle.let_types.specs.TypeTexts.{is_closure}
use Rattle.let_types.proofs.closures.is_closure.Goals as goal

pub returns-in-Tuple : goal.returns-in-Tuple
returns-in-Tuple c = c.are_closure.ensures ∙ ap is_closure (sym (tree_is_tuple _ _ _ c.in-Tuple.is
    c.deref.ensures.value))
