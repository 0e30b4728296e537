use Rattle.std.proofs.Common.{sym, ap, ◌∙◌}
use Rattle.calc_core.proofs.Trees.{tree_is_code}
use Rattle.let_types.specs.TypeTexts.{takes_hidden}
use Rattle.let_types.proofs.closures.takes_hidden.Goals as goal

pub returns-in-Code : goal.returns-in-Code
returns-in-Code c = c.only_first.ensures ∙ ap takes_hidden (sym (tree_is_code _ _ _ _ c.in-Code.is
    c.deref.ensures.value))
