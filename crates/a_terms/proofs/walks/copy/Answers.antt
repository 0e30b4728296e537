use Rattle.std.proofs.Common.{◌∙◌}
use Rattle.idx_core.specs.Laws.{shift_zero_law}
use Rattle.a_terms.specs.TreeLaws.{a_over}
use Rattle.a_terms.proofs.walks.copy.Goals as goal

pub returns : goal.returns
returns c = c.in_ok-made.ensures ∙ shift_zero_law a_over 0 _
