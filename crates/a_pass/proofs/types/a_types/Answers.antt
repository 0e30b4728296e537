use Rattle.std.proofs.Common.{◌∙◌}
use Rattle.idx_core.specs.Laws.{shift_zero_law}
use Rattle.a_terms.specs.TreeLaws.{a_types_over}
use Rattle.c_terms.specs.Read.{ctys}
use Rattle.a_laws.specs.Allocate.{atypes}
use Rattle.a_pass.proofs.types.a_types.Goals as goal

pub returns : goal.returns
returns c = c.in_ok-made.ensures ∙ shift_zero_law a_types_over 0 (atypes (ctys c.args.ts.now))
