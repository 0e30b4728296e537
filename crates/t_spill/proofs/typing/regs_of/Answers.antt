use Rattle.std.proofs.Common.{ap, sym, ◌∙◌}
use Rattle.t_types.specs.Read.{tree}
use Rattle.t_types.proofs.Trees.{tree_Code}
use Rattle.t_spill_rules.specs.Spill.{target_file}
use Rattle.t_spill.proofs.typing.regs_of.Goals as goal

pub returns-in-Code : goal.returns-in-Code
returns-in-Code c = sym (ap target_file (ap tree c.in-Code.is ∙ tree_Code c.in-Code.owes c.in-Code.regs))
