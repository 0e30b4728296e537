use Rattle.std.proofs.Common.{◌∙◌, true, false, sym}
use Rattle.talc_core.proofs.ExplainLemmas.{looks}
use Rattle.talc_core.proofs.commands.explain.find_fault.Goals as goal

pub returns-then-is_assembly : goal.returns-then-is_assembly
returns-then-is_assembly c =
    looks c.args.text.now c.find_in_assembly.result true (sym c.is_assembly.ensures ∙ c.if-is_assembly.true)
    c.find_in_assembly.ensures

pub returns-else-is_assembly : goal.returns-else-is_assembly
returns-else-is_assembly c =
    looks c.args.text.now c.find_in_source.result false (sym c.is_assembly.ensures ∙ c.if-is_assembly.false)
    c.find_in_source.ensures
