use Rattle.t_check.specs.Checked.{checked_program}
use Rattle.talc_core.proofs.AssemblyLemmas.{upgraded}
use Rattle.talc_core.proofs.commands.upgrade.upgrade_text.Goals as goal

pub returns : goal.returns
returns c =
    upgraded c.keeps_by_nesting.ensures _ _ (checked_program c.in_ok-checked.checked) _ c.program.ensures.same
    c.in_ok-checked.ensures c.in_ok-upgraded.ensures.same c.in_ok-upgraded.ensures.reads
