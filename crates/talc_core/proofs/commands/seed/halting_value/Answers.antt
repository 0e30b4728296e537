use Rattle.std.proofs.Common.{◌≤◌, ◌+◌, ◌*◌, subst}
use Rattle.t_terms.specs.ReadProgram.{program as program_of}
use Rattle.t_terms.specs.declared.program.TProgram.{TProgram}
use Rattle.t_rules.specs.Times.{program_size}
use Rattle.t_check.specs.Checked.{checked_program}
use Rattle.t_machine.specs.Runs.{FirstRun}
use Rattle.t_machine.specs.declared.machine.Ran.{Ran}
use Rattle.talc_core.specs.Shown.{seed_turns}
use Rattle.talc_core.proofs.commands.seed.halting_value.Goals as goal

-- the instructions suffice
pub unreachable-requires : goal.unreachable-requires
unreachable-requires c =
    let fuel = c.in-Some.fuel in
    let enough =
    subst (λ (p : TProgram). (seed_turns + 1) * program_size (program_of p) ≤ fuel) c.program.ensures.same
    c.in-Some.ensures in
    c.requires.soon fuel enough
    (subst (λ (r : Ran). FirstRun (program_of (checked_program c.args.program.now)) fuel r) c.in-Spent.is
    c.in_ok-value.ensures)
