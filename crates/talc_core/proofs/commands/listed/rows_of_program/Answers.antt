use Rattle.std.proofs.Common.{sym, subst}
use Rattle.t_terms.specs.ReadProgram.{program, spanned_program}
use Rattle.t_terms.specs.declared.program.TProgram.{TProgram}
use Rattle.t_rules.specs.Rules.{Accepted}
use Rattle.t_rules.specs.Faults.{ProgramFault}
use Rattle.t_check.specs.Checked.{checked_program}
use Rattle.t_check.specs.Verdict.{Says}
use Rattle.talc_core.specs.FirstFault.{IsAssembly}
use Rattle.talc_core.proofs.commands.listed.rows_of_program.Goals as goal

pub returns-in_ok-rows-in-Ok : goal.returns-in_ok-rows-in-Ok
returns-in_ok-rows-in-Ok c =
    let h = c.in-Ok.ensures.right in record {
      program = spanned_program (checked_program c.in-Ok.checked);
      accepted = (
        subst (λ (p : TProgram). IsAssembly c.args.text.now (spanned_program p)) (sym h.0) c.requires,
        subst (λ (p : TProgram). Accepted (program p)) (sym h.0) h.1,
      );
      listed = c.in_ok-rows-in-Ok.ensures;
    }

pub rows_of_refused-requires-clause-read : goal.rows_of_refused-requires-clause-read
rows_of_refused-requires-clause-read c =
    subst (λ (p : TProgram). IsAssembly c.args.text.now (spanned_program p)) (sym c.in-Err.ensures.right.0) c.requires

pub rows_of_refused-requires-clause-fault : goal.rows_of_refused-requires-clause-fault
rows_of_refused-requires-clause-fault c =
    let h = c.in-Err.ensures.right in
    subst (λ (p : TProgram). Says c.in-Err.refused.1 (ProgramFault (spanned_program p))) (sym h.0) h.1
