use Rattle.std.proofs.Common.{sym, subst}
use Rattle.t_terms.specs.ReadProgram.{spanned_program}
use Rattle.t_terms.specs.declared.fault.TFault.{TFault}
use Rattle.t_rules.specs.Faults.{ProgramFault}
use Rattle.t_check.specs.Verdict.{Says}
use Rattle.t_check.proofs.Exact.{said}
use Rattle.t_check.proofs.checker.judge.Goals as goal

pub returns-in-Err : goal.returns-in-Err
returns-in-Err c =
    let P = spanned_program c.args.program.now in
    subst (λ (f : TFault). Says f (ProgramFault P)) (sym c.fault.ensures)
    (said P c.check_program.new.types c.in-Err.refusal c.in-Err.ensures)
