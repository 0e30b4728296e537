use Rattle.std.proofs.Common.{subst, sym}
use Rattle.t_terms.specs.ReadProgram.{spanned_program}
use Rattle.t_terms.specs.declared.program.TProgram.{TProgram}
use Rattle.t_rules.specs.Faults.{ProgramFault}
use Rattle.t_check.specs.Verdict.{Says}
use Rattle.talc_core.proofs.ExplainLemmas.{unread_assembly}
use Rattle.talc_core.proofs.finding.find_in_assembly.Goals as goal

pub find_in_program-requires : goal.find_in_program-requires
find_in_program-requires c =
    let e = c.in-Err-check_salted in
    record {
      fault = subst (λ (p : TProgram). Says e.fault (ProgramFault (spanned_program p))) (sym e.ensures.right.0)
          e.ensures.right.1;
    }

pub returns : goal.returns
returns c =
    unread_assembly c.args.text.now c.in-Err.fault c.from.result c.bare.result c.from.ensures
    c.in-Err.ensures.right c.bare.ensures
