use Rattle.std.proofs.Common.{refl}
use Rattle.t_terms.specs.ReadProgram.{spanned_program}
use Rattle.t_check.proofs.Exact.{no_fault, same_fault}
use Rattle.t_check.proofs.checker.check_salted.Goals as goal

pub invariant_of-result : goal.invariant_of-result
invariant_of-result c = record { accepted = ∣ c.in-Ok.ensures ∣₁ }

pub returns-in-Ok-clause-right : goal.returns-in-Ok-clause-right
returns-in-Ok-clause-right c = (refl, c.in-Ok.ensures)

pub returns-in-Ok-clause-refused : goal.returns-in-Ok-clause-refused
returns-in-Ok-clause-refused c =
    λ code span h. c.no_fault_where_accepted.ensures (spanned_program c.args.program) code span c.in-Ok.ensures h

pub returns-in-Err-clause-right : goal.returns-in-Err-clause-right
returns-in-Err-clause-right c = (refl, c.in-Err.ensures)

pub returns-in-Err-clause-accepted : goal.returns-in-Err-clause-accepted
returns-in-Err-clause-accepted c =
    λ h. no_fault (spanned_program c.args.program) c.no_fault_where_accepted.ensures h c.in-Err.fault c.in-Err.ensures

pub returns-in-Err-clause-refused : goal.returns-in-Err-clause-refused
returns-in-Err-clause-refused c = λ code span h.
    same_fault (spanned_program c.args.program) c.at_most_one_fault.ensures code span h c.in-Err.fault c.in-Err.ensures
