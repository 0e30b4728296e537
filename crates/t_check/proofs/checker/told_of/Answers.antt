use Rattle.t_terms.specs.ReadProgram.{spanned_program}
use Rattle.t_check.proofs.Exact.{tells, one_told, refusal_below}
use Rattle.t_check.proofs.checker.told_of.Goals as goal

pub returns-in-Ok-clause-told : goal.returns-in-Ok-clause-told
returns-in-Ok-clause-told c =
    λ code span h.
    absurd (c.no_fault_where_accepted.ensures (spanned_program c.args.program.now) code span c.in-Ok.ensures h)

pub returns-in-Ok-clause-one : goal.returns-in-Ok-clause-one
returns-in-Ok-clause-one c = λ code span m h.
    let P = spanned_program c.args.program.now in
    absurd (c.no_fault_where_accepted.ensures P code span c.in-Ok.ensures (m, h))

pub returns-in-Err-clause-told : goal.returns-in-Err-clause-told
returns-in-Err-clause-told c = λ code span h.
    tells (spanned_program c.args.program.now) c.check_program.new.types c.at_most_one_fault.ensures code span h
    c.in-Err.refusal c.in-Err.ensures c.mismatch.result c.mismatch.ensures

pub returns-in-Err-clause-one : goal.returns-in-Err-clause-one
returns-in-Err-clause-one c = λ code span m h.
    let P = spanned_program c.args.program.now in
    let us = c.check_program.new.types in
    one_told P us c.at_most_one_mismatch.ensures code span m h c.mismatch.result
    (tells P us c.at_most_one_fault.ensures code span (m, h) c.in-Err.refusal c.in-Err.ensures c.mismatch.result
    c.mismatch.ensures)

pub mismatch-requires : goal.mismatch-requires
mismatch-requires c =
    refusal_below (spanned_program c.args.program.now) c.check_program.new.types c.in-Err.refusal c.in-Err.ensures
