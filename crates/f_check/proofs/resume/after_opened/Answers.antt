use Rattle.std.proofs.Common.{map, refl, subst, ◌-◌}
use Rattle.f_terms.specs.Read.{tree}
use Rattle.f_check.specs.Parts.{IsOuter}
use Rattle.f_check.specs.Scopes.{bound}
use Rattle.f_check.proofs.Resumes.{opened_last, opened_puts, opened_shifts, opened_refused, opened_given}
use Rattle.f_check.proofs.resume.after_opened.Goals as goal

pub leave_last-bound-requires : goal.leave_last-bound-requires
leave_last-bound-requires c =
    let a = c.args in
    opened_last a.term.now a.state.now a.part.ty a.part.span a.span c.requires

pub outer-requires-clause-puts : goal.outer-requires-clause-puts
outer-requires-clause-puts c =
    let a = c.args in
    opened_puts a.term.now a.state.now a.part.ty a.part.span a.span c.requires

pub outer-requires-clause-shifts : goal.outer-requires-clause-shifts
outer-requires-clause-shifts c =
    let a = c.args in
    opened_shifts a.term.now a.state.now a.part.ty a.part.span a.span c.requires

pub returns-in-Some-clause-goes : goal.returns-in-Some-clause-goes
returns-in-Some-clause-goes c =
    let a = c.args in
    opened_given a.term.now a.state.now a.part.ty a.part.span a.span c.requires c.leave_last-bound.new.scope
    c.in-Some.ty
    c.leave_last-bound.result c.leave_last-bound.ensures.0 c.leave_last-bound.ensures.1
    (subst (IsOuter (tree a.part.ty)) c.in-Some.is c.in_ok-outside.ensures)

pub returns-in-Some-clause-frames : goal.returns-in-Some-clause-frames
returns-in-Some-clause-frames c =
    let scope = c.leave_last-bound.new.scope in
    (refl, refl, (map bound scope.items, c.leave_last-bound.ensures.0, c.leave_last-bound.ensures.1))

pub returns-in-None-clause-goes : goal.returns-in-None-clause-goes
returns-in-None-clause-goes c =
    let a = c.args in
    let st = record a.state.now { scope = c.leave_last-bound.new.scope; around = a.state.now.around - 1 } in
    opened_refused a.term.now a.state.now a.part.ty a.part.span a.span c.requires st _ _
    (c.odds-mismatch.result, c.refused.ensures, c.odds-mismatch.ensures)
    (subst (IsOuter (tree a.part.ty)) c.in-None.is c.in_ok-outside.ensures)
