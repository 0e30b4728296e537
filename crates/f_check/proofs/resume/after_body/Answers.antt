use Rattle.f_check.proofs.Resumes.{body_given}
use Rattle.f_check.proofs.resume.after_body.Goals as goal

pub returns-clause-goes : goal.returns-clause-goes
returns-clause-goes c =
    let a = c.args in
    body_given a.term.now a.state.now a.part.ty a.part.span a.span c.requires c.leave.new.scope c.leave.ensures
