use Rattle.std.proofs.lemmas.Result.{IfOk-weaker}
use Rattle.std.proofs.Common.{◌≡◌}
use Rattle.f_terms.specs.Ty.{NoTys}
use Rattle.f_terms.specs.ReadTerm.{spanned}
use Rattle.f_check.specs.Told.{read, Mentions}
use Rattle.f_check.proofs.Exact.{mentioned}
use Rattle.f_check.proofs.checker.mismatch_of.Goals as goal

pub returns-in-Ok : goal.returns-in-Ok
returns-in-Ok c = λ code p m h.
    let e = spanned c.args.term.now in
    absurd (c.no_fault_beside_a_pass.ensures e 0 NoTys _ code p c.in-Ok.ensures.0.0 (m, h))

pub returns : goal.returns
returns c = λ code p m h.
    let e = spanned c.args.term.now in
    IfOk-weaker c.mismatch_alone.result (Mentions c.in-Err.e) (λ r. read r ≡ m)
    (λ r k. mentioned c.one_mismatch.ensures e c.in-Err.e r c.in-Err.ensures k code p m h)
    c.mismatch_alone.ensures
