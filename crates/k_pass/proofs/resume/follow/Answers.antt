use Rattle.std.proofs.Common.{◌≡◌, ℕ, IfOk, Result, sym, subst}
use Rattle.f_terms.specs.Noted.{Noted}
use Rattle.k_pass.specs.Machine.{Follows, PendingIn, KeptIn, Inside}
use Rattle.k_pass.specs.declared.work.Control.{Control}
use Rattle.k_pass.specs.declared.work.Pending.{Pending}
use Rattle.k_pass.specs.declared.work.Work.{Work}
use Rattle.k_pass.proofs.resume.follow.Goals as goal

-- what is said where q comes is said where p does, which is q
module _ {E : Type 0} (r : Result Control E) (w w' : Work) (p q : Pending) (is : p ≡ q) where
  follows : IfOk r (λ c. (t : ℕ → Noted) → Follows t w q w' c) → IfOk r (λ c. (t : ℕ → Noted) → Follows t w p w' c)
  follows said = subst (λ (x : Pending). IfOk r (λ c. (t : ℕ → Noted) → Follows t w x w' c)) (sym is) said

  keeps : IfOk r (λ c. (m : ℕ) → PendingIn m q → KeptIn m w → Inside m w' c) →
      IfOk r (λ c. (m : ℕ) → PendingIn m p → KeptIn m w → Inside m w' c)
  keeps said =
      subst (λ (x : Pending). IfOk r (λ c. (m : ℕ) → PendingIn m x → KeptIn m w → Inside m w' c)) (sym is) said

pub returns-in-Fix-clause-steps : goal.returns-in-Fix-clause-steps
returns-in-Fix-clause-steps c =
    let f = c.name_fix in
    follows f.result c.args.work.now f.new.work c.args.pending _ c.in-Fix.is f.ensures.steps

pub returns-in-Fix-clause-inside : goal.returns-in-Fix-clause-inside
returns-in-Fix-clause-inside c =
    let f = c.name_fix in
    keeps f.result c.args.work.now f.new.work c.args.pending _ c.in-Fix.is f.ensures.inside

pub returns-in-Gen-clause-steps : goal.returns-in-Gen-clause-steps
returns-in-Gen-clause-steps c =
    let f = c.name_gen in
    follows f.result c.args.work.now f.new.work c.args.pending _ c.in-Gen.is f.ensures.steps

pub returns-in-Gen-clause-inside : goal.returns-in-Gen-clause-inside
returns-in-Gen-clause-inside c =
    let f = c.name_gen in
    keeps f.result c.args.work.now f.new.work c.args.pending _ c.in-Gen.is f.ensures.inside

pub returns-in-Other-clause-inside : goal.returns-in-Other-clause-inside
returns-in-Other-clause-inside c =
    let f = c.walk_other in
    keeps f.result c.args.work.now f.new.work c.args.pending _ c.in-Other.is f.ensures.inside

pub returns-in-If0-clause-inside : goal.returns-in-If0-clause-inside
returns-in-If0-clause-inside c =
    let f = c.walk_test in
    keeps f.result c.args.work.now f.new.work c.args.pending _ c.in-If0.is f.ensures.inside

pub returns-in-End-clause-steps : goal.returns-in-End-clause-steps
returns-in-End-clause-steps c =
    let f = c.put_end in
    follows f.result c.args.work.now f.new.work c.args.pending _ c.in-End.is f.ensures.steps

pub returns-in-End-clause-inside : goal.returns-in-End-clause-inside
returns-in-End-clause-inside c =
    let f = c.put_end in
    keeps f.result c.args.work.now f.new.work c.args.pending _ c.in-End.is f.ensures.inside

pub returns-in-Leave-clause-steps : goal.returns-in-Leave-clause-steps
returns-in-Leave-clause-steps c =
    let f = c.leave_name in
    follows f.result c.args.work.now f.new.work c.args.pending _ c.in-Leave.is f.ensures.steps

pub returns-in-Leave-clause-inside : goal.returns-in-Leave-clause-inside
returns-in-Leave-clause-inside c =
    let f = c.leave_name in
    keeps f.result c.args.work.now f.new.work c.args.pending _ c.in-Leave.is f.ensures.inside

pub returns-in-LeaveType-clause-steps : goal.returns-in-LeaveType-clause-steps
returns-in-LeaveType-clause-steps c =
    let f = c.leave_type_name in
    follows f.result c.args.work.now f.new.work c.args.pending _ c.in-LeaveType.is f.ensures.steps

pub returns-in-LeaveType-clause-inside : goal.returns-in-LeaveType-clause-inside
returns-in-LeaveType-clause-inside c =
    let f = c.leave_type_name in
    keeps f.result c.args.work.now f.new.work c.args.pending _ c.in-LeaveType.is f.ensures.inside

pub returns-in-Enter-clause-steps : goal.returns-in-Enter-clause-steps
returns-in-Enter-clause-steps c =
    let f = c.enter_name in
    follows f.result c.args.work.now f.new.work c.args.pending _ c.in-Enter.is f.ensures.steps

pub returns-in-Enter-clause-inside : goal.returns-in-Enter-clause-inside
returns-in-Enter-clause-inside c =
    let f = c.enter_name in
    keeps f.result c.args.work.now f.new.work c.args.pending _ c.in-Enter.is f.ensures.inside

pub returns-in-EnterType-clause-steps : goal.returns-in-EnterType-clause-steps
returns-in-EnterType-clause-steps c =
    let f = c.enter_type_name in
    follows f.result c.args.work.now f.new.work c.args.pending _ c.in-EnterType.is f.ensures.steps

pub returns-in-EnterType-clause-inside : goal.returns-in-EnterType-clause-inside
returns-in-EnterType-clause-inside c =
    let f = c.enter_type_name in
    keeps f.result c.args.work.now f.new.work c.args.pending _ c.in-EnterType.is f.ensures.inside
