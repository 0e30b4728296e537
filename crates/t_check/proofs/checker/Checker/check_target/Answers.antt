use Rattle.std.proofs.Common.{◌≡◌, ◌∙◌, ℕ, sym, subst, Result, true≢false}
use Rattle.t_types.specs.Tree.{CodeTy, TFile}
use Rattle.t_types.specs.Fits.{FitsFile, RegTypes}
use Rattle.t_terms.specs.Read.{value}
use Rattle.t_terms.specs.ReadProgram.{program}
use Rattle.t_known.specs.declared.refusal.Refusal.{Refusal}
use Rattle.t_intern.specs.Nodes.{at}
use Rattle.t_intern.proofs.Growing.{grown_at, grown_next}
use Rattle.t_known.specs.Known.{known}
use Rattle.t_check.specs.Verdict.{IsEntered, IsFileFit}
use Rattle.t_known.proofs.Fitted.{same_known}
use Rattle.t_known.proofs.Noting.{known_grown, sound_grown, grown_there}
use Rattle.t_check.proofs.Typing.{on_any, enter_none, enter_ok, enter_is}
use Rattle.t_check.proofs.checker.Checker.check_target.Goals as goal

pub returns-then-not-owes_nothing-clause-entered : goal.returns-then-not-owes_nothing-clause-entered
returns-then-not-owes_nothing-clause-entered c =
    let P = program c.args.self.now.program.now in
    let k = c.args.self.now.registers in
    let g = known c.args.types.now k in
    let us = c.type_of_value.new.types in
    let v = value c.args.v.now in
    subst (λ (r : Result (Unit {0}) Refusal). IsEntered P us k.names g c.args.span v r) (sym c.refused.ensures)
    (enter_none P k.names g c.args.span v (at us c.in_ok-found.found) c.in_ok-found.ensures.typed.1
    (λ f e. true≢false (sym (c.owes_nothing.ensures.1 (f, e)) ∙ c.if-not-owes_nothing.true)))

pub fit-requires-clause-sound : goal.fit-requires-clause-sound
fit-requires-clause-sound c =
    sound_grown c.args.types.now c.type_of_value.new.types c.in_ok-found.ensures.grown c.args.self.now.registers
    c.requires.place.sound

pub fit-requires-clause-code : goal.fit-requires-clause-code
fit-requires-clause-code c = c.owes_nothing.ensures.0 c.if-not-owes_nothing.false

pub returns-then-branch-clause-entered : goal.returns-then-branch-clause-entered
returns-then-branch-clause-entered c =
    let P = program c.args.self.now.program.now in
    let ts = c.args.types.now in
    let k = c.args.self.now.registers in
    let us = c.type_of_value.new.types in
    let same = known_grown ts us c.in_ok-found.ensures.grown k c.requires.place.sound in
    let f : (f : TFile) × (at us c.in_ok-found.found ≡ CodeTy 0 f) =
    c.owes_nothing.ensures.0 c.if-not-owes_nothing.false in
    enter_ok P k.names (known ts k) c.args.span (value c.args.v.now) (at us c.in_ok-found.found)
    c.in_ok-found.ensures.typed.1 f.0 f.1
    (subst (λ (x : RegTypes). FitsFile x f.0) same ((c.in_ok-fit.ensures.fit f.0 f.1).0 c.if-branch.true))

pub returns-then-branch-clause-known : goal.returns-then-branch-clause-known
returns-then-branch-clause-known c =
    λ ts. same_known ts c.args.self.now.registers c.fit.new.self c.in_ok-fit.ensures.same

-- the registers do not fit, and are looked at in the order of the file
pub check_code-requires-clause-there : goal.check_code-requires-clause-there
check_code-requires-clause-there c =
    grown_there c.type_of_value.new.types c.fit.new.types c.in_ok-fit.ensures.grown c.in_ok-found.found
    c.in_ok-found.ensures.typed.0

pub check_code-requires-clause-code : goal.check_code-requires-clause-code
check_code-requires-clause-code c =
    let f = c.owes_nothing.ensures.0 c.if-not-owes_nothing.false in (
      f.0,
      grown_at c.type_of_value.new.types c.fit.new.types c.in_ok-fit.ensures.grown c.in_ok-found.found
          c.in_ok-found.ensures.typed.0 ∙ f.1,
    )

pub returns-clause-grown : goal.returns-clause-grown
returns-clause-grown c =
    grown_next _ _ _ c.in_ok-found.ensures.grown
    (grown_next _ _ _ c.in_ok-fit.ensures.grown c.check_code.ensures.grown)

pub returns-clause-entered : goal.returns-clause-entered
returns-clause-entered c =
    let P = program c.args.self.now.program.now in
    let ts = c.args.types.now in
    let us = c.type_of_value.new.types in
    let vs = c.fit.new.types in
    let k = c.args.self.now.registers in
    let h = c.fit.new.self in
    let n = c.in_ok-found.found in
    let s = c.args.span in
    let typed = c.in_ok-found.ensures.typed in
    let same = c.in_ok-fit.ensures.same in
    let all = grown_next ts us vs c.in_ok-found.ensures.grown c.in_ok-fit.ensures.grown in
    let is = same_known vs k h same ∙ known_grown ts vs all k c.requires.place.sound in
    let f : (f : TFile) × (at us n ≡ CodeTy 0 f) = c.owes_nothing.ensures.0 c.if-not-owes_nothing.false in
    let ws = c.check_code.new.types in
    let file = c.check_code.ensures.fit f.0 (grown_at us vs c.in_ok-fit.ensures.grown n typed.0 ∙ f.1) in
    enter_is P k.names (known ts k) s (value c.args.v.now) (at us n) typed.1 f.0 f.1 ws c.check_code.result
    (subst (λ (m : ℕ). IsFileFit ws m (known ts k) s f.0 c.check_code.result) same.1
    (subst (λ (x : RegTypes). IsFileFit ws h.names x s f.0 c.check_code.result) is file))

pub returns-clause-known : goal.returns-clause-known
returns-clause-known c = λ ts. same_known ts c.args.self.now.registers c.fit.new.self c.in_ok-fit.ensures.same

pub returns-clause-sound : goal.returns-clause-sound
returns-clause-sound c =
    on_any c.check_code.result
    (sound_grown c.fit.new.types c.check_code.new.types c.check_code.ensures.grown c.fit.new.self
    c.in_ok-fit.ensures.sound)
