use Rattle.std.proofs.Common.{sym, subst, ◌∙◌, ap, ap₂, ℕ, arith, length, List, Result, true≢false}
use Rattle.t_types.specs.Read.{tree}
use Rattle.t_types.specs.Fits.{Fits}
use Rattle.t_types.specs.Tree.{Ty, put, PutFits}
use Rattle.t_terms.specs.declared.fault.TCode.TheVariants.{T15}
use Rattle.t_intern.specs.Grown.{IsNumber}
use Rattle.t_intern.specs.Nodes.{at}
use Rattle.t_intern.proofs.Growing.{grown_at, grown_next, grown_number, grown_length}
use Rattle.t_types.specs.Bounds.{Shallow}
use Rattle.t_rules.specs.Faults.{PackFaultWith}
use Rattle.t_known.specs.declared.refusal.Refusal.{Refusal}
use Rattle.t_check.specs.Verdict.{IsPacked}
use Rattle.t_rules.proofs.Depth.{shallow, pack_put_fits}
use Rattle.t_check.proofs.Typing.{says_package, says_types, pack_unfit, pack_none}
use Rattle.t_check.proofs.checker.Checker.type_of_package.Goals as goal

pub put-requires-clause-fits : goal.put-requires-clause-fits
put-requires-clause-fits c =
    let n = c.args.self.now.registers.names in
    let us = c.number.new.self in
    let ws = c.number-2.new.self in
    let is = sym c.in_ok-shape.ensures.number.1 ∙ c.in-Some.ensures.0 in
    let fits = pack_put_fits n (tree c.args.given.now.hidden.now) (at us c.in-Some.body) c.requires.few
    (shallow n (tree c.args.given.now.hidden.now) c.requires.hidden)
    (subst (Shallow n) is (shallow n (tree c.args.given.now.shape.now) c.requires.shape)) in
    subst (λ (t : Ty). PutFits 0 t 0 (at ws c.in-Some.body)) (sym c.in_ok-hidden.ensures.number.1)
    (subst (λ (t : Ty). PutFits 0 (tree c.args.given.now.hidden.now) 0 t)
    (sym (grown_at us ws c.in_ok-hidden.ensures.grown c.in-Some.body c.in-Some.ensures.1)) fits)

pub returns-clause-packed : goal.returns-clause-packed
returns-clause-packed c =
    let ts = c.args.types.now in
    let us = c.number.new.self in
    let ws = c.number-2.new.self in
    let vs = c.put.new.self in
    let later = grown_next us ws vs c.in_ok-hidden.ensures.grown c.in_ok-wanted.ensures.grown in
    let all = grown_next ts us vs c.in_ok-shape.ensures.grown later in
    let is = sym c.in_ok-shape.ensures.number.1 ∙ c.in-Some.ensures.0 in
    let wanted = c.in_ok-wanted.ensures.number.1
    ∙ ap₂ (put 0) c.in_ok-hidden.ensures.number.1
    (grown_at us ws c.in_ok-hidden.ensures.grown c.in-Some.body c.in-Some.ensures.1) in
    let fits = c.fits_once.ensures.fit.0 c.if-not-fits_once.false in (
      at us c.in-Some.body,
      is,
      subst (λ (t : Ty). Fits t (put 0 (tree c.args.given.now.hidden.now) (at us c.in-Some.body)))
          (grown_at ts vs all c.args.found c.requires.found) (subst (Fits (at vs c.args.found)) wanted fits),
      subst (λ (ts : List Ty). IsNumber ts (tree c.args.given.now.shape.now) c.in_ok-shape.shape)
          (sym c.fits_once.ensures.same)
          (grown_number us vs later (tree c.args.given.now.shape.now) c.in_ok-shape.shape c.in_ok-shape.ensures.number),
    )

pub returns-in-None-clause-packed : goal.returns-in-None-clause-packed
returns-in-None-clause-packed c =
    let n = c.args.self.now.registers.names in
    let ts = c.args.types.now in
    let us = c.number.new.self in
    let s = c.args.span in
    let hidden = tree c.args.given.now.hidden.now in
    let shape = tree c.args.given.now.shape.now in
    let t = at ts c.args.found in
    let is = c.in_ok-shape.ensures.number.1 in
    subst (λ (r : Result ℕ Refusal). IsPacked us n hidden t shape s r) (sym c.at_odds.ensures)
    (says_package us n s (PackFaultWith n s hidden t shape) c.in_ok-shape.shape shape c.in_ok-shape.ensures.number.0 is
    (pack_none n s hidden t shape (λ body e. c.in-None.ensures body (is ∙ e))))

pub returns-then-not-fits_once-clause-packed : goal.returns-then-not-fits_once-clause-packed
returns-then-not-fits_once-clause-packed c =
    let n = c.args.self.now.registers.names in
    let ts = c.args.types.now in
    let us = c.number.new.self in
    let ws = c.number-2.new.self in
    let vs = c.put.new.self in
    let xs = c.fits_once.new.self in
    let s = c.args.span in
    let later = grown_next us ws vs c.in_ok-hidden.ensures.grown c.in_ok-wanted.ensures.grown in
    let all = grown_next ts us vs c.in_ok-shape.ensures.grown later in
    let is = sym c.in_ok-shape.ensures.number.1 ∙ c.in-Some.ensures.0 in
    let wanted = c.in_ok-wanted.ensures.number.1
    ∙ ap₂ (put 0) c.in_ok-hidden.ensures.number.1
    (grown_at us ws c.in_ok-hidden.ensures.grown c.in-Some.body c.in-Some.ensures.1) in
    let hidden = tree c.args.given.now.hidden.now in
    let shape = tree c.args.given.now.shape.now in
    let m = c.args.found in
    let w = c.in_ok-wanted.wanted in
    let t = at ts m in
    let body = at us c.in-Some.body in
    let own = grown_at ts vs all m c.requires.found in
    let same = c.fits_once.ensures.same in
    let there = c.in_ok-wanted.ensures.number.0 in
    let before = c.requires.found in
    let longer = grown_length ts vs all in
    let as_long = ap (λ (ys : List Ty). length ys) same in
    subst (λ (r : Result ℕ Refusal). IsPacked xs n hidden t shape s r) (sym c.at_odds-then-not-fits_once.ensures)
    (says_types xs T15 n s (PackFaultWith n s hidden t shape) w m (put 0 hidden body) t (omega arith) (omega arith)
    (ap (λ (ys : List Ty). at ys w) same ∙ wanted) (ap (λ (ys : List Ty). at ys m) same ∙ own)
    (pack_unfit n s hidden t shape body is
    (λ h. true≢false
    (sym (c.fits_once.ensures.fit.1
    (subst (λ (u : Ty). Fits u (at vs w)) (sym own) (subst (Fits t) (sym wanted) h)))
    ∙ c.if-not-fits_once.true))))
