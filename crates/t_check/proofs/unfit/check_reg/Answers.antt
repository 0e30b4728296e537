use Rattle.std.proofs.Common.{◌∙◌, ap, sym, subst, refl, arith, length, List, Result, true≢false}
use Rattle.t_types.specs.Tree.{Ty}
use Rattle.t_types.specs.Fits.{Fits}
use Rattle.t_intern.specs.Nodes.{at}
use Rattle.t_intern.proofs.Growing.{grown_at, grown_length}
use Rattle.t_known.specs.Known.{known, seen}
use Rattle.t_check.proofs.Missing.{missing, other_type}
use Rattle.t_check.specs.Verdict.{IsRegFit}
use Rattle.t_known.specs.declared.refusal.Refusal.{Refusal}
use Rattle.t_check.proofs.unfit.check_reg.Goals as goal

pub returns-in-None-clause-fit : goal.returns-in-None-clause-fit
returns-in-None-clause-fit c =
    let ts = c.args.types.now in
    let k = c.args.registers.now in
    subst (λ (r : Result (Unit {0}) Refusal). IsRegFit ts k.names (known ts k) c.args.span c.args.register
    (at ts c.args.wanted) r) (sym c.at_odds.ensures)
    (missing k.names (known ts k) c.args.span c.args.register (at ts c.args.wanted) ts c.args.wanted c.requires.wanted
    refl (c.in-None.ensures.found ts c.requires.sound))

pub returns-then-fits_once-clause-fit : goal.returns-then-fits_once-clause-fit
returns-then-fits_once-clause-fit c =
    let ts = c.args.types.now in
    let us = c.shown.new.types in
    let k = c.args.registers.now in
    let w = c.args.wanted in
    let e = c.in-Some.entry in
    let found = c.in-Some.ensures.found ts c.requires.sound in
    let fits = c.if-fits_once.ensures.fit.0 refl in (
      seen ts k.names e,
      found.0,
      subst (λ (t : Ty). Fits t (at ts w)) c.in_ok-found.ensures.number.1
          (subst (Fits (at us c.in_ok-found.found)) (grown_at ts us c.in_ok-found.ensures.grown w c.requires.wanted)
          fits),
    )

pub returns-clause-fit : goal.returns-clause-fit
returns-clause-fit c =
    let ts = c.args.types.now in
    let us = c.shown.new.types in
    let vs = c.fits_once.new.self in
    let k = c.args.registers.now in
    let w = c.args.wanted in
    let n = c.in_ok-found.found in
    let e = c.in-Some.entry in
    let u = seen ts k.names e in
    let found = c.in-Some.ensures.found ts c.requires.sound in
    let same = c.if-fits_once.ensures.same in
    let own = ap (λ (xs : List Ty). at xs n) same ∙ c.in_ok-found.ensures.number.1 in
    let kept = grown_at ts us c.in_ok-found.ensures.grown w c.requires.wanted in
    let is = ap (λ (xs : List Ty). at xs w) same ∙ kept in
    let there = c.in_ok-found.ensures.number.0 in
    let old = c.requires.wanted in
    let longer = grown_length ts us c.in_ok-found.ensures.grown in
    let as_long = ap (λ (xs : List Ty). length xs) same in
    subst (λ (r : Result (Unit {0}) Refusal). IsRegFit vs k.names (known ts k) c.args.span c.args.register (at ts w) r)
    (sym c.at_odds-2.ensures)
    (other_type k.names (known ts k) c.args.span c.args.register (at ts w) vs w (omega arith) is n u (omega arith)
    found.0 own
    (λ f. true≢false
    (sym (c.if-fits_once.ensures.fit.1
    (subst (λ (t : Ty). Fits t (at us w)) (sym c.in_ok-found.ensures.number.1)
    (subst (Fits u) (sym kept) f))))))
