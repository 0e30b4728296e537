use Rattle.std.proofs.Common.{◌∙◌, ap, sym, subst, arith, length, Bool, List, Result, true≢false}
use Rattle.t_types.specs.Tree.{Ty}
use Rattle.t_types.specs.Fits.{Fits}
use Rattle.t_terms.specs.declared.fault.TCode.TheVariants.{T13}
use Rattle.t_intern.specs.Nodes.{at}
use Rattle.t_intern.proofs.Growing.{grown_at, grown_length}
use Rattle.t_known.specs.Known.{known, seen}
use Rattle.t_rules.specs.Faults.{StoreFaultWith, register, fitting}
use Rattle.t_check.proofs.Loads.{field_follows, unfit}
use Rattle.t_known.proofs.Noting.{seen_grown, entry_grown}
use Rattle.t_check.proofs.Typing.{says_types}
use Rattle.t_check.specs.Verdict.{IsStored}
use Rattle.t_known.specs.declared.refusal.Refusal.{Refusal}
use Rattle.t_check.proofs.checker.Checker.check_stored.Goals as goal

pub shown-requires-clause-entry : goal.shown-requires-clause-entry
shown-requires-clause-entry c =
    entry_grown c.args.types.now c.field_of.new.types c.in_ok-wanted.ensures.grown c.args.self.now.registers.names
    c.in-Some.entry (c.in-Some.ensures.found c.args.types.now c.requires).1

pub fits_once-requires-clause-right : goal.fits_once-requires-clause-right
fits_once-requires-clause-right c =
    omega (
      arith,
      c.in_ok-wanted.ensures.field.4,
      grown_length c.field_of.new.types c.shown.new.types c.in_ok-found.ensures.grown,
    )

pub returns-clause-stored : goal.returns-clause-stored
returns-clause-stored c =
    let ts = c.args.types.now in
    let us = c.field_of.new.types in
    let vs = c.shown.new.types in
    let k = c.args.self.now.registers in
    let e = c.in-Some.entry in
    let w = c.in_ok-wanted.wanted in
    let h = c.in_ok-wanted.ensures.field in
    let found = c.in-Some.ensures.found ts c.requires in
    let own = c.in_ok-found.ensures.number.1 ∙ seen_grown ts us c.in_ok-wanted.ensures.grown k.names e found.1 in
    let kept = grown_at us vs c.in_ok-found.ensures.grown w h.4 in
    let fits = c.fits_once.ensures.fit.0 c.if-not-fits_once.false in (
      h.0,
      at us w,
      seen ts k.names e,
      h.1,
      h.2,
      found.0,
      subst (λ (t : Ty). Fits t (at us w)) own (subst (Fits (at vs c.in_ok-found.found)) kept fits),
    )

pub returns-then-not-fits_once-clause-stored : goal.returns-then-not-fits_once-clause-stored
returns-then-not-fits_once-clause-stored c =
    let ts = c.args.types.now in
    let us = c.field_of.new.types in
    let vs = c.shown.new.types in
    let ws = c.fits_once.new.self in
    let k = c.args.self.now.registers in
    let g = known ts k in
    let n = k.names in
    let e = c.in-Some.entry in
    let s = c.args.span in
    let w = c.in_ok-wanted.wanted in
    let m = c.in_ok-found.found in
    let h = c.in_ok-wanted.ensures.field in
    let t = seen ts n e in
    let found = c.in-Some.ensures.found ts c.requires in
    let own = c.in_ok-found.ensures.number.1 ∙ seen_grown ts us c.in_ok-wanted.ensures.grown n e found.1 in
    let kept = grown_at us vs c.in_ok-found.ensures.grown w h.4 in
    let same = c.fits_once.ensures.same in
    let there = c.in_ok-found.ensures.number.0 in
    let before = h.4 in
    let longer = grown_length us vs c.in_ok-found.ensures.grown in
    let as_long = ap (λ (xs : List Ty). length xs) same in
    subst (λ (r : Result Bool Refusal). IsStored ws n g c.args.regs.rd c.args.field c.args.regs.rs s r)
    (sym c.at_odds.ensures)
    (says_types ws T13 n s (StoreFaultWith n g s c.args.regs.rd c.args.field c.args.regs.rs) w m (at us w) t
    (omega arith)
    (omega arith) (ap (λ (xs : List Ty). at xs w) same ∙ kept) (ap (λ (xs : List Ty). at xs m) same ∙ own)
    (field_follows g c.args.regs.rd c.args.field s (λ fs u flag. register g c.args.regs.rs s (λ x.
    fitting T13 n s u x)) h.0 h.1
    (at us w) c.in_ok-wanted.is_initialised _ s h.2
    (unfit T13 n g c.args.regs.rs s t (at us w) found.0
    (λ f. true≢false
    (sym (c.fits_once.ensures.fit.1 (subst (λ (u : Ty). Fits u (at vs w)) (sym own) (subst (Fits t) (sym kept) f)))
    ∙ c.if-not-fits_once.true)))))
