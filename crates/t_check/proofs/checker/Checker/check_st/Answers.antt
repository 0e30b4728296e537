use Rattle.std.proofs.Common.{◌≡◌, ◌∙◌, ap, sym, subst, refl, Bool, Some}
use Rattle.t_types.specs.Tree.{TupleTy}
use Rattle.t_types.specs.Fields.{AField, field, filled}
use Rattle.t_types.specs.Fits.{RegTypes}
use Rattle.t_terms.specs.Registers.{with_reg}
use Rattle.t_intern.proofs.Growing.{grown_next}
use Rattle.t_known.specs.Known.{known}
use Rattle.t_known.proofs.Filling.{filled_before}
use Rattle.t_known.proofs.Noting.{known_grown, sound_grown}
use Rattle.t_check.proofs.checker.Checker.check_st.Goals as goal

pub fill-requires-clause-sound : goal.fill-requires-clause-sound
fill-requires-clause-sound c =
    sound_grown c.args.types.now c.check_stored.new.types c.in_ok-is_initialised.ensures.grown
    c.args.self.now.registers c.requires.place.sound

pub fill-requires-clause-there : goal.fill-requires-clause-there
fill-requires-clause-there c =
    let ts = c.args.types.now in
    let us = c.check_stored.new.types in
    let h = c.in_ok-is_initialised.ensures.stored in
    let same =
    known_grown ts us c.in_ok-is_initialised.ensures.grown c.args.self.now.registers c.requires.place.sound in (
      TupleTy h.0,
      ap (λ (g : RegTypes). g c.args.regs.rd) same ∙ h.3,
      (h.0, h.1, c.in_ok-is_initialised.is_initialised, refl, h.4),
    )

pub returns-clause-step : goal.returns-clause-step
returns-clause-step c =
    let ts = c.args.types.now in
    let us = c.check_stored.new.types in
    let h = c.in_ok-is_initialised.ensures.stored in
    let same =
    known_grown ts us c.in_ok-is_initialised.ensures.grown c.args.self.now.registers c.requires.place.sound in
    let filled_is = c.in_ok-fill.ensures.filled in (
      (
        h.0,
        h.1,
        c.in_ok-is_initialised.is_initialised,
        h.2,
        h.3,
        h.4,
        h.5,
        h.6,
        filled_is.0 h.0 (ap (λ (g : RegTypes). g c.args.regs.rd) same ∙ h.3)
            ∙ ap (λ (g : RegTypes). with_reg g c.args.regs.rd (TupleTy (filled h.0 c.args.field))) same,
      ),
      filled_is.1,
      filled_is.2,
    )

pub returns-clause-grown : goal.returns-clause-grown
returns-clause-grown c = grown_next _ _ _ c.in_ok-is_initialised.ensures.grown c.in_ok-fill.ensures.grown

-- the field is initialised already: nothing changes
pub returns-then-is_initialised-clause-step : goal.returns-then-is_initialised-clause-step
returns-then-is_initialised-clause-step c =
    let ts = c.args.types.now in
    let us = c.check_stored.new.types in
    let k = c.args.self.now.registers in
    let h = c.in_ok-is_initialised.ensures.stored in
    let set = subst (λ (b : Bool). field h.0 c.args.field ≡ Some (AField h.1 b)) c.if-is_initialised.true h.4 in (
      (
        h.0,
        h.1,
        c.in_ok-is_initialised.is_initialised,
        h.2,
        h.3,
        h.4,
        h.5,
        h.6,
        known_grown ts us c.in_ok-is_initialised.ensures.grown k c.requires.place.sound
            ∙ sym (filled_before (known ts k) c.args.regs.rd h.0 c.args.field h.1 h.3 set),
      ),
      sound_grown ts us c.in_ok-is_initialised.ensures.grown k c.requires.place.sound,
      refl,
    )
