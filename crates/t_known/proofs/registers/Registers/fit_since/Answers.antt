use Rattle.std.proofs.Common.{refl, sym, ◌∙◌, subst, get_or}
use Rattle.t_types.specs.Fits.{FitsFile, RegTypes}
use Rattle.t_intern.proofs.Growing.{grown_at}
use Rattle.t_known.specs.Known.{known}
use Rattle.t_known.proofs.Fitted.{remembered_sound}
use Rattle.t_known.proofs.Noting.{sound_grown, known_grown, grown_there}
use Rattle.t_known.proofs.Rising.{fits_all, fits_both}
use Rattle.t_known.proofs.registers.Registers.fit_since.Goals as goal

pub agree_since-requires-clause-rises : goal.agree_since-requires-clause-rises
agree_since-requires-clause-rises c = c.requires.fitted.rises

pub returns-then-not-branch-clause-fit : goal.returns-then-not-branch-clause-fit
returns-then-not-branch-clause-fit c = λ f e.
    let g = known c.args.types.now c.args.self.now in
    let told = c.in_ok-agree_since.ensures.fit f e in (
      (λ h. cc),
      λ h. sym c.if-not-branch.true
          ∙ told.1 (λ j a b. fits_all g f h (get_or c.args.self.now.changed.items j 0)),
    )

pub returns-then-not-branch-clause-sound : goal.returns-then-not-branch-clause-sound
returns-then-not-branch-clause-sound c =
    sound_grown c.args.types.now c.agree_since.new.types c.in_ok-agree_since.ensures.grown c.args.self.now
    c.requires.sound

pub returns-clause-fit : goal.returns-clause-fit
returns-clause-fit c = λ f e.
    let k = c.args.self.now in
    let x = c.requires.fitted in
    let since = (c.in_ok-agree_since.ensures.fit f e).0 c.if-not-branch.false in (
      (λ h. fits_both (known c.args.types.now k) f k.changed.items c.args.from (x.rises f e) (x.fits f e) since),
      λ h. refl,
    )

pub returns-clause-sound : goal.returns-clause-sound
returns-clause-sound c =
    let ts = c.args.types.now in
    let us = c.agree_since.new.types in
    let k = c.args.self.now in
    let x = c.requires.fitted in
    let grown = c.in_ok-agree_since.ensures.grown in
    let there = grown_there ts us grown c.args.code c.requires.there in
    let same = grown_at ts us grown c.args.code c.requires.there in
    remembered_sound us k c.remember.new.self c.args.code (sound_grown ts us grown k c.requires.sound) there
    c.in_ok-remember.ensures.remembered
    (λ f e.
    let before = sym same ∙ e in
    let since = (c.in_ok-agree_since.ensures.fit f before).0 c.if-not-branch.false in (
      x.rises f before,
      subst (λ (g : RegTypes). FitsFile g f) (sym (known_grown ts us grown k c.requires.sound))
          (fits_both (known ts k) f k.changed.items c.args.from (x.rises f before) (x.fits f before) since),
    ))
