use Rattle.std.proofs.Common.{◌≡◌, refl, sym, ◌∙◌, subst}
use Rattle.t_types.specs.Tree.{CodeTy}
use Rattle.t_types.specs.Fits.{FitsFile, RegTypes}
use Rattle.t_intern.specs.Nodes.{at}
use Rattle.t_intern.proofs.Growing.{grown_at}
use Rattle.t_known.proofs.Fitted.{remembered_sound}
use Rattle.t_known.proofs.Noting.{sound_grown, known_grown, grown_there}
use Rattle.t_known.proofs.registers.Registers.fit_whole.Goals as goal

pub returns-then-not-branch-clause-sound : goal.returns-then-not-branch-clause-sound
returns-then-not-branch-clause-sound c =
    sound_grown c.args.types.now c.fit_regs.new.types c.in_ok-fit_regs.ensures.grown c.args.self.now c.requires.sound

pub returns-then-not-branch-clause-fit : goal.returns-then-not-branch-clause-fit
returns-then-not-branch-clause-fit c = λ f e.
    ((λ h. cc), λ h. sym c.if-not-branch.true ∙ (c.in_ok-fit_regs.ensures.fit f e).1 h)

pub returns-then-not-regs_rise-clause-sound : goal.returns-then-not-regs_rise-clause-sound
returns-then-not-regs_rise-clause-sound c =
    sound_grown c.args.types.now c.fit_regs.new.types c.in_ok-fit_regs.ensures.grown c.args.self.now c.requires.sound

pub returns-then-not-regs_rise-clause-fit : goal.returns-then-not-regs_rise-clause-fit
returns-then-not-regs_rise-clause-fit c = λ f e.
    ((λ h. (c.in_ok-fit_regs.ensures.fit f e).0 c.if-not-branch.false), λ h. refl)

pub returns-clause-fit : goal.returns-clause-fit
returns-clause-fit c = λ f e. ((λ h. (c.in_ok-fit_regs.ensures.fit f e).0 c.if-not-branch.false), λ h. refl)

pub returns-clause-sound : goal.returns-clause-sound
returns-clause-sound c =
    let ts = c.args.types.now in
    let us = c.fit_regs.new.types in
    let k = c.args.self.now in
    let grown = c.in_ok-fit_regs.ensures.grown in
    let there = grown_there ts us grown c.args.code c.requires.there in
    let same = grown_at ts us grown c.args.code c.requires.there in
    let known_same = known_grown ts us grown k c.requires.sound in
    remembered_sound us k c.remember.new.self c.args.code (sound_grown ts us grown k c.requires.sound) there
    c.in_ok-remember.ensures.remembered
    (λ f e.
    let before : at ts c.args.code ≡ CodeTy 0 f = sym same ∙ e in
    let fits = (c.in_ok-fit_regs.ensures.fit f before).0 c.if-not-branch.false in (
      (c.regs_rise.ensures f e).0 c.if-not-regs_rise.false,
      subst (λ (g : RegTypes). FitsFile g f) (sym known_same) fits,
    ))
