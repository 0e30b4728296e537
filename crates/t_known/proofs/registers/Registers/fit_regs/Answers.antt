use Rattle.std.proofs.Common.{refl, sym, ◌∙◌, arith}
use Rattle.t_types.specs.Tree.{TFile}
use Rattle.t_types.specs.Fits.{RegTypes}
use Rattle.t_intern.proofs.Growing.{grown_next, grown_length}
use Rattle.t_known.specs.Fitted.{FitsPlace}
use Rattle.t_known.specs.Known.{known}
use Rattle.t_known.proofs.FilePlaces.{fits_places, all_fit, place_more}
use Rattle.t_known.proofs.Noting.{sound_grown, file_told}
use Rattle.t_known.proofs.registers.Registers.fit_regs.Goals as goal

pub fits_place-requires-clause-sound : goal.fits_place-requires-clause-sound
fits_place-requires-clause-sound c =
    sound_grown c.args.types.now c.loop-i.types c.loop-i.invariant.grown c.args.self.now c.requires.sound

pub fits_place-requires-clause-there : goal.fits_place-requires-clause-there
fits_place-requires-clause-there c =
    omega (arith, c.requires.there, grown_length c.args.types.now c.loop-i.types c.loop-i.invariant.grown)

pub returns-in_err-fits_place-clause-grown : goal.returns-in_err-fits_place-clause-grown
returns-in_err-fits_place-clause-grown c =
    grown_next _ _ _ c.loop-i.invariant.grown c.in_err-fits_place.ensures.grown

pub returns-then-not-branch-clause-grown : goal.returns-then-not-branch-clause-grown
returns-then-not-branch-clause-grown c = grown_next _ _ _ c.loop-i.invariant.grown c.in_ok-fits_place.ensures.grown

pub returns-then-not-branch-clause-fit : goal.returns-then-not-branch-clause-fit
returns-then-not-branch-clause-fit c = λ f e.
    let l = c.loop-i in
    let ts = c.args.types.now in
    let k = c.args.self.now in
    let told =
    file_told (λ (g : RegTypes) (x : TFile). FitsPlace g x l.i) ts l.types l.invariant.grown k c.requires.sound f
    c.args.code c.in_ok-fits_place.field-0 c.requires.there e c.in_ok-fits_place.ensures.fit in
    ((λ h. cc), λ h. sym c.if-not-branch.true ∙ told.1 (fits_places (known ts k) f h l.i))

pub loop-i-preserved : goal.loop-i-preserved
loop-i-preserved c =
    let l = c.loop-i in
    let ts = c.args.types.now in
    let k = c.args.self.now in
    record {
      grown = grown_next _ _ _ l.invariant.grown c.in_ok-fits_place.ensures.grown;
      fit = λ f e.
          let told =
          file_told (λ (g : RegTypes) (x : TFile). FitsPlace g x l.i) ts l.types l.invariant.grown k
          c.requires.sound f c.args.code c.in_ok-fits_place.field-0 c.requires.there e
          c.in_ok-fits_place.ensures.fit in
          place_more (known ts k) f l.i (told.0 c.if-not-branch.false) (l.invariant.fit f e);
    }

pub returns-clause-fit : goal.returns-clause-fit
returns-clause-fit c = λ f e.
    let l = c.loop-i in
    let g = known c.args.types.now c.args.self.now in (
      (λ h. all_fit g f c.width-count.result l.i (l.invariant.fit f e) (omega arith) (c.width-count.ensures f e)),
      λ h. refl,
    )
