use Rattle.std.proofs.Common.{◌<◌, length, refl, sym, ◌∙◌, arith, subst}
use Rattle.std.proofs.lemmas.Grind.{get_or_default_zero}
use Rattle.t_types.specs.Tree.{TFile}
use Rattle.t_types.specs.Fits.{RegTypes}
use Rattle.t_intern.proofs.Growing.{grown_next, grown_length, grown_at}
use Rattle.t_known.specs.Fitted.{AgreesAt}
use Rattle.t_known.specs.Known.{known}
use Rattle.t_known.proofs.Noting.{sound_grown, file_told}
use Rattle.t_known.proofs.Rising.{agree_more}
use Rattle.t_known.proofs.registers.Registers.agree_since.Goals as goal

pub agrees-requires-clause-sound : goal.agrees-requires-clause-sound
agrees-requires-clause-sound c =
    sound_grown c.args.types.now c.loop-i.types c.loop-i.invariant.grown c.args.self.now c.requires.sound

pub agrees-requires-clause-there : goal.agrees-requires-clause-there
agrees-requires-clause-there c =
    omega (arith, c.requires.there, grown_length c.args.types.now c.loop-i.types c.loop-i.invariant.grown)

pub agrees-requires-clause-rises : goal.agrees-requires-clause-rises
agrees-requires-clause-rises c =
    λ f e. c.requires.rises f
    (sym (grown_at c.args.types.now c.loop-i.types c.loop-i.invariant.grown c.args.code c.requires.there) ∙ e)

pub returns-in_err-agrees-clause-grown : goal.returns-in_err-agrees-clause-grown
returns-in_err-agrees-clause-grown c = grown_next _ _ _ c.loop-i.invariant.grown c.in_err-agrees.ensures.grown

pub returns-then-not-branch-clause-grown : goal.returns-then-not-branch-clause-grown
returns-then-not-branch-clause-grown c = grown_next _ _ _ c.loop-i.invariant.grown c.in_ok-agrees.ensures.grown

pub returns-then-not-branch-clause-fit : goal.returns-then-not-branch-clause-fit
returns-then-not-branch-clause-fit c = λ f e.
    let l = c.loop-i in
    let ts = c.args.types.now in
    let k = c.args.self.now in
    let rs = k.changed.items in
    let lt : l.i < length rs = omega (arith, c.loop-i-test.true) in
    let r = c.index.result.now in
    let read = c.index.ensures ∙ get_or_default_zero rs l.i r lt in
    let told =
    file_told (λ (g : RegTypes) (x : TFile). AgreesAt g x r) ts l.types l.invariant.grown k c.requires.sound f
    c.args.code
    c.in_ok-agrees.field-0 c.requires.there e c.in_ok-agrees.ensures.fit in (
      (λ h. cc),
      λ h. sym c.if-not-branch.true
          ∙ told.1 (subst (AgreesAt (known ts k) f) (sym read) (h l.i c.loop-i.auto.i lt)),
    )

pub loop-i-preserved : goal.loop-i-preserved
loop-i-preserved c =
    let l = c.loop-i in
    let ts = c.args.types.now in
    let k = c.args.self.now in
    let g = known ts k in
    let rs = k.changed.items in
    let lt : l.i < length rs = omega (arith, c.loop-i-test.true) in
    let r = c.index.result.now in
    let read = c.index.ensures ∙ get_or_default_zero rs l.i r lt in
    record {
      grown = grown_next _ _ _ l.invariant.grown c.in_ok-agrees.ensures.grown;
      fit = λ f e.
          let told =
          file_told (λ (h : RegTypes) (x : TFile). AgreesAt h x r) ts l.types l.invariant.grown k c.requires.sound f
          c.args.code c.in_ok-agrees.field-0 c.requires.there e c.in_ok-agrees.ensures.fit in
          agree_more g f rs c.args.from l.i (subst (AgreesAt g f) read (told.0 c.if-not-branch.false))
          (l.invariant.fit f e);
    }

pub returns-clause-fit : goal.returns-clause-fit
returns-clause-fit c = λ f e.
    let l = c.loop-i in
    ((λ h j a b. l.invariant.fit f e j a (omega arith)), λ h. refl)
