use Rattle.std.proofs.Common.{Bool, IsTrue, ◌↔◌, sym, refl}
use Rattle.std.proofs.lemmas.Result.{IfOk-weaker}
use Rattle.t_intern.specs.Nodes.{at}
use Rattle.t_known.specs.Fitted.{FitsPlace}
use Rattle.t_rules.specs.Faults.{KnownFits}
use Rattle.t_known.specs.Known.{known}
use Rattle.t_known.proofs.FilePlaces.{place_by}
use Rattle.t_known.proofs.registers.Registers.fits_place.Goals as goal

pub returns-in-Some-clause-fit : goal.returns-in-Some-clause-fit
returns-in-Some-clause-fit c = λ f e.
    let ts = c.args.types.now in
    let g = known ts c.args.self.now in
    let r = c.in-Some.reg.0 in
    let w = at ts c.in-Some.reg.1 in
    let named = c.in-Some.ensures.reg f e in
    IfOk-weaker c.fits_reg.result (λ (b : Bool). IsTrue b ↔ KnownFits g r w)
    (λ (b : Bool). IsTrue b ↔ FitsPlace g f c.args.i) (λ b h. place_by g f c.args.i r w b (sym named) h)
    c.fits_reg.ensures.fit

pub returns-in-None-clause-fit : goal.returns-in-None-clause-fit
returns-in-None-clause-fit c = λ f e.
    let none = c.in-None.ensures.reg f e in
    ((λ h r t named. cc), λ h. refl)
