use Rattle.std.proofs.Common.{Bool, IsTrue, ◌↔◌, sym, refl}
use Rattle.std.proofs.lemmas.Result.{IfOk-weaker}
use Rattle.t_intern.specs.Nodes.{at}
use Rattle.t_known.specs.Fitted.{AgreesAt}
use Rattle.t_rules.specs.Faults.{KnownFits}
use Rattle.t_known.specs.Known.{known}
use Rattle.t_known.proofs.Rising.{agrees_by}
use Rattle.t_known.proofs.registers.Registers.agrees.Goals as goal

pub returns-in-Some-clause-fit : goal.returns-in-Some-clause-fit
returns-in-Some-clause-fit c = λ f e.
    let ts = c.args.types.now in
    let g = known ts c.args.self.now in
    let w = at ts c.in-Some.wanted in
    let named = c.in-Some.ensures.wanted f e (c.requires.rises f e) in
    IfOk-weaker c.fits_reg.result (λ (b : Bool). IsTrue b ↔ KnownFits g c.args.r w)
    (λ (b : Bool). IsTrue b ↔ AgreesAt g f c.args.r)
    (λ b h. agrees_by g f c.args.r w b (sym named) h) c.fits_reg.ensures.fit

pub returns-in-None-clause-fit : goal.returns-in-None-clause-fit
returns-in-None-clause-fit c = λ f e.
    let none = c.in-None.ensures.wanted f e (c.requires.rises f e) in
    ((λ h t named. cc), λ h. refl)
