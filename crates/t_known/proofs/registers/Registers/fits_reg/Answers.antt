use Rattle.std.proofs.Common.{Bool, IsTrue, ◌↔◌}
use Rattle.std.proofs.lemmas.Result.{IfOk-weaker}
use Rattle.t_types.specs.Fits.{Fits}
use Rattle.t_intern.specs.Nodes.{at}
use Rattle.t_rules.specs.Faults.{KnownFits}
use Rattle.t_known.specs.Known.{known, seen}
use Rattle.t_known.proofs.Rising.{known_fit}
use Rattle.t_known.proofs.registers.Registers.fits_reg.Goals as goal

pub returns-in-Some-clause-fit : goal.returns-in-Some-clause-fit
returns-in-Some-clause-fit c =
    let ts = c.args.types.now in
    let k = c.args.self.now in
    let t = seen ts k.names c.in-Some.entry in
    let w = at ts c.args.wanted in
    let found = c.in-Some.ensures.found ts c.requires.sound in
    IfOk-weaker c.fits_entry.result (λ (b : Bool). IsTrue b ↔ Fits t w)
    (λ (b : Bool). IsTrue b ↔ KnownFits (known ts k) c.args.r w)
    (λ b h. ((λ y. (t, found.0, h.0 y)), λ x. h.1 (known_fit (known ts k) c.args.r t w found.0 x)))
    c.fits_entry.ensures.fit

pub returns-in-None-clause-fit : goal.returns-in-None-clause-fit
returns-in-None-clause-fit c =
    let none = c.in-None.ensures.found c.args.types.now c.requires.sound in
    ((λ h. cc), λ x. let some = x.1 in cc)
