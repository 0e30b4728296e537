use Rattle.std.proofs.Common.{subst, ◌↔◌, IsTrue}
use Rattle.t_types.specs.Tree.{Ty}
use Rattle.t_types.specs.Fits.{Fits}
use Rattle.t_intern.specs.Nodes.{at}
use Rattle.t_intern.proofs.Growing.{grown_at}
use Rattle.t_known.specs.Known.{seen}
use Rattle.t_known.proofs.registers.Registers.fits_entry.Goals as goal

pub returns-clause-fit : goal.returns-clause-fit
returns-clause-fit c =
    let ts = c.args.types.now in
    let us = c.shown.new.types in
    let n = c.args.self.now.names in
    subst (λ (u : Ty). IsTrue c.fits_once.result ↔ Fits (seen ts n c.args.entry) u)
    (grown_at ts us c.in_ok-shown.ensures.grown c.args.wanted c.requires.wanted)
    (subst (λ (t : Ty). IsTrue c.fits_once.result ↔ Fits t (at us c.args.wanted)) c.in_ok-shown.ensures.number.1
    c.fits_once.ensures.fit)
