use Rattle.std.proofs.Common.{IsTrue, ◌↔◌, subst}
use Rattle.t_types.specs.Tree.{TFile}
use Rattle.t_known.specs.Fitted.{Rises}
use Rattle.t_known.proofs.FilePlaces.{file_is}
use Rattle.t_known.proofs.jumps.regs_rise.Goals as goal

pub returns-in-Some : goal.returns-in-Some
returns-in-Some c = λ f e.
    let ts = c.args.types.now in
    let same = file_is ts c.args.code c.in-Some.regs.now f c.in-Some.ensures e in
    subst (λ (x : TFile). IsTrue c.rise.result ↔ Rises x) same (c.rise.ensures ts)

pub returns-in-None : goal.returns-in-None
returns-in-None c = λ f e. absurd (c.in-None.ensures 0 f e)
