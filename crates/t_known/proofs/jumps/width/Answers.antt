use Rattle.std.proofs.Common.{sym, ap, ◌∙◌, arith}
use Rattle.t_types.specs.Tree.{TFile}
use Rattle.t_known.specs.Fitted.{reg_in}
use Rattle.t_known.proofs.FilePlaces.{file_is, reg_past}
use Rattle.t_known.proofs.jumps.width.Goals as goal

pub returns-in-Some : goal.returns-in-Some
returns-in-Some c = λ f e i le.
    let ts = c.args.types.now in
    let xs = c.in-Some.regs.now in
    let same = file_is ts c.args.code xs f c.in-Some.ensures e in
    ap (λ (x : TFile). reg_in x i) (sym same) ∙ reg_past ts xs i (omega (arith, le))

pub returns-in-None : goal.returns-in-None
returns-in-None c = λ f e i le. absurd (c.in-None.ensures 0 f e)
