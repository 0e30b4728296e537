use Rattle.std.proofs.Common.{◌<◌, ℕ, Option, length, sym, ap, ◌∙◌, subst}
use Rattle.std.specs.Prelude.{option_map, IfSome}
use Rattle.t_types.specs.Tree.{TFile}
use Rattle.t_known.specs.Fitted.{reg_in}
use Rattle.t_known.specs.Parts.{with_type}
use Rattle.t_known.proofs.FilePlaces.{file_is, reg_got, got_below}
use Rattle.t_known.proofs.jumps.reg_at.Goals as goal

pub returns-in-Some-clause-there : goal.returns-in-Some-clause-there
returns-in-Some-clause-there c =
    let count = length c.args.types.now in
    subst (λ (o : Option (ℕ × ℕ)). IfSome o (λ (x : ℕ × ℕ). x.1 < count)) (sym c.nth.ensures)
    (got_below count c.in-Some.regs.now c.args.i c.in-Some.ensures.1)

pub returns-in-Some-clause-reg : goal.returns-in-Some-clause-reg
returns-in-Some-clause-reg c = λ f e.
    let ts = c.args.types.now in
    let xs = c.in-Some.regs.now in
    let same = file_is ts c.args.code xs f c.in-Some.ensures e in
    ap (option_map (with_type ts)) c.nth.ensures ∙ reg_got ts xs c.args.i ∙ ap (λ (x : TFile). reg_in x c.args.i) same

pub returns-in-None-clause-reg : goal.returns-in-None-clause-reg
returns-in-None-clause-reg c = λ f e. absurd (c.in-None.ensures 0 f e)
