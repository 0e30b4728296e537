use Rattle.std.proofs.Common.{◌≡◌, ap, sym, ◌∙◌, subst, Option, List, ℕ, length}
use Rattle.t_types.specs.Tree.{TFile, CodeTy}
use Rattle.t_intern.specs.Nodes.{regs_at, RegsBelow}
use Rattle.t_known.specs.Known.{known}
use Rattle.t_check.specs.Verdict.{IsFileFit}
use Rattle.t_known.specs.Parts.{IsCode}
use Rattle.t_known.specs.declared.parts.CodeParts.{CodeParts}
use Rattle.t_check.proofs.unfit.check_code.Goals as goal

pub unreachable-requires : goal.unreachable-requires
unreachable-requires c =
    let none =
    subst (λ (o : Option CodeParts). IsCode c.args.types.now c.args.code o) c.in-None.is c.in_ok-parts.ensures in
    none 0 c.requires.code.0 c.requires.code.1

pub check_file-requires-clause-regs : goal.check_file-requires-clause-regs
check_file-requires-clause-regs c =
    let ts = c.args.types.now in
    let code = subst (λ (o : Option CodeParts). IsCode ts c.args.code o) c.in-Some.is c.in_ok-parts.ensures in
    subst (λ (xs : List (ℕ × ℕ)). RegsBelow (length ts) xs) (sym c.deref.ensures.value) code.1

pub returns-clause-fit : goal.returns-clause-fit
returns-clause-fit c = λ f e.
    let ts = c.args.types.now in
    let k = c.args.registers.now in
    let p = c.in-Some.parts in
    let code = subst (λ (o : Option CodeParts). IsCode ts c.args.code o) c.in-Some.is c.in_ok-parts.ensures in
    let both : CodeTy p.owes (regs_at ts p.regs.items) ≡ CodeTy 0 f = sym code.0 ∙ e in
    let is : regs_at ts p.regs.items ≡ f = cc in
    subst (λ (x : TFile). IsFileFit c.check_file.new.types k.names (known ts k) c.args.span x c.check_file.result)
    (ap (regs_at ts) c.deref.ensures.value ∙ is) c.check_file.ensures.fit
