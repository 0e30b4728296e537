use Rattle.std.proofs.Common.{◌∙◌, ◌-◌, ◌≡◌, ap₂, sym, subst, List, ℕ, length, arith, Option, IfOk}
use Rattle.std.proofs.lemmas.List.{length-map}
use Rattle.t_types.specs.Read.{tree, types}
use Rattle.t_types.specs.Tree.{Ty, CodeTy}
use Rattle.t_intern.specs.Grown.{IsNumber}
use Rattle.t_intern.specs.Nodes.{at, regs_at}
use Rattle.t_known.specs.declared.parts.CodeParts.{CodeParts}
use Rattle.t_check.specs.Verdict.{IsInstantiated}
use Rattle.t_known.specs.Parts.{IsCode}
use Rattle.t_check.proofs.Applying.{with_file, no_code}
use Rattle.t_check.proofs.checker.Checker.apply_anew.Goals as goal

pub returns-clause-number : goal.returns-clause-number
returns-clause-number c =
    let ts = c.args.types.now in
    let us = c.instantiate.new.types in
    let args = c.args.args.now in
    let n = c.args.self.now.registers.names in
    let parts = c.in-Some.parts in
    let len : length (types args) ≡ length args = length-map args tree in
    let code = subst (λ (o : Option CodeParts). IsCode ts c.args.found o) c.in-Some.is c.in_ok-parts.ensures in
    let file = regs_at ts parts.regs.items in
    let made = subst
    (λ (xs : List (ℕ × ℕ)). IsInstantiated us n (types args) parts.owes (regs_at ts xs) c.in_ok-regs.regs.items)
    c.deref.ensures.value c.in_ok-regs.ensures.made in
    let enough = c.requires.enough parts.owes file code.0 in
    let left : parts.owes - length (types args) ≡ parts.owes - length args = omega (arith, len) in
    let same = with_file (types args) (at ts c.args.found) parts.owes file code.0 (omega (arith, len, enough))
    ∙ ap₂ CodeTy left (sym made.0.0) in
    subst (λ (t : Ty). IfOk c.intern.result (IsNumber c.intern.new.types t)) (sym same) c.intern.ensures.number

pub returns-in-None-clause-number : goal.returns-in-None-clause-number
returns-in-None-clause-number c =
    let none =
    subst (λ (o : Option CodeParts). IsCode c.args.types.now c.args.found o) c.in-None.is c.in_ok-parts.ensures in
    (c.requires.found, sym (no_code (types c.args.args.now) (at c.args.types.now c.args.found) none))
