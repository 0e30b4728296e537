use Rattle.std.proofs.Common.{◌≡◌, ◌∙◌, sym, subst, ap, Option, List, ℕ, length}
use Rattle.std.proofs.lemmas.Result.{IfOk-weaker}
use Rattle.t_types.specs.Read.{file}
use Rattle.t_intern.specs.Nodes.{regs_at, RegsBelow}
use Rattle.t_known.specs.declared.parts.CodeParts.{CodeParts}
use Rattle.t_known.specs.Parts.{IsCode}
use Rattle.t_check.proofs.program.header.Goals as goal

pub unreachable-requires : goal.unreachable-requires
unreachable-requires c =
    let b = c.args.block.now in
    let none =
    subst (λ (o : Option CodeParts). IsCode c.args.types.now c.args.code o) c.in-None.is c.in_ok-parts.ensures in
    none b.owes (file b.regs.regs.items) c.requires.code.1

pub returns : goal.returns
returns c =
    let ts = c.args.types.now in
    let b = c.args.block.now in
    let parts = c.in-Some.parts in
    let code = subst (λ (o : Option CodeParts). IsCode ts c.args.code o) c.in-Some.is c.in_ok-parts.ensures in
    let both = sym code.0 ∙ c.requires.code.1 in
    let same : regs_at ts parts.regs.items ≡ file b.regs.regs.items = cc in
    IfOk-weaker c.of_block.result _ _
    (λ k h. h ts (file b.regs.regs.items)
    (subst (λ (xs : List (ℕ × ℕ)). RegsBelow (length ts) xs) (sym c.deref.ensures.value) code.1)
    (ap (λ (xs : List (ℕ × ℕ)). regs_at ts xs) c.deref.ensures.value ∙ same) c.requires.file)
    c.of_block.ensures
