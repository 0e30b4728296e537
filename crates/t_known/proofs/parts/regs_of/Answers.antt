use Rattle.std.proofs.Common.{List, ℕ, ap, sym, subst, ◌∙◌, length, arith}
use Rattle.t_intern.specs.Nodes.{type_at, PartsBelow}
use Rattle.t_intern.specs.Read.{node}
use Rattle.t_intern.specs.declared.shape.Shape.{Shape}
use Rattle.t_intern.proofs.Lists.{regs_below_more}
use Rattle.t_known.specs.Parts.{IsRegsOf}
use Rattle.t_known.proofs.parts.regs_of.Goals as goal

pub returns-in-Code : goal.returns-in-Code
returns-in-Code c =
    let ts = c.args.types.now in
    let n = c.args.n in
    let regs = c.in-Code.regs.items in
    let there = c.requires in
    let code = c.shape.ensures.is ∙ ap (λ (s : Shape). type_at ts (node s)) c.in-Code.is in
    let parts = subst (λ (s : Shape). PartsBelow n (node s)) c.in-Code.is c.shape.ensures.parts in
    subst (λ (xs : List (ℕ × ℕ)). IsRegsOf ts n xs) (sym c.deref.ensures.value)
    ((c.in-Code.owes, code), regs_below_more n (length ts) (omega arith) regs parts)
