use Rattle.std.proofs.Common.{ap, subst, ◌∙◌, length, arith}
use Rattle.t_intern.specs.Nodes.{type_at, PartsBelow}
use Rattle.t_intern.specs.Read.{node}
use Rattle.t_intern.specs.declared.shape.Shape.{Shape}
use Rattle.t_intern.proofs.Lists.{regs_below_more}
use Rattle.t_known.proofs.parts.code_parts.Goals as goal

pub returns-in-Code : goal.returns-in-Code
returns-in-Code c =
    let ts = c.args.types.now in
    let parts = subst (λ (s : Shape). PartsBelow c.args.n (node s)) c.in-Code.is c.in_ok-owes.ensures.parts in
    let there = c.requires in (
      c.in_ok-owes.ensures.is ∙ ap (λ (s : Shape). type_at ts (node s)) c.in-Code.is,
      regs_below_more c.args.n (length ts) (omega arith) c.in-Code.regs.items parts,
    )
