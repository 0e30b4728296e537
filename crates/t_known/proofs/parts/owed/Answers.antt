use Rattle.std.proofs.Common.{ap, ◌∙◌}
use Rattle.t_intern.specs.Nodes.{type_at, regs_at}
use Rattle.t_intern.specs.Read.{node}
use Rattle.t_intern.specs.declared.shape.Shape.{Shape}
use Rattle.t_known.proofs.parts.owed.Goals as goal

pub returns-in-Code : goal.returns-in-Code
returns-in-Code c =
    let ts = c.args.types.now in
    (regs_at ts c.in-Code.regs.items, c.shape.ensures.is ∙ ap (λ (s : Shape). type_at ts (node s)) c.in-Code.is)
