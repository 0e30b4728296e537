use Rattle.std.proofs.Common.{◌∙◌, ◌+◌, ap, sym}
use Rattle.c_rules.specs.Know as W
use Rattle.calc_core.specs.Levels.{level_of}
use Rattle.c_emit.proofs.vars.outer_var.Goals as goal
use Rattle.calc_core.proofs.Lifts.{lift_add}

pub returns : goal.returns
returns c =
    let f = c.args.f.now in
    c.in_ok-at.ensures
    ∙ ap (λ n. f.owes + n) (c.above.ensures ∙ ap (λ l. W.above l f.kept.list.items) c.level_of.ensures)
    ∙ sym (lift_add f.owes (W.above (level_of f.depth c.args.j) f.kept.list.items))
