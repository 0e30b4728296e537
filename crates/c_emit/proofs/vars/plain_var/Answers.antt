use Rattle.std.proofs.Common.{◌∙◌, ◌+◌, ap}
use Rattle.c_rules.specs.Know as W
use Rattle.calc_core.specs.Levels.{level_of}
use Rattle.c_emit.proofs.Places.{under_in, under_out}
use Rattle.c_emit.proofs.vars.plain_var.Goals as goal

pub returns-then-i-f : goal.returns-then-i-f
returns-then-i-f c =
    under_in c.args.f.now.owes (λ j. W.above (level_of c.args.f.now.depth j) c.args.f.now.kept.list.items) c.args.i
    c.if-i-f.true

pub returns-in_ok-at : goal.returns-in_ok-at
returns-in_ok-at c =
    let f = c.args.f.now in
    c.in_ok-at.ensures
    ∙ ap (λ n. f.owes + n) (c.above.ensures ∙ ap (λ l. W.above l f.kept.list.items) c.level_of.ensures)
    ∙ under_out f.owes (λ j. W.above (level_of f.depth j) f.kept.list.items) c.args.i c.if-i-f.false
