use Rattle.std.proofs.Common.{◌∙◌, ◌++◌, ap, sym}
use Rattle.c_rules.specs.Know as W
use Rattle.c_pass.proofs.Bounding.{at_in, at_out}
use Rattle.c_pass.proofs.bounds.levels_at.Goals as goal
use Rattle.std.proofs.lemmas.List.{append-nil as append_nil}

pub returns-in_ok-type_levels : goal.returns-in_ok-type_levels
returns-in_ok-type_levels c =
    c.in_ok-type_levels.ensures
    ∙ ap (λ x. c.args.out.now.items ++ W.type_levels x.depth 0 x.type)
    (sym (at_in c.args.xs.now c.args.l c.index-xs-l.result c.if-l-xs.true c.index-xs-l.is))

pub returns-else-l-xs : goal.returns-else-l-xs
returns-else-l-xs c =
    sym (ap (λ x. c.args.out.now.items ++ W.type_levels x.depth 0 x.type)
    (at_out c.args.xs.now c.args.l c.if-l-xs.false) ∙ append_nil c.args.out.now.items)
