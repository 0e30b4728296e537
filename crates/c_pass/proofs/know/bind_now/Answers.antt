use Rattle.std.proofs.Common.{◌∙◌, ap, sym}
use Rattle.c_rules.specs.Know as W
use Rattle.k_terms.specs.Read.{ktree}
use Rattle.c_pass.specs.Read.{bounds}
use Rattle.c_pass.proofs.know.bind_now.Goals as goal
use Rattle.calc_core.proofs.Lifts.{lift_add}

pub returns : goal.returns
returns c =
    c.in_ok-bind.ensures ∙ ap (W.bind (bounds c.args.xs.now.items) c.args.level (ktree c.args.ty))
    (c.in_ok-depth.ensures ∙ sym (lift_add c.args.f.now.owes c.args.f.now.depth))
