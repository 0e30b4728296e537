use Rattle.std.proofs.Common.{◌∙◌, ap, suc}
use Rattle.t_gen.proofs.InUse.{above_is}
use Rattle.t_gen.proofs.choosing.above.Goals as goal

pub returns : goal.returns
returns c = λ m u k. c.in_ok-next.ensures
    ∙ ap suc (above_is c.args.least c.top.result c.max-top.result m u (c.top.ensures _ k.holds) c.max-top.ensures)
