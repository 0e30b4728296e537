use Rattle.std.proofs.Common.{sym, ap, ◌∙◌, cond}
use Rattle.std.proofs.lemmas.Result.{on_ok_weaker}
use Rattle.t_types.specs.Fits.{lookup}
use Rattle.t_spill_code.specs.Onto.{front}
use Rattle.t_spill.specs.Picking.{picked_one}
use Rattle.t_spill.proofs.picking.pick.Goals as goal

pub returns-then-is_wanted : goal.returns-then-is_wanted
returns-then-is_wanted c =
    on_ok_weaker c.put_known.result
    (λ h n x rest k.
    h n x rest k
    ∙ ap (λ b. front c.args.made.now.items (cond b (picked_one c.args.r (lookup x c.args.r) rest) rest))
    (sym c.if-is_wanted.true))
    c.put_known.ensures
