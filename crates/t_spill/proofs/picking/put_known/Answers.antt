use Rattle.t_types.specs.Fits.{lookup}
use Rattle.t_spill.proofs.Picked.{put_shown}
use Rattle.t_spill.proofs.picking.put_known.Goals as goal

pub part-requires : goal.part-requires
part-requires c = let h = c.requires in (h.0, h.1, h.2, (h.3, h.4))

pub returns : goal.returns
returns c = λ n x rest k.
    put_shown c.args.made.now.items c.append.new.self.items c.in_ok-shown.shown.regs.items c.args.r
    (lookup x c.args.r) rest
    c.in_ok-append.ensures.items (c.in_ok-shown.ensures n x k)
