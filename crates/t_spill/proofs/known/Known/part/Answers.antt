use Rattle.std.proofs.Common.{ℕ, Option, sym, subst}
use Rattle.t_spill.specs.Known.{MayShow}
use Rattle.t_spill.proofs.Knowing.{fits_now}
use Rattle.t_spill.proofs.known.Known.part.Goals as goal

pub shown-requires : goal.shown-requires
shown-requires c =
    let h = c.requires in
    let show = subst (λ (o : Option ℕ). MayShow h.0 o h.1) c.in-Some.is h.3 in
    fits_now h.0 c.args.self.now h.1 c.in-Some.r c.in-Some-get.entry.now h.2 show.0 show.1
    (sym c.in-Some-get.ensures.value)
