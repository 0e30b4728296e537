use Rattle.std.proofs.Common.{◌≡◌, ℕ, subst}
use Rattle.t_machine.specs.Laid.{Adds}
use Rattle.t_machine.proofs.Laying.{one_added}
use Rattle.t_machine.proofs.places.Places.place.Goals as goal

pub returns-clause-only : goal.returns-clause-only
returns-clause-only c =
    subst (λ m. Adds m c.insert.new.self.entries (λ (r : ℕ). r ≡ c.args.register)) c.self.view_is
    (one_added c.self.inside.map.entries c.insert.new.self.entries c.args.register
    (λ q other. c.in_ok-insert.ensures.updates.2 q other))
