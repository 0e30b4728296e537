use Rattle.std.proofs.Common.{◌≡◌, ◌-◌, ℕ, ◌∙◌, ap, take, length, rules}
use Rattle.std.specs.Vec.{vec_len}
use Rattle.k_pass.proofs.Moves.{levels_inner}
use Rattle.k_pass.proofs.access.leave_type.Goals as goal

pub returns : goal.returns
returns c =
    let n : vec_len c.args.levels.now ≡ length c.args.levels.now.items = search rules in
    levels_inner c.args.levels.now.items c.pop.new.self.items
    (c.pop.ensures.rest ∙ ap (λ (k : ℕ). take (k - 1) c.args.levels.now.items) n)
