use Rattle.std.proofs.Common.{◌+◌, ◌∙◌, ap}
use Rattle.std.specs.Prelude.{true, ◌==◌, cond}
use Rattle.std.specs.Ordering.{nat_cmp, is_eq}
use Rattle.t_gen.specs.Uses.{has}
use Rattle.t_gen.proofs.Sets.{same_key, or_put}
use Rattle.t_gen.proofs.used.add.Goals as goal

pub returns : goal.returns
returns c = λ i.
    let o = c.args.used.now.offset in
    let n = c.args.n in
    c.in_ok-insert.ensures.updates.0 (i + o)
    ∙ ap (λ k. cond (is_eq (nat_cmp k (i + o))) true (has c.args.used.now i)) c.in_ok-key.ensures
    ∙ ap (λ b. cond b true (has c.args.used.now i)) (same_key n i o) ∙ or_put (n == i) (has c.args.used.now i)
