use Rattle.std.proofs.Common.{ℕ, List, ap, subst, ◌∙◌}
use Rattle.t_types.specs.declared.types.TType.{TType}
use Rattle.t_types.specs.Read.{file}
use Rattle.t_spill_rules.specs.Spill.{among, numbers, gathered, high_part}
use Rattle.t_spill.specs.Known.{Knows}
use Rattle.t_spill.proofs.block.start_of.Goals as goal

pub returns : goal.returns
returns c =
    let m = c.args.split.low in
    let known = λ (n : ℕ). subst (λ (xs : List (ℕ × TType)). Knows n c.in_ok-known.known
    (file xs)) c.deref.ensures.value (c.in_ok-known.ensures n) in
    let g = c.in_ok-homes.ensures in
    let high = ap file c.deref-2.ensures.value ∙ c.in_ok-high.ensures ∙ ap (high_part m) c.in_ok-copied.ensures in (
      known,
      c.in_ok-ahead.ensures,
      g.0,
      c.new-body.ensures.none,
      λ r. g.1 r ∙ ap (λ z. (gathered m (numbers z)).homes r) high,
      λ r. g.2 r ∙ ap (λ z. among r (numbers z)) high,
      c.new-body.ensures.text m,
    )
