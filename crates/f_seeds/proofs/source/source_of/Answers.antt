use Rattle.std.proofs.Common.{◌++◌, ℕ, List, sym, ap, ◌∙◌}
use Rattle.std.specs.Prelude.{codes}
use Rattle.f_seeds.specs.Source.{item_at}
use Rattle.f_seeds.proofs.Joining.{only, one_more}
use Rattle.f_seeds.proofs.source.source_of.Goals as goal

pub loop-place-init : goal.loop-place-init
loop-place-init c =
    c.in_ok-write_place.ensures
    ∙ (ap (λ (s : List ℕ). s ++ item_at c.args.seed 0) c.new-text.ensures.items ∙ sym (only c.args.seed))

pub loop-place-preserved : goal.loop-place-preserved
loop-place-preserved c =
    c.in_ok-write_place-2.ensures ∙
    (ap (λ (s : List ℕ). s ++ item_at c.args.seed c.loop-place.place)
    (c.in_ok-extend_from_slice.ensures.items ∙ ap (λ (s : List ℕ). s ++ codes " + ") c.loop-place.invariant) ∙
    sym (one_more c.args.seed c.loop-place.place c.loop-place.auto.place))
