use Rattle.std.proofs.Common.{◌≡◌, length, rules}
use Rattle.std.specs.Vec.Iter.{into_iter_items}
use Rattle.a_terms.specs.NodeTrees.{a_value}
use Rattle.a_pass.specs.Scope.{value_at}
use Rattle.a_pass.proofs.Runs.{mapped_step, mapped_end}
use Rattle.a_pass.proofs.emit.under_all.Goals as goal
use Rattle.std.proofs.lemmas.List.{nil_from_length as nothing}

pub loop-value-preserved : goal.loop-value-preserved
loop-value-preserved c =
    mapped_step a_value (value_at c.args.depth) c.loop-value.made.items _ c.under.result _ _ c.in-Some.value _
    c.in-Some.ensures.steps.0 c.in_ok-push.ensures.items c.under.ensures c.loop-value.invariant

pub returns : goal.returns
returns c =
    let zero : length (into_iter_items c.loop-value.value-iterator) ≡ 0 = search rules in
    mapped_end a_value (value_at c.args.depth) c.loop-value.made.items _ _ (nothing _ zero) c.loop-value.invariant
