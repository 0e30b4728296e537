use Rattle.std.proofs.Common.{◌≡◌, length, rules}
use Rattle.std.specs.Vec.Iter.{into_iter_items}
use Rattle.a_pass.specs.Scope.{type_in, type_of}
use Rattle.a_pass.proofs.Runs.{mapped_step, mapped_end}
use Rattle.a_pass.proofs.scope.kinds_of.Goals as goal
use Rattle.std.proofs.lemmas.List.{nil_from_length as nothing}

pub loop-ty-preserved : goal.loop-ty-preserved
loop-ty-preserved c = λ g.
    mapped_step (type_of g) (type_in g) c.loop-ty.made.items _ c.kind_of.result _ _ c.in-Some.ty _
    c.in-Some.ensures.steps.0 c.in_ok-push.ensures.items (c.kind_of.ensures g) (c.loop-ty.invariant g)

pub returns : goal.returns
returns c = λ g.
    let zero : length (into_iter_items c.loop-ty.ty-iterator) ≡ 0 = search rules in
    mapped_end (type_of g) (type_in g) c.loop-ty.made.items _ _ (nothing _ zero) (c.loop-ty.invariant g)
