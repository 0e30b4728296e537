use Rattle.std.proofs.Common.{◌≡◌, ◌∙◌, length, sym, ap₂, rules}
use Rattle.std.specs.Vec.Iter.{into_iter_items}
use Rattle.a_terms.specs.Tree as a
use Rattle.a_pass.specs.Scope.{field_at, knowns, scope}
use Rattle.a_pass.proofs.Every.{a_const, consts_map}
use Rattle.a_pass.proofs.Runs.{mapped_step, mapped_end}
use Rattle.a_pass.proofs.constants.constant_fields.Goals as goal
use Rattle.std.proofs.lemmas.List.{nil_from_length as nothing}

pub loop-field-preserved : goal.loop-field-preserved
loop-field-preserved c =
    mapped_step a_const (field_at (scope c.args.binders c.args.names.now) (knowns c.args.names.now))
    c.loop-field.made.items _ c.in_ok-one.one _ _ c.in-Some.field _ c.in-Some.ensures.steps.0
    c.in_ok-push.ensures.items
    (ap₂ (λ x y. (let q : a.AConst = record { value = x; kind = y } in q)) c.in_ok-one.ensures.value
    c.in_ok-one.ensures.kind) c.loop-field.invariant

pub returns : goal.returns
returns c =
    let zero : length (into_iter_items c.loop-field.field-iterator) ≡ 0 = search rules in
    sym (consts_map c.loop-field.made.items)
    ∙ mapped_end a_const (field_at (scope c.args.binders c.args.names.now) (knowns c.args.names.now))
    c.loop-field.made.items _ _ (nothing _ zero) c.loop-field.invariant
