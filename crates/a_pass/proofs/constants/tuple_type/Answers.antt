use Rattle.std.proofs.Common.{◌∙◌, ap}
use Rattle.std.proofs.lemmas.List.{take_all}
use Rattle.a_terms.specs.Tree.{ATuple}
use Rattle.a_terms.specs.NodeTrees.{a_consts}
use Rattle.a_terms.specs.Read.{afields}
use Rattle.a_terms.specs.ReadLaws.{a_tuple}
use Rattle.a_terms.specs.Typing.{data_fields}
use Rattle.a_pass.proofs.Every.{fields_next}
use Rattle.a_pass.proofs.constants.tuple_type.Goals as goal

pub loop-field-init : goal.loop-field-init
loop-field-init c = ap afields c.in_ok-made.ensures.items

pub loop-field-preserved : goal.loop-field-preserved
loop-field-preserved c =
    fields_next c.args.fields.now c.loop-field.made.items _ c.loop-field.field-index c.field-item.result
    c.in_ok-one.one c.loop-field-test.true c.field-item.is c.in_ok-push.ensures.items c.in_ok-one.ensures
    c.loop-field.invariant

pub returns : goal.returns
returns c = a_tuple c.loop-field.made
    ∙ ap ATuple (c.loop-field.invariant
    ∙ ap (λ xs. data_fields (a_consts xs))
    (take_all c.loop-field.field-index c.args.fields.now c.loop-field-test.false))
