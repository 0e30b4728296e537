use Rattle.t_intern.proofs.Growing.{grown_next, numbers_next, numbers_all}
use Rattle.t_known.specs.Labels.{field_type}
use Rattle.t_known.proofs.labels.number_fields.Goals as goal

pub loop-field-preserved : goal.loop-field-preserved
loop-field-preserved c =
    let l = c.loop-field in
    let x = c.field-item.result in
    record {
      grown = grown_next _ _ _ l.invariant.grown c.in_ok-n.ensures.grown;
      made = numbers_next field_type l.types c.number.new.self c.args.fields.now l.field-index x l.made.items
          c.push.new.self.items c.in_ok-n.n c.loop-field-test.true c.field-item.is l.invariant.made
          c.in_ok-n.ensures.grown c.in_ok-n.ensures.number c.in_ok-push.ensures.items;
    }

pub returns-clause-numbers : goal.returns-clause-numbers
returns-clause-numbers c =
    numbers_all field_type c.loop-field.types c.args.fields.now c.loop-field.field-index c.loop-field.made.items
    c.loop-field-test.false c.loop-field.invariant.made
