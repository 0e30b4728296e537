use Rattle.std.proofs.Common.{◌≡◌, length, sym, ap, arith, rules}
use Rattle.std.specs.Vec.Iter.{into_iter_items}
use Rattle.a_pass.specs.Emits.{inits}
use Rattle.a_pass.proofs.Emitting.{emits_none, emits_same, fill_step}
use Rattle.a_pass.proofs.emit.fill.Goals as goal
use Rattle.std.proofs.lemmas.List.{nil_from_length as nothing}

pub loop-value-preserved : goal.loop-value-preserved
loop-value-preserved c =
    record {
      level = omega (arith, ap length c.in-Some.ensures.steps.0, c.in_ok-depth.ensures);
      emits = λ end h. c.loop-value.invariant.emits end
          (fill_step _ _ end _ _ _ _ _ _ _ c.in-Some.ensures.steps.0 c.in_ok-depth.ensures c.in_ok-field.ensures
          c.in_ok-init.ensures h);
    }

pub returns-clause-emits : goal.returns-clause-emits
returns-clause-emits c =
    let zero : length (into_iter_items c.loop-value.value-iterator) ≡ 0 = search rules in
    c.loop-value.invariant.emits _
    (emits_same _ _ _ _ (λ r. ap (λ xs. inits c.loop-value.newest c.loop-value.field xs r) (sym (nothing _ zero)))
    (emits_none _))
