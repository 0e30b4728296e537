use Rattle.std.proofs.Common.{◌∙◌, ap}
use Rattle.std.specs.Prelude.{◌||◌}
use Rattle.std.proofs.lemmas.List.{take_all}
use Rattle.t_gen_rules.specs.Gen.{uses_any}
use Rattle.a_terms.specs.NodeTrees.{a_values}
use Rattle.t_gen.specs.Uses.{has}
use Rattle.t_gen.proofs.Sets.{or_none, note_next}
use Rattle.t_gen.proofs.used.note_all.Goals as goal

pub loop-v-init : goal.loop-v-init
loop-v-init c = λ i. or_none (has c.args.used.now i)

pub loop-v-preserved : goal.loop-v-preserved
loop-v-preserved c =
    λ i. note_next c.args.values.now c.loop-v.v-index c.v-item.result i (has c.args.used.now i) _ _ c.loop-v-test.true
    c.v-item.is (c.in_ok-note.ensures i) (c.loop-v.invariant i)

pub returns : goal.returns
returns c = λ i. c.loop-v.invariant i
    ∙ ap (λ xs. has c.args.used.now i || uses_any (a_values xs) i)
    (take_all c.loop-v.v-index c.args.values.now c.loop-v-test.false)
