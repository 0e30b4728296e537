use Rattle.std.proofs.Common.{◌∙◌, ap}
use Rattle.std.specs.Prelude.{◌||◌}
use Rattle.std.proofs.lemmas.List.{take_all}
use Rattle.t_gen.specs.Uses.{has, mem}
use Rattle.t_gen.proofs.Sets.{or_none, add_next, listed_mem}
use Rattle.t_gen.proofs.used.add_all.Goals as goal

pub loop-i-init : goal.loop-i-init
loop-i-init c = λ q. or_none (has c.args.used.now q)

pub loop-i-preserved : goal.loop-i-preserved
loop-i-preserved c =
    λ q. add_next c.args.numbers.now c.loop-i.i 0 q (has c.args.used.now q) _ _ c.loop-i-test.true
    (c.in_ok-add.ensures q) (c.loop-i.invariant q)

pub returns : goal.returns
returns c = λ u h q.
    c.loop-i.invariant q
    ∙ ap (λ xs. has c.args.used.now q || mem xs q) (take_all c.loop-i.i c.args.numbers.now c.loop-i-test.false)
    ∙ ap (λ b. has c.args.used.now q || b) (listed_mem c.args.numbers.now u q h)
