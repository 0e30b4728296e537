use Rattle.std.proofs.Common.{◌∙◌, ap}
use Rattle.std.specs.Prelude.{◌||◌, ◌&&◌, not}
use Rattle.std.proofs.lemmas.List.{take_all}
use Rattle.t_gen.specs.Uses.{has, mem}
use Rattle.t_gen.proofs.Sets.{or_none, missing_more}
use Rattle.t_gen.proofs.used.missing_of.Goals as goal

pub loop-i-init : goal.loop-i-init
loop-i-init c = λ q. or_none (mem c.args.numbers.now.items q)

pub loop-i-preserved : goal.loop-i-preserved
loop-i-preserved c =
    λ q. missing_more c.args.some.now c.loop-i.i 0 q (not (has c.args.used.now q)) (mem c.args.numbers.now.items q) _ _
    c.loop-i-test.true (c.in_ok-push_missing.ensures q) (c.loop-i.invariant q)

pub returns : goal.returns
returns c = λ q. c.loop-i.invariant q
    ∙ ap (λ xs. mem c.args.numbers.now.items q || (mem xs q && not (has c.args.used.now q)))
    (take_all c.loop-i.i c.args.some.now c.loop-i-test.false)
