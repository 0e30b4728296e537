use Rattle.std.proofs.Common.{◌∙◌, ap, sym}
use Rattle.std.specs.Prelude.{◌||◌}
use Rattle.t_gen.specs.Uses.{has, mem}
use Rattle.t_gen.proofs.Sets.{mem_push, there_none, missing_one}
use Rattle.t_gen.proofs.used.push_missing.Goals as goal

pub returns-then-there : goal.returns-then-there
returns-then-there c =
    λ i. there_none (has c.args.used.now) c.args.n i (mem c.args.numbers.now.items i)
    (sym c.in_ok-there.ensures ∙ c.if-there.true)

pub returns : goal.returns
returns c = λ i.
    ap (λ xs. mem xs i) c.in_ok-push.ensures.items ∙ mem_push c.args.numbers.now.items c.args.n i
    ∙ ap (λ b. mem c.args.numbers.now.items i || b)
    (missing_one (has c.args.used.now) c.args.n i (sym c.in_ok-there.ensures ∙ c.if-there.false))
