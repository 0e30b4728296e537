use Rattle.std.proofs.Common.{◌∙◌, ap, sym}
use Rattle.std.specs.Prelude.{◌||◌, ◌&&◌, not}
use Rattle.t_gen_rules.specs.Gen.{uses}
use Rattle.a_terms.specs.NodeTrees.{base}
use Rattle.a_terms.specs.declared.nodes.ABase.{ABase}
use Rattle.t_gen.specs.Uses.{has, mem}
use Rattle.t_gen.proofs.Sets.{or_none, uses_base}
use Rattle.t_gen.proofs.used.push_variable.Goals as goal

pub returns-in_ok-push_missing-in-Var : goal.returns-in_ok-push_missing-in-Var
returns-in_ok-push_missing-in-Var c = λ i.
    c.in_ok-push_missing-in-Var.ensures i
    ∙ ap (λ b. mem c.args.numbers.now.items i || (b && not (has c.args.used.now i)))
    (sym (ap (λ (x : ABase). uses (base x) i) c.in-Var.is)
    ∙ uses_base (base c.args.v.now.base) c.args.v.now.wraps.items i)

pub returns-in-Int : goal.returns-in-Int
returns-in-Int c = λ i.
    or_none (mem c.args.numbers.now.items i)
    ∙ ap (λ b. mem c.args.numbers.now.items i || (b && not (has c.args.used.now i)))
    (sym (ap (λ (x : ABase). uses (base x) i) c.in-Int.is)
    ∙ uses_base (base c.args.v.now.base) c.args.v.now.wraps.items i)

pub returns-in-Label : goal.returns-in-Label
returns-in-Label c = λ i.
    or_none (mem c.args.numbers.now.items i)
    ∙ ap (λ b. mem c.args.numbers.now.items i || (b && not (has c.args.used.now i)))
    (sym (ap (λ (x : ABase). uses (base x) i) c.in-Label.is)
    ∙ uses_base (base c.args.v.now.base) c.args.v.now.wraps.items i)

pub returns-in-Data : goal.returns-in-Data
returns-in-Data c = λ i.
    or_none (mem c.args.numbers.now.items i)
    ∙ ap (λ b. mem c.args.numbers.now.items i || (b && not (has c.args.used.now i)))
    (sym (ap (λ (x : ABase). uses (base x) i) c.in-Data.is)
    ∙ uses_base (base c.args.v.now.base) c.args.v.now.wraps.items i)
