use Rattle.std.proofs.Common.{◌∙◌, ap, sym}
use Rattle.t_gen_rules.specs.Gen.{uses}
use Rattle.a_terms.specs.NodeTrees.{base}
use Rattle.a_terms.specs.declared.nodes.ABase.{ABase}
use Rattle.t_gen.proofs.Sets.{uses_base}
use Rattle.t_gen.proofs.choosing.variable_of.Goals as goal

pub returns-in-Var : goal.returns-in-Var
returns-in-Var c = λ i. sym (ap (λ (x : ABase). uses (base x) i) c.in-Var.is)
    ∙ uses_base (base c.args.v.now.base) c.args.v.now.wraps.items i

pub returns-in-Int : goal.returns-in-Int
returns-in-Int c = λ i. sym (ap (λ (x : ABase). uses (base x) i) c.in-Int.is)
    ∙ uses_base (base c.args.v.now.base) c.args.v.now.wraps.items i

pub returns-in-Label : goal.returns-in-Label
returns-in-Label c = λ i. sym (ap (λ (x : ABase). uses (base x) i) c.in-Label.is)
    ∙ uses_base (base c.args.v.now.base) c.args.v.now.wraps.items i

pub returns-in-Data : goal.returns-in-Data
returns-in-Data c = λ i. sym (ap (λ (x : ABase). uses (base x) i) c.in-Data.is)
    ∙ uses_base (base c.args.v.now.base) c.args.v.now.wraps.items i
