use Rattle.std.proofs.Common.{ap, ◌∙◌}
use Rattle.t_terms.specs.ReadProgram.{program as tree}
use Rattle.w_terms.specs.Tree.{WProg}
use Rattle.w_terms.specs.Read.{program as word_program}
use Rattle.w_gen.proofs.Building.{is_built, is_code, not_large, plan_order}
use Rattle.w_gen.proofs.programs.program.Goals as goal

pub generate-requires-clause-few : goal.generate-requires-clause-few
generate-requires-clause-few c = c.in_ok-plan.ensures.plan.few

pub generate-requires-clause-order : goal.generate-requires-clause-order
generate-requires-clause-order c =
    plan_order (tree c.args.program.now) c.args.base c.args.heap c.in_ok-plan.plan c.in_ok-plan.ensures.plan

pub returns-clause-built : goal.returns-clause-built
returns-clause-built c =
    (is_built (tree c.args.program.now) c.args.base c.args.heap c.requires.whole c.requires.aligned c.requires.pages
    c.requires.some c.in_ok-plan.plan c.in_ok-plan.ensures.plan (word_program c.in_ok-code.code) c.in_ok-code.ensures).0

pub returns-clause-count : goal.returns-clause-count
returns-clause-count c =
    is_built (tree c.args.program.now) c.args.base c.args.heap c.requires.whole c.requires.aligned c.requires.pages
    c.requires.some c.in_ok-plan.plan c.in_ok-plan.ensures.plan (word_program c.in_ok-code.code) c.in_ok-code.ensures

pub returns-clause-code : goal.returns-clause-code
returns-clause-code c =
    is_code (tree c.args.program.now) c.args.base c.args.heap c.requires.whole c.requires.aligned c.requires.pages
    c.requires.some c.in_ok-plan.plan c.in_ok-plan.ensures.plan (word_program c.in_ok-code.code) c.in_ok-code.ensures

pub returns-clause-begins : goal.returns-clause-begins
returns-clause-begins c =
    ap (λ (w : WProg). w.base) c.in_ok-code.ensures ∙ c.in_ok-plan.ensures.plan.begins

pub returns-clause-fits : goal.returns-clause-fits
returns-clause-fits c =
    not_large (tree c.args.program.now) c.args.base c.args.heap c.in_ok-plan.plan c.in_ok-plan.ensures.plan
