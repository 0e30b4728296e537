use Rattle.std.proofs.Common.{ap, ◌∙◌}
use Rattle.a_terms.specs.Tree as a
use Rattle.a_terms.specs.Typing.{aapply, or_int}
use Rattle.a_terms.specs.Read.{atrees}
use Rattle.a_pass.specs.Scope.{of_apply, scope, type_in, value_at}
use Rattle.a_pass.proofs.parts.apply_leaf.Goals as goal

pub returns-clause-value : goal.returns-clause-value
returns-clause-value c = λ d. c.in_ok-value.ensures.value d ∙ ap (a.Apply (value_at d c.args.leaf.value))
    c.in_ok-args.ensures

pub returns-clause-ty : goal.returns-clause-ty
returns-clause-ty c =
    let g = scope c.args.around.now.binders c.args.around.now.names.now in
    c.in_ok-ty.ensures ∙ ap (λ y. or_int (aapply (type_in g c.args.leaf.seen) y)) (ap atrees c.deref.ensures.value ∙
    c.in_ok-args.ensures)

pub returns-clause-constant : goal.returns-clause-constant
returns-clause-constant c = λ ls. c.in_ok-constant.ensures ls ∙ ap (λ ts. of_apply ts (value_at 0 c.args.leaf.value))
    (ap atrees c.deref-2.ensures.value ∙ c.in_ok-args.ensures)
