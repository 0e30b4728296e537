use Rattle.std.proofs.Common.{ap₂, ◌∙◌, refl}
use Rattle.a_terms.specs.Tree as a
use Rattle.a_pass.specs.Scope.{value_at}
use Rattle.a_pass.proofs.parts.pack_leaf.Goals as goal

pub returns-clause-value : goal.returns-clause-value
returns-clause-value c = λ d. c.in_ok-value.ensures.value d
    ∙ ap₂ (λ h s. a.Pack h (value_at d c.args.leaf.value) s) c.in_ok-hidden.ensures c.in_ok-shape.ensures

pub returns-clause-ty : goal.returns-clause-ty
returns-clause-ty c = λ g. refl

pub returns-clause-constant : goal.returns-clause-constant
returns-clause-constant c = c.in_ok-constant.ensures
