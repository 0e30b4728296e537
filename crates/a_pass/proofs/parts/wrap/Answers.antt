use Rattle.std.proofs.Common.{ap, ◌∙◌}
use Rattle.a_pass.specs.Scope.{base_at}
use Rattle.a_terms.specs.NodeTrees.{base, wrapped}
use Rattle.a_pass.proofs.parts.wrap.Goals as goal
use Rattle.a_terms.proofs.Lists.{wrapped_snoc as wrapped_push}

pub returns-clause-value : goal.returns-clause-value
returns-clause-value c = λ d. ap (wrapped (base_at d c.args.value.base)) c.in_ok-push.ensures.items
    ∙ wrapped_push (base_at d c.args.value.base) c.args.value.wraps.items c.args.outside

pub returns-clause-whole : goal.returns-clause-whole
returns-clause-whole c = ap (wrapped (base c.args.value.base)) c.in_ok-push.ensures.items
    ∙ wrapped_push (base c.args.value.base) c.args.value.wraps.items c.args.outside
