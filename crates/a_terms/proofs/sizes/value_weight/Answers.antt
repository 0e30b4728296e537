use Rattle.std.proofs.Common.{◌∙◌}
use Rattle.a_terms.proofs.Weighed.{value_sum}
use Rattle.a_terms.proofs.sizes.value_weight.Goals as goal

pub returns : goal.returns
returns c = c.in_ok-n.ensures ∙ value_sum c.args.v.now _ c.deref.ensures.value
