use Rattle.std.proofs.Common.{◌∙◌, ap}
use Rattle.a_terms.specs.NodeTrees.{base, wrapped}
use Rattle.a_pass.proofs.constants.copied.Goals as goal

pub returns : goal.returns
returns c = c.in_ok-wraps.ensures (base c.args.value.now.base)
    ∙ ap (wrapped (base c.args.value.now.base)) c.deref.ensures.value
