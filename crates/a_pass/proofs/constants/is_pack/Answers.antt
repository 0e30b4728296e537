use Rattle.std.proofs.Common.{◌∙◌, ap}
use Rattle.a_terms.specs.NodeTrees.{base, wrapped}
use Rattle.a_laws.specs.Allocate.{is_pack}
use Rattle.a_pass.proofs.Every.{no_pack}
use Rattle.a_pass.proofs.constants.is_pack.Goals as goal

pub returns : goal.returns
returns c = c.some_pack.ensures (base c.args.value.now.base) (no_pack c.args.value.now.base)
    ∙ ap (λ ws. is_pack (wrapped (base c.args.value.now.base) ws)) c.deref.ensures.value
