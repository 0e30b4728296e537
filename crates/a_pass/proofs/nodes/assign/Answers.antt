use Rattle.std.proofs.Common.{◌∙◌, refl}
use Rattle.a_pass.proofs.Emitting.{emits_init}
use Rattle.a_pass.proofs.nodes.assign.Goals as goal

pub returns-clause-emits : goal.returns-clause-emits
returns-clause-emits c = λ v w h. emits_init _ _ _ v w c.in_ok-push.ensures.items refl (c.in_ok-values.ensures ∙ h)
