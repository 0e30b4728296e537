use Rattle.std.proofs.Common.{◌∙◌, ap, sym}
use Rattle.a_laws.specs.Allocate.{level_of, var_of}
use Rattle.a_pass.proofs.scope.variable.Goals as goal

pub returns-in-Some : goal.returns-in-Some
returns-in-Some c = λ d. c.plain.ensures.value d ∙ sym (ap (λ o. var_of d (level_of o)) c.in-Some.ensures.known)

pub returns-in-None : goal.returns-in-None
returns-in-None c = λ d. c.plain-in-None.ensures.value d ∙ sym (ap (λ o. var_of d (level_of o)) c.in-None.ensures.known)
