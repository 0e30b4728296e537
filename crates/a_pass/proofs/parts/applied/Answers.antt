use Rattle.std.proofs.Common.{◌∙◌, ap}
use Rattle.a_terms.specs.Typing.{or_int}
use Rattle.a_pass.proofs.parts.applied.Goals as goal

pub returns : goal.returns
returns c = c.known.ensures ∙ ap or_int c.in_ok-made.ensures
