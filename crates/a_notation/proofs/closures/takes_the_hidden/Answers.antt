use Rattle.std.proofs.Common.{ap, ◌∙◌, sym}
use Rattle.a_terms.specs.ReadLaws.{is_code}
use Rattle.a_notation.specs.Closures.{takes_hidden}
use Rattle.a_notation.proofs.closures.takes_the_hidden.Goals as goal

pub returns-in_ok-taken-in-Code : goal.returns-in_ok-taken-in-Code
returns-in_ok-taken-in-Code c =
    c.in_ok-taken-in-Code.ensures ∙ ap takes_hidden (sym (is_code _ _ _ _ c.in-Code.is c.deref.ensures.value))
