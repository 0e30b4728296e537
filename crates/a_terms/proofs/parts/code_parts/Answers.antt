use Rattle.std.proofs.Common.{ap, ◌∙◌}
use Rattle.a_terms.specs.Read.{atree}
use Rattle.a_terms.specs.ReadLaws.{a_code}
use Rattle.a_terms.proofs.parts.code_parts.Goals as goal

pub returns-in-Code : goal.returns-in-Code
returns-in-Code c = ap atree c.in-Code.is ∙ a_code c.in-Code.owes c.in-Code.args
