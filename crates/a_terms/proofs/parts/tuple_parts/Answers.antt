use Rattle.std.proofs.Common.{ap, ◌∙◌}
use Rattle.a_terms.specs.Read.{atree}
use Rattle.a_terms.specs.ReadLaws.{a_tuple}
use Rattle.a_terms.proofs.parts.tuple_parts.Goals as goal

pub returns-in-Tuple : goal.returns-in-Tuple
returns-in-Tuple c = ap atree c.in-Tuple.is ∙ a_tuple c.in-Tuple.fields
