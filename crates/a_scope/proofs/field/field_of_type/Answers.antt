use Rattle.std.proofs.Common.{◌∙◌, Some}
use Rattle.a_terms.specs.Typing.{field_of}
use Rattle.a_terms.specs.TypeLaws.{shift_none}
use Rattle.a_terms.specs.Read.{atree}
use Rattle.a_scope.proofs.field.field_of_type.Goals as goal

pub returns : goal.returns
returns c = c.in_ok-made.ensures ∙ shift_none (field_of c.args.i (Some (atree c.args.t)))
