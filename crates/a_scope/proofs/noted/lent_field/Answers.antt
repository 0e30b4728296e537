use Rattle.std.proofs.Common.{◌∙◌, ap, sym, Some}
use Rattle.a_terms.specs.Typing.{field_of}
use Rattle.a_terms.specs.ReadLaws.{is_tuple}
use Rattle.a_scope.proofs.noted.lent_field.Goals as goal

pub returns-in-Tuple : goal.returns-in-Tuple
returns-in-Tuple c =
    c.field_among.ensures
    ∙ ap (λ t. field_of c.args.i (Some t)) (sym (is_tuple _ _ _ c.in-Tuple.is c.deref.ensures.value))
