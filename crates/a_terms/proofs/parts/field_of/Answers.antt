use Rattle.std.proofs.Common.{◌∙◌, ap, sym, Some}
use Rattle.a_terms.specs.Tree.{ashift}
use Rattle.a_terms.specs.Typing.{field_of}
use Rattle.a_terms.specs.ReadLaws.{is_tuple}
use Rattle.a_terms.proofs.parts.field_of.Goals as goal

pub returns-in_ok-made-in-Tuple : goal.returns-in_ok-made-in-Tuple
returns-in_ok-made-in-Tuple c =
    c.in_ok-made-in-Tuple.ensures
    ∙ ap (λ t. ashift c.args.by 0 (field_of c.args.i (Some t)))
    (sym (is_tuple _ _ _ c.in-Tuple.is c.deref.ensures.value))
