use Rattle.std.proofs.Common.{ap, ◌∙◌, sym}
use Rattle.a_terms.specs.Read.{atrees}
use Rattle.a_terms.specs.ReadLaws.{is_code, is_tuple}
use Rattle.a_notation.specs.Closures.{names_type, names_types}
use Rattle.a_notation.proofs.closures.+naming.Goals as goal

pub names-returns-in_ok-named-in-Tuple : goal.names-returns-in_ok-named-in-Tuple
names-returns-in_ok-named-in-Tuple t c =
    c.in_ok-named-in-Tuple.ensures
    ∙ ap (names_type c.args.i) (sym (is_tuple _ _ _ c.in-Tuple.is c.deref.ensures.value))

pub names-returns-in_ok-named-in-Code : goal.names-returns-in_ok-named-in-Code
names-returns-in_ok-named-in-Code t c =
    c.in_ok-named-in-Code.ensures
    ∙ ap (λ j. names_types j (atrees c.deref-in-Code.result.now)) c.in_ok-inner-in-Code.ensures
    ∙ ap (names_type c.args.i) (sym (is_code _ _ _ _ c.in-Code.is c.deref-in-Code.ensures.value))
