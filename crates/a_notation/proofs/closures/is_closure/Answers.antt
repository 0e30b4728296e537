use Rattle.std.proofs.Common.{ap, ◌∙◌, sym}
use Rattle.a_terms.specs.ReadLaws.{is_tuple}
use Rattle.a_notation.specs.Closures.{is_of_closure}
use Rattle.a_notation.proofs.closures.is_closure.Goals as goal

pub returns-in_ok-closure-in-Tuple : goal.returns-in_ok-closure-in-Tuple
returns-in_ok-closure-in-Tuple c =
    c.in_ok-closure-in-Tuple.ensures ∙ ap is_of_closure (sym (is_tuple _ _ _ c.in-Tuple.is c.deref.ensures.value))
