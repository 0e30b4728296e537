use Rattle.std.proofs.Common.{◌∙◌, ap, sym, Some}
use Rattle.c_terms.specs.C.{TCRef}
use Rattle.c_terms.specs.Read.{ctree}
use Rattle.a_terms.specs.Typing.{field_of}
use Rattle.a_laws.specs.Allocate.{atype}
use Rattle.calc_core.proofs.Trees.{tree_is_tuple}
use Rattle.a_pass.proofs.noting.lent_field.Goals as goal

pub returns-in-Tuple : goal.returns-in-Tuple
returns-in-Tuple c =
    c.field_among.ensures
    ∙ ap (λ t. field_of c.args.i (Some (atype t))) (sym (tree_is_tuple _ _ _ c.in-Tuple.is c.deref.ensures.value))

pub returns-in-Ref : goal.returns-in-Ref
returns-in-Ref c =
    c.cell_field.ensures ∙ ap (λ x. field_of c.args.i (Some (atype (TCRef (ctree x))))) c.deref-in-Ref.ensures
    ∙ ap (λ x. field_of c.args.i (Some (atype (ctree x)))) (sym c.in-Ref.is)
