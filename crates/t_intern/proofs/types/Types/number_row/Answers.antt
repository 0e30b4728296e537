use Rattle.std.proofs.Common.{ap, sym, subst, ◌∙◌, List, ℕ, Bool, length, IfOk}
use Rattle.t_types.specs.Tree.{Ty, TupleTy}
use Rattle.t_intern.specs.Applied.{row, unfilled}
use Rattle.t_intern.specs.Grown.{IsNumber}
use Rattle.t_intern.specs.Nodes.{fields_at, FieldsBelow}
use Rattle.t_intern.proofs.Rows.{row_at, row_below}
use Rattle.t_intern.proofs.types.Types.number_row.Goals as goal

pub interned-requires : goal.interned-requires
interned-requires c =
    let us = c.number_all.new.self in
    let ns = c.in_ok-numbers.numbers.items in
    let is = c.in_ok-fields.ensures ∙ ap unfilled c.deref.ensures.value in
    subst (λ (ys : List (ℕ × Bool)). FieldsBelow (length us) ys) (sym is)
    (row_below (length us) ns c.in_ok-numbers.ensures.numbers.1)

pub returns-clause-number : goal.returns-clause-number
returns-clause-number c =
    let us = c.number_all.new.self in
    let ns = c.in_ok-numbers.numbers.items in
    let is = c.in_ok-fields.ensures ∙ ap unfilled c.deref.ensures.value in
    let same = ap (λ (ys : List (ℕ × Bool)). TupleTy (fields_at us ys)) is ∙ ap TupleTy (row_at us ns)
    ∙ ap (λ (ts : List Ty). TupleTy (row ts)) c.in_ok-numbers.ensures.numbers.0 in
    subst (λ (t : Ty). IfOk c.interned.result (IsNumber c.interned.new.self t)) same c.interned.ensures.number
