use Rattle.std.proofs.Common.{List, ℕ, Bool, ap, sym, subst, ◌∙◌, length, IfOk}
use Rattle.t_types.specs.Tree.{Ty, TupleTy}
use Rattle.t_intern.specs.Grown.{IsNumber}
use Rattle.t_intern.specs.Nodes.{fields_at, FieldsBelow}
use Rattle.t_known.proofs.Numbering.{all_at, all_below}
use Rattle.t_known.proofs.labels.tuple_of.Goals as goal

pub intern-requires : goal.intern-requires
intern-requires c =
    subst (λ (xs : List (ℕ × Bool)). FieldsBelow (length c.args.types.now) xs) (sym c.in_ok-fields.ensures)
    (all_below (length c.args.types.now) c.args.flag c.args.numbers.now c.requires)

pub returns-clause-number : goal.returns-clause-number
returns-clause-number c =
    let ts = c.args.types.now in
    subst (λ (t : Ty). IfOk c.intern.result (IsNumber c.intern.new.types t))
    (ap (λ (xs : List (ℕ × Bool)). TupleTy (fields_at ts xs)) c.in_ok-fields.ensures
    ∙ ap TupleTy (all_at ts c.args.flag c.args.numbers.now)) c.intern.ensures.number
