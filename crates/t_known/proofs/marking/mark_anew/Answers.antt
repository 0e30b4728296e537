use Rattle.std.proofs.Common.{ap, sym, subst, ◌∙◌, List, ℕ, Bool, length, IfOk, arith}
use Rattle.t_types.specs.Tree.{Ty, TupleTy}
use Rattle.t_intern.specs.Grown.{IsNumber}
use Rattle.t_intern.specs.Marks.{has, marked}
use Rattle.t_intern.specs.Nodes.{at, fields_at, FieldsBelow}
use Rattle.t_intern.proofs.Lists.{fields_below_more}
use Rattle.t_known.proofs.Sets.{marked_at, marked_below, marked_other}
use Rattle.t_known.proofs.marking.mark_anew.Goals as goal

pub intern-requires : goal.intern-requires
intern-requires c =
    let ts = c.args.types.now in
    let xs = c.in-Some.fields.now in
    let set = has (at ts c.args.set) in
    let there = c.requires.there in
    subst (λ (ys : List (ℕ × Bool)). FieldsBelow (length ts) ys) (sym c.in_ok-fields-in-Some.ensures)
    (marked_below (length ts) set 1 xs
    (fields_below_more c.args.n (length ts) (omega arith) xs c.in-Some.ensures.1))

pub returns-clause-number : goal.returns-clause-number
returns-clause-number c =
    let ts = c.args.types.now in
    let xs = c.in-Some.fields.now in
    let set = has (at ts c.args.set) in
    let same = ap (λ (ys : List (ℕ × Bool)). TupleTy (fields_at ts ys)) c.in_ok-fields-in-Some.ensures
    ∙ ap TupleTy (marked_at ts set 1 xs) ∙ ap (marked (at ts c.args.set)) (sym c.in-Some.ensures.0) in
    subst (λ (t : Ty). IfOk c.intern.result (IsNumber c.intern.new.types t)) same c.intern.ensures.number

pub returns-in-None-clause-number : goal.returns-in-None-clause-number
returns-in-None-clause-number c = (
  c.requires.there,
  sym (marked_other (at c.args.types.now c.args.set) (at c.args.types.now c.args.n) c.in-None.ensures),
)
