use Rattle.std.proofs.Common.{List, ℕ, ◌<◌, true, ap, sym, subst, ◌∙◌, length, IfOk, All}
use Rattle.t_types.specs.Tree.{Ty, TupleTy}
use Rattle.t_intern.specs.Grown.{IsNumber}
use Rattle.t_intern.specs.Spread.{types_at}
use Rattle.t_intern.proofs.Growing.{grown_next}
use Rattle.t_types.specs.Fields.{all_flagged}
use Rattle.t_known.proofs.Numbering.{data_flagged}
use Rattle.t_known.proofs.labels.number_tuple.Goals as goal

pub tuple_of-requires : goal.tuple_of-requires
tuple_of-requires c =
    subst (λ (ns : List ℕ). All (λ n. n < length c.number_fields.new.types) ns) (sym c.deref.ensures.value)
    c.in_ok-numbers.ensures.numbers.1

pub returns-clause-grown : goal.returns-clause-grown
returns-clause-grown c = grown_next _ _ _ c.in_ok-numbers.ensures.grown c.tuple_of.ensures.grown

pub returns-clause-number : goal.returns-clause-number
returns-clause-number c =
    let us = c.number_fields.new.types in
    let same = ap (λ (ns : List ℕ). types_at us ns) c.deref.ensures.value ∙ c.in_ok-numbers.ensures.numbers.0 in
    subst (λ (t : Ty). IfOk c.tuple_of.result (IsNumber c.tuple_of.new.types t))
    (ap (λ (xs : List Ty). TupleTy (all_flagged true xs)) same ∙ ap TupleTy (data_flagged c.args.fields.now))
    c.tuple_of.ensures.number
