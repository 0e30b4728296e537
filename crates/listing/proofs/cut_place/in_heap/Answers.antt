use Rattle.std.proofs.Common.{◌∙◌, List, Bool, refl, sym, ap}
use Rattle.idx_core.specs.declared.span.Span.{Span}
use Rattle.t_types.specs.declared.types.TType.{TType}
use Rattle.t_terms.specs.declared.value.Value.{Value}
use Rattle.t_terms.specs.declared.data.Data.{Data}
use Rattle.t_terms.specs.Read.{data_fields, spanned_heap}
use Rattle.listing.specs.Before.{in_fields, in_heap}
use Rattle.listing.proofs.Finding.{found, passed, ended}
use Rattle.listing.proofs.cut_place.in_heap.Goals as goal

abbrev inside : Span → List (Value × TType × Span) → Bool
inside place xs = in_fields place (data_fields xs)

abbrev any : Span → List Data → Bool
any place xs = in_heap place (spanned_heap xs)

abbrev one : Span → Data → Bool
one place x = inside place x.fields.items

pub returns-then-in_fields : goal.returns-then-in_fields
returns-then-in_fields c =
    found (any c.args.place) (one c.args.place) (λ x xs. refl) c.args.heap.now c.loop-tuple.tuple-index
    c.tuple-item.result c.loop-tuple-test.true c.tuple-item.is c.loop-tuple.invariant
    (ap (inside c.args.place) (sym c.deref.ensures.value) ∙ sym c.if-in_fields.ensures)

pub loop-tuple-preserved : goal.loop-tuple-preserved
loop-tuple-preserved c =
    passed (any c.args.place) (one c.args.place) (λ x xs. refl) c.args.heap.now c.loop-tuple.tuple-index
    c.tuple-item.result c.loop-tuple-test.true c.tuple-item.is c.loop-tuple.invariant
    (ap (inside c.args.place) (sym c.deref.ensures.value) ∙ sym c.in_fields.ensures ∙ c.if-in_fields.false)

pub returns : goal.returns
returns c =
    ended (any c.args.place) (one c.args.place) (λ x xs. refl) c.args.heap.now c.loop-tuple.tuple-index
    c.loop-tuple-test.false c.loop-tuple.invariant refl
