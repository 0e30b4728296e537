use Rattle.std.proofs.Common.{◌∙◌, List, Bool, refl, sym}
use Rattle.idx_core.specs.declared.span.Span.{Span}
use Rattle.t_types.specs.declared.types.TType.{TType}
use Rattle.t_terms.specs.declared.value.Value.{Value}
use Rattle.t_terms.specs.Read.{data_fields}
use Rattle.listing.specs.Before.{is_at, in_fields}
use Rattle.listing.proofs.Finding.{found, passed, ended}
use Rattle.listing.proofs.cut_place.in_fields.Goals as goal

abbrev Field : Type 0
Field = Value × TType × Span

abbrev any : Span → List Field → Bool
any place xs = in_fields place (data_fields xs)

abbrev one : Span → Field → Bool
one place x = is_at place x.2

pub returns-then-is_at : goal.returns-then-is_at
returns-then-is_at c =
    found (any c.args.place) (one c.args.place) (λ x xs. refl) c.args.fields.now c.loop-field.field-index
    c.field-item.result c.loop-field-test.true c.field-item.is c.loop-field.invariant (sym c.if-is_at.ensures)

pub loop-field-preserved : goal.loop-field-preserved
loop-field-preserved c =
    passed (any c.args.place) (one c.args.place) (λ x xs. refl) c.args.fields.now c.loop-field.field-index
    c.field-item.result c.loop-field-test.true c.field-item.is c.loop-field.invariant
    (sym c.is_at.ensures ∙ c.if-is_at.false)

pub returns : goal.returns
returns c =
    ended (any c.args.place) (one c.args.place) (λ x xs. refl) c.args.fields.now c.loop-field.field-index
    c.loop-field-test.false c.loop-field.invariant refl
