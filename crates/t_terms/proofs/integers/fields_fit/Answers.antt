use Rattle.std.proofs.Common.{List}
use Rattle.idx_core.specs.declared.span.Span.{Span}
use Rattle.t_types.specs.declared.types.TType.{TType}
use Rattle.t_terms.specs.declared.value.Value.{Value}
use Rattle.t_terms.specs.Read.{data_fields}
use Rattle.t_terms.specs.Spanned.{plain_fields}
use Rattle.t_terms.specs.Values.{DataValues}
use Rattle.t_terms.specs.Whole.{ValueFits}
use Rattle.t_terms.proofs.Fitting.{at_item, at_end}
use Rattle.t_terms.proofs.integers.fields_fit.Goals as goal

abbrev Fits : List (Value × TType × Span) → Type 0
Fits xs = DataValues ValueFits (plain_fields (data_fields xs))

pub loop-field-init : goal.loop-field-init
loop-field-init c = λ x. x

pub loop-field-preserved : goal.loop-field-preserved
loop-field-preserved c = λ rest.
    c.loop-field.invariant
    (at_item Fits c.args.fields.now c.loop-field.field-index c.field-item.result c.field-item.is c.loop-field-test.true
    (c.value_fits.ensures, rest))

pub returns : goal.returns
returns c =
    c.loop-field.invariant (at_end Fits c.args.fields.now c.loop-field.field-index c.loop-field-test.false tt)
