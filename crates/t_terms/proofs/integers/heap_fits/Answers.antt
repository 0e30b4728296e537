use Rattle.std.proofs.Common.{List}
use Rattle.t_terms.specs.declared.data.Data.{Data}
use Rattle.t_terms.specs.Read.{data_of}
use Rattle.t_terms.specs.Values.{HeapValues}
use Rattle.t_terms.specs.Whole.{ValueFits}
use Rattle.t_terms.proofs.Fitting.{at_item, at_end}
use Rattle.t_terms.proofs.integers.heap_fits.Goals as goal

abbrev Fits : List Data → Type 0
Fits xs = HeapValues ValueFits (data_of xs)

pub loop-tuple-init : goal.loop-tuple-init
loop-tuple-init c = λ x. x

pub loop-tuple-preserved : goal.loop-tuple-preserved
loop-tuple-preserved c = λ rest.
    c.loop-tuple.invariant
    (at_item Fits c.args.heap.now c.loop-tuple.tuple-index c.tuple-item.result c.tuple-item.is c.loop-tuple-test.true
    (rw c.deref.ensures.value at c.fields_fit.ensures, rest))

pub returns : goal.returns
returns c =
    c.loop-tuple.invariant (at_end Fits c.args.heap.now c.loop-tuple.tuple-index c.loop-tuple-test.false tt)
