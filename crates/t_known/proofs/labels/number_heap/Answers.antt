use Rattle.std.proofs.Common.{List, subst}
use Rattle.t_terms.specs.Read.{data_fields}
use Rattle.t_terms.specs.Spanned.{plain_fields}
use Rattle.t_terms.specs.Labels.{data_type}
use Rattle.t_intern.specs.Grown.{IsNumber}
use Rattle.t_intern.proofs.Growing.{grown_next, numbers_next, numbers_all}
use Rattle.t_known.specs.Labels.{Field, tuple_type}
use Rattle.t_known.proofs.labels.number_heap.Goals as goal

pub loop-tuple-preserved : goal.loop-tuple-preserved
loop-tuple-preserved c =
    let l = c.loop-tuple in
    let x = c.tuple-item.result in
    let number =
    subst (λ (fs : List Field). IsNumber c.number_tuple.new.types (data_type (plain_fields (data_fields fs)))
    c.in_ok-n.n) c.deref.ensures.value c.in_ok-n.ensures.number in
    record {
      grown = grown_next _ _ _ l.invariant.grown c.in_ok-n.ensures.grown;
      made = numbers_next tuple_type l.types c.number_tuple.new.types c.args.heap.now l.tuple-index x l.made.items
          c.push.new.self.items c.in_ok-n.n c.loop-tuple-test.true c.tuple-item.is l.invariant.made
          c.in_ok-n.ensures.grown number c.in_ok-push.ensures.items;
    }

pub returns-clause-numbers : goal.returns-clause-numbers
returns-clause-numbers c =
    numbers_all tuple_type c.loop-tuple.types c.args.heap.now c.loop-tuple.tuple-index c.loop-tuple.made.items
    c.loop-tuple-test.false c.loop-tuple.invariant.made
