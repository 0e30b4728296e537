use Rattle.t_spill.proofs.Parts.{tuple_ready, all_tuples}
use Rattle.t_spill.proofs.program.spilled_heap.Goals as goal

pub spilled_tuple-requires : goal.spilled_tuple-requires
spilled_tuple-requires c =
    tuple_ready c.args.heap.now c.loop-tuple.tuple-index c.tuple-item.result c.loop-tuple-test.true c.tuple-item.is
    c.requires

pub returns : goal.returns
returns c =
    all_tuples c.args.split.low c.loop-tuple.made.items c.args.heap.now c.loop-tuple.tuple-index c.loop-tuple.invariant
    c.loop-tuple-test.false
