use Rattle.t_writer.proofs.Filled.{data_fits, heaping_more}
use Rattle.t_writer.proofs.heap.write_heap.Goals as goal

pub write_data-requires : goal.write_data-requires
write_data-requires c =
    rw c.deref.ensures.value
    (data_fits c.args.heap.now c.loop-i.i _ _ c.loop-i.invariant _ c.index-heap-i.is c.loop-i-test.true)

pub loop-i-preserved : goal.loop-i-preserved
loop-i-preserved c =
    heaping_more c.args.heap.now c.loop-i.i _ _ c.loop-i.invariant _ c.index-heap-i.is c.loop-i-test.true _
    (rw c.deref.ensures.value at c.in_ok-write_data.ensures)
