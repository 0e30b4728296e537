use Rattle.t_writer.proofs.Filled.{value_fits, filling_more}
use Rattle.t_writer.proofs.heap.write_data_fields.Goals as goal

pub write_datum-requires-clause-value : goal.write_datum-requires-clause-value
write_datum-requires-clause-value c =
    value_fits c.args.fields.now c.loop-i.i _ _ c.loop-i.invariant _ c.index-fields-i.is c.loop-i-test.true

pub loop-i-preserved : goal.loop-i-preserved
loop-i-preserved c =
    filling_more c.args.fields.now c.loop-i.i _ _ c.loop-i.invariant _ c.index-fields-i.is c.loop-i-test.true _ _
    c.in_ok-write_separator.ensures c.in_ok-write_datum.ensures
