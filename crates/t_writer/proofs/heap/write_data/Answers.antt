use Rattle.t_writer.proofs.Filled.{data_done, fields_in}
use Rattle.t_writer.proofs.heap.write_data.Goals as goal

pub returns : goal.returns
returns c =
    data_done c.args.number (fields_in c.args.fields.now) _ _ _ _ _ c.in_ok-write_name.ensures
    c.in_ok-extend_from_slice.ensures.items c.in_ok-write_data_fields.ensures
    c.in_ok-extend_from_slice-2.ensures.items
