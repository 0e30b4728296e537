use Rattle.t_types.specs.Read.{tree}
use Rattle.t_terms.specs.Read.{value}
use Rattle.t_writer.proofs.Filled.{datum_done}
use Rattle.t_writer.proofs.heap.write_datum.Goals as goal

pub returns : goal.returns
returns c =
    datum_done (value c.args.value.now) (tree c.args.ty.now) _ _ _ _ c.in_ok-write_value.ensures
    c.in_ok-extend_from_slice.ensures.items c.in_ok-write_type.ensures
