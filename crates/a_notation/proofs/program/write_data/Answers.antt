use Rattle.a_notation.proofs.ProgramTexts.{data_done}
use Rattle.a_notation.proofs.program.write_data.Goals as goal
use Rattle.idx_core.proofs.Numbers.{not_empty}

pub returns : goal.returns
returns c =
    data_done c.args.tuples.now _ _ _ (not_empty _ c.is_empty.result c.is_empty.ensures c.if-is_empty.false)
    c.in_ok-write_tuples.ensures c.in_ok-extend_from_slice.ensures.items
