use Rattle.t_terms.specs.Read.{block}
use Rattle.t_writer.proofs.Coded.{block_done}
use Rattle.t_writer.proofs.blocks.write_block.Goals as goal

pub returns : goal.returns
returns c =
    block_done c.args.number (block c.args.block.now) _ _ _ _ _ _ _ c.in_ok-write_name.ensures
    c.in_ok-extend_from_slice.ensures.items c.in_ok-write_binds.ensures
    (rw c.deref.ensures.value at c.in_ok-write_file.ensures) c.in_ok-extend_from_slice-2.ensures.items
    (rw c.deref-2.ensures.value at c.in_ok-write_code.ensures)
