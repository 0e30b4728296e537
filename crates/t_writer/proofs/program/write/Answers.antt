use Rattle.std.proofs.Common.{◌<◌, ◌^◌, length, arith}
use Rattle.t_terms.specs.Read.{blocks_of, data_of}
use Rattle.t_terms.specs.ReadProgram.{program}
use Rattle.t_text.specs.Text.{StandsFor}
use Rattle.t_writer.proofs.Texts.{first_is, first_text, reads_back}
use Rattle.t_writer.proofs.program.write.Goals as goal

pub write_blocks-requires : goal.write_blocks-requires
write_blocks-requires c =
    let p = c.args.program.now in
    rw c.deref.ensures.value (length (blocks_of p.blocks.items), length (data_of p.heap.items), p.whole.0.1)

stands : (c : goal.In_ok-write_blocks) → StandsFor c.write_blocks.new.text.items (program c.args.program.now)
stands c =
    let few : length c.args.program.now.blocks.items < 2 ^ 63 =
    omega (arith, c.args.program.now.blocks.ok.0, c.args.program.now.blocks.ok.1, c.args.program.now.blocks.small) in
    first_text _ _ c.args.program.now.blocks.items c.args.program.now.heap.items few c.requires.no_data
    c.args.program.now.whole.0 c.args.program.now.whole.1.0
    c.in_ok-text.ensures.items (rw c.deref.ensures.value at c.in_ok-write_blocks.ensures)

pub returns-clause-stands : goal.returns-clause-stands
returns-clause-stands c = stands c

pub returns-clause-reads : goal.returns-clause-reads
returns-clause-reads c = reads_back c.keeps_by_nesting.ensures _ _ (stands c)

pub returns-clause-same : goal.returns-clause-same
returns-clause-same c =
    let p = c.args.program.now in
    first_is _ _ p.blocks.items p.heap.items c.in_ok-text.ensures.items
    (rw c.deref.ensures.value at c.in_ok-write_blocks.ensures)
