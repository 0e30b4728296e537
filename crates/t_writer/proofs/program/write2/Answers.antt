use Rattle.std.proofs.Common.{◌<◌, ◌^◌, length, arith}
use Rattle.t_terms.specs.Read.{blocks_of, data_of}
use Rattle.t_terms.specs.ReadProgram.{program}
use Rattle.t_text.specs.Text.{StandsFor}
use Rattle.t_writer.proofs.Texts.{second_is, second_text, reads_back}
use Rattle.t_writer.proofs.program.write2.Goals as goal

pub write_heap-requires : goal.write_heap-requires
write_heap-requires c =
    let p = c.args.program.now in
    rw c.deref.ensures.value (length (blocks_of p.blocks.items), length (data_of p.heap.items), p.whole.0.2)

pub write_blocks-requires : goal.write_blocks-requires
write_blocks-requires c =
    let p = c.args.program.now in
    rw c.deref-2.ensures.value (length (blocks_of p.blocks.items), length (data_of p.heap.items), p.whole.0.1)

stands : (c : goal.In_ok-write_blocks) → StandsFor c.write_blocks.new.text.items (program c.args.program.now)
stands c =
    let p = c.args.program.now in
    let few : length p.blocks.items < 2 ^ 63 = omega (arith, p.blocks.ok.0, p.blocks.ok.1, p.blocks.small) in
    let small : length p.heap.items < 2 ^ 63 = omega (arith, p.heap.ok.0, p.heap.ok.1, p.heap.small) in
    second_text _ _ _ p.blocks.items p.heap.items few small p.whole.0 p.whole.1.0 p.whole.1.1
    c.in_ok-text.ensures.items (rw c.deref.ensures.value at c.in_ok-write_heap.ensures)
    (rw c.deref-2.ensures.value at c.in_ok-write_blocks.ensures)

pub returns-clause-stands : goal.returns-clause-stands
returns-clause-stands c = stands c

pub returns-clause-reads : goal.returns-clause-reads
returns-clause-reads c = reads_back c.keeps_by_nesting.ensures _ _ (stands c)

pub returns-clause-same : goal.returns-clause-same
returns-clause-same c =
    let p = c.args.program.now in
    second_is _ _ _ p.blocks.items p.heap.items c.in_ok-text.ensures.items
    (rw c.deref.ensures.value at c.in_ok-write_heap.ensures)
    (rw c.deref-2.ensures.value at c.in_ok-write_blocks.ensures)
