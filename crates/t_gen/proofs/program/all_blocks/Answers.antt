use Rattle.std.proofs.Common.{◌+◌, ap, sym, subst, length, arith, List}
use Rattle.t_terms.specs.Read.{blocks_of}
use Rattle.t_terms.proofs.Blocks.{blocks_count}
use Rattle.a_terms.specs.Program.{program_in}
use Rattle.a_scope.specs.Scope.{homes, Under}
use Rattle.a_scope.specs.declared.scope.Entry.{Entry}
use Rattle.t_gen.proofs.Bodies.{homes_rows, begins, begins_long, block_next, block_long, blocks_end, rows_at}
use Rattle.t_gen.proofs.program.all_blocks.Goals as goal

pub emit_body-requires : goal.emit_body-requires
emit_body-requires c = record {
  one = c.requires.main;
  under = subst (λ (es : List Entry). Under 0 es) (sym c.new.ensures.items) tt;
  homes = homes_rows c.new.result.items 0 (ap homes c.new.ensures.items);
  block = omega (arith, ap length c.in_ok-out.ensures, blocks_count c.in_ok-out.out.items);
}

pub emit_block-requires : goal.emit_block-requires
emit_block-requires c = record {
  one = rows_at c.args.blocks.now c.loop-i.i c.index-blocks-i.result c.loop-i-test.true c.index-blocks-i.is
      c.requires.rows;
  at = omega (arith, c.loop-i.invariant.long, c.loop-i-test.true);
}

pub loop-i-init : goal.loop-i-init
loop-i-init c =
    let prog = program_in c.args.program.now in
    record {
      long = omega (
        arith,
        begins_long prog c.args.blocks.now c.args.main.now c.new.result.items
            (blocks_of c.in_ok-out.out.items) _ c.in_ok-out.ensures c.in_ok-emit_body.ensures,
        blocks_count c.emit_body.new.out.items,
      );
      rest = begins prog c.args.blocks.now c.args.main.now c.new.result.items (blocks_of c.in_ok-out.out.items) _
          c.requires.same c.in_ok-out.ensures c.new.ensures.items c.in_ok-emit_body.ensures;
    }

pub loop-i-preserved : goal.loop-i-preserved
loop-i-preserved c =
    let prog = program_in c.args.program.now in
    record {
      long = omega (
        arith,
        c.loop-i.invariant.long,
        block_long prog (c.loop-i.i + 1) c.index-blocks-i.result (blocks_of c.loop-i.out.items)
            (blocks_of c.emit_block.new.out.items) c.in_ok-emit_block.ensures,
        blocks_count c.loop-i.out.items,
        blocks_count c.emit_block.new.out.items,
      );
      rest = block_next prog c.args.blocks.now c.loop-i.i c.index-blocks-i.result (blocks_of c.loop-i.out.items)
          (blocks_of c.emit_block.new.out.items) _ c.loop-i-test.true c.index-blocks-i.is c.in_ok-emit_block.ensures
          c.loop-i.invariant.rest;
    }

pub returns : goal.returns
returns c = blocks_end (program_in c.args.program.now) c.args.blocks.now c.loop-i.i (blocks_of c.loop-i.out.items) _
    c.loop-i-test.false c.loop-i.invariant.rest
