use Rattle.std.proofs.Common.{◌∙◌, ap}
use Rattle.t_terms.specs.declared.program.TProgram.{TProgram}
use Rattle.t_check.specs.Checked.{checked_program}
use Rattle.listing.specs.Writing.{program_of}
use Rattle.listing.proofs.Steps.{block_there, blocks_last, blocks_moved}
use Rattle.listing.proofs.lister.listing_of.Goals as goal

pub write_block-requires-clause-there : goal.write_block-requires-clause-there
write_block-requires-clause-there c =
    block_there (checked_program c.args.program.now) (program_of c.loop-i.lister) c.deref-block-items.result.now
    c.loop-i.i c.block-item.result c.loop-i.invariant.program
    (c.deref-block-items.ensures.value ∙ ap (λ (p : TProgram). p.blocks.items) c.program.ensures.same)
    c.block-item.is c.loop-i-test.true

pub loop-i-preserved : goal.loop-i-preserved
loop-i-preserved c =
    let l = c.loop-i in
    record {
      lister = c.write_block.ensures.lister;
      text = c.write_block.ensures.same.0 ∙ l.invariant.text;
      program = c.write_block.ensures.same.1 ∙ l.invariant.program;
      left = blocks_moved c.args.text.now _ _ _ (checked_program c.args.program.now).blocks.items
          c.deref-block-items.result.now l.i l.page.items c.write_block.new.page.items c.block-item.result
          (c.deref-block-items.ensures.value ∙ ap (λ (p : TProgram). p.blocks.items) c.program.ensures.same)
          c.block-item.is c.loop-i-test.true l.invariant.left l.invariant.text l.invariant.program
          c.in_ok-write_block.ensures.rows;
    }

pub returns : goal.returns
returns c =
    blocks_last c.args.text.now _ (checked_program c.args.program.now).blocks.items c.deref-block-items.result.now
    c.loop-i.i c.loop-i.page.items
    (c.deref-block-items.ensures.value ∙ ap (λ (p : TProgram). p.blocks.items) c.program.ensures.same)
    c.loop-i-test.false c.loop-i.invariant.left
