use Rattle.std.proofs.Common.{◌∙◌, ap}
use Rattle.t_terms.specs.declared.program.TProgram.{TProgram}
use Rattle.t_terms.specs.ReadProgram.{program as plain_of}
use Rattle.t_check.specs.Checked.{checked_program}
use Rattle.listing.specs.Writing.{program_of, text_of}
use Rattle.listing.proofs.Steps.{block_there}
use Rattle.listing.proofs.Moved.{next_in, met_in, last_in}
use Rattle.listing.proofs.begun.blocks_to.Goals as goal

pub write_block_to-requires-clause-there : goal.write_block_to-requires-clause-there
write_block_to-requires-clause-there c =
    block_there (checked_program c.args.program.now) (program_of c.loop-i.lister) c.deref-block-items.result.now
    c.loop-i.i c.block-item.result c.loop-i.invariant.program
    (c.deref-block-items.ensures.value ∙ ap (λ (p : TProgram). p.blocks.items) c.program.ensures.same)
    c.block-item.is c.loop-i-test.true

pub returns-then-met : goal.returns-then-met
returns-then-met c =
    let l = c.loop-i in
    let p = checked_program c.args.program.now in
    met_in c.args.text.now _ (plain_of p) _ c.args.place p.blocks.items c.deref-block-items.result.now
    (c.deref-block-items.ensures.value ∙ ap (λ (p : TProgram). p.blocks.items) c.program.ensures.same) l.i l.page.items
    _ c.block-item.result c.in_ok-met.met c.block-item.is c.loop-i-test.true l.invariant.left l.invariant.text
    l.invariant.program c.if-met.true c.in_ok-met.ensures.rows

pub loop-i-preserved : goal.loop-i-preserved
loop-i-preserved c =
    let l = c.loop-i in
    let p = checked_program c.args.program.now in
    record {
      lister = c.write_block_to.ensures.lister;
      text = c.write_block_to.ensures.same.0 ∙ l.invariant.text;
      program = c.write_block_to.ensures.same.1 ∙ l.invariant.program;
      left = next_in c.args.text.now _ (plain_of p) _ c.args.place p.blocks.items c.deref-block-items.result.now
          (c.deref-block-items.ensures.value ∙ ap (λ (p : TProgram). p.blocks.items) c.program.ensures.same) l.i
          l.page.items _ c.block-item.result c.in_ok-met.met c.block-item.is c.loop-i-test.true l.invariant.left
          l.invariant.text l.invariant.program c.if-met.false c.in_ok-met.ensures.rows;
    }

pub returns : goal.returns
returns c =
    let l = c.loop-i in
    let p = checked_program c.args.program.now in
    last_in c.args.text.now (text_of l.lister) (plain_of p) (program_of l.lister) c.args.place p.blocks.items
    c.deref-block-items.result.now
    (c.deref-block-items.ensures.value ∙ ap (λ (p : TProgram). p.blocks.items) c.program.ensures.same) l.i l.page.items
    c.loop-i-test.false l.invariant.left
