use Rattle.listing.specs.Writing.{program_of, text_of}
use Rattle.listing.proofs.Moved.{begun_to, block_to, part_short}
use Rattle.listing.proofs.lister.Lister.write_block_to.Goals as goal

pub write_begun-requires-clause-few : goal.write_begun-requires-clause-few
write_begun-requires-clause-few c =
    part_short c.in-Some.count _ _ c.args.block.now.body.items c.first_steps.ensures c.as_slice-steps.ensures.value

pub returns-in_ok-write_begun-in-Some-clause-rows : goal.returns-in_ok-write_begun-in-Some-clause-rows
returns-in_ok-write_begun-in-Some-clause-rows c =
    begun_to (text_of c.args.self.now) (program_of c.args.self.now) c.args.place c.args.number c.args.block.now
    c.in-Some.count _ _ _ _ c.in-Some.ensures c.first_steps.ensures c.as_slice-steps.ensures.value
    c.in_ok-write_begun-in-Some.ensures.rows

pub returns-in_ok-write_block-in-None-clause-rows : goal.returns-in_ok-write_block-in-None-clause-rows
returns-in_ok-write_block-in-None-clause-rows c =
    block_to (text_of c.args.self.now) (program_of c.args.self.now) c.args.place c.args.number c.args.block.now _ _
    c.in-None.ensures c.in_ok-write_block-in-None.ensures.rows
