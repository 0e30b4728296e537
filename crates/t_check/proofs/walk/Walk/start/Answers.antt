use Rattle.std.proofs.Common.{refl, arith}
use Rattle.t_known.specs.Labels.{code_type}
use Rattle.t_check.proofs.Blocks.{formed_at}
use Rattle.t_known.proofs.Numbering.{many, numbered_at}
use Rattle.t_check.proofs.Walking.{block_there, known_first}
use Rattle.t_check.proofs.walk.Walk.start.Goals as goal

pub index-requires : goal.index-requires
index-requires c =
    let p = c.args.self.now.program.now in
    omega (arith, block_there p c.args.block c.args.index c.requires.there.0 c.requires.there.1, p.blocks.ok.0)

pub index-requires-2 : goal.index-requires-2
index-requires-2 c =
    let w = c.args.self.now in
    omega (
      arith,
      many w.types code_type w.program.now.blocks.items w.labels.blocks.items c.requires.walk.labels.blocks,
      block_there w.program.now c.args.block c.args.index c.requires.there.0 c.requires.there.1,
      w.labels.blocks.ok.0,
    )

pub header-requires-clause-few : goal.header-requires-clause-few
header-requires-clause-few c =
    let p = c.args.self.now.program.now in
    (formed_at p c.args.block c.index.result.now
    (block_there p c.args.block c.args.index c.requires.there.0 c.requires.there.1) c.index.ensures p.whole.0).0

pub header-requires-clause-file : goal.header-requires-clause-file
header-requires-clause-file c =
    let p = c.args.self.now.program.now in
    (formed_at p c.args.block c.index.result.now
    (block_there p c.args.block c.args.index c.requires.there.0 c.requires.there.1) c.index.ensures p.whole.0).1

pub header-requires-clause-code : goal.header-requires-clause-code
header-requires-clause-code c =
    let w = c.args.self.now in
    numbered_at w.types code_type w.program.now.blocks.items w.labels.blocks.items c.requires.walk.labels.blocks
    c.args.block c.index.result.now c.index-2.result.now
    (block_there w.program.now c.args.block c.args.index c.requires.there.0 c.requires.there.1) c.index.ensures
    c.index-2.ensures

pub returns-clause-stands : goal.returns-clause-stands
returns-clause-stands c =
    let p = c.args.self.now.program.now in
    let there = block_there p c.args.block c.args.index c.requires.there.0 c.requires.there.1 in
    let is = c.in_ok-registers.ensures in (
      record {
        sound = is.1;
        known = known_first p c.args.block c.index.result.now there c.index.ensures c.in_ok-registers.registers.names
            _ is.2 is.0;
      },
      refl,
      omega arith,
    )
