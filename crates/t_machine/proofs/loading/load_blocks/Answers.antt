use Rattle.std.proofs.Common.{map, List, take, sym, subst, ◌∙◌}
use Rattle.std.proofs.lemmas.List.{take_all}
use Rattle.t_terms.specs.Read.{blocks_of, block as block_tree}
use Rattle.t_terms.specs.declared.block.Block.{Block}
use Rattle.t_rules.specs.Erase.{ESeq, erase_block}
use Rattle.t_machine.specs.Code.{HoldsBlocks}
use Rattle.t_machine.specs.Laid.{IsNamed}
use Rattle.t_machine.specs.Lowering.{IsFilled}
use Rattle.t_machine.proofs.Laying.{named_more}
use Rattle.t_machine.proofs.Loads.{blocks_taken}
use Rattle.t_machine.proofs.There.{block_there}
use Rattle.t_machine.proofs.loading.load_blocks.Goals as goal

pub load_block-requires : goal.load_block-requires
load_block-requires c = (
  c.requires.0,
  block_there c.requires.0 _ c.args.blocks.now c.loop-block.block-index c.block-item.result c.loop-block-test.true
      c.block-item.is c.requires.1,
)

pub loop-block-preserved : goal.loop-block-preserved
loop-block-preserved c =
    let bs = c.args.blocks.now in
    let i = c.loop-block.block-index in
    let cs = map erase_block (blocks_of (take i bs)) in
    let b = erase_block (block_tree c.block-item.result) in
    let inv = c.loop-block.invariant in
    let made = c.in_ok-load_block.ensures in
    let all = sym (blocks_taken bs i c.block-item.result c.loop-block-test.true c.block-item.is) in
    record {
      filled = subst (λ (ds : List ESeq). IsFilled c.load_block.new.code ds) all (made.filled cs inv.filled);
      entries = made.entries ∙ inv.entries;
      named = subst (λ (ds : List ESeq). IsNamed c.load_block.new.code ds) all
          (named_more c.loop-block.code.places c.load_block.new.code.places cs b inv.named made.named);
      started = made.started inv.started;
    }

pub returns-clause-code : goal.returns-clause-code
returns-clause-code c =
    let x = c.loop-block.code in
    let bs = c.args.blocks.now in
    let inv = c.loop-block.invariant in
    let all = take_all c.loop-block.block-index bs c.loop-block-test.false in
    let filled = subst (λ (ds : List Block). IsFilled x (map erase_block (blocks_of ds))) all inv.filled in
    subst (λ ks. HoldsBlocks x.places x.entries.items x.instructions.items ks (map erase_block (blocks_of bs)))
    (sym inv.entries) filled.0

pub returns-clause-laid : goal.returns-clause-laid
returns-clause-laid c =
    let x = c.loop-block.code in
    let inv = c.loop-block.invariant in
    let all = take_all c.loop-block.block-index c.args.blocks.now c.loop-block-test.false in
    let filled = subst (λ (ds : List Block). IsFilled x (map erase_block (blocks_of ds))) all inv.filled in
    (inv.entries, filled.1)

pub returns-clause-started : goal.returns-clause-started
returns-clause-started c = c.loop-block.invariant.started
