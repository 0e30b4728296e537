use Rattle.std.proofs.Common.{List, ◌≡◌, ◌<◌, length, get_or, subst}
use Rattle.std.proofs.lemmas.Result.{err_from_is_err_and}
use Rattle.t_terms.specs.declared.block.Block.{Block}
use Rattle.t_terms.specs.Read.{spanned, spanned_blocks}
use Rattle.t_terms.specs.ReadProgram.{program}
use Rattle.t_rules.specs.Faults.{BlockFaultWith, BlocksFaultWith}
use Rattle.t_intern.proofs.Growing.{grown_next}
use Rattle.t_known.specs.Labels.{code_type}
use Rattle.t_check.proofs.Blocks.{formed_at}
use Rattle.t_check.proofs.Bodies.{block_fault, block_more, blocks_end}
use Rattle.t_known.proofs.Numbering.{labels_grown, numbered_at}
use Rattle.t_check.proofs.Typing.{says_map}
use Rattle.t_check.proofs.program.check_blocks.Goals as goal

pub check_block-requires-clause-formed : goal.check_block-requires-clause-formed
check_block-requires-clause-formed c =
    let p = c.args.of.now.program.now in
    let i = c.loop-i.i in
    let x = c.index-blocks-i.result in
    formed_at p i x (subst (λ (xs : List Block). i < length xs) c.requires.blocks c.loop-i-test.true)
    (subst (λ (xs : List Block). x ≡ get_or xs i x) c.requires.blocks c.index-blocks-i.is) p.whole.0

pub check_block-requires-clause-labels : goal.check_block-requires-clause-labels
check_block-requires-clause-labels c =
    labels_grown c.args.types.now c.loop-i.types c.args.of.now.program.now c.args.of.now.labels.now
    c.loop-i.invariant.grown
    c.requires.labels

pub check_block-requires-clause-code : goal.check_block-requires-clause-code
check_block-requires-clause-code c =
    let p = c.args.of.now.program.now in
    let us = c.loop-i.types in
    let i = c.loop-i.i in
    let x = c.index-blocks-i.result in
    let labels = labels_grown c.args.types.now us p c.args.of.now.labels.now c.loop-i.invariant.grown c.requires.labels
    in
    let lt = subst (λ (xs : List Block). i < length xs) c.requires.blocks c.loop-i-test.true in
    let is = subst (λ (xs : List Block). x ≡ get_or xs i x) c.requires.blocks c.index-blocks-i.is in
    numbered_at us code_type p.blocks.items c.args.of.now.labels.now.blocks.items labels.blocks i x c.index.result.now
    lt is
    c.index.ensures

pub returns-in_err-check_block : goal.returns-in_err-check_block
returns-in_err-check_block c =
    let p = err_from_is_err_and c.from_residual.result c.from_residual.ensures.1 in
    let P = program c.args.of.now.program.now in
    let x = c.index-blocks-i.result in
    rw (p.1, p.2)
    (says_map c.check_block.new.types c.in_err-check_block.field-0.0 (BlockFaultWith P (spanned x))
    (BlocksFaultWith P (spanned_blocks c.args.blocks.now))
    (block_fault P c.args.blocks.now c.loop-i.i x c.loop-i-test.true c.index-blocks-i.is c.loop-i.invariant.left)
    c.in_err-check_block.ensures.block)

pub loop-i-preserved : goal.loop-i-preserved
loop-i-preserved c =
    record {
      grown = grown_next _ _ _ c.loop-i.invariant.grown c.in_ok-check_block.ensures.grown;
      left = block_more (program c.args.of.now.program.now) c.args.blocks.now c.loop-i.i c.index-blocks-i.result
          c.loop-i-test.true c.index-blocks-i.is c.in_ok-check_block.ensures.block c.loop-i.invariant.left;
    }

pub returns : goal.returns
returns c =
    blocks_end (program c.args.of.now.program.now) c.args.blocks.now c.loop-i.i c.loop-i-test.false
    c.loop-i.invariant.left
