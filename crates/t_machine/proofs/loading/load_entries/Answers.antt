use Rattle.std.proofs.Common.{◌≡◌, List, [], ◌∷◌, ◌++◌, ◌∙◌, map, take, ap, sym, subst, arith}
use Rattle.std.proofs.lemmas.List.{take_all}
use Rattle.t_terms.specs.Read.{blocks_of, block as block_tree}
use Rattle.t_terms.specs.declared.block.Block.{Block}
use Rattle.t_rules.specs.Erase.{ESeq, erase_block}
use Rattle.t_machine.specs.Laid.{sizes, begins}
use Rattle.t_machine.proofs.Laying.{begins_more, sizes_snoc}
use Rattle.t_machine.proofs.Loads.{blocks_taken}
use Rattle.t_machine.proofs.loading.load_entries.Goals as goal

pub loop-block-preserved : goal.loop-block-preserved
loop-block-preserved c =
    let l = c.loop-block in
    let bs = c.args.blocks.now in
    let i = l.block-index in
    let cs = map erase_block (blocks_of (take i bs)) in
    let b = erase_block (block_tree c.block-item.result) in
    let all = sym (blocks_taken bs i c.block-item.result c.loop-block-test.true c.block-item.is) in
    let more : c.in_ok-end.end ≡ sizes (cs ++ b ∷ []) =
    omega (arith, c.in_ok-end.ensures, l.invariant.start, sizes_snoc cs b) in
    record {
      entries = c.in_ok-push.ensures.items
          ∙ begins_more l.entries.items l.start cs b l.invariant.entries l.invariant.start
          ∙ ap (λ (ds : List ESeq). begins 0 ds) all;
      start = more ∙ ap (λ (ds : List ESeq). sizes ds) all;
    }

pub returns : goal.returns
returns c =
    subst (λ (bs : List Block). c.loop-block.entries.items ≡ begins 0 (map erase_block (blocks_of bs)))
    (take_all c.loop-block.block-index c.args.blocks.now c.loop-block-test.false) c.loop-block.invariant.entries
