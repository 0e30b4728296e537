use Rattle.std.proofs.Common.{◌≡◌, List, [], ◌∷◌, ◌++◌, refl, sym, ◌∙◌, ap, arith}
use Rattle.std.proofs.lemmas.Result.{err_from_is_err_and}
use Rattle.text_core.specs.Table.{Nt, Do}
use Rattle.t_text.specs.GrammarTable.{LBlock, LMoreBlocks, MakeFirstBlock, MakeNextBlock}
use Rattle.t_shapes.proofs.Stepping.{start, by_call, by_do, stop_call}
use Rattle.t_shapes.specs.Reads.{all_blocks}
use Rattle.t_shapes.specs.declared.raw.RawItem.{RawItem}
use Rattle.t_shapes.specs.declared.raw.RawItem.TheVariants as It
use Rattle.t_shapes.proofs.Blocked.{as_block, blocks_more, no_more_blocks}
use Rattle.t_text.specs.Kept.{tokens_of}
use Rattle.t_shapes.proofs.whole.blocks.Goals as goal

pub returns-in_err-first : goal.returns-in_err-first
returns-in_err-first c =
    let ts = tokens_of c.args.tokens.now in
    let i = c.args.at in
    let p = err_from_is_err_and c.from_residual.result c.from_residual.ensures.1 in
    rw (p.1, p.2)
    (stop_call _ (Nt LBlock ∷ []) 0 (Do MakeFirstBlock ∷ (Nt LMoreBlocks ∷ [])) [] (start ts 0 i all_blocks)
    (omega arith) c.in_err-first.ensures)

pub loop-items-init : goal.loop-items-init
loop-items-init c =
    let ts = tokens_of c.args.tokens.now in
    let i = c.args.at in
    let f = c.in_ok-first.first in
    let r = c.in_ok-first.ensures in
    let e : c.push.new.self.items ≡ It.Block f.block ∷ [] = c.in_ok-push.ensures.items
    ∙ ap (λ (xs : List RawItem). xs ++ It.Block f.block ∷ []) c.new-items.ensures.items in
    rw e (record {
      blocks = _;
      are = refl;
      forward = r.forward;
      in_range = r.in_range;
      same = by_do MakeFirstBlock (Nt LMoreBlocks ∷ []) _ _
          (by_call 0 (Do MakeFirstBlock ∷ (Nt LMoreBlocks ∷ [])) [] (start ts 0 i all_blocks) (omega arith) r.same)
          (λ below. refl);
    })

pub block-requires-in-Some : goal.block-requires-in-Some
block-requires-in-Some c =
    c.loop-items.invariant.in_range

pub returns-in_err-found : goal.returns-in_err-found
returns-in_err-found c =
    let v = c.loop-items.invariant in
    let m = as_block v.same (sym c.take.ensures ∙ c.in-Some.is) in
    let p = err_from_is_err_and c.from_residual-in_err-found.result c.from_residual-in_err-found.ensures.1 in
    rw (p.1, p.2)
    (stop_call _ (Nt LBlock ∷ []) 0 (Do MakeNextBlock ∷ (Nt LMoreBlocks ∷ [])) _ m
    (omega arith) c.in_err-found.ensures)

pub loop-items-smaller : goal.loop-items-smaller
loop-items-smaller c =
    let r = c.in_ok-found.ensures in omega (arith, r.forward, r.in_range)

pub loop-items-preserved : goal.loop-items-preserved
loop-items-preserved c =
    let v = c.loop-items.invariant in
    let m = as_block v.same (sym c.take.ensures ∙ c.in-Some.is) in
    let r = c.in_ok-found.ensures in
    record {
      blocks = _;
      are =
          blocks_more c.loop-items.items.items _ c.in_ok-found.found.block v.blocks c.in_ok-push-2.ensures.items v.are;
      forward = omega (arith, v.forward, r.forward);
      in_range = r.in_range;
      same = by_do MakeNextBlock (Nt LMoreBlocks ∷ []) _ _
          (by_call 0 (Do MakeNextBlock ∷ (Nt LMoreBlocks ∷ [])) _ m (omega arith) r.same) (λ below. refl);
    }

pub returns : goal.returns
returns c =
    let v = c.loop-items.invariant in
    record {
      blocks = v.blocks;
      are = v.are;
      reads = record {
        forward = v.forward;
        in_range = v.in_range;
        same = no_more_blocks v.same (sym c.take.ensures ∙ c.in_default.is);
      };
    }
