use Rattle.std.proofs.Common.{◌+◌, List, ◌∷◌, ◌++◌, length, map, drop, sym, ap, ◌∙◌}
use Rattle.std.specs.Prelude.{slice_index}
use Rattle.std.proofs.lemmas.List.{drop_more}
use Rattle.t_terms.specs.Read.{block as tree}
use Rattle.t_terms.specs.declared.block.Block.{Block}
use Rattle.t_rules.specs.Erase.{erase_block}
use Rattle.w_terms.specs.Read.{block}
use Rattle.w_laws.specs.Translate.{code_of, codes_of}
use Rattle.w_gen.specs.Emit.{pieces}
use Rattle.w_gen.proofs.Shares.{erased, firsts_go, rest_goes}
use Rattle.w_gen.proofs.blocks.all_pieces.Goals as goal

pub loop-one-preserved : goal.loop-one-preserved
loop-one-preserved c =
    let l = c.loop-one in
    let xs = c.args.blocks.now in
    let x = c.one-item.result in
    let i = l.one-index in
    let at = slice_index c.args.places.now in
    let from = c.args.from in
    let f = l.firsts.items in
    let r = l.rest.items in
    let g = c.share.new.firsts.items in
    let s = c.share.new.rest.items in
    let e = erase_block (tree x) in
    let es = erased (drop (i + 1) xs) in
    let next = drop_more xs i x c.loop-one-test.true
    ∙ ap (λ (y : Block). y ∷ drop (i + 1) xs) (sym c.one-item.is) in
    let made = c.in_ok-pieces.ensures ∙ ap (λ n. pieces (code_of at n e)) c.in_ok-next.ensures in
    let code = code_of at (from + length r) e in
    let firsts = c.in_ok-share.ensures.firsts code made in
    let rest = c.in_ok-share.ensures.rest code made in
    record {
      firsts = firsts_go at from f r g s e es firsts rest (codes_of at from (erased xs)).firsts
          (ap (λ (ys : List Block). map block f ++ (codes_of at (from + length r) (erased ys)).firsts) (sym next)
          ∙ l.invariant.firsts);
      rest = rest_goes at from f r g s e es firsts rest (codes_of at from (erased xs)).rest
          (ap (λ (ys : List Block). map block r ++ (codes_of at (from + length r) (erased ys)).rest) (sym next)
          ∙ l.invariant.rest);
    }
