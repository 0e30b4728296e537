use Rattle.std.proofs.Common.{◌+◌, ◌∷◌, drop, sym, ap, ◌∙◌}
use Rattle.std.proofs.lemmas.List.{drop_more}
use Rattle.t_terms.specs.declared.block.Block.{Block}
use Rattle.w_gen.proofs.Bounds.{registers_go, fields_go}
use Rattle.w_gen.proofs.limits.highest_of.Goals as goal

pub loop-one-preserved : goal.loop-one-preserved
loop-one-preserved c =
    let l = c.loop-one in
    let xs = c.args.blocks.now in
    let x = c.one-item.result in
    let i = l.one-index in
    let next = drop_more xs i x c.loop-one-test.true
    ∙ ap (λ (y : Block). y ∷ drop (i + 1) xs) (sym c.one-item.is) in
    record {
      register = registers_go l.register _ _ (drop i xs) (drop (i + 1) xs) x _ l.invariant.register next
          c.of_block-of_one.ensures.register c.max-register.ensures;
      field = fields_go l.field _ _ (drop i xs) (drop (i + 1) xs) x _ l.invariant.field next
          c.of_block-of_one.ensures.field c.max-field.ensures;
    }
