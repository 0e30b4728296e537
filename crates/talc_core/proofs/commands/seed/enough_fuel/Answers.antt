use Rattle.std.proofs.Common.{◌≡◌, ◌≤◌, ◌<◌, ℕ, ◌+◌, List, length, get_or, drop, sym, subst, ap, arith}
use Rattle.t_terms.specs.declared.block.Block.{Block}
use Rattle.talc_core.proofs.SizeLemmas.{code_size, counted}
use Rattle.talc_core.proofs.commands.seed.enough_fuel.Goals as goal

pub loop-block-preserved : goal.loop-block-preserved
loop-block-preserved c =
    let blocks : List Block = c.args.program.now.blocks.items in
    let at = c.loop-block.block-index in
    let block : Block = c.block-item.result in
    let same : c.deref-block-items.result.now ≡ blocks = c.deref-block-items.ensures.value in
    let is : block ≡ get_or blocks at block =
    subst (λ (bs : List Block). block ≡ get_or bs at block) same c.block-item.is in
    let long : length c.deref-block-items.result.now ≡ length blocks = ap (λ (bs : List Block). length bs) same in
    let low : at < length blocks = omega (arith, long, c.loop-block-test.true) in
    let size_is : c.in_ok-size.size ≡ c.loop-block.size + (length block.body.items + 1) =
    omega (arith, c.in_ok-size.ensures, c.len.ensures, block.body.ok) in
    subst (λ (n : ℕ). code_size blocks ≤ n + code_size (drop (at + 1) blocks)) (sym size_is)
    (counted (code_size blocks) c.loop-block.size at blocks block low is c.loop-block.invariant)
