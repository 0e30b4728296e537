use Rattle.std.proofs.Common.{◌≡◌, refl, sym, true, false, ◌∙◌}
use Rattle.t_text.specs.Names.{spelled}
use Rattle.t_text.specs.NameFaults.{block_faults}
use Rattle.t_shapes.specs.Raw.{raw_block}
use Rattle.t_reader.specs.Resolve.{stands_before}
use Rattle.t_terms.specs.Tree.{Label}
use Rattle.t_reader.proofs.reader.numbered_block.Goals as goal

pub returns-then-stood_before : goal.returns-then-stood_before
returns-then-stood_before c =
    let before : stands_before (spelled c.args.text.now c.args.block.now.name) c.args.labels.now (Label c.args.number)
    ≡ true = rw c.spelling.ensures at (sym c.stood_before.ensures ∙ c.if-stood_before.true) in
    rw c.refused.ensures (block_faults c.args.text.now c.args.labels.now (raw_block c.args.block.now), rw before refl)

pub returns : goal.returns
returns c =
    let new : stands_before (spelled c.args.text.now c.args.block.now.name) c.args.labels.now (Label c.args.number)
    ≡ false = rw c.spelling.ensures at (sym c.stood_before.ensures ∙ c.if-stood_before.false) in
    rw new c.block_in.ensures
