use Rattle.std.proofs.Common.{ap, arith, length}
use Rattle.t_terms.specs.Read.{spanned}
use Rattle.listing.specs.Writing.{program_of, text_of}
use Rattle.listing.proofs.Steps.{as_begun, as_text, block_parts, Steps}
use Rattle.listing.proofs.lister.Lister.write_block.Goals as goal

pub write_begun-requires-clause-few : goal.write_begun-requires-clause-few
write_begun-requires-clause-few c =
    let same = ap (λ (xs : Steps). length xs) c.as_slice-steps.ensures.value in omega (arith, same)

pub returns-clause-rows : goal.returns-clause-rows
returns-clause-rows c =
    let text = text_of c.args.self.now in
    let P = program_of c.args.self.now in
    block_parts text P c.args.number (spanned c.args.block.now) _ _ _
    (as_begun text P c.args.number (spanned c.args.block.now) _ _ _ _ c.as_slice-steps.ensures.value
    c.in_ok-write_begun.ensures.rows)
    (as_text text _ _ _ _ _ c.write_begun.ensures.same.0 c.in_ok-write_text.ensures.row)
