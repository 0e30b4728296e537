use Rattle.x_pass.proofs.Allowed.{all_short_of}
use Rattle.x_pass.proofs.Measures.{labels_near}
use Rattle.x_listing.specs.Read.{notes_of}
use Rattle.x_listing.proofs.Shown.{shows_code, page_is}
use Rattle.x_listing.proofs.page.listing_of.Goals as goal
use Rattle.std.proofs.Common.{◌∙◌, arith, ap, ◌≤◌, ◌≡◌, ◌^◌}
use Rattle.x_pass.specs.Layout.{stop}
use Rattle.x_file.specs.File.{code_address}

pub labels_of-requires : goal.labels_of-requires
labels_of-requires c =
    all_short_of c.args.registers c.as_slice-blocks.result.now (c.are_fine.ensures.holds c.if-not-are_fine.false)

pub write_blocks-requires-clause-near : goal.write_blocks-requires-clause-near
write_blocks-requires-clause-near c =
    let low : stop code_address c.as_slice-blocks.result.now ≤ 2 ^ 28 =
    omega (arith, c.in_ok-labels.ensures.end, c.if-labels-gt268435456.false) in
    labels_near code_address c.as_slice-blocks.result.now c.in_ok-labels.labels.places.items
    c.in_ok-labels.labels.«end» c.in_ok-labels.ensures.places c.in_ok-labels.ensures.end low

pub write_blocks-requires-clause-short : goal.write_blocks-requires-clause-short
write_blocks-requires-clause-short c =
    all_short_of c.args.registers c.as_slice-blocks.result.now (c.are_fine.ensures.holds c.if-not-are_fine.false)

pub returns-clause-page : goal.returns-clause-page
returns-clause-page c =
    page_is c.args.program.now (notes_of c.args.notes.now) c.as_slice-blocks.result.now c.as_slice-blocks.ensures.value
    c.in_ok-labels.labels.places.items c.in_ok-labels.labels.«end» _ _ _ _ c.in_ok-labels.ensures.places
    c.in_ok-labels.ensures.end c.in_ok-memory.ensures c.new-page.ensures.items c.in_ok-write_head.ensures c.in_ok-write_blocks.ensures

pub returns-clause-shows : goal.returns-clause-shows
returns-clause-shows c =
    let low : stop code_address c.as_slice-blocks.result.now ≤ 2 ^ 28 =
    omega (arith, c.in_ok-labels.ensures.end, c.if-labels-gt268435456.false) in
    shows_code c.args.program.now (notes_of c.args.notes.now) c.as_slice-blocks.result.now
    c.as_slice-blocks.ensures.value c.args.registers (c.are_fine.ensures.holds c.if-not-are_fine.false) low
