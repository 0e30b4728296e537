use Rattle.std.proofs.Common.{refl, ap, map, ◌∙◌}
use Rattle.std.proofs.lemmas.Result.{err_from_is_err_and}
use Rattle.t_terms.specs.Read.{blocks_of}
use Rattle.t_terms.specs.ReadProgram.{program as program_tree}
use Rattle.t_rules.specs.Erase.{erase_block}
use Rattle.w_terms.specs.Read.{program as word_program}
use Rattle.x_listing.specs.Notes.{notes_of}
use Rattle.x_listing.specs.Read as read
use Rattle.native.proofs.Composing.{in_bounds, is_listing}
use Rattle.native.proofs.listing.page_of.Goals as goal

pub returns-clause-listing : goal.returns-clause-listing
returns-clause-listing c =
    let told = ap read.notes_of c.deref-2.ensures.value
    ∙ (c.in_ok-notes.ensures ∙ ap (λ bs. notes_of (map erase_block (blocks_of bs))) c.deref.ensures.value) in
    is_listing c.args.heap (program_tree c.args.program.now) (word_program c.in_ok-made.made.words) _ _
    c.in_ok-made.ensures.words told c.in_ok-page.ensures.page c.in_ok-page.ensures.shows

pub returns-clause-fits : goal.returns-clause-fits
returns-clause-fits c =
    in_bounds c.args.program.now c.args.program.now refl c.args.heap c.in_ok-made.made.file.items
    c.in_ok-made.ensures.made

pub returns-in_err-notes-clause-large : goal.returns-in_err-notes-clause-large
returns-in_err-notes-clause-large c =
    let r = err_from_is_err_and c.from_residual-in_err-notes.result c.from_residual-in_err-notes.ensures.1 in
    rw r.1 (λ is bounds. let e = r.2 in cc)

pub returns-in_err-page-clause-large : goal.returns-in_err-page-clause-large
returns-in_err-page-clause-large c =
    let r = err_from_is_err_and c.from_residual-in_err-page.result c.from_residual-in_err-page.ensures.1 in
    rw r.1 (λ is bounds. let e = r.2 in cc)
