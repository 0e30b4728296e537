use Rattle.std.proofs.Common.{length, [], ◌∙◌, refl, sym, subst}
use Rattle.std.proofs.lemmas.Result.{err_from_is_err_and}
use Rattle.x_file.specs.File.{Fits}
use Rattle.x_file.specs.Loaded.{IsLoaded}
use Rattle.x_pass.proofs.Allowed.{all_short_of}
use Rattle.x_program.specs.Made.{base_of}
use Rattle.x_program.proofs.Making.{is_made, stop_low, all_fits}
use Rattle.x_program.proofs.file.file_of.Goals as goal

pub laid_out-requires : goal.laid_out-requires
laid_out-requires c =
    all_short_of c.args.registers c.args.blocks.now (c.has_code.ensures.fine c.if-not-has_code.false)

pub code_of-requires-clause-short : goal.code_of-requires-clause-short
code_of-requires-clause-short c =
    all_short_of c.args.registers c.args.blocks.now (c.has_code.ensures.fine c.if-not-has_code.false)

pub returns-clause-made : goal.returns-clause-made
returns-clause-made c =
    let n = c.args.registers in
    let labels = c.in_ok-labels.labels in
    let code = c.deref.result.now in
    let heap = c.in_ok-heap.heap in
    let file = c.in_ok-file.file.items in
    let bytes = c.deref-2.ensures.value ∙ c.in_ok-content.ensures.bytes in
    is_made n c.args.blocks.now (base_of n) c.args.image.now c.args.size refl code heap file labels.places.items
    labels.end (c.has_code.ensures.low c.if-not-has_code.false) (c.has_code.ensures.fine c.if-not-has_code.false)
    c.in_ok-labels.ensures.laid.0 c.in_ok-labels.ensures.laid.1 c.in_ok-labels.ensures.near
    (c.deref.ensures.value ∙ c.in_ok-code.ensures) c.in_ok-content.ensures.words
    (subst (λ x. IsLoaded code x heap file) bytes c.in_ok-file.ensures.loaded)
    (subst (λ x. Fits (length code) (length x) heap) bytes c.in_ok-file.ensures.fit) c.in_ok-heap.ensures.is

pub returns-in_err-labels-clause-large : goal.returns-in_err-labels-clause-large
returns-in_err-labels-clause-large c =
    let n = c.args.registers in
    let r = err_from_is_err_and c.from_residual.result c.from_residual.ensures.1 in
    rw r.1 (λ is room. c.in_err-labels.ensures.large (sym r.2 ∙ is)
    (stop_low n c.args.blocks.now (base_of n) c.args.image.now c.args.size refl room))

pub returns-in_err-file-clause-large : goal.returns-in_err-file-clause-large
returns-in_err-file-clause-large c =
    let n = c.args.registers in
    let labels = c.in_ok-labels.labels in
    let code = c.deref.result.now in
    let heap = c.in_ok-heap.heap in
    let bytes = c.deref-2.ensures.value ∙ c.in_ok-content.ensures.bytes in
    let r = err_from_is_err_and c.from_residual-in_err-file.result c.from_residual-in_err-file.ensures.1 in
    rw r.1 (λ is room. c.in_err-file.ensures.large (r.2 is)
    (subst (λ x. Fits (length code) (length x) heap) (sym bytes)
    (all_fits n c.args.blocks.now (base_of n) c.args.image.now c.args.size refl code heap [] labels.places.items
    labels.end (c.deref.ensures.value ∙ c.in_ok-code.ensures) c.in_ok-heap.ensures.is room)))
