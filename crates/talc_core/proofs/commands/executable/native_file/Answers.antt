use Rattle.std.proofs.Common.{◌∙◌, ℕ, List, Ok, Err, ap, subst, sym}
use Rattle.std.specs.Prelude.{Result}
use Rattle.std.proofs.lemmas.Result.{err_from_is_err_and}
use Rattle.talc_core.specs.declared.reply.Ending.{Ending}
use Rattle.talc_core.specs.declared.report.Failure.{Failure}
use Rattle.talc_core.specs.FirstFault.{AnAssembly}
use Rattle.talc_core.specs.NativeText.{IsNativeText}
use Rattle.talc_core.specs.Steps.{MakesFile, WritesOutput}
use Rattle.talc_core.proofs.FileLemmas.{file_made, file_not_made}
use Rattle.talc_core.proofs.commands.executable.native_file.Goals as goal

pub returns-in_err-write_output : goal.returns-in_err-write_output
returns-in_err-write_output g c =
    let file = c.in_ok-file.file.items in
    let old = g.F.Files.state c.args.files.now in
    let mid = g.F.Files.state c.read_input.new.files in
    let new = g.F.Files.state c.write_output.new.files in
    let why : Failure = c.in_err-write_output.field-0.0 in
    let r = err_from_is_err_and c.from_residual-in_err-write_output.result
    c.from_residual-in_err-write_output.ensures.1 in
    subst (λ (x : Result Ending Failure).
    MakesFile (IsNativeText c.args.heap) AnAssembly c.args.input.now c.args.output.now old new x)
    (sym (r.1 ∙ ap (λ (x : Failure). Err x) r.2))
    (file_not_made (IsNativeText c.args.heap) AnAssembly c.args.input.now c.args.output.now c.in_ok-text.text.items file
    old mid new c.in_ok-text.ensures
    (subst (λ (t : List ℕ). IsNativeText c.args.heap t file) c.deref.ensures.value c.in_ok-file.ensures) why
    (subst (λ (t : List ℕ). WritesOutput c.args.output.now t mid new (Err why)) c.deref-2.ensures.value
    c.in_err-write_output.ensures))

pub returns : goal.returns
returns g c =
    let file = c.in_ok-file.file.items in
    let old = g.F.Files.state c.args.files.now in
    let mid = g.F.Files.state c.read_input.new.files in
    let new = g.F.Files.state c.write_output.new.files in
    file_made (IsNativeText c.args.heap) AnAssembly c.args.input.now c.args.output.now c.in_ok-text.text.items file old
    mid new c.in_ok-text.ensures
    (subst (λ (t : List ℕ). IsNativeText c.args.heap t file) c.deref.ensures.value c.in_ok-file.ensures)
    (subst (λ (t : List ℕ). WritesOutput c.args.output.now t mid new (Ok tt)) c.deref-2.ensures.value
    c.in_ok-write_output.ensures)
