use Rattle.std.proofs.Common.{◌++◌, ◌∙◌, ap}
use Rattle.x_file.specs.File.{file_bytes}
use Rattle.x_file.proofs.Whole.{loaded_as}
use Rattle.x_file.proofs.writing.write_file.Goals as goal

pub returns-clause-loaded : goal.returns-clause-loaded
returns-clause-loaded c =
    loaded_as c.args.code.now c.args.content.now c.args.heap c.put_file.new.file.items
    (c.fits.ensures.fit c.if-not-fits.false)
    (c.in_ok-put_file.ensures
    ∙ ap (λ x. x ++ file_bytes c.args.code.now c.args.content.now c.args.heap) c.new-file.ensures.items)

pub returns-clause-fit : goal.returns-clause-fit
returns-clause-fit c = c.fits.ensures.fit c.if-not-fits.false
