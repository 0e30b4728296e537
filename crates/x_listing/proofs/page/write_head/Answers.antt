use Rattle.std.specs.Prelude.{codes}
use Rattle.x_file.specs.File.{code_address, data_address}
use Rattle.x_listing.specs.Lines.{part}
use Rattle.x_listing.proofs.Turns.{three}
use Rattle.x_listing.proofs.page.write_head.Goals as goal

pub returns : goal.returns
returns c =
    three c.args.page.now.items _ _ _ (part (codes "code: ") code_address c.args.code)
    (part (codes "registers: ") data_address c.args.base) (part (codes "memory: ") c.args.base c.args.memory)
    c.in_ok-write_part.ensures c.in_ok-write_part-2.ensures c.in_ok-write_part-3.ensures
