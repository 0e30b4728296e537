use Rattle.listing.specs.Writing.{program_of}
use Rattle.listing.proofs.Steps.{last_row}
use Rattle.listing.proofs.lister.Lister.write_last.Goals as goal

pub returns-clause-row : goal.returns-clause-row
returns-clause-row c =
    last_row (program_of c.args.self.now) c.args.block c.args.steps.now _ _ c.is_empty.result c.is_empty.ensures
    c.if-is_empty.false c.in_ok-write_known.ensures.row
