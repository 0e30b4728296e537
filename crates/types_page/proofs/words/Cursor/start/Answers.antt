use Rattle.std.proofs.Common.{◌∙◌, ap, arith, sym}
use Rattle.types_page.specs.Page.{from_byte}
use Rattle.types_page.proofs.Marks.{from_later}
use Rattle.types_page.proofs.words.Cursor.start.Goals as goal

pub returns-clause-same : goal.returns-clause-same
returns-clause-same c =
    ap (from_byte c.args.byte) (sym c.requires.there)
    ∙ from_later c.args.byte c.args.self.now.byte c.args.self.now.tokens.now (omega arith)
