use Rattle.std.proofs.Common.{arith}
use Rattle.types_page.proofs.Marks.{from_start}
use Rattle.types_page.proofs.words.Cursor.first.Goals as goal

pub returns-clause-cursor : goal.returns-clause-cursor
returns-clause-cursor c = record { bound = omega arith; there = from_start c.args.tokens.now }
