use Rattle.std.proofs.Common.{◌≡◌, map, take}
use Rattle.page_core.specs.Pieces.{text_at}
use Rattle.h_notation.specs.Values.{texts_of}
use Rattle.h_notation.proofs.parts.spelled.Given as goal

abbrev pub invariant-loop-piece : goal.invariant-loop-piece
invariant-loop-piece l = texts_of l.texts.items ≡ map (text_at l.pieces) (take l.piece-index l.stack)
