use Rattle.std.proofs.Common.{get_or}
use Rattle.page_core.specs.Pieces.{text_at}
use Rattle.h_notation.proofs.Standing.{item, spelled_more}
use Rattle.h_notation.proofs.parts.spelled.Goals as goal

pub loop-piece-preserved : goal.loop-piece-preserved
loop-piece-preserved c =
    spelled_more (text_at c.args.pieces.now) c.loop-piece.texts.items c.push.new.self.items c.in_ok-text.text
    c.args.stack.now c.loop-piece.piece-index (get_or c.args.stack.now c.loop-piece.piece-index 0)
    (item c.args.stack.now c.loop-piece.piece-index c.loop-piece-test.true) c.loop-piece-test.true
    c.loop-piece.invariant c.in_ok-push.ensures.items c.in_ok-text.ensures
