use Rattle.h_notation.proofs.Standing.{put_done}
use Rattle.h_notation.proofs.parts.put.Goals as goal

pub returns : goal.returns
returns c = λ n m vs v is h.
    put_done c.args.pieces.now c.bytes.new.self n m c.args.stack.now.items c.push.new.self.items c.in_ok-piece.piece
    vs v
    c.args.text.items c.in_ok-piece.ensures.keeps c.in_ok-piece.ensures.stands c.in_ok-push.ensures.items is h
