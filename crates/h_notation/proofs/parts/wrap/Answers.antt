use Rattle.h_notation.proofs.Standing.{wrap_done}
use Rattle.h_notation.proofs.parts.wrap.Goals as goal

pub returns-in_ok-push-in-Some : goal.returns-in_ok-push-in-Some
returns-in_ok-push-in-Some c = λ n m vs f is h.
    wrap_done c.args.pieces.now c.around.new.pieces n m c.args.stack.now.items c.pop.new.self.items
    c.push.new.self.items c.in-Some.inner c.in_ok-whole-in-Some.whole vs f c.args.before.items c.args.behind.items
    c.in-Some.ensures.items c.in_ok-whole-in-Some.ensures.keeps c.in_ok-whole-in-Some.ensures.stands
    c.in_ok-push-in-Some.ensures.items is h
