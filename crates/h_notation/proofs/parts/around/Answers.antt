use Rattle.std.proofs.Common.{◌++◌}
use Rattle.h_notation.proofs.parts.around.Goals as goal

pub returns-clause-keeps : goal.returns-clause-keeps
returns-clause-keeps c = λ x s h.
    c.in_ok-whole.ensures.keeps x s (c.in_ok-tail.ensures.keeps x s
    (c.in_ok-last.ensures.keeps x s (c.in_ok-first.ensures.keeps x s h)))

pub returns-clause-stands : goal.returns-clause-stands
returns-clause-stands c = λ s h.
    let before = c.args.before.items in
    let first = c.in_ok-tail.ensures.keeps c.in_ok-first.first before
    (c.in_ok-last.ensures.keeps c.in_ok-first.first before c.in_ok-first.ensures.stands) in
    let inner = c.in_ok-last.ensures.keeps c.args.inner s (c.in_ok-first.ensures.keeps c.args.inner s h) in
    let tail = c.in_ok-tail.ensures.stands s c.args.behind.items inner c.in_ok-last.ensures.stands in
    c.in_ok-whole.ensures.stands before (s ++ c.args.behind.items) first tail
