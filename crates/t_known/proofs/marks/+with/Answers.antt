use Rattle.std.proofs.Common.{◌<◌, arith}
use Rattle.std.proofs.lemmas.Result.{IfOk-weaker}
use Rattle.t_known.proofs.Sets.{is_even, is_odd}
use Rattle.t_known.proofs.marks.+with.Goals as goal

pub returns-then-number-eq0-clause-number : goal.returns-then-number-eq0-clause-number
returns-then-number-eq0-clause-number t c =
    let some = c.requires.positive in
    let other = c.if-number-eq1.false in
    let lt : 1 < c.args.number = omega arith in
    let b = c.in_ok-parts.parts in
    IfOk-weaker c.joined-then-number-eq0.result _ _
    (λ m k. is_even c.args.types.now c.opened.new.types c.joined-then-number-eq0.new.types c.args.set b.left b.right
    b.here c.args.number m c.in_ok-parts.ensures.opened c.with.new.types c.in_ok-left.left
    c.in_ok-left.ensures.grown lt c.if-number-eq0.true c.in_ok-left.ensures.number k.1 k.0)
    c.joined-then-number-eq0.ensures.number

pub returns-clause-number : goal.returns-clause-number
returns-clause-number t c =
    let some = c.requires.positive in
    let other = c.if-number-eq1.false in
    let lt : 1 < c.args.number = omega arith in
    let b = c.in_ok-parts.parts in
    IfOk-weaker c.joined-2.result _ _
    (λ m k. is_odd c.args.types.now c.opened.new.types c.joined-2.new.types c.args.set b.left b.right b.here
    c.args.number m c.in_ok-parts.ensures.opened c.with-2.new.types c.in_ok-right.right c.in_ok-right.ensures.grown
    lt c.if-number-eq0.false c.in_ok-right.ensures.number k.1 k.0)
    c.joined-2.ensures.number
