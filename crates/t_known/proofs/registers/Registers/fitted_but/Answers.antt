use Rattle.std.proofs.Common.{sym, arith}
use Rattle.t_known.proofs.registers.Registers.fitted_but.Goals as goal

pub overflow_sub-since : goal.overflow_sub-since
overflow_sub-since c =
    let x = c.requires.sound.fitted c.args.code c.in-Some.moment.now (sym c.in-Some.ensures.value) in
    omega (arith, x.set)

pub returns-then-since-width : goal.returns-then-since-width
returns-then-since-width c =
    let x = c.requires.sound.fitted c.args.code c.in-Some.moment.now (sym c.in-Some.ensures.value) in
    record { set = x.set; rises = x.rises; fits = x.fits (c.lasts.ensures c.if-not-lasts.false) }
