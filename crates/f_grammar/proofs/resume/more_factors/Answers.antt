use Rattle.std.proofs.Common.{[], refl, sym, arith}
use Rattle.f_grammar.proofs.Steps.{one_more, got_are}
use Rattle.f_grammar.proofs.Operands.{star_begun, factors_end}
use Rattle.f_grammar.proofs.resume.more_factors.Goals as goal

pub returns-in_ok-push-in-Some-3 : goal.returns-in_ok-push-in-Some-3
returns-in_ok-push-in-Some-3 c =
    let x = c.requires in
    let e = c.in_ok-push-in-Some.ensures in
    let f = c.in_ok-push-in-Some-2.ensures in
    let g = c.in_ok-push-in-Some-3.ensures in
    let r =
    star_begun c.args.reader.now.tokens.now x.0 _ x.2 (sym c.in-Some.ensures) e f g (got_are x.0 x.1 [] x.3 x.4) in
    (refl, r, omega (arith, one_more _ _ _ e, one_more _ _ _ f, one_more _ _ _ g, r.in_range))

pub returns-in-None : goal.returns-in-None
returns-in-None c =
    let x = c.requires in (
      refl,
      (x.0, x.2, factors_end c.args.reader.now.tokens.now (sym c.in-None.ensures) (got_are x.0 x.1 [] x.3 x.4)),
      omega arith,
    )
