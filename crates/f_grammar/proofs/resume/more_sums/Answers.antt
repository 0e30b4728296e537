use Rattle.std.proofs.Common.{[], refl, sym, ◌∙◌, arith}
use Rattle.f_grammar.proofs.Steps.{one_more, got_are}
use Rattle.f_grammar.proofs.Operands.{sign_begun, sums_end}
use Rattle.f_grammar.proofs.resume.more_sums.Goals as goal

pub returns-in_ok-push-in-Some-4 : goal.returns-in_ok-push-in-Some-4
returns-in_ok-push-in-Some-4 c =
    let x = c.requires in
    let d = c.in_ok-push-in-Some.ensures in
    let e = c.in_ok-push-in-Some-2.ensures in
    let f = c.in_ok-push-in-Some-3.ensures in
    let g = c.in_ok-push-in-Some-4.ensures in
    let r = sign_begun c.args.reader.now.tokens.now x.0 x.2 (sym c.next_sign.ensures ∙ c.in-Some.is) d e f g
    (got_are x.0 x.1 [] x.3 x.4) in
    (refl, r, omega (arith, one_more _ _ _ d, one_more _ _ _ e, one_more _ _ _ f, one_more _ _ _ g, r.in_range))

pub returns-in-None : goal.returns-in-None
returns-in-None c =
    let x = c.requires in (
      refl,
      (
        x.0,
        x.2,
        sums_end c.args.reader.now.tokens.now (sym c.next_sign.ensures ∙ c.in-None.is)
            (got_are x.0 x.1 [] x.3 x.4),
      ),
      omega arith,
    )
