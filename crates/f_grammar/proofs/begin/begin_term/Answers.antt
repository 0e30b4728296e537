use Rattle.std.proofs.Common.{refl, sym, arith}
use Rattle.f_grammar.proofs.Steps.{one_more}
use Rattle.f_grammar.proofs.Beginning.{sum_begun}
use Rattle.f_grammar.proofs.begin.begin_term.Goals as goal

pub returns : goal.returns
returns c =
    let e = c.in_ok-push.ensures in
    let f = c.in_ok-push-2.ensures in
    let g = c.in_ok-push-3.ensures in
    let h = c.in_ok-push-4.ensures in
    let r = sum_begun c.args.reader.now.tokens.now (sym c.in_default.ensures) (sym c.in_default-take.ensures)
    (sym c.in_default-take-2.ensures) (sym c.in_default-take-3.ensures) (sym c.in_default-take-4.ensures) e f g h
    c.requires in
    (refl, r, omega (arith, one_more _ _ _ e, one_more _ _ _ f, one_more _ _ _ g, one_more _ _ _ h))
