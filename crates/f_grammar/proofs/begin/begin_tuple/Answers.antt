use Rattle.std.proofs.Common.{[], ◌∷◌, refl, sym, arith}
use Rattle.std.proofs.lemmas.Result.{err_from_is_err_and}
use Rattle.text_core.specs.Table.{Nt, Do, Mark}
use Rattle.f_grammar.specs.Machine.{LP, LFields, MakeTuple}
use Rattle.f_grammar.proofs.Reaching.{stops_deep}
use Rattle.f_grammar.proofs.Steps.{one_more}
use Rattle.f_grammar.proofs.Beginning.{unit_given, first_begun}
use Rattle.f_grammar.proofs.begin.begin_tuple.Goals as goal

pub returns-in_err-inner : goal.returns-in_err-inner
returns-in_err-inner c =
    let p = err_from_is_err_and c.from_residual.result c.from_residual.ensures.1 in
    rw (p.1, p.2)
    (stops_deep c.args.reader.now.tokens.now LP c.args.left (Nt LFields ∷ (Mark ∷ (Do MakeTuple ∷ []))) _
    c.in_err-inner.ensures c.requires.token (rw c.requires.kind refl) refl c.requires.stays)

pub returns-in_ok-part-in-Some : goal.returns-in_ok-part-in-Some
returns-in_ok-part-in-Some c =
    let g = unit_given c.args.reader.now.tokens.now c.args.left c.requires.token c.requires.stays c.in-Some.close
    c.new.result c.requires.kind c.in_ok-inner.ensures (sym c.in-Some.ensures) c.new.ensures.items
    c.in_ok-part-in-Some.ensures in
    (refl, (g.piece, g.stands, g.reached), omega (arith, g.reached.in_range))

pub returns-in_ok-push-in-None : goal.returns-in_ok-push-in-None
returns-in_ok-push-in-None c =
    let e = c.in_ok-push-in-None.ensures in
    let r = first_begun c.args.reader.now.tokens.now c.args.left c.requires.token c.requires.stays c.requires.kind
    c.in_ok-inner.ensures (sym c.in-None.ensures) e in
    (refl, r, omega (arith, one_more _ _ _ e, r.in_range))
