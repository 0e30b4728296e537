use Rattle.std.proofs.Common.{[], ◌∷◌, refl, arith}
use Rattle.std.proofs.lemmas.Result.{err_from_is_err_and}
use Rattle.text_core.specs.Table.{Tm, Nt, Mark}
use Rattle.f_grammar.specs.Machine.{LE, LT, LHidden}
use Rattle.f_grammar.specs.declared.cursor.Wanted.TheVariants as want
use Rattle.f_grammar.specs.Frames.{shape_owed}
use Rattle.f_grammar.proofs.Follows.{hidden_owed}
use Rattle.f_grammar.proofs.Reaching.{stops, stops_deep, stops_token}
use Rattle.f_grammar.proofs.Steps.{one_more}
use Rattle.f_grammar.proofs.Beginning.{no_hidden, pack_open, hidden_word, hidden_owes, hidden_open, hidden_typed}
use Rattle.f_grammar.proofs.Beginning.{pack_begun}
use Rattle.f_grammar.proofs.begin.begin_pack.Goals as goal

pub returns-in_err-expect : goal.returns-in_err-expect
returns-in_err-expect c =
    let p = err_from_is_err_and c.from_residual.result c.from_residual.ensures.1 in
    let ts = c.args.reader.now.tokens.now in
    rw (p.1, p.2) (no_hidden ts _ c.in_err-expect.ensures (pack_open ts c.args.word c.requires.word c.requires.stays))

pub returns-in_err-reader : goal.returns-in_err-reader
returns-in_err-reader c =
    let p = err_from_is_err_and c.from_residual-in_err-reader.result c.from_residual-in_err-reader.ensures.1 in
    let ts = c.args.reader.now.tokens.now in
    let o = pack_open ts c.args.word c.requires.word c.requires.stays in
    rw (p.1, p.2)
    (stops_deep ts LHidden _ hidden_owed _ c.in_err-reader.ensures
    (hidden_word ts c.args.word c.requires.word c.requires.stays _ c.in_ok-expect.ensures)
    (hidden_owes ts c.args.word c.requires.word c.requires.stays _ c.in_ok-expect.ensures) refl o)

pub whole_type-requires-clause-at : goal.whole_type-requires-clause-at
whole_type-requires-clause-at c =
    let r = hidden_open c.args.reader.now.tokens.now c.args.word c.requires.word c.requires.stays _
    c.in_ok-expect.ensures _ c.in_ok-reader.ensures in
    r.in_range

pub returns-in_err-found : goal.returns-in_err-found
returns-in_err-found c =
    let p = err_from_is_err_and c.from_residual-in_err-found.result c.from_residual-in_err-found.ensures.1 in
    let ts = c.args.reader.now.tokens.now in
    rw (p.1, p.2)
    (stops ts (Tm want.Comma ∷ (Nt LE ∷ (Tm want.RightBracket ∷ (Mark ∷ shape_owed))))
    (Nt LT ∷ []) _ refl c.in_err-found.ensures
    (hidden_open ts c.args.word c.requires.word c.requires.stays _ c.in_ok-expect.ensures _ c.in_ok-reader.ensures))

pub returns-in_err-expect-2 : goal.returns-in_err-expect-2
returns-in_err-expect-2 c =
    let p = err_from_is_err_and c.from_residual-in_err-expect-2.result c.from_residual-in_err-expect-2.ensures.1 in
    let ts = c.args.reader.now.tokens.now in
    rw (p.1, p.2) (stops_token ts want.Comma _ c.in_err-expect-2.ensures
    (hidden_typed ts c.args.word c.requires.word c.requires.stays _ c.in_ok-expect.ensures _ c.in_ok-reader.ensures
    c.in_ok-found.found c.in_ok-found.ensures))

pub returns : goal.returns
returns c =
    let e = c.in_ok-push.ensures in
    let h = c.in_ok-found.ensures in
    let r = pack_begun c.args.reader.now.tokens.now c.args.word c.requires.word c.requires.stays _
    c.in_ok-expect.ensures _ c.in_ok-reader.ensures c.in_ok-found.found h _ c.in_ok-expect-2.ensures e in
    (refl, r, omega (arith, one_more _ _ _ e, h.forward, r.in_range))
