use Rattle.std.proofs.Common.{refl, arith}
use Rattle.std.proofs.lemmas.Result.{err_from_is_err_and}
use Rattle.t_text.specs.declared.wanted.Wanted.TheVariants as want
use Rattle.t_text.specs.GrammarTable.{LBinds, LNames, MakeBinds, OfNames}
use Rattle.t_shapes.proofs.Stepping.{within, not_opening, too_deep, bracketed, bracketed_stops}
use Rattle.t_shapes.proofs.TypeLines.{opens_binds}
use Rattle.t_text.specs.Kept.{tokens_of}
use Rattle.t_shapes.proofs.names.binds.Goals as goal

pub returns-in_err-expect : goal.returns-in_err-expect
returns-in_err-expect c =
    let p = err_from_is_err_and c.from_residual.result c.from_residual.ensures.1 in
    rw (p.1, p.2)
    (not_opening (tokens_of c.args.tokens.now) c.args.depth c.args.at _ LBinds want.LeftBracket _ opens_binds refl
    c.in_err-expect.ensures)

pub returns-in_err-inner : goal.returns-in_err-inner
returns-in_err-inner c =
    let p = err_from_is_err_and c.from_residual-in_err-inner.result c.from_residual-in_err-inner.ensures.1 in
    rw (p.1, p.2)
    (too_deep (tokens_of c.args.tokens.now) c.args.depth c.args.at _ _ LBinds want.LeftBracket _ opens_binds
    c.in_ok-expect.ensures refl c.in_err-inner.ensures)

pub names-requires-clause-at : goal.names-requires-clause-at
names-requires-clause-at c =
    let l = within (tokens_of c.args.tokens.now) c.args.at want.LeftBracket _ c.in_ok-expect.ensures in
    omega (arith, l)

pub returns-in_err-found : goal.returns-in_err-found
returns-in_err-found c =
    let p = err_from_is_err_and c.from_residual-in_err-found.result c.from_residual-in_err-found.ensures.1 in
    let q = c.in_ok-inner.ensures in
    rw (p.1, p.2)
    (bracketed_stops (tokens_of c.args.tokens.now) c.args.depth c.args.at _ LBinds LNames want.LeftBracket
    MakeBinds opens_binds c.in_ok-expect.ensures _ q.1 q.0 _ c.in_err-found.ensures)

pub returns : goal.returns
returns c =
    let q = c.in_ok-inner.ensures in
    let f = c.in_ok-found.found in
    bracketed (tokens_of c.args.tokens.now) c.args.depth c.args.at _ LBinds LNames want.LeftBracket MakeBinds
    opens_binds c.in_ok-expect.ensures _ q.1 q.0 f.next (OfNames f.names.items) (OfNames f.names.items)
    c.in_ok-found.ensures (λ below. refl)
