use Rattle.std.proofs.Common.{refl, arith}
use Rattle.std.proofs.lemmas.Result.{err_from_is_err_and}
use Rattle.t_text.specs.declared.wanted.Wanted.TheVariants as want
use Rattle.t_text.specs.GrammarTable.{LTypes, LTypeList, MakeTypes}
use Rattle.t_shapes.proofs.Stepping.{within, not_opening, too_deep, bracketed, bracketed_stops}
use Rattle.t_shapes.proofs.Lines.{opens_types}
use Rattle.t_text.specs.Kept.{tokens_of}
use Rattle.t_shapes.proofs.lists.types.Goals as goal

pub returns-in_err-expect : goal.returns-in_err-expect
returns-in_err-expect c =
    let ts = tokens_of c.args.tokens.now in
    let d = c.args.depth in
    let i = c.args.at in
    let p = err_from_is_err_and c.from_residual.result c.from_residual.ensures.1 in
    rw (p.1, p.2) (not_opening ts d i _ LTypes want.LeftBracket _ opens_types refl c.in_err-expect.ensures)

pub returns-in_err-inner : goal.returns-in_err-inner
returns-in_err-inner c =
    let ts = tokens_of c.args.tokens.now in
    let d = c.args.depth in
    let i = c.args.at in
    let p = err_from_is_err_and c.from_residual-in_err-inner.result c.from_residual-in_err-inner.ensures.1 in
    rw (p.1, p.2)
    (too_deep ts d i _ _ LTypes want.LeftBracket _ opens_types c.in_ok-expect.ensures refl c.in_err-inner.ensures)

pub type_list-requires-clause-at : goal.type_list-requires-clause-at
type_list-requires-clause-at c =
    let ts = tokens_of c.args.tokens.now in
    let d = c.args.depth in
    let i = c.args.at in
    let l = within ts i want.LeftBracket _ c.in_ok-expect.ensures in omega (arith, l)

pub returns-in_err-found : goal.returns-in_err-found
returns-in_err-found c =
    let ts = tokens_of c.args.tokens.now in
    let d = c.args.depth in
    let i = c.args.at in
    let p = err_from_is_err_and c.from_residual-in_err-found.result c.from_residual-in_err-found.ensures.1 in
    rw (p.1, p.2)
    (bracketed_stops ts d i _ LTypes LTypeList want.LeftBracket MakeTypes opens_types c.in_ok-expect.ensures _
    c.in_ok-inner.ensures.1 c.in_ok-inner.ensures.0 _ c.in_err-found.ensures)

pub returns : goal.returns
returns c =
    let ts = tokens_of c.args.tokens.now in
    let d = c.args.depth in
    let i = c.args.at in
    bracketed ts d i _ LTypes LTypeList want.LeftBracket MakeTypes opens_types c.in_ok-expect.ensures _
    c.in_ok-inner.ensures.1 c.in_ok-inner.ensures.0 c.in_ok-found.found.next _ _ c.in_ok-found.ensures
    (λ below. refl)
