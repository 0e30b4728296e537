use Rattle.std.proofs.Common.{[], ◌∷◌, refl, arith}
use Rattle.std.proofs.lemmas.Result.{err_from_is_err_and}
use Rattle.text_core.specs.Table.{Tm, Nt, Do, Mark}
use Rattle.f_grammar.specs.Machine.{LT, MoreParts, MakeInst}
use Rattle.f_grammar.specs.declared.cursor.Wanted.TheVariants as want
use Rattle.f_grammar.proofs.Follows.{bracket_owed}
use Rattle.f_grammar.proofs.Reaching.{stops, stops_token, stops_deep}
use Rattle.f_grammar.proofs.Steps.{one_more, got_are, one_child}
use Rattle.f_grammar.proofs.Operands.{bracket, bracket_is, bracket_owes, bracket_opened, bracket_typed, inst_given}
use Rattle.f_grammar.proofs.resume.bracket.Goals as goal

pub returns-in_err-inner : goal.returns-in_err-inner
returns-in_err-inner c =
    let p = err_from_is_err_and c.from_residual.result c.from_residual.ensures.1 in
    let ts = c.args.reader.now.tokens.now in
    let x = c.requires.offered in
    let r = got_are x.0 x.1 [] x.3 x.4 in
    rw (p.1, p.2)
    (stops_deep ts MoreParts (bracket ts c.requires.bracket r) bracket_owed _ c.in_err-inner.ensures
    (bracket_is ts c.requires.bracket r) (bracket_owes ts c.requires.bracket r) refl r)

pub returns-in_err-found : goal.returns-in_err-found
returns-in_err-found c =
    let p = err_from_is_err_and c.from_residual-in_err-found.result c.from_residual-in_err-found.ensures.1 in
    let ts = c.args.reader.now.tokens.now in
    let x = c.requires.offered in
    let r = got_are x.0 x.1 [] x.3 x.4 in
    rw (p.1, p.2)
    (stops ts (Tm want.RightBracket ∷ (Mark ∷ (Do MakeInst ∷ (Nt MoreParts ∷ []))))
    (Nt LT ∷ []) _ refl c.in_err-found.ensures (bracket_opened ts c.requires.bracket r c.in_ok-inner.ensures))

pub returns-in_err-close : goal.returns-in_err-close
returns-in_err-close c =
    let p = err_from_is_err_and c.from_residual-in_err-close.result c.from_residual-in_err-close.ensures.1 in
    let ts = c.args.reader.now.tokens.now in
    let x = c.requires.offered in
    let r = got_are x.0 x.1 [] x.3 x.4 in
    rw (p.1, p.2)
    (stops_token ts want.RightBracket _ c.in_err-close.ensures
    (bracket_typed ts c.requires.bracket r c.in_ok-found.found c.in_ok-inner.ensures c.in_ok-found.ensures))

pub whole_type-requires-clause-at : goal.whole_type-requires-clause-at
whole_type-requires-clause-at c =
    let x = c.requires.offered in
    let r = bracket_opened c.args.reader.now.tokens.now c.requires.bracket (got_are x.0 x.1 [] x.3 x.4)
    c.in_ok-inner.ensures in
    r.in_range

pub put-requires : goal.put-requires
put-requires c = λ f. one_child c.requires.offered.2 f

pub returns : goal.returns
returns c =
    let ts = c.args.reader.now.tokens.now in
    let x = c.requires.offered in
    let r = got_are x.0 x.1 [] x.3 x.4 in
    let e = c.in_ok-push.ensures in
    let h = c.in_ok-found.ensures in
    let g = inst_given ts c.requires.bracket r c.in_ok-found.found c.in_ok-close.close x.2 c.in_ok-inner.ensures h
    c.in_ok-close.ensures c.in_ok-part.ensures e in
    (refl, (g.piece, g.stands, g.reached), omega (arith, one_more _ _ _ e, h.forward, g.reached.in_range))
