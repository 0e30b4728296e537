use Rattle.std.proofs.Common.{◌+◌, sym, ◌∙◌, arith}
use Rattle.std.proofs.lemmas.Result.{err_from_is_err_and}
use Rattle.t_text.specs.declared.wanted.Wanted.TheVariants as want
use Rattle.t_shapes.proofs.Stepping.{within}
use Rattle.t_shapes.proofs.Based.{base_alone, args_too_deep, args_stop, base_applied}
use Rattle.t_text.specs.Kept.{tokens_of}
use Rattle.t_shapes.proofs.values.plain.Goals as goal

pub returns-in_err-inner-in-Some : goal.returns-in_err-inner-in-Some
returns-in_err-inner-in-Some c = λ b k.
    let ts = tokens_of c.args.tokens.now in
    let d = c.args.depth in
    let i = c.args.first.at in
    let p = err_from_is_err_and c.from_residual.result c.from_residual.ensures.1 in
    rw (p.1, p.2)
    (args_too_deep b ts d i _ c.requires.token k c.requires.depth _ (sym c.take.ensures ∙ c.in-Some.is)
    _ c.in_err-inner-in-Some.ensures)

pub some_types-requires-clause-at : goal.some_types-requires-clause-at
some_types-requires-clause-at c =
    let ts = tokens_of c.args.tokens.now in
    let d = c.args.depth in
    let i = c.args.first.at in
    let l = within ts (i + 1) want.LeftBracket _ (sym c.take.ensures ∙ c.in-Some.is) in omega (arith, l)

pub returns-in_err-found-in-Some : goal.returns-in_err-found-in-Some
returns-in_err-found-in-Some c = λ b k.
    let ts = tokens_of c.args.tokens.now in
    let d = c.args.depth in
    let i = c.args.first.at in
    let p = err_from_is_err_and c.from_residual-in_err-found-in-Some.result
    c.from_residual-in_err-found-in-Some.ensures.1 in
    rw (p.1, p.2)
    (args_stop b ts d i _ c.requires.token k c.requires.depth _ (sym c.take.ensures ∙ c.in-Some.is)
    c.in_ok-inner-in-Some.ensures.1 _ c.in_ok-inner-in-Some.ensures.0 _ c.in_err-found-in-Some.ensures)

pub returns-in-None : goal.returns-in-None
returns-in-None c = λ b k.
    let ts = tokens_of c.args.tokens.now in
    let d = c.args.depth in
    let i = c.args.first.at in
    rw (c.requires.base, c.new.ensures.items)
    (base_alone b ts d i _ c.requires.token k c.requires.depth (sym c.take.ensures ∙ c.in-None.is))

pub returns-in_ok-found-in-Some : goal.returns-in_ok-found-in-Some
returns-in_ok-found-in-Some c = λ b k.
    let ts = tokens_of c.args.tokens.now in
    let d = c.args.depth in
    let i = c.args.first.at in
    rw (c.requires.base, c.up_to.ensures)
    (base_applied b ts d i _ c.requires.token k c.requires.depth _ (sym c.take.ensures ∙ c.in-Some.is)
    c.in_ok-inner-in-Some.ensures.1 _ c.in_ok-inner-in-Some.ensures.0 _ _ _ c.in_ok-found-in-Some.ensures)
