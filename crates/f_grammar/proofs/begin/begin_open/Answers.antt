use Rattle.std.proofs.Common.{◌∷◌, ◌+◌, refl, arith}
use Rattle.std.proofs.lemmas.Result.{err_from_is_err_and}
use Rattle.text_core.specs.Table.{Nt}
use Rattle.f_grammar.specs.Machine.{LE, LNames, MakeOpen, body_owed}
use Rattle.f_grammar.specs.declared.cursor.Wanted.TheVariants as want
use Rattle.f_grammar.proofs.Follows.{names_owed}
use Rattle.f_grammar.proofs.Reaching.{stops_deep, stops_token}
use Rattle.f_grammar.proofs.Steps.{one_more}
use Rattle.f_grammar.proofs.Beginning.{no_names, open_word, open_owes, open_open, names_word, names_owes, open_1}
use Rattle.f_grammar.proofs.Beginning.{open_2, open_3, open_4, open_5, open_begun}
use Rattle.f_grammar.proofs.begin.begin_open.Goals as goal

pub returns-in_err-reader : goal.returns-in_err-reader
returns-in_err-reader c =
    let p = err_from_is_err_and c.from_residual.result c.from_residual.ensures.1 in
    rw (p.1, p.2)
    (stops_deep c.args.reader.now.tokens.now LE c.args.word (Nt LNames ∷ body_owed MakeOpen) _
    c.in_err-reader.ensures (open_word c.args.reader.now.tokens.now c.args.word c.requires.word c.requires.stays)
    (open_owes c.args.reader.now.tokens.now c.args.word c.requires.word c.requires.stays) refl c.requires.stays)

pub returns-in_err-expect : goal.returns-in_err-expect
returns-in_err-expect c =
    let p = err_from_is_err_and c.from_residual-in_err-expect.result c.from_residual-in_err-expect.ensures.1 in
    rw (p.1, p.2)
    (no_names c.args.reader.now.tokens.now _ c.in_err-expect.ensures
    (open_open c.args.reader.now.tokens.now c.args.word c.requires.word c.requires.stays _ c.in_ok-reader.ensures))

pub returns-in_err-reader-2 : goal.returns-in_err-reader-2
returns-in_err-reader-2 c =
    let p = err_from_is_err_and c.from_residual-in_err-reader-2.result c.from_residual-in_err-reader-2.ensures.1 in
    rw (p.1, p.2)
    (stops_deep c.args.reader.now.tokens.now LNames _ names_owed _ c.in_err-reader-2.ensures
    (names_word c.args.reader.now.tokens.now c.args.word c.requires.word c.requires.stays _ c.in_ok-reader.ensures
    _ c.in_ok-expect.ensures)
    (names_owes c.args.reader.now.tokens.now c.args.word c.requires.word c.requires.stays _ c.in_ok-reader.ensures _
    c.in_ok-expect.ensures) refl
    (open_open c.args.reader.now.tokens.now c.args.word c.requires.word c.requires.stays _ c.in_ok-reader.ensures))

pub returns-in_err-ty : goal.returns-in_err-ty
returns-in_err-ty c =
    let p = err_from_is_err_and c.from_residual-in_err-ty.result c.from_residual-in_err-ty.ensures.1 in
    rw (p.1, p.2)
    (stops_token c.args.reader.now.tokens.now want.Name _ c.in_err-ty.ensures
    (open_1 c.args.reader.now.tokens.now c.args.word c.requires.word c.requires.stays _ c.in_ok-reader.ensures _
    c.in_ok-expect.ensures _ c.in_ok-reader-2.ensures))

pub returns-in_err-expect-2 : goal.returns-in_err-expect-2
returns-in_err-expect-2 c =
    let p = err_from_is_err_and c.from_residual-in_err-expect-2.result c.from_residual-in_err-expect-2.ensures.1 in
    rw (p.1, p.2)
    (stops_token c.args.reader.now.tokens.now want.Comma _ c.in_err-expect-2.ensures
    (open_2 c.args.reader.now.tokens.now c.args.word c.requires.word c.requires.stays _ c.in_ok-reader.ensures _
    c.in_ok-expect.ensures _ c.in_ok-reader-2.ensures c.in_ok-ty.ty c.in_ok-ty.ensures))

pub returns-in_err-name : goal.returns-in_err-name
returns-in_err-name c =
    let p = err_from_is_err_and c.from_residual-in_err-name.result c.from_residual-in_err-name.ensures.1 in
    rw (p.1, p.2)
    (stops_token c.args.reader.now.tokens.now want.Name _ c.in_err-name.ensures
    (open_3 c.args.reader.now.tokens.now c.args.word c.requires.word c.requires.stays _ c.in_ok-reader.ensures _
    c.in_ok-expect.ensures _ c.in_ok-reader-2.ensures c.in_ok-ty.ty c.in_ok-ty.ensures _
    c.in_ok-expect-2.ensures))

pub returns-in_err-expect-3 : goal.returns-in_err-expect-3
returns-in_err-expect-3 c =
    let p = err_from_is_err_and c.from_residual-in_err-expect-3.result c.from_residual-in_err-expect-3.ensures.1 in
    rw (p.1, p.2)
    (stops_token c.args.reader.now.tokens.now want.RightBracket _ c.in_err-expect-3.ensures
    (open_4 c.args.reader.now.tokens.now c.args.word c.requires.word c.requires.stays _ c.in_ok-reader.ensures _
    c.in_ok-expect.ensures _ c.in_ok-reader-2.ensures c.in_ok-ty.ty c.in_ok-ty.ensures _ c.in_ok-expect-2.ensures
    c.in_ok-name.name c.in_ok-name.ensures))

pub overflow_sub-reader : goal.overflow_sub-reader
overflow_sub-reader c = let m = c.in_ok-reader-2.ensures in omega (arith, m.0)

pub returns-in_err-expect-4 : goal.returns-in_err-expect-4
returns-in_err-expect-4 c =
    let p = err_from_is_err_and c.from_residual-in_err-expect-4.result c.from_residual-in_err-expect-4.ensures.1 in
    let m = c.in_ok-reader-2.ensures in
    let l = c.in_ok-reader.ensures in
    rw (p.1, p.2)
    (stops_token c.args.reader.now.tokens.now want.Equals _ c.in_err-expect-4.ensures
    (open_5 c.args.reader.now.tokens.now c.args.word c.requires.word c.requires.stays _ c.in_ok-reader.ensures _
    c.in_ok-expect.ensures _ c.in_ok-reader-2.ensures c.in_ok-ty.ty c.in_ok-ty.ensures _ c.in_ok-expect-2.ensures
    c.in_ok-name.name c.in_ok-name.ensures _ c.in_ok-expect-3.ensures (c.args.reader.now.depth + 1)
    (omega (arith, m.0, l.0))))

pub returns : goal.returns
returns c =
    let e = c.in_ok-push.ensures in
    let m = c.in_ok-reader-2.ensures in
    let r = open_begun c.args.reader.now.tokens.now c.args.word c.requires.word c.requires.stays _
    c.in_ok-reader.ensures _ c.in_ok-expect.ensures _ c.in_ok-reader-2.ensures c.in_ok-ty.ty c.in_ok-ty.ensures _
    c.in_ok-expect-2.ensures c.in_ok-name.name c.in_ok-name.ensures _ c.in_ok-expect-3.ensures _
    (omega (arith, m.0)) _ c.in_ok-expect-4.ensures e in
    (refl, r, omega (arith, one_more _ _ _ e, r.in_range))
