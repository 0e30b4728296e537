use Rattle.std.proofs.Common.{◌≡◌, ◌+◌, refl, arith, inl}
use Rattle.std.proofs.lemmas.Result.{err_from_is_err_and}
use Rattle.t_text.specs.declared.wanted.Wanted.TheVariants as want
use Rattle.t_text.specs.GrammarTable.{LIndex, MakeIndex}
use Rattle.t_shapes.proofs.Stepping.{not_opening}
use Rattle.t_shapes.proofs.Lines.{opens_index}
use Rattle.t_shapes.proofs.Bracketed.{two_stop, second_stop, two_read}
use Rattle.t_text.specs.Kept.{tokens_of}
use Rattle.t_shapes.proofs.parts.index.Goals as goal

pub returns-in_err-expect : goal.returns-in_err-expect
returns-in_err-expect c =
    let ts = tokens_of c.args.tokens.now in
    let i = c.args.at in
    let p = err_from_is_err_and c.from_residual.result c.from_residual.ensures.1 in
    rw (p.1, p.2) (not_opening ts 0 i _ LIndex want.LeftBracket _ opens_index refl c.in_err-expect.ensures)

pub returns-in_err-field : goal.returns-in_err-field
returns-in_err-field c =
    let ts = tokens_of c.args.tokens.now in
    let i = c.args.at in
    let p = err_from_is_err_and c.from_residual-in_err-field.result c.from_residual-in_err-field.ensures.1 in
    rw (p.1, p.2)
    (two_stop ts i LIndex want.Number want.RightBracket MakeIndex opens_index _ c.in_ok-expect.ensures _
    (inl c.in_err-field.ensures))

pub returns-in_err-close : goal.returns-in_err-close
returns-in_err-close c =
    let ts = tokens_of c.args.tokens.now in
    let i = c.args.at in
    let g = c.in_ok-field.ensures in
    let p = err_from_is_err_and c.from_residual-in_err-close.result c.from_residual-in_err-close.ensures.1 in
    rw (p.1, p.2)
    (second_stop ts i LIndex want.Number want.RightBracket MakeIndex opens_index _ c.in_ok-expect.ensures g.0
    (i + 2) (omega arith) g.1 _ c.in_err-close.ensures)

pub returns : goal.returns
returns c =
    let ts = tokens_of c.args.tokens.now in
    let i = c.args.at in
    let g = c.in_ok-field.ensures in
    let q : i + 2 ≡ i + 1 + 1 = omega arith in
    rw g.2 (two_read ts i LIndex want.Number want.RightBracket MakeIndex opens_index _ c.in_ok-expect.ensures g.0
    c.in_ok-close.close _ (g.1, rw q at c.in_ok-close.ensures) (λ below. refl))
