use Rattle.std.proofs.Common.{ℕ, [], ◌∷◌, ◌+◌, refl, ap, arith}
use Rattle.std.proofs.lemmas.Result.{err_from_is_err_and}
use Rattle.idx_core.specs.declared.span.Span.{Span}
use Rattle.text_core.specs.Table.{Tm, Do}
use Rattle.t_text.specs.declared.wanted.Wanted.TheVariants as want
use Rattle.t_text.specs.GrammarTable.{MakeTo}
use Rattle.t_shapes.proofs.Stepping.{within, by_token, by_two, by_do, stop_token}
use Rattle.t_shapes.proofs.Bracketed.{to_goes}
use Rattle.t_text.specs.Kept.{tokens_of}
use Rattle.t_shapes.proofs.parts.operand.Goals as goal

pub returns-in_err-reg : goal.returns-in_err-reg
returns-in_err-reg c =
    let ts = tokens_of c.args.tokens.now in
    let i = c.args.at in
    let p = err_from_is_err_and c.from_residual.result c.from_residual.ensures.1 in
    rw (p.1, p.2) (stop_token _ want.Register (Tm want.Comma ∷ (Do MakeTo ∷ [])) [] (to_goes ts i) c.in_err-reg.ensures)

pub returns-in_err-expect : goal.returns-in_err-expect
returns-in_err-expect c =
    let ts = tokens_of c.args.tokens.now in
    let i = c.args.at in
    let g = c.in_ok-reg.ensures in
    let m = by_token want.Register g.0 (Tm want.Comma ∷ (Do MakeTo ∷ [])) [] (to_goes ts i) g.1 (omega arith) in
    let p = err_from_is_err_and c.from_residual-in_err-expect.result c.from_residual-in_err-expect.ensures.1 in
    rw (p.1, p.2) (stop_token _ want.Comma (Do MakeTo ∷ []) _ m c.in_err-expect.ensures)

pub returns : goal.returns
returns c =
    let ts = tokens_of c.args.tokens.now in
    let i = c.args.at in
    let g = c.in_ok-reg.ensures in
    let l = within ts (i + 1) want.Comma _ c.in_ok-expect.ensures in
    let e = ap (λ (p : ℕ × Span). p.0) g.2 in
    rw e (record {
      forward = omega arith;
      in_range = omega (arith, l);
      same = by_do MakeTo [] _ _
          (by_two want.Register want.Comma g.0 _ (Do MakeTo ∷ []) [] (to_goes ts i) (g.1, c.in_ok-expect.ensures)
          (omega arith)) (λ below. refl);
    })
