use Rattle.std.proofs.Common.{ℕ, [], ◌∷◌, ◌+◌, refl, ap, arith}
use Rattle.std.proofs.lemmas.Result.{err_from_is_err_and}
use Rattle.idx_core.specs.declared.span.Span.{Span}
use Rattle.text_core.specs.Table.{Tm, Do, Mark}
use Rattle.t_text.specs.declared.wanted.Wanted.TheVariants as want
use Rattle.t_text.specs.GrammarTable.{LTarget, MakeTarget}
use Rattle.t_shapes.proofs.Stepping.{within, by_token, by_two, by_do, by_mark, by_same, stop_token, stop_two, opening}
use Rattle.t_shapes.proofs.Stepping.{not_opening}
use Rattle.t_shapes.proofs.Lines.{opens_target}
use Rattle.t_text.specs.Kept.{tokens_of}
use Rattle.t_shapes.proofs.parts.target.Goals as goal

pub returns-in_err-expect : goal.returns-in_err-expect
returns-in_err-expect c =
    let ts = tokens_of c.args.tokens.now in
    let i = c.args.at in
    let p = err_from_is_err_and c.from_residual.result c.from_residual.ensures.1 in
    rw (p.1, p.2) (not_opening ts 0 i _ LTarget want.LeftBracket _ opens_target refl c.in_err-expect.ensures)

pub returns-in_err-name : goal.returns-in_err-name
returns-in_err-name c =
    let ts = tokens_of c.args.tokens.now in
    let i = c.args.at in
    let m = opening ts 0 i _ LTarget want.LeftBracket
    (Tm want.Name ∷ (Tm want.Comma ∷ (Tm want.Register ∷ (Tm want.RightBracket ∷ (Mark ∷ (Do MakeTarget ∷ []))))))
    opens_target c.in_ok-expect.ensures (omega arith) in
    let p = err_from_is_err_and c.from_residual-in_err-name.result c.from_residual-in_err-name.ensures.1 in
    rw (p.1, p.2)
    (stop_two _ want.Name want.Comma (Tm want.Register ∷ (Tm want.RightBracket ∷ (Mark ∷ (Do MakeTarget ∷ [])))) _
    m (omega arith) c.in_err-name.ensures)

pub returns-in_err-reg : goal.returns-in_err-reg
returns-in_err-reg c =
    let ts = tokens_of c.args.tokens.now in
    let i = c.args.at in
    let m = opening ts 0 i _ LTarget want.LeftBracket
    (Tm want.Name ∷ (Tm want.Comma ∷ (Tm want.Register ∷ (Tm want.RightBracket ∷ (Mark ∷ (Do MakeTarget ∷ []))))))
    opens_target c.in_ok-expect.ensures (omega arith) in
    let n = by_same {k = i + 3} (omega arith)
    (by_two want.Name want.Comma _ _ (Tm want.Register ∷ (Tm want.RightBracket ∷ (Mark ∷ (Do MakeTarget ∷ [])))) _
    m c.in_ok-name.ensures (omega arith)) in
    let p = err_from_is_err_and c.from_residual-in_err-reg.result c.from_residual-in_err-reg.ensures.1 in
    rw (p.1, p.2)
    (stop_token _ want.Register (Tm want.RightBracket ∷ (Mark ∷ (Do MakeTarget ∷ []))) _ n c.in_err-reg.ensures)

pub returns-in_err-expect-2 : goal.returns-in_err-expect-2
returns-in_err-expect-2 c =
    let ts = tokens_of c.args.tokens.now in
    let i = c.args.at in
    let g = c.in_ok-reg.ensures in
    let m = opening ts 0 i _ LTarget want.LeftBracket
    (Tm want.Name ∷ (Tm want.Comma ∷ (Tm want.Register ∷ (Tm want.RightBracket ∷ (Mark ∷ (Do MakeTarget ∷ []))))))
    opens_target c.in_ok-expect.ensures (omega arith) in
    let n = by_same {k = i + 3} (omega arith)
    (by_two want.Name want.Comma _ _ (Tm want.Register ∷ (Tm want.RightBracket ∷ (Mark ∷ (Do MakeTarget ∷ [])))) _
    m c.in_ok-name.ensures (omega arith)) in
    let o = by_same {k = i + 4} (omega arith)
    (by_token want.Register g.0 (Tm want.RightBracket ∷ (Mark ∷ (Do MakeTarget ∷ []))) _ n g.1 (omega arith)) in
    let p = err_from_is_err_and c.from_residual-in_err-expect-2.result c.from_residual-in_err-expect-2.ensures.1 in
    rw (p.1, p.2) (stop_token _ want.RightBracket (Mark ∷ (Do MakeTarget ∷ [])) _ o c.in_err-expect-2.ensures)

pub returns : goal.returns
returns c =
    let ts = tokens_of c.args.tokens.now in
    let i = c.args.at in
    let g = c.in_ok-reg.ensures in
    let m = opening ts 0 i _ LTarget want.LeftBracket
    (Tm want.Name ∷ (Tm want.Comma ∷ (Tm want.Register ∷ (Tm want.RightBracket ∷ (Mark ∷ (Do MakeTarget ∷ []))))))
    opens_target c.in_ok-expect.ensures (omega arith) in
    let n = by_same {k = i + 3} (omega arith)
    (by_two want.Name want.Comma _ _ (Tm want.Register ∷ (Tm want.RightBracket ∷ (Mark ∷ (Do MakeTarget ∷ [])))) _
    m c.in_ok-name.ensures (omega arith)) in
    let o = by_same {k = i + 4} (omega arith)
    (by_token want.Register g.0 (Tm want.RightBracket ∷ (Mark ∷ (Do MakeTarget ∷ []))) _ n g.1 (omega arith)) in
    let l = within ts (i + 4) want.RightBracket _ c.in_ok-expect-2.ensures in
    let e = ap (λ (p : ℕ × Span). p.0) g.2 in
    rw e (record {
      forward = omega arith;
      in_range = omega (arith, l);
      same = by_same (omega arith)
          (by_do MakeTarget [] _ _
          (by_mark (Do MakeTarget ∷ []) _
          (by_token want.RightBracket _ (Mark ∷ (Do MakeTarget ∷ [])) _ o c.in_ok-expect-2.ensures (omega arith)))
          (λ below. refl));
    })
