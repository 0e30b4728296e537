use Rattle.std.proofs.Common.{ℕ, [], ◌∷◌, ◌+◌, refl, ap, arith}
use Rattle.std.proofs.lemmas.Result.{err_from_is_err_and}
use Rattle.idx_core.specs.declared.span.Span.{Span}
use Rattle.text_core.specs.Table.{Tm, Nt, Do}
use Rattle.t_text.specs.declared.wanted.Wanted.TheVariants as want
use Rattle.t_text.specs.GrammarTable.{LAt, MakeSt, OfToken}
use Rattle.t_shapes.proofs.Stepping.{within, by_token, by_call, by_do, by_same, stop_token, stop_call}
use Rattle.t_shapes.proofs.Bracketed.{starting}
use Rattle.t_shapes.specs.Reads.{st_left}
use Rattle.t_text.specs.Kept.{tokens_of}
use Rattle.t_shapes.proofs.steps.st.Goals as goal

pub returns-in_err-found : goal.returns-in_err-found
returns-in_err-found c =
    let ts = tokens_of c.args.tokens.now in
    let i = c.args.at in
    let w = c.args.word in
    let s = starting ts 0 i (st_left) (OfToken w ∷ []) in
    let p = err_from_is_err_and c.from_residual.result c.from_residual.ensures.1 in
    rw (p.1, p.2)
    (stop_call _ (Nt LAt ∷ []) 0 (Tm want.Comma ∷ (Tm want.Register ∷ (Do MakeSt ∷ []))) (OfToken w ∷ []) s
    (omega arith) c.in_err-found.ensures)

pub returns-in_err-expect : goal.returns-in_err-expect
returns-in_err-expect c =
    let ts = tokens_of c.args.tokens.now in
    let i = c.args.at in
    let w = c.args.word in
    let s = starting ts 0 i (st_left) (OfToken w ∷ []) in
    let m1 = by_call 0 (Tm want.Comma ∷ (Tm want.Register ∷ (Do MakeSt ∷ []))) (OfToken w ∷ []) s
    (omega arith) c.in_ok-found.ensures.same in
    let p = err_from_is_err_and c.from_residual-in_err-expect.result c.from_residual-in_err-expect.ensures.1 in
    rw (p.1, p.2) (stop_token _ want.Comma (Tm want.Register ∷ (Do MakeSt ∷ [])) _ m1 c.in_err-expect.ensures)

pub returns-in_err-reg : goal.returns-in_err-reg
returns-in_err-reg c =
    let ts = tokens_of c.args.tokens.now in
    let i = c.args.at in
    let w = c.args.word in
    let s = starting ts 0 i (st_left) (OfToken w ∷ []) in
    let m1 = by_call 0 (Tm want.Comma ∷ (Tm want.Register ∷ (Do MakeSt ∷ []))) (OfToken w ∷ []) s
    (omega arith) c.in_ok-found.ensures.same in
    let m2 = by_same {k = i + 5} (omega arith)
    (by_token want.Comma _ (Tm want.Register ∷ (Do MakeSt ∷ [])) _ m1 c.in_ok-expect.ensures (omega arith)) in
    let p = err_from_is_err_and c.from_residual-in_err-reg.result c.from_residual-in_err-reg.ensures.1 in
    rw (p.1, p.2) (stop_token _ want.Register (Do MakeSt ∷ []) _ m2 c.in_err-reg.ensures)

pub returns : goal.returns
returns c =
    let ts = tokens_of c.args.tokens.now in
    let i = c.args.at in
    let w = c.args.word in
    let g = c.in_ok-reg.ensures in
    let s = starting ts 0 i (st_left) (OfToken w ∷ []) in
    let m1 = by_call 0 (Tm want.Comma ∷ (Tm want.Register ∷ (Do MakeSt ∷ []))) (OfToken w ∷ []) s
    (omega arith) c.in_ok-found.ensures.same in
    let m2 = by_same {k = i + 5} (omega arith)
    (by_token want.Comma _ (Tm want.Register ∷ (Do MakeSt ∷ [])) _ m1 c.in_ok-expect.ensures (omega arith)) in
    let l = within ts (i + 5) want.Register _ g.1 in
    let e = ap (λ (p : ℕ × Span). p.0) g.2 in
    let f = ap (λ (p : ℕ × Span). p.1) g.2 in
    rw (c.up_to.ensures, e, f) (record {
      forward = omega arith;
      in_range = omega (arith, l);
      same = by_same (omega arith)
          (by_do MakeSt [] _ _ (by_token want.Register g.0 (Do MakeSt ∷ []) _ m2 g.1 (omega arith)) (λ below. refl));
    })
