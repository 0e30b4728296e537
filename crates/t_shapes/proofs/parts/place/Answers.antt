use Rattle.std.proofs.Common.{ℕ, [], ◌∷◌, refl, ap, arith}
use Rattle.std.proofs.lemmas.Result.{err_from_is_err_and}
use Rattle.idx_core.specs.declared.span.Span.{Span}
use Rattle.text_core.specs.Table.{Nt, Do}
use Rattle.t_text.specs.declared.wanted.Wanted.TheVariants as want
use Rattle.t_text.specs.GrammarTable.{MakeAt, LIndex}
use Rattle.t_shapes.proofs.Stepping.{within, by_token, by_call, by_do, by_same, stop_token, stop_call}
use Rattle.t_shapes.proofs.Bracketed.{at_goes}
use Rattle.t_text.specs.Kept.{tokens_of}
use Rattle.t_shapes.proofs.parts.place.Goals as goal

pub returns-in_err-reg : goal.returns-in_err-reg
returns-in_err-reg c =
    let ts = tokens_of c.args.tokens.now in
    let i = c.args.at in
    let p = err_from_is_err_and c.from_residual.result c.from_residual.ensures.1 in
    rw (p.1, p.2) (stop_token _ want.Register (Nt LIndex ∷ (Do MakeAt ∷ [])) [] (at_goes ts i) c.in_err-reg.ensures)

pub index-requires : goal.index-requires
index-requires c =
    let ts = tokens_of c.args.tokens.now in
    let i = c.args.at in
    let l = within ts i want.Register _ c.in_ok-reg.ensures.1 in omega (arith, l)

pub returns-in_err-found : goal.returns-in_err-found
returns-in_err-found c =
    let ts = tokens_of c.args.tokens.now in
    let i = c.args.at in
    let m = by_token want.Register c.in_ok-reg.ensures.0 (Nt LIndex ∷ (Do MakeAt ∷ [])) []
    (at_goes ts i) c.in_ok-reg.ensures.1 (omega arith) in
    let p = err_from_is_err_and c.from_residual-in_err-found.result c.from_residual-in_err-found.ensures.1 in
    rw (p.1, p.2) (stop_call _ (Nt LIndex ∷ []) 0 (Do MakeAt ∷ []) _ m (omega arith) c.in_err-found.ensures)

pub returns : goal.returns
returns c =
    let ts = tokens_of c.args.tokens.now in
    let i = c.args.at in
    let m = by_token want.Register c.in_ok-reg.ensures.0 (Nt LIndex ∷ (Do MakeAt ∷ [])) []
    (at_goes ts i) c.in_ok-reg.ensures.1 (omega arith) in
    let r = c.in_ok-found.ensures in
    let e = ap (λ (p : ℕ × Span). p.0) c.in_ok-reg.ensures.2 in
    rw e (record {
      forward = omega arith;
      in_range = omega (arith, r.in_range);
      same = by_same (omega arith)
          (by_do MakeAt [] _ _ (by_call 0 (Do MakeAt ∷ []) _ m (omega arith) r.same) (λ below. refl));
    })
