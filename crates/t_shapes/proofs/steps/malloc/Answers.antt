use Rattle.std.proofs.Common.{ℕ, [], ◌∷◌, refl, ap, arith}
use Rattle.std.proofs.lemmas.Result.{err_from_is_err_and}
use Rattle.idx_core.specs.declared.span.Span.{Span}
use Rattle.text_core.specs.Table.{Nt, Do}
use Rattle.t_text.specs.declared.wanted.Wanted.TheVariants as want
use Rattle.t_text.specs.GrammarTable.{LTypes, MakeMalloc, OfToken}
use Rattle.t_shapes.proofs.Stepping.{within, by_token, by_call, by_do, stop_token, stop_call}
use Rattle.t_shapes.proofs.Bracketed.{starting}
use Rattle.t_shapes.specs.Reads.{malloc_left}
use Rattle.t_text.specs.Kept.{tokens_of}
use Rattle.t_shapes.proofs.steps.malloc.Goals as goal

pub returns-in_err-reg : goal.returns-in_err-reg
returns-in_err-reg c =
    let ts = tokens_of c.args.tokens.now in
    let i = c.args.at in
    let w = c.args.word in
    let s = starting ts 0 i (malloc_left) (OfToken w ∷ []) in
    let p = err_from_is_err_and c.from_residual.result c.from_residual.ensures.1 in
    rw (p.1, p.2)
    (stop_token _ want.Register (Nt LTypes ∷ (Do MakeMalloc ∷ [])) (OfToken w ∷ []) s c.in_err-reg.ensures)

pub types-requires-clause-at : goal.types-requires-clause-at
types-requires-clause-at c =
    let ts = tokens_of c.args.tokens.now in
    let i = c.args.at in
    let l = within ts i want.Register _ c.in_ok-reg.ensures.1 in omega (arith, l)

pub returns-in_err-found : goal.returns-in_err-found
returns-in_err-found c =
    let ts = tokens_of c.args.tokens.now in
    let i = c.args.at in
    let w = c.args.word in
    let s = starting ts 0 i (malloc_left) (OfToken w ∷ []) in
    let m1 = by_token want.Register c.in_ok-reg.ensures.0 (Nt LTypes ∷ (Do MakeMalloc ∷ []))
    (OfToken w ∷ []) s c.in_ok-reg.ensures.1 (omega arith) in
    let p = err_from_is_err_and c.from_residual-in_err-found.result c.from_residual-in_err-found.ensures.1 in
    rw (p.1, p.2) (stop_call _ (Nt LTypes ∷ []) 0 (Do MakeMalloc ∷ []) _ m1 (omega arith) c.in_err-found.ensures)

pub returns : goal.returns
returns c =
    let ts = tokens_of c.args.tokens.now in
    let i = c.args.at in
    let w = c.args.word in
    let s = starting ts 0 i (malloc_left) (OfToken w ∷ []) in
    let m1 = by_token want.Register c.in_ok-reg.ensures.0 (Nt LTypes ∷ (Do MakeMalloc ∷ []))
    (OfToken w ∷ []) s c.in_ok-reg.ensures.1 (omega arith) in
    let r = c.in_ok-found.ensures in
    let e = ap (λ (p : ℕ × Span). p.0) c.in_ok-reg.ensures.2 in
    rw (e, c.up_to.ensures) (record {
      forward = omega (arith, r.forward);
      in_range = r.in_range;
      same = by_do MakeMalloc [] _ _ (by_call 0 (Do MakeMalloc ∷ []) _ m1 (omega arith) r.same) (λ below. refl);
    })
