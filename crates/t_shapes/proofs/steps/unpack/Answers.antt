use Rattle.std.proofs.Common.{[], ◌∷◌, ◌+◌, refl, arith}
use Rattle.std.proofs.lemmas.Result.{err_from_is_err_and}
use Rattle.text_core.specs.Table.{Tm, Nt, Do}
use Rattle.t_text.specs.declared.wanted.Wanted.TheVariants as want
use Rattle.t_text.specs.GrammarTable.{LV, LTarget, MakeUnpack, OfToken}
use Rattle.t_shapes.proofs.Stepping.{within, by_token, by_call, by_do, by_same, stop_token, stop_call}
use Rattle.t_shapes.proofs.Bracketed.{starting}
use Rattle.t_shapes.specs.Reads.{unpack_left}
use Rattle.t_text.specs.Kept.{tokens_of}
use Rattle.t_shapes.proofs.steps.unpack.Goals as goal

pub returns-in_err-to : goal.returns-in_err-to
returns-in_err-to c =
    let ts = tokens_of c.args.tokens.now in
    let i = c.args.at in
    let w = c.args.word in
    let s = starting ts 0 i (unpack_left) (OfToken w ∷ []) in
    let p = err_from_is_err_and c.from_residual.result c.from_residual.ensures.1 in
    rw (p.1, p.2)
    (stop_call _ (Nt LTarget ∷ []) 0 (Tm want.Comma ∷ (Nt LV ∷ (Do MakeUnpack ∷ []))) (OfToken w ∷ []) s
    (omega arith) c.in_err-to.ensures)

pub returns-in_err-expect : goal.returns-in_err-expect
returns-in_err-expect c =
    let ts = tokens_of c.args.tokens.now in
    let i = c.args.at in
    let w = c.args.word in
    let s = starting ts 0 i (unpack_left) (OfToken w ∷ []) in
    let m1 = by_call 0 (Tm want.Comma ∷ (Nt LV ∷ (Do MakeUnpack ∷ []))) (OfToken w ∷ []) s
    (omega arith) c.in_ok-to.ensures.same in
    let p = err_from_is_err_and c.from_residual-in_err-expect.result c.from_residual-in_err-expect.ensures.1 in
    rw (p.1, p.2) (stop_token _ want.Comma (Nt LV ∷ (Do MakeUnpack ∷ [])) _ m1 c.in_err-expect.ensures)

pub value-requires-clause-at : goal.value-requires-clause-at
value-requires-clause-at c =
    let ts = tokens_of c.args.tokens.now in
    let i = c.args.at in
    let l = within ts (i + 5) want.Comma _ c.in_ok-expect.ensures in omega (arith, l)

pub returns-in_err-found : goal.returns-in_err-found
returns-in_err-found c =
    let ts = tokens_of c.args.tokens.now in
    let i = c.args.at in
    let w = c.args.word in
    let s = starting ts 0 i (unpack_left) (OfToken w ∷ []) in
    let m1 = by_call 0 (Tm want.Comma ∷ (Nt LV ∷ (Do MakeUnpack ∷ []))) (OfToken w ∷ []) s
    (omega arith) c.in_ok-to.ensures.same in
    let m2 = by_same {k = i + 6} (omega arith)
    (by_token want.Comma _ (Nt LV ∷ (Do MakeUnpack ∷ [])) _ m1 c.in_ok-expect.ensures (omega arith)) in
    let p = err_from_is_err_and c.from_residual-in_err-found.result c.from_residual-in_err-found.ensures.1 in
    rw (p.1, p.2) (stop_call _ (Nt LV ∷ []) 0 (Do MakeUnpack ∷ []) _ m2 (omega arith) c.in_err-found.ensures)

pub returns : goal.returns
returns c =
    let ts = tokens_of c.args.tokens.now in
    let i = c.args.at in
    let w = c.args.word in
    let s = starting ts 0 i (unpack_left) (OfToken w ∷ []) in
    let m1 = by_call 0 (Tm want.Comma ∷ (Nt LV ∷ (Do MakeUnpack ∷ []))) (OfToken w ∷ []) s
    (omega arith) c.in_ok-to.ensures.same in
    let m2 = by_same {k = i + 6} (omega arith)
    (by_token want.Comma _ (Nt LV ∷ (Do MakeUnpack ∷ [])) _ m1 c.in_ok-expect.ensures (omega arith)) in
    let r = c.in_ok-found.ensures in
    rw c.up_to.ensures (record {
      forward = omega (arith, r.forward);
      in_range = r.in_range;
      same = by_do MakeUnpack [] _ _ (by_call 0 (Do MakeUnpack ∷ []) _ m2 (omega arith) r.same) (λ below. refl);
    })
