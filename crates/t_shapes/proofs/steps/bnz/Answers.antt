use Rattle.std.proofs.Common.{[], ◌∷◌, refl, arith}
use Rattle.std.proofs.lemmas.Result.{err_from_is_err_and}
use Rattle.text_core.specs.Table.{Nt, Do}
use Rattle.t_text.specs.GrammarTable.{LV, LTo, MakeBnz, OfToken}
use Rattle.t_shapes.proofs.Stepping.{by_call, by_do, stop_call}
use Rattle.t_shapes.proofs.Bracketed.{starting}
use Rattle.t_shapes.specs.Reads.{bnz_left}
use Rattle.t_text.specs.Kept.{tokens_of}
use Rattle.t_shapes.proofs.steps.bnz.Goals as goal

pub returns-in_err-reg : goal.returns-in_err-reg
returns-in_err-reg c =
    let ts = tokens_of c.args.tokens.now in
    let i = c.args.at in
    let w = c.args.word in
    let s = starting ts 0 i (bnz_left) (OfToken w ∷ []) in
    let p = err_from_is_err_and c.from_residual.result c.from_residual.ensures.1 in
    rw (p.1, p.2)
    (stop_call _ (Nt LTo ∷ []) 0 (Nt LV ∷ (Do MakeBnz ∷ [])) (OfToken w ∷ []) s (omega arith) c.in_err-reg.ensures)

pub value-requires-clause-at : goal.value-requires-clause-at
value-requires-clause-at c =
    let ts = tokens_of c.args.tokens.now in
    let i = c.args.at in
    let l = c.in_ok-reg.ensures.in_range in omega (arith, l)

pub returns-in_err-found : goal.returns-in_err-found
returns-in_err-found c =
    let ts = tokens_of c.args.tokens.now in
    let i = c.args.at in
    let w = c.args.word in
    let s = starting ts 0 i (bnz_left) (OfToken w ∷ []) in
    let m1 = by_call 0 (Nt LV ∷ (Do MakeBnz ∷ [])) (OfToken w ∷ []) s (omega arith) c.in_ok-reg.ensures.same in
    let p = err_from_is_err_and c.from_residual-in_err-found.result c.from_residual-in_err-found.ensures.1 in
    rw (p.1, p.2) (stop_call _ (Nt LV ∷ []) 0 (Do MakeBnz ∷ []) _ m1 (omega arith) c.in_err-found.ensures)

pub returns : goal.returns
returns c =
    let ts = tokens_of c.args.tokens.now in
    let i = c.args.at in
    let w = c.args.word in
    let s = starting ts 0 i (bnz_left) (OfToken w ∷ []) in
    let m1 = by_call 0 (Nt LV ∷ (Do MakeBnz ∷ [])) (OfToken w ∷ []) s (omega arith) c.in_ok-reg.ensures.same in
    let r = c.in_ok-found.ensures in
    rw c.up_to.ensures (record {
      forward = omega (arith, r.forward);
      in_range = r.in_range;
      same = by_do MakeBnz [] _ _ (by_call 0 (Do MakeBnz ∷ []) _ m1 (omega arith) r.same) (λ below. refl);
    })
