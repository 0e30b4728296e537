use Rattle.std.proofs.Common.{[], ◌∷◌, arith}
use Rattle.std.proofs.lemmas.Result.{err_from_is_err_and}
use Rattle.text_core.specs.Table.{Tm, Nt}
use Rattle.t_text.specs.declared.wanted.Wanted.TheVariants as want
use Rattle.t_text.specs.GrammarTable.{LW, LT}
use Rattle.t_shapes.proofs.Stepping.{within, start, by_token, by_call, stop_token, stop_call}
use Rattle.t_shapes.specs.Reads.{datum_owed}
use Rattle.t_text.specs.Kept.{tokens_of}
use Rattle.t_shapes.proofs.data.datum.Goals as goal

pub returns-in_err-word : goal.returns-in_err-word
returns-in_err-word c =
    let ts = tokens_of c.args.tokens.now in
    let i = c.args.at in
    let p = err_from_is_err_and c.from_residual.result c.from_residual.ensures.1 in
    rw (p.1, p.2)
    (stop_call _ (Nt LW ∷ []) 1 (Tm want.Colon ∷ (Nt LT ∷ [])) [] (start ts 1 i datum_owed)
    (omega arith) c.in_err-word.ensures)

pub returns-in_err-expect : goal.returns-in_err-expect
returns-in_err-expect c =
    let ts = tokens_of c.args.tokens.now in
    let i = c.args.at in
    let m1 = by_call 1 (Tm want.Colon ∷ (Nt LT ∷ [])) [] (start ts 1 i datum_owed)
    (omega arith) c.in_ok-word.ensures.same in
    let p = err_from_is_err_and c.from_residual-in_err-expect.result c.from_residual-in_err-expect.ensures.1 in
    rw (p.1, p.2) (stop_token _ want.Colon (Nt LT ∷ []) _ m1 c.in_err-expect.ensures)

pub whole_type-requires-clause-at : goal.whole_type-requires-clause-at
whole_type-requires-clause-at c =
    let l = within (tokens_of c.args.tokens.now) c.in_ok-word.word.next want.Colon _ c.in_ok-expect.ensures in
    omega (arith, l)

pub returns-in_err-found : goal.returns-in_err-found
returns-in_err-found c =
    let ts = tokens_of c.args.tokens.now in
    let i = c.args.at in
    let m1 = by_call 1 (Tm want.Colon ∷ (Nt LT ∷ [])) [] (start ts 1 i datum_owed)
    (omega arith) c.in_ok-word.ensures.same in
    let m2 = by_token want.Colon _ (Nt LT ∷ []) _ m1 c.in_ok-expect.ensures (omega arith) in
    let p = err_from_is_err_and c.from_residual-in_err-found.result c.from_residual-in_err-found.ensures.1 in
    rw (p.1, p.2) (stop_call _ (Nt LT ∷ []) 1 [] _ m2 (omega arith) c.in_err-found.ensures)

pub returns : goal.returns
returns c =
    let ts = tokens_of c.args.tokens.now in
    let i = c.args.at in
    let m1 = by_call 1 (Tm want.Colon ∷ (Nt LT ∷ [])) [] (start ts 1 i datum_owed)
    (omega arith) c.in_ok-word.ensures.same in
    let m2 = by_token want.Colon _ (Nt LT ∷ []) _ m1 c.in_ok-expect.ensures (omega arith) in
    let r = c.in_ok-found.ensures in
    record {
      colon = _;
      end = _;
      reads = record {
        forward = omega (arith, c.in_ok-word.ensures.forward, r.forward);
        in_range = r.in_range;
        same = by_call 1 [] _ m2 (omega arith) r.same;
      };
    }
