use Rattle.std.proofs.Common.{[], ◌∷◌, arith}
use Rattle.std.proofs.lemmas.Result.{err_from_is_err_and}
use Rattle.text_core.specs.Table.{Tm, Nt}
use Rattle.t_text.specs.declared.wanted.Wanted.TheVariants as want
use Rattle.t_text.specs.GrammarTable.{LBinds, LFile}
use Rattle.t_shapes.proofs.Stepping.{within, start, by_token, by_call, stop_token, stop_call}
use Rattle.t_shapes.specs.Reads.{head_owed}
use Rattle.t_text.specs.Kept.{tokens_of}
use Rattle.t_shapes.proofs.heads.head.Goals as goal

pub returns-in_err-names : goal.returns-in_err-names
returns-in_err-names c =
    let ts = tokens_of c.args.tokens.now in
    let i = c.args.at in
    let s = start ts 0 i head_owed in
    let p = err_from_is_err_and c.from_residual.result c.from_residual.ensures.1 in
    rw (p.1, p.2)
    (stop_call _ (Nt LBinds ∷ []) 0 (Nt LFile ∷ (Tm want.Dot ∷ [])) _ s (omega arith) c.in_err-names.ensures)

pub returns-in_err-found : goal.returns-in_err-found
returns-in_err-found c =
    let ts = tokens_of c.args.tokens.now in
    let i = c.args.at in
    let s = start ts 0 i head_owed in
    let m1 = by_call 0 (Nt LFile ∷ (Tm want.Dot ∷ [])) _ s (omega arith) c.in_ok-names.ensures.same in
    let p = err_from_is_err_and c.from_residual-in_err-found.result c.from_residual-in_err-found.ensures.1 in
    rw (p.1, p.2) (stop_call _ (Nt LFile ∷ []) 0 (Tm want.Dot ∷ []) _ m1 (omega arith) c.in_err-found.ensures)

pub returns-in_err-expect : goal.returns-in_err-expect
returns-in_err-expect c =
    let ts = tokens_of c.args.tokens.now in
    let i = c.args.at in
    let s = start ts 0 i head_owed in
    let m1 = by_call 0 (Nt LFile ∷ (Tm want.Dot ∷ [])) _ s (omega arith) c.in_ok-names.ensures.same in
    let m2 = by_call 0 (Tm want.Dot ∷ []) _ m1 (omega arith) c.in_ok-found.ensures.same in
    let p = err_from_is_err_and c.from_residual-in_err-expect.result c.from_residual-in_err-expect.ensures.1 in
    rw (p.1, p.2) (stop_token _ want.Dot [] _ m2 c.in_err-expect.ensures)

pub returns : goal.returns
returns c =
    let ts = tokens_of c.args.tokens.now in
    let i = c.args.at in
    let s = start ts 0 i head_owed in
    let m1 = by_call 0 (Nt LFile ∷ (Tm want.Dot ∷ [])) _ s (omega arith) c.in_ok-names.ensures.same in
    let m2 = by_call 0 (Tm want.Dot ∷ []) _ m1 (omega arith) c.in_ok-found.ensures.same in
    let l = within ts c.in_ok-found.found.next want.Dot _ c.in_ok-expect.ensures in
    record {
      end = _;
      dot = _;
      reads = record {
        forward = omega (arith, c.in_ok-names.ensures.forward, c.in_ok-found.ensures.forward);
        in_range = omega (arith, l);
        same = by_token want.Dot _ [] _ m2 c.in_ok-expect.ensures (omega arith);
      };
    }
