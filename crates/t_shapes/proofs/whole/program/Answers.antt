use Rattle.std.proofs.Common.{[], ◌∷◌, arith}
use Rattle.std.proofs.lemmas.Result.{err_from_is_err_and}
use Rattle.text_core.specs.Table.{Nt, Do}
use Rattle.t_text.specs.declared.wanted.Wanted.TheVariants as want
use Rattle.t_text.specs.GrammarTable.{LHeader, MakeProgram}
use Rattle.t_shapes.proofs.Stepping.{within, by_token, by_call, stop_token, stop_call}
use Rattle.t_shapes.proofs.Itemed.{program_goes, is_stop, more_left, all_read}
use Rattle.t_text.specs.Kept.{tokens_of}
use Rattle.t_shapes.proofs.whole.program.Goals as goal

pub returns-in_err-expect : goal.returns-in_err-expect
returns-in_err-expect c =
    let ts = tokens_of c.args.tokens.now in
    let p = err_from_is_err_and c.from_residual.result c.from_residual.ensures.1 in
    rw (p.1, p.2)
    (is_stop ts _
    (stop_token _ want.Tal (Nt LHeader ∷ (Do MakeProgram ∷ [])) [] (program_goes ts) c.in_err-expect.ensures))

pub headed-requires : goal.headed-requires
headed-requires c =
    let l = within (tokens_of c.args.tokens.now) 0 want.Tal _ c.in_ok-expect.ensures in omega (arith, l)

pub returns-in_err-found : goal.returns-in_err-found
returns-in_err-found c =
    let ts = tokens_of c.args.tokens.now in
    let m1 = by_token want.Tal _ (Nt LHeader ∷ (Do MakeProgram ∷ [])) [] (program_goes ts) c.in_ok-expect.ensures
    (omega arith) in
    let p = err_from_is_err_and c.from_residual-in_err-found.result c.from_residual-in_err-found.ensures.1 in
    rw (p.1, p.2)
    (is_stop ts _
    (stop_call _ (Nt LHeader ∷ []) 0 (Do MakeProgram ∷ []) _ m1 (omega arith) c.in_err-found.ensures))

pub returns-then-found-len : goal.returns-then-found-len
returns-then-found-len c =
    let ts = tokens_of c.args.tokens.now in
    let m1 = by_token want.Tal _ (Nt LHeader ∷ (Do MakeProgram ∷ [])) [] (program_goes ts) c.in_ok-expect.ensures
    (omega arith) in
    let m2 = by_call 0 (Do MakeProgram ∷ []) _ m1 (omega arith) c.in_ok-found.ensures.same in
    more_left ts _ _ m2 (rw c.len.ensures at c.if-found-len.true)

pub returns : goal.returns
returns c =
    let ts = tokens_of c.args.tokens.now in
    let m1 = by_token want.Tal _ (Nt LHeader ∷ (Do MakeProgram ∷ [])) [] (program_goes ts) c.in_ok-expect.ensures
    (omega arith) in
    let m2 = by_call 0 (Do MakeProgram ∷ []) _ m1 (omega arith) c.in_ok-found.ensures.same in
    all_read ts _ _ m2 (rw c.len.ensures at c.if-found-len.false)
