use Rattle.std.proofs.Common.{[], ◌∷◌, ◌+◌, refl, arith}
use Rattle.std.proofs.lemmas.Result.{err_from_is_err_and}
use Rattle.text_core.specs.Table.{Do}
use Rattle.t_text.specs.declared.wanted.Wanted.TheVariants as want
use Rattle.t_text.specs.GrammarTable.{MakeBlock, block_owed, code_owed}
use Rattle.t_shapes.proofs.Stepping.{within, by_token, by_two, by_call, by_do, by_same, stop_token, stop_two}
use Rattle.t_shapes.proofs.Stepping.{stop_call}
use Rattle.t_shapes.specs.Reads.{code_parts}
use Rattle.t_shapes.proofs.Blocked.{block_goes}
use Rattle.t_text.specs.Kept.{tokens_of}
use Rattle.t_shapes.proofs.blocks.block.Goals as goal

pub returns-in_err-label : goal.returns-in_err-label
returns-in_err-label c =
    let ts = tokens_of c.args.tokens.now in
    let i = c.args.at in
    let p = err_from_is_err_and c.from_residual.result c.from_residual.ensures.1 in
    rw (p.1, p.2) (stop_token _ want.Name block_owed [] (block_goes ts i) c.in_err-label.ensures)

pub returns-in_err-expect_two : goal.returns-in_err-expect_two
returns-in_err-expect_two c =
    let ts = tokens_of c.args.tokens.now in
    let i = c.args.at in
    let m1 = by_token want.Name _ block_owed [] (block_goes ts i) c.in_ok-label.ensures (omega arith) in
    let p = err_from_is_err_and c.from_residual-in_err-expect_two.result c.from_residual-in_err-expect_two.ensures.1 in
    rw (p.1, p.2) (stop_two _ want.Colon want.Code code_owed _ m1 (omega arith) c.in_err-expect_two.ensures)

pub code-requires : goal.code-requires
code-requires c =
    let ts = tokens_of c.args.tokens.now in
    let i = c.args.at in
    let l = within ts (i + 1 + 1) want.Code _ c.in_ok-expect_two.ensures.1 in omega (arith, l)

pub returns-in_err-found : goal.returns-in_err-found
returns-in_err-found c =
    let ts = tokens_of c.args.tokens.now in
    let i = c.args.at in
    let m1 = by_token want.Name _ block_owed [] (block_goes ts i) c.in_ok-label.ensures (omega arith) in
    let m2 = by_same {k = i + 3} (omega arith)
    (by_two want.Colon want.Code _ _ code_owed _ m1 c.in_ok-expect_two.ensures (omega arith)) in
    let p = err_from_is_err_and c.from_residual-in_err-found.result c.from_residual-in_err-found.ensures.1 in
    rw (p.1, p.2) (stop_call _ code_parts 0 (Do MakeBlock ∷ []) _ m2 (omega arith) c.in_err-found.ensures)

pub returns : goal.returns
returns c =
    let ts = tokens_of c.args.tokens.now in
    let i = c.args.at in
    let m1 = by_token want.Name _ block_owed [] (block_goes ts i) c.in_ok-label.ensures (omega arith) in
    let m2 = by_same {k = i + 3} (omega arith)
    (by_two want.Colon want.Code _ _ code_owed _ m1 c.in_ok-expect_two.ensures (omega arith)) in
    let f = c.in_ok-found.ensures in
    rw f.is (record {
      forward = omega (arith, f.reads.forward);
      in_range = f.reads.in_range;
      same = by_do MakeBlock [] _ _ (by_call 0 (Do MakeBlock ∷ []) _ m2 (omega arith) f.reads.same) (λ below. refl);
    })
