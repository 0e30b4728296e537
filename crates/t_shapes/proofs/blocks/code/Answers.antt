use Rattle.std.proofs.Common.{[], ◌∷◌, refl, arith}
use Rattle.std.proofs.lemmas.Result.{err_from_is_err_and}
use Rattle.text_core.specs.Table.{Nt, Do}
use Rattle.t_text.specs.GrammarTable.{LEnd, LMoreSteps, MakeNoSteps}
use Rattle.t_shapes.proofs.Stepping.{start, by_call, stop_call}
use Rattle.t_shapes.specs.Reads.{head_owed, steps_owed, code_parts}
use Rattle.t_text.specs.Kept.{tokens_of}
use Rattle.t_shapes.proofs.blocks.code.Goals as goal

pub returns-in_err-head : goal.returns-in_err-head
returns-in_err-head c =
    let ts = tokens_of c.args.tokens.now in
    let i = c.args.at in
    let s = start ts 0 i code_parts in
    let p = err_from_is_err_and c.from_residual.result c.from_residual.ensures.1 in
    rw (p.1, p.2)
    (stop_call _ head_owed 0 (Do MakeNoSteps ∷ (Nt LMoreSteps ∷ (Nt LEnd ∷ []))) [] s
    (omega arith) c.in_err-head.ensures)

pub steps-requires : goal.steps-requires
steps-requires c =
    c.in_ok-head.ensures.reads.in_range

pub returns-in_err-body : goal.returns-in_err-body
returns-in_err-body c =
    let ts = tokens_of c.args.tokens.now in
    let i = c.args.at in
    let s = start ts 0 i code_parts in
    let m1 = by_call 0 (Do MakeNoSteps ∷ (Nt LMoreSteps ∷ (Nt LEnd ∷ []))) [] s
    (omega arith) c.in_ok-head.ensures.reads.same in
    let p = err_from_is_err_and c.from_residual-in_err-body.result c.from_residual-in_err-body.ensures.1 in
    rw (p.1, p.2) (stop_call _ steps_owed 0 (Nt LEnd ∷ []) _ m1 (omega arith) c.in_err-body.ensures)

pub end-requires : goal.end-requires
end-requires c =
    c.in_ok-body.ensures.in_range

pub returns-in_err-end : goal.returns-in_err-end
returns-in_err-end c =
    let ts = tokens_of c.args.tokens.now in
    let i = c.args.at in
    let s = start ts 0 i code_parts in
    let m1 = by_call 0 (Do MakeNoSteps ∷ (Nt LMoreSteps ∷ (Nt LEnd ∷ []))) [] s
    (omega arith) c.in_ok-head.ensures.reads.same in
    let m2 = by_call 0 (Nt LEnd ∷ []) _ m1 (omega arith) c.in_ok-body.ensures.same in
    let p = err_from_is_err_and c.from_residual-in_err-end.result c.from_residual-in_err-end.ensures.1 in
    rw (p.1, p.2) (stop_call _ (Nt LEnd ∷ []) 0 [] _ m2 (omega arith) c.in_err-end.ensures)

pub returns : goal.returns
returns c =
    let ts = tokens_of c.args.tokens.now in
    let i = c.args.at in
    let s = start ts 0 i code_parts in
    let m1 = by_call 0 (Do MakeNoSteps ∷ (Nt LMoreSteps ∷ (Nt LEnd ∷ []))) [] s
    (omega arith) c.in_ok-head.ensures.reads.same in
    let m2 = by_call 0 (Nt LEnd ∷ []) _ m1 (omega arith) c.in_ok-body.ensures.same in
    let r = c.in_ok-end.ensures in
    record {
      is = refl;
      end = _;
      dot = _;
      reads = record {
        forward = omega (arith, c.in_ok-head.ensures.reads.forward, c.in_ok-body.ensures.forward, r.forward);
        in_range = r.in_range;
        same = by_call 0 [] _ m2 (omega arith) r.same;
      };
    }
