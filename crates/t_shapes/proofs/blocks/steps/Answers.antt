use Rattle.std.proofs.Common.{[], ◌∷◌, refl, sym, ◌∙◌, arith}
use Rattle.std.proofs.lemmas.Result.{err_from_is_err_and}
use Rattle.text_core.specs.Table.{Nt}
use Rattle.t_text.specs.GrammarTable.{LI, LMoreSteps, MakeNoSteps, MakeNextStep, OfSteps, steps_tail}
use Rattle.t_shapes.proofs.Stepping.{start, by_call, by_do, stop_call}
use Rattle.t_shapes.specs.Reads.{steps_owed}
use Rattle.t_shapes.proofs.Blocked.{as_instr, no_instr, steps_more}
use Rattle.t_text.specs.Kept.{tokens_of}
use Rattle.t_shapes.proofs.blocks.steps.Goals as goal

pub loop-alloc-init : goal.loop-alloc-init
loop-alloc-init c =
    let ts = tokens_of c.args.tokens.now in
    let i = c.args.at in
    rw c.new-steps.ensures.items
    (record {
      forward = omega arith;
      in_range = c.requires;
      same =
          by_do MakeNoSteps (Nt LMoreSteps ∷ []) [] (OfSteps [] ∷ []) (start ts 0 i steps_owed) (λ below. refl);
    })

pub returns-in_err-found : goal.returns-in_err-found
returns-in_err-found c =
    let ts = tokens_of c.args.tokens.now in
    let i = c.args.at in
    let s = c.loop-alloc.invariant in
    let j = c.loop-alloc.next in
    let m = as_instr s.same (sym c.begins_step.ensures ∙ c.loop-alloc-test.true) in
    let p = err_from_is_err_and c.from_residual.result c.from_residual.ensures.1 in
    rw (p.1, p.2) (stop_call _ (Nt LI ∷ []) 0 steps_tail _ m (omega arith) c.in_err-found.ensures)

pub loop-alloc-smaller : goal.loop-alloc-smaller
loop-alloc-smaller c =
    let ts = tokens_of c.args.tokens.now in
    let i = c.args.at in
    let s = c.loop-alloc.invariant in
    let j = c.loop-alloc.next in
    let r = c.in_ok-found.ensures in omega (arith, r.forward, r.in_range)

pub loop-alloc-preserved : goal.loop-alloc-preserved
loop-alloc-preserved c =
    let ts = tokens_of c.args.tokens.now in
    let i = c.args.at in
    let s = c.loop-alloc.invariant in
    let j = c.loop-alloc.next in
    let m = as_instr s.same (sym c.begins_step.ensures ∙ c.loop-alloc-test.true) in
    let r = c.in_ok-found.ensures in
    rw (steps_more c.loop-alloc.steps.items _ c.in_ok-found.found.step c.in_ok-push.ensures.items) (record {
      forward = omega (arith, s.forward, r.forward);
      in_range = r.in_range;
      same =
          by_do MakeNextStep (Nt LMoreSteps ∷ []) _ _ (by_call 0 steps_tail _ m (omega arith) r.same) (λ below. refl);
    })

pub returns : goal.returns
returns c =
    let ts = tokens_of c.args.tokens.now in
    let i = c.args.at in
    let s = c.loop-alloc.invariant in
    let j = c.loop-alloc.next in
    record {
      forward = s.forward;
      in_range = s.in_range;
      same = no_instr s.same (sym c.begins_step.ensures ∙ c.loop-alloc-test.false);
    }
