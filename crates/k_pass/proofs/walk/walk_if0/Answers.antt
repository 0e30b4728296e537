use Rattle.f_terms.specs.Noted.{EVar}
use Rattle.f_terms.specs.Read.{tree}
use Rattle.k_pass.proofs.Moves.{next_is, if_tail, if_rest}
use Rattle.k_pass.specs.Machine.{FrameIn, PendingIn}
use Rattle.std.proofs.Common.{◌∙◌, suc}
use Rattle.k_pass.specs.declared.work.Atom.TheVariants as A
use Rattle.k_pass.specs.declared.work.Control.TheVariants as C
use Rattle.k_pass.proofs.Inside.{all_push, all_pop, all_same}
use Rattle.k_pass.proofs.walk.walk_if0.Goals as goal

pub returns-in-Some-clause-steps : goal.returns-in-Some-clause-steps
returns-in-Some-clause-steps c =
    next_is c.enter.result (C.Walk c.args.choice.test c.args.depth) _ c.enter.ensures
    (λ waits t. if_tail t c.args.work.now c.take_tail.new.stack c.enter.new.frames (tree c.args.ty.now)
    c.args.choice.test c.args.choice.zero c.args.choice.other c.args.depth c.in-Some.level (c.in-Some.ensures t) waits)

pub returns-in-None-clause-steps : goal.returns-in-None-clause-steps
returns-in-None-clause-steps c =
    next_is c.open_rest.result (C.Give (A.Level (suc c.args.depth)) (suc (suc c.args.depth))) _ c.open_rest.ensures
    (λ made t. let none = c.in-None.ensures t in
    if_rest t c.args.work.now c.take_tail.new.stack c.open_rest.new.work c.args.ty c.args.choice.test
    c.args.choice.zero c.args.choice.other c.args.depth none.0 none.1 made)

pub returns-in-Some-clause-inside : goal.returns-in-Some-clause-inside
returns-in-Some-clause-inside c =
    next_is c.enter.result (C.Walk c.args.choice.test c.args.depth) _ c.enter.ensures
    (λ waits m low a b kept. (
      low,
      all_push (FrameIn m) _ _ _ waits (all_pop (FrameIn m) _ _ _ (c.in-Some.ensures (λ i. EVar 0)) kept.0).0
          (a, b),
      kept.1,
    ))

pub returns-in-None-clause-inside : goal.returns-in-None-clause-inside
returns-in-None-clause-inside c =
    next_is c.open_rest.result (C.Give (A.Level (suc c.args.depth)) (suc (suc c.args.depth))) _ c.open_rest.ensures
    (λ made m low a b kept. (
      tt,
      all_same (FrameIn m) _ _ (made.same_frames ∙ (c.in-None.ensures (λ i. EVar 0)).0) kept.0,
      all_push (PendingIn m) _ _ _ made.keeps kept.1 (low, a, b),
    ))
