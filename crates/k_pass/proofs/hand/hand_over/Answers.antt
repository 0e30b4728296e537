use Rattle.f_terms.specs.Noted.{EVar}
use Rattle.std.proofs.Common.{◌∙◌, suc}
use Rattle.f_terms.specs.Read.{tree}
use Rattle.k_laws.specs.Cps.{kat}
use Rattle.k_pass.specs.Machine.{at}
use Rattle.k_pass.proofs.Moves.{next_is, hand_tail, hand_rest}
use Rattle.k_pass.specs.Machine.{FrameIn, PendingIn}
use Rattle.k_pass.specs.declared.work.Atom.TheVariants as A
use Rattle.k_pass.specs.declared.work.Control.TheVariants as C
use Rattle.k_pass.proofs.Inside.{all_push, all_pop, all_same}
use Rattle.k_pass.proofs.hand.hand_over.Goals as goal

pub returns-in_ok-put_atom-in-Some-clause-steps : goal.returns-in_ok-put_atom-in-Some-clause-steps
returns-in_ok-put_atom-in-Some-clause-steps c = λ t.
    hand_tail t c.args.work.now c.put_atom.new.out c.take_tail.new.stack
    (kat c.args.work.now.types (at c.args.work.now).0 (tree c.args.ty.now)) c.args.depth c.in-Some.level
    (c.in-Some.ensures t) c.in_ok-put_atom-in-Some.ensures

pub returns-in-None-clause-steps : goal.returns-in-None-clause-steps
returns-in-None-clause-steps c =
    next_is c.open_rest.result (C.Give (A.Level (suc c.args.depth)) (suc (suc c.args.depth))) _ c.open_rest.ensures
    (λ made t. let none = c.in-None.ensures t in
    hand_rest t c.args.work.now c.take_tail.new.stack c.open_rest.new.work
    (kat c.args.work.now.types (at c.args.work.now).0 (tree c.args.ty.now)) c.args.depth none.0 none.1 made)

pub returns-in_ok-put_atom-in-Some-clause-inside : goal.returns-in_ok-put_atom-in-Some-clause-inside
returns-in_ok-put_atom-in-Some-clause-inside c =
    λ m kept. (tt, (all_pop (FrameIn m) _ _ _ (c.in-Some.ensures (λ i. EVar 0)) kept.0).0, kept.1)

pub returns-in-None-clause-inside : goal.returns-in-None-clause-inside
returns-in-None-clause-inside c =
    next_is c.open_rest.result (C.Give (A.Level (suc c.args.depth)) (suc (suc c.args.depth))) _ c.open_rest.ensures
    (λ made m kept. (
      tt,
      all_same (FrameIn m) _ _ (made.same_frames ∙ (c.in-None.ensures (λ i. EVar 0)).0) kept.0,
      all_push (PendingIn m) _ _ _ made.keeps kept.1 tt,
    ))
