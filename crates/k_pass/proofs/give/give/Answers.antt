use Rattle.std.proofs.lemmas.Result.{IfOk-weaker}
use Rattle.k_pass.specs.declared.work.Control.TheVariants as C
use Rattle.k_pass.proofs.Moves.{pop_is, next_is}
use Rattle.k_pass.proofs.Gives.{gives_fun, gives_left, gives_cell, gave, gave_inside}
use Rattle.k_pass.specs.Machine.{FrameIn}
use Rattle.k_pass.specs.declared.work.Frame.TheVariants as F
use Rattle.k_pass.proofs.Inside.{all_push, all_pop}
use Rattle.k_pass.proofs.give.give.Goals as goal

pub returns-in-Some-Fun-clause-steps : goal.returns-in-Some-Fun-clause-steps
returns-in-Some-Fun-clause-steps c =
    let s = c.in-Some-Fun in
    next_is c.enter.result (C.Walk s.x c.args.given.depth) _ c.enter.ensures
    (λ waits t. gives_fun t c.args.work.now c.pop.new.self c.enter.new.frames s.x s.ty c.args.given.atom
    c.args.given.depth (pop_is _ _ _ _ s.ensures.items s.field-0-is) waits)

pub returns-in-Some-Left-clause-steps : goal.returns-in-Some-Left-clause-steps
returns-in-Some-Left-clause-steps c =
    let s = c.in-Some-Left in
    next_is c.enter-in-Some-Left.result (C.Walk s.b c.args.given.depth) _ c.enter-in-Some-Left.ensures
    (λ waits t. gives_left t c.args.work.now c.pop.new.self c.enter-in-Some-Left.new.frames s.op s.b c.args.given.atom
    c.args.given.depth (pop_is _ _ _ _ s.ensures.items s.field-0-is) waits)

pub returns-in-Some-Arg-clause-steps : goal.returns-in-Some-Arg-clause-steps
returns-in-Some-Arg-clause-steps c =
    let s = c.in-Some-Arg in
    gave c.give_argument.result c.args.work.now c.pop.new.self (F.Arg s.f s.ty) c.args.given.atom c.args.given.depth
    c.give_argument.new.work (pop_is _ _ _ _ s.ensures.items s.field-0-is) c.give_argument.ensures.steps

pub returns-in-Some-Inst-clause-steps : goal.returns-in-Some-Inst-clause-steps
returns-in-Some-Inst-clause-steps c =
    let s = c.in-Some-Inst in
    gave c.give_inst.result c.args.work.now c.pop.new.self (F.Inst s.arg s.ty) c.args.given.atom c.args.given.depth
    c.give_inst.new.work (pop_is _ _ _ _ s.ensures.items s.field-0-is) c.give_inst.ensures.steps

pub returns-in-Some-Right-clause-steps : goal.returns-in-Some-Right-clause-steps
returns-in-Some-Right-clause-steps c =
    let s = c.in-Some-Right in
    gave c.give_right.result c.args.work.now c.pop.new.self (F.Right s.op s.a) c.args.given.atom c.args.given.depth
    c.give_right.new.work (pop_is _ _ _ _ s.ensures.items s.field-0-is) c.give_right.ensures.steps

pub returns-in-Some-Proj-clause-steps : goal.returns-in-Some-Proj-clause-steps
returns-in-Some-Proj-clause-steps c =
    let s = c.in-Some-Proj in
    gave c.give_proj.result c.args.work.now c.pop.new.self (F.Proj s.i s.ty) c.args.given.atom c.args.given.depth
    c.give_proj.new.work (pop_is _ _ _ _ s.ensures.items s.field-0-is) c.give_proj.ensures.steps

pub returns-in-Some-Fields-clause-steps : goal.returns-in-Some-Fields-clause-steps
returns-in-Some-Fields-clause-steps c =
    let s = c.in-Some-Fields in
    gave c.give_field.result c.args.work.now c.pop.new.self (F.Fields s.rest s.done s.ty) c.args.given.atom
    c.args.given.depth c.give_field.new.work (pop_is _ _ _ _ s.ensures.items s.field-0-is) c.give_field.ensures.steps

pub returns-in-Some-Tail-clause-steps : goal.returns-in-Some-Tail-clause-steps
returns-in-Some-Tail-clause-steps c =
    let s = c.in-Some-Tail in
    gave c.give_tail.result c.args.work.now c.pop.new.self (F.Tail s.level) c.args.given.atom c.args.given.depth
    c.give_tail.new.work (pop_is _ _ _ _ s.ensures.items s.field-0-is) c.give_tail.ensures.steps

pub returns-in-Some-Test-clause-steps : goal.returns-in-Some-Test-clause-steps
returns-in-Some-Test-clause-steps c =
    let s = c.in-Some-Test in
    gave c.give_test.result c.args.work.now c.pop.new.self (F.Test s.zero s.other s.level) c.args.given.atom
    c.args.given.depth c.give_test.new.work (pop_is _ _ _ _ s.ensures.items s.field-0-is) c.give_test.ensures.steps

pub returns-in-Some-Fun-clause-inside : goal.returns-in-Some-Fun-clause-inside
returns-in-Some-Fun-clause-inside c =
    let s = c.in-Some-Fun in
    next_is c.enter.result (C.Walk s.x c.args.given.depth) _ c.enter.ensures
    (λ waits m kept. let r = all_pop (FrameIn m) _ _ _ (pop_is _ _ _ _ s.ensures.items s.field-0-is) kept.0 in
    (r.1, all_push (FrameIn m) _ _ _ waits r.0 tt, kept.1))

pub returns-in-Some-Left-clause-inside : goal.returns-in-Some-Left-clause-inside
returns-in-Some-Left-clause-inside c =
    let s = c.in-Some-Left in
    next_is c.enter-in-Some-Left.result (C.Walk s.b c.args.given.depth) _ c.enter-in-Some-Left.ensures
    (λ waits m kept. let r = all_pop (FrameIn m) _ _ _ (pop_is _ _ _ _ s.ensures.items s.field-0-is) kept.0 in
    (r.1, all_push (FrameIn m) _ _ _ waits r.0 tt, kept.1))

pub returns-in-Some-Arg-clause-inside : goal.returns-in-Some-Arg-clause-inside
returns-in-Some-Arg-clause-inside c =
    let s = c.in-Some-Arg in
    gave_inside c.give_argument.result c.args.work.now c.pop.new.self (F.Arg s.f s.ty) c.give_argument.new.work
    (pop_is _ _ _ _ s.ensures.items s.field-0-is)
    (IfOk-weaker c.give_argument.result _ _ (λ next h m low. h m) c.give_argument.ensures.inside)

pub returns-in-Some-Inst-clause-inside : goal.returns-in-Some-Inst-clause-inside
returns-in-Some-Inst-clause-inside c =
    let s = c.in-Some-Inst in
    gave_inside c.give_inst.result c.args.work.now c.pop.new.self (F.Inst s.arg s.ty) c.give_inst.new.work
    (pop_is _ _ _ _ s.ensures.items s.field-0-is)
    (IfOk-weaker c.give_inst.result _ _ (λ next h m low. h m) c.give_inst.ensures.inside)

pub returns-in-Some-Right-clause-inside : goal.returns-in-Some-Right-clause-inside
returns-in-Some-Right-clause-inside c =
    let s = c.in-Some-Right in
    gave_inside c.give_right.result c.args.work.now c.pop.new.self (F.Right s.op s.a) c.give_right.new.work
    (pop_is _ _ _ _ s.ensures.items s.field-0-is)
    (IfOk-weaker c.give_right.result _ _ (λ next h m low. h m) c.give_right.ensures.inside)

pub returns-in-Some-Proj-clause-inside : goal.returns-in-Some-Proj-clause-inside
returns-in-Some-Proj-clause-inside c =
    let s = c.in-Some-Proj in
    gave_inside c.give_proj.result c.args.work.now c.pop.new.self (F.Proj s.i s.ty) c.give_proj.new.work
    (pop_is _ _ _ _ s.ensures.items s.field-0-is)
    (IfOk-weaker c.give_proj.result _ _ (λ next h m low. h m) c.give_proj.ensures.inside)

pub returns-in-Some-Fields-clause-inside : goal.returns-in-Some-Fields-clause-inside
returns-in-Some-Fields-clause-inside c =
    let s = c.in-Some-Fields in
    gave_inside c.give_field.result c.args.work.now c.pop.new.self (F.Fields s.rest s.done s.ty) c.give_field.new.work
    (pop_is _ _ _ _ s.ensures.items s.field-0-is) (c.give_field.ensures.inside)

pub returns-in-Some-Tail-clause-inside : goal.returns-in-Some-Tail-clause-inside
returns-in-Some-Tail-clause-inside c =
    let s = c.in-Some-Tail in
    gave_inside c.give_tail.result c.args.work.now c.pop.new.self (F.Tail s.level) c.give_tail.new.work
    (pop_is _ _ _ _ s.ensures.items s.field-0-is)
    (IfOk-weaker c.give_tail.result _ _ (λ next h m low. h m) c.give_tail.ensures.inside)

pub returns-in-Some-Test-clause-inside : goal.returns-in-Some-Test-clause-inside
returns-in-Some-Test-clause-inside c =
    let s = c.in-Some-Test in
    gave_inside c.give_test.result c.args.work.now c.pop.new.self (F.Test s.zero s.other s.level) c.give_test.new.work
    (pop_is _ _ _ _ s.ensures.items s.field-0-is)
    (IfOk-weaker c.give_test.result _ _ (λ next h m low. h m low.0 low.1) c.give_test.ensures.inside)

pub returns-in-Some-Let-clause-steps : goal.returns-in-Some-Let-clause-steps
returns-in-Some-Let-clause-steps c =
    let s = c.in-Some-Let in
    gave c.give_let.result c.args.work.now c.pop.new.self (F.Let s.body) c.args.given.atom c.args.given.depth
    c.give_let.new.work (pop_is _ _ _ _ s.ensures.items s.field-0-is) c.give_let.ensures.steps

pub returns-in-Some-Let-clause-inside : goal.returns-in-Some-Let-clause-inside
returns-in-Some-Let-clause-inside c =
    let s = c.in-Some-Let in
    gave_inside c.give_let.result c.args.work.now c.pop.new.self (F.Let s.body) c.give_let.new.work
    (pop_is _ _ _ _ s.ensures.items s.field-0-is) (c.give_let.ensures.inside)

pub returns-in-Some-Open-clause-steps : goal.returns-in-Some-Open-clause-steps
returns-in-Some-Open-clause-steps c =
    let s = c.in-Some-Open in
    gave c.give_open.result c.args.work.now c.pop.new.self (F.Open s.body s.ty) c.args.given.atom c.args.given.depth
    c.give_open.new.work (pop_is _ _ _ _ s.ensures.items s.field-0-is) c.give_open.ensures.steps

pub returns-in-Some-Open-clause-inside : goal.returns-in-Some-Open-clause-inside
returns-in-Some-Open-clause-inside c =
    let s = c.in-Some-Open in
    gave_inside c.give_open.result c.args.work.now c.pop.new.self (F.Open s.body s.ty) c.give_open.new.work
    (pop_is _ _ _ _ s.ensures.items s.field-0-is) (c.give_open.ensures.inside)

pub returns-in-Some-Leave-clause-steps : goal.returns-in-Some-Leave-clause-steps
returns-in-Some-Leave-clause-steps c =
    let s = c.in-Some-Leave in
    gave c.give_leave.result c.args.work.now c.pop.new.self F.Leave c.args.given.atom c.args.given.depth
    c.give_leave.new.work (pop_is _ _ _ _ s.ensures.items s.field-0-is) c.give_leave.ensures.steps

pub returns-in-Some-Leave-clause-inside : goal.returns-in-Some-Leave-clause-inside
returns-in-Some-Leave-clause-inside c =
    let s = c.in-Some-Leave in
    gave_inside c.give_leave.result c.args.work.now c.pop.new.self F.Leave c.give_leave.new.work
    (pop_is _ _ _ _ s.ensures.items s.field-0-is)
    (IfOk-weaker c.give_leave.result _ _ (λ next h m low. h m) c.give_leave.ensures.inside)

pub returns-in-Some-LeaveType-clause-steps : goal.returns-in-Some-LeaveType-clause-steps
returns-in-Some-LeaveType-clause-steps c =
    let s = c.in-Some-LeaveType in
    gave c.give_leave_type.result c.args.work.now c.pop.new.self F.LeaveType c.args.given.atom c.args.given.depth
    c.give_leave_type.new.work (pop_is _ _ _ _ s.ensures.items s.field-0-is) c.give_leave_type.ensures.steps

pub returns-in-Some-LeaveType-clause-inside : goal.returns-in-Some-LeaveType-clause-inside
returns-in-Some-LeaveType-clause-inside c =
    let s = c.in-Some-LeaveType in
    gave_inside c.give_leave_type.result c.args.work.now c.pop.new.self F.LeaveType c.give_leave_type.new.work
    (pop_is _ _ _ _ s.ensures.items s.field-0-is)
    (IfOk-weaker c.give_leave_type.result _ _ (λ next h m low. h m) c.give_leave_type.ensures.inside)

pub returns-in-Some-Pack-clause-steps : goal.returns-in-Some-Pack-clause-steps
returns-in-Some-Pack-clause-steps c =
    let s = c.in-Some-Pack in
    gave c.give_pack.result c.args.work.now c.pop.new.self (F.Pack s.hidden s.ty) c.args.given.atom c.args.given.depth
    c.give_pack.new.work (pop_is _ _ _ _ s.ensures.items s.field-0-is) c.give_pack.ensures.steps

pub returns-in-Some-Pack-clause-inside : goal.returns-in-Some-Pack-clause-inside
returns-in-Some-Pack-clause-inside c =
    let s = c.in-Some-Pack in
    gave_inside c.give_pack.result c.args.work.now c.pop.new.self (F.Pack s.hidden s.ty) c.give_pack.new.work
    (pop_is _ _ _ _ s.ensures.items s.field-0-is)
    (IfOk-weaker c.give_pack.result _ _ (λ next h m low. h m) c.give_pack.ensures.inside)

pub returns-in-Some-Ref-clause-steps : goal.returns-in-Some-Ref-clause-steps
returns-in-Some-Ref-clause-steps c =
    let s = c.in-Some-Ref in
    gave c.give_ref.result c.args.work.now c.pop.new.self (F.Ref s.ty) c.args.given.atom c.args.given.depth
    c.give_ref.new.work (pop_is _ _ _ _ s.ensures.items s.field-0-is) c.give_ref.ensures.steps

pub returns-in-Some-Ref-clause-inside : goal.returns-in-Some-Ref-clause-inside
returns-in-Some-Ref-clause-inside c =
    let s = c.in-Some-Ref in
    gave_inside c.give_ref.result c.args.work.now c.pop.new.self (F.Ref s.ty) c.give_ref.new.work
    (pop_is _ _ _ _ s.ensures.items s.field-0-is)
    (IfOk-weaker c.give_ref.result _ _ (λ next h m low. h m) c.give_ref.ensures.inside)

pub returns-in-Some-Deref-clause-steps : goal.returns-in-Some-Deref-clause-steps
returns-in-Some-Deref-clause-steps c =
    let s = c.in-Some-Deref in
    gave c.give_deref.result c.args.work.now c.pop.new.self (F.Deref s.ty) c.args.given.atom c.args.given.depth
    c.give_deref.new.work (pop_is _ _ _ _ s.ensures.items s.field-0-is) c.give_deref.ensures.steps

pub returns-in-Some-Deref-clause-inside : goal.returns-in-Some-Deref-clause-inside
returns-in-Some-Deref-clause-inside c =
    let s = c.in-Some-Deref in
    gave_inside c.give_deref.result c.args.work.now c.pop.new.self (F.Deref s.ty) c.give_deref.new.work
    (pop_is _ _ _ _ s.ensures.items s.field-0-is)
    (IfOk-weaker c.give_deref.result _ _ (λ next h m low. h m) c.give_deref.ensures.inside)

pub returns-in-Some-Set-clause-steps : goal.returns-in-Some-Set-clause-steps
returns-in-Some-Set-clause-steps c =
    let s = c.in-Some-Set in
    gave c.give_set.result c.args.work.now c.pop.new.self (F.Set s.cell) c.args.given.atom c.args.given.depth
    c.give_set.new.work (pop_is _ _ _ _ s.ensures.items s.field-0-is) c.give_set.ensures.steps

pub returns-in-Some-Set-clause-inside : goal.returns-in-Some-Set-clause-inside
returns-in-Some-Set-clause-inside c =
    let s = c.in-Some-Set in
    gave_inside c.give_set.result c.args.work.now c.pop.new.self (F.Set s.cell) c.give_set.new.work
    (pop_is _ _ _ _ s.ensures.items s.field-0-is)
    (IfOk-weaker c.give_set.result _ _ (λ next h m low. h m) c.give_set.ensures.inside)

pub returns-in-Some-Cell-clause-steps : goal.returns-in-Some-Cell-clause-steps
returns-in-Some-Cell-clause-steps c =
    let s = c.in-Some-Cell in
    next_is c.enter-in-Some-Cell.result (C.Walk s.value c.args.given.depth) _ c.enter-in-Some-Cell.ensures
    (λ waits t. gives_cell t c.args.work.now c.pop.new.self c.enter-in-Some-Cell.new.frames s.value c.args.given.atom
    c.args.given.depth (pop_is _ _ _ _ s.ensures.items s.field-0-is) waits)

pub returns-in-Some-Cell-clause-inside : goal.returns-in-Some-Cell-clause-inside
returns-in-Some-Cell-clause-inside c =
    let s = c.in-Some-Cell in
    next_is c.enter-in-Some-Cell.result (C.Walk s.value c.args.given.depth) _ c.enter-in-Some-Cell.ensures
    (λ waits m kept. let r = all_pop (FrameIn m) _ _ _ (pop_is _ _ _ _ s.ensures.items s.field-0-is) kept.0 in
    (r.1, all_push (FrameIn m) _ _ _ waits r.0 tt, kept.1))
