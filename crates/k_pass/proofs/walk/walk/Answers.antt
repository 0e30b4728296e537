use Rattle.std.proofs.Common.{◌∙◌, ap, sym, map}
use Rattle.f_terms.specs.Read.{tree}
use Rattle.std.proofs.lemmas.Result.{IfOk-weaker}
use Rattle.f_terms.specs.Noted.{EFix, EApp, EGen, EInst, ETuple, EProj, EArith, EIf, ELet, EPack, EOpen, ERef, EDeref}
use Rattle.f_terms.specs.Noted.{EAssign, noteds}
use Rattle.f_terms.specs.NotedTerm.{noted_at, noted_shape}
use Rattle.f_terms.specs.ReadTerm.{count}
use Rattle.k_pass.specs.declared.work.Control.TheVariants as C
use Rattle.k_pass.proofs.Moves.{next_is}
use Rattle.k_pass.proofs.Gives.{walks, goes_app, goes_inst, goes_proj, goes_arith, goes_let, goes_pack, goes_open}
use Rattle.k_pass.proofs.Gives.{goes_ref, goes_deref, goes_assign, goes_tuple}
use Rattle.std.proofs.Common.{◌<◌}
use Rattle.f_terms.specs.Shape.{children}
use Rattle.k_pass.specs.Machine.{FrameIn}
use Rattle.k_pass.proofs.Inside.{all_push, all_same, kids_one, kids_two, kids_three}
use Rattle.k_pass.proofs.walk.walk.Goals as goal

pub returns-in-App-clause-steps : goal.returns-in-App-clause-steps
returns-in-App-clause-steps c =
    let t = noted_at c.args.term.now c.args.types.now in
    let s = c.in-App in
    next_is c.enter.result (C.Walk s.f c.args.part.depth) _ c.enter.ensures
    (λ waits. walks t c.args.work.now c.args.part.node c.args.part.depth
    (EApp (t s.f) (t s.x) (tree c.node_at-found.result.1.now))
    (record {
      out = c.args.work.now.out;
      frames = c.enter.new.frames;
      pending = c.args.work.now.pending;
      names = c.args.work.now.names;
      levels = c.args.work.now.levels;
      types = c.args.work.now.types;
    })
    (C.Walk s.f c.args.part.depth)
    (c.node_at-found.ensures.tree ∙ ap (noted_shape t (tree c.node_at-found.result.1.now)) s.is)
    (goes_app t c.args.work.now c.enter.new.frames s.f s.x _ c.args.part.depth waits))

pub returns-in-Inst-clause-steps : goal.returns-in-Inst-clause-steps
returns-in-Inst-clause-steps c =
    let t = noted_at c.args.term.now c.args.types.now in
    let s = c.in-Inst in
    next_is c.enter-in-Inst.result (C.Walk s.e c.args.part.depth) _ c.enter-in-Inst.ensures
    (λ waits. walks t c.args.work.now c.args.part.node c.args.part.depth
    (EInst (t s.e) (tree s.arg) (tree c.node_at-found.result.1.now))
    (record {
      out = c.args.work.now.out;
      frames = c.enter-in-Inst.new.frames;
      pending = c.args.work.now.pending;
      names = c.args.work.now.names;
      levels = c.args.work.now.levels;
      types = c.args.work.now.types;
    })
    (C.Walk s.e c.args.part.depth)
    (c.node_at-found.ensures.tree ∙ ap (noted_shape t (tree c.node_at-found.result.1.now)) s.is)
    (goes_inst t c.args.work.now c.enter-in-Inst.new.frames s.e _ _ c.args.part.depth waits))

pub returns-in-Proj-clause-steps : goal.returns-in-Proj-clause-steps
returns-in-Proj-clause-steps c =
    let t = noted_at c.args.term.now c.args.types.now in
    let s = c.in-Proj in
    next_is c.enter-in-Proj.result (C.Walk s.e c.args.part.depth) _ c.enter-in-Proj.ensures
    (λ waits. walks t c.args.work.now c.args.part.node c.args.part.depth
    (EProj s.i (t s.e) (tree c.node_at-found.result.1.now))
    (record {
      out = c.args.work.now.out;
      frames = c.enter-in-Proj.new.frames;
      pending = c.args.work.now.pending;
      names = c.args.work.now.names;
      levels = c.args.work.now.levels;
      types = c.args.work.now.types;
    })
    (C.Walk s.e c.args.part.depth)
    (c.node_at-found.ensures.tree ∙ ap (noted_shape t (tree c.node_at-found.result.1.now)) s.is)
    (goes_proj t c.args.work.now c.enter-in-Proj.new.frames s.i s.e _ c.args.part.depth waits))

pub returns-in-Arith-clause-steps : goal.returns-in-Arith-clause-steps
returns-in-Arith-clause-steps c =
    let t = noted_at c.args.term.now c.args.types.now in
    let s = c.in-Arith in
    next_is c.enter-in-Arith.result (C.Walk s.a c.args.part.depth) _ c.enter-in-Arith.ensures
    (λ waits. walks t c.args.work.now c.args.part.node c.args.part.depth (EArith s.op (t s.a) (t s.b))
    (record {
      out = c.args.work.now.out;
      frames = c.enter-in-Arith.new.frames;
      pending = c.args.work.now.pending;
      names = c.args.work.now.names;
      levels = c.args.work.now.levels;
      types = c.args.work.now.types;
    })
    (C.Walk s.a c.args.part.depth)
    (c.node_at-found.ensures.tree ∙ ap (noted_shape t (tree c.node_at-found.result.1.now)) s.is)
    (goes_arith t c.args.work.now c.enter-in-Arith.new.frames s.op s.a s.b c.args.part.depth waits))

pub returns-in-App-clause-inside : goal.returns-in-App-clause-inside
returns-in-App-clause-inside c =
    let m = count c.args.term.now in
    let s = c.in-App in
    let k = kids_two m c.node_at-found.result.0.now.shape s.f s.x (ap children s.is) c.node_at-found.ensures.kids in
    next_is c.enter.result (C.Walk s.f c.args.part.depth) _ c.enter.ensures
    (λ waits kept. (k.0, all_push (FrameIn m) _ _ _ waits kept.0 k.1, kept.1))

pub returns-in-Arith-clause-inside : goal.returns-in-Arith-clause-inside
returns-in-Arith-clause-inside c =
    let m = count c.args.term.now in
    let s = c.in-Arith in
    let k = kids_two m c.node_at-found.result.0.now.shape s.a s.b (ap children s.is) c.node_at-found.ensures.kids in
    next_is c.enter-in-Arith.result (C.Walk s.a c.args.part.depth) _ c.enter-in-Arith.ensures
    (λ waits kept. (k.0, all_push (FrameIn m) _ _ _ waits kept.0 k.1, kept.1))

pub returns-in-Inst-clause-inside : goal.returns-in-Inst-clause-inside
returns-in-Inst-clause-inside c =
    let m = count c.args.term.now in
    let s = c.in-Inst in
    let k = kids_one m c.node_at-found.result.0.now.shape s.e (ap children s.is) c.node_at-found.ensures.kids in
    next_is c.enter-in-Inst.result (C.Walk s.e c.args.part.depth) _ c.enter-in-Inst.ensures
    (λ waits kept. (k, all_push (FrameIn m) _ _ _ waits kept.0 tt, kept.1))

pub returns-in-Proj-clause-inside : goal.returns-in-Proj-clause-inside
returns-in-Proj-clause-inside c =
    let m = count c.args.term.now in
    let s = c.in-Proj in
    let k = kids_one m c.node_at-found.result.0.now.shape s.e (ap children s.is) c.node_at-found.ensures.kids in
    next_is c.enter-in-Proj.result (C.Walk s.e c.args.part.depth) _ c.enter-in-Proj.ensures
    (λ waits kept. (k, all_push (FrameIn m) _ _ _ waits kept.0 tt, kept.1))

pub returns-in-Fix-clause-inside : goal.returns-in-Fix-clause-inside
returns-in-Fix-clause-inside c =
    let m = count c.args.term.now in
    IfOk-weaker c.walk_fix.result _ _
    (λ next h kept.
    h m (kids_one m c.node_at-found.result.0.now.shape c.in-Fix.body (ap children c.in-Fix.is)
    c.node_at-found.ensures.kids) kept) c.walk_fix.ensures.inside

pub returns-in-Gen-clause-inside : goal.returns-in-Gen-clause-inside
returns-in-Gen-clause-inside c =
    let m = count c.args.term.now in
    IfOk-weaker c.walk_gen.result _ _
    (λ next h kept.
    h m (kids_one m c.node_at-found.result.0.now.shape c.in-Gen.body (ap children c.in-Gen.is)
    c.node_at-found.ensures.kids) kept) c.walk_gen.ensures.inside

pub returns-in-If0-clause-inside : goal.returns-in-If0-clause-inside
returns-in-If0-clause-inside c =
    let m = count c.args.term.now in
    let k = kids_three m c.node_at-found.result.0.now.shape c.in-If0.test c.in-If0.zero c.in-If0.other
    (ap children c.in-If0.is) c.node_at-found.ensures.kids in
    IfOk-weaker c.walk_if0.result _ _ (λ next h kept. h m k.0 k.1 k.2 kept) c.walk_if0.ensures.inside

pub returns-in-Tuple-clause-inside : goal.returns-in-Tuple-clause-inside
returns-in-Tuple-clause-inside c =
    let m = count c.args.term.now in
    IfOk-weaker c.walk_fields.result _ _
    (λ next h kept.
    h m (all_same (λ k. k < m) _ c.deref-in-Tuple.result.now
    (c.deref-in-Tuple.ensures.value ∙ sym (ap children c.in-Tuple.is)) c.node_at-found.ensures.kids) kept)
    c.walk_fields.ensures.inside

pub returns-in-Fix-clause-steps : goal.returns-in-Fix-clause-steps
returns-in-Fix-clause-steps c =
    let t = noted_at c.args.term.now c.args.types.now in
    let s = c.in-Fix in
    IfOk-weaker c.walk_fix.result _ _
    (λ next h. walks t c.args.work.now c.args.part.node c.args.part.depth (EFix (tree s.arg) (tree s.res) (t s.body))
    c.walk_fix.new.work next
    (c.node_at-found.ensures.tree ∙ ap (noted_shape t (tree c.node_at-found.result.1.now)) s.is) (h t))
    c.walk_fix.ensures.steps

pub returns-in-Gen-clause-steps : goal.returns-in-Gen-clause-steps
returns-in-Gen-clause-steps c =
    let t = noted_at c.args.term.now c.args.types.now in
    let s = c.in-Gen in
    IfOk-weaker c.walk_gen.result _ _
    (λ next h. walks t c.args.work.now c.args.part.node c.args.part.depth
    (EGen (t s.body) (tree c.under_all.result.now))
    c.walk_gen.new.work next
    (c.node_at-found.ensures.tree ∙ ap (noted_shape t (tree c.node_at-found.result.1.now)) s.is
    ∙ ap (EGen (t s.body)) (sym c.under_all.ensures)) (h t)) c.walk_gen.ensures.steps

pub returns-in-Tuple-clause-steps : goal.returns-in-Tuple-clause-steps
returns-in-Tuple-clause-steps c =
    let t = noted_at c.args.term.now c.args.types.now in
    let s = c.in-Tuple in
    let ty = tree c.node_at-found.result.1.now in
    IfOk-weaker c.walk_fields.result _ _
    (λ next h. walks t c.args.work.now c.args.part.node c.args.part.depth (ETuple (noteds (map t s.es.items)) ty)
    c.walk_fields.new.work next
    (c.node_at-found.ensures.tree ∙ ap (noted_shape t ty) s.is)
    (goes_tuple t c.args.work.now s.es.items c.deref-in-Tuple.result.now c.new-done.result.items ty c.args.part.depth
    c.walk_fields.new.work next c.deref-in-Tuple.ensures.value c.new-done.ensures.items (h t)))
    c.walk_fields.ensures.steps

pub returns-in-If0-clause-steps : goal.returns-in-If0-clause-steps
returns-in-If0-clause-steps c =
    let t = noted_at c.args.term.now c.args.types.now in
    let s = c.in-If0 in
    IfOk-weaker c.walk_if0.result _ _
    (λ next h. walks t c.args.work.now c.args.part.node c.args.part.depth
    (EIf (t s.test) (t s.zero) (t s.other) (tree c.node_at-found.result.1.now)) c.walk_if0.new.work next
    (c.node_at-found.ensures.tree ∙ ap (noted_shape t (tree c.node_at-found.result.1.now)) s.is) (h t))
    c.walk_if0.ensures.steps

pub returns-in-Let-clause-steps : goal.returns-in-Let-clause-steps
returns-in-Let-clause-steps c =
    let t = noted_at c.args.term.now c.args.types.now in
    let s = c.in-Let in
    next_is c.enter-in-Let.result (C.Walk s.a c.args.part.depth) _ c.enter-in-Let.ensures
    (λ waits. walks t c.args.work.now c.args.part.node c.args.part.depth (ELet (t s.a) (t s.b))
    (record {
      out = c.args.work.now.out;
      frames = c.enter-in-Let.new.frames;
      pending = c.args.work.now.pending;
      names = c.args.work.now.names;
      levels = c.args.work.now.levels;
      types = c.args.work.now.types;
    })
    (C.Walk s.a c.args.part.depth)
    (c.node_at-found.ensures.tree ∙ ap (noted_shape t (tree c.node_at-found.result.1.now)) s.is)
    (goes_let t c.args.work.now c.enter-in-Let.new.frames s.a s.b c.args.part.depth waits))

pub returns-in-Pack-clause-steps : goal.returns-in-Pack-clause-steps
returns-in-Pack-clause-steps c =
    let t = noted_at c.args.term.now c.args.types.now in
    let s = c.in-Pack in
    next_is c.enter-in-Pack.result (C.Walk s.inner c.args.part.depth) _ c.enter-in-Pack.ensures
    (λ waits. walks t c.args.work.now c.args.part.node c.args.part.depth
    (EPack (tree s.hidden) (t s.inner) (tree s.shape))
    (record {
      out = c.args.work.now.out;
      frames = c.enter-in-Pack.new.frames;
      pending = c.args.work.now.pending;
      names = c.args.work.now.names;
      levels = c.args.work.now.levels;
      types = c.args.work.now.types;
    })
    (C.Walk s.inner c.args.part.depth)
    (c.node_at-found.ensures.tree ∙ ap (noted_shape t (tree c.node_at-found.result.1.now)) s.is)
    (goes_pack t c.args.work.now c.enter-in-Pack.new.frames s.inner _ _ c.args.part.depth waits))

pub returns-in-Open-clause-steps : goal.returns-in-Open-clause-steps
returns-in-Open-clause-steps c =
    let t = noted_at c.args.term.now c.args.types.now in
    let s = c.in-Open in
    next_is c.enter-in-Open.result (C.Walk s.a c.args.part.depth) _ c.enter-in-Open.ensures
    (λ waits. walks t c.args.work.now c.args.part.node c.args.part.depth
    (EOpen (t s.a) (t s.b) (tree c.node_at-found.result.1.now))
    (record {
      out = c.args.work.now.out;
      frames = c.enter-in-Open.new.frames;
      pending = c.args.work.now.pending;
      names = c.args.work.now.names;
      levels = c.args.work.now.levels;
      types = c.args.work.now.types;
    })
    (C.Walk s.a c.args.part.depth)
    (c.node_at-found.ensures.tree ∙ ap (noted_shape t (tree c.node_at-found.result.1.now)) s.is)
    (goes_open t c.args.work.now c.enter-in-Open.new.frames s.a s.b _ c.args.part.depth waits))

pub returns-in-Ref-clause-steps : goal.returns-in-Ref-clause-steps
returns-in-Ref-clause-steps c =
    let t = noted_at c.args.term.now c.args.types.now in
    let s = c.in-Ref in
    next_is c.enter-in-Ref.result (C.Walk s.e c.args.part.depth) _ c.enter-in-Ref.ensures
    (λ waits. walks t c.args.work.now c.args.part.node c.args.part.depth
    (ERef (t s.e) (tree c.node_at-found.result.1.now))
    (record {
      out = c.args.work.now.out;
      frames = c.enter-in-Ref.new.frames;
      pending = c.args.work.now.pending;
      names = c.args.work.now.names;
      levels = c.args.work.now.levels;
      types = c.args.work.now.types;
    })
    (C.Walk s.e c.args.part.depth)
    (c.node_at-found.ensures.tree ∙ ap (noted_shape t (tree c.node_at-found.result.1.now)) s.is)
    (goes_ref t c.args.work.now c.enter-in-Ref.new.frames s.e _ c.args.part.depth waits))

pub returns-in-Deref-clause-steps : goal.returns-in-Deref-clause-steps
returns-in-Deref-clause-steps c =
    let t = noted_at c.args.term.now c.args.types.now in
    let s = c.in-Deref in
    next_is c.enter-in-Deref.result (C.Walk s.e c.args.part.depth) _ c.enter-in-Deref.ensures
    (λ waits. walks t c.args.work.now c.args.part.node c.args.part.depth
    (EDeref (t s.e) (tree c.node_at-found.result.1.now))
    (record {
      out = c.args.work.now.out;
      frames = c.enter-in-Deref.new.frames;
      pending = c.args.work.now.pending;
      names = c.args.work.now.names;
      levels = c.args.work.now.levels;
      types = c.args.work.now.types;
    })
    (C.Walk s.e c.args.part.depth)
    (c.node_at-found.ensures.tree ∙ ap (noted_shape t (tree c.node_at-found.result.1.now)) s.is)
    (goes_deref t c.args.work.now c.enter-in-Deref.new.frames s.e _ c.args.part.depth waits))

pub returns-in-Assign-clause-steps : goal.returns-in-Assign-clause-steps
returns-in-Assign-clause-steps c =
    let t = noted_at c.args.term.now c.args.types.now in
    let s = c.in-Assign in
    next_is c.enter-in-Assign.result (C.Walk s.a c.args.part.depth) _ c.enter-in-Assign.ensures
    (λ waits. walks t c.args.work.now c.args.part.node c.args.part.depth (EAssign (t s.a) (t s.b))
    (record {
      out = c.args.work.now.out;
      frames = c.enter-in-Assign.new.frames;
      pending = c.args.work.now.pending;
      names = c.args.work.now.names;
      levels = c.args.work.now.levels;
      types = c.args.work.now.types;
    })
    (C.Walk s.a c.args.part.depth)
    (c.node_at-found.ensures.tree ∙ ap (noted_shape t (tree c.node_at-found.result.1.now)) s.is)
    (goes_assign t c.args.work.now c.enter-in-Assign.new.frames s.a s.b c.args.part.depth waits))

pub returns-in-Let-clause-inside : goal.returns-in-Let-clause-inside
returns-in-Let-clause-inside c =
    let m = count c.args.term.now in
    let s = c.in-Let in
    let k = kids_two m c.node_at-found.result.0.now.shape s.a s.b (ap children s.is) c.node_at-found.ensures.kids in
    next_is c.enter-in-Let.result (C.Walk s.a c.args.part.depth) _ c.enter-in-Let.ensures
    (λ waits kept. (k.0, all_push (FrameIn m) _ _ _ waits kept.0 k.1, kept.1))

pub returns-in-Pack-clause-inside : goal.returns-in-Pack-clause-inside
returns-in-Pack-clause-inside c =
    let m = count c.args.term.now in
    let s = c.in-Pack in
    let k = kids_one m c.node_at-found.result.0.now.shape s.inner (ap children s.is) c.node_at-found.ensures.kids in
    next_is c.enter-in-Pack.result (C.Walk s.inner c.args.part.depth) _ c.enter-in-Pack.ensures
    (λ waits kept. (k, all_push (FrameIn m) _ _ _ waits kept.0 tt, kept.1))

pub returns-in-Open-clause-inside : goal.returns-in-Open-clause-inside
returns-in-Open-clause-inside c =
    let m = count c.args.term.now in
    let s = c.in-Open in
    let k = kids_two m c.node_at-found.result.0.now.shape s.a s.b (ap children s.is) c.node_at-found.ensures.kids in
    next_is c.enter-in-Open.result (C.Walk s.a c.args.part.depth) _ c.enter-in-Open.ensures
    (λ waits kept. (k.0, all_push (FrameIn m) _ _ _ waits kept.0 k.1, kept.1))

pub returns-in-Ref-clause-inside : goal.returns-in-Ref-clause-inside
returns-in-Ref-clause-inside c =
    let m = count c.args.term.now in
    let s = c.in-Ref in
    let k = kids_one m c.node_at-found.result.0.now.shape s.e (ap children s.is) c.node_at-found.ensures.kids in
    next_is c.enter-in-Ref.result (C.Walk s.e c.args.part.depth) _ c.enter-in-Ref.ensures
    (λ waits kept. (k, all_push (FrameIn m) _ _ _ waits kept.0 tt, kept.1))

pub returns-in-Deref-clause-inside : goal.returns-in-Deref-clause-inside
returns-in-Deref-clause-inside c =
    let m = count c.args.term.now in
    let s = c.in-Deref in
    let k = kids_one m c.node_at-found.result.0.now.shape s.e (ap children s.is) c.node_at-found.ensures.kids in
    next_is c.enter-in-Deref.result (C.Walk s.e c.args.part.depth) _ c.enter-in-Deref.ensures
    (λ waits kept. (k, all_push (FrameIn m) _ _ _ waits kept.0 tt, kept.1))

pub returns-in-Assign-clause-inside : goal.returns-in-Assign-clause-inside
returns-in-Assign-clause-inside c =
    let m = count c.args.term.now in
    let s = c.in-Assign in
    let k = kids_two m c.node_at-found.result.0.now.shape s.a s.b (ap children s.is) c.node_at-found.ensures.kids in
    next_is c.enter-in-Assign.result (C.Walk s.a c.args.part.depth) _ c.enter-in-Assign.ensures
    (λ waits kept. (k.0, all_push (FrameIn m) _ _ _ waits kept.0 k.1, kept.1))
