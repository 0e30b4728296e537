use Rattle.f_check.proofs.Begins.{opens, work_is, app, inst, proj, arith_form, if_form, let_form, open_form, ref_form}
use Rattle.f_check.proofs.Begins.{deref_form, assign_form}
use Rattle.std.proofs.Common.{◌∙◌, sym, refl, ap, arith}
use Rattle.f_terms.specs.Shape.{children}
use Rattle.f_terms.specs.ReadTerm.{shape_at}
use Rattle.f_check.proofs.Follows.{begun, same_form}
use Rattle.f_check.specs.declared.frame.Frame.TheVariants as C
use Rattle.f_check.proofs.begin.begin.Goals as goal

pub enter-requires : goal.enter-requires
enter-requires c =
    (app c.args.term.now c.args.state.now c.args.i c.node-node.result.now c.requires c.node-node.ensures.tree
    c.node-node.ensures.before c.in-App.f c.in-App.x c.in-App.is).0

pub enter-requires-in-Inst : goal.enter-requires-in-Inst
enter-requires-in-Inst c =
    (inst c.args.term.now c.args.state.now c.args.i c.node-node.result.now c.requires c.node-node.ensures.tree
    c.node-node.ensures.before c.in-Inst.e (record { ref_ptr = c.args.term.ref_ptr; now = c.in-Inst.ty })
    c.in-Inst.is).0

pub enter-requires-in-Proj : goal.enter-requires-in-Proj
enter-requires-in-Proj c =
    (proj c.args.term.now c.args.state.now c.args.i c.node-node.result.now c.requires c.node-node.ensures.tree
    c.node-node.ensures.before c.in-Proj.i c.in-Proj.e c.in-Proj.is).0

pub enter-requires-in-Arith : goal.enter-requires-in-Arith
enter-requires-in-Arith c =
    (arith_form c.args.term.now c.args.state.now c.args.i c.node-node.result.now c.requires c.node-node.ensures.tree
    c.node-node.ensures.before _ c.in-Arith.a c.in-Arith.b c.in-Arith.is).0

pub enter-requires-in-If0 : goal.enter-requires-in-If0
enter-requires-in-If0 c =
    (if_form c.args.term.now c.args.state.now c.args.i c.node-node.result.now c.requires c.node-node.ensures.tree
    c.node-node.ensures.before c.in-If0.c c.in-If0.a c.in-If0.b c.in-If0.is).0

pub returns-in-App-clause-frames : goal.returns-in-App-clause-frames
returns-in-App-clause-frames c =
    let e = sym c.node-node.ensures.form ∙ c.in-App.is in
    begun _ (shape_at c.args.term.now c.args.i) _ _ (C.Function c.node-node.result.now.span c.in-App.x) c.in-App.f
    c.enter.ensures.frames (c.in-App.f, c.in-App.x, e) (ap children e)

pub returns-in-Inst-clause-frames : goal.returns-in-Inst-clause-frames
returns-in-Inst-clause-frames c =
    let e = sym c.node-node.ensures.form ∙ c.in-Inst.is in
    begun _ (shape_at c.args.term.now c.args.i) _ _ _ c.in-Inst.e c.enter-in-Inst.ensures.frames
    (c.in-Inst.e, c.in-Inst.ty, e) (ap children e)

pub returns-in-Proj-clause-frames : goal.returns-in-Proj-clause-frames
returns-in-Proj-clause-frames c =
    let e = sym c.node-node.ensures.form ∙ c.in-Proj.is in
    begun _ (shape_at c.args.term.now c.args.i) _ _ (C.Proj c.node-node.result.now.span c.in-Proj.i) c.in-Proj.e
    c.enter-in-Proj.ensures.frames (c.in-Proj.i, c.in-Proj.e, e) (ap children e)

pub returns-in-Arith-clause-frames : goal.returns-in-Arith-clause-frames
returns-in-Arith-clause-frames c =
    let e = sym c.node-node.ensures.form ∙ c.in-Arith.is in
    begun _ (shape_at c.args.term.now c.args.i) _ _ (C.Left c.node-node.result.now.span c.in-Arith.b) c.in-Arith.a
    c.enter-in-Arith.ensures.frames (_, c.in-Arith.a, c.in-Arith.b, e) (ap children e)

pub returns-in-If0-clause-frames : goal.returns-in-If0-clause-frames
returns-in-If0-clause-frames c =
    let e = sym c.node-node.ensures.form ∙ c.in-If0.is in
    begun _ (shape_at c.args.term.now c.args.i) _ _ (C.Test (record {
      span = c.node-node.result.now.span;
      zero = c.in-If0.a;
      other = c.in-If0.b;
    })) c.in-If0.c c.enter-in-If0.ensures.frames (c.in-If0.c, c.in-If0.a, c.in-If0.b, e) (ap children e)

pub enter-requires-in-Let : goal.enter-requires-in-Let
enter-requires-in-Let c =
    (let_form c.args.term.now c.args.state.now c.args.i c.node-node.result.now c.requires c.node-node.ensures.tree
    c.node-node.ensures.before c.in-Let.a c.in-Let.b c.in-Let.is).0

pub enter-requires-in-Open : goal.enter-requires-in-Open
enter-requires-in-Open c =
    (open_form c.args.term.now c.args.state.now c.args.i c.node-node.result.now c.requires c.node-node.ensures.tree
    c.node-node.ensures.before c.in-Open.a c.in-Open.b c.in-Open.is).0

pub enter-requires-in-Ref : goal.enter-requires-in-Ref
enter-requires-in-Ref c =
    (ref_form c.args.term.now c.args.state.now c.args.i c.node-node.result.now c.requires c.node-node.ensures.tree
    c.node-node.ensures.before c.in-Ref.e c.in-Ref.is).0

pub enter-requires-in-Deref : goal.enter-requires-in-Deref
enter-requires-in-Deref c =
    (deref_form c.args.term.now c.args.state.now c.args.i c.node-node.result.now c.requires c.node-node.ensures.tree
    c.node-node.ensures.before c.in-Deref.e c.in-Deref.is).0

pub enter-requires-in-Assign : goal.enter-requires-in-Assign
enter-requires-in-Assign c =
    (assign_form c.args.term.now c.args.state.now c.args.i c.node-node.result.now c.requires c.node-node.ensures.tree
    c.node-node.ensures.before c.in-Assign.a c.in-Assign.b c.in-Assign.is).0

pub returns-in-Let-clause-frames : goal.returns-in-Let-clause-frames
returns-in-Let-clause-frames c =
    let e = sym c.node-node.ensures.form ∙ c.in-Let.is in
    begun _ (shape_at c.args.term.now c.args.i) _ _ (C.Let c.node-node.result.now.span c.in-Let.b) c.in-Let.a
    c.enter-in-Let.ensures.frames (c.in-Let.a, c.in-Let.b, e) (ap children e)

pub returns-in-Open-clause-frames : goal.returns-in-Open-clause-frames
returns-in-Open-clause-frames c =
    let e = sym c.node-node.ensures.form ∙ c.in-Open.is in
    begun _ (shape_at c.args.term.now c.args.i) _ _ (C.Open c.node-node.result.now.span c.in-Open.b) c.in-Open.a
    c.enter-in-Open.ensures.frames (c.in-Open.a, c.in-Open.b, e) (ap children e)

pub returns-in-Ref-clause-frames : goal.returns-in-Ref-clause-frames
returns-in-Ref-clause-frames c =
    let e = sym c.node-node.ensures.form ∙ c.in-Ref.is in
    begun _ (shape_at c.args.term.now c.args.i) _ _ (C.Ref c.node-node.result.now.span) c.in-Ref.e
    c.enter-in-Ref.ensures.frames (c.in-Ref.e, e) (ap children e)

pub returns-in-Deref-clause-frames : goal.returns-in-Deref-clause-frames
returns-in-Deref-clause-frames c =
    let e = sym c.node-node.ensures.form ∙ c.in-Deref.is in
    begun _ (shape_at c.args.term.now c.args.i) _ _ (C.Deref c.node-node.result.now.span) c.in-Deref.e
    c.enter-in-Deref.ensures.frames (c.in-Deref.e, e) (ap children e)

pub returns-in-Assign-clause-frames : goal.returns-in-Assign-clause-frames
returns-in-Assign-clause-frames c =
    let e = sym c.node-node.ensures.form ∙ c.in-Assign.is in
    begun _ (shape_at c.args.term.now c.args.i) _ _ (C.Target c.node-node.result.now.span c.in-Assign.b) c.in-Assign.a
    c.enter-in-Assign.ensures.frames (c.in-Assign.a, c.in-Assign.b, e) (ap children e)

pub returns-in-Pack-clause-frames : goal.returns-in-Pack-clause-frames
returns-in-Pack-clause-frames c =
    same_form _ _ _ _ _ (sym c.node-node.ensures.form ∙ c.in-Pack.is) c.begin_pack.ensures.frames

pub returns-in-Var-clause-frames : goal.returns-in-Var-clause-frames
returns-in-Var-clause-frames c =
    same_form _ _ _ _ _ (sym c.node-node.ensures.form ∙ c.in-Var.is) c.begin_var.ensures.frames

pub returns-in-Fix-clause-frames : goal.returns-in-Fix-clause-frames
returns-in-Fix-clause-frames c =
    same_form _ _ _ _ _ (sym c.node-node.ensures.form ∙ c.in-Fix.is) c.begin_fix.ensures.frames

pub returns-in-Gen-clause-frames : goal.returns-in-Gen-clause-frames
returns-in-Gen-clause-frames c =
    same_form _ _ _ _ _ (sym c.node-node.ensures.form ∙ c.in-Gen.is) c.begin_gen.ensures.frames

pub returns-in-Tuple-clause-frames : goal.returns-in-Tuple-clause-frames
returns-in-Tuple-clause-frames c =
    same_form _ _ _ _ _ (sym c.node-node.ensures.form ∙ c.in-Tuple.is)
    (c.begin_tuple.ensures.frames c.in-Tuple.es (sym c.deref.ensures.value))

pub returns-in-Int-clause-frames : goal.returns-in-Int-clause-frames
returns-in-Int-clause-frames c = (refl, ap children (sym c.node-node.ensures.form ∙ c.in-Int.is))

pub returns-in-Int-clause-goes : goal.returns-in-Int-clause-goes
returns-in-Int-clause-goes c =
    let o = opens c.args.term.now c.args.state.now c.args.i c.node-node.result.now c.requires c.node-node.ensures.tree
    c.node-node.ensures.before _ c.in-Int.is in
    let e = work_is c.args.term.now c.args.state.now c.args.i c.node-node.result.now c.requires
    c.node-node.ensures.tree c.node-node.ensures.before _ c.in-Int.is in
    ((_, ((refl, tt, (omega arith, omega arith)), refl, o.1)), omega (arith, e))
