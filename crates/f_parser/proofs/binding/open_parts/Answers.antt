use Rattle.std.proofs.Common.{◌∙◌, ◌<◌, List, ◌∷◌, length, map, ap, ap₂, sym, subst, arith, All}
use Rattle.f_grammar.specs.Raw.{RApp, RArith, RProj, RInst, RFields, RIf0, RCell, RDeref, RAssign, raw_tms}
use Rattle.f_grammar.specs.Read.{type_of}
use Rattle.f_grammar.specs.Term.{node_at}
use Rattle.f_grammar.specs.Term.{count as count_of}
use Rattle.f_grammar.specs.declared.raw.RawShape.TheVariants as S
use Rattle.f_parser.specs.Parts.{part_tree, part_trees}
use Rattle.f_parser.specs.Binding.{Bind, BindAll, Todo, todos, count}
use Rattle.f_parser.proofs.Tasks.{opened, by_parts, app, arith_form, proj, inst, fields, if0, ref}
use Rattle.f_parser.proofs.Tasks.{deref, assign, count_is}
use Rattle.f_parser.proofs.Nodes.{inside, form_is}
use Rattle.f_parser.proofs.binding.open_parts.Goals as goal

pub returns-in-App : goal.returns-in-App
returns-in-App c =
    let old = todos c.args.tasks.now.items in
    let s = c.node-node.result.now.span in
    opened c.push_two.result _ _
    (λ eq text v a ts. by_parts text old (todos c.push_two.new.tasks.items) _ (part_tree c.args.term)
    (RApp s (part_tree c.child.result) (part_tree c.child-in-App.result)) v a v a ts
    (form_is c.args.term c.node-node.result.now (S.App c.in-App.a c.in-App.b) c.node-node.ensures.tree c.in-App.is
    ∙ sym (ap₂ (λ x y. RApp s x y) c.child.ensures c.child-in-App.ensures)) eq
    (app text old v a ts s (part_tree c.child.result) (part_tree c.child-in-App.result)))
    c.push_two.ensures

pub returns-in-Arith : goal.returns-in-Arith
returns-in-Arith c =
    let old = todos c.args.tasks.now.items in
    let s = c.node-node.result.now.span in
    let op = c.in-Arith.op in
    opened c.push_two-in-Arith.result _ _
    (λ eq text v a ts. by_parts text old (todos c.push_two-in-Arith.new.tasks.items) _ (part_tree c.args.term)
    (RArith s op (part_tree c.child-in-Arith.result) (part_tree c.child-in-Arith-2.result)) v a v a ts
    (form_is c.args.term c.node-node.result.now (S.Arith op c.in-Arith.a c.in-Arith.b) c.node-node.ensures.tree
    c.in-Arith.is ∙ sym (ap₂ (λ x y. RArith s op x y) c.child-in-Arith.ensures c.child-in-Arith-2.ensures)) eq
    (arith_form text old v a ts s op (part_tree c.child-in-Arith.result) (part_tree c.child-in-Arith-2.result)))
    c.push_two-in-Arith.ensures

pub returns-in-Proj : goal.returns-in-Proj
returns-in-Proj c =
    let old = todos c.args.tasks.now.items in
    let s = c.node-node.result.now.span in
    let n = c.in-Proj.field in
    opened c.push_one.result _ _
    (λ eq text v a ts. by_parts text old (todos c.push_one.new.tasks.items) _ (part_tree c.args.term)
    (RProj s n (part_tree c.child-in-Proj.result)) v a v a ts
    (form_is c.args.term c.node-node.result.now (S.Proj n c.in-Proj.a) c.node-node.ensures.tree c.in-Proj.is
    ∙ sym (ap (λ x. RProj s n x) c.child-in-Proj.ensures)) eq
    (proj text old v a ts s n (part_tree c.child-in-Proj.result)))
    c.push_one.ensures

pub returns-in_ok-push-in-Inst : goal.returns-in_ok-push-in-Inst
returns-in_ok-push-in-Inst c =
    let old = todos c.args.tasks.now.items in
    let s = c.node-node.result.now.span in
    let t = type_of c.in-Inst.ty in
    let e = part_tree c.child-in-Inst.result in
    opened c.push-in-Inst.result _ _
    (λ eq text v a ts. by_parts text old (todos c.push-in-Inst.new.tasks.items) _ (part_tree c.args.term)
    (RInst s e t) v a v a ts
    (form_is c.args.term c.node-node.result.now (S.Inst c.in-Inst.a c.in-Inst.ty) c.node-node.ensures.tree c.in-Inst.is
    ∙ sym (ap (λ x. RInst s x t) c.child-in-Inst.ensures))
    (eq ∙ ap (λ (tds : List Todo). Bind e ∷ tds) c.in_ok-push-in-Inst.ensures) (inst text old v a ts s e t))
    c.push-in-Inst.ensures

pub returns-in_ok-push-in-Tuple : goal.returns-in_ok-push-in-Tuple
returns-in_ok-push-in-Tuple c =
    let old = todos c.args.tasks.now.items in
    let s = c.node-node.result.now.span in
    let es = part_trees c.children.result in
    let at = node_at c.args.term.term.now in
    opened c.push-in-Tuple-2.result _ _
    (λ eq text v a ts. by_parts text old (todos c.push-in-Tuple-2.new.tasks.items) _ (part_tree c.args.term)
    (RFields s es) v a v a ts
    (form_is c.args.term c.node-node.result.now (S.Tuple c.in-Tuple.parts) c.node-node.ensures.tree c.in-Tuple.is
    ∙ ap (RFields s) (sym (c.children.ensures ∙ ap (λ ks. raw_tms (map at ks)) c.deref.ensures.value)))
    (eq ∙ ap (λ (tds : List Todo). BindAll es ∷ tds) c.in_ok-push-in-Tuple.ensures)
    (fields text old v a ts s es _
    (omega (
      arith,
      c.len.ensures,
      c.in-Tuple.parts.ok.0,
      ap count c.children.ensures,
      count_is at c.deref.result.now,
      ap length c.deref.ensures.value,
    ))))
    c.push-in-Tuple-2.ensures

pub returns-in_ok-push_two-in-If0 : goal.returns-in_ok-push_two-in-If0
returns-in_ok-push_two-in-If0 c =
    let old = todos c.args.tasks.now.items in
    let s = c.node-node.result.now.span in
    let d = part_tree c.child-in-If0-3.result in
    let e = part_tree c.child-in-If0.result in
    let f = part_tree c.child-in-If0-2.result in
    opened c.push-in-If0.result _ _
    (λ eq text v a ts. by_parts text old (todos c.push-in-If0.new.tasks.items) _ (part_tree c.args.term)
    (RIf0 s d e f) v a v a ts
    (form_is c.args.term c.node-node.result.now (S.If0 c.in-If0.a c.in-If0.b c.in-If0.c) c.node-node.ensures.tree
    c.in-If0.is
    ∙ sym (ap (λ x. RIf0 s x e f) c.child-in-If0-3.ensures
    ∙ ap₂ (λ x y. RIf0 s (node_at c.args.term.term.now c.in-If0.a) x y) c.child-in-If0.ensures
    c.child-in-If0-2.ensures))
    (eq ∙ ap (λ (tds : List Todo). Bind d ∷ tds) c.in_ok-push_two-in-If0.ensures) (if0 text old v a ts s d e f))
    c.push-in-If0.ensures

pub returns-in-Ref : goal.returns-in-Ref
returns-in-Ref c =
    let old = todos c.args.tasks.now.items in
    let s = c.node-node.result.now.span in
    opened c.push_one-in-Ref.result _ _
    (λ eq text v a ts. by_parts text old (todos c.push_one-in-Ref.new.tasks.items) _ (part_tree c.args.term)
    (RCell s (part_tree c.child-in-Ref.result)) v a v a ts
    (form_is c.args.term c.node-node.result.now (S.Ref c.in-Ref.a) c.node-node.ensures.tree c.in-Ref.is
    ∙ sym (ap (λ x. RCell s x) c.child-in-Ref.ensures)) eq
    (ref text old v a ts s (part_tree c.child-in-Ref.result)))
    c.push_one-in-Ref.ensures

pub returns-in-Deref : goal.returns-in-Deref
returns-in-Deref c =
    let old = todos c.args.tasks.now.items in
    let s = c.node-node.result.now.span in
    opened c.push_one-in-Deref.result _ _
    (λ eq text v a ts. by_parts text old (todos c.push_one-in-Deref.new.tasks.items) _ (part_tree c.args.term)
    (RDeref s (part_tree c.child-in-Deref.result)) v a v a ts
    (form_is c.args.term c.node-node.result.now (S.Deref c.in-Deref.a) c.node-node.ensures.tree c.in-Deref.is
    ∙ sym (ap (λ x. RDeref s x) c.child-in-Deref.ensures)) eq
    (deref text old v a ts s (part_tree c.child-in-Deref.result)))
    c.push_one-in-Deref.ensures

pub returns-in-Assign : goal.returns-in-Assign
returns-in-Assign c =
    let old = todos c.args.tasks.now.items in
    let s = c.node-node.result.now.span in
    opened c.push_two-in-Assign.result _ _
    (λ eq text v a ts. by_parts text old (todos c.push_two-in-Assign.new.tasks.items) _ (part_tree c.args.term)
    (RAssign s (part_tree c.child-in-Assign.result) (part_tree c.child-in-Assign-2.result)) v a v a ts
    (form_is c.args.term c.node-node.result.now (S.Assign c.in-Assign.a c.in-Assign.b) c.node-node.ensures.tree
    c.in-Assign.is ∙ sym (ap₂ (λ x y. RAssign s x y) c.child-in-Assign.ensures c.child-in-Assign-2.ensures)) eq
    (assign text old v a ts s (part_tree c.child-in-Assign.result) (part_tree c.child-in-Assign-2.result)))
    c.push_two-in-Assign.ensures

pub child-requires-in-Ref : goal.child-requires-in-Ref
child-requires-in-Ref c =
    inside c.args.term c.node-node.result.now (S.Ref c.in-Ref.a) c.node-node.ensures.inside c.in-Ref.is 0 0
    (omega arith)

pub child-requires-in-Deref : goal.child-requires-in-Deref
child-requires-in-Deref c =
    inside c.args.term c.node-node.result.now (S.Deref c.in-Deref.a) c.node-node.ensures.inside c.in-Deref.is 0 0
    (omega arith)

pub child-requires-in-Assign : goal.child-requires-in-Assign
child-requires-in-Assign c =
    inside c.args.term c.node-node.result.now (S.Assign c.in-Assign.a c.in-Assign.b) c.node-node.ensures.inside
    c.in-Assign.is 0 0 (omega arith)

pub child-requires-in-Assign-2 : goal.child-requires-in-Assign-2
child-requires-in-Assign-2 c =
    inside c.args.term c.node-node.result.now (S.Assign c.in-Assign.a c.in-Assign.b) c.node-node.ensures.inside
    c.in-Assign.is 1 0 (omega arith)

pub child-requires : goal.child-requires
child-requires c =
    inside c.args.term c.node-node.result.now (S.App c.in-App.a c.in-App.b) c.node-node.ensures.inside c.in-App.is 0 0
    (omega arith)

pub child-requires-in-App : goal.child-requires-in-App
child-requires-in-App c =
    inside c.args.term c.node-node.result.now (S.App c.in-App.a c.in-App.b) c.node-node.ensures.inside c.in-App.is 1 0
    (omega arith)

pub child-requires-in-Arith : goal.child-requires-in-Arith
child-requires-in-Arith c =
    inside c.args.term c.node-node.result.now (S.Arith c.in-Arith.op c.in-Arith.a c.in-Arith.b)
    c.node-node.ensures.inside c.in-Arith.is 0 0 (omega arith)

pub child-requires-in-Arith-2 : goal.child-requires-in-Arith-2
child-requires-in-Arith-2 c =
    inside c.args.term c.node-node.result.now (S.Arith c.in-Arith.op c.in-Arith.a c.in-Arith.b)
    c.node-node.ensures.inside c.in-Arith.is 1 0 (omega arith)

pub child-requires-in-Proj : goal.child-requires-in-Proj
child-requires-in-Proj c =
    inside c.args.term c.node-node.result.now (S.Proj c.in-Proj.field c.in-Proj.a) c.node-node.ensures.inside
    c.in-Proj.is 0 0 (omega arith)

pub child-requires-in-Inst : goal.child-requires-in-Inst
child-requires-in-Inst c =
    inside c.args.term c.node-node.result.now (S.Inst c.in-Inst.a c.in-Inst.ty) c.node-node.ensures.inside c.in-Inst.is
    0 0 (omega arith)

pub child-requires-in-If0 : goal.child-requires-in-If0
child-requires-in-If0 c =
    inside c.args.term c.node-node.result.now (S.If0 c.in-If0.a c.in-If0.b c.in-If0.c) c.node-node.ensures.inside
    c.in-If0.is 1 0 (omega arith)

pub child-requires-in-If0-2 : goal.child-requires-in-If0-2
child-requires-in-If0-2 c =
    inside c.args.term c.node-node.result.now (S.If0 c.in-If0.a c.in-If0.b c.in-If0.c) c.node-node.ensures.inside
    c.in-If0.is 2 0 (omega arith)

pub child-requires-in-If0-3 : goal.child-requires-in-If0-3
child-requires-in-If0-3 c =
    inside c.args.term c.node-node.result.now (S.If0 c.in-If0.a c.in-If0.b c.in-If0.c) c.node-node.ensures.inside
    c.in-If0.is 0 0 (omega arith)

pub children-requires : goal.children-requires
children-requires c =
    subst (All (λ k. k < count_of c.args.term.term.now)) (sym c.deref.ensures.value)
    (inside c.args.term c.node-node.result.now (S.Tuple c.in-Tuple.parts) c.node-node.ensures.inside c.in-Tuple.is)
