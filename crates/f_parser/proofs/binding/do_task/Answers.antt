use Rattle.std.specs.Prelude.{MatchResult}
use Rattle.std.proofs.Common.{◌∷◌, ◌∙◌, ap, sym, subst, refl}
use Rattle.idx_core.specs.Names.{Name}
use Rattle.f_terms.specs.Stacked.{trees_of}
use Rattle.f_grammar.specs.Read.{type_of}
use Rattle.f_parser.specs.Resolve.{StopsAt}
use Rattle.f_parser.specs.Binding.{todo, todos, stand, uses_of, Steps}
use Rattle.f_parser.proofs.Tasks.{stopped, used_in, packed_in, named_in, named_both_in, put_in}
use Rattle.f_parser.proofs.binding.do_task.Goals as goal

pub returns-in-Fields : goal.returns-in-Fields
returns-in-Fields c =
    let text = c.args.text.now in
    let v = c.args.state.now.values in
    let a = c.args.state.now.types in
    let ts = trees_of c.args.state.now.stack in
    let old = todos c.args.state.now.tasks.items in
    let new = todos c.next_field.new.tasks.items in
    subst (λ t. MatchResult c.next_field.result (λ u. Steps text (stand (todo t ∷ old) v a ts) (stand new v a ts))
    (λ e. StopsAt text (uses_of text (todo t) v a) e)) (sym c.in-Fields.is)
    (stopped text _ c.next_field.result _ _ (λ u h. h text v a ts) c.next_field.ensures)

pub returns-in_ok-ty-in-Inst : goal.returns-in_ok-ty-in-Inst
returns-in_ok-ty-in-Inst c =
    let text = c.args.text.now in
    let v = c.args.state.now.values in
    let a = c.args.state.now.types in
    let ts = trees_of c.args.state.now.stack in
    let old = todos c.args.state.now.tasks.items in
    let x = c.in_ok-ty-in-Inst.ensures in
    subst (λ t. MatchResult c.put.result
    (λ u. Steps text (stand (todo t ∷ old) v a ts)
    (stand old v c.type_in_scope.new.types (trees_of c.put.new.stack)))
    (λ e. StopsAt text (uses_of text (todo t) v a) e)) (sym c.in-Inst.is)
    (stopped text _ c.put.result _ _
    (λ u h. used_in text old v a v c.type_in_scope.new.types ts c.in-Inst.span (type_of c.in-Inst.ty.now)
    c.in_ok-ty-in-Inst.ty x.right (trees_of c.put.new.stack) h refl x.kept) c.put.ensures)

pub returns-in-Form : goal.returns-in-Form
returns-in-Form c =
    let text = c.args.text.now in
    let v = c.args.state.now.values in
    let a = c.args.state.now.types in
    let ts = trees_of c.args.state.now.stack in
    let old = todos c.args.state.now.tasks.items in
    subst (λ t. MatchResult c.put-in-Form.result
    (λ u. Steps text (stand (todo t ∷ old) v a ts)
    (stand old c.leave.new.values c.leave.new.types (trees_of c.put-in-Form.new.stack)))
    (λ e. StopsAt text (uses_of text (todo t) v a) e)) (sym c.in-Form.is)
    (stopped text _ c.put-in-Form.result _ _
    (λ u h. put_in text old v a c.leave.new.values c.leave.new.types ts c.in-Form.span c.in-Form.step
    c.in-Form.names (trees_of c.put-in-Form.new.stack) h c.leave.ensures.values c.leave.ensures.types)
    c.put-in-Form.ensures)

pub returns-in_ok-shape-in-Pack : goal.returns-in_ok-shape-in-Pack
returns-in_ok-shape-in-Pack c =
    let text = c.args.text.now in
    let v = c.args.state.now.values in
    let a = c.args.state.now.types in
    let ts = trees_of c.args.state.now.stack in
    let old = todos c.args.state.now.tasks.items in
    let x = c.in_ok-shape-in-Pack.ensures in
    subst (λ t. MatchResult c.put-in-Pack.result
    (λ u. Steps text (stand (todo t ∷ old) v a ts)
    (stand old v c.type_in_scope-in-Pack.new.types (trees_of c.put-in-Pack.new.stack)))
    (λ e. StopsAt text (uses_of text (todo t) v a) e)) (sym c.in-Pack.is)
    (stopped text _ c.put-in-Pack.result _ _
    (λ u h. packed_in text old v a v c.type_in_scope-in-Pack.new.types ts c.in-Pack.span c.in-Pack.hidden
    (type_of c.in-Pack.shape.now) c.in_ok-shape-in-Pack.shape x.right (trees_of c.put-in-Pack.new.stack) h refl
    x.kept) c.put-in-Pack.ensures)

pub returns-in_ok-push-in-Name : goal.returns-in_ok-push-in-Name
returns-in_ok-push-in-Name c =
    let text = c.args.text.now in
    let v = c.args.state.now.values in
    let a = c.args.state.now.types in
    let ts = trees_of c.args.state.now.stack in
    let old = todos c.args.state.now.tasks.items in
    subst (λ t. Steps text (stand (todo t ∷ old) v a ts) (stand old c.push.new.self a ts)) (sym c.in-Name.is)
    (named_in text old v a c.push.new.self ts c.in-Name.name
    (c.in_ok-push-in-Name.ensures.pushed ∙ ap (λ (x : Name). x ∷ v) c.spelling.ensures))

pub returns-in_ok-push-in-Names-2 : goal.returns-in_ok-push-in-Names-2
returns-in_ok-push-in-Names-2 c =
    let text = c.args.text.now in
    let v = c.args.state.now.values in
    let a = c.args.state.now.types in
    let ts = trees_of c.args.state.now.stack in
    let old = todos c.args.state.now.tasks.items in
    subst (λ t. Steps text (stand (todo t ∷ old) v a ts)
    (stand old c.push-in-Names-2.new.self c.push-in-Names.new.self ts)) (sym c.in-Names.is)
    (named_both_in text old v a c.push-in-Names-2.new.self c.push-in-Names.new.self ts c.in-Names.ty c.in-Names.name
    (c.in_ok-push-in-Names-2.ensures.pushed ∙ ap (λ (x : Name). x ∷ v) c.spelling-in-Names-2.ensures)
    (c.in_ok-push-in-Names.ensures.pushed ∙ ap (λ (x : Name). x ∷ a) c.spelling-in-Names.ensures))
