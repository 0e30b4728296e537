use Rattle.std.proofs.Common.{◌≡◌, ◌≤◌, ◌∙◌, ◌∷◌, ◌++◌, ℕ, List, [], ap, sym, subst, arith, length}
use Rattle.std.proofs.lemmas.List.{length-append, take_all}
use Rattle.a_scope.specs.Scope.{scope, Under}
use Rattle.a_scope.specs.declared.scope.Entry.{Entry}
use Rattle.a_terms.specs.Arity.{AArity}
use Rattle.a_terms.specs.NodeTrees.{a_decl, a_values}
use Rattle.a_terms.specs.Program.{program_in}
use Rattle.a_terms.specs.Typing.{declared, more_vars}
use Rattle.a_notation.specs.Scopes.{node_text}
use Rattle.a_notation.proofs.ScopeTexts.{let_fit, let_note, let_written, pushed}
use Rattle.a_notation.proofs.terms.step_let.Goals as goal

pub declare-requires : goal.declare-requires
declare-requires c = record {
  form = c.requires.form;
  arity = subst (λ xs. AArity c.args.node.now.form (a_values xs)) (sym c.as_slice-values.ensures.value)
      c.requires.arity;
  under = subst (Under c.args.scope.types)
      (take_all c.args.scope.names c.args.walk.now.vars.items (omega (arith, c.requires.ready.all)))
      c.requires.ready.fit.1;
}

pub note_of_last-requires : goal.note_of_last-requires
note_of_last-requires c =
    let more = c.in_ok-types.ensures.more in
    omega (
      arith,
      ap length c.deref.ensures.value,
      ap length more.3,
      length-append c.args.walk.now.vars.items (more.0 ∷ []),
    )

pub returns : goal.returns
returns c =
    let b = c.args.of.typed in
    let p = program_in c.args.of.program.now in
    let s = c.args.scope in
    let f = c.args.node.now.form in
    let vs = a_values c.args.node.now.values.items in
    let es = c.args.walk.now.vars.items in
    let fs = c.declare.new.vars.items in
    let old = c.args.walk.now.scopes.items in
    let new = c.push.new.self.items in
    let after = c.in_ok-types.types in
    let same = c.as_slice-values.ensures.value in
    let many : after ≡ more_vars (a_decl f vs) s.types =
    c.in_ok-types.ensures.names ∙ ap (λ xs. more_vars (a_decl f (a_values xs)) s.types) same in
    let typed : scope after fs ≡ declared p (scope s.types es) (a_decl f vs) =
    ap (λ k. scope k fs) c.in_ok-types.ensures.names ∙ c.in_ok-types.ensures.scope
    ∙ ap (λ xs. declared p (scope s.types es) (a_decl f (a_values xs))) same in
    let more = c.in_ok-types.ensures.more in
    let e : Entry = more.0 in
    let least : e.names ≤ after = subst (λ k. e.names ≤ k) (sym c.in_ok-types.ensures.names) more.1 in
    let note = c.in_ok-note.note.items in
    let now = pushed old new c.in_ok-next.next _ c.in_ok-push.ensures.items c.in_ok-next.ensures in
    let is = c.requires.form in
    let ready = c.requires.ready in
    let noted = let_note b p s f vs es fs e old new is ready after many more.3 least typed note
    (λ u h k. c.in_ok-note.ensures u h (ap (scope after) c.deref.ensures.value ∙ k)) in
    let wrote = c.in_ok-write_node.ensures
    ∙ ap (λ (n : List ℕ). c.args.text.now.items ++ node_text s n f vs) c.deref-2.ensures.value in
    record {
      written = let_written b p s f vs es fs e old new is ready after many more.3 least typed note _ _ noted wrote now;
      fit = let_fit b p s f vs es fs e old new is ready after many more.3 least typed now;
      count = omega (
        arith,
        ap length c.in_ok-push.ensures.items,
        length-append old (c.in_ok-next.next ∷ []),
      );
    }
