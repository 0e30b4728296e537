use Rattle.std.proofs.Common.{◌≡◌, ◌≤◌, ◌∙◌, ◌∷◌, ◌++◌, ℕ, List, [], true, ap, sym, subst, arith, length}
use Rattle.std.proofs.lemmas.List.{length-append, take_all}
use Rattle.h_terms.specs.Nodes.{h_blocks, values}
use Rattle.let_types.specs.Hoisted.{decl_of, names_behind, types_behind}
use Rattle.let_types.specs.Names.{scope, Under}
use Rattle.let_types.specs.declared.named.Named.{Named}
use Rattle.h_notation.specs.Scopes.{node_text}
use Rattle.h_notation.proofs.ScopeTexts.{let_fit, let_note, let_written, pushed}
use Rattle.h_notation.proofs.terms.step_let.Goals as goal

pub one_name-requires : goal.one_name-requires
one_name-requires c = record {
  form = c.requires.form;
  under = subst (Under c.args.scope.types)
      (take_all c.args.scope.names c.args.walk.now.names.items (omega (arith, c.requires.ready.all)))
      c.requires.ready.fit.1;
}

pub note_of_last-requires : goal.note_of_last-requires
note_of_last-requires c =
    let more = c.in_ok-types.ensures.more in
    omega (
      arith,
      ap length c.deref.ensures.value,
      ap length more.2,
      length-append c.args.walk.now.names.items (more.0 ∷ []),
    )

pub returns : goal.returns
returns c =
    let b = c.args.of.typed in
    let ks = h_blocks c.args.of.blocks.now in
    let s = c.args.scope in
    let f = c.args.node.now.form in
    let vs = values c.args.node.now in
    let es = c.args.walk.now.names.items in
    let fs = c.one_name.new.names.items in
    let old = c.args.walk.now.scopes.items in
    let new = c.push.new.self.items in
    let after = c.in_ok-types.types in
    let many : after ≡ types_behind s.types (decl_of f vs) = c.in_ok-types.ensures.types in
    let typed : b ≡ true → scope after fs ≡ names_behind ks (scope s.types es) (decl_of f vs) =
    λ shows. ap (λ k. scope k fs) many ∙ c.in_ok-types.ensures.scope shows in
    let more = c.in_ok-types.ensures.more in
    let e : Named = more.0 in
    let least : e.types ≤ after = subst (λ k. e.types ≤ k) (sym many) more.1 in
    let note = c.in_ok-note.note.items in
    let now = pushed old new c.in_ok-next.next _ c.in_ok-push.ensures.items c.in_ok-next.ensures in
    let is = c.requires.form in
    let ready = c.requires.ready in
    let noted = let_note b ks s f vs es fs e old new is ready after many more.2 least typed note
    (λ u h k. c.in_ok-note.ensures u h (ap (scope after) c.deref.ensures.value ∙ k)) in
    let wrote = c.in_ok-write_node.ensures
    ∙ ap (λ (n : List ℕ). c.args.text.now.items ++ node_text s n f vs) c.deref-2.ensures.value in
    record {
      written = let_written b ks s f vs es fs e old new is ready after many more.2 least typed note _ _ noted wrote now;
      fit = let_fit b ks s f vs es fs e old new is ready after many more.2 least typed now;
      count = omega (
        arith,
        ap length c.in_ok-push.ensures.items,
        length-append old (c.in_ok-next.next ∷ []),
      );
    }
