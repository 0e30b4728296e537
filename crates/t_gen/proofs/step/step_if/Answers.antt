use Rattle.std.proofs.Common.{◌≡◌, ℕ, ◌++◌, ◌∷◌, [], List, length, rules, ◌∙◌, ap, sym, refl, subst}
use Rattle.std.specs.Prelude.{◌&&◌, not}
use Rattle.t_terms.specs.Read.{blocks_of}
use Rattle.t_emit.specs.Code.{Listed, onto, reserved}
use Rattle.t_gen_rules.specs.Gen.{used, over, busy, test_code, header}
use Rattle.a_terms.specs.Tree as a
use Rattle.a_terms.specs.NodeTrees.{a_values, a_value, no_value, no_term}
use Rattle.calc_core.specs.Row.{top, others}
use Rattle.a_scope.specs.Scope.{scope, homes}
use Rattle.a_scope.specs.declared.scope.Entry.{Entry}
use Rattle.t_gen.proofs.InUse.{second_keeps, third_keeps}
use Rattle.t_gen.proofs.Stepping.{if_stepped, keeps_first}
use Rattle.t_gen.specs.Keeps.{Keeps, among, each}
use Rattle.t_gen.specs.Pending.{tops}
use Rattle.t_gen.specs.Registers.{Holds}
use Rattle.t_gen.specs.declared.state.Place.{Place}
use Rattle.t_gen.proofs.step.step_if.Goals as goal

pub returns : goal.returns
returns c = λ bs rest told f k.
    let v = top no_value (a_values c.args.values.now) in
    let w = c.args.ahead.now in
    let t = top no_term rest in
    let u = top no_term (others rest) in
    let whole = a.If0 v t u in
    let es = c.args.walk.now.vars.items in
    let m = homes es in
    let p = c.args.place in
    let ps = c.args.walk.now.places.items in
    let old = c.args.walk.now.code.items in
    let o = c.args.out.now.items in
    let spare = c.in_ok-spare.spare in
    let k0 : Keeps p.registers m (used whole) =
    keeps_first p (tops ps) es whole (others (others rest)) c.requires.vars k in
    let free : spare ≡ over m (used whole) = c.in_ok-spare.ensures m (used whole) k0 in
    let q : Place =
    record { block = c.len.result; names = p.names; vars = p.vars; registers = c.in_ok-registers_of.field-0 } in
    let s : Place =
    record { block = p.block; names = p.names; vars = p.vars; registers = c.release_all.new.registers } in
    let long : c.len.result ≡ length o = search rules in
    let among_third = subst (λ (xs : List ℕ). Holds q.registers (among each m xs)) c.deref-2.ensures.value
    (subst (λ (xs : List Entry). Holds q.registers (among each (homes xs) c.deref-2.result.now)) c.deref.ensures.value
    c.in_ok-registers_of.ensures) in
    let let_go =
    subst (λ (xs : List ℕ). Holds s.registers (λ r. busy r m (used whole) && not (among each m xs r)))
    c.deref-6.ensures.value
    (subst (λ (xs : List Entry).
    Holds s.registers (λ r. busy r m (used whole) && not (among each (homes xs) c.deref-6.result.now r)))
    c.deref-5.ensures.value
    (c.in_ok-release_all.ensures (λ r. busy r m (used whole)) k0.holds)) in
    let listed = subst (Listed (used u) 0) (sym c.deref-4.ensures.value) told.0 in
    if_stepped bs p q s v rest es ps c.push-2.new.self.items o c.emit_if0.new.out.items old c.emit_if0.new.code.items
    c.requires.vars long refl refl refl refl refl
    (c.in_ok-push-2.ensures.items ∙ ap (λ (xs : List Place). xs ++ s ∷ []) c.in_ok-push.ensures.items)
    (λ r. c.in_ok-emit_if0.ensures.code r
    ∙ ap (λ (xs : List Entry).
    onto old (test_code spare p.names (homes xs) (a_value c.first.result.now) (length o) r))
    c.deref-3.ensures.value
    ∙ ap (λ x. onto old (test_code spare p.names m x (length o) r)) c.first.ensures
    ∙ ap (λ b. onto old (test_code b p.names m v (length o) r)) free)
    (c.in_ok-emit_if0.ensures.out (used u) listed
    ∙ ap (λ (xs : List Entry). blocks_of o ++ reserved p.names (header (used u) (homes xs) (scope p.names xs))
    ∷ []) c.deref-3.ensures.value) f k
    (second_keeps v rest w m told k0.own s.registers let_go)
    (third_keeps v rest w m told k0.own q.registers among_third)
