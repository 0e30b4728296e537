use Rattle.std.proofs.Common.{◌≡◌, ◌∷◌, List, length, rules, ◌∙◌, ap, ap₂, sym, refl, subst, arith}
use Rattle.std.proofs.lemmas.List.{take_all}
use Rattle.t_emit.specs.Code.{onto}
use Rattle.t_gen_rules.specs.Gen.{used, over, decl_code, target}
use Rattle.a_scope.specs.declared.scope.Entry.{Entry}
use Rattle.a_terms.specs.Tree as a
use Rattle.calc_core.specs.Row.{top, others}
use Rattle.a_terms.specs.Program.{program_in}
use Rattle.a_terms.specs.NodeTrees.{a_values, a_decl, no_term}
use Rattle.a_scope.specs.Scope.{homes, Under}
use Rattle.t_gen.proofs.Stepping.{let_stepped, keeps_first}
use Rattle.t_gen.specs.Pending.{tops}
use Rattle.t_gen.specs.Keeps.{Keeps}
use Rattle.t_gen.specs.declared.state.Place.{Place}
use Rattle.t_gen.proofs.step.step_let.Goals as goal

pub choose-requires-clause-held : goal.choose-requires-clause-held
choose-requires-clause-held c =
    let u = c.requires.held.0 in (
      u,
      subst (λ (xs : List Entry). Keeps c.args.turn.place.registers (homes xs) u) (sym c.deref.ensures.value)
          c.requires.held.1,
    )

pub declare-requires-clause-under : goal.declare-requires-clause-under
declare-requires-clause-under c =
    subst (Under c.args.turn.place.names)
    (take_all c.args.turn.place.vars c.args.walk.now.vars.items (omega (arith, c.requires.vars))) c.requires.fit.1.2

pub returns : goal.returns
returns c = λ o ts told f k.
    let x = a_decl c.args.form.now (a_values c.args.values.now) in
    let es = c.args.walk.now.vars.items in
    let m = homes es in
    let e = top no_term ts in
    let p = c.args.turn.place in
    let rd = c.in_ok-rd.rd in
    let old = c.args.walk.now.code.items in
    let k0 : Keeps p.registers m (used (a.Let x e)) =
    keeps_first p (tops c.args.walk.now.places.items) es (a.Let x e) (others ts) c.requires.vars k in
    let spare : c.in_ok-spare.spare ≡ over m (used (a.Let x e)) = c.in_ok-spare.ensures m (used (a.Let x e)) k0 in
    let rs = c.choose.new.registers in
    let r = subst (λ (xs : List Entry). (rd ≡ target (homes xs) x e) × Keeps rs (rd ∷ homes xs) (used e))
    c.deref.ensures.value
    (c.in_ok-rd.ensures e told
    (subst (λ (xs : List Entry). Keeps p.registers (homes xs) (used (a.Let x e))) (sym c.deref.ensures.value)
    k0)) in
    let all : c.len-vars.result ≡ length c.declare.new.vars.items = search rules in
    let q : Place = record { block = p.block; names = c.in_ok-names.names; vars = c.len-vars.result; registers = rs } in
    let n = c.in_ok-names.ensures.more in
    let_stepped (program_in c.args.program.now) p q x ts es c.declare.new.vars.items n.0 c.args.walk.now.places.items _
    o old _
    c.requires.vars n.3 n.1 c.in_ok-names.ensures.scope (n.2 ∙ r.0)
    (λ rest. c.in_ok-emit_declaration.ensures rest
    ∙ ap (λ (xs : List Entry). onto old (decl_code c.in_ok-spare.spare (homes xs) rd x rest))
    c.deref-2.ensures.value ∙ ap₂ (λ t i. onto old (decl_code t m i x rest)) spare r.0)
    c.in_ok-push.ensures.items refl c.in_ok-names.ensures.names all f k (subst (λ i. Keeps rs (i ∷ m) (used e)) r.0 r.1)
