use Rattle.std.proofs.Common.{length, ◌∙◌, ap, ap₂, sym, subst, arith, ◌∷◌}
use Rattle.t_terms.specs.Read.{blocks_of}
use Rattle.t_terms.proofs.Blocks.{blocks_count}
use Rattle.a_terms.specs.Tree as a
use Rattle.a_terms.specs.Read.{atrees}
use Rattle.a_terms.specs.Program.{program_in}
use Rattle.a_terms.specs.NodeTrees.{a_values, a_build, a_let, a_decl, no_value, no_term}
use Rattle.a_terms.specs.Arity.{a_kids, AArity}
use Rattle.calc_core.specs.Row.{IsOne, IsSome, top, others}
use Rattle.a_terms.specs.declared.nodes.AForm.{AForm}
use Rattle.t_gen.specs.Uses.{Tells, Ending}
use Rattle.t_gen.proofs.Stepping.{build_decl, stepped_as, keeps_as, told_ending}
use Rattle.t_gen.specs.Pending.{Parting}
use Rattle.t_gen.proofs.step.step.Goals as goal

pub step_let-requires : goal.step_let-requires
step_let-requires c = record {
  form = sym c.declares.ensures ∙ c.if-declares.true;
  arity =
      subst (λ xs. AArity c.args.node.now.form (a_values xs)) (sym c.as_slice-values.ensures.value) c.requires.arity;
  vars = c.requires.vars;
  fit = (length (blocks_of c.args.out.now.items), c.requires.fit);
  held = c.requires.held;
}

pub step_call-requires : goal.step_call-requires
step_call-requires c = record {
  arity = subst (λ xs. IsSome (a_values xs)) (sym c.as_slice-values.ensures.value)
      (subst (λ (f : AForm). AArity f (a_values c.args.node.now.values.items)) c.in-Call.is c.requires.arity);
  vars = c.requires.vars;
  block = omega (arith, c.requires.fit.0, blocks_count c.args.out.now.items);
}

pub step_halt-requires : goal.step_halt-requires
step_halt-requires c = record {
  arity = subst (λ xs. IsOne (a_values xs)) (sym c.as_slice-values.ensures.value)
      (subst (λ (f : AForm). AArity f (a_values c.args.node.now.values.items)) c.in-Halt.is c.requires.arity);
  vars = c.requires.vars;
  block = omega (arith, c.requires.fit.0, blocks_count c.args.out.now.items);
}

pub step_if-requires : goal.step_if-requires
step_if-requires c = record {
  arity = subst (λ xs. IsOne (a_values xs)) (sym c.as_slice-values.ensures.value)
      (subst (λ (f : AForm). AArity f (a_values c.args.node.now.values.items)) c.in-If0.is c.requires.arity);
  vars = c.requires.vars;
}

pub returns-then-declares : goal.returns-then-declares
returns-then-declares c = λ ts told k.
    let f = c.args.node.now.form in
    let is = sym c.declares.ensures ∙ c.if-declares.true in
    let b = build_decl f (a_values c.args.node.now.values.items) is in
    let same = c.as_slice-values.ensures.value in
    let w = c.args.turn.ahead.now in
    let t = told_ending f (a_values c.args.node.now.values.items) ts w is told in
    let t2 = subst (λ xs. Ending (a_decl f (a_values xs)) (top no_term ts) w) (sym same) t in
    let e = b.0 ∙ ap (λ xs. a_let (a_decl f (a_values xs))) (sym same) in
    stepped_as e b.1
    (c.in_ok-step_let.ensures c.args.out.now.items ts t2 c.requires.fit
    (keeps_as c.args.walk.now.vars.items c.args.turn.place c.args.walk.now.places.items ts e k))

pub returns-in_ok-step_call-in-Call : goal.returns-in_ok-step_call-in-Call
returns-in_ok-step_call-in-Call c = λ rest told k.
    let e = ap (λ (f : AForm). a_build f (a_values c.args.node.now.values.items)) c.in-Call.is
    ∙ ap₂ (λ xs us ts. a.Call (top no_value (a_values xs)) (atrees us) (others (a_values xs)) ∷ ts)
    (sym c.as_slice-values.ensures.value) (sym c.deref.ensures.value) in
    stepped_as e (ap a_kids c.in-Call.is)
    (c.in_ok-step_call-in-Call.ensures (program_in c.args.program.now) rest c.requires.fit
    (keeps_as c.args.walk.now.vars.items c.args.turn.place c.args.walk.now.places.items rest e k))

pub returns-in_ok-step_halt-in-Halt : goal.returns-in_ok-step_halt-in-Halt
returns-in_ok-step_halt-in-Halt c = λ rest told k.
    let e = ap (λ (f : AForm). a_build f (a_values c.args.node.now.values.items)) c.in-Halt.is
    ∙ ap (λ xs ts. a.Halt (top no_value (a_values xs)) ∷ ts) (sym c.as_slice-values.ensures.value) in
    stepped_as e (ap a_kids c.in-Halt.is)
    (c.in_ok-step_halt-in-Halt.ensures (program_in c.args.program.now) rest c.requires.fit
    (keeps_as c.args.walk.now.vars.items c.args.turn.place c.args.walk.now.places.items rest e k))

pub returns-in_ok-step_if-in-If0 : goal.returns-in_ok-step_if-in-If0
returns-in_ok-step_if-in-If0 c = λ rest told k.
    let w = c.args.turn.ahead.now in
    let parting = subst (λ (f : AForm). Tells f (a_values c.args.node.now.values.items) rest w) c.in-If0.is told in
    let same = c.as_slice-values.ensures.value in
    let e = ap (λ (f : AForm). a_build f (a_values c.args.node.now.values.items)) c.in-If0.is
    ∙ ap (λ xs ts. a.If0 (top no_value (a_values xs)) (top no_term ts) (top no_term (others ts)) ∷ others (others ts))
    (sym same) in
    stepped_as e (ap a_kids c.in-If0.is)
    (c.in_ok-step_if-in-If0.ensures (program_in c.args.program.now) rest
    (subst (λ xs. Parting (top no_value (a_values xs)) rest w) (sym same) parting) c.requires.fit
    (keeps_as c.args.walk.now.vars.items c.args.turn.place c.args.walk.now.places.items rest e k))
