use Rattle.std.proofs.Common.{◌∙◌, ◌∷◌, ap, sym, subst, [], arith, length, length-append}
use Rattle.std.proofs.lemmas.List.{take_all}
use Rattle.a_terms.specs.Typing.{types_of}
use Rattle.a_terms.specs.Read.{atrees}
use Rattle.a_terms.specs.Tree.{arity}
use Rattle.t_gen_rules.specs.Gen.{rows}
use Rattle.a_scope.specs.Scope.{Under}
use Rattle.t_gen.proofs.Keeping.{under_push}
use Rattle.a_scope.proofs.Scopes.{shown_own}
use Rattle.t_gen.proofs.Bodies.{argument_push, home_push}
use Rattle.t_gen.proofs.body.arguments.Goals as goal

pub loop-t-preserved : goal.loop-t-preserved
loop-t-preserved c = record {
  made =
      argument_push c.args.owes _ _ c.placed.result c.args.args.now c.loop-t.t-index c.t-item.result c.loop-t-test.true
      c.t-item.is c.in_ok-push.ensures.items (c.placed.ensures.names ∙ c.noted_lent-noted.ensures.names)
      (c.placed.ensures.shown c.args.owes
      ∙ shown_own c.args.owes c.noted_lent-noted.result c.noted_lent-noted.ensures.names
      ∙ c.noted_lent-noted.ensures.ty) c.loop-t.invariant.made;
  homes = home_push _ _ c.placed.result c.args.args.now c.loop-t.t-index c.t-item.result c.loop-t-test.true c.t-item.is
      c.in_ok-push.ensures.items (omega (arith, c.placed.ensures.register, c.loop-t.invariant.long))
      c.loop-t.invariant.homes;
  long = omega (
    arith,
    c.loop-t.invariant.long,
    ap length c.in_ok-push.ensures.items,
    length-append c.loop-t.vars.items (c.placed.result ∷ []),
  );
  under = subst (Under c.args.owes) (sym c.in_ok-push.ensures.items)
      (under_push c.args.owes c.args.owes c.loop-t.vars.items _ c.loop-t.invariant.under (omega arith)
      (omega (arith, c.placed.ensures.names, c.noted_lent-noted.ensures.names)));
}

pub returns-clause-scope : goal.returns-clause-scope
returns-clause-scope c = c.loop-t.invariant.made
    ∙ ap (λ xs. types_of (atrees xs) []) (take_all c.loop-t.t-index c.args.args.now c.loop-t-test.false)

pub returns-clause-homes : goal.returns-clause-homes
returns-clause-homes c = c.loop-t.invariant.homes
    ∙ ap (λ xs. rows (arity (atrees xs))) (take_all c.loop-t.t-index c.args.args.now c.loop-t-test.false)
