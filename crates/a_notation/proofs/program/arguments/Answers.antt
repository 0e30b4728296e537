use Rattle.std.proofs.Common.{◌∙◌, ◌∷◌, take, ap, sym, subst, [], arith, length}
use Rattle.std.proofs.lemmas.List.{length-append, take_all}
use Rattle.a_scope.specs.Scope.{Under}
use Rattle.a_terms.specs.Read.{atrees}
use Rattle.a_terms.specs.ReadLaws.{took}
use Rattle.a_terms.specs.Typing.{types_of}
use Rattle.a_notation.proofs.ProgramTexts.{argument_push, arity_is}
use Rattle.a_notation.proofs.ScopeTexts.{under_push}
use Rattle.a_notation.proofs.program.arguments.Goals as goal

pub loop-t-preserved : goal.loop-t-preserved
loop-t-preserved c = record {
  made = argument_push c.args.owes c.loop-t.vars.items _ c.noted_lent.result c.args.args.now c.loop-t.t-index
      c.t-item.result c.loop-t-test.true c.t-item.is c.in_ok-push.ensures.items c.noted_lent.ensures.names
      c.noted_lent.ensures.ty c.loop-t.invariant.made;
  under = subst (Under c.args.owes) (sym c.in_ok-push.ensures.items)
      (under_push c.args.owes c.args.owes c.loop-t.vars.items _ c.loop-t.invariant.under (omega arith)
      (omega (arith, c.noted_lent.ensures.names)));
  long = omega (
    arith,
    c.loop-t.invariant.long,
    ap length c.in_ok-push.ensures.items,
    length-append c.loop-t.vars.items (c.noted_lent.result ∷ []),
    ap length (took c.args.args.now c.loop-t.t-index c.t-item.result c.loop-t-test.true c.t-item.is),
    length-append (take c.loop-t.t-index c.args.args.now) (c.t-item.result ∷ []),
  );
}

pub returns-clause-scope : goal.returns-clause-scope
returns-clause-scope c = c.loop-t.invariant.made
    ∙ ap (λ xs. types_of (atrees xs) []) (take_all c.loop-t.t-index c.args.args.now c.loop-t-test.false)

pub returns-clause-long : goal.returns-clause-long
returns-clause-long c = c.loop-t.invariant.long
    ∙ ap length (take_all c.loop-t.t-index c.args.args.now c.loop-t-test.false) ∙ arity_is c.args.args.now
