use Rattle.std.proofs.Common.{◌∙◌, ◌∷◌, ap, sym, subst, [], arith, length}
use Rattle.std.proofs.lemmas.List.{length-append, take_all}
use Rattle.c_terms.specs.Read.{ctys}
use Rattle.c_terms.specs.Typing.{cargs_onto}
use Rattle.let_types.specs.Names.{Under}
use Rattle.let_types.proofs.OneMore.{under_push}
use Rattle.h_notation.proofs.ProgramTexts.{argument_push, arity_is, taken_length}
use Rattle.h_notation.proofs.program.arguments.Goals as goal

pub loop-t-preserved : goal.loop-t-preserved
loop-t-preserved c = record {
  made = λ shows.
      argument_push c.args.owes c.loop-t.names.items _ c.in_ok-name.name c.args.args.now c.loop-t.t-index
      c.t-item.result c.loop-t-test.true c.t-item.is c.in_ok-push.ensures.items (c.in_ok-name.ensures.shown shows)
      (c.loop-t.invariant.made shows);
  under = subst (Under c.args.owes) (sym c.in_ok-push.ensures.items)
      (under_push c.args.owes c.args.owes c.loop-t.names.items _ c.loop-t.invariant.under (omega arith)
      c.in_ok-name.ensures.under);
  long = omega (
    arith,
    c.loop-t.invariant.long,
    ap length c.in_ok-push.ensures.items,
    length-append c.loop-t.names.items (c.in_ok-name.name ∷ []),
    taken_length c.args.args.now c.loop-t.t-index c.t-item.result c.loop-t-test.true c.t-item.is,
  );
}

pub returns-clause-scope : goal.returns-clause-scope
returns-clause-scope c = λ shows. c.loop-t.invariant.made shows
    ∙ ap (λ xs. cargs_onto (ctys xs) []) (take_all c.loop-t.t-index c.args.args.now c.loop-t-test.false)

pub returns-clause-long : goal.returns-clause-long
returns-clause-long c = c.loop-t.invariant.long
    ∙ ap length (take_all c.loop-t.t-index c.args.args.now c.loop-t-test.false) ∙ arity_is c.args.args.now
