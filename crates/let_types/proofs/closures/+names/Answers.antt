use Rattle.std.proofs.Common.{◌+◌, sym, ap, ◌∙◌}
use Rattle.calc_core.proofs.Trees.{tree_is_tuple, tree_is_code}
use Rattle.let_types.specs.TypeTexts.{names_variable}
use Rattle.let_types.proofs.TypesListed.{named, passed, none_left}
use Rattle.let_types.proofs.closures.+names.Goals as goal

pub names_variable-returns-in-Tuple : goal.names_variable-returns-in-Tuple
names_variable-returns-in-Tuple t c = λ v h.
    c.one_names_variable.ensures v h ∙ ap (names_variable v) (sym (tree_is_tuple _ _ _ c.in-Tuple.is
    c.deref.ensures.value))

pub names_variable-returns-in-Code : goal.names_variable-returns-in-Code
names_variable-returns-in-Code t c = λ v h.
    c.one_names_variable-in-Code.ensures (v + c.in-Code.owes) (c.deeper.ensures v h)
    ∙ ap (names_variable v) (sym (tree_is_code _ _ _ _ c.in-Code.is c.deref-in-Code.ensures.value))

pub one_names_variable-returns-then-names_variable : goal.one_names_variable-returns-then-names_variable
one_names_variable-returns-then-names_variable t c = λ v h.
    sym (named v c.args.ts.now c.loop-i.i _ c.index-ts-i.is c.loop-i-test.true (sym (c.if-names_variable.ensures v h)))
    ∙ c.loop-i.invariant v h

pub one_names_variable-loop-i-preserved : goal.one_names_variable-loop-i-preserved
one_names_variable-loop-i-preserved t c = λ v h.
    passed v c.args.ts.now c.loop-i.i _ c.index-ts-i.is c.loop-i-test.true (sym (c.if-names_variable.ensures v h))
    ∙ c.loop-i.invariant v h

pub one_names_variable-returns : goal.one_names_variable-returns
one_names_variable-returns t c = λ v h. sym (none_left v c.args.ts.now c.loop-i.i c.loop-i-test.false)
    ∙ c.loop-i.invariant v h
