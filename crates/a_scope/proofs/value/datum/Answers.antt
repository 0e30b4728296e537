use Rattle.std.proofs.Common.{◌∙◌, arith, ap, Some}
use Rattle.a_terms.specs.Tree as a
use Rattle.a_terms.specs.Typing.{data_fields}
use Rattle.a_terms.specs.NodeTrees.{a_consts}
use Rattle.a_scope.proofs.Scopes.{datum_in, datum_out}
use Rattle.a_scope.proofs.value.datum.Goals as goal

pub returns-in_ok-made : goal.returns-in_ok-made
returns-in_ok-made c =
    ap Some (c.in_ok-made.ensures ∙ ap (λ xs. a.ATuple (data_fields (a_consts xs))) c.deref.ensures.value)
    ∙ datum_in c.args.tuples.now c.args.n c.index-tuples-n.result c.if-n-tuples.true c.index-tuples-n.is

pub returns-else-n-tuples : goal.returns-else-n-tuples
returns-else-n-tuples c = datum_out c.args.tuples.now c.args.n (omega (arith, c.if-n-tuples.false))
