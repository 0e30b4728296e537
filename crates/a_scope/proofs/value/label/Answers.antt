use Rattle.std.proofs.Common.{◌∙◌, arith, ap, Some}
use Rattle.a_terms.specs.Tree as a
use Rattle.a_terms.specs.Read.{atrees}
use Rattle.a_terms.specs.ReadLaws.{a_code}
use Rattle.a_scope.proofs.Scopes.{block_in, block_out}
use Rattle.a_scope.proofs.value.label.Goals as goal

pub returns-in_ok-args : goal.returns-in_ok-args
returns-in_ok-args c =
    let b = c.index-blocks-l.result in
    ap Some (a_code b.owes c.in_ok-args.args
    ∙ ap (a.ACode b.owes) (c.in_ok-args.ensures ∙ ap atrees c.deref.ensures.value))
    ∙ block_in c.args.blocks.now c.args.l b c.if-l-blocks.true c.index-blocks-l.is

pub returns-else-l-blocks : goal.returns-else-l-blocks
returns-else-l-blocks c = block_out c.args.blocks.now c.args.l (omega (arith, c.if-l-blocks.false))
