use Rattle.std.proofs.Common.{sym, ap, ◌∙◌, arith, Some}
use Rattle.h_terms.specs.Nodes.{h_block}
use Rattle.a_laws.specs.Allocate.{h_code}
use Rattle.a_pass.proofs.Places.{block_in, block_out}
use Rattle.a_pass.proofs.scope.type_at.Goals as goal

pub returns-then-l-blocks : goal.returns-then-l-blocks
returns-then-l-blocks c = λ g.
    let b = c.index-blocks-l.result in
    sym (ap h_code (block_in c.args.blocks.now c.args.l b c.if-l-blocks.true ∙ ap (λ k. Some (h_block k)) (sym
    c.index-blocks-l.is)))

pub returns-else-l-blocks : goal.returns-else-l-blocks
returns-else-l-blocks c = λ g. sym (ap h_code (block_out c.args.blocks.now c.args.l (omega (
  arith,
  c.if-l-blocks.false,
))))
