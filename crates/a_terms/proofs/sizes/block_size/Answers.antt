use Rattle.a_terms.proofs.Weighed.{block_total}
use Rattle.a_terms.proofs.sizes.block_size.Goals as goal

pub returns : goal.returns
returns c = block_total c.args.block.now _ _ _ _ _ _ _ _ _ c.as_slice-args.ensures.value c.deref.ensures.value
    c.in_ok-most.ensures c.in_ok-types.ensures c.in_ok-label.ensures c.in_ok-nodes.ensures c.in_ok-term.ensures
    c.in_ok-body.ensures c.in_ok-all.ensures
