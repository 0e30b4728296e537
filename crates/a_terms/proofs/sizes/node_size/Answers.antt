use Rattle.a_terms.proofs.Weighed.{node_total}
use Rattle.a_terms.proofs.sizes.node_size.Goals as goal

pub returns : goal.returns
returns c = node_total c.args.node.now _ _ _ _ _ _ c.as_slice-values.ensures.value c.in_ok-form.ensures
    c.in_ok-types.ensures c.in_ok-twice.ensures c.in_ok-more.ensures c.in_ok-all.ensures
