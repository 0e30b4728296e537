use Rattle.listing.proofs.Passing.{block_cut}
use Rattle.listing.proofs.program.block_to.Goals as goal

pub returns : goal.returns
returns c =
    block_cut c.args.block c.args.count c.args.place _ _ c.way_out.result c.truncate.ensures.items
    c.in_ok-push.ensures.items c.way_out.ensures
