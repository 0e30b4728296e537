use Rattle.x_listing.proofs.Sayings.{first}
use Rattle.x_listing.proofs.runtime.put_growing.Goals as goal

pub returns : goal.returns
returns c = first _ _ _ _ _ c.in_ok-put.ensures c.in_ok-put-2.ensures
