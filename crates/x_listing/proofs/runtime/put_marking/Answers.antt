use Rattle.x_listing.proofs.Sayings.{first}
use Rattle.x_listing.proofs.runtime.put_marking.Goals as goal

pub returns : goal.returns
returns c =
    first _ _ _ _ _ c.in_ok-put.ensures
    (first _ _ _ _ _ c.in_ok-put-2.ensures
    (first _ _ _ _ _ c.in_ok-put-3.ensures (first _ _ _ _ _ c.in_ok-put-4.ensures c.in_ok-put-5.ensures)))
