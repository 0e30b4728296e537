use Rattle.x_listing.proofs.Sayings.{first, behind, from_none}
use Rattle.x_listing.proofs.runtime.runtime_notes.Goals as goal

pub returns : goal.returns
returns c =
    from_none _ _ _ c.new-notes.ensures.items
    (first _ _ _ _ _ c.in_ok-put.ensures
    (first _ _ _ _ _ c.in_ok-put-2.ensures
    (first _ _ _ _ _ c.in_ok-put-3.ensures
    (behind _ _ _ _ _ c.in_ok-put_printing.ensures c.in_ok-put_collecting.ensures))))
