use Rattle.listing.proofs.Finding.{first_some, first_none}
use Rattle.listing.proofs.cut_place.in_first.Goals as goal

pub returns-in-Some : goal.returns-in-Some
returns-in-Some c =
    first_some c.args.place c.args.blocks.now _ c.is_at.result c.in-Some.ensures.lookup.3.0 c.in-Some.ensures.lookup.1
    c.is_at.ensures

pub returns-in-None : goal.returns-in-None
returns-in-None c = first_none c.args.place c.args.blocks.now c.in-None.ensures.lookup.3
