use Rattle.std.proofs.Common.{◌∙◌}
use Rattle.talc_wanted.specs.Owing.{owing, from_top}
use Rattle.talc_wanted.specs.Wanted.{told, told_of}
use Rattle.talc_wanted.proofs.line.listing_of.Goals as goal

pub returns : goal.returns
returns g c =
    let st = from_top c.args.owed.now in
    let kinds = rw c.kinds.ensures at c.in_ok-put_kinds.ensures in
    kinds
    ∙ (c.in_ok-put_end.ensures (told (owing g.G.Language.owes) g.G.Language.tells st g.G.Language.tells.kinds)
    ∙ c.in_ok-line.ensures (told_of (owing g.G.Language.owes) g.G.Language.tells st))
