use Rattle.std.proofs.Common.{◌∙◌, ap, ◌∷◌, if◌then◌else◌}
use Rattle.talc_wanted.specs.Wanted.{the_end}
use Rattle.talc_wanted.specs.Listing.{shown}
use Rattle.talc_wanted.proofs.line.put_end.Goals as goal

pub returns-then-ends : goal.returns-then-ends
returns-then-ends g c = λ ws.
    c.in_ok-put.ensures ws ∙ ap (λ b. shown c.args.line.now (if b then the_end ∷ ws else ws)) c.if-ends.ensures

pub returns : goal.returns
returns g c = λ ws. ap (λ b. shown c.args.line.now (if b then the_end ∷ ws else ws)) c.if-ends.ensures
