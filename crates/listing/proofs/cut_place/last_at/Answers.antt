use Rattle.std.proofs.Common.{sym, ◌∙◌}
use Rattle.listing.proofs.Counting.{count_is}
use Rattle.listing.proofs.cut_place.last_at.Goals as goal

pub returns-then-is_at : goal.returns-then-is_at
returns-then-is_at c = (sym c.if-is_at.ensures, sym (count_is c.args.steps.now))

pub returns : goal.returns
returns c = sym c.is_at.ensures ∙ c.if-is_at.false
