use Rattle.std.proofs.Common.{sym, ◌∙◌}
use Rattle.listing.proofs.Counting.{clear_next, clear_found, clear_end}
use Rattle.listing.proofs.cut_place.first_at.Goals as goal

pub returns-then-is_at : goal.returns-then-is_at
returns-then-is_at c =
    clear_found c.args.place c.loop-i.i c.args.steps.now c.index-steps-i.result c.index-steps-i.is c.loop-i-test.true
    c.loop-i.invariant (sym c.if-is_at.ensures)

pub loop-i-preserved : goal.loop-i-preserved
loop-i-preserved c =
    clear_next c.args.place c.loop-i.i c.args.steps.now c.index-steps-i.result c.index-steps-i.is c.loop-i-test.true
    c.loop-i.invariant (sym c.is_at.ensures ∙ c.if-is_at.false)

pub returns : goal.returns
returns c = clear_end c.args.place c.loop-i.i c.args.steps.now c.loop-i-test.false c.loop-i.invariant
