use Rattle.std.proofs.Common.{arith}
use Rattle.types_page.proofs.Marks.{counted_more}
use Rattle.types_page.proofs.place.line_from.Goals as goal

pub loop-i-preserved : goal.loop-i-preserved
loop-i-preserved c =
    let l = c.loop-i in
    counted_more c.args.text.now l.i l.number l.begin _ _ (omega arith) l.invariant c.behind-next.ensures.number
    c.behind-next.ensures.begin
