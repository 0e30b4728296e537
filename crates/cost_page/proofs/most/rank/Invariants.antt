use Rattle.cost_page.proofs.Walks.{RankBehind}
use Rattle.cost_page.proofs.most.rank.Given as goal

abbrev pub invariant-loop-i : goal.invariant-loop-i
invariant-loop-i l = RankBehind l.place l.top l.i
