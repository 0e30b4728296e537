use Rattle.talc_wanted.proofs.Taking.{Down}
use Rattle.talc_wanted.proofs.machine.find_next.Given as goal

abbrev pub invariant-loop-at : goal.invariant-loop-at
invariant-loop-at g l = Down g.G.Language.owes l.owed l.token l.at

abbrev pub decreases-loop-at : goal.decreases-loop-at
decreases-loop-at g l = l.at
