use Rattle.t_known.proofs.marks.+contains.Given as goal

abbrev pub decreases-contains : goal.decreases-contains
decreases-contains l = l.number
