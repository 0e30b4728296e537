use Rattle.t_known.proofs.marks.+with.Given as goal

abbrev pub decreases-with : goal.decreases-with
decreases-with l = l.number
