use Rattle.t_reader.proofs.Numbering.{LabelsLeft}
use Rattle.t_reader.proofs.labels.labels_from.Given as goal

abbrev pub invariant-loop-head : goal.invariant-loop-head
invariant-loop-head l = LabelsLeft l.text l.heads l.head-index l.blocks l.tuples l.targets
