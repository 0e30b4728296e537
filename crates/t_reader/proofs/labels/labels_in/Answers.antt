use Rattle.t_reader.proofs.Numbering.{same_labels}
use Rattle.t_reader.proofs.labels.labels_in.Goals as goal

pub returns : goal.returns
returns c =
    same_labels c.args.text.now c.in_ok-labels.labels _ _ c.in_ok-heads.ensures
    (rw c.deref.ensures.value at c.in_ok-labels.ensures)
