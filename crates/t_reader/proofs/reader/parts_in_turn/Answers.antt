use Rattle.t_reader.proofs.reader.parts_in_turn.Goals as goal

pub returns : goal.returns
returns c =
    c.in_ok-parts.ensures (rw c.deref-2.ensures.value (rw c.deref.ensures.value at c.in_ok-labels.ensures))
