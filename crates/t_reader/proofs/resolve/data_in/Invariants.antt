use Rattle.t_reader.proofs.Dating.{DataLeft}
use Rattle.t_reader.proofs.resolve.data_in.Given as goal

abbrev pub invariant-loop-datum : goal.invariant-loop-datum
invariant-loop-datum l = DataLeft l.text l.labels l.datum-items l.datum-index l.fields.items
