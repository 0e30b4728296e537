use Rattle.t_reader.proofs.Valuing.{BodyLeft}
use Rattle.t_reader.proofs.resolve.body_in.Given as goal

abbrev pub invariant-loop-step : goal.invariant-loop-step
invariant-loop-step l = BodyLeft l.text l.labels l.initial.scope l.body l.step-index l.scope l.made.items
