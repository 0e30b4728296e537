use Rattle.std.specs.Iterator.Adapters.{zip_first, zip_second}
use Rattle.std.specs.Slice.Iter.{iter_rest}
use Rattle.t_types.proofs.FitPlaces.{AllFit}
use Rattle.t_types.proofs.Pairs.{Left}
use Rattle.t_types.proofs.fitting.fields_fit.Given as goal

abbrev pub invariant-loop-x : goal.invariant-loop-x
invariant-loop-x l = Left AllFit l.a l.b (iter_rest (zip_first l.x-iterator)) (iter_rest (zip_second l.x-iterator))
