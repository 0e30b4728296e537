use Rattle.std.proofs.Common.{◌≡◌, ◌++◌, drop}
use Rattle.t_terms.specs.Read.{data_of}
use Rattle.w_gen.specs.Data.{addresses_of}
use Rattle.w_gen.proofs.data.addresses.Given as goal

abbrev pub invariant-loop-tuple : goal.invariant-loop-tuple
invariant-loop-tuple l = l.places.items ++ addresses_of l.next (data_of (drop l.tuple-index l.heap))
    ≡ addresses_of l.start (data_of l.heap)
