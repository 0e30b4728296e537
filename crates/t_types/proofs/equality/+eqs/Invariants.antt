use Rattle.std.specs.Iterator.Adapters.{zip_first, zip_second}
use Rattle.std.specs.Slice.Iter.{iter_rest}
use Rattle.t_types.proofs.Equal.{SameFields, SameRegs}
use Rattle.t_types.proofs.Pairs.{Left}
use Rattle.t_types.proofs.equality.+eqs.Given as goal

abbrev pub invariant-eq_fields-loop-x : goal.invariant-eq_fields-loop-x
invariant-eq_fields-loop-x l =
    Left SameFields l.a l.b (iter_rest (zip_first l.x-iterator)) (iter_rest (zip_second l.x-iterator))

abbrev pub invariant-eq_regs-loop-x : goal.invariant-eq_regs-loop-x
invariant-eq_regs-loop-x l =
    Left SameRegs l.a l.b (iter_rest (zip_first l.x-iterator)) (iter_rest (zip_second l.x-iterator))
