use Rattle.std.proofs.Common.{[], refl, arith}
use Rattle.t_intern.specs.Applied.{applied as applied_to}
use Rattle.t_intern.specs.Marks.{marked as with_marks}
use Rattle.t_intern.proofs.types.Types.salted.Goals as goal

pub invariant_of-result : goal.invariant_of-result
invariant_of-result c = rw (c.with_hasher.ensures.empty, c.new.ensures.items) (record {
  parts = tt;
  once = λ i j l m e. absurd (omega (arith, l));
  bounds = (refl, λ k l. absurd (omega (arith, l)));
  fitted = c.new-2.ensures [];
  shifted = c.new-3.ensures [];
  marked = c.new-4.ensures with_marks [];
  applied = c.new-5.ensures applied_to [];
})
