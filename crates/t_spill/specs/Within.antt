-- No register of the end of a block is above k.
use Rattle.std.specs.Prelude.{ℕ}
use Rattle.t_terms.specs.Tree.{TEnd, Jmp, Halt}
use Rattle.t_spill_laws.specs.Bound.{InValue}

abbrev pub EndWithin : ℕ → TEnd → Type 0
EndWithin k (Jmp v) = InValue k v
EndWithin k Halt = Unit {0}
