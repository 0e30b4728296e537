use Rattle.std.proofs.Common.{◌≡◌, take, map}
use Rattle.t_types.specs.Read.{flag}
use Rattle.t_spill.proofs.Data.{filled_flag}
use Rattle.t_spill.proofs.typing.fields_of.Given as goal

abbrev pub invariant-loop-item : goal.invariant-loop-item
invariant-loop-item l = map flag l.made.items ≡ map filled_flag (take l.item-index l.items)
