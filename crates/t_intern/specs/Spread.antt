-- Several types put in one walk.
use Rattle.std.specs.Prelude.{ℕ, ◌+◌, ◌-◌, ◌<◌, ◌≤◌, List}
use Rattle.std.specs.Prelude.{length, map, nat_lt, if◌then◌else◌, slice_index_or}
use Rattle.idx_core.specs.Over.{At}
use Rattle.t_types.specs.Tree.{Ty, IntTy, VarTy, shift, ShiftFits}
use Rattle.t_intern.specs.Nodes.{at}
use Rattle.t_intern.specs.declared.putting.Args.{Args}

abbrev pub types_at : List Ty → List ℕ → List Ty
types_at ts ns = map (at ts) ns

-- variable i at depth d, where the types ts are put for the variables that were free from the depth `base` on: the
-- last type for the first of them
abbrev pub spread : ℕ → List Ty → At Ty
spread base ts d i =
    if nat_lt i d then VarTy i else
    (if nat_lt i (d + length ts)
    then shift (d - base) 0 (slice_index_or ts (length ts - 1 - (i - d)) IntTy)
    else VarTy (i - length ts))

-- the sums that it forms at a variable
abbrev pub SpreadFitsAt : ℕ → List Ty → ℕ → ℕ → Type 0
SpreadFitsAt base ts d i =
    d ≤ i → i < d + length ts → ShiftFits (d - base) 0 (slice_index_or ts (length ts - 1 - (i - d)) IntTy)

-- the same for a walk, by the numbers of the types that it puts
abbrev pub put_for : List Ty → Args → At Ty
put_for ts x = spread x.base (types_at ts x.types.now)

abbrev pub MayPut : List Ty → Args → ℕ → ℕ → Type 0
MayPut ts x = SpreadFitsAt x.base (types_at ts x.types.now)
