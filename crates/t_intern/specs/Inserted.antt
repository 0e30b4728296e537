-- A shape put last in a list, where none with its node is there; or it is handed back.
use Rattle.std.specs.Prelude.{◌≡◌, ◌≢◌, ℕ, ◌<◌, Bool, true, false, List}
use Rattle.std.specs.Prelude.{[], ◌∷◌, ◌++◌, length, slice_index_or, Result, Ok, Err}
use Rattle.idx_core.specs.declared.memory.OutOfMemory.{OutOfMemory}
use Rattle.t_intern.specs.declared.shape.Shape.{Shape}
use Rattle.t_intern.specs.Read.{node}

abbrev pub IsInserted : List Shape → List Shape → Shape → Result (ℕ × Bool) (Shape × OutOfMemory) → Type 0
IsInserted old new s (Ok (n, true)) =
    (new ≡ old ++ s ∷ []) × (n ≡ length old) ×
    ((k : ℕ) → k < length old → node (slice_index_or old k s) ≢ node s)
IsInserted old new s (Ok (n, false)) = (new ≡ old) × (n < length old) × (node (slice_index_or old n s) ≡ node s)
IsInserted old new s (Err e) = (new ≡ old) × (e.0 ≡ s)
