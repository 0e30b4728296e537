-- Pairs: each is a `malloc` of two fields, and stands before the two instructions that fill these.
use Rattle.std.specs.Prelude.{◌≡◌, ℕ, ◌+◌, List, Some, slice_get}
use Rattle.t_machine.specs.declared.code.Instruction.{Instruction}
use Rattle.t_machine.specs.declared.code.Instruction.TheVariants as code

-- the instructions from the place k on write the words of the registers a and b into the two fields of the tuple in d
abbrev pub Fill : List Instruction → (k d a b : ℕ) → Type 0
Fill os k d a b = (slice_get os k ≡ Some (code.St d a 0)) × (slice_get os (k + 1) ≡ Some (code.St d b 1))

-- so it is behind a pair at the place k
abbrev pub IsPaired : List Instruction → ℕ → Type 0
IsPaired os k = (d a b : ℕ) → slice_get os k ≡ Some (code.Pair d a b) → Fill os (k + 1) d a b

abbrev pub ArePairs : List Instruction → Type 0
ArePairs os = (k : ℕ) → IsPaired os k
