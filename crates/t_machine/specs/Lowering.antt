-- What it means that some of the blocks, or a part of one, have been loaded.
use Rattle.std.specs.Prelude.{◌≡◌, ℕ, ◌+◌, List, ◌++◌, length}
use Rattle.t_rules.specs.Erase.{ESeq}
use Rattle.t_machine.specs.Places.{PlaceList, Extends}
use Rattle.t_machine.specs.Code.{Holds, HoldsBlocks}
use Rattle.t_machine.specs.Laid.{size, sizes, begins, InBlock, Adds}
use Rattle.t_machine.specs.declared.code.Code.{Code}
use Rattle.t_machine.specs.declared.code.Instruction.{Instruction}

-- the instructions are these blocks, one after the other; the entries may be those of more
abbrev pub IsFilled : Code → List ESeq → Type 0
IsFilled x cs =
    HoldsBlocks x.places x.entries.items x.instructions.items (begins 0 cs) cs
    × (length x.instructions.items ≡ sizes cs)

-- Where code that holds `left` is put after `done`, all of it holds `all`, also where more registers have a place.
abbrev pub IsLoaded : PlaceList → List ℕ → List Instruction → ESeq → ESeq → Type 0
IsLoaded m es done left all =
    (n : PlaceList) → Extends m n → (more : List Instruction) → Holds n es more left → Holds n es (done ++ more) all

-- The code `now` is the code `before` and what has been loaded of a block, of which `left` is still to be loaded and
-- `all` is the whole.
pub record IsBegun (before now : Code) (left all : ESeq) : Type 0 where
  pub kept : Extends before.places now.places
  pub entries : now.entries.items ≡ before.entries.items
  pub done : List Instruction
  pub instructions : now.instructions.items ≡ before.instructions.items ++ done
  pub loaded : IsLoaded now.places before.entries.items done left all
  pub counted : size all ≡ length done + size left
  pub part : (r : ℕ) → InBlock left r → InBlock all r
  pub named : Adds before.places now.places (InBlock all)
