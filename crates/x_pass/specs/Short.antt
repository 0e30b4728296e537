-- Numbers of word code that stand in an instruction.
use Rattle.std.specs.Prelude.{ℕ, Bool, true, false, ◌<◌, ◌^◌, List, [], ◌∷◌}
use Rattle.w_terms.specs.Tree.{WInstr, WLoad, WStore, WWrite, WSeq, WThen, WExit}
use Rattle.w_terms.specs.Read as read
use Rattle.w_terms.specs.declared.program.WBlock.{WBlock}
use Rattle.x_laws.specs.Going.{IsSeq}
use Rattle.w_terms.specs.declared.instr.WInstr.{WInstr as Instr}

abbrev pub HasShortOffset : WInstr → Type 0
HasShortOffset (WLoad rd ra off) = off < 2 ^ 31
HasShortOffset (WStore ra off rs) = off < 2 ^ 31
HasShortOffset _ = Unit {0}

-- those of all instructions of a block
abbrev pub AreShort : List Instr → Type 0
AreShort [] = Unit {0}
AreShort (i ∷ is) = HasShortOffset (read.instr i) × AreShort is

-- the status of an exit is a word
abbrev pub HasStatus : WSeq → Type 0
HasStatus (WThen i c) = HasStatus c
HasStatus (WExit status) = status < 2 ^ 64
HasStatus _ = Unit {0}

-- an instruction that writes
abbrev pub is_write : WInstr → Bool
is_write (WWrite to ra rn) = true
is_write _ = false

-- all blocks have code, where so many registers have homes
abbrev pub AreFine : ℕ → List WBlock → Type 0
AreFine n [] = Unit {0}
AreFine n (b ∷ bs) = IsSeq n (read.block b) × HasStatus (read.end_of b.end) × AreFine n bs

-- and so have these, as far as their instructions go
abbrev pub AreSeqs : ℕ → List WSeq → Type 0
AreSeqs n [] = Unit {0}
AreSeqs n (c ∷ cs) = IsSeq n c × AreSeqs n cs
