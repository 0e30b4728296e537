-- What the steps of a run weigh, and what a program does: an instruction as w says of its erasure, and a jump j.
use Rattle.std.specs.Prelude.{ℕ, zero, suc, ◌+◌, List, [], ◌∷◌}
use Rattle.t_terms.specs.Tree.{TProg}
use Rattle.t_rules.specs.Machine.{State, Place, After}
use Rattle.t_rules.specs.Erase.{EInstr, ESeq, EThen, EJmp, EHalt, erase, erase_blocks}
use Rattle.t_rules.specs.LawsErased.{seq_of}

module _ (w : EInstr → ℕ) (j : ℕ) where
  -- the next instruction, or the jump
  abbrev pub next_weight : ESeq → ℕ
  next_weight (EThen i rest) = w i
  next_weight (EJmp b) = j
  next_weight EHalt = 0

  -- each instruction of a sequence once, and its jump
  abbrev pub seq_weight : ESeq → ℕ
  seq_weight (EThen i rest) = w i + seq_weight rest
  seq_weight (EJmp b) = j
  seq_weight EHalt = 0

  abbrev pub blocks_weight : List ESeq → ℕ
  blocks_weight [] = 0
  blocks_weight (c ∷ cs) = seq_weight c + blocks_weight cs

  abbrev pub program_weight : TProg → ℕ
  program_weight P = blocks_weight (erase_blocks P)

  -- the steps of a run in all
  abbrev pub run_weight : (P : TProg) (m : ℕ) (s : State) (p : Place) → After P m s p → ℕ
  run_weight P zero s p run = 0
  run_weight P (suc m) s p run = run_weight P m run.0 run.1 run.3 + next_weight (seq_of (erase run.0))
