-- Code generation keeps the meaning, both ways, and enters no block too often.
use Rattle.std.specs.Prelude.{◌≡◌, ℕ, ℤ, ◌≤◌, ◌<◌, ◌⊎◌, List, length}
use Rattle.a_terms.specs.Tree.{ATm, ABlk, AProg}
use Rattle.a_terms.specs.Meaning.{Halted, meaning}
use Rattle.t_terms.specs.Tree.{TProg}
use Rattle.t_rules.specs.Machine.{State, Place, After, HaltsWithin, Halts}
use Rattle.t_rules.specs.Times.{Times, Entries}
use Rattle.t_gen_laws.specs.Counting.{count, log_of, MadeOf, first_third}

-- block k is made of the main term: its own, or that of one of its third parts
abbrev pub FromMain : AProg → ATm → ℕ → Type 0
FromMain p main k = (k < first_third p main) × ((k ≡ 0) ⊎ (length p.blocks < k))

-- the program P means what the allocated program means, and enters its blocks no more often
pub record Keeps (p : AProg) (main : ATm) (P : TProg) : Type 0 where
  -- where the meaning is an integer the program halts with it
  pub forth : (c : ℕ) (i : ℤ) (log : List ℕ) → meaning p main c ≡ Halted i log → Halts P i
  -- a program that halts within m steps means this integer, within m calls
  pub back : (m : ℕ) (i : ℤ) → HaltsWithin P m i → (log : List ℕ) × (meaning p main m ≡ Halted i log)
  -- in m steps a block made of block l is entered as often at most as l is within m calls; one made of the main term
  -- once
  pub entries : (m : ℕ) (s : State) (q : Place) (run : After P m s q) (k l : ℕ) (b : ABlk) →
      MadeOf p.blocks (first_third p main) k l b → Entries P m s q run k ≤ count l (log_of (meaning p main m))
  pub main_entries : (m : ℕ) (s : State) (q : Place) (run : After P m s q) (k : ℕ) → FromMain p main k →
      Entries P m s q run k ≤ 1
  -- so it is for each place of these blocks
  pub places : (m : ℕ) (s : State) (q : Place) (run : After P m s q) (k l i : ℕ) (b : ABlk) →
      MadeOf p.blocks (first_third p main) k l b → Times P m s q run k i ≤ count l (log_of (meaning p main m))
  pub main_places : (m : ℕ) (s : State) (q : Place) (run : After P m s q) (k i : ℕ) → FromMain p main k →
      Times P m s q run k i ≤ 1
