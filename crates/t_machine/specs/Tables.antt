-- How often each place of a program is executed, as a table of its places.
use Rattle.std.specs.Prelude.{◌≡◌, ℕ, zero, suc, ◌+◌, ◌<◌, List, [], ◌∷◌, ◌++◌, length, count_by}
use Rattle.std.specs.Prelude.{slice_set, slice_index}
use Rattle.std.specs.List.{sum}
use Rattle.t_terms.specs.Tree.{TProg}
use Rattle.t_terms.specs.Whole.{WellFormedProgram}
use Rattle.t_rules.specs.Rules.{Accepted}
use Rattle.t_rules.specs.Machine.{State, Place, After}
use Rattle.t_rules.specs.Times.{is_spot, Times}
use Rattle.t_rules.specs.Erase.{ESeq, EThen, EJmp, EHalt, erase_blocks}
use Rattle.t_collect.specs.declared.word.Word.{Word}
use Rattle.t_machine.specs.State.{Represents}
use Rattle.t_machine.specs.declared.code.Code.{Code}
use Rattle.t_machine.specs.declared.heap.Heap.{Heap}

-- the places at which the last n of the m steps of a run start, the last one first
abbrev pub last_places : (P : TProg) (n m : ℕ) (s : State) (p : Place) → After P m s p → List Place
last_places P zero m s p run = []
last_places P (suc n) zero s p run = []
last_places P (suc n) (suc m) s p run = run.1 ∷ last_places P n m run.0 run.1 run.3

-- how many of these steps start at the place of this index in this block
abbrev pub times_in : (P : TProg) (n m : ℕ) (s : State) (p : Place) → After P m s p → ℕ → ℕ → ℕ
times_in P n m s p run block index = count_by (is_spot block index) (last_places P n m s p run)

-- The table of a function of places: what it is at each place of the blocks, the one after the other. A block has a
-- place for each instruction, and one for its end. The first one has the number b, or its first place the index i.
abbrev pub seq_table : (ℕ → ℕ → ℕ) → ℕ → ℕ → ESeq → List ℕ
seq_table f b i (EThen x c) = f b i ∷ seq_table f b (i + 1) c
seq_table f b i (EJmp v) = f b i ∷ []
seq_table f b i EHalt = f b i ∷ []

abbrev pub blocks_table : (ℕ → ℕ → ℕ) → ℕ → List ESeq → List ℕ
blocks_table f b [] = []
blocks_table f b (c ∷ cs) = seq_table f b 0 c ++ blocks_table f (b + 1) cs

abbrev pub table : (ℕ → ℕ → ℕ) → TProg → List ℕ
table f P = blocks_table f 0 (erase_blocks P)

-- the table tells how often each place is executed in the last n of the first m steps of P
abbrev pub AreCounts : TProg → (n m : ℕ) → List ℕ → Type 0
AreCounts P n m xs = (s : State) (p : Place) (run : After P m s p) → xs ≡ table (times_in P n m s p run) P

-- in all steps: the same as `Times` of the rules
abbrev pub FirstCounts : Type 0
FirstCounts =
    (P : TProg) (m : ℕ) (xs : List ℕ) → AreCounts P m (0 + m) xs →
    (s : State) (p : Place) (run : After P m s p) → xs ≡ table (Times P m s p run) P

-- A machine with this heap, these words and at this place makes k steps, and a table that told of the last n steps
-- before them tells of these too afterwards: from xs to ys, in which there are k more in all.
pub record CountsOn (x : Heap) (ws : List Word) (code : Code) (at k : ℕ) (xs ys : List ℕ) : Type 0 where
  pub counts : (P : TProg) → WellFormedProgram P → Accepted P → (n m : ℕ) → Represents P m x ws code at →
      AreCounts P n m xs →
      AreCounts P (n + k) (m + k) ys
  pub sum : sum ys ≡ sum xs + k

-- a table with one more at a place
abbrev pub raised : List ℕ → ℕ → List ℕ
raised xs k = slice_set xs k (slice_index xs k + 1)

-- the table has a place for each of the code, and there is room for that many more in each
pub record HasTable (code : Code) (more : ℕ) (xs : List ℕ) : Type 0 where
  pub sized : length xs ≡ length code.instructions.items
  pub room : sum xs + more < 18446744073709551616
