-- What `trace` shows of an assembly program: the lines of its states, from one number of steps to another.
use Rattle.std.specs.Prelude.{◌≡◌, ◌⊎◌, ◌<◌, ◌≤◌, ◌++◌, ℕ, zero, suc, ℤ, List, [], ◌∷◌, Some, length}
use Rattle.t_types.specs.Tree.{TFile, NoRegs, MoreRegs}
use Rattle.t_terms.specs.Tree.{TProg}
use Rattle.t_terms.specs.Whole.{WellFormedProgram}
use Rattle.t_terms.specs.declared.shown.Shown.{Shown}
use Rattle.t_rules.specs.Rules.{Accepted}
use Rattle.t_rules.specs.Machine.{State, Spot, After, HaltedAfter, GoesOnAfter}
use Rattle.t_rules.specs.LawsSound.{heap_of, regs_of}
use Rattle.t_rules.specs.Erase.{ERegs, erase_regs}
use Rattle.t_rules.specs.Kinds.{HasKind}
use Rattle.t_check.specs.Walks.{IsKnownFile}
use Rattle.t_machine.specs.Words.{shown_word}
use Rattle.t_trace.specs.Line.{line_text}
use Rattle.talc_core.specs.Lines.{integer_line, more_instructions_line}

-- each register of the file is there, with the word that is shown of it, in the file's order
abbrev pub HaveWords : ERegs → List (ℕ × Shown) → TFile → Type 0
HaveWords r [] NoRegs = Unit {0}
HaveWords r (x ∷ xs) (MoreRegs q t file) = (x.0 ≡ q) × (r q ≡ Some (shown_word x.1)) × HaveWords r xs file
HaveWords r [] (MoreRegs q t file) = ⊥
HaveWords r (x ∷ xs) NoRegs = ⊥

-- The line is that of P's state after m steps: it names the state's place, and shows the registers that are known
-- there, in ascending order, each with its word, without types, and with the type that is known of it.
pub record IsLine (P : TProg) (m : ℕ) (line : List ℕ) : Type 0 where
  pub state : State
  pub block : ℕ
  pub index : ℕ
  pub names : ℕ
  pub file : TFile
  pub words : List (ℕ × Shown)
  pub run : After P m state (Spot block index)
  pub known : IsKnownFile P block index names file
  pub have : HaveWords (erase_regs (regs_of state)) words file
  pub is : line ≡ line_text m block index names words file

-- the lines, in turn, of the states after at least `from` and less than `end` steps
abbrev pub AreLines : TProg → (from end : ℕ) → List ℕ → Type 0
AreLines P from zero lines = lines ≡ []
AreLines P from (suc m) lines =
    ((m < from) × (lines ≡ []))
    ⊎ ((from ≤ m) × (before line : List ℕ) × AreLines P from m before × IsLine P m line × (lines ≡ before ++ line))

-- P halts after at most `to` steps; the lines of its states from `from` steps on, and the line of its integer
pub record HaltedStates (P : TProg) (from to : ℕ) (lines : List ℕ) : Type 0 where
  pub steps : ℕ
  pub value : ℤ
  pub shown : List ℕ
  pub within : steps ≤ to
  pub halted : HaltedAfter P steps value
  pub states : AreLines P from (suc steps) shown
  pub is : lines ≡ shown ++ integer_line value

-- P goes on after `to` steps; the lines of its states from `from` steps to `to`, and the line that it goes on
pub record RunningStates (P : TProg) (from to : ℕ) (lines : List ℕ) : Type 0 where
  pub shown : List ℕ
  pub goes_on : GoesOnAfter P to
  pub states : AreLines P from (suc to) shown
  pub is : lines ≡ shown ++ more_instructions_line to

-- in a program of so many blocks, where the heap has so many tuples, each word is of the kind of the type beside it
abbrev pub AreOfKinds : (blocks tuples : ℕ) → List (ℕ × Shown) → TFile → Type 0
AreOfKinds blocks tuples [] NoRegs = Unit {0}
AreOfKinds blocks tuples (x ∷ xs) (MoreRegs q t file) =
    HasKind blocks tuples t (shown_word x.1) × AreOfKinds blocks tuples xs file
AreOfKinds blocks tuples [] (MoreRegs q t file) = ⊥
AreOfKinds blocks tuples (x ∷ xs) NoRegs = ⊥

-- The laws.

-- a program has one line at most after so many steps
abbrev pub OneLine : Type 0
OneLine = (P : TProg) (m : ℕ) (a b : List ℕ) → IsLine P m a → IsLine P m b → a ≡ b

-- in a line of an accepted program a word of type int is an integer, one of a tuple type the address of a tuple of the
-- state's heap, one of a code type the label of a block
abbrev pub LinesShowKinds : Type 0
LinesShowKinds =
    (P : TProg) → WellFormedProgram P → Accepted P → (m : ℕ) (line : List ℕ) (l : IsLine P m line) →
    AreOfKinds (length P.blocks) (length (heap_of l.state)) l.words l.file
