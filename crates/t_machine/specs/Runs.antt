-- What a run of the machine tells of the program that it runs.
use Rattle.std.specs.Prelude.{◌≡◌, ℕ, ◌+◌, ◌<◌, ◌≤◌, ℤ, Option, Some, None, option_map, option_and_then, slice_get}
use Rattle.std.specs.List.{Contains}
use Rattle.t_terms.specs.declared.shown.Shown.{Shown}
use Rattle.t_terms.specs.Tree.{TProg}
use Rattle.t_terms.specs.Whole.{WellFormedProgram}
use Rattle.t_rules.specs.Rules.{Accepted}
use Rattle.t_rules.specs.Machine.{State, Place, Spot, After, HaltedAfter, HaltsWithin, GoesOnAfter, BeforeMalloc}
use Rattle.t_rules.specs.LawsSound.{regs_of}
use Rattle.t_rules.specs.Erase.{EWord, EInt, EAddress, ELabel, EEmpty, EHeap, ERegs, EState, EAt, erase, erase_regs}
use Rattle.t_machine.specs.Words.{shown_word, regs_of as held_in}
use Rattle.t_machine.specs.State.{Represents}
use Rattle.t_collect.specs.Kept.{numbered}
use Rattle.t_machine.specs.Numbers.{numbers}
use Rattle.t_machine.specs.declared.machine.Machine.{Machine}
use Rattle.t_machine.specs.declared.machine.Ran.{Ran}
use Rattle.t_machine.specs.declared.machine.Ran.TheVariants.{Halted, Spent, NoMemory}

-- the machine stands for P after m steps
abbrev pub Stands : TProg → ℕ → Machine → Type 0
Stands P m x = Represents P m x.heap x.registers.items x.code x.at

-- the words of the machine's registers, where a tuple has the number that it has in the program's states
abbrev pub words_in : Machine → ERegs
words_in x r = option_map (numbered (numbers x.heap)) (held_in x.code.places x.registers.items r)

-- the place of P's state after m steps
abbrev pub IsPlaceAfter : TProg → ℕ → ℕ → ℕ → Type 0
IsPlaceAfter P m block index = (s : State) (p : Place) → After P m s p → p ≡ Spot block index

-- the word of a register in that state, without types, if it has one
abbrev pub IsRegAfter : TProg → ℕ → ℕ → Option Shown → Type 0
IsRegAfter P m r word = (s : State) (p : Place) → After P m s p → option_map shown_word word ≡ erase_regs (regs_of s) r

-- one of the tuples that the machine keeps has this number
abbrev pub IsKept : Machine → ℕ → Type 0
IsKept x a = Contains (numbers x.heap) a

-- the tuples of an erased state
abbrev pub tuples_of : EState → EHeap
tuples_of (EAt h r c) = h

-- the word of a field, where there is such a field and it is not empty
abbrev pub filled : EWord → Option EWord
filled EEmpty = None
filled (EInt i) = Some (EInt i)
filled (EAddress a) = Some (EAddress a)
filled (ELabel l) = Some (ELabel l)

abbrev pub field_in : EHeap → ℕ → ℕ → Option EWord
field_in h a i = option_and_then filled (option_and_then (λ t. slice_get t i) (slice_get h a))

-- the word of the field i of the tuple a in P's state after m steps, without types, if there is such a field and it is
-- not empty
abbrev pub IsFieldAfter : TProg → ℕ → ℕ → ℕ → Option Shown → Type 0
IsFieldAfter P m a i word =
    (s : State) (p : Place) → After P m s p → option_map shown_word word ≡ field_in (tuples_of (erase s)) a i

-- how many steps were made by a run that was allowed n
abbrev pub steps_made : ℕ → Ran → ℕ
steps_made n (Halted value made) = made
steps_made n Spent = n
steps_made n (NoMemory made) = made

-- what the answer tells of a run that was allowed n steps, and began after m steps of P
abbrev pub RanFrom : TProg → ℕ → ℕ → Ran → Type 0
RanFrom P m n (Halted value made) = (made ≤ n) × HaltedAfter P (m + made) value
RanFrom P m n Spent = GoesOnAfter P (m + n)
RanFrom P m n (NoMemory made) = (made < n) × BeforeMalloc P (m + made)

-- the run halted with this integer after this many steps, or it wanted memory
abbrev pub HaltedOrWanted : Ran → ℤ → ℕ → Type 0
HaltedOrWanted (Halted value made) i k = (value ≡ i) × (made ≡ k)
HaltedOrWanted Spent i k = ⊥
HaltedOrWanted (NoMemory made) i k = made < k

-- the run made as many steps as it was allowed, or it wanted memory
abbrev pub SpentOrWanted : Ran → Type 0
SpentOrWanted (Halted value made) = ⊥
SpentOrWanted Spent = Unit {0}
SpentOrWanted (NoMemory made) = Unit {0}

-- where P is halted with i after k steps of a run that is allowed n, and k is at most n, the run says so
abbrev pub HaltedExactly : Type 0
HaltedExactly =
    (P : TProg) → WellFormedProgram P → Accepted P → (m n : ℕ) (result : Ran) → RanFrom P m n result →
    (i : ℤ) (k : ℕ) → k ≤ n → HaltedAfter P (m + k) i → HaltedOrWanted result i k

-- where P goes on after the n steps that a run is allowed, the run says so
abbrev pub SpentExactly : Type 0
SpentExactly =
    (P : TProg) → WellFormedProgram P → Accepted P → (m n : ℕ) (result : Ran) → RanFrom P m n result →
    GoesOnAfter P (m + n) →
    SpentOrWanted result

-- what the first run of a loaded program tells, where it is allowed n steps
abbrev pub FirstRun : TProg → ℕ → Ran → Type 0
FirstRun P n (Halted value made) = HaltsWithin P n value
FirstRun P n Spent = GoesOnAfter P n
FirstRun P n (NoMemory made) = BeforeMalloc P made

abbrev pub FirstRuns : Type 0
FirstRuns = (P : TProg) (n : ℕ) (result : Ran) → RanFrom P 0 n result → FirstRun P n result
