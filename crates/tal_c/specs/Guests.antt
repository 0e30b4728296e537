-- What the calls on a guest do.
use Rattle.std.specs.Prelude.{◌≡◌, ◌⊎◌, ◌↔◌, ◌+◌, ◌≤◌, ℕ, max, min, List, Option, Some, None, option_map, Result}
use Rattle.std.specs.Prelude.{OnOk, OnErr, IsErr}
use Rattle.idx_core.specs.declared.memory.OutOfMemory.{OutOfMemory}
use Rattle.t_terms.specs.declared.shown.Shown.{Shown}
use Rattle.t_terms.specs.declared.shown.Shown.TheVariants.{Tuple}
use Rattle.t_terms.specs.Tree.{TProg}
use Rattle.t_terms.specs.Spanned.{SProg, plain_program}
use Rattle.t_terms.specs.Whole.{WellFormedProgram}
use Rattle.t_rules.specs.Rules.{Accepted}
use Rattle.t_machine.specs.declared.machine.Machine.{Machine}
use Rattle.t_machine.specs.declared.machine.Ran.{Ran}
use Rattle.t_machine.specs.Runs.{Stands, RanFrom, steps_made, words_in, IsRegAfter, IsPlaceAfter, IsKept, IsFieldAfter}
use Rattle.t_machine.specs.Words.{shown_word}
use Rattle.t_machine.specs.Room.{spare_tuples, spare_fields, Lowers, LowersAlong, WantsUncovered, IsUncapped}
use Rattle.t_machine.specs.Room.{kept_tuples, kept_fields, most_tuples, most_fields, SameMost, KeepsWithin, StaysSpare}
use Rattle.t_machine.specs.Numbers.{IsCountedOut}
use Rattle.t_machine.specs.Collected.{Unmoved}
use Rattle.t_machine.specs.Reachable.{KeepsReached, StopsReached}
use Rattle.tal_c.specs.declared.answer.Answer.{Answer}
use Rattle.tal_c.specs.declared.answer.HostWord.{HostWord}
use Rattle.tal_c.specs.declared.answer.Position.{Position}
use Rattle.tal_c.specs.declared.guest.Guest.{Guest}
use Rattle.tal_c.specs.Answers.{bare, done, usage, of_run, of_taken, no_word, word_of, no_place, place_at}
use Rattle.tal_c.specs.Texts.{IsAcceptedText, FaultTold}

-- a guest with no program
abbrev pub empty : Guest
empty = record { machine = None }

-- the guest has the accepted program P, and stands after n of its instructions
pub record IsAt (P : TProg) (n : ℕ) (guest : Guest) : Type 0 where
  pub machine : Machine
  pub has : guest.machine ≡ Some machine
  pub whole : WellFormedProgram P
  pub accepted : Accepted P
  pub stands : Stands P n machine

-- the guest stands at the start of the accepted program of the text, and what it may keep has no cap
pub record LoadedTold (text : List ℕ) (new : Guest) (answer : Answer) : Type 0 where
  pub program : SProg
  pub accepted : IsAcceptedText text program
  pub at_start : IsAt (plain_program program) 0 new
  pub uncapped : IsUncapped at_start.machine.heap
  pub is : answer ≡ bare done

-- that, or the fault of the text, and the guest is empty
abbrev pub LoadTold : List ℕ → Guest → Answer → Type 0
LoadTold text new answer = LoadedTold text new answer ⊎ (FaultTold text answer × (new ≡ empty))

-- the guest has this machine
abbrev pub Has : Guest → Machine → Type 0
Has guest machine = guest.machine ≡ Some machine

-- from x to y what may be kept stays, and y keeps no more than that, with what is spare
abbrev pub StaysWithin : Machine → Machine → Type 0
StaysWithin x y = SameMost x y × KeepsWithin y

-- After n instructions of P the guest ran so, and stands after those that it made. What was spare goes down by at most
-- what these allocate, and memory is wanted only where what was spare did not cover them and one more; then each tuple
-- that is kept can be reached. Never more is kept than may be.
pub record RunsOn (P : TProg) (n fuel : ℕ) (old new : Guest) (answer : Answer) : Type 0 where
  pub ran : Ran
  pub run : RanFrom P n fuel ran
  pub stands : IsAt P (n + steps_made fuel ran) new
  pub spare : (x y : Machine) → Has old x → Has new y → LowersAlong P n (steps_made fuel ran) x y
  pub covered : (x : Machine) → Has old x → WantsUncovered P n x ran
  pub reached : (y : Machine) → Has new y → StopsReached y ran
  pub within : (x y : Machine) → Has old x → Has new y → StaysWithin x y
  pub is : answer ≡ of_run fuel ran

-- of a guest that was empty
abbrev pub NotRun : Guest → Guest → Answer → Type 0
NotRun old new answer = old ≡ empty → (new ≡ empty) × (answer ≡ bare usage)

-- of a guest that had a program
abbrev pub Runs : ℕ → Guest → Guest → Answer → Type 0
Runs fuel old new answer = (P : TProg) (n : ℕ) → IsAt P n old → RunsOn P n fuel old new answer

-- what a run of a guest does
abbrev pub GuestRun : ℕ → Guest → Guest → Answer → Type 0
GuestRun fuel old new answer = NotRun old new answer × Runs fuel old new answer

-- whatever the guest stood at, it stands at
abbrev pub Stays : Guest → Guest → Type 0
Stays old new = (P : TProg) (n : ℕ) → IsAt P n old → IsAt P n new

-- Memory was taken in advance: the guest stands where it stood, no less is spare, and where the answer is `done`, so
-- many tuples are, and so many fields of all of them together.
pub record Reserves (tuples fields : ℕ) (x : Machine) (old new : Guest) (answer : Answer) : Type 0 where
  pub after : Machine
  pub taken : Result (Unit {0}) OutOfMemory
  pub has : Has new after
  pub stays : Stays old new
  pub kept : Lowers 0 0 x after
  pub within : StaysWithin x after
  pub spare : OnOk taken ((tuples ≤ spare_tuples after) × (fields ≤ spare_fields after))
  pub is : answer ≡ of_taken taken

abbrev pub GuestReserve : (tuples fields : ℕ) → Guest → Guest → Answer → Type 0
GuestReserve tuples fields old new answer =
    NotRun old new answer × ((x : Machine) → Has old x → Reserves tuples fields x old new answer)

-- Tuples were dropped: the guest stands where it stood, no less is spare, and where the answer is `done`, the tuples
-- that can be reached are kept, and no others. It is `memory` exactly where more than 2^64 - 2^32 tuples were made: the
-- tuples and the registers are then as before.
pub record Collects (x : Machine) (old new : Guest) (answer : Answer) : Type 0 where
  pub after : Machine
  pub taken : Result (Unit {0}) OutOfMemory
  pub has : Has new after
  pub stays : Stays old new
  pub kept : Lowers 0 0 x after
  pub within : StaysWithin x after
  pub exactly : OnOk taken (KeepsReached x after)
  pub counted : IsErr taken ↔ IsCountedOut x.heap
  pub unmoved : OnErr taken (Unmoved x.heap x.registers.items after.heap after.registers.items)
  pub is : answer ≡ of_taken taken

abbrev pub GuestCollect : Guest → Guest → Answer → Type 0
GuestCollect old new answer = NotRun old new answer × ((x : Machine) → Has old x → Collects x old new answer)

-- What may be kept was set: the guest stands where it stood, and may keep so many tuples, and so many fields of all of
-- them together; or as many as it kept, where that is more. It keeps no more than that, with what is spare. What was
-- spare stays so, as far as it may keep so many more.
pub record Caps (tuples fields : ℕ) (x : Machine) (old new : Guest) (answer : Answer) : Type 0 where
  pub after : Machine
  pub has : Has new after
  pub stays : Stays old new
  pub tuple_cap : most_tuples after ≡ max (kept_tuples x) (min tuples 4294967295)
  pub field_cap : most_fields after ≡ max (kept_fields x) (min fields 4294967295)
  pub within : KeepsWithin after
  pub spare : StaysSpare x after
  pub is : answer ≡ bare done

abbrev pub GuestWithin : (tuples fields : ℕ) → Guest → Guest → Answer → Type 0
GuestWithin tuples fields old new answer =
    NotRun old new answer × ((x : Machine) → Has old x → Caps tuples fields x old new answer)

-- ---- what is shown of a guest, which stays as it is

-- the word of register r of the machine, which is that of the program's state; a tuple that it shows is kept
pub record ShowsReg (r : ℕ) (x : Machine) (word : HostWord) : Type 0 where
  pub shown : Option Shown
  pub held : option_map shown_word shown ≡ words_in x r
  pub meaning : (P : TProg) (m : ℕ) → Stands P m x → IsRegAfter P m r shown
  pub kept : (a : ℕ) → shown ≡ Some (Tuple a) → IsKept x a
  pub is : word ≡ word_of shown

-- the word of register r of a guest
abbrev pub GuestReg : ℕ → Guest → Guest → HostWord → Type 0
GuestReg r old new word =
    (new ≡ old) × (old ≡ empty → word ≡ no_word) × ((x : Machine) → Has old x → ShowsReg r x word)

-- the word of field i of the tuple of number a, which is that of the program's state; none where no such tuple is kept.
-- A tuple that it shows is kept.
pub record ShowsField (a i : ℕ) (x : Machine) (word : HostWord) : Type 0 where
  pub shown : Option Shown
  pub meaning : (P : TProg) (m : ℕ) → Stands P m x → IsKept x a → IsFieldAfter P m a i shown
  pub dropped : (IsKept x a → ⊥) → shown ≡ None
  pub kept : (b : ℕ) → shown ≡ Some (Tuple b) → IsKept x b
  pub is : word ≡ word_of shown

-- the word of field i of the tuple of number a of a guest
abbrev pub GuestField : (a i : ℕ) → Guest → Guest → HostWord → Type 0
GuestField a i old new word =
    (new ≡ old) × (old ≡ empty → word ≡ no_word) × ((x : Machine) → Has old x → ShowsField a i x word)

-- how many tuples a guest keeps, with the data of its program
abbrev pub GuestKept : Guest → Guest → ℕ → Type 0
GuestKept old new number =
    (new ≡ old) × (old ≡ empty → number ≡ 0) × ((x : Machine) → Has old x → number ≡ kept_tuples x)

-- the block and the instruction at which P's state stands after m instructions
pub record ShowsPlace (x : Machine) (place : Position) : Type 0 where
  pub block : ℕ
  pub index : ℕ
  pub meaning : (P : TProg) (m : ℕ) → Stands P m x → IsPlaceAfter P m block index
  pub is : place ≡ place_at block index

-- the place of a guest
abbrev pub GuestPlace : Guest → Guest → Position → Type 0
GuestPlace old new place =
    (new ≡ old) × (old ≡ empty → place ≡ no_place) × ((x : Machine) → Has old x → ShowsPlace x place)
