-- When an assembly program means the same as a term of the source, and how often its places are executed.
use Rattle.std.specs.Prelude.{◌+◌, ◌*◌, ◌≤◌, ℕ, ℤ}
use Rattle.f_terms.specs.Tm.{Term}
use Rattle.f_terms.specs.Eval.{Evaluates}
use Rattle.t_terms.specs.Tree.{TProg}
use Rattle.t_rules.specs.Machine.{State, Place, After, HaltsWithin, Halts}
use Rattle.t_rules.specs.Times.{Times, Entries, program_size}

-- where the term evaluates to i, the program halts with i; and where the program halts with i within n
-- instructions, the term evaluates to i within n turns
pub record SameMeaning (e : Term) (P : TProg) : Type 0 where
  pub forth : (n : ℕ) (i : ℤ) → Evaluates e n i → Halts P i
  pub back : (n : ℕ) (i : ℤ) → HaltsWithin P n i → Evaluates e n i

-- where the term evaluates within n turns, no place of the program is executed more than n + 1 times, in however many
-- steps
abbrev pub RunsSeldom : Term → TProg → Type 0
RunsSeldom e P =
    (n : ℕ) (i : ℤ) → Evaluates e n i → (m : ℕ) (s : State) (q : Place) (run : After P m s q) (block index : ℕ) →
    Times P m s q run block index ≤ n + 1

-- nor is a block of it entered more often
abbrev pub EntersSeldom : Term → TProg → Type 0
EntersSeldom e P =
    (n : ℕ) (i : ℤ) → Evaluates e n i → (m : ℕ) (s : State) (q : Place) (run : After P m s q) (block : ℕ) →
    Entries P m s q run block ≤ n + 1

-- so it halts within n + 1 times the number of its instructions and jumps
abbrev pub HaltsSoon : Term → TProg → Type 0
HaltsSoon e P = (n : ℕ) (i : ℤ) → Evaluates e n i → HaltsWithin P ((n + 1) * program_size P) i
