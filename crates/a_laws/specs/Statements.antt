-- What allocation keeps.
use Rattle.std.specs.Prelude.{◌≡◌, ◌≤◌, ◌*◌, ℕ, List, [], ◌∷◌}
use Rattle.calc_core.specs.Ends.{End, Halted, Spent, Stuck, Result}
use Rattle.h_terms.specs.Bound.{HFits}
use Rattle.h_terms.specs.H.{HTm, HBlks}
use Rattle.h_terms.specs.Meaning.{hrun}
use Rattle.h_terms.specs.Typing.{HProgramGood}
use Rattle.a_terms.specs.Bound.{AFits}
use Rattle.a_terms.specs.Meaning as A
use Rattle.a_terms.specs.Tree.{ATm, AProg}
use Rattle.a_terms.specs.Typing.{TypedProgram}
use Rattle.a_laws.specs.Allocate.{alloc_prog, alloc_main}
use Rattle.a_laws.specs.Stands.{Stands}

-- the blocks entered, the last one first
abbrev pub onto_log : List ℕ → List ℕ → List ℕ
onto_log [] log = log
onto_log (b ∷ bs) log = onto_log bs (b ∷ log)

abbrev pub finish : End → List ℕ → A.Result
finish (Halted i) log = A.Halted i log
finish Spent log = A.Spent log
finish Stuck log = A.Wrong log

-- a hoisted program's result as one of the allocated calculus, after the blocks of log
abbrev pub ends : List ℕ → Result → A.Result
ends log r = finish r.end (onto_log r.entered log)

-- a typed program and whatever stands for it end alike within each number of calls, and enter the same blocks
abbrev pub StandingMeansTheSame : Type 0
StandingMeansTheSame =
    (p : AProg) (main : ATm) (ks : HBlks) (t : HTm) → HProgramGood ks t → Stands p main ks t → (n : ℕ) →
    A.meaning p main n ≡ ends [] (hrun n ks t)

-- a typed program and its allocation end alike within each number of calls, and enter the same blocks
abbrev pub AllocKept : Type 0
AllocKept =
    (ks : HBlks) (t : HTm) → HProgramGood ks t → (n : ℕ) →
    A.meaning (alloc_prog ks t) (alloc_main ks t) n ≡ ends [] (hrun n ks t)

-- the allocation of a typed program is typed
abbrev pub AllocTypesKept : Type 0
AllocTypesKept = (ks : HBlks) (t : HTm) → HProgramGood ks t → TypedProgram (alloc_prog ks t) (alloc_main ks t)

-- the allocation of a program within bounds is within bounds: reach and names grow by nothing, and variables at most
-- threefold
abbrev pub AllocFits : Type 0
AllocFits =
    (N M R : ℕ) → 3 * N ≤ M → (ks : HBlks) (t : HTm) → HFits N R ks t → AFits M R (alloc_prog ks t) (alloc_main ks t)
