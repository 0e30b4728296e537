-- The kinds of words: what an erased word of a type is.
use Rattle.std.specs.Prelude.{◌≡◌, ◌≢◌, ℕ, ℤ, ◌<◌, List, length, Some}
use Rattle.t_types.specs.Tree.{Ty, IntTy, VarTy, CodeTy, ExistsTy, TupleTy}
use Rattle.t_types.specs.Fits.{RegTypes}
use Rattle.t_terms.specs.Tree.{TProg}
use Rattle.t_terms.specs.Whole.{WellFormedProgram}
use Rattle.t_rules.specs.Rules.{Accepted}
use Rattle.t_rules.specs.Known.{KnownAt}
use Rattle.t_rules.specs.Machine.{Spot}
use Rattle.t_rules.specs.Erase.{EWord, EInt, EAddress, ELabel, EEmpty, EHeap, ERegs, ESeq, EAt, Erased}

-- In a program of so many blocks, where the heap has so many tuples, the word is of the kind of the type. At a type
-- variable or an existential type it is any that stands in no empty field.
abbrev pub HasKind : (blocks tuples : ℕ) → Ty → EWord → Type 0
HasKind blocks tuples IntTy w = (i : ℤ) × (w ≡ EInt i)
HasKind blocks tuples (TupleTy fs) w = (a : ℕ) × (w ≡ EAddress a) × (a < tuples)
HasKind blocks tuples (CodeTy owes file) w = (l : ℕ) × (w ≡ ELabel l) × (l < blocks)
HasKind blocks tuples (VarTy i) w = w ≢ EEmpty
HasKind blocks tuples (ExistsTy t) w = w ≢ EEmpty

-- in an erased state of an accepted program each register that is known at its place has a word, of the kind of its
-- type
abbrev pub KnownWordsHaveKinds : Type 0
KnownWordsHaveKinds =
    (P : TProg) → WellFormedProgram P → Accepted P →
    (m : ℕ) (blocks : List ESeq) (h : EHeap) (r : ERegs) (c : ESeq) (block index : ℕ) →
    Erased P m blocks (EAt h r c) (Spot block index) → (n : ℕ) (g : RegTypes) → KnownAt P block index n g →
    (q : ℕ) (t : Ty) → g q ≡ Some t → (w : EWord) × (r q ≡ Some w) × HasKind (length P.blocks) (length h) t w
