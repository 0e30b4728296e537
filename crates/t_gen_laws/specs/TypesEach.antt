-- A property of all types of an assembly program: of those that stand in it, and of those of its values and registers.
use Rattle.std.specs.Prelude.{◌≡◌, ◌≤◌, ◌+◌, ℕ, suc, max, List, [], ◌∷◌, Some}
use Rattle.a_terms.specs.Tree.{ATm, AProg}
use Rattle.a_terms.specs.Typing.{TypedProgram}
use Rattle.a_terms.specs.Each.{ProgramEach, AWithin}
use Rattle.t_types.specs.Tree.{Ty, IntTy, VarTy, CodeTy, ExistsTy, TupleTy, TFile, NoRegs, MoreRegs, TFields, NoFields}
use Rattle.t_types.specs.Tree.{MoreFields}
use Rattle.t_types.specs.Fields.{filled, empty_fields}
use Rattle.t_types.specs.Fits.{RegTypes, lookup}
use Rattle.t_terms.specs.Tree.{TValue, Plain, Pack, TInstr, Arith, Bnz, Ld, Malloc, Mov, St, Unpack, TEnd, Jmp, Halt}
use Rattle.t_terms.specs.Tree.{TSeq, Then, Ends, TBlock, TData, TProg, names_after}
use Rattle.t_terms.specs.Reach.{type_reach}
use Rattle.t_terms.specs.Registers.{with_reg, no_types}
use Rattle.t_rules.specs.Rules.{BaseHas, Has, Typed, EndTyped}
use Rattle.t_gen_rules.specs.Gen.{generated}

-- a property of types under so many type variables
abbrev pub TProp : Type 1
TProp = ℕ → Ty → Type 0

-- each type of a list has it
abbrev pub AllTypes : TProp → ℕ → List Ty → Type 0
AllTypes Q n [] = Unit {0}
AllTypes Q n (t ∷ ts) = Q n t × AllTypes Q n ts

-- each type of a file has it
abbrev pub FileTypes : TProp → ℕ → TFile → Type 0
FileTypes Q n NoRegs = Unit {0}
FileTypes Q n (MoreRegs r t f) = Q n t × FileTypes Q n f

-- the value has the type t; it, the types of the values in it and those that it is written with have the property
abbrev pub HasEach : TProp → TProg → ℕ → RegTypes → TValue → Ty → Type 0
HasEach Q P n g (Plain b ts) t =
    Has P n g (Plain b ts) t × ((s : Ty) × BaseHas P g b s × Q n s × Q n t × AllTypes Q n ts)
HasEach Q P n g (Pack h v s) t = Has P n g (Pack h v s) t × ((u : Ty) × HasEach Q P n g v u × Q n h × Q n t)

-- the types of the instruction's value, those that are written in it, and that of the register that it sets
abbrev pub InstrEach : TProp → TProg → ℕ → RegTypes → TInstr → Type 0
InstrEach Q P n g (Arith op rd rs v) = HasEach Q P n g v IntTy
InstrEach Q P n g (Bnz r v) = (file : TFile) × HasEach Q P n g v (CodeTy 0 file)
InstrEach Q P n g (Ld rd rs i) = (t : Ty) × Typed P n g (Ld rd rs i) (with_reg g rd t) × Q n t
InstrEach Q P n g (Malloc rd ts) = AllTypes Q n ts × Q n (TupleTy (empty_fields ts))
InstrEach Q P n g (Mov rd v) = (t : Ty) × HasEach Q P n g v t
InstrEach Q P n g (St rd i rs) = (fs : TFields) × (g rd ≡ Some (TupleTy fs)) × Q n (TupleTy (filled fs i))
InstrEach Q P n g (Unpack rd v) = (t : Ty) × HasEach Q P n g v (ExistsTy t) × Q (suc n) t

-- the types of a jump's value
abbrev pub EndEach : TProp → TProg → ℕ → RegTypes → TEnd → Type 0
EndEach Q P n g (Jmp v) = (file : TFile) × HasEach Q P n g v (CodeTy 0 file)
EndEach Q P n g Halt = Unit {0}

-- of each instruction in turn, and of the end
abbrev pub SeqEach : TProp → TProg → ℕ → RegTypes → TSeq → Type 0
SeqEach Q P n g (Then i rest) =
    (h : RegTypes) × Typed P n g i h × InstrEach Q P n g i × SeqEach Q P (names_after i n) h rest
SeqEach Q P n g (Ends e) = EndTyped P n g e × EndEach Q P n g e

-- of the file and the sequence of each block
abbrev pub BlocksEach : TProp → TProg → List TBlock → Type 0
BlocksEach Q P [] = Unit {0}
BlocksEach Q P (b ∷ bs) = (FileTypes Q b.owes b.file × SeqEach Q P b.owes (lookup b.file) b.code) × BlocksEach Q P bs

-- the written type of each data field, and the types of its value
abbrev pub DataEach : TProp → TProg → TData → Type 0
DataEach Q P [] = Unit {0}
DataEach Q P (x ∷ xs) = (Q 0 x.ty × ((t : Ty) × HasEach Q P 0 no_types x.value t)) × DataEach Q P xs

-- of each data tuple
abbrev pub HeapEach : TProp → TProg → List TData → Type 0
HeapEach Q P [] = Unit {0}
HeapEach Q P (x ∷ xs) = DataEach Q P x × HeapEach Q P xs

-- of a whole program
abbrev pub TypesEach : TProp → TProg → Type 0
TypesEach Q P = BlocksEach Q P P.blocks × HeapEach Q P P.heap

-- the greatest number of type names that are bound around one place of a type
abbrev mutual
  pub tbinds : Ty → ℕ
  tbinds IntTy = 0
  tbinds (VarTy i) = 0
  tbinds (CodeTy n f) = n + tbinds_file f
  tbinds (ExistsTy t) = suc (tbinds t)
  tbinds (TupleTy fs) = tbinds_fields fs

  pub tbinds_file : TFile → ℕ
  tbinds_file NoRegs = 0
  tbinds_file (MoreRegs r t f) = max (tbinds t) (tbinds_file f)

  pub tbinds_fields : TFields → ℕ
  tbinds_fields NoFields = 0
  tbinds_fields (MoreFields t f fs) = max (tbinds t) (tbinds_fields fs)

-- at most so many names in scope, so much reach, and so many names bound in the type
abbrev pub TWithin : (names reach binds : ℕ) → TProp
TWithin names reach binds n t = (n ≤ names) × (type_reach t ≤ reach) × (tbinds t ≤ binds)

-- code generation adds two to the reach, and the names in scope to those of a type
abbrev pub TypesWithin : Type 0
TypesWithin =
    (N R B : ℕ) (p : AProg) (main : ATm) → TypedProgram p main → ProgramEach (AWithin N R B) p main →
    TypesEach (TWithin N (R + 2) (N + B)) (generated p main)
