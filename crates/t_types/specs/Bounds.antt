-- How deep the types are that a checker meets: each sum of a shift or of a put of them is then a u64.
use Rattle.std.specs.Prelude.{ℕ, ◌+◌, ◌*◌, ◌<◌, ◌≤◌}
use Rattle.t_types.specs.Tree.{Ty, IntTy, VarTy, CodeTy, ExistsTy, TupleTy, TFile, each, each_file}
use Rattle.t_types.specs.WellFormed.{max_names}

-- at depth d in the type, variable i is bound there or one of the n names around it
abbrev pub ShallowAt : ℕ → ℕ → ℕ → Type 0
ShallowAt n d i = (i < d + n) × (d ≤ max_names)

-- no place of the type stands below more binders of it than there may be names
abbrev pub ShallowBelow : ℕ → Type 0
ShallowBelow d = d ≤ max_names

-- a type that is written under n names, or a part of one
abbrev pub Shallow : ℕ → Ty → Type 0
Shallow n t = each (ShallowAt n) ShallowBelow 0 t

-- the same of the registers' types of code that owes k types, after other types were put for the first ones that it
-- owed: these reach as deep again, and only the variables of the k types do not
abbrev pub OwedAt : ℕ → ℕ → ℕ → ℕ → Type 0
OwedAt n k d i = (i < d + n) × (d ≤ 2 * max_names) × (i < d → d ≤ i + k → d ≤ max_names)

abbrev pub OwedBelow : ℕ → Type 0
OwedBelow d = d ≤ 2 * max_names

abbrev pub OwedFile : ℕ → ℕ → TFile → Type 0
OwedFile n k file = each_file (OwedAt n k) OwedBelow (0 + k) file

-- a type that a value may have under n names
abbrev pub Bounded : ℕ → Ty → Type 0
Bounded n (CodeTy k file) = (k ≤ max_names) × OwedFile n k file
Bounded n IntTy = Shallow n IntTy
Bounded n (VarTy i) = Shallow n (VarTy i)
Bounded n (ExistsTy t) = Shallow n (ExistsTy t)
Bounded n (TupleTy fs) = Shallow n (TupleTy fs)
