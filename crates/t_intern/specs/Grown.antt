-- Lists of types, each once, that grow at their end.
use Rattle.std.specs.Prelude.{◌≡◌, ◌⊎◌, ◌<◌, ℕ, Bool, List, [], ◌∷◌, ◌++◌, length, map, slice_index_or}
use Rattle.std.specs.List.{All}
use Rattle.t_types.specs.Tree.{Ty, Below, TFile, TFields}
use Rattle.t_intern.specs.Nodes.{at, regs_at, fields_at, RegsBelow, FieldsBelow}

-- the new list goes on from the old one
abbrev pub Grown : List Ty → List Ty → Type 0
Grown ts us = (more : List Ty) × (us ≡ ts ++ more)

-- each type is there once
abbrev pub Once : List Ty → Type 0
Once ts = (i j : ℕ) → i < length ts → j < length ts → at ts i ≡ at ts j → i ≡ j

-- the type is in the list
abbrev pub IsIn : Ty → List Ty → Type 0
IsIn t ts = (i : ℕ) × (i < length ts) × (at ts i ≡ t)

-- the list with the type put last, where it is not there
abbrev pub Adds : Ty → List Ty → List Ty → Type 0
Adds t ts us = (IsIn t ts × (us ≡ ts)) ⊎ ((IsIn t ts → ⊥) × (us ≡ ts ++ t ∷ []))

-- the type has this number
abbrev pub IsNumber : List Ty → Ty → ℕ → Type 0
IsNumber ts t n = (n < length ts) × (at ts n ≡ t)

-- the types have these numbers
abbrev pub AreNumbers : List Ty → List Ty → List ℕ → Type 0
AreNumbers ts us ns = (map (at ts) ns ≡ us) × All (λ n. n < length ts) ns

-- the entries of a file, and fields, have these numbers
abbrev pub AreRegs : List Ty → TFile → List (ℕ × ℕ) → Type 0
AreRegs ts file xs = (regs_at ts xs ≡ file) × RegsBelow (length ts) xs

abbrev pub AreFields : List Ty → TFields → List (ℕ × Bool) → Type 0
AreFields ts fields xs = (fields_at ts xs ≡ fields) × FieldsBelow (length ts) xs

abbrev pub bound_at : List ℕ → ℕ → ℕ
bound_at bs n = slice_index_or bs n 0

-- each number bounds the free variables of its type
abbrev pub AreBounds : List ℕ → List Ty → Type 0
AreBounds bs ts = (length bs ≡ length ts) × ((k : ℕ) → k < length bs → Below (bound_at bs k) (at ts k))
