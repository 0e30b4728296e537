-- The texts of pieces, by their numbers.
use Rattle.std.specs.Prelude.{ℕ, ◌+◌, List, [], ◌∷◌, ◌++◌, slice_index_or, nat_lt, if◌then◌else◌}
use Rattle.page_core.specs.declared.piece.Piece.{Piece}
use Rattle.page_core.specs.declared.piece.Piece.TheVariants.{Bytes, Joined}

-- what is made of each piece, in order, behind what was made of those before it
abbrev pub grown : {T : Type 0} → (List T → Piece → T) → List T → List Piece → List T
grown make made [] = made
grown make made (p ∷ ps) = grown make (made ++ make made p ∷ []) ps

-- the text of a piece by those of the pieces before it; a number that is not there stands for no bytes
abbrev pub text_in : List (List ℕ) → Piece → List ℕ
text_in ts (Bytes b) = b.items
text_in ts (Joined i j) = slice_index_or ts i [] ++ slice_index_or ts j []

abbrev pub texts : List Piece → List (List ℕ)
texts ps = grown text_in [] ps

-- the texts of pieces one after the other, the last first
abbrev pub spelled : List (List ℕ) → List ℕ → List ℕ
spelled ts [] = []
spelled ts (i ∷ is) = spelled ts is ++ slice_index_or ts i []

-- the part, where it stands before the whole
abbrev pub part_before : ℕ → ℕ → List ℕ
part_before i j = if nat_lt i j then i ∷ [] else []

-- how many steps of a walk a piece takes, the first aside
abbrev pub steps_in : List ℕ → Piece → ℕ
steps_in ns (Bytes b) = 0
steps_in ns (Joined i j) = 2 + (slice_index_or ns i 0 + slice_index_or ns j 0)

abbrev pub steps : List Piece → List ℕ
steps ps = grown steps_in [] ps

-- how many steps are left of a walk over pieces
abbrev pub work_of : List ℕ → List ℕ → ℕ
work_of ns [] = 0
work_of ns (i ∷ is) = 1 + (slice_index_or ns i 0 + work_of ns is)
