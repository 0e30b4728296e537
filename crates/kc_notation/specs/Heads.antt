-- The first lines of codes, where types are written with closures or without: a code's name for itself, the types that
-- it owes, and its arguments, inside n type names and m value names.
use Rattle.std.specs.Prelude.{ℕ, ◌+◌, Bool, List, [], ◌++◌, codes}
use Rattle.calc_core.specs.Types.{Tys, NoTys, MoreTys}
use Rattle.let_types.specs.TypeTexts.{text_of}
use Rattle.page_core.specs.Names.{value_name, type_names, separator}

-- the arguments behind i others; the first of all has m value names around it
abbrev pub arguments_text : (closures : Bool) → (n m i : ℕ) → Tys → List ℕ
arguments_text c n m i NoTys = []
arguments_text c n m i (MoreTys t ts) =
    separator i ++ value_name (m + i) ++ codes ": " ++ text_of c n t ++ arguments_text c n m (i + 1) ts

abbrev pub code_line : (closures : Bool) → (n m owes : ℕ) → Tys → List ℕ
code_line c n m owes args =
    codes "code " ++ value_name m ++ type_names n owes ++ codes "(" ++ arguments_text c (n + owes) (m + 1) 0 args
    ++ codes ") {\n"
