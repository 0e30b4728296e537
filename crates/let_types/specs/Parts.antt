-- Parts of the types of the closed calculi, where they have them.
use Rattle.std.specs.Prelude.{ℕ}
use Rattle.c_terms.specs.C.{CTy, CTys, TCVar}
use Rattle.c_terms.specs.Typing.{cup, names}
pub use Rattle.calc_core.specs.TypeOf.{type_at, proj_type as field_type, open_type as opened_type, held_type}
pub use Rattle.calc_core.specs.TypeOf.{applied_type}

-- what stands at depth d for the variable i, where types are put for the variables that are free there, the last type
-- for the first of them
abbrev pub placed : CTys → ℕ → ℕ → CTy
placed ts d i = cup d (names ts TCVar) i
