-- Typing of the closed calculus where each type that is written, or that typing gives to a value or a name, has a
-- property.
use Rattle.std.specs.Prelude.{ℕ, List}
use Rattle.c_terms.specs.C.{CTy, CTys, CVal, CVals, CDecl, CTm}
use Rattle.calc_core.specs.Typing.{NoLabels}
use Rattle.calc_core.specs.TypedWith.{HasWith, HaveWith, GivesWith, TypedWith}
pub use Rattle.calc_core.specs.TypedWith.{Property as CProp, All as CAll}

abbrev pub CHasWith : CProp → ℕ → List CTy → CVal → CTy → Type 0
CHasWith P = HasWith P NoLabels

abbrev pub CHaveWith : CProp → ℕ → List CTy → CVals → CTys → Type 0
CHaveWith P = HaveWith P NoLabels

abbrev pub CGivesWith : CProp → ℕ → List CTy → CDecl → CTy → Type 0
CGivesWith P = GivesWith P NoLabels

abbrev pub CTypedWith : CProp → ℕ → List CTy → CTm → Type 0
CTypedWith P = TypedWith P NoLabels
