-- Typing of the closed calculus.
use Rattle.std.specs.Prelude.{ℕ, List}
use Rattle.c_terms.specs.C.{CTy, CTys, CVal, CVals, CDecl, CTm}
use Rattle.calc_core.specs.Typing.{NoLabels, Has, Have, Gives, Typed}
pub use Rattle.calc_core.specs.Substitution.{renamed as cren, all_renamed as crens, scope_renamed as crens_scope}
pub use Rattle.calc_core.specs.Substitution.{with_type as scons, with_types as names, under_binders as cup}
pub use Rattle.calc_core.specs.Substitution.{substituted as csub, all_substituted as csubs}
pub use Rattle.calc_core.specs.Scope.{InScope as CIn, AllInScope as CIns, IsTypeOf as CAt, IsField as CField}
pub use Rattle.calc_core.specs.Scope.{args_onto as cargs_onto}

abbrev pub CHas : ℕ → List CTy → CVal → CTy → Type 0
CHas = Has NoLabels

abbrev pub CHave : ℕ → List CTy → CVals → CTys → Type 0
CHave = Have NoLabels

abbrev pub CGives : ℕ → List CTy → CDecl → CTy → Type 0
CGives = Gives NoLabels

abbrev pub CTyped : ℕ → List CTy → CTm → Type 0
CTyped = Typed NoLabels
