-- Typing of the CPS calculus.
use Rattle.std.specs.Prelude.{ℕ, List}
use Rattle.k_terms.specs.K.{KTy, KTys, KVal, KVals, KDecl, KTm}
use Rattle.calc_core.specs.Typing.{NoLabels, Has, Have, Gives, Typed}
pub use Rattle.calc_core.specs.Substitution.{with_type as kscons, with_types as knames, under_binders as kup}
pub use Rattle.calc_core.specs.Substitution.{substituted as ksub, all_substituted as ksubs}
pub use Rattle.calc_core.specs.Scope.{InScope as KIn, AllInScope as KIns, IsTypeOf as KAt, IsField as KField}

abbrev pub KHas : ℕ → List KTy → KVal → KTy → Type 0
KHas = Has NoLabels

abbrev pub KHave : ℕ → List KTy → KVals → KTys → Type 0
KHave = Have NoLabels

abbrev pub KGives : ℕ → List KTy → KDecl → KTy → Type 0
KGives = Gives NoLabels

abbrev pub KTyped : ℕ → List KTy → KTm → Type 0
KTyped = Typed NoLabels
