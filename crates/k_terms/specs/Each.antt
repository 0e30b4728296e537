-- Typing of the CPS calculus where each type that is written, or that typing gives to a value or a name, has a
-- property.
use Rattle.std.specs.Prelude.{ℕ, List}
use Rattle.k_terms.specs.K.{KTy, KTys, KVal, KVals, KDecl, KTm}
use Rattle.calc_core.specs.Typing.{NoLabels}
use Rattle.calc_core.specs.TypedWith.{HasWith, HaveWith, GivesWith, TypedWith}
pub use Rattle.calc_core.specs.TypedWith.{Property as KProp, All as KAll}

abbrev pub KHasWith : KProp → ℕ → List KTy → KVal → KTy → Type 0
KHasWith P = HasWith P NoLabels

abbrev pub KHaveWith : KProp → ℕ → List KTy → KVals → KTys → Type 0
KHaveWith P = HaveWith P NoLabels

abbrev pub KGivesWith : KProp → ℕ → List KTy → KDecl → KTy → Type 0
KGivesWith P = GivesWith P NoLabels

abbrev pub KTypedWith : KProp → ℕ → List KTy → KTm → Type 0
KTypedWith P = TypedWith P NoLabels
