-- Typing with a property of types is typing.
use Rattle.std.proofs.Common.{ℕ, List}
use Rattle.calc_core.specs.Typing.{NoLabels}
use Rattle.calc_core.proofs.TypedWith as W
pub use Rattle.calc_core.proofs.TypedWith.{Any, any_all}
use Rattle.k_terms.specs.K.{KTy, KVal, KDecl, KTm}
use Rattle.k_terms.specs.Typing.{KHas, KGives, KTyped}
use Rattle.k_terms.specs.Each.{KProp, KHasWith, KGivesWith, KTypedWith}

pub plain_v : (P : KProp) (v : KVal) (n : ℕ) (g : List KTy) (t : KTy) → KHasWith P n g v t → KHas n g v t
plain_v P = W.plain_v P NoLabels

pub plain_d : (P : KProp) (d : KDecl) (n : ℕ) (g : List KTy) (t : KTy) → KGivesWith P n g d t → KGives n g d t
plain_d P = W.plain_d P NoLabels

pub plain_t : (P : KProp) (t : KTm) (n : ℕ) (g : List KTy) → KTypedWith P n g t → KTyped n g t
plain_t P = W.plain_t P NoLabels

pub any_t : (t : KTm) (n : ℕ) (g : List KTy) → KTyped n g t → KTypedWith Any n g t
any_t = W.any_t NoLabels
