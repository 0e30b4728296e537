-- The type that is read off a value or a declaration is the one that typing gives.
use Rattle.std.proofs.Common.{◌≡◌, ℕ, List}
use Rattle.calc_core.specs.Typing.{NoLabels}
use Rattle.calc_core.specs.TypeOf.{untold}
use Rattle.calc_core.proofs.TypeOf as T
use Rattle.k_terms.specs.K.{KTy, KVal, KDecl}
use Rattle.k_terms.specs.Typing.{KHas, KGives}
use Rattle.k_terms.specs.Types.{kv_type, kd_type}

pub v_type : (v : KVal) (n : ℕ) (g : List KTy) (t : KTy) → KHas n g v t → kv_type g v ≡ t
v_type = T.v_type NoLabels untold (λ i t h. absurd h)

pub d_type : (d : KDecl) (n : ℕ) (g : List KTy) (t : KTy) → KGives n g d t → kd_type g d ≡ t
d_type = T.d_type NoLabels untold (λ i t h. absurd h)
