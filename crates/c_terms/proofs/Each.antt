-- Typing with a property of types is typing.
use Rattle.std.proofs.Common.{ℕ, List}
use Rattle.calc_core.specs.Typing.{NoLabels}
use Rattle.calc_core.proofs.TypedWith as W
pub use Rattle.calc_core.proofs.TypedWith.{Any, any_all}
use Rattle.c_terms.specs.C.{CTy, CTm}
use Rattle.c_terms.specs.Typing.{CTyped}
use Rattle.c_terms.specs.Each.{CProp, CTypedWith}

pub plain_t : (P : CProp) (t : CTm) (n : ℕ) (g : List CTy) → CTypedWith P n g t → CTyped n g t
plain_t P = W.plain_t P NoLabels

pub any_t : (t : CTm) (n : ℕ) (g : List CTy) → CTyped n g t → CTypedWith Any n g t
any_t = W.any_t NoLabels
