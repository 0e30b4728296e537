-- The names of a typed term are in scope.
use Rattle.std.proofs.Common.{ℕ, List, length}
use Rattle.calc_core.specs.Typing.{NoLabels}
use Rattle.calc_core.proofs.NamesIn.{names_t}
use Rattle.c_terms.specs.C.{CTy, CTm}
use Rattle.c_terms.specs.Scope.{CScoped}
use Rattle.c_terms.specs.Typing.{CTyped}

pub good_within : (t : CTm) (n : ℕ) (g : List CTy) → CTyped n g t → CScoped (length g) t
good_within = names_t NoLabels
