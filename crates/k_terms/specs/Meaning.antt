-- What a term of the CPS calculus does. Types are not used.
use Rattle.std.specs.Prelude.{ℕ}
use Rattle.calc_core.specs.Ends.{Result}
use Rattle.k_terms.specs.K.{KTm}
use Rattle.calc_core.specs.Calculus.{Open}
use Rattle.calc_core.specs.Words.{Word, Words}
use Rattle.calc_core.specs.Meaning.{Numbered, Enter, open_code, run}
pub use Rattle.calc_core.specs.Meaning.{CodeAt as KCodeAt, v_value as kv_value, vs_value as kvs_value}
pub use Rattle.calc_core.specs.Meaning.{d_value as kd_value, t_value as kterm, entered as kenter}

-- a code, with its number
abbrev pub KNumbered : Type 0
KNumbered = Numbered Open

abbrev pub KWord : Type 0
KWord = Word KNumbered

abbrev pub KWords : Type 0
KWords = Words KNumbered

abbrev pub KEnter : Type 0
KEnter = Enter Open

abbrev pub kopen : KEnter → ℕ → KWord → KWords → KWords → Result
kopen = open_code Open

-- a whole program within n calls
abbrev pub krun : ℕ → KTm → Result
krun = run
