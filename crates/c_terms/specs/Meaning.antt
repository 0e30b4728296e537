-- What a term of the closed calculus does. Types are not used.
use Rattle.std.specs.Prelude.{ℕ}
use Rattle.calc_core.specs.Ends.{Result}
use Rattle.c_terms.specs.C.{CTm}
use Rattle.calc_core.specs.Calculus.{Shut}
use Rattle.calc_core.specs.Words.{Word, Words}
use Rattle.calc_core.specs.Meaning.{Numbered, Enter, open_code, run}
pub use Rattle.calc_core.specs.Meaning.{CodeAt as CCodeAt, v_value as cv_value, vs_value as cvs_value}
pub use Rattle.calc_core.specs.Meaning.{d_value as cd_value, t_value as cterm, entered as center}

-- a code, with its number
abbrev pub CNumbered : Type 0
CNumbered = Numbered Shut

abbrev pub CWord : Type 0
CWord = Word CNumbered

abbrev pub CWords : Type 0
CWords = Words CNumbered

abbrev pub CEnter : Type 0
CEnter = Enter Shut

abbrev pub copen : CEnter → CWord → CWords → CWords → Result
copen enter = open_code Shut enter 0

-- a whole program within n calls
abbrev pub crun : ℕ → CTm → Result
crun = run
