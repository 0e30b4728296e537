-- What the rules of the passes say by themselves.
use Rattle.f_terms.specs.Tm.{Term}
use Rattle.t_terms.specs.Tree.{TProg}
use Rattle.t_terms.specs.Whole.{WellFormedProgram}
use Rattle.t_rules.specs.Rules.{Accepted}
use Rattle.pipeline.specs.Compilation.{IsTranslation}
use Rattle.pipeline.specs.Meaning.{SameMeaning, RunsSeldom, HaltsSoon}

-- whatever is a translation of a term by the rules alone, is well formed and is accepted, means the same as the term;
-- no place of it is executed more often than once more than the term takes turns, and so it halts soon
abbrev pub TranslationsMeanTheSame : Type 0
TranslationsMeanTheSame =
    (e : Term) (P : TProg) → IsTranslation e P → WellFormedProgram P → Accepted P →
    SameMeaning e P × RunsSeldom e P × HaltsSoon e P
