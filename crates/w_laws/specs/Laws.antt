-- What the translation keeps.
use Rattle.std.specs.Prelude.{◌≡◌, ℕ, ℤ, List, length, ◌⊎◌}
use Rattle.t_terms.specs.Tree.{TProg}
use Rattle.t_terms.specs.Whole.{WellFormedProgram, Whole}
use Rattle.t_rules.specs.Rules.{Accepted}
use Rattle.t_rules.specs.Machine.{Halts}
use Rattle.t_rules.specs.Erase.{erase_blocks}
use Rattle.w_terms.specs.Tree.{WSeq, WProg}
use Rattle.w_terms.specs.declared.program.WDatum.{WDatum}
use Rattle.w_terms.specs.Machine.{WRegs, Written, AreWords, Places, Exits, NeverSticks}
use Rattle.w_runtime.specs.Blocks.{Layout}
use Rattle.w_rooms.specs.Numbers.{runtime_labels}
use Rattle.w_laws.specs.Code.{IsTranslation, own_words}
use Rattle.w_laws.specs.Runtime.{Texts, IsRuntime}
use Rattle.w_laws.specs.Translate.{translated, AllSmall}

-- From any registers the word code halts with what the program halts with, or for want of memory; it does nothing else,
-- and is never stuck.
pub record MeansTheSame (P : TProg) (place : ℕ → ℕ) (W : WProg) (texts : Texts) (R : WRegs) : Type 0 where
  pub forth : (i : ℤ) → Halts P i → Exits place W R 0 (texts.integer i) ⊎ Exits place W R 7 texts.full
  pub back : (status : ℕ) (out : List Written) → Exits place W R status out →
      ((i : ℤ) × Halts P i × (status ≡ 0) × (out ≡ texts.integer i)) ⊎ ((status ≡ 7) × (out ≡ texts.full))
  pub goes_on : NeverSticks place W R

abbrev pub MeaningIsKept : Type 0
MeaningIsKept =
    (P : TProg) → WellFormedProgram P → Accepted P →
    (many : ℕ) (W : WProg) → IsTranslation P many W → (place : ℕ → ℕ) → Places place W →
    (y : Layout) (texts : Texts) → IsRuntime place y many P W texts →
    (R : WRegs) → AreWords R → MeansTheSame P place W texts R

-- Of a program of the code with small tuples and few registers the function gives a translation, whatever the blocks
-- and the words of the runtime.
abbrev pub TranslatedByRules : Type 0
TranslatedByRules =
    (P : TProg) → Whole P → (many : ℕ) → AllSmall many (erase_blocks P) →
    (base size : ℕ) (runtime : List WSeq) (own : List WDatum) →
    length runtime ≡ runtime_labels → length own ≡ own_words many →
    IsTranslation P many (translated base size many runtime own P)
