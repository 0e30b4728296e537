-- When a target text is the one that the passes make of a source text.
use Rattle.std.specs.Prelude.{ℕ, List}
use Rattle.f_terms.specs.Ty.{TInt}
use Rattle.f_terms.specs.Tm.{Term, Tm, plain}
use Rattle.t_terms.specs.Tree.{TProg}
use Rattle.pipeline.specs.Made.{IsMade}
use Rattle.talc_core.specs.FirstFault.{IsChecked}
use Rattle.talc_core.specs.Written.{IsWritten}
use Rattle.talc_core.specs.Translated.{IsTranslationWithin}

-- The source text is a text of a program, and the target text the one that is written of the program that the functions
-- of the passes make of it in turn. This shuts what the rules of the passes leave open, so that one source gives one
-- text (law `OneCompiledText`). Nobody has to read it for what a text means, nor for how it comes of its source.
pub record IsMadeByPasses (source target : List ℕ) : Type 0 where
  pub term : Tm
  pub program : TProg
  pub checked : IsChecked source term TInt
  pub written : IsWritten program target
  pub made : IsMade (plain term) program

-- The program comes of a translation of the term, within registers 1 to k, and that translation is the program that
-- the passes make.
pub record IsMadeWithin (k : ℕ) (e : Term) (P : TProg) : Type 0 where
  pub by_rules : IsTranslationWithin k e P
  pub made : IsMade e by_rules.translated

-- The same of a target text within registers 1 to k: here too one source gives one text (law `OneBoundedText`).
pub record IsMadeByPassesWithin (k : ℕ) (source target : List ℕ) : Type 0 where
  pub term : Tm
  pub program : TProg
  pub checked : IsChecked source term TInt
  pub written : IsWritten program target
  pub made : ∥ IsMadeWithin k (plain term) program ∥₁
