-- When a target text comes of a source text by the passes' rules.
use Rattle.std.specs.Prelude.{◌≡◌, ℕ, List}
use Rattle.f_terms.specs.Ty.{TInt}
use Rattle.f_terms.specs.Tm.{Term, Tm, plain}
use Rattle.t_terms.specs.Tree.{TProg}
use Rattle.t_spill_laws.specs.Bound.{RegistersUpTo}
use Rattle.t_spill_rules.specs.Spill.{spilled}
use Rattle.pipeline.specs.Compilation.{IsTranslation}
use Rattle.pipeline.specs.Work.{WorkByBound}
use Rattle.talc_core.specs.FirstFault.{IsChecked}
use Rattle.talc_core.specs.Written.{IsWritten}

-- The source text is a text of a program, and the target text the one that is written of a translation of it by the
-- rules of the passes in turn. No function of a pass is named. By a law of `pipeline` whatever is a translation and is
-- accepted means the same.
pub record IsTranslated (source target : List ℕ) : Type 0 where
  pub term : Tm
  pub program : TProg
  pub checked : IsChecked source term TInt
  pub written : IsWritten program target
  pub translation : ∥ IsTranslation (plain term) program ∥₁

-- The program is a translation of the term where that names no register above k, and else what it is spilled to; by
-- that it has the work of the one or of the other. No function of a pass is named but that one (`spilled`).
pub record IsTranslationWithin (k : ℕ) (e : Term) (P : TProg) : Type 0 where
  pub translated : TProg
  pub translation : IsTranslation e translated
  pub stays : RegistersUpTo k translated → P ≡ translated
  pub framed : (RegistersUpTo k translated → ⊥) → P ≡ spilled k translated
  pub work : WorkByBound k e translated P

-- The same of a target text within registers 1 to k.
pub record IsTranslatedWithin (k : ℕ) (source target : List ℕ) : Type 0 where
  pub term : Tm
  pub program : TProg
  pub checked : IsChecked source term TInt
  pub written : IsWritten program target
  pub translation : ∥ IsTranslationWithin k (plain term) program ∥₁
