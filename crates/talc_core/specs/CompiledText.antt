-- What `compile` promises of the text that it makes.
use Rattle.std.specs.Prelude.{ℕ, List}
use Rattle.f_terms.specs.Tm.{plain}
use Rattle.pipeline.specs.Work.{HasBlocks, SameWeights, WorkWithin}
use Rattle.talc_core.specs.Compiled.{IsCompiled, IsCompiledWithin}
use Rattle.talc_core.specs.Translated.{IsTranslated, IsTranslatedWithin}
use Rattle.talc_core.specs.Made.{IsMadeByPasses, IsMadeByPassesWithin}

-- The target does what the source does, comes of it by the passes' rules, is the one text that the passes make of it,
-- and does the source's work and no other: its blocks are counted, and its instructions that compute, choose, open,
-- jump and halt. A text stands for one term and one program at most, so all parts speak of the same.
pub record CompiledText (source target : List ℕ) : Type 0 where
  pub compiled : IsCompiled source target
  pub translated : IsTranslated source target
  pub made : IsMadeByPasses source target
  pub blocks : HasBlocks (plain compiled.term) compiled.program
  pub weights : SameWeights (plain compiled.term) compiled.program

-- The same within registers 1 to k, where a program with frames has one block more.
pub record CompiledTextWithin (k : ℕ) (source target : List ℕ) : Type 0 where
  pub compiled : IsCompiledWithin k source target
  pub translated : IsTranslatedWithin k source target
  pub made : IsMadeByPassesWithin k source target
  pub work : WorkWithin (plain compiled.compiled.term) compiled.compiled.program
