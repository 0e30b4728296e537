-- The laws of programs, of their erasure and of tuples that are not kept that the translation stands on.
use Rattle.t_rules.specs.LawsSound.{HaltingIsLast, OneAnswer}
use Rattle.t_rules.specs.LawsErased.{ErasedStarts, ErasedGoes, ErasedNext, ErasedHaltsAlike}
use Rattle.t_collect.specs.Kept.{KeptFollows}
use Rattle.t_collect.specs.Dropped.{KeptDrops}

pub record ProgramLaws : Type 0 where
  pub starts : ErasedStarts
  pub goes : ErasedGoes
  pub next : ErasedNext
  pub halts : ErasedHaltsAlike
  pub last : HaltingIsLast
  pub answer : OneAnswer
  pub follows : KeptFollows
  pub drops : KeptDrops
