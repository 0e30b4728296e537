-- The laws of programs and of their erasure that the machine stands on.
use Rattle.t_rules.specs.LawsSound.{NeverStuck, OneRun, HaltingIsLast, OneAnswer}
use Rattle.t_rules.specs.LawsErased.{ErasedStarts, StandsAt, ErasedGoes, ErasedNext, ErasedHaltsAlike}
use Rattle.t_collect.specs.Kept.{KeptFollows}
use Rattle.t_collect.specs.Dropped.{KeptDrops}

pub record ProgramLaws : Type 0 where
  pub stuck : NeverStuck
  pub one : OneRun
  pub last : HaltingIsLast
  pub answers : OneAnswer
  pub starts : ErasedStarts
  pub stands : StandsAt
  pub goes : ErasedGoes
  pub next : ErasedNext
  pub alike : ErasedHaltsAlike
  pub follows : KeptFollows
  pub drops : KeptDrops
