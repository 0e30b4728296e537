-- What a command does that reads a text from a file and writes to another what it makes of it.
use Rattle.std.proofs.Common.{◌≡◌, ◌∙◌, ℕ, List, Ok, Err, ap, sym, subst, inr}
use Rattle.io_core.specs.Outside.{FilesState, Holds, Writing, Faulted, SameBut, with_call, with_file}
use Rattle.talc_core.specs.declared.report.Failure.{Failure}
use Rattle.talc_core.specs.declared.report.Failure.TheVariants.{Refused, Read, Write, Memory}
use Rattle.talc_core.specs.declared.reply.Ending.TheVariants.{Ends}
use Rattle.talc_core.specs.FirstFault.{Need}
use Rattle.talc_core.specs.Headline.{AtMostRead, ReadAlone, Unwritten}
use Rattle.talc_core.specs.OnTexts.{Making}
use Rattle.talc_core.specs.Steps.{MakesFile, WritesOutput}

module _ (Makes : Making) (need : Need) (input output source target : List ℕ) (old mid new : FilesState)
    (read : Holds old.told input source × Unwritten old mid × ReadAlone input old mid) (makes : Makes source target)
  where
    pub file_made : WritesOutput output target mid new (Ok tt) → MakesFile Makes need input output old new (Ok Ends)
    file_made written = (
      source,
      target,
      read.0,
      makes,
      written.0 ∙ ap (λ t. with_file t output target) read.1.0,
      written.2 ∙ ap (λ k. with_call k (Writing output target)) read.2,
    )

    pub file_not_made : (why : Failure) → WritesOutput output target mid new (Err why) →
        MakesFile Makes need input output old new (Err why)
    file_not_made Write failed = (
      source,
      target,
      read.0,
      makes,
      subst (λ n. Faulted n new.writes) read.1.1 failed.0,
      subst (λ t. SameBut output t new.told) read.1.0 failed.1,
      failed.3 ∙ ap (λ k. with_call k (Writing output target)) read.2,
    )
    file_not_made Memory same = subst (λ f. Unwritten old f × AtMostRead input old f) (sym same) (read.1, inr read.2)
    file_not_made Read never = absurd never
    file_not_made (Refused fault) never = absurd never
