use Rattle.listing.proofs.Steps.{StepsLeft}
use Rattle.listing.specs.Writing.{IsLister, OfTheSame, program_of, text_of}
use Rattle.listing.proofs.lister.Lister.write_steps.Given as goal

abbrev pub invariant-loop-i : goal.invariant-loop-i
invariant-loop-i l = record {
  lister : IsLister l.self;
  same : OfTheSame l.initial.self l.self;
  left : StepsLeft (text_of l.initial.self) (program_of l.initial.self) l.block l.initial.page.items l.steps l.i
      l.page.items;
}
