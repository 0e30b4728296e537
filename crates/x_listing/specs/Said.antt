-- What was said so far, as a value has it.
use Rattle.x_listing.specs.Notes as spec
use Rattle.x_listing.specs.Read.{notes_of, texts}
use Rattle.x_listing.specs.declared.walk.Work.{Work}

abbrev pub work_of : Work → spec.Work
work_of w = record {
  firsts = notes_of w.firsts.items;
  rest = notes_of w.rest.items;
  beside = w.beside;
  name = w.name.items;
  before = texts w.before.items;
}
