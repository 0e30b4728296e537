-- The notes that values stand for.
use Rattle.std.specs.Prelude.{ℕ, List, map, Vec}
use Rattle.std.specs.declared.alloc.Global.{Global}
use Rattle.x_listing.specs.Remarks as remarks
use Rattle.x_listing.specs.declared.note.Note.{Note}

abbrev pub texts : List (Vec ℕ Global) → List (List ℕ)
texts ts = map (λ (t : Vec ℕ Global). t.items) ts

abbrev pub note : Note → remarks.Note
note n = record { name = n.name.items; before = texts n.before.items }

abbrev pub notes_of : List Note → List remarks.Note
notes_of ns = map note ns
