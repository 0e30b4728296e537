-- A line in the making.
use Rattle.std.specs.Prelude.{ℕ, List, ◌++◌, [], if◌then◌else◌}
use Rattle.talc_wanted.specs.declared.listing.Listing.{Listing}
use Rattle.talc_wanted.specs.Wanted.{listed}

-- what is shown where these words are still to come
abbrev pub shown : Listing → List (List ℕ) → List ℕ
shown l ws = l.bytes.items ++ (if l.full then [] else listed l.room ws)
