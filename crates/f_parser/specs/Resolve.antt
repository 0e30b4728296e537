-- Where the resolving of names stops.
use Rattle.std.specs.Prelude.{◌≡◌, ℕ, List, true, false}
use Rattle.f_grammar.specs.Scope.{Use, IsFirstUnbound}
use Rattle.f_parser.specs.declared.resolve.Unresolved.{Unresolved}
use Rattle.f_parser.specs.declared.resolve.Unresolved.TheVariants.{Memory, Value, «Type»}

abbrev pub StopsAt : List ℕ → List Use → Unresolved → Type 0
StopsAt text us Memory = Unit {0}
StopsAt text us (Value s) = (u : Use) × IsFirstUnbound text us u × (u.of_type ≡ false) × (s ≡ u.at)
StopsAt text us («Type» s) = (u : Use) × IsFirstUnbound text us u × (u.of_type ≡ true) × (s ≡ u.at)
