-- Examples of the rules of failing calls.
use Rattle.std.proofs.Common.{◌≡◌, [], ◌∷◌, Some, None, refl}
use Rattle.io_core.specs.Outside.{last_count}
use Rattle.io_core.specs.Failing.{failing_at, counted}

-- a call that no pair names does not fail
unlisted : failing_at ((1, 4) ∷ []) 0 ≡ None
unlisted = refl

-- the second number of a pair is how much the failing call takes
listed : failing_at ((1, 4) ∷ []) 1 ≡ Some 4
listed = refl

-- the first pair decides
listed_twice : failing_at ((3, 5) ∷ (1, 2) ∷ (1, 9) ∷ []) 1 ≡ Some 2
listed_twice = refl

-- a counter rises by one
rises : counted 0 ≡ 1
rises = refl

-- a counter stays at its last value
stays : counted last_count ≡ last_count
stays = refl
