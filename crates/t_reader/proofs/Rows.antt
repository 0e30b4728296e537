-- Levels of names in scope, worked: `a` and then `b` and `a` were bound, so the innermost `a` hides level 1.
use Rattle.std.proofs.Common.{◌≡◌, List, [], ◌∷◌, codes, refl, Bor}
use Rattle.idx_core.specs.Names.{Name}
use Rattle.idx_core.specs.Levels.{level_of}
use Rattle.t_reader.specs.Levels.{Bound, names_of, KeepsHidden}

abbrev at : Name → Bor Name
at name = record { ref_ptr = (0, 0); now = name }

abbrev three : List Bound
three = (at (codes "a"), 1) ∷ ((at (codes "b"), 0) ∷ ((at (codes "a"), 0) ∷ []))

innermost_first : names_of three ≡ codes "a" ∷ (codes "b" ∷ (codes "a" ∷ []))
innermost_first = refl

level_of_innermost : level_of (codes "a") (names_of three) ≡ 3
level_of_innermost = refl

level_of_only : level_of (codes "b") (names_of three) ≡ 2
level_of_only = refl

level_of_none : level_of (codes "c") (names_of three) ≡ 0
level_of_none = refl

hidden : KeepsHidden three
hidden = (refl, (refl, (refl, tt)))
