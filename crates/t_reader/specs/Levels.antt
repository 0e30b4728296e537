-- How the type names in scope are kept: by the levels of their spellings.
use Rattle.std.specs.Prelude.{◌≡◌, ℕ, List, [], ◌∷◌, map, Option, bytes_eq}
use Rattle.std.specs.Borrow.{Bor}
use Rattle.idx_core.specs.Names.{Name}
use Rattle.idx_core.specs.Levels.{level_of}
use Rattle.indexmap.specs.IndexMap.{IndexMap, get_by}

-- a name as it is bound, and the level that it hides
abbrev pub Bound : Type 0
Bound = Bor (List ℕ) × ℕ

abbrev pub names_of : List Bound → List Name
names_of bs = map (λ b. b.0.now) bs

-- each hides the level that its name had without it
abbrev pub KeepsHidden : List Bound → Type 0
KeepsHidden [] = Unit {0}
KeepsHidden (b ∷ bs) = (b.1 ≡ level_of b.0.now (names_of bs)) × KeepsHidden bs

-- the level that the map has for a spelling
abbrev pub kept_level : {S : Type 0} → IndexMap (Bor (List ℕ)) ℕ S → Name → Option ℕ
kept_level levels x = get_by (λ k. bytes_eq x k.now) levels
