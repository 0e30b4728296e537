-- How a stack of names is kept: the names one after the other, where each starts, and the levels of their spellings.
use Rattle.std.specs.Prelude.{◌≡◌, ℕ, ◌≤◌, List, [], ◌∷◌, length, take, drop, Option, Vec}
use Rattle.std.specs.BTreeMap.{BTreeMap, get_by}
use Rattle.std.specs.Cmp.Lexicographic.{slice_cmp}
use Rattle.std.specs.Ordering.{nat_cmp}
use Rattle.std.specs.declared.alloc.Global.{Global}
use Rattle.idx_core.specs.Names.{Name}
use Rattle.idx_core.specs.Levels.{level_of}
use Rattle.idx_core.specs.declared.names.Bound.{Bound}

-- the names that stand one after the other in the bytes, by where they start, the last first
abbrev pub names_at : List ℕ → List Bound → List Name
names_at bytes [] = []
names_at bytes (b ∷ bs) = drop b.start bytes ∷ names_at (take b.start bytes) bs

-- each name starts within the bytes up to its end, and hides the level that its spelling has without it
abbrev pub AreBound : List ℕ → List Bound → Type 0
AreBound bytes [] = Unit {0}
AreBound bytes (b ∷ bs) =
    (b.start ≤ length bytes) × (b.hidden ≡ level_of (drop b.start bytes) (names_at (take b.start bytes) bs))
    × AreBound (take b.start bytes) bs

-- the level that the map has for a spelling
abbrev pub kept_level : BTreeMap (Vec ℕ Global) ℕ → Name → Option ℕ
kept_level levels x = get_by (λ k. slice_cmp nat_cmp x k.items) levels
