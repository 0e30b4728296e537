-- Levels of names in scope: what they say of places, and what a change of the map of levels leaves.
use Rattle.std.proofs.Common.{◌≡◌, ℕ, ◌+◌, ◌-◌, ◌<◌, List, [], ◌∷◌, length, refl, Some}
use Rattle.std.proofs.Common.{Bool, true, false, not, ◌||◌, if◌then◌else◌, arith, Bor}
use Rattle.std.specs.Prelude.{bytes_eq}
use Rattle.std.proofs.lemmas.Map.Text.{hash_map_updates_str}
use Rattle.idx_core.specs.Names.{Name}
use Rattle.idx_core.specs.Levels.{level_of, SetsLevel}
use Rattle.idx_core.proofs.Leveled.{level_within}
use Rattle.indexmap.specs.IndexMap.{IndexMap, UpdatesBy}
use Rattle.t_text.specs.Names.{is_among, index_in}
use Rattle.t_reader.specs.Levels.{kept_level}

-- a name without a level is not there
pub no_level : (x : Name) (ns : List Name) → level_of x ns ≡ 0 → is_among x ns ≡ false
no_level x [] e = refl
no_level x (n ∷ ns) e = by_test (bytes_eq x n) (no_level x ns) e
  where
    by_test : (b : Bool) → (level_of x ns ≡ 0 → is_among x ns ≡ false) →
        (if b then 1 + length ns else level_of x ns) ≡ 0 → (b || is_among x ns) ≡ false
    by_test true h q = absurd (omega (arith, q))
    by_test false h q = h q

-- one with a level is there, as many places from the innermost as the level is below the highest
pub place_by_level : (x : Name) (ns : List Name) → 0 < level_of x ns →
    (is_among x ns ≡ true) × (index_in x ns ≡ length ns - level_of x ns)
place_by_level x [] l = absurd (omega (arith, l))
place_by_level x (n ∷ ns) l = by_test (bytes_eq x n) (place_by_level x ns) l
  where
    by_test : (b : Bool) →
        (0 < level_of x ns → (is_among x ns ≡ true) × (index_in x ns ≡ length ns - level_of x ns)) →
        0 < (if b then 1 + length ns else level_of x ns) →
        ((b || is_among x ns) ≡ true)
        × ((if not b then 1 + index_in x ns else 0) ≡ length (n ∷ ns) - (if b then 1 + length ns else level_of x ns))
    by_test true h q = (refl, omega arith)
    by_test false h q = let p = h q in let w = level_within x ns in (p.0, omega (arith, p.1, w))

-- a change of the map at a name sets its level
pub level_set : {S : Type 0} (old new : IndexMap (Bor (List ℕ)) ℕ S) (name : Bor (List ℕ)) (level : ℕ) →
    UpdatesBy (λ x y. bytes_eq x.now y.now) (λ k. bytes_eq name.now k.now) old new (Some level) →
    SetsLevel (kept_level old) (kept_level new) name.now level
level_set old new name level updates x = hash_map_updates_str name.now old new (Some level) updates x
