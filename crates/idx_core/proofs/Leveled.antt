-- Levels of names in scope: what they say of places, and how what is kept of them grows and shrinks by a name.
use Rattle.std.proofs.Common.{◌≡◌, ◌≢◌, ℕ, suc, ◌+◌, ◌-◌, ◌<◌, ◌≤◌, List, [], ◌∷◌, length, Option, Some}
use Rattle.std.proofs.Common.{Bool, true, false, if◌then◌else◌, unwrap_or, refl, sym, ◌∙◌, ap, subst, arith}
use Rattle.std.specs.Prelude.{bytes_eq}
use Rattle.std.specs.Cmp.Lexicographic.{bytes_decides, nat_list_eq_equiv}
use Rattle.std.proofs.lemmas.Bool.{false≢true}
use Rattle.idx_core.specs.Names.{Name, IsPlace, IsAbsent}
use Rattle.idx_core.specs.Levels.{level_of, HasLevels, SetsLevel}

-- no level is higher than there are names
pub level_within : (x : Name) (ns : List Name) → level_of x ns ≤ length ns
level_within x [] = omega arith
level_within x (n ∷ ns) = by_test (bytes_eq x n) (level_within x ns)
  where
    by_test : (b : Bool) → level_of x ns ≤ length ns →
        (if b then 1 + length ns else level_of x ns) ≤ length (n ∷ ns)
    by_test true h = omega arith
    by_test false h = omega (arith, h)

-- names that the test tells apart
apart : (x n : Name) → bytes_eq x n ≡ false → x ≢ n
apart x n e same = false≢true (sym e ∙ (bytes_decides x n).1 same)

-- a name without a level is not there
pub absent_without_level : (x : Name) (ns : List Name) → level_of x ns ≡ 0 → IsAbsent x ns
absent_without_level x [] e = tt
absent_without_level x (n ∷ ns) e = by_test (bytes_eq x n) (apart x n) (absent_without_level x ns) e
  where
    by_test : (b : Bool) → (b ≡ false → x ≢ n) → (level_of x ns ≡ 0 → IsAbsent x ns) →
        (if b then 1 + length ns else level_of x ns) ≡ 0 → (x ≢ n) × IsAbsent x ns
    by_test true a h q = absurd (omega (arith, q))
    by_test false a h q = (a refl, h q)

-- one with a level is there, as many places from the innermost as the level is below the highest
pub place_by_level : (x : Name) (ns : List Name) → 0 < level_of x ns → IsPlace x ns (length ns - level_of x ns)
place_by_level x [] l = absurd (omega (arith, l))
place_by_level x (n ∷ ns) l =
    by_test (bytes_eq x n) (bytes_decides x n).0 (apart x n) (place_by_level x ns) (level_within x ns) l
  where
    by_test : (b : Bool) → (b ≡ true → x ≡ n) → (b ≡ false → x ≢ n) →
        (0 < level_of x ns → IsPlace x ns (length ns - level_of x ns)) → level_of x ns ≤ length ns →
        0 < (if b then 1 + length ns else level_of x ns) →
        IsPlace x (n ∷ ns) (length (n ∷ ns) - (if b then 1 + length ns else level_of x ns))
    by_test true s a h w q =
        let e : 0 ≡ length (n ∷ ns) - (1 + length ns) = omega arith in
        subst (IsPlace x (n ∷ ns)) e (s refl)
    by_test false s a h w q =
        let e : suc (length ns - level_of x ns) ≡ length (n ∷ ns) - level_of x ns = omega (arith, w) in
        subst (IsPlace x (n ∷ ns)) e (a refl, h q)

module _ (before after : Name → Option ℕ) (ns : List Name) (name : Name) where
  -- a name is bound at the level above all
  pub levels_pushed : (level : ℕ) → HasLevels before ns → level ≡ 1 + length ns →
      SetsLevel before after name level → HasLevels after (name ∷ ns)
  levels_pushed level h e u x =
      rw (u x, nat_list_eq_equiv.symm x name) (by_test (bytes_eq name x) e (h x))
    where
      by_test : (b : Bool) → level ≡ 1 + length ns → unwrap_or (before x) 0 ≡ level_of x ns →
          unwrap_or (if b then Some level else before x) 0 ≡ (if b then 1 + length ns else level_of x ns)
      by_test true p q = p
      by_test false p q = q

  -- the innermost name goes, and its spelling has the level that it had before
  pub levels_popped : (hidden : ℕ) → HasLevels before (name ∷ ns) → hidden ≡ level_of name ns →
      SetsLevel before after name hidden → HasLevels after ns
  levels_popped hidden h e u x =
      rw (u x) (by_test (bytes_eq name x) refl (nat_list_eq_equiv.symm x name) (h x))
    where
      by_test : (b : Bool) → bytes_eq name x ≡ b → bytes_eq x name ≡ bytes_eq name x →
          unwrap_or (before x) 0 ≡ (if bytes_eq x name then 1 + length ns else level_of x ns) →
          unwrap_or (if b then Some hidden else before x) 0 ≡ level_of x ns
      by_test true p q r = e ∙ ap (λ (n : Name). level_of n ns) ((bytes_decides name x).0 p)
      by_test false p q r = rw (q ∙ p) at r

-- a name that is bound has a level
pub bound_has_level : (kept : Name → Option ℕ) (name : Name) (ns : List Name) → HasLevels kept (name ∷ ns) →
    0 < unwrap_or (kept name) 0
bound_has_level kept name ns h =
    let q = rw (nat_list_eq_equiv.refl name) at (h name) in omega (arith, q)
