-- The text of a path, step by step, and that it is short.
use Rattle.std.proofs.Common.{◌≡◌, ℕ, ◌+◌, ◌-◌, ◌<◌, ◌≤◌, nat_le, Bool, true, false, List, [], ◌∷◌, ◌++◌, length, refl}
use Rattle.std.proofs.Common.{suc, get_or, take, sym, ap, ◌∙◌, subst, codes, if◌then◌else◌, arith, length-append}
use Rattle.std.proofs.Common.{append_assoc}
use Rattle.std.proofs.lemmas.List.{append-nil}
use Rattle.std.proofs.lemmas.Bool.{leb-true, le-leb, lt-leb}
use Rattle.type_path.specs.Paths.{Path, path_of}
use Rattle.type_path.proofs.Steps.{path_from}
use Rattle.type_path.specs.declared.step.Step.{Step}
use Rattle.talc_faults.specs.Apart.{step_text, steps_text, path_text, names_inside, names_at}

-- a step that has room
pub step_told : (room : ℕ) (before : List ℕ) (s : Step) (p : Path) (piece : List ℕ) → piece ≡ before ++ step_text s →
    length piece ≤ room →
    steps_text room before (s ∷ p) ≡ piece ++ steps_text (room - length piece) (codes ", then ") p
step_told room before s p piece e =
    subst (λ x. length x ≤ room → steps_text room before (s ∷ p)
    ≡ x ++ steps_text (room - length x) (codes ", then ") p) (sym e) (λ le. rw (le-leb _ _ le) refl)

-- and one that has none
pub step_left : (room : ℕ) (before : List ℕ) (s : Step) (p : Path) (piece : List ℕ) → piece ≡ before ++ step_text s →
    room < length piece → steps_text room before (s ∷ p) ≡ before ++ codes ".."
step_left room before s p piece e =
    subst (λ x. room < length x → steps_text room before (s ∷ p) ≡ before ++ codes "..") (sym e)
    (λ lt. rw (lt-leb _ _ lt) refl)

-- of a path that is held, the last of n steps is told, and i are left
module _ (text : List ℕ) (room : ℕ) (before : List ℕ) (path : List Step) (n i : ℕ) (d : Step) (same : n ≡ suc i)
    (there : i < length path) (piece : List ℕ) (is : piece ≡ before ++ step_text (get_or path i d)) where
  abbrev left : Path
  left = path_of (take i path)

  from : path_of (take n path) ≡ get_or path i d ∷ left
  from = ap (λ m. path_of (take m path)) same ∙ path_from path i d there

  pub told_on : (new whole : List ℕ) → length piece ≤ room → new ≡ text ++ piece →
      text ++ steps_text room before (path_of (take n path)) ≡ whole →
      new ++ steps_text (room - length piece) (codes ", then ") left ≡ whole
  told_on new whole le e h =
      let rest = steps_text (room - length piece) (codes ", then ") left in
      let told = ap (steps_text room before) from ∙ step_told room before (get_or path i d) left piece is le in
      ap (λ x. x ++ rest) e ∙ append_assoc text piece rest ∙ sym (ap (λ x. text ++ x) told) ∙ h

  pub left_out : (new whole : List ℕ) → room < length piece → new ≡ text ++ (before ++ codes "..") →
      text ++ steps_text room before (path_of (take n path)) ≡ whole → new ≡ whole
  left_out new whole lt e h =
      let told = ap (steps_text room before) from ∙ step_left room before (get_or path i d) left piece is lt in
      e ∙ sym (ap (λ x. text ++ x) told) ∙ h

-- all steps are told
pub all_told : (text : List ℕ) (room : ℕ) (before : List ℕ) (path : List Step) (n : ℕ) (whole : List ℕ) → n ≡ 0 →
    text ++ steps_text room before (path_of (take n path)) ≡ whole → text ≡ whole
all_told text room before path n whole none h =
    sym (append-nil text) ∙ ap (λ m. text ++ steps_text room before (path_of (take m path))) (sym none) ∙ h

-- the names behind the last of n steps
pub names_on : (names inner : ℕ) (path : List Step) (n i : ℕ) (d : Step) (whole : ℕ) → n ≡ suc i → i < length path →
    inner ≡ names_inside names (get_or path i d) → names_at names (path_of (take n path)) ≡ whole →
    names_at inner (path_of (take i path)) ≡ whole
names_on names inner path n i d whole same there is h =
    ap (λ m. names_at m (path_of (take i path))) is
    ∙ sym (ap (λ m. names_at names (path_of (take m path))) same ∙ ap (names_at names) (path_from path i d there)) ∙ h

short_at : (x : Bool) (room : ℕ) (piece rest before : List ℕ) → (x ≡ true → length piece ≤ room) →
    length rest ≤ room - length piece + 9 → length before ≤ 7 →
    length (if x then piece ++ rest else before ++ codes "..") ≤ room + 9
short_at true room piece rest before fits short words =
    omega (arith, length-append piece rest, fits refl, short)
short_at false room piece rest before fits short words = omega (arith, length-append before (codes ".."), words)

short : (p : Path) (room : ℕ) (before : List ℕ) → length before ≤ 7 → length (steps_text room before p) ≤ room + 9
short [] room before words = omega arith
short (s ∷ p) room before words =
    let piece = before ++ step_text s in
    short_at (nat_le (length piece) room) room piece (steps_text (room - length piece) (codes ", then ") p) before
    (leb-true (length piece) room) (short p (room - length piece) (codes ", then ") (omega arith)) words

pub path_is_short : (p : Path) → length (path_text p) ≤ 100
path_is_short p =
    let steps = short p 89 (codes " ") (omega arith) in
    omega (arith, length-append (codes "at") (steps_text 89 (codes " ") p), steps)
