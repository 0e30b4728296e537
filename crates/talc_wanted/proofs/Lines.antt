-- Where a machine stands as it comes to a token, or to the end.
use Rattle.std.proofs.Common.{◌≡◌, ◌<◌, ◌≤◌, ℕ, ◌+◌, List, [], ◌∷◌, drop, length, get_or, slice_get, refl, sym}
use Rattle.std.proofs.Common.{◌∙◌, ap, Option, Some, None, Bool, true, false, if◌then◌else◌, ◌&&◌, not}
use Rattle.std.proofs.Math.ListN.{drop_of_length-le}
use Rattle.std.specs.Borrow.{Bor}
use Rattle.text_core.proofs.Going.{next_is, no_next}
use Rattle.talc_wanted.specs.Owing.{from_top, Advances}
use Rattle.talc_wanted.specs.Wanted.{Machine, goes_on, stop, Kinds, lent, is_told, told}
use Rattle.talc_wanted.proofs.Rows.{lent_next}

module _ {A T : Type 0} (m : Machine (List A) T) (w : List T) (i : ℕ) (old : List A) where
  pub goes_next : (c : T) (new : List A) (b : Bool) → slice_get w i ≡ Some c →
      Advances (m.step (from_top old) c) old new b → b ≡ true →
      stop m (drop i w) (from_top old) ≡ stop m (drop (i + 1) w) (from_top new)
  goes_next c new true e a t =
      ap (λ x. stop m x (from_top old)) (next_is w i c e)
      ∙ ap (λ x. goes_on (stop m (drop (i + 1) w)) (from_top old) (c ∷ drop (i + 1) w) x) a
  goes_next c new false e a t = absurd (cc)

  pub stands_here : (c : T) (new : List A) (b : Bool) → slice_get w i ≡ Some c →
      Advances (m.step (from_top old) c) old new b → b ≡ false →
      stop m (drop i w) (from_top old) ≡ (from_top new, c ∷ drop (i + 1) w)
  stands_here c new true e a t = absurd (cc)
  stands_here c new false e a t =
      ap (λ x. stop m x (from_top old)) (next_is w i c e)
      ∙ (ap (λ x. goes_on (stop m (drop (i + 1) w)) (from_top old) (c ∷ drop (i + 1) w) x) a.0
      ∙ ap (λ x. (from_top x, c ∷ drop (i + 1) w)) (sym a.1))

  pub stands_at_end : slice_get w i ≡ None → stop m (drop i w) (from_top old) ≡ (from_top old, [])
  stands_at_end e = ap (λ x. stop m x (from_top old)) (no_next w i e)

-- the line at the end, by the two tests
pub end_is : {B : Type 0} (b e : Bool) (x y : B) → b ≡ true → e ≡ false → (if b && not e then x else y) ≡ x
end_is b e x y p q = rw (p, q) refl

pub not_the_end : {B : Type 0} (b e : Bool) (x y : B) → b ≡ false → (if b && not e then x else y) ≡ y
not_the_end b e x y p = rw p refl

pub all_may_end : {B : Type 0} (b e : Bool) (x y : B) → e ≡ true → (if b && not e then x else y) ≡ y
all_may_end true e x y q = rw q refl
all_may_end false e x y q = refl

-- the words for one more kind, and behind the last
module _ {S K T : Type 0} (m : Machine S T) (k : Kinds K T) (st : S) (kinds : List (K × Option K × Bor (List ℕ)))
    (i : ℕ) where
  abbrev words_from : ℕ → List (List ℕ)
  words_from n = told m k st (lent (drop n kinds))

  told_one : (it : K × Option K × Bor (List ℕ)) (b : Bool) → i < length kinds → it ≡ get_or kinds i it →
      b ≡ is_told m k st it.0 it.1 →
      words_from i ≡ (if b then it.2.now ∷ words_from (i + 1) else words_from (i + 1))
  told_one it b f is e =
      ap (λ ks. told m k st ks) (lent_next kinds i it f is)
      ∙ ap (λ x. if x then it.2.now ∷ words_from (i + 1) else words_from (i + 1)) (sym e)

  pub told_yes : (it : K × Option K × Bor (List ℕ)) (b : Bool) → i < length kinds → it ≡ get_or kinds i it →
      b ≡ is_told m k st it.0 it.1 → b ≡ true →
      words_from i ≡ it.2.now ∷ words_from (i + 1)
  told_yes it true f is e t = told_one it true f is e
  told_yes it false f is e t = absurd (cc)

  pub told_not : (it : K × Option K × Bor (List ℕ)) (b : Bool) → i < length kinds → it ≡ get_or kinds i it →
      b ≡ is_told m k st it.0 it.1 → b ≡ false → words_from i ≡ words_from (i + 1)
  told_not it true f is e t = absurd (cc)
  told_not it false f is e t = told_one it false f is e

  pub told_last : length kinds ≤ i → words_from i ≡ []
  told_last f = ap (λ s. told m k st (lent s)) (drop_of_length-le kinds f)
