-- Lists, item by item.
use Rattle.std.proofs.Common.{◌≡◌, ◌++◌, ◌∷◌, ◌+◌, ◌<◌, ◌∙◌, ℕ, zero, suc, List, [], length, get_or, take, drop}
use Rattle.std.proofs.Common.{slice_get, slice_set, All, Some, refl, sym, ap, subst, arith, add-one, drop-cons}
use Rattle.std.proofs.lemmas.List.Elements.{All-get_or, All-more}

pub next_item : {A : Type 0} (xs : List A) (i : ℕ) (x : A) → x ≡ get_or xs i x → i < length xs →
    drop i xs ≡ x ∷ drop (i + 1) xs
next_item {A} xs i x is lt = rw add-one (drop-cons xs i x lt ∙ ap (λ (y : A). y ∷ drop (suc i) xs) (sym is))

pub item_has : {A : Type 0} (P : A → Type 0) (xs : List A) (i : ℕ) (x : A) → x ≡ get_or xs i x → i < length xs →
    All P xs → P x
item_has P xs i x is lt all = subst P (sym is) (All-get_or P xs i x lt all)

pub items_more : {A : Type 0} (P : A → Type 0) (xs : List A) (i : ℕ) (x : A) → x ≡ get_or xs i x → i < length xs →
    All P (take i xs) → P x → All P (take (i + 1) xs)
items_more P xs i x is lt all h = All-more P xs i x lt all (subst P is h)

pub item : {A : Type 0} (xs : List A) (i : ℕ) (d : A) → i < length xs → get_or xs i d ≡ get_or xs i (get_or xs i d)
item xs i d l = same xs i d (get_or xs i d) l
  where
    same : {A : Type 0} (xs : List A) (i : ℕ) (d e : A) → i < length xs → get_or xs i d ≡ get_or xs i e
    same [] i d e l = absurd (omega (arith, l))
    same (x ∷ xs) zero d e l = refl
    same (x ∷ xs) (suc i) d e l = same xs i d e (omega (arith, l))

pub set_same : {A : Type 0} (xs : List A) (i : ℕ) (y z : A) → slice_get xs i ≡ Some y →
    slice_get (slice_set xs i z) i ≡ Some z
set_same [] i y z e = cc
set_same (x ∷ xs) zero y z e = refl
set_same (x ∷ xs) (suc i) y z e = set_same xs i y z e

pub set_length : {A : Type 0} (xs : List A) (i : ℕ) (z : A) → length (slice_set xs i z) ≡ length xs
set_length [] i z = refl
set_length (x ∷ xs) zero z = refl
set_length (x ∷ xs) (suc i) z = ap suc (set_length xs i z)

pub get_front : {A : Type 0} (xs ys : List A) (i : ℕ) (x : A) → slice_get xs i ≡ Some x →
    slice_get (xs ++ ys) i ≡ Some x
get_front [] ys i x e = cc
get_front (y ∷ xs) ys zero x e = e
get_front (y ∷ xs) ys (suc i) x e = get_front xs ys i x e

pub taken_all : {A : Type 0} (xs ys : List A) → take (length xs) (xs ++ ys) ≡ xs
taken_all [] ys = nothing ys
  where
    nothing : {A : Type 0} (zs : List A) → take 0 zs ≡ []
    nothing zs = refl
taken_all (x ∷ xs) ys = ap (λ z. x ∷ z) (taken_all xs ys)
