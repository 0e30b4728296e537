-- Hoisted values and allocated words; variables by level, and the constants that they name; data in the heap.
use Rattle.std.proofs.Common.{◌≡◌, ◌<◌, ℕ, zero, suc, ◌-◌, List, [], ◌∷◌, ◌++◌, length, Option, Some, refl, ap}
use Rattle.std.proofs.Common.{◌∙◌, arith}
use Rattle.std.specs.Prelude.{map, slice_get, slice_set}
use Rattle.a_terms.specs.Meaning.{AHeap, AWord, ZInt, ZLabel, ZTuple, datum}
use Rattle.a_terms.specs.Tree.{AConsts}
use Rattle.calc_core.specs.Words.{WInt, WTuple, WCode, WCell, NoWords, MoreWords, size, held}
use Rattle.h_terms.specs.Meaning.{HWord, HWords}

-- no cell has this address; m: the address of each cell, by place
abbrev pub Apart : List ℕ → ℕ → Type 0
Apart m a = (p : ℕ) → slice_get m p ≡ Some a → ⊥

abbrev mutual
  pub Rel : List ℕ → AHeap → HWord → AWord → Type 0
  Rel m h (WInt n) w = w ≡ ZInt n
  Rel m h (WTuple ys) w =
      (a : ℕ) × (ws : List AWord) × (w ≡ ZTuple a) × (slice_get h a ≡ Some (map Some ws)) × Apart m a × Rels m h ys ws
  Rel m h (WCode l env) w = w ≡ ZLabel l
  Rel m h (WCell p) w = (a : ℕ) × (w ≡ ZTuple a) × (slice_get m p ≡ Some a)

  pub Rels : List ℕ → AHeap → HWords → List AWord → Type 0
  Rels m h NoWords ws = ws ≡ []
  Rels m h (MoreWords y ys) ws = (x : AWord) × (xs : List AWord) × (ws ≡ x ∷ xs) × Rel m h y x × Rels m h ys xs

-- the heap grows, and nothing in it changes
abbrev pub Grows : AHeap → AHeap → Type 0
Grows h h2 = (a : ℕ) (fs : List (Option AWord)) → slice_get h a ≡ Some fs → slice_get h2 a ≡ Some fs

-- the heap and the cells grow, and nothing but cells changes
pub record Moves (m : List ℕ) (h : AHeap) (m2 : List ℕ) (h2 : AHeap) : Type 0 where
  pub cells : (p a : ℕ) → slice_get m p ≡ Some a → slice_get m2 p ≡ Some a
  pub tuples : (a : ℕ) (fs : List (Option AWord)) → slice_get h a ≡ Some fs → Apart m a → slice_get h2 a ≡ Some fs
  pub apart : (a : ℕ) (fs : List (Option AWord)) → slice_get h a ≡ Some fs → Apart m a → Apart m2 a

mutual
  pub rel_moves : (y : HWord) (w : AWord) (m m2 : List ℕ) (h h2 : AHeap) → Moves m h m2 h2 → Rel m h y w → Rel m2 h2 y w
  rel_moves (WInt n) w m m2 h h2 g r = r
  rel_moves (WTuple ys) w m m2 h h2 g r = (
    r.0,
    r.1,
    r.2,
    g.tuples r.0 (map Some r.1) r.3 r.4,
    g.apart r.0 (map Some r.1) r.3 r.4,
    rels_move ys r.1 m m2 h h2 g r.5,
  )
  rel_moves (WCode l env) w m m2 h h2 g r = r
  rel_moves (WCell p) w m m2 h h2 g r = (r.0, r.1, g.cells p r.0 r.2)

  pub rels_move : (ys : HWords) (ws : List AWord) (m m2 : List ℕ) (h h2 : AHeap) → Moves m h m2 h2 → Rels m h ys ws →
      Rels m2 h2 ys ws
  rels_move NoWords ws m m2 h h2 g r = r
  rels_move (MoreWords y ys) ws m m2 h h2 g r =
      (r.0, r.1, r.2, rel_moves y r.0 m m2 h h2 g r.3, rels_move ys r.1 m m2 h h2 g r.4)

pub moves_grow : (m : List ℕ) (h h2 : AHeap) → Grows h h2 → Moves m h m h2
moves_grow m h h2 g = record { cells = λ p a e. e; tuples = λ a fs e k. g a fs e; apart = λ a fs e k. k }

pub moves_on : (m m2 m3 : List ℕ) (h h2 h3 : AHeap) → Moves m h m2 h2 → Moves m2 h2 m3 h3 → Moves m h m3 h3
moves_on m m2 m3 h h2 h3 x y = record {
  cells = λ p a e. y.cells p a (x.cells p a e);
  tuples = λ a fs e k. y.tuples a fs (x.tuples a fs e k) (x.apart a fs e k);
  apart = λ a fs e k. y.apart a fs (x.tuples a fs e k) (x.apart a fs e k);
}

pub rel_grows : (y : HWord) (w : AWord) (m : List ℕ) (h h2 : AHeap) → Grows h h2 → Rel m h y w → Rel m h2 y w
rel_grows y w m h h2 g r = rel_moves y w m m h h2 (moves_grow m h h2 g) r

pub rels_grow : (ys : HWords) (ws : List AWord) (m : List ℕ) (h h2 : AHeap) → Grows h h2 → Rels m h ys ws →
    Rels m h2 ys ws
rels_grow ys ws m h h2 g r = rels_move ys ws m m h h2 (moves_grow m h h2 g) r

-- the data are the heap's first tuples, and no cell is one of them
abbrev pub Holds : List AConsts → List ℕ → AHeap → Type 0
Holds D m h = (n : ℕ) (x : AConsts) → slice_get D n ≡ Some x → (slice_get h n ≡ Some (datum x)) × Apart m n

pub holds_moves : (D : List AConsts) (m m2 : List ℕ) (h h2 : AHeap) → Moves m h m2 h2 → Holds D m h → Holds D m2 h2
holds_moves D m m2 h h2 g k n x e = let r = k n x e in (g.tuples n (datum x) r.0 r.1, g.apart n (datum x) r.0 r.1)

-- each cell's address is one of the heap's
pub record Valid (D : List AConsts) (m : List ℕ) (h : AHeap) : Type 0 where
  pub cells : (p a : ℕ) → slice_get m p ≡ Some a → (fs : List (Option AWord)) × (slice_get h a ≡ Some fs)
  pub kept : Holds D m h

pub nth_end : {A : Type 0} (xs : List A) (x : A) → slice_get xs (length xs) ≡ Some x → ⊥
nth_end [] x e = cc
nth_end (y ∷ xs) x e = nth_end xs x e

-- a new address
pub fresh : (D : List AConsts) (m : List ℕ) (h : AHeap) → Valid D m h → Apart m (length h)
fresh D m h k p e = let r = k.cells p (length h) e in nth_end h r.0 r.1

-- the store: cell p holds what stands for place p's value
pub record Stores (D : List AConsts) (m : List ℕ) (h : AHeap) (st : HWords) : Type 0 where
  pub long : length m ≡ size st
  pub holds : (p : ℕ) (y : HWord) → held p st ≡ Some y → (a : ℕ) × (w : AWord) × (slice_get m p ≡ Some a)
      × (slice_get h a ≡ Some (Some w ∷ [])) × Rel m h y w
  pub kept : Holds D m h
  pub once : (p q a : ℕ) → slice_get m p ≡ Some a → slice_get m q ≡ Some a → p ≡ q

-- x has level l among d
abbrev pub At : {A : Type 0} → ℕ → List A → ℕ → A → Type 0
At d xs l x = (l < d) × (slice_get xs (d - suc l) ≡ Some x)

pub at_more : {A : Type 0} (d : ℕ) (xs : List A) (l : ℕ) (x y : A) → At d xs l x → At (suc d) (y ∷ xs) l x
at_more d xs l x y a =
    let e : d - l ≡ suc (d - suc l) = omega (arith, a.0) in
    let f : suc d - suc l ≡ suc (d - suc l) = omega (arith, a.0) in
    let b : l < suc d = omega (arith, a.0) in
    (b, ap (slice_get (y ∷ xs)) f ∙ a.1)

pub at_new : {A : Type 0} (d : ℕ) (xs : List A) (y : A) → At (suc d) (y ∷ xs) d y
at_new d xs y =
    let f : suc d - suc d ≡ 0 = omega arith in
    let b : d < suc d = omega arith in
    (b, ap (slice_get (y ∷ xs)) f)

-- every level's word stays
abbrev pub Later : {A : Type 0} → ℕ → List A → ℕ → List A → Type 0
Later {A} d xs d2 xs2 = (l : ℕ) (x : A) → At d xs l x → At d2 xs2 l x

-- lists
pub nth_seam : {A : Type 0} (xs ys : List A) (y : A) (i : ℕ) → i ≡ length xs → slice_get (xs ++ y ∷ ys) i ≡ Some y
nth_seam [] ys y zero e = refl
nth_seam [] ys y (suc i) e = absurd (omega arith)
nth_seam (x ∷ xs) ys y zero e = absurd (omega arith)
nth_seam (x ∷ xs) ys y (suc i) e = nth_seam xs ys y i (omega arith)

pub put_seam : {A : Type 0} (xs ys : List A) (y z : A) (i : ℕ) → i ≡ length xs →
    slice_set (xs ++ y ∷ ys) i z ≡ xs ++ z ∷ ys
put_seam [] ys y z zero e = refl
put_seam [] ys y z (suc i) e = absurd (omega arith)
put_seam (x ∷ xs) ys y z zero e = absurd (omega arith)
put_seam (x ∷ xs) ys y z (suc i) e = ap (λ q. x ∷ q) (put_seam xs ys y z i (omega arith))
