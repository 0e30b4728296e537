-- The names that are written: each stands for the number that it is written for.
use Rattle.std.proofs.Common.{◌≡◌, ◌≢◌, ◌≤◌, ◌<◌, ◌^◌, ℕ, zero, suc, ◌+◌, ◌-◌, List, [], ◌∷◌, ◌++◌, Bool, true, false}
use Rattle.std.proofs.Common.{refl, sym, ap, ◌∙◌, arith, subst, decimal, add-one, Some, if◌then◌else◌}
use Rattle.std.specs.Str.{bytes_eq}
use Rattle.std.proofs.lemmas.Slice.Eq.{bytes_eq-Decides}
use Rattle.std.proofs.lemmas.Fmt.{decimal_injective}
use Rattle.idx_core.specs.Names.{Name}
use Rattle.t_terms.specs.Tree.{Label, Data}
use Rattle.t_text.specs.Names.{Labels, is_among, index_in, named_by}

abbrev pub type_name : ℕ → Name
type_name n = 84 ∷ decimal n

abbrev pub label_name : ℕ → Name
label_name n = 76 ∷ decimal n

abbrev pub data_name : ℕ → Name
data_name n = 68 ∷ decimal n

-- the names around a place inside d type names, innermost first
abbrev pub scope : ℕ → List Name
scope zero = []
scope (suc d) = type_name d ∷ scope d

pub scope_next : (d : ℕ) → scope (d + 1) ≡ type_name d ∷ scope d
scope_next d = ap scope (add-one d)

-- the labels of n blocks, with l before them
abbrev pub labels_from : ℕ → ℕ → Labels
labels_from l zero = []
labels_from l (suc n) = (label_name l, Label l) ∷ labels_from (suc l) n

-- the labels of n data tuples, with d before them
abbrev pub data_from : ℕ → ℕ → Labels
data_from d zero = []
data_from d (suc n) = (data_name d, Data d) ∷ data_from (suc d) n

-- the labels of the n first data tuples, the last first
abbrev pub data_before : ℕ → List Name
data_before zero = []
data_before (suc n) = data_name n ∷ data_before n

-- the same of the n first blocks, after q data tuples
abbrev pub before : ℕ → ℕ → List Name
before q zero = data_before q
before q (suc n) = label_name n ∷ before q n

eq_self : (x : Name) → bytes_eq x x ≡ true
eq_self x = (bytes_eq-Decides x x).1 refl

eq_means : (x y : Name) → bytes_eq x y ≡ true → x ≡ y
eq_means x y e = (bytes_eq-Decides x y).0 e

-- names with one first byte are equal where their numbers are
same_number : (b m n : ℕ) → m < 2 ^ 64 → n < 2 ^ 64 → bytes_eq (b ∷ decimal m) (b ∷ decimal n) ≡ true → m ≡ n
same_number b m n h k e =
    let q : b ∷ decimal m ≡ b ∷ decimal n = eq_means (b ∷ decimal m) (b ∷ decimal n) e in
    let r : decimal m ≡ decimal n = cc in decimal_injective m n h k r

other_number : (b m n : ℕ) → bytes_eq (b ∷ decimal m) (b ∷ decimal n) ≡ false → m ≢ n
other_number b m n e q =
    let r : bytes_eq (b ∷ decimal m) (b ∷ decimal n) ≡ true =
    subst (λ i. bytes_eq (b ∷ decimal m) (b ∷ decimal i) ≡ true) q (eq_self (b ∷ decimal m)) in
    let f : true ≡ false = sym r ∙ e in cc

-- a name is found at its place
pub record Found (x : Name) (names : List Name) (i : ℕ) : Type 0 where
  pub among : is_among x names ≡ true
  pub at : index_in x names ≡ i

found_first : (x y : Name) (ns : List Name) → bytes_eq x y ≡ true → Found x (y ∷ ns) 0
found_first x y ns e = record { among = rw e refl; at = rw e refl }

found_next : (x y : Name) (ns : List Name) (i : ℕ) → bytes_eq x y ≡ false → Found x ns i → Found x (y ∷ ns) (1 + i)
found_next x y ns i e h = record { among = rw e h.among; at = rw e (ap (λ n. 1 + n) h.at) }

pub in_scope : (d j : ℕ) → j < d → d < 2 ^ 64 → Found (type_name j) (scope d) (d - 1 - j)
in_scope zero j lt h = absurd (omega arith)
in_scope (suc d) j lt h = by_test (bytes_eq (type_name j) (type_name d)) refl (in_scope d j)
  where
    by_test : (x : Bool) → bytes_eq (type_name j) (type_name d) ≡ x →
        (j < d → d < 2 ^ 64 → Found (type_name j) (scope d) (d - 1 - j)) →
        Found (type_name j) (scope (suc d)) (suc d - 1 - j)
    by_test true e ih =
        let q : j ≡ d = same_number 84 j d (omega arith) (omega arith) e in
        let z : 0 ≡ suc d - 1 - j = omega arith in
        subst (λ i. Found (type_name j) (scope (suc d)) i) z (found_first (type_name j) (type_name d) (scope d) e)
    by_test false e ih =
        let q : j ≢ d = other_number 84 j d e in
        let less : j < d = omega (arith, q) in
        let z : 1 + (d - 1 - j) ≡ suc d - 1 - j = omega (arith, less) in
        subst (λ i. Found (type_name j) (scope (suc d)) i) z
        (found_next (type_name j) (type_name d) (scope d) (d - 1 - j) e (ih less (omega arith)))

pub in_labels : (l n m : ℕ) → l ≤ m → m < l + n → l + n ≤ 2 ^ 64 →
    named_by (label_name m) (labels_from l n) ≡ Some (Label m)
in_labels l zero m low high h = absurd (omega arith)
in_labels l (suc n) m low high h = by_test (bytes_eq (label_name m) (label_name l)) refl (in_labels (suc l) n m)
  where
    by_test : (x : Bool) → bytes_eq (label_name m) (label_name l) ≡ x →
        (suc l ≤ m → m < suc l + n → suc l + n ≤ 2 ^ 64 → named_by (label_name m) (labels_from (suc l) n)
        ≡ Some (Label m)) →
        (if x then Some (Label l) else named_by (label_name m) (labels_from (suc l) n)) ≡ Some (Label m)
    by_test true e ih =
        let q : m ≡ l = same_number 76 m l (omega arith) (omega arith) e in ap (λ (i : ℕ). Some (Label i)) (sym q)
    by_test false e ih =
        let q : m ≢ l = other_number 76 m l e in
        let more : suc l ≤ m = omega (arith, q) in
        ih more (omega arith) (omega arith)

-- the label of a block is none of a data tuple
pub past_data : (d n m : ℕ) (ls : Labels) → named_by (label_name m) (data_from d n ++ ls) ≡ named_by (label_name m) ls
past_data d zero m ls = refl
past_data d (suc n) m ls = past_data (suc d) n m ls

pub in_data : (d n m : ℕ) (ls : Labels) → d ≤ m → m < d + n → d + n ≤ 2 ^ 64 →
    named_by (data_name m) (data_from d n ++ ls) ≡ Some (Data m)
in_data d zero m ls low high h = absurd (omega arith)
in_data d (suc n) m ls low high h = by_test (bytes_eq (data_name m) (data_name d)) refl (in_data (suc d) n m ls)
  where
    by_test : (x : Bool) → bytes_eq (data_name m) (data_name d) ≡ x →
        (suc d ≤ m → m < suc d + n → suc d + n ≤ 2 ^ 64 → named_by (data_name m) (data_from (suc d) n ++ ls)
        ≡ Some (Data m)) →
        (if x then Some (Data d) else named_by (data_name m) (data_from (suc d) n ++ ls)) ≡ Some (Data m)
    by_test true e ih =
        let q : m ≡ d = same_number 68 m d (omega arith) (omega arith) e in ap (λ (i : ℕ). Some (Data i)) (sym q)
    by_test false e ih =
        let q : m ≢ d = other_number 68 m d e in
        let more : suc d ≤ m = omega (arith, q) in
        ih more (omega arith) (omega arith)

-- no label is that of a data tuple or a block before
pub not_data_before : (d m : ℕ) → m ≤ d → d < 2 ^ 64 → is_among (data_name d) (data_before m) ≡ false
not_data_before d zero le h = refl
not_data_before d (suc m) le h =
    by_test (bytes_eq (data_name d) (data_name m)) refl (not_data_before d m (omega arith) h)
  where
    by_test : (x : Bool) → bytes_eq (data_name d) (data_name m) ≡ x → is_among (data_name d) (data_before m) ≡ false →
        is_among (data_name d) (data_before (suc m)) ≡ false
    by_test true e ih = let q : d ≡ m = same_number 68 d m h (omega arith) e in absurd (omega arith)
    by_test false e ih = rw e ih

no_data : (l q : ℕ) → is_among (label_name l) (data_before q) ≡ false
no_data l zero = refl
no_data l (suc q) = no_data l q

pub not_before : (q l m : ℕ) → m ≤ l → l < 2 ^ 64 → is_among (label_name l) (before q m) ≡ false
not_before q l zero le h = no_data l q
not_before q l (suc m) le h = by_test (bytes_eq (label_name l) (label_name m)) refl (not_before q l m (omega arith) h)
  where
    by_test : (x : Bool) → bytes_eq (label_name l) (label_name m) ≡ x → is_among (label_name l) (before q m) ≡ false →
        is_among (label_name l) (before q (suc m)) ≡ false
    by_test true e ih = let same : l ≡ m = same_number 76 l m h (omega arith) e in absurd (omega arith)
    by_test false e ih = rw e ih
