-- How a stack of names is kept: one name more, one less, and what a change of the map of levels leaves.
use Rattle.std.proofs.Common.{◌≡◌, ℕ, ◌-◌, List, [], ◌∷◌, ◌++◌, length, take, drop, Bool, true, false, cond, Some, Vec}
use Rattle.std.proofs.Common.{refl, sym, ◌∙◌, ap, subst, arith, length-append, length-drop}
use Rattle.std.proofs.Math.Seq.{drop-append_seam, take-append_seam, take-length}
use Rattle.std.specs.Prelude.{bytes_eq}
use Rattle.std.specs.BTreeMap.{BTreeMap, UpdatesBy}
use Rattle.std.specs.Map.{KeepsOthers}
use Rattle.std.specs.Cmp.{eq_by_cmp_equiv}
use Rattle.std.specs.Cmp.Lexicographic.{slice_cmp, bytes_decides, nat_list_cmp_total, nat_list_eq_equiv}
use Rattle.std.specs.Ordering.{nat_cmp, is_eq}
use Rattle.std.specs.declared.alloc.Global.{Global}
use Rattle.std.proofs.lemmas.Map.Text.{is_eq-slice_cmp}
use Rattle.idx_core.specs.Names.{Name}
use Rattle.idx_core.specs.Levels.{level_of, SetsLevel}
use Rattle.idx_core.specs.Bounds.{names_at, AreBound, kept_level}
use Rattle.idx_core.specs.declared.names.Bound.{Bound}

-- there are as many names as are bound
pub count_names : (bytes : List ℕ) (bs : List Bound) → length (names_at bytes bs) ≡ length bs
count_names bytes [] = refl
count_names bytes (b ∷ bs) = omega (arith, count_names (take b.start bytes) bs)

-- the bytes from a place on
pub bytes_from : (xs ys : List ℕ) (n : ℕ) → xs ≡ ys → take (length xs - n) (drop n xs) ≡ drop n ys
bytes_from xs ys n e =
    ap (λ m. take m (drop n xs)) (sym (length-drop n xs)) ∙ take-length (drop n xs) ∙ ap (drop n) e

-- a name is bound behind the others
module _ (bytes name : List ℕ) (bs : List Bound) (b : Bound) (start : b.start ≡ length bytes) where
  own : drop b.start (bytes ++ name) ≡ name
  own = ap (λ n. drop n (bytes ++ name)) start ∙ drop-append_seam bytes name

  others : take b.start (bytes ++ name) ≡ bytes
  others = ap (λ n. take n (bytes ++ name)) start ∙ take-append_seam bytes name

  pub names_pushed : names_at (bytes ++ name) (b ∷ bs) ≡ name ∷ names_at bytes bs
  names_pushed =
      ap (λ (n : Name). n ∷ names_at (take b.start (bytes ++ name)) bs) own
      ∙ ap (λ (left : List ℕ). name ∷ names_at left bs) others

  pub bound_pushed : b.hidden ≡ level_of name (names_at bytes bs) → AreBound bytes bs →
      AreBound (bytes ++ name) (b ∷ bs)
  bound_pushed hides are = rw (own, others) (rw start (omega (arith, length-append bytes name)), hides, are)

-- a change at one spelling leaves the others
kept_apart : (old new : BTreeMap (Vec ℕ Global) ℕ) (name x : Name) →
    KeepsOthers (λ (k l : Vec ℕ Global). is_eq (slice_cmp nat_cmp k.items l.items))
    (λ (k : Vec ℕ Global). is_eq (slice_cmp nat_cmp name k.items)) old.entries new.entries →
    bytes_eq name x ≡ false → kept_level new x ≡ kept_level old x
unfolding KeepsOthers
kept_apart old new name x keeps other =
    keeps (λ (k : Vec ℕ Global). is_eq (slice_cmp nat_cmp x k.items))
    (λ k l. (eq_by_cmp_equiv nat_list_cmp_total).congr x k.items l.items)
    (λ k here.
    is_eq-slice_cmp x k.items ∙ nat_list_eq_equiv.symm x k.items
    ∙ sym (nat_list_eq_equiv.congr name k.items x (sym (is_eq-slice_cmp name k.items) ∙ here)) ∙ other)

pub level_set : (old new : BTreeMap (Vec ℕ Global) ℕ) (name : Name) (level : ℕ) →
    UpdatesBy (λ x y. slice_cmp nat_cmp x.items y.items) (λ k. slice_cmp nat_cmp name k.items) old new (Some level) →
    SetsLevel (kept_level old) (kept_level new) name level
level_set old new name level updates x = by_test (bytes_eq name x) refl
  where
    by_test : (b : Bool) → bytes_eq name x ≡ b → kept_level new x ≡ cond b (Some level) (kept_level old x)
    by_test true same = subst (λ (y : Name). kept_level new y ≡ Some level) ((bytes_decides name x).0 same) updates.1
    by_test false other = kept_apart old new name x updates.3 other
