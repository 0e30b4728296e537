-- The trees of types that hold a vector, by the vector's items.
use Rattle.std.proofs.Common.{◌≡◌, ◌<◌, ◌≤◌, ℕ, zero, suc, ◌+◌, List, [], ◌∷◌, ◌++◌, map, drop, arith, take, length}
use Rattle.std.proofs.Common.{Vec, Global, All, get_or, refl, ap, ◌∙◌, sym, subst}
use Rattle.std.proofs.lemmas.List.{take_all}
use Rattle.std.proofs.lemmas.List.Elements.{All-nil, All-cons, All-head, All-tail}
use mathlib.Core.Former.{Count}
use Rattle.idx_core.specs.Over.{At}
use Rattle.calc_core.specs.declared.types.CoreType.{CoreType, Row_of-CoreType, end_of-CoreType, more_of-CoreType}
use Rattle.calc_core.specs.declared.types.CoreType.{items-the_row-CoreType, items_hidden-the_row-CoreType-0}
use Rattle.calc_core.specs.declared.types.CoreType.TheVariants.{Tuple, Code, Tuple', Code'}
use Rattle.calc_core.specs.Types.{Ty, Tys, TupleTy, CodeTy, NoTys, MoreTys, count}
use Rattle.calc_core.specs.Walks.{over, over_all, each, each_all}
use Rattle.calc_core.specs.Read.{tree, trees, all_trees, joined}

abbrev row_of : CoreType → (n : Count) × Row_of-CoreType n
row_of (Tuple' _ row) = (_, row)
row_of (Code' _ _ row) = (_, row)
row_of _ = (_, end_of-CoreType)

trees_items : (n : _) (row : Row_of-CoreType n) → trees row ≡ all_trees (items-the_row-CoreType n row)
trees_items n end_of-CoreType = refl
trees_items n (more_of-CoreType t rest) = ap (MoreTys (tree t)) (trees_items _ rest)

pub tree_Tuple : (ts : Vec CoreType Global) → tree (Tuple ts) ≡ TupleTy (all_trees ts.items)
tree_Tuple ts =
    let row = row_of (Tuple ts) in
    ap TupleTy (trees_items row.0 row.1 ∙ ap all_trees (items_hidden-the_row-CoreType-0 ts))

pub tree_Code : (owes : ℕ) (ts : Vec CoreType Global) → tree (Code owes ts) ≡ CodeTy owes (all_trees ts.items)
tree_Code owes ts =
    let row = row_of (Code owes ts) in
    ap (CodeTy owes) (trees_items row.0 row.1 ∙ ap all_trees (items_hidden-the_row-CoreType-0 ts))

-- the same, of a value that a match found to be one
pub tree_is_tuple : (self : CoreType) (ts : Vec CoreType Global) (xs : List CoreType) → self ≡ Tuple ts →
    xs ≡ ts.items → tree self ≡ TupleTy (all_trees xs)
tree_is_tuple self ts xs is same =
    ap tree is ∙ tree_Tuple ts ∙ ap (λ (ys : List CoreType). TupleTy (all_trees ys)) (sym same)

pub tree_is_code : (self : CoreType) (owes : ℕ) (ts : Vec CoreType Global) (xs : List CoreType) → self ≡ Code owes ts →
    xs ≡ ts.items → tree self ≡ CodeTy owes (all_trees xs)
tree_is_code self owes ts xs is same =
    ap tree is ∙ tree_Code owes ts ∙ ap (λ (ys : List CoreType). CodeTy owes (all_trees ys)) (sym same)

-- each of several types
module _ (V : ℕ → ℕ → Type 0) (B : ℕ → Type 0) (d : ℕ) where
  abbrev pub Has : CoreType → Type 0
  Has t = each V B d (tree t)

  pub all_have : (ts : List CoreType) → each_all V B d (all_trees ts) → All Has ts
  all_have [] h = All-nil Has
  all_have (t ∷ ts) h = All-cons Has t ts h.0 (all_have ts h.1)

  list_has : (ts : List CoreType) → All Has ts → each_all V B d (all_trees ts)
  list_has [] h = tt
  list_has (t ∷ ts) h = (All-head Has t ts h, list_has ts (All-tail Has t ts h))

  -- all have it where every one that a loop went over has
  pub have_all : (ts : List CoreType) (n : ℕ) → All Has (take n ts) → length ts ≤ n → each_all V B d (all_trees ts)
  have_all ts n h all = list_has ts (subst (λ (us : List CoreType). All Has us) (take_all n ts all) h)

-- several types by their trees
abbrev of_trees : List Ty → Tys
of_trees [] = NoTys
of_trees (t ∷ ts) = MoreTys t (of_trees ts)

tys_map : (ts : List CoreType) → all_trees ts ≡ of_trees (map tree ts)
tys_map [] = refl
tys_map (t ∷ ts) = ap (MoreTys (tree t)) (tys_map ts)

over_tys : (f : At Ty) (d : ℕ) (ts : List CoreType) →
    over_all f d (all_trees ts) ≡ of_trees (map (λ t. over f d (tree t)) ts)
over_tys f d [] = refl
over_tys f d (t ∷ ts) = ap (MoreTys (over f d (tree t))) (over_tys f d ts)

-- several types that were made one by one, by a walk
pub made_all : (f : At Ty) (d : ℕ) (us ts : List CoreType) (n : ℕ) →
    map tree us ≡ map (λ t. over f d (tree t)) (take n ts) → length ts ≤ n → all_trees us ≡ over_all f d (all_trees ts)
made_all f d us ts n done all =
    tys_map us
    ∙ ap of_trees (done ∙ ap (λ (xs : List CoreType). map (λ t. over f d (tree t)) xs) (take_all n ts all))
    ∙ sym (over_tys f d ts)

-- and copied
pub all_copied : (us ts : List CoreType) (n : ℕ) → map tree us ≡ map tree (take n ts) → length ts ≤ n →
    all_trees us ≡ all_trees ts
all_copied us ts n done all =
    tys_map us ∙ ap of_trees (done ∙ ap (λ (xs : List CoreType). map tree xs) (take_all n ts all)) ∙ sym (tys_map ts)

-- lists that are made one by one
pub joined_push : (xs : List CoreType) (x : CoreType) (rest : Tys) →
    joined (xs ++ x ∷ []) rest ≡ joined xs (MoreTys (tree x) rest)
joined_push [] x rest = refl
joined_push (y ∷ xs) x rest = ap (MoreTys (tree y)) (joined_push xs x rest)

pub joined_nil : (xs : List CoreType) → joined xs NoTys ≡ all_trees xs
joined_nil [] = refl
joined_nil (y ∷ xs) = ap (MoreTys (tree y)) (joined_nil xs)

-- and read one by one
pub trees_drop : (ts : List CoreType) (i : ℕ) (t : CoreType) → i < length ts → t ≡ get_or ts i t →
    all_trees (drop i ts) ≡ MoreTys (tree t) (all_trees (drop (i + 1) ts))
trees_drop [] i t h e = absurd (omega (arith, h))
trees_drop (u ∷ ts) zero t h e = ap (λ x. MoreTys (tree x) (all_trees ts)) (sym e)
trees_drop (u ∷ ts) (suc i) t h e = trees_drop ts i t (omega (arith, h)) e
    ∙ ap (λ j. MoreTys (tree t) (all_trees (drop j (u ∷ ts)))) (let q : suc (i + 1) ≡ suc i + 1 = omega arith in q)

pub trees_end : (ts : List CoreType) (i : ℕ) → length ts ≤ i → all_trees (drop i ts) ≡ NoTys
trees_end [] zero h = refl
trees_end [] (suc i) h = refl
trees_end (t ∷ ts) zero h = absurd (omega (arith, h))
trees_end (t ∷ ts) (suc i) h = trees_end ts i (omega (arith, h))

-- how many they are
pub count_length : (xs : List CoreType) → count (all_trees xs) ≡ length xs
count_length [] = refl
count_length (x ∷ xs) = ap suc (count_length xs)
