-- The tree of a tuple, by the items of its vector. The walks over a tuple's parts are then `map`, `All` and `sum_by`
-- of std.
use Rattle.std.proofs.Common.{max, ◌++◌, ◌≡◌, ℕ, List, [], ◌∷◌, map, Vec, Global, refl, ap, ap₂, ◌∙◌, sym, ◌+◌, ◌<◌}
use Rattle.std.proofs.Common.{◌≤◌, take, length, subst, arith, All, sum_by, get_or, suc}
use Rattle.std.proofs.lemmas.List.{take_all, get_or-map, map_more}
use Rattle.std.proofs.lemmas.List.Elements.{All-nil, All-cons, All-head, All-tail, All-get_or}
use Rattle.std.proofs.lemmas.List.Sums.{sum_by-cons}
use mathlib.Core.Former.{Count}
use Rattle.idx_core.specs.Over.{At}
use Rattle.f_terms.specs.declared.types.FType.{FType, Row_of-FType, end_of-FType, more_of-FType, items-the_row-FType}
use Rattle.f_terms.specs.declared.types.FType.{items_hidden-the_row-FType-0}
use Rattle.f_terms.specs.declared.types.FType.TheVariants.{Tuple, Tuple'}
use Rattle.f_terms.specs.Ty.{Ty, TTuple, Tys, NoTys, MoreTys, tys, over, over_all, each, each_all, size, sizes, depth}
use Rattle.f_terms.specs.Ty.{depths}
use Rattle.f_terms.specs.Read.{tree, trees}

abbrev row_of : FType → (n : Count) × Row_of-FType n
row_of (Tuple' _ row) = (_, row)
row_of _ = (_, end_of-FType)

pub trees_items : (n : _) (row : Row_of-FType n) → trees row ≡ tys (map tree (items-the_row-FType n row))
trees_items n end_of-FType = refl
trees_items n (more_of-FType t rest) = ap (MoreTys (tree t)) (trees_items _ rest)

-- the tree of a tuple
pub tree_Tuple : (ts : Vec FType Global) → tree (Tuple ts) ≡ TTuple (tys (map tree ts.items))
tree_Tuple ts =
    let row = row_of (Tuple ts) in
    ap TTuple (trees_items row.0 row.1 ∙ ap (λ (xs : List FType). tys (map tree xs)) (items_hidden-the_row-FType-0 ts))

-- the same, of a value that a match found to be one
pub tree_parts : (self : FType) (ts : Vec FType Global) (xs : List FType) → self ≡ Tuple ts → xs ≡ ts.items →
    tree self ≡ TTuple (tys (map tree xs))
tree_parts self ts xs is same =
    ap tree is ∙ tree_Tuple ts ∙ ap (λ (ys : List FType). TTuple (tys (map tree ys))) (sym same)

-- the walks over the parts
pub over_tys : (f : At Ty) (d : ℕ) (ts : List FType) →
    over_all f d (tys (map tree ts)) ≡ tys (map (λ t. over f d (tree t)) ts)
over_tys f d [] = refl
over_tys f d (t ∷ ts) = ap (MoreTys (over f d (tree t))) (over_tys f d ts)

module _ (V : ℕ → ℕ → Type 0) (B : ℕ → Type 0) (d : ℕ) where
  pub each_tys : (ts : List FType) → each_all V B d (tys (map tree ts)) → All (λ t. each V B d (tree t)) ts
  each_tys [] h = All-nil (λ t. each V B d (tree t))
  each_tys (t ∷ ts) h = All-cons (λ t. each V B d (tree t)) t ts h.0 (each_tys ts h.1)

  pub tys_each : (ts : List FType) → All (λ t. each V B d (tree t)) ts → each_all V B d (tys (map tree ts))
  tys_each [] h = tt
  tys_each (t ∷ ts) h =
      (All-head (λ t. each V B d (tree t)) t ts h, tys_each ts (All-tail (λ t. each V B d (tree t)) t ts h))

  -- every part has it where the tuple has, and the tuple where every part that a loop went over has it
  pub parts_have : (t : Ty) (xs : List FType) → t ≡ TTuple (tys (map tree xs)) → each V B d t →
      All (λ x. each V B d (tree x)) xs
  parts_have t xs is h = each_tys xs (subst (each V B d) is h)

  pub tuple_has : (t : Ty) (xs : List FType) (n : ℕ) → t ≡ TTuple (tys (map tree xs)) →
      All (λ x. each V B d (tree x)) (take n xs) → length xs ≤ n → each V B d t
  tuple_has t xs n is h all =
      subst (each V B d) (sym is)
      (tys_each xs (subst (λ (ys : List FType). All (λ x. each V B d (tree x)) ys) (take_all n xs all) h))

-- an item that a loop reads, by its place
pub item_has : (P : FType → Type 0) (xs : List FType) (i : ℕ) (x : FType) → x ≡ get_or xs i x → i < length xs →
    All P xs → P x
item_has P xs i x is lt all = subst P (sym is) (All-get_or P xs i x lt all)

pub size_tys : (ts : List FType) → sizes (tys (map tree ts)) ≡ sum_by (λ t. size (tree t)) ts
size_tys [] = refl
size_tys (t ∷ ts) = ap (λ n. size (tree t) + n) (size_tys ts) ∙ sym (sum_by-cons (λ t. size (tree t)) t ts)

-- a tuple that was made part by part, by a walk
pub made_tuple : (f : At Ty) (d : ℕ) (t : Ty) (made : Vec FType Global) (xs : List FType) (n : ℕ) →
    t ≡ TTuple (tys (map tree xs)) → map tree made.items ≡ map (λ x. over f d (tree x)) (take n xs) → length xs ≤ n →
    tree (Tuple made) ≡ over f d t
made_tuple f d t made xs n is done all =
    tree_Tuple made
    ∙ ap (λ (ys : List Ty). TTuple (tys ys))
    (done ∙ ap (λ (ys : List FType). map (λ x. over f d (tree x)) ys) (take_all n xs all))
    ∙ ap TTuple (sym (over_tys f d xs))
    ∙ ap (over f d) (sym is)

-- two tuples are equal exactly where their parts are
abbrev list_of : Tys → List Ty
list_of NoTys = []
list_of (MoreTys t ts) = t ∷ list_of ts

list_of_tys : (ts : List Ty) → list_of (tys ts) ≡ ts
list_of_tys [] = refl
list_of_tys (t ∷ ts) = ap (λ (us : List Ty). t ∷ us) (list_of_tys ts)

abbrev parts_of : Ty → List Ty
parts_of (TTuple ts) = list_of ts
parts_of _ = []

pub tuple_parts : (ss ts : List Ty) → TTuple (tys ss) ≡ TTuple (tys ts) → ss ≡ ts
tuple_parts ss ts e = sym (list_of_tys ss) ∙ ap parts_of e ∙ list_of_tys ts

pub same_at : (xs ys : List FType) (i : ℕ) (d : FType) → i < length xs → i < length ys → map tree xs ≡ map tree ys →
    tree (get_or xs i d) ≡ tree (get_or ys i d)
same_at xs ys i d lt lt' e =
    sym (get_or-map tree xs i d (tree d) lt) ∙ ap (λ (us : List Ty). get_or us i (tree d)) e
    ∙ get_or-map tree ys i d (tree d) lt'

pub same_trees : (xs ys : List FType) → length xs ≡ length ys →
    ((k : ℕ) (d : FType) → k < length xs → tree (get_or xs k d) ≡ tree (get_or ys k d)) → map tree xs ≡ map tree ys
same_trees [] [] e h = refl
same_trees [] (y ∷ ys) e h = absurd (omega arith)
same_trees (x ∷ xs) [] e h = absurd (omega arith)
same_trees (x ∷ xs) (y ∷ ys) e h =
    ap₂ (λ (u : Ty) (us : List Ty). u ∷ us) (h 0 x (omega arith))
    (same_trees xs ys (omega arith) (λ k d lt. h (suc k) d (omega arith)))

-- the depth of the parts that a loop went over
pub depths_more : (ts : List FType) (i : ℕ) (t : FType) → t ≡ get_or ts i t → i < length ts →
    depths (tys (map tree (take (i + 1) ts))) ≡ max (depths (tys (map tree (take i ts)))) (depth (tree t))
depths_more ts i t is lt =
    ap (λ (us : List Ty). depths (tys us))
    (map_more tree ts i t lt ∙ ap (λ (u : FType). map tree (take i ts) ++ tree u ∷ []) (sym is))
    ∙ push (map tree (take i ts)) (tree t)
  where
    push : (us : List Ty) (u : Ty) → depths (tys (us ++ u ∷ [])) ≡ max (depths (tys us)) (depth u)
    push [] u = omega arith
    push (x ∷ us) u = omega (arith, push us u)
