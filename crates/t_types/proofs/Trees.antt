-- The trees of what holds a vector, by the vector's items. The walks over files and fields are then `map` and `All` of
-- std.
use Rattle.std.proofs.Common.{◌≡◌, ℕ, List, [], ◌∷◌, map, Vec, Global, refl, ap, ◌∙◌, sym, ◌≤◌, take, length}
use Rattle.std.proofs.Common.{subst, All, Bool}
use Rattle.std.proofs.lemmas.List.{take_all}
use Rattle.std.proofs.lemmas.List.Elements.{All-nil, All-cons, All-head, All-tail}
use mathlib.Core.Former.{Count}
use Rattle.idx_core.specs.Over.{At}
use Rattle.t_types.specs.declared.types.TType.{TType, Row_of-RegFile-regs-2 as RegRow}
use Rattle.t_types.specs.declared.types.TType.{end_of-RegFile-regs-2 as end_of_regs}
use Rattle.t_types.specs.declared.types.TType.{more_of-RegFile-regs-2 as more_of_regs}
use Rattle.t_types.specs.declared.types.TType.{Row_of-TType-Tuple-0-2 as FieldRow}
use Rattle.t_types.specs.declared.types.TType.{end_of-TType-Tuple-0-2 as end_of_fields}
use Rattle.t_types.specs.declared.types.TType.{more_of-TType-Tuple-0-2 as more_of_fields}
use Rattle.t_types.specs.declared.types.TType.{items-the_row-TType-Tuple-0-2, items_hidden-the_row-TType-Tuple-0-2-1}
use Rattle.t_types.specs.declared.types.TType.{items-the_row-RegFile-regs-2, items_hidden-the_row-RegFile-regs-2-0}
use Rattle.t_types.specs.declared.types.TType.TheVariants.{Code, Tuple, Code', Tuple'}
use Rattle.t_types.specs.declared.types.RegFile.{RegFile}
use Rattle.t_types.specs.Tree.{Ty, CodeTy, TupleTy, MoreRegs, MoreFields, regs, flagged, over, over_file, over_fields}
use Rattle.t_types.specs.Tree.{over_types, each, each_file, each_fields, each_types}
use Rattle.t_types.specs.Read.{tree, row_file, row_fields, reg, file, flag, fields, types}

abbrev field_row : TType → (n : Count) × FieldRow n
field_row (Tuple' _ row) = (_, row)
field_row _ = (_, end_of_fields)

abbrev reg_row : TType → (n : Count) × RegRow n
reg_row (Code' _ _ row) = (_, row)
reg_row _ = (_, end_of_regs)

row_regs : (n : Count) (row : RegRow n) → row_file row ≡ file (items-the_row-RegFile-regs-2 n row)
row_regs n end_of_regs = refl
row_regs n (more_of_regs r t rest) = ap (MoreRegs r (tree t)) (row_regs _ rest)

row_flags : (n : Count) (row : FieldRow n) → row_fields row ≡ fields (items-the_row-TType-Tuple-0-2 n row)
row_flags n end_of_fields = refl
row_flags n (more_of_fields t b rest) = ap (MoreFields (tree t) b) (row_flags _ rest)

pub tree_Tuple : (v : Vec (TType × Bool) Global) → tree (Tuple v) ≡ TupleTy (fields v.items)
tree_Tuple v =
    let row = field_row (Tuple v) in
    ap TupleTy (row_flags row.0 row.1 ∙ ap fields (items_hidden-the_row-TType-Tuple-0-2-1 v))

pub tree_Code : (owes : ℕ) (f : RegFile) → tree (Code owes f) ≡ CodeTy owes (file f.regs.items)
tree_Code owes f =
    let row = reg_row (Code owes f) in
    ap (CodeTy owes) (row_regs row.0 row.1 ∙ ap file (items_hidden-the_row-RegFile-regs-2-0 f.regs))

-- the same, of a value that a match found to be one
pub tree_is_tuple : (self : TType) (v : Vec (TType × Bool) Global) (xs : List (TType × Bool)) → self ≡ Tuple v →
    xs ≡ v.items → tree self ≡ TupleTy (fields xs)
tree_is_tuple self v xs is same =
    ap tree is ∙ tree_Tuple v ∙ ap (λ (ys : List (TType × Bool)). TupleTy (fields ys)) (sym same)

pub tree_is_code : (self : TType) (owes : ℕ) (f : RegFile) (xs : List (ℕ × TType)) → self ≡ Code owes f →
    xs ≡ f.regs.items → tree self ≡ CodeTy owes (file xs)
tree_is_code self owes f xs is same =
    ap tree is ∙ tree_Code owes f ∙ ap (λ (ys : List (ℕ × TType)). CodeTy owes (file ys)) (sym same)

-- each part of a file, and of fields
module _ (V : ℕ → ℕ → Type 0) (B : ℕ → Type 0) (d : ℕ) where
  abbrev pub RegHas : ℕ × TType → Type 0
  RegHas x = each V B d (tree x.1)

  abbrev pub FieldHas : TType × Bool → Type 0
  FieldHas x = each V B d (tree x.0)

  pub regs_have : (xs : List (ℕ × TType)) → each_file V B d (file xs) → All RegHas xs
  regs_have [] h = All-nil RegHas
  regs_have (x ∷ xs) h = All-cons RegHas x xs h.0 (regs_have xs h.1)

  file_has : (xs : List (ℕ × TType)) → All RegHas xs → each_file V B d (file xs)
  file_has [] h = tt
  file_has (x ∷ xs) h = (All-head RegHas x xs h, file_has xs (All-tail RegHas x xs h))

  pub fields_have : (xs : List (TType × Bool)) → each_fields V B d (fields xs) → All FieldHas xs
  fields_have [] h = All-nil FieldHas
  fields_have (x ∷ xs) h = All-cons FieldHas x xs h.0 (fields_have xs h.1)

  tuple_has : (xs : List (TType × Bool)) → All FieldHas xs → each_fields V B d (fields xs)
  tuple_has [] h = tt
  tuple_has (x ∷ xs) h = (All-head FieldHas x xs h, tuple_has xs (All-tail FieldHas x xs h))

  -- the whole has it where every part that a loop went over has
  pub file_has_all : (xs : List (ℕ × TType)) (n : ℕ) → All RegHas (take n xs) → length xs ≤ n →
      each_file V B d (file xs)
  file_has_all xs n h all = file_has xs (subst (λ (ys : List (ℕ × TType)). All RegHas ys) (take_all n xs all) h)

  pub fields_have_all : (xs : List (TType × Bool)) (n : ℕ) → All FieldHas (take n xs) → length xs ≤ n →
      each_fields V B d (fields xs)
  fields_have_all xs n h all =
      tuple_has xs (subst (λ (ys : List (TType × Bool)). All FieldHas ys) (take_all n xs all) h)

-- an item that a loop reads, by its place
-- a walk over each part
module _ (f : At Ty) (d : ℕ) where
  abbrev pub over_reg : ℕ × TType → ℕ × Ty
  over_reg x = (x.0, over f d (tree x.1))

  abbrev pub over_flag : TType × Bool → Ty × Bool
  over_flag x = (over f d (tree x.0), x.1)

  over_regs : (xs : List (ℕ × TType)) → over_file f d (file xs) ≡ regs (map over_reg xs)
  over_regs [] = refl
  over_regs (x ∷ xs) = ap (MoreRegs x.0 (over f d (tree x.1))) (over_regs xs)

  over_flags : (xs : List (TType × Bool)) → over_fields f d (fields xs) ≡ flagged (map over_flag xs)
  over_flags [] = refl
  over_flags (x ∷ xs) = ap (MoreFields (over f d (tree x.0)) x.1) (over_flags xs)

  -- a file, and fields, that were made part by part
  pub made_file : (ys xs : List (ℕ × TType)) (n : ℕ) → map reg ys ≡ map over_reg (take n xs) → length xs ≤ n →
      file ys ≡ over_file f d (file xs)
  made_file ys xs n done all =
      ap regs (done ∙ ap (λ (zs : List (ℕ × TType)). map over_reg zs) (take_all n xs all)) ∙ sym (over_regs xs)

  pub made_fields : (ys xs : List (TType × Bool)) (n : ℕ) → map flag ys ≡ map over_flag (take n xs) → length xs ≤ n →
      fields ys ≡ over_fields f d (fields xs)
  made_fields ys xs n done all =
      ap flagged (done ∙ ap (λ (zs : List (TType × Bool)). map over_flag zs) (take_all n xs all)) ∙ sym (over_flags xs)

pub copied_file : (ys xs : List (ℕ × TType)) (n : ℕ) → map reg ys ≡ map reg (take n xs) → length xs ≤ n →
    file ys ≡ file xs
copied_file ys xs n done all = ap regs (done ∙ ap (λ (zs : List (ℕ × TType)). map reg zs) (take_all n xs all))

pub copied_fields : (ys xs : List (TType × Bool)) (n : ℕ) → map flag ys ≡ map flag (take n xs) → length xs ≤ n →
    fields ys ≡ fields xs
copied_fields ys xs n done all = ap flagged (done ∙ ap (λ (zs : List (TType × Bool)). map flag zs) (take_all n xs all))

-- lists of types
module _ (V : ℕ → ℕ → Type 0) (B : ℕ → Type 0) (d : ℕ) where
  pub types_have : (ts : List TType) → each_types V B d (types ts) → All (λ t. each V B d (tree t)) ts
  types_have [] h = All-nil (λ t. each V B d (tree t))
  types_have (t ∷ ts) h = All-cons (λ u. each V B d (tree u)) t ts h.0 (types_have ts h.1)

  list_has : (ts : List TType) → All (λ t. each V B d (tree t)) ts → each_types V B d (types ts)
  list_has [] h = tt
  list_has (t ∷ ts) h =
      (All-head (λ u. each V B d (tree u)) t ts h, list_has ts (All-tail (λ u. each V B d (tree u)) t ts h))

  pub types_have_all : (ts : List TType) (n : ℕ) → All (λ t. each V B d (tree t)) (take n ts) → length ts ≤ n →
      each_types V B d (types ts)
  types_have_all ts n h all =
      list_has ts (subst (λ (us : List TType). All (λ t. each V B d (tree t)) us) (take_all n ts all) h)

over_list : (f : At Ty) (d : ℕ) (ts : List TType) → over_types f d (types ts) ≡ map (λ t. over f d (tree t)) ts
over_list f d [] = refl
over_list f d (t ∷ ts) = ap (λ (us : List Ty). over f d (tree t) ∷ us) (over_list f d ts)

pub made_list : (f : At Ty) (d : ℕ) (us ts : List TType) (n : ℕ) →
    map tree us ≡ map (λ t. over f d (tree t)) (take n ts) → length ts ≤ n → types us ≡ over_types f d (types ts)
made_list f d us ts n done all =
    done ∙ ap (λ (xs : List TType). map (λ t. over f d (tree t)) xs) (take_all n ts all) ∙ sym (over_list f d ts)
