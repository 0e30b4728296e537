-- A property of each part of a list of types, and of fields.
use Rattle.std.proofs.Common.{ℕ, ◌≤◌, List, [], ◌∷◌, Bool, length, take, All, subst}
use Rattle.std.proofs.lemmas.List.{take_all}
use Rattle.std.proofs.lemmas.List.Elements.{All-nil, All-cons, All-head, All-tail}
use Rattle.a_terms.specs.Tree.{each, each_types, each_fields}
use Rattle.a_terms.specs.Read.{atree, atrees, afields}
use Rattle.a_terms.specs.declared.types.AType.{AType}

module _ (V : ℕ → ℕ → Type 0) (B : ℕ → Type 0) (d : ℕ) where
  abbrev pub TypeHas : AType → Type 0
  TypeHas t = each V B d (atree t)

  abbrev pub FieldHas : AType × Bool → Type 0
  FieldHas x = each V B d (atree x.0)

  pub types_have : (xs : List AType) → each_types V B d (atrees xs) → All TypeHas xs
  types_have [] h = All-nil TypeHas
  types_have (x ∷ xs) h = All-cons TypeHas x xs h.0 (types_have xs h.1)

  list_has : (xs : List AType) → All TypeHas xs → each_types V B d (atrees xs)
  list_has [] h = tt
  list_has (x ∷ xs) h = (All-head TypeHas x xs h, list_has xs (All-tail TypeHas x xs h))

  pub fields_have : (xs : List (AType × Bool)) → each_fields V B d (afields xs) → All FieldHas xs
  fields_have [] h = All-nil FieldHas
  fields_have (x ∷ xs) h = All-cons FieldHas x xs h.0 (fields_have xs h.1)

  tuple_has : (xs : List (AType × Bool)) → All FieldHas xs → each_fields V B d (afields xs)
  tuple_has [] h = tt
  tuple_has (x ∷ xs) h = (All-head FieldHas x xs h, tuple_has xs (All-tail FieldHas x xs h))

  -- the whole has it where every part that a loop went over has
  pub types_have_all : (xs : List AType) (n : ℕ) → All TypeHas (take n xs) → length xs ≤ n →
      each_types V B d (atrees xs)
  types_have_all xs n h all = list_has xs (subst (λ (ys : List AType). All TypeHas ys) (take_all n xs all) h)

  pub fields_have_all : (xs : List (AType × Bool)) (n : ℕ) → All FieldHas (take n xs) → length xs ≤ n →
      each_fields V B d (afields xs)
  fields_have_all xs n h all =
      tuple_has xs (subst (λ (ys : List (AType × Bool)). All FieldHas ys) (take_all n xs all) h)
