-- A number that the numbers of all parts are less than: the least one.
use Rattle.std.proofs.Common.{◌≡◌, ◌∙◌, ap, sym, subst, ℕ, ◌+◌, ◌<◌, ◌≤◌, max, Bool, List, [], ◌∷◌, length, get_or}
use Rattle.std.proofs.Common.{Vec, Global, arith}
use Rattle.t_types.specs.Tree.{Ty, each, each_file, each_fields}
use Rattle.t_intern.specs.Nodes.{at, type_at, regs_at, fields_at, RegsBelow, FieldsBelow, PartsBelow}
use Rattle.t_intern.specs.Read.{node}
use Rattle.t_intern.specs.declared.shape.Shape.{Shape}
use Rattle.t_intern.specs.declared.shape.Shape.TheVariants.{Code, Tuple}
use Rattle.t_intern.proofs.Lists.{regs_below_more, fields_below_more}
use Rattle.t_intern.proofs.Walked.{reg_below, field_below}

abbrev pub regs_top : List (ℕ × ℕ) → ℕ
regs_top [] = 0
regs_top (x ∷ xs) = max (x.1 + 1) (regs_top xs)

abbrev pub fields_top : List (ℕ × Bool) → ℕ
fields_top [] = 0
fields_top (x ∷ xs) = max (x.0 + 1) (fields_top xs)

pub regs_top_least : (n : ℕ) (xs : List (ℕ × ℕ)) → RegsBelow n xs → regs_top xs ≤ n
regs_top_least n [] h = omega arith
regs_top_least n (x ∷ xs) h = omega (arith, h.0, regs_top_least n xs h.1)

pub fields_top_least : (n : ℕ) (xs : List (ℕ × Bool)) → FieldsBelow n xs → fields_top xs ≤ n
fields_top_least n [] h = omega arith
fields_top_least n (x ∷ xs) h = omega (arith, h.0, fields_top_least n xs h.1)

regs_all : (xs : List (ℕ × ℕ)) → RegsBelow (regs_top xs) xs
regs_all [] = tt
regs_all (x ∷ xs) = (omega arith, regs_below_more (regs_top xs) (regs_top (x ∷ xs)) (omega arith) xs (regs_all xs))

fields_all : (xs : List (ℕ × Bool)) → FieldsBelow (fields_top xs) xs
fields_all [] = tt
fields_all (x ∷ xs) =
    (omega arith, fields_below_more (fields_top xs) (fields_top (x ∷ xs)) (omega arith) xs (fields_all xs))

pub regs_under : (xs : List (ℕ × ℕ)) (i : ℕ) (x : ℕ × ℕ) → i < length xs → x ≡ get_or xs i x → x.1 < regs_top xs
regs_under xs i x l e = reg_below (regs_top xs) xs i x l e (regs_all xs)

pub fields_under : (xs : List (ℕ × Bool)) (i : ℕ) (x : ℕ × Bool) → i < length xs → x ≡ get_or xs i x →
    x.0 < fields_top xs
fields_under xs i x l e = field_below (fields_top xs) xs i x l e (fields_all xs)

-- a type that is taken apart: its parts come before it, and have what it has
module _ (V : ℕ → ℕ → Type 0) (B : ℕ → Type 0) (d : ℕ) (ts : List Ty) (n : ℕ) (s : Shape) (there : n < length ts)
    (is : at ts n ≡ type_at ts (node s)) (parts : PartsBelow n (node s)) (h : each V B d (at ts n)) where
  pub in_code : (owes : ℕ) (regs : Vec (ℕ × ℕ) Global) (xs : List (ℕ × ℕ)) → s ≡ Code owes regs → xs ≡ regs.items →
      (regs_top xs ≤ n) × RegsBelow (length ts) xs × each_file V B (d + owes) (regs_at ts xs)
  in_code owes regs xs e q =
      let b = subst (RegsBelow n) (sym q) (subst (λ s. PartsBelow n (node s)) e parts) in
      let k = subst (each V B d) (is ∙ ap (λ s. type_at ts (node s)) e) h in (
        regs_top_least n xs b,
        regs_below_more n (length ts) (omega (arith, there)) xs b,
        subst (λ xs. each_file V B (d + owes) (regs_at ts xs)) (sym q) k.1,
      )

  pub in_tuple : (fields : Vec (ℕ × Bool) Global) (xs : List (ℕ × Bool)) → s ≡ Tuple fields → xs ≡ fields.items →
      (fields_top xs ≤ n) × FieldsBelow (length ts) xs × each_fields V B d (fields_at ts xs)
  in_tuple fields xs e q =
      let b = subst (FieldsBelow n) (sym q) (subst (λ s. PartsBelow n (node s)) e parts) in
      let k = subst (each V B d) (is ∙ ap (λ s. type_at ts (node s)) e) h in (
        fields_top_least n xs b,
        fields_below_more n (length ts) (omega (arith, there)) xs b,
        subst (λ xs. each_fields V B d (fields_at ts xs)) (sym q) k,
      )
