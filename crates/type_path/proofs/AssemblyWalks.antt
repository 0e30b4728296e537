-- The search in two types of the assembly language.
use Rattle.std.proofs.Common.{◌≡◌, ◌≢◌, ◌⊎◌, inl, inr, ℕ, zero, suc, ◌+◌, ◌<◌, ◌≤◌, ◌==◌, nat_eq, min, cond, Bool, true}
use Rattle.std.proofs.Common.{false, [], ◌∷◌, Option, Some, None, option_map, if◌then◌else◌, refl, sym, ap, ap₂, ◌∙◌}
use Rattle.std.proofs.Common.{◌↔◌, ◌||◌, ◌&&◌, IsTrue, subst, arith}
use Rattle.std.proofs.lemmas.Bool.{eqb-true, eq-eqb, ne_eqb, cases_order, cases_lt}
use mathlib.Core.Bool.{beq}
use Rattle.t_types.specs.Tree.{Ty, IntTy, VarTy, CodeTy, ExistsTy, TupleTy, TFile, NoRegs, MoreRegs, TFields, NoFields}
use Rattle.t_types.specs.Tree.{MoreFields}
use Rattle.t_types.specs.Fields.{field}
use Rattle.t_types.specs.Fits.{lookup, FieldsFit, Fits}
use Rattle.t_types.proofs.FitsLaws.{fields_fit_same, fits_cases, fits_equal}
use Rattle.t_types.specs.WellFormed.{WellFormed, RegsAbove, WellFormedFields}
use Rattle.type_path.specs.Paths.{Path, place, and_then, follow, IsFirst, or_else, inside}
use Rattle.type_path.specs.Assembly.{Part, Whole, FlagOf, type_head, head, type_of_field, flag_of_field, type_into}
use Rattle.type_path.specs.Assembly.{into}
use Rattle.type_path.specs.Assembly.{part, heads, flag_difference, difference, in_files, in_fields, taken, asked}
use Rattle.type_path.specs.Assembly.{misfit}
use Rattle.type_path.specs.declared.step.Step.{Step}
use Rattle.type_path.specs.declared.step.Step.TheVariants.{Body, Field, Flag, Register}
use Rattle.type_path.proofs.Walks as walks
use Rattle.type_path.proofs.Walks.{or_none, inside_none, or_some, inside_some, inside_empty, or_empty, tested}
use Rattle.type_path.proofs.Walks.{tested_none, tested_empty, tested_more, to_field, to_flag, There, Behind}

-- ---- tests

chosen_none : (x : Bool) (y : Option Path) (p : Path) → (if x then y else Some p) ≡ None → (x ≡ true) × (y ≡ None)
chosen_none true y p e = (refl, e)
chosen_none false y p e = cc

chosen_empty : (x : Bool) (y : Option Path) → (y ≡ Some [] → ⊥) → (if x then y else Some []) ≡ Some [] → x ≡ false
chosen_empty true y f e = absurd (f e)
chosen_empty false y f e = refl

chosen_not_empty : (x : Bool) (y : Option Path) (s : Step) → (y ≡ Some [] → ⊥) →
    (if x then y else Some (s ∷ [])) ≡ Some [] → ⊥
chosen_not_empty true y s f e = f e
chosen_not_empty false y s f e = cc

chosen_more : (x : Bool) (y : Option Path) (s : Step) (p : Path) → (if x then y else Some []) ≡ Some (s ∷ p) →
    (x ≡ true) × (y ≡ Some (s ∷ p))
chosen_more true y s p e = (refl, e)
chosen_more false y s p e = cc

flag_none : (k : ℕ) (x y : Bool) → flag_difference k x y ≡ None → x ≡ y
flag_none k true true e = refl
flag_none k false false e = refl
flag_none k true false e = cc
flag_none k false true e = cc

flag_empty : (k : ℕ) (x : Bool) → (if x then None else Some (Flag k ∷ [])) ≡ Some [] → ⊥
flag_empty k true e = cc
flag_empty k false e = cc

-- ---- nothing is found of equal types alone

mutual
  pub equal : (a b : Ty) → difference a b ≡ None → a ≡ b
  equal IntTy IntTy e = refl
  equal (VarTy i) (VarTy j) e = ap VarTy (eqb-true i j (tested_none (i == j) e))
  equal (CodeTy m f) (CodeTy n g) e =
      let h = chosen_none (m == n) (in_files f g) [] e in ap₂ CodeTy (eqb-true m n h.0) (equal_files f g h.1)
  equal (ExistsTy t) (ExistsTy u) e = ap ExistsTy (equal t u (inside_none Body (difference t u) e))
  equal (TupleTy fs) (TupleTy gs) e = ap TupleTy (equal_fields fs gs 0 e)
  equal a b e = cc

  equal_files : (f g : TFile) → in_files f g ≡ None → f ≡ g
  equal_files NoRegs NoRegs e = refl
  equal_files (MoreRegs r t f) (MoreRegs q u g) e =
      let h = chosen_none (r == q) (or_else (inside (Register r) (difference t u)) (in_files f g))
      (Register (min r q) ∷ []) e in
      let k = or_none (inside (Register r) (difference t u)) (in_files f g) h.1 in
      let e1 = eqb-true r q h.0 in
      let e2 = equal t u (inside_none (Register r) (difference t u) k.0) in let e3 = equal_files f g k.1 in cc
  equal_files f g e = cc

  equal_fields : (fs gs : TFields) (k : ℕ) → in_fields k fs gs ≡ None → fs ≡ gs
  equal_fields NoFields NoFields k e = refl
  equal_fields (MoreFields t x fs) (MoreFields u y gs) k e =
      let h = or_none (inside (Field k) (difference t u)) (or_else (flag_difference k x y) (in_fields (k + 1) fs gs))
      e in
      let i = or_none (flag_difference k x y) (in_fields (k + 1) fs gs) h.1 in
      let e1 = equal t u (inside_none (Field k) (difference t u) h.0) in
      let e2 = flag_none k x y i.0 in let e3 = equal_fields fs gs (k + 1) i.1 in cc
  equal_fields fs gs k e = cc

-- ---- where the path is empty, the heads differ

files_empty : (f g : TFile) → in_files f g ≡ Some [] → ⊥
files_empty NoRegs NoRegs e = cc
files_empty (MoreRegs r t f) (MoreRegs q u g) e =
    chosen_not_empty (r == q) (or_else (inside (Register r) (difference t u)) (in_files f g)) (Register (min r q))
    (or_empty (inside (Register r) (difference t u)) (in_files f g) (inside_empty (Register r) (difference t u))
    (files_empty f g)) e
files_empty f g e = cc

fields_empty : (fs gs : TFields) (k : ℕ) → in_fields k fs gs ≡ Some [] → ⊥
fields_empty NoFields NoFields k e = cc
fields_empty (MoreFields t x fs) (MoreFields u y gs) k e =
    or_empty (inside (Field k) (difference t u)) (or_else (flag_difference k x y) (in_fields (k + 1) fs gs))
    (inside_empty (Field k) (difference t u))
    (or_empty (flag_difference k x y) (in_fields (k + 1) fs gs) (flag_empty k (beq x y)) (fields_empty fs gs (k + 1))) e
fields_empty fs gs k e = cc

type_whole : (a b : Ty) → difference a b ≡ Some [] → type_head a ≢ type_head b
type_whole IntTy IntTy e = λ h. cc
type_whole (VarTy i) (VarTy j) e = λ h.
    let same : i ≡ j = cc in let test = eq-eqb i j same in let other = tested_empty (i == j) e in cc
type_whole (CodeTy m f) (CodeTy n g) e = λ h.
    let same : m ≡ n = cc in
    let test = eq-eqb m n same in let other = chosen_empty (m == n) (in_files f g) (files_empty f g) e in cc
type_whole (ExistsTy t) (ExistsTy u) e = λ h. inside_empty Body (difference t u) e
type_whole (TupleTy fs) (TupleTy gs) e = λ h. fields_empty fs gs 0 e
type_whole a b e = λ h. cc

-- ---- the same of parts

abbrev pub part_difference : Part → Part → Option Path
part_difference (Whole t) (Whole u) = difference t u
part_difference (FlagOf x) (FlagOf y) = tested (beq x y)
part_difference a b = Some []

part_equal : (a b : Part) → part_difference a b ≡ None → a ≡ b
part_equal (Whole t) (Whole u) e = ap Whole (equal t u e)
part_equal (FlagOf true) (FlagOf true) e = refl
part_equal (FlagOf false) (FlagOf false) e = refl
part_equal a b e = cc

no_flag : (t : Ty) (flag : Bool) → type_head t ≢ head (FlagOf flag)
no_flag IntTy flag = λ h. cc
no_flag (VarTy i) flag = λ h. cc
no_flag (CodeTy m f) flag = λ h. cc
no_flag (ExistsTy t) flag = λ h. cc
no_flag (TupleTy fs) flag = λ h. cc

part_whole : (a b : Part) → part_difference a b ≡ Some [] → head a ≢ head b
part_whole (Whole t) (Whole u) e = type_whole t u e
part_whole (FlagOf true) (FlagOf true) e = cc
part_whole (FlagOf false) (FlagOf false) e = cc
part_whole (FlagOf true) (FlagOf false) e = λ h. cc
part_whole (FlagOf false) (FlagOf true) e = λ h. cc
part_whole (Whole t) (FlagOf x) e = no_flag t x
part_whole (FlagOf x) (Whole t) e = λ h. no_flag t x (sym h)

-- ---- files

-- a register that is not above all those that the file may have
absent : (f : TFile) (low n : ℕ) → RegsAbove low n f → (q : ℕ) → q ≤ low → lookup f q ≡ None
absent NoRegs low n h q le = refl
absent (MoreRegs r t f) low n h q le =
    let lt = h.0 in
    let other : nat_eq r q ≡ false = ne_eqb r q (λ e. omega (arith, lt, e, le)) in
    ap (λ x. cond x (Some t) (lookup f q)) other ∙ absent f r n h.3 q (omega (arith, lt, le))

hit : (r : ℕ) (t : Ty) (f : TFile) → lookup (MoreRegs r t f) r ≡ Some t
hit r t f = ap (λ x. cond x (Some t) (lookup f r)) (eq-eqb r r refl)

-- below the first register there is none
low_absent : (r : ℕ) (t : Ty) (f : TFile) (n : ℕ) → RegsAbove r n f → (q : ℕ) → q < r →
    lookup (MoreRegs r t f) q ≡ None
low_absent r t f n h q lt =
    let other : nat_eq r q ≡ false = ne_eqb r q (λ e. omega (arith, lt, e)) in
    ap (λ x. cond x (Some t) (lookup f q)) other ∙ absent f r n h q (omega (arith, lt))

above : (r : ℕ) (t : Ty) (f : TFile) (q : ℕ) → r < q → lookup (MoreRegs r t f) q ≡ lookup f q
above r t f q lt =
    let other : nat_eq r q ≡ false = ne_eqb r q (λ e. omega (arith, lt, e)) in
    ap (λ x. cond x (Some t) (lookup f q)) other

abbrev found_at : TFile → ℕ → Option Part
found_at f r = option_map Whole (lookup f r)

abbrev Then : Path → Option Part → Option Part → Type 0
Then p x y = There part_difference p x y

moved : (p : Path) (x y v w : Option Part) → v ≡ x → w ≡ y → Then p x y → Then p v w
moved p x y v w e1 e2 h = subst (λ z. Then p z w) (sym e1) (subst (λ z. Then p x z) (sym e2) h)

record AtFiles (f g : TFile) (s : Step) (p : Path) : Type 0 where
  r : ℕ
  step : s ≡ Register r
  before : (q : ℕ) → q < r → lookup f q ≡ lookup g q
  there : Then p (found_at f r) (found_at g r)

-- a register that the one file has first, and the other one lacks
lacking : (r : ℕ) (t : Ty) (f g : TFile) (n k : ℕ) → RegsAbove r n f → RegsAbove r k g →
    (s : Step) (p : Path) → Register r ≡ s → [] ≡ p → AtFiles (MoreRegs r t f) g s p
lacking r t f g n k h i s p e1 e2 = record {
  r = r;
  step = sym e1;
  before = λ q lt. low_absent r t f n h q lt ∙ sym (absent g r k i q (omega (arith, lt)));
  there = moved p (Some (Whole t)) None (found_at (MoreRegs r t f) r) (found_at g r)
      (ap (option_map Whole) (hit r t f)) (ap (option_map Whole) (absent g r k i r (omega arith))) (sym e2);
}

lacked : (r : ℕ) (t : Ty) (f g : TFile) (n k : ℕ) → RegsAbove r n f → RegsAbove r k g →
    (s : Step) (p : Path) → Register r ≡ s → [] ≡ p → AtFiles g (MoreRegs r t f) s p
lacked r t f g n k h i s p e1 e2 = record {
  r = r;
  step = sym e1;
  before = λ q lt. absent g r k i q (omega (arith, lt)) ∙ sym (low_absent r t f n h q lt);
  there = moved p None (Some (Whole t)) (found_at g r) (found_at (MoreRegs r t f) r)
      (ap (option_map Whole) (absent g r k i r (omega arith))) (ap (option_map Whole) (hit r t f)) (sym e2);
}

same_register : (r : ℕ) (t u : Ty) (f g : TFile) (n k : ℕ) → RegsAbove r n f → RegsAbove r k g → (s : Step) (p : Path) →
    (Register r ≡ s) × (difference t u ≡ Some p) → AtFiles (MoreRegs r t f) (MoreRegs r u g) s p
same_register r t u f g n k h i s p e = record {
  r = r;
  step = sym e.0;
  before = λ q lt. low_absent r t f n h q lt ∙ sym (low_absent r u g k i q lt);
  there = moved p (Some (Whole t)) (Some (Whole u)) (found_at (MoreRegs r t f) r) (found_at (MoreRegs r u g) r)
      (ap (option_map Whole) (hit r t f)) (ap (option_map Whole) (hit r u g)) e.1;
}

-- where something differs, it is above what both lack
is_above : (f g : TFile) (r n k : ℕ) → RegsAbove r n f → RegsAbove r k g → (q : ℕ) (p : Path) →
    Then p (found_at f q) (found_at g q) → r < q
is_above f g r n k h i q p there = by (cases_lt r q)
  where
    by : (r < q) ⊎ (q ≤ r) → r < q
    by (inl lt) = lt
    by (inr le) =
        let e1 = ap (option_map Whole) (absent f r n h q le) in
        let e2 = ap (option_map Whole) (absent g r k i q le) in
        absurd (moved p (found_at f q) (found_at g q) None None (sym e1) (sym e2) there)

later_before : (r : ℕ) (t u : Ty) (f g : TFile) → t ≡ u → (q : ℕ) → lookup f q ≡ lookup g q →
    lookup (MoreRegs r t f) q ≡ lookup (MoreRegs r u g) q
later_before r t u f g e q h = ap₂ (λ x y. cond (nat_eq r q) (Some x) y) e h

later_register : (r : ℕ) (t u : Ty) (f g : TFile) (n k : ℕ) → RegsAbove r n f → RegsAbove r k g → t ≡ u →
    (s : Step) (p : Path) → AtFiles f g s p → AtFiles (MoreRegs r t f) (MoreRegs r u g) s p
later_register r t u f g n k h i e s p x =
    let lt = is_above f g r n k h i x.r p x.there in
    record {
      r = x.r;
      step = x.step;
      before = λ q below. later_before r t u f g e q (x.before q below);
      there = moved p (found_at f x.r) (found_at g x.r) (found_at (MoreRegs r t f) x.r) (found_at (MoreRegs r u g) x.r)
          (ap (option_map Whole) (above r t f x.r lt)) (ap (option_map Whole) (above r u g x.r lt)) x.there;
    }

abbrev chosen : Bool → Option Path → (r q : ℕ) → Option Path
chosen x y r q = if x then y else Some (Register (min r q) ∷ [])

not_same : (r q : ℕ) (y : Option Path) (s : Step) (p : Path) → (r ≡ q → ⊥) → chosen (r == q) y r q ≡ Some (s ∷ p) →
    (Register (min r q) ≡ s) × ([] ≡ p)
not_same r q y s p ne e =
    let h : chosen false y r q ≡ Some (s ∷ p) = sym (ap (λ x. chosen x y r q) (ne_eqb r q ne)) ∙ e in
    let e1 : Register (min r q) ≡ s = cc in let e2 : [] ≡ p = cc in (e1, e2)

are_same : (r q : ℕ) (y : Option Path) (s : Step) (p : Path) → r ≡ q → chosen (r == q) y r q ≡ Some (s ∷ p) →
    y ≡ Some (s ∷ p)
are_same r q y s p same e = sym (ap (λ x. chosen x y r q) (eq-eqb r q same)) ∙ e

files : (f g : TFile) (low n other k : ℕ) → RegsAbove low n f → RegsAbove other k g → (s : Step) (p : Path) →
    in_files f g ≡ Some (s ∷ p) → AtFiles f g s p
files NoRegs NoRegs low n other k h i s p e = cc
files NoRegs (MoreRegs q u g) low n other k h i s p e =
    let e1 : Register q ≡ s = cc in let e2 : [] ≡ p = cc in lacked q u g NoRegs k n i.3 tt s p e1 e2
files (MoreRegs r t f) NoRegs low n other k h i s p e =
    let e1 : Register r ≡ s = cc in let e2 : [] ≡ p = cc in lacking r t f NoRegs n k h.3 tt s p e1 e2
files (MoreRegs r t f) (MoreRegs q u g) low n other k h i s p e =
    elim (cases_order r q) as (λ x. AtFiles (MoreRegs r t f) (MoreRegs q u g) s p) [
      | inl same ↦ subst (λ z. AtFiles (MoreRegs r t f) (MoreRegs z u g) s p) same
          (elim (or_some (inside (Register r) (difference t u)) (in_files f g) (s ∷ p)
          (are_same r q (or_else (inside (Register r) (difference t u)) (in_files f g)) s p same e))
          as (λ x. AtFiles (MoreRegs r t f) (MoreRegs r u g) s p) [
            | inl d ↦ same_register r t u f g n k h.3 (subst (λ z. RegsAbove z k g) (sym same) i.3) s p
                (inside_some (Register r) (difference t u) s p d)
            | inr d ↦ later_register r t u f g n k h.3 (subst (λ z. RegsAbove z k g) (sym same) i.3)
                (equal t u (inside_none (Register r) (difference t u) d.0)) s p
                (files f g r n q k h.3 i.3 s p d.1)
          ])
      | inr lt ↦ elim lt as (λ x. AtFiles (MoreRegs r t f) (MoreRegs q u g) s p) [
        | inl lt ↦
            let d = not_same r q (or_else (inside (Register r) (difference t u)) (in_files f g)) s p
            (λ same. omega (arith, lt, same)) e in
            let low : min r q ≡ r = omega (arith, lt) in
            lacking r t f (MoreRegs q u g) n k h.3 (lt, i.1, i.2, i.3) s p (sym (ap Register low) ∙ d.0) d.1
        | inr lt ↦
            let d = not_same r q (or_else (inside (Register r) (difference t u)) (in_files f g)) s p
            (λ same. omega (arith, lt, same)) e in
            let low : min r q ≡ q = omega (arith, lt) in
            lacked q u g (MoreRegs r t f) k n i.3 (lt, h.1, h.2, h.3) s p (sym (ap Register low) ∙ d.0) d.1
      ]
    ]

-- ---- fields

abbrev type_at : TFields → ℕ → Option Part
type_at fs i = option_map type_of_field (field fs i)

abbrev flag_at : TFields → ℕ → Option Part
flag_at fs i = option_map flag_of_field (field fs i)

-- fields from k on: the step is to the type of field k + i or to its flag, and the i fields before it are equal
record AtFields (fs gs : TFields) (k : ℕ) (s : Step) (p : Path) : Type 0 where
  i : ℕ
  before : (j : ℕ) → j < i → field fs j ≡ field gs j
  step : ((s ≡ Field (k + i)) × There part_difference p (type_at fs i) (type_at gs i))
      ⊎ ((s ≡ Flag (k + i)) × (type_at fs i ≡ type_at gs i) × There part_difference p (flag_at fs i) (flag_at gs i))

none_before : (fs gs : TFields) (j : ℕ) → j < 0 → field fs j ≡ field gs j
none_before fs gs j h = let no : ⊥ = omega (arith, h) in absurd no

one_more : (t u : Ty) (x y : Bool) (fs gs : TFields) (n : ℕ) → t ≡ u → x ≡ y →
    ((j : ℕ) → j < n → field fs j ≡ field gs j) → (j : ℕ) → j < suc n →
    field (MoreFields t x fs) j ≡ field (MoreFields u y gs) j
one_more t u x y fs gs n e same h zero lt = cc
one_more t u x y fs gs n e same h (suc j) lt = h j (omega (arith, lt))

first_type : (t u : Ty) (x y : Bool) (fs gs : TFields) (k : ℕ) (s : Step) (p : Path) →
    (Field k ≡ s) × (difference t u ≡ Some p) → AtFields (MoreFields t x fs) (MoreFields u y gs) k s p
first_type t u x y fs gs k s p h = record {
  i = 0;
  before = none_before (MoreFields t x fs) (MoreFields u y gs);
  step = inl (to_field s k (k + 0) (sym h.0) (omega arith), h.1);
}

flag_step : (k : ℕ) (x y : Bool) (s : Step) (p : Path) → flag_difference k x y ≡ Some (s ∷ p) →
    (s ≡ Flag k) × (tested (beq x y) ≡ Some p)
flag_step k true true s p e = cc
flag_step k false false s p e = cc
flag_step k true false s p e = let e1 : s ≡ Flag k = cc in let e2 : [] ≡ p = cc in (e1, ap Some e2)
flag_step k false true s p e = let e1 : s ≡ Flag k = cc in let e2 : [] ≡ p = cc in (e1, ap Some e2)

first_flag : (t u : Ty) (x y : Bool) (fs gs : TFields) (k : ℕ) (s : Step) (p : Path) → t ≡ u →
    flag_difference k x y ≡ Some (s ∷ p) → AtFields (MoreFields t x fs) (MoreFields u y gs) k s p
first_flag t u x y fs gs k s p same e = let h = flag_step k x y s p e in record {
  i = 0;
  before = none_before (MoreFields t x fs) (MoreFields u y gs);
  step = inr (to_flag s k (k + 0) h.0 (omega arith), ap (λ z. Some (Whole z)) same, h.1);
}

later_step : (fs gs : TFields) (k i : ℕ) (s : Step) (p : Path) →
    ((s ≡ Field (k + 1 + i)) × There part_difference p (type_at fs i) (type_at gs i))
    ⊎ ((s ≡ Flag (k + 1 + i)) × (type_at fs i ≡ type_at gs i) × There part_difference p (flag_at fs i) (flag_at gs i)) →
    ((s ≡ Field (k + suc i)) × There part_difference p (type_at fs i) (type_at gs i))
    ⊎ ((s ≡ Flag (k + suc i)) × (type_at fs i ≡ type_at gs i) × There part_difference p (flag_at fs i) (flag_at gs i))
later_step fs gs k i s p (inl h) = inl (to_field s (k + 1 + i) (k + suc i) h.0 (omega arith), h.1)
later_step fs gs k i s p (inr h) = inr (to_flag s (k + 1 + i) (k + suc i) h.0 (omega arith), h.1, h.2)

later_field : (t u : Ty) (x y : Bool) (fs gs : TFields) (k : ℕ) (s : Step) (p : Path) → t ≡ u → x ≡ y →
    AtFields fs gs (k + 1) s p → AtFields (MoreFields t x fs) (MoreFields u y gs) k s p
later_field t u x y fs gs k s p e same h = record {
  i = suc h.i;
  before = one_more t u x y fs gs h.i e same h.before;
  step = later_step fs gs k h.i s p h.step;
}

fields : (fs gs : TFields) (k : ℕ) (s : Step) (p : Path) → in_fields k fs gs ≡ Some (s ∷ p) → AtFields fs gs k s p
fields NoFields NoFields k s p e = cc
fields NoFields (MoreFields u y gs) k s p e =
    let e1 : Field k ≡ s = cc in let e2 : [] ≡ p = cc in record {
      i = 0;
      before = none_before NoFields (MoreFields u y gs);
      step = inl (to_field s k (k + 0) (sym e1) (omega arith), sym e2);
    }
fields (MoreFields t x fs) NoFields k s p e =
    let e1 : Field k ≡ s = cc in let e2 : [] ≡ p = cc in record {
      i = 0;
      before = none_before (MoreFields t x fs) NoFields;
      step = inl (to_field s k (k + 0) (sym e1) (omega arith), sym e2);
    }
fields (MoreFields t x fs) (MoreFields u y gs) k s p e =
    elim (or_some (inside (Field k) (difference t u)) (or_else (flag_difference k x y) (in_fields (k + 1) fs gs))
    (s ∷ p) e) as (λ z. AtFields (MoreFields t x fs) (MoreFields u y gs) k s p) [
      | inl h ↦ first_type t u x y fs gs k s p (inside_some (Field k) (difference t u) s p h)
      | inr h ↦
          let same = equal t u (inside_none (Field k) (difference t u) h.0) in
          elim (or_some (flag_difference k x y) (in_fields (k + 1) fs gs) (s ∷ p) h.1)
          as (λ z. AtFields (MoreFields t x fs) (MoreFields u y gs) k s p) [
            | inl d ↦ first_flag t u x y fs gs k s p same d
            | inr d ↦ later_field t u x y fs gs k s p same (flag_none k x y d.0) (fields fs gs (k + 1) s p d.1)
          ]
    ]

-- ---- where the path begins with a step

abbrev Goes : Part → Part → Step → Path → Type 0
Goes a b s p = Behind head into part_difference a b s p

code_before : (m : ℕ) (f g : TFile) (n : ℕ) → ((q : ℕ) → q < n → lookup f q ≡ lookup g q) → (r : Step) →
    place r < place (Register n) → type_into r (CodeTy m f) ≡ type_into r (CodeTy m g)
code_before m f g n h (Register q) lt = ap (option_map Whole) (h q (omega (arith, lt)))
code_before m f g n h r lt = refl

code : (m : ℕ) (f g : TFile) (s : Step) (p : Path) → AtFiles f g s p →
    Goes (Whole (CodeTy m f)) (Whole (CodeTy m g)) s p
code m f g s p h =
    subst (λ z. Goes (Whole (CodeTy m f)) (Whole (CodeTy m g)) z p) (sym h.step)
    (record { same = refl; before = code_before m f g h.r h.before; there = h.there })

type_before : (fs gs : TFields) (n : ℕ) → ((j : ℕ) → j < n → field fs j ≡ field gs j) → (r : Step) →
    place r < place (Field n) → type_into r (TupleTy fs) ≡ type_into r (TupleTy gs)
type_before fs gs n h (Field j) lt = ap (option_map type_of_field) (h j (omega (arith, lt)))
type_before fs gs n h (Flag j) lt = ap (option_map flag_of_field) (h j (omega (arith, lt)))
type_before fs gs n h r lt = refl

up_to : (fs gs : TFields) (n j : ℕ) → ((j : ℕ) → j < n → field fs j ≡ field gs j) → type_at fs n ≡ type_at gs n →
    j ≤ n → (j < n) ⊎ (n ≤ j) → type_at fs j ≡ type_at gs j
up_to fs gs n j h e le (inl lt) = ap (option_map type_of_field) (h j lt)
up_to fs gs n j h e le (inr ge) =
    let same : n ≡ j = omega (arith, le, ge) in subst (λ z. type_at fs z ≡ type_at gs z) same e

flag_before : (fs gs : TFields) (n : ℕ) → ((j : ℕ) → j < n → field fs j ≡ field gs j) → type_at fs n ≡ type_at gs n →
    (r : Step) → place r < place (Flag n) → type_into r (TupleTy fs) ≡ type_into r (TupleTy gs)
flag_before fs gs n h e (Field j) lt = up_to fs gs n j h e (omega (arith, lt)) (cases_lt j n)
flag_before fs gs n h e (Flag j) lt = ap (option_map flag_of_field) (h j (omega (arith, lt)))
flag_before fs gs n h e r lt = refl

tuple : (fs gs : TFields) (s : Step) (p : Path) → AtFields fs gs 0 s p →
    Goes (Whole (TupleTy fs)) (Whole (TupleTy gs)) s p
tuple fs gs s p h = by h.step
  where
    by : ((s ≡ Field (0 + h.i)) × There part_difference p (type_at fs h.i) (type_at gs h.i))
        ⊎ ((s ≡ Flag (0 + h.i)) × (type_at fs h.i ≡ type_at gs h.i)
        × There part_difference p (flag_at fs h.i) (flag_at gs h.i)) →
        Goes (Whole (TupleTy fs)) (Whole (TupleTy gs)) s p
    by (inl e) =
        subst (λ z. Goes (Whole (TupleTy fs)) (Whole (TupleTy gs)) z p)
        (sym (to_field s (0 + h.i) h.i e.0 (omega arith)))
        (record { same = refl; before = type_before fs gs h.i h.before; there = e.1 })
    by (inr e) =
        subst (λ z. Goes (Whole (TupleTy fs)) (Whole (TupleTy gs)) z p)
        (sym (to_flag s (0 + h.i) h.i e.0 (omega arith)))
        (record { same = refl; before = flag_before fs gs h.i h.before e.1; there = e.2 })

some_before : (t u : Ty) (r : Step) → place r < 2 → type_into r (ExistsTy t) ≡ type_into r (ExistsTy u)
some_before t u Body lt = let no : ⊥ = omega (arith, lt) in absurd no
some_before t u r lt = refl

-- the files of a part of a program's types are in order
abbrev pub IsFine : Part → Type 0
IsFine (Whole t) = (n : ℕ) × WellFormed n t
IsFine (FlagOf flag) = Unit {0}

code_behind : (m n : ℕ) (f g : TFile) (s : Step) (p : Path) → IsFine (Whole (CodeTy m f)) →
    IsFine (Whole (CodeTy n g)) → difference (CodeTy m f) (CodeTy n g) ≡ Some (s ∷ p) → Goes (Whole (CodeTy m f))
    (Whole (CodeTy n g)) s p
code_behind m n f g s p fa fb e =
    let h = chosen_more (m == n) (in_files f g) s p e in
    subst (λ z. Goes (Whole (CodeTy m f)) (Whole (CodeTy z g)) s p) (eqb-true m n h.0)
    (code m f g s p (files f g 0 (fa.0 + m) 0 (fb.0 + n) fa.1.1 fb.1.1 s p h.1))

behind : (a b : Part) (s : Step) (p : Path) → IsFine a → IsFine b → part_difference a b ≡ Some (s ∷ p) → Goes a b s p
behind (Whole IntTy) (Whole IntTy) s p fa fb e = cc
behind (Whole (VarTy i)) (Whole (VarTy j)) s p fa fb e = absurd (tested_more (i == j) s p e)
behind (Whole (CodeTy m f)) (Whole (CodeTy n g)) s p fa fb e = code_behind m n f g s p fa fb e
behind (Whole (ExistsTy t)) (Whole (ExistsTy u)) s p fa fb e = let k = inside_some Body (difference t u) s p e in
    subst (λ z. Goes (Whole (ExistsTy t)) (Whole (ExistsTy u)) z p) k.0
    (record { same = refl; before = some_before t u; there = k.1 })
behind (Whole (TupleTy fs)) (Whole (TupleTy gs)) s p fa fb e = tuple fs gs s p (fields fs gs 0 s p e)
behind (FlagOf x) (FlagOf y) s p fa fb e = absurd (tested_more (beq x y) s p e)
behind a b s p fa fb e = cc

-- ---- parts of types whose files are in order

fine_field : (fs : TFields) (n i : ℕ) → WellFormedFields n fs → (u : Part) → type_at fs i ≡ Some u → IsFine u
fine_field NoFields n i h u e = cc
fine_field (MoreFields t x fs) n zero h u e =
    let same : Whole t ≡ u = cc in subst IsFine same (n, h.0)
fine_field (MoreFields t x fs) n (suc i) h u e = fine_field fs n i h.1 u e

fine_flag : (fs : TFields) (i : ℕ) (u : Part) → flag_at fs i ≡ Some u → IsFine u
fine_flag NoFields i u e = cc
fine_flag (MoreFields t x fs) zero u e = let same : FlagOf x ≡ u = cc in subst IsFine same tt
fine_flag (MoreFields t x fs) (suc i) u e = fine_flag fs i u e

fine_in : (x : Bool) (t : Ty) (y : Option Ty) (n : ℕ) (u : Part) → WellFormed n t →
    (option_map Whole y ≡ Some u → IsFine u) → option_map Whole (cond x (Some t) y) ≡ Some u → IsFine u
fine_in true t y n u h go e = let same : Whole t ≡ u = cc in subst IsFine same (n, h)
fine_in false t y n u h go e = go e

fine_register : (f : TFile) (low n q : ℕ) → RegsAbove low n f → (u : Part) → found_at f q ≡ Some u → IsFine u
fine_register NoRegs low n q h u e = cc
fine_register (MoreRegs r t f) low n q h u e =
    fine_in (nat_eq r q) t (lookup f q) n u h.2 (fine_register f r n q h.3 u) e

keeps : (s : Step) (t u : Part) → IsFine t → into s t ≡ Some u → IsFine u
keeps s (FlagOf flag) u h e = cc
keeps Body (Whole (ExistsTy t)) u h e = let same : Whole t ≡ u = cc in subst IsFine same (h.0 + 1, h.1.1)
keeps (Field i) (Whole (TupleTy fs)) u h e = fine_field fs h.0 i h.1 u e
keeps (Flag i) (Whole (TupleTy fs)) u h e = fine_flag fs i u e
keeps (Register r) (Whole (CodeTy m f)) u h e = fine_register f 0 (h.0 + m) r h.1.1 u e
keeps s (Whole t) u h e = cc

-- ---- the laws

pub first : (a b : Ty) (n m : ℕ) → WellFormed n a → WellFormed m b → (p : Path) →
    difference a b ≡ Some p ↔ IsFirst (heads a) (heads b) p
first a b n m fa fb p = (
  walks.first head into part_difference IsFine keeps part_equal (λ a b f g. part_whole a b) behind (Whole a) (Whole b)
      p (n, fa) (m, fb),
  walks.found head into part_difference IsFine keeps part_equal (λ a b f g. part_whole a b) behind (Whole a) (Whole b)
      p (n, fa) (m, fb),
)

-- ---- equal types

same_flag : (x : Bool) → beq x x ≡ true
same_flag true = refl
same_flag false = refl

mutual
  same_type : (t : Ty) → difference t t ≡ None
  same_type IntTy = refl
  same_type (VarTy i) = rw (eq-eqb i i refl) refl
  same_type (CodeTy m f) = rw (eq-eqb m m refl) (same_file f)
  same_type (ExistsTy t) = rw (same_type t) refl
  same_type (TupleTy fs) = same_fields fs 0

  same_file : (f : TFile) → in_files f f ≡ None
  same_file NoRegs = refl
  same_file (MoreRegs r t f) = rw (eq-eqb r r refl, same_type t) (same_file f)

  same_fields : (fs : TFields) (k : ℕ) → in_fields k fs fs ≡ None
  same_fields NoFields k = refl
  same_fields (MoreFields t x fs) k = rw (same_type t, same_flag x) (same_fields fs (k + 1))

pub none : (a b : Ty) → difference a b ≡ None ↔ a ≡ b
none a b = (equal a b, λ e. subst (λ c. difference a c ≡ None) e (same_type a))

-- ---- what fits

flag_fits : (x y : Bool) → (x || (true && y)) ≡ y → IsTrue x → IsTrue y
flag_fits true y e h = sym e
flag_fits false y e h = cc

fits_flag : (x y : Bool) → (IsTrue x → IsTrue y) → (x || (true && y)) ≡ y
fits_flag true true h = refl
fits_flag true false h = sym (h refl)
fits_flag false true h = refl
fits_flag false false h = refl

taken_fits : (fs gs : TFields) → taken true fs gs ≡ gs → FieldsFit gs fs
taken_fits NoFields NoFields e = tt
taken_fits NoFields (MoreFields u y gs) e = cc
taken_fits (MoreFields t x fs) NoFields e = cc
taken_fits (MoreFields t x fs) (MoreFields u y gs) e =
    let e1 : t ≡ u = cc in
    let e2 : (x || (true && y)) ≡ y = cc in
    let e3 : taken true fs gs ≡ gs = cc in (sym e1, flag_fits x y e2, taken_fits fs gs e3)

fits_taken : (fs gs : TFields) → FieldsFit gs fs → taken true fs gs ≡ gs
fits_taken NoFields NoFields h = refl
fits_taken NoFields (MoreFields u y gs) h = absurd h
fits_taken (MoreFields t x fs) NoFields h = absurd h
fits_taken (MoreFields t x fs) (MoreFields u y gs) h =
    let e1 = h.0 in let e2 = fits_flag x y h.1 in let e3 = fits_taken fs gs h.2 in cc

asked_fits : (wanted found : Ty) → asked wanted found ≡ found → Fits found wanted
asked_fits (TupleTy fs) (TupleTy gs) e =
    let same : taken true fs gs ≡ gs = cc in taken_fits fs gs same
asked_fits wanted found e = fits_equal found wanted (sym e)

same_asked : (t : Ty) → asked t t ≡ t
same_asked (TupleTy fs) = ap TupleTy (fits_taken fs fs (fields_fit_same fs))
same_asked t = refl

fits_asked : (wanted found : Ty) → Fits found wanted → asked wanted found ≡ found
fits_asked (TupleTy fs) (TupleTy gs) h = ap TupleTy (fits_taken fs gs h)
fits_asked wanted found h =
    elim (fits_cases found wanted h) [
      | inl e ↦ subst (λ w. asked w found ≡ found) e (same_asked found)
      | inr k ↦ subst (λ w. asked w found ≡ found) (sym k.3)
          (subst (λ f. asked (TupleTy k.1) f ≡ f) (sym k.2) (ap TupleTy (fits_taken k.1 k.0 k.4)))
    ]

pub misfit_none : (wanted found : Ty) → misfit wanted found ≡ None ↔ Fits found wanted
misfit_none wanted found = (
  λ e. asked_fits wanted found (equal (asked wanted found) found e),
  λ h. (none (asked wanted found) found).1 (fits_asked wanted found h),
)

taken_fine : (n : ℕ) (fs gs : TFields) → WellFormedFields n fs → WellFormedFields n (taken true fs gs)
taken_fine n NoFields gs h = tt
taken_fine n (MoreFields t x fs) NoFields h = h
taken_fine n (MoreFields t x fs) (MoreFields u y gs) h = (h.0, taken_fine n fs gs h.1)

asked_fine : (n : ℕ) (wanted found : Ty) → WellFormed n wanted → WellFormed n (asked wanted found)
asked_fine n (TupleTy fs) (TupleTy gs) h = taken_fine n fs gs h
asked_fine n wanted found h = h

pub misfit_first : (wanted found : Ty) (n m : ℕ) → WellFormed n wanted → WellFormed m found → (p : Path) →
    misfit wanted found ≡ Some p ↔ IsFirst (heads (asked wanted found)) (heads found) p
misfit_first wanted found n m h k = first (asked wanted found) found n m (asked_fine n wanted found h) k

-- ---- at the place of a misfit what is asked is what is wanted

taken_type : (fs gs : TFields) (i : ℕ) → type_at (taken true fs gs) i ≡ type_at fs i
taken_type NoFields gs i = refl
taken_type (MoreFields t x fs) NoFields i = refl
taken_type (MoreFields t x fs) (MoreFields u y gs) zero = refl
taken_type (MoreFields t x fs) (MoreFields u y gs) (suc i) = taken_type fs gs i

taken_one : (x y : Bool) (p : Path) → tested (beq (x || (true && y)) y) ≡ Some p → (x || (true && y)) ≡ x
taken_one true y p e = refl
taken_one false true p e = cc
taken_one false false p e = refl

taken_flag : (fs gs : TFields) (i : ℕ) (p : Path) →
    There part_difference p (flag_at (taken true fs gs) i) (flag_at gs i) → flag_at (taken true fs gs) i ≡ flag_at fs i
taken_flag NoFields gs i p h = refl
taken_flag (MoreFields t x fs) NoFields i p h = refl
taken_flag (MoreFields t x fs) (MoreFields u y gs) zero p h = ap (λ z. Some (FlagOf z)) (taken_one x y p h)
taken_flag (MoreFields t x fs) (MoreFields u y gs) (suc i) p h = taken_flag fs gs i p h

abbrev behind_part : Path → Option Part → Option Part
behind_part p x = and_then x (follow into p)

shown_fields : (fs gs : TFields) (s : Step) (p : Path) → AtFields (taken true fs gs) gs 0 s p →
    part (s ∷ p) (TupleTy (taken true fs gs)) ≡ part (s ∷ p) (TupleTy fs)
shown_fields fs gs s p h = by h.step
  where
    by : ((s ≡ Field (0 + h.i)) × There part_difference p (type_at (taken true fs gs) h.i) (type_at gs h.i))
        ⊎ ((s ≡ Flag (0 + h.i)) × (type_at (taken true fs gs) h.i ≡ type_at gs h.i)
        × There part_difference p (flag_at (taken true fs gs) h.i) (flag_at gs h.i)) →
        part (s ∷ p) (TupleTy (taken true fs gs)) ≡ part (s ∷ p) (TupleTy fs)
    by (inl e) =
        subst (λ z. part (z ∷ p) (TupleTy (taken true fs gs)) ≡ part (z ∷ p) (TupleTy fs))
        (sym (to_field s (0 + h.i) h.i e.0 (omega arith))) (ap (behind_part p) (taken_type fs gs h.i))
    by (inr e) =
        subst (λ z. part (z ∷ p) (TupleTy (taken true fs gs)) ≡ part (z ∷ p) (TupleTy fs))
        (sym (to_flag s (0 + h.i) h.i e.0 (omega arith))) (ap (behind_part p) (taken_flag fs gs h.i p e.2))

pub misfit_shown : (wanted found : Ty) (p : Path) → misfit wanted found ≡ Some p →
    part p (asked wanted found) ≡ part p wanted
misfit_shown (TupleTy fs) (TupleTy gs) [] e = absurd (fields_empty (taken true fs gs) gs 0 e)
misfit_shown (TupleTy fs) (TupleTy gs) (s ∷ p) e = shown_fields fs gs s p (fields (taken true fs gs) gs 0 s p e)
misfit_shown wanted found p e = refl
