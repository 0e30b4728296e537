-- What an instruction leaves said of the registers.
use Rattle.std.proofs.Common.{◌≡◌, ◌∙◌, ◌≤◌, ℕ, ◌+◌, ◌-◌, nat_eq, nat_lt, Bool, true, false, cond, List, ◌++◌, Option}
use Rattle.std.proofs.Common.{Some, None, IsSome, refl, sym, ap, ap₂, arith, codes, decimal, option_map, suc}
use Rattle.std.proofs.lemmas.Bool.Decides.{nat_tests}
use Rattle.idx_core.specs.Over.{shifted}
use Rattle.t_types.specs.Tree.{Ty, IntTy, VarTy, CodeTy, ExistsTy, TupleTy, TFile, NoRegs, MoreRegs, TFields, NoFields}
use Rattle.t_types.specs.Tree.{MoreFields, over, over_file, over_fields, shift}
use Rattle.t_types.specs.Fits.{RegTypes}
use Rattle.t_terms.specs.Tree.{Arith, Bnz, Ld, Malloc, Mov, St, Unpack}
use Rattle.t_terms.specs.Registers.{with_reg, raised}
use Rattle.idx_core.specs.Separator.{separator}
use Rattle.t_trace.specs.Line.{fields_text, flag_text, names_text, regs_text, text_at, variable_text}
use Rattle.listing.specs.Listing.{OthersStay, SetIsKnown, said_of}

-- a type says the same under one more name of the place
abbrev said : Bool → (bound free : ℕ) → List ℕ
said is_bound bound free = cond is_bound (codes "t" ++ decimal bound) (codes "a" ++ decimal free)

variable_stays : (n d i : ℕ) → text_at (n + 1) d (shifted VarTy 1 d i) ≡ text_at n d (VarTy i)
variable_stays n d i = go (nat_lt i d) refl
  where
    go : (b : Bool) → nat_lt i d ≡ b → text_at (n + 1) d (cond b (VarTy i) (VarTy (i + 1))) ≡ variable_text n d i
    go true e =
        ap (λ (b : Bool). said b (d - 1 - i) (n + 1 - 1 - (i - d))) e
        ∙ sym (ap (λ (b : Bool). said b (d - 1 - i) (n - 1 - (i - d))) e)
    go false e =
        let no : nat_lt (i + 1) d ≡ false = grind (arith, nat_tests, e) in
        let same : n + 1 - 1 - (i + 1 - d) ≡ n - 1 - (i - d) =
        let le : d ≤ i = grind (arith, nat_tests, e) in omega (arith, le) in
        ap (λ (b : Bool). said b (d - 1 - (i + 1)) (n + 1 - 1 - (i + 1 - d))) no
        ∙ ap (λ (k : ℕ). codes "a" ++ decimal k) same
        ∙ sym (ap (λ (b : Bool). said b (d - 1 - i) (n - 1 - (i - d))) e)

mutual
  type_stays : (n d : ℕ) (t : Ty) → text_at (n + 1) d (over (shifted VarTy 1) d t) ≡ text_at n d t
  type_stays n d IntTy = refl
  type_stays n d (VarTy i) = variable_stays n d i
  type_stays n d (CodeTy owes file) =
      ap (λ (s : List ℕ). codes "all[" ++ (names_text 0 d owes ++ (codes "]{" ++ (s ++ codes "}"))))
      (file_stays n (d + owes) 0 file)
  type_stays n d (ExistsTy t) =
      ap (λ (s : List ℕ). codes "some t" ++ (decimal d ++ (codes ". " ++ s))) (type_stays n (d + 1) t)
  type_stays n d (TupleTy fs) = ap (λ (s : List ℕ). codes "<" ++ (s ++ codes ">")) (fields_stay n d 0 fs)

  file_stays : (n d k : ℕ) (file : TFile) →
      regs_text (n + 1) d k (over_file (shifted VarTy 1) d file) ≡ regs_text n d k file
  file_stays n d k NoRegs = refl
  file_stays n d k (MoreRegs r t file) =
      ap₂ (λ (s rest : List ℕ). separator k ++ (codes "r" ++ (decimal r ++ (codes ":" ++ (s ++ rest)))))
      (type_stays n d t) (file_stays n d (suc k) file)

  fields_stay : (n d k : ℕ) (fs : TFields) →
      fields_text (n + 1) d k (over_fields (shifted VarTy 1) d fs) ≡ fields_text n d k fs
  fields_stay n d k NoFields = refl
  fields_stay n d k (MoreFields t flag fs) =
      ap₂ (λ (s rest : List ℕ). separator k ++ (s ++ (flag_text flag ++ rest)))
      (type_stays n d t) (fields_stay n d (suc k) fs)

raised_stays : (n : ℕ) (o : Option Ty) → said_of (n + 1) (option_map (shift 1 0) o) ≡ said_of n o
raised_stays n None = refl
raised_stays n (Some t) = ap (λ (s : List ℕ). Some s) (type_stays n 0 t)

-- another register
other : (g h : RegTypes) (q r : ℕ) (t : Ty) → h ≡ with_reg g q t → (Some q ≡ Some r → ⊥) → h r ≡ g r
other g h q r t is apart = ap (λ (f : RegTypes). f r) is ∙ go (nat_eq q r) refl
  where
    go : (b : Bool) → nat_eq q r ≡ b → cond (nat_eq q r) (Some t) (g r) ≡ g r
    go true e = absurd (apart (ap (λ (k : ℕ). Some k) (grind (arith, nat_tests, e))))
    go false e = ap (λ (b : Bool). cond b (Some t) (g r)) e

pub others_stay : OthersStay
others_stay P n g h (Arith op rd rs v) r typed apart = ap (said_of n) (other g h rd r _ typed.2 apart)
others_stay P n g h (Bnz q v) r typed apart = ap (λ (f : RegTypes). said_of n (f r)) typed.2
others_stay P n g h (Ld rd rs i) r typed apart = ap (said_of n) (other g h rd r _ typed.4 apart)
others_stay P n g h (Malloc rd ts) r typed apart = ap (said_of n) (other g h rd r _ typed.0 apart)
others_stay P n g h (Mov rd v) r typed apart = ap (said_of n) (other g h rd r _ typed.2 apart)
others_stay P n g h (St rd i rs) r typed apart = ap (said_of n) (other g h rd r _ typed.8 apart)
others_stay P n g h (Unpack rd v) r typed apart =
    ap (said_of (n + 1)) (other (raised g) h rd r _ typed.2 apart) ∙ raised_stays n (g r)

-- the register that was set
this : (g h : RegTypes) (q r : ℕ) (t : Ty) → h ≡ with_reg g q t → Some q ≡ Some r → IsSome (h r)
this g h q r t is same =
    let yes : nat_eq q r ≡ true = let e : q ≡ r = cc in grind (arith, nat_tests, e) in
    let there : h r ≡ Some t = ap (λ (f : RegTypes). f r) is ∙ ap (λ (b : Bool). cond b (Some t) (g r)) yes in
    rw there refl

pub set_is_known : SetIsKnown
set_is_known P n g h (Arith op rd rs v) r typed same = this g h rd r _ typed.2 same
set_is_known P n g h (Bnz q v) r typed same = cc
set_is_known P n g h (Ld rd rs i) r typed same = this g h rd r _ typed.4 same
set_is_known P n g h (Malloc rd ts) r typed same = this g h rd r _ typed.0 same
set_is_known P n g h (Mov rd v) r typed same = this g h rd r _ typed.2 same
set_is_known P n g h (St rd i rs) r typed same = this g h rd r _ typed.8 same
set_is_known P n g h (Unpack rd v) r typed same = this (raised g) h rd r _ typed.2 same
