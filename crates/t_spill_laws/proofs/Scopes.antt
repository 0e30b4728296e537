-- Types that the typing of a whole program gives: each index is in scope, and registers ascend.
use Rattle.std.proofs.Common.{◌≡◌, ℕ, zero, suc, ◌+◌, ◌-◌, ◌<◌, ◌≤◌, nat_eq, cond, Bool, true, false, List, [], ◌∷◌}
use Rattle.std.proofs.Common.{length, Option, Some, refl, sym, ap, ◌∙◌, subst, arith, slice_get, inl, inr, ◌⊎◌}
use Rattle.std.proofs.lemmas.Bool.{cases_lt, cases_order}
use Rattle.idx_core.specs.Over.{At, shifted, putted}
use Rattle.idx_core.specs.Laws.{shifted_lt, shifted_ge, putted_lt, putted_eq, putted_gt}
use Rattle.t_types.specs.Tree.{Ty, IntTy, VarTy, CodeTy, ExistsTy, TupleTy, TFile, NoRegs, MoreRegs, TFields, NoFields}
use Rattle.t_types.specs.Tree.{MoreFields, over, over_file, over_fields, shift, Below, BelowFile, BelowFields}
use Rattle.t_types.specs.Tree.{shift_file, put_file, each_fields}
use Rattle.t_types.specs.TreeLaws.{file_over, fields_over as fields_walk}
use Rattle.t_types.specs.WellFormed.{max_number, max_names, WellFormed, WellFormedFields, WellFormedTypes, RegsAbove}
use Rattle.t_types.specs.Fields.{AField, field, filled, empty_fields}
use Rattle.t_types.specs.Fits.{RegTypes, lookup}
use Rattle.t_terms.specs.Tree.{TBase, Reg, Int, Label, Data, TValue, Plain, Pack, TInstr, Arith, Bnz, Ld, Malloc, Mov}
use Rattle.t_terms.specs.Tree.{St, Unpack, TSeq, TBlock, TData, TProg, names_after}
use Rattle.t_terms.specs.Whole.{WellFormedValue, WellFormedInstr, WellFormedBlocks, WellFormedData, WellFormedHeap}
use Rattle.t_terms.specs.Whole.{WellFormedProgram}
use Rattle.t_terms.specs.Registers.{inst_file}
use Rattle.t_rules.specs.Rules.{BaseHas, Has, Enters, Typed}
use Rattle.t_terms.specs.Labels.{data_fields}
use Rattle.t_spill_rules.specs.Spill.{ins, or_int, type_of, field_type, filled_type, hidden_type, next, FewNames}
use Rattle.t_spill_rules.specs.Spill.{FewNamesFile, type_in, live, among, keep, kept}
use Rattle.t_spill_laws.proofs.Files.{RisesFrom, Ascends, rises_ascends, CaseOf, case_of, ins_less, ins_same, ins_more}
use Rattle.t_spill_laws.proofs.Computed.{value_is}
use Rattle.t_spill_laws.proofs.Live.{by_cases}

-- under n type names: what well formed types are, the number of names aside
abbrev mutual
  pub Scoped : ℕ → Ty → Type 0
  Scoped n IntTy = Unit {0}
  Scoped n (VarTy i) = i < n
  Scoped n (CodeTy owes file) = ScopedRegs 0 (n + owes) file
  Scoped n (ExistsTy t) = Scoped (n + 1) t
  Scoped n (TupleTy fields) = ScopedFields n fields

  pub ScopedRegs : ℕ → ℕ → TFile → Type 0
  ScopedRegs low n NoRegs = Unit {0}
  ScopedRegs low n (MoreRegs r t file) = (low < r) × (r ≤ max_number) × Scoped n t × ScopedRegs r n file

  pub ScopedFields : ℕ → TFields → Type 0
  ScopedFields n NoFields = Unit {0}
  ScopedFields n (MoreFields t flag fields) = Scoped n t × ScopedFields n fields

abbrev pub ScopedTypes : ℕ → List Ty → Type 0
ScopedTypes n [] = Unit {0}
ScopedTypes n (t ∷ ts) = Scoped n t × ScopedTypes n ts

-- both ways
mutual
  pub scoped : (n : ℕ) (t : Ty) → WellFormed n t → Scoped n t
  scoped n IntTy h = tt
  scoped n (VarTy i) h = h
  scoped n (CodeTy owes file) h = scoped_regs 0 (n + owes) file h.1
  scoped n (ExistsTy t) h = scoped (n + 1) t h.1
  scoped n (TupleTy fields) h = scoped_fields n fields h

  pub scoped_regs : (low n : ℕ) (x : TFile) → RegsAbove low n x → ScopedRegs low n x
  scoped_regs low n NoRegs h = tt
  scoped_regs low n (MoreRegs r t x) h = (h.0, h.1, scoped n t h.2, scoped_regs r n x h.3)

  pub scoped_fields : (n : ℕ) (x : TFields) → WellFormedFields n x → ScopedFields n x
  scoped_fields n NoFields h = tt
  scoped_fields n (MoreFields t flag x) h = (scoped n t h.0, scoped_fields n x h.1)

pub scoped_types : (n : ℕ) (ts : List Ty) → WellFormedTypes n ts → ScopedTypes n ts
scoped_types n [] h = tt
scoped_types n (t ∷ ts) h = (scoped n t h.0, scoped_types n ts h.1)

abbrev FewFields : ℕ → TFields → Type 0
FewFields n x = each_fields (λ d i. Unit {0}) (λ d. d ≤ max_names) n x

mutual
  pub well_formed : (n : ℕ) (t : Ty) → Scoped n t → FewNames n t → WellFormed n t
  well_formed n IntTy h k = tt
  well_formed n (VarTy i) h k = h
  well_formed n (CodeTy owes file) h k = (k.0, regs_above 0 (n + owes) file h k.1)
  well_formed n (ExistsTy t) h k = (k.0, well_formed (n + 1) t h k.1)
  well_formed n (TupleTy fields) h k = well_fields n fields h k

  pub regs_above : (low n : ℕ) (x : TFile) → ScopedRegs low n x → FewNamesFile n x → RegsAbove low n x
  regs_above low n NoRegs h k = tt
  regs_above low n (MoreRegs r t x) h k = (h.0, h.1, well_formed n t h.2 k.0, regs_above r n x h.3 k.1)

  well_fields : (n : ℕ) (x : TFields) → ScopedFields n x → FewFields n x → WellFormedFields n x
  well_fields n NoFields h k = tt
  well_fields n (MoreFields t flag x) h k = (well_formed n t h.0 k.0, well_fields n x h.1 k.1)

-- a walk that keeps variables in scope
abbrev Moves : At Ty → ℕ → ℕ → ℕ → Type 0
Moves f a n m = (e i : ℕ) → i < n + e → Scoped (m + e) (f (a + e) i)

moves_more : (f : At Ty) (a n m k : ℕ) → Moves f a n m → Moves f (a + k) (n + k) (m + k)
moves_more f a n m k h e i lt =
    let x : a + (k + e) ≡ a + k + e = omega arith in
    let y : m + (k + e) ≡ m + k + e = omega arith in
    subst (λ z. Scoped z (f (a + k + e) i)) y (subst (λ z. Scoped (m + (k + e)) (f z i)) x (h (k + e) i (omega arith)))

mutual
  pub scoped_over : (f : At Ty) (a n m : ℕ) (t : Ty) → Moves f a n m → Scoped n t → Scoped m (over f a t)
  scoped_over f a n m IntTy k h = tt
  scoped_over f a n m (VarTy i) k h =
      let x : a + 0 ≡ a = omega arith in
      let y : m + 0 ≡ m = omega arith in
      subst (λ z. Scoped z (f a i)) y (subst (λ z. Scoped (m + 0) (f z i)) x (k 0 i (omega arith)))
  scoped_over f a n m (CodeTy owes file) k h =
      regs_over f (a + owes) (n + owes) (m + owes) 0 file (moves_more f a n m owes k) h
  scoped_over f a n m (ExistsTy t) k h = scoped_over f (a + 1) (n + 1) (m + 1) t (moves_more f a n m 1 k) h
  scoped_over f a n m (TupleTy fields) k h = fields_over f a n m fields k h

  pub regs_over : (f : At Ty) (a n m low : ℕ) (x : TFile) → Moves f a n m → ScopedRegs low n x →
      ScopedRegs low m (over_file f a x)
  regs_over f a n m low NoRegs k h = tt
  regs_over f a n m low (MoreRegs r t x) k h = (h.0, h.1, scoped_over f a n m t k h.2, regs_over f a n m r x k h.3)

  fields_over : (f : At Ty) (a n m : ℕ) (x : TFields) → Moves f a n m → ScopedFields n x →
      ScopedFields m (over_fields f a x)
  fields_over f a n m NoFields k h = tt
  fields_over f a n m (MoreFields t flag x) k h = (scoped_over f a n m t k h.0, fields_over f a n m x k h.1)

shift_moves : (k c n : ℕ) → Moves (shifted VarTy k) c n (n + k)
shift_moves k c n e i lt = go (cases_lt i (c + e))
  where
    go : (i < c + e) ⊎ (c + e ≤ i) → Scoped (n + k + e) (shifted VarTy k (c + e) i)
    go (inl h) = subst (Scoped (n + k + e)) (sym (shifted_lt VarTy k (c + e) i h)) (omega arith)
    go (inr h) = subst (Scoped (n + k + e)) (sym (shifted_ge VarTy k (c + e) i h)) (omega arith)

pub scoped_shift : (k n : ℕ) (t : Ty) → Scoped n t → Scoped (n + k) (shift k 0 t)
scoped_shift k n t h = scoped_over (shifted VarTy k) 0 n (n + k) t (shift_moves k 0 n) h

pub regs_shift : (k n low : ℕ) (x : TFile) → ScopedRegs low n x → ScopedRegs low (n + k) (shift_file k 0 x)
regs_shift k n low x h = regs_over (shifted VarTy k) 0 n (n + k) low x (shift_moves k 0 n) h

put_moves : (c n : ℕ) (s : Ty) → c ≤ n → Scoped n s → Moves (putted VarTy over c s) c (n + 1) n
put_moves c n s le hs e i lt = go (cases_order i (c + e))
  where
    go : (i ≡ c + e) ⊎ ((i < c + e) ⊎ (c + e < i)) → Scoped (n + e) (putted VarTy over c s (c + e) i)
    go (inl h) =
        let far : c + e - c ≡ e = omega arith in
        subst (Scoped (n + e)) (sym (putted_eq VarTy over c s (c + e) i h ∙ ap (λ k. shift k 0 s) far))
        (scoped_shift e n s hs)
    go (inr (inl h)) = subst (Scoped (n + e)) (sym (putted_lt VarTy over c s (c + e) i h)) (omega arith)
    go (inr (inr h)) = subst (Scoped (n + e)) (sym (putted_gt VarTy over c s (c + e) i h)) (omega arith)

pub scoped_more : (n m : ℕ) (low : ℕ) (x : TFile) → n ≤ m → ScopedRegs low n x → ScopedRegs low m x
scoped_more n m low x le h =
    subst (ScopedRegs low m) (file_over.keeps (λ d i. VarTy i) 0 (λ e i. refl) x)
    (regs_over (λ d i. VarTy i) 0 n m low x (λ e i lt. omega arith) h)

fields_more : (n m : ℕ) (x : TFields) → n ≤ m → ScopedFields n x → ScopedFields m x
fields_more n m x le h =
    subst (ScopedFields m) (fields_walk.keeps (λ d i. VarTy i) 0 (λ e i. refl) x)
    (fields_over (λ d i. VarTy i) 0 n m x (λ e i lt. omega arith) h)

-- what is in scope is below
mutual
  pub below_scoped : (n : ℕ) (t : Ty) → Scoped n t → Below n t
  below_scoped n IntTy h = tt
  below_scoped n (VarTy i) h = h
  below_scoped n (CodeTy owes file) h = (tt, below_regs 0 (n + owes) file h)
  below_scoped n (ExistsTy t) h = (tt, below_scoped (n + 1) t h)
  below_scoped n (TupleTy fields) h = below_scoped_fields n fields h

  pub below_regs : (low n : ℕ) (x : TFile) → ScopedRegs low n x → BelowFile n x
  below_regs low n NoRegs h = tt
  below_regs low n (MoreRegs r t x) h = (below_scoped n t h.2, below_regs r n x h.3)

  below_scoped_fields : (n : ℕ) (x : TFields) → ScopedFields n x → BelowFields n x
  below_scoped_fields n NoFields h = tt
  below_scoped_fields n (MoreFields t flag x) h = (below_scoped n t h.0, below_scoped_fields n x h.1)

-- and ascends
scoped_rises : (low n : ℕ) (x : TFile) → ScopedRegs low n x → RisesFrom low x
scoped_rises low n NoRegs h = tt
scoped_rises low n (MoreRegs r t x) h = (h.0, scoped_rises r n x h.3)

pub scoped_ascends : (n : ℕ) (x : TFile) → ScopedRegs 0 n x → Ascends x
scoped_ascends n x h = rises_ascends 0 x (scoped_rises 0 n x h)

-- types for the first ones that code owes
pub scoped_inst : (ts : List Ty) (n owes : ℕ) (x : TFile) → length ts ≤ owes → ScopedTypes n ts →
    ScopedRegs 0 (n + owes) x → ScopedRegs 0 (n + (owes - length ts)) (inst_file ts owes x)
scoped_inst [] n owes x le hs h = let e : n + owes ≡ n + (owes - 0) = omega arith in subst (λ m. ScopedRegs 0 m x) e h
scoped_inst (t ∷ ts) n owes x le hs h =
    let one : n + owes ≡ n + (owes - 1) + 1 = omega arith in
    let s : Ty = shift (owes - 1) 0 t in
    let part = regs_over (putted VarTy over (owes - 1) s) (owes - 1) (n + (owes - 1) + 1) (n + (owes - 1)) 0 x
    (put_moves (owes - 1) (n + (owes - 1)) s (omega arith) (scoped_shift (owes - 1) n t hs.0))
    (subst (λ m. ScopedRegs 0 m x) one h) in
    let e : n + (owes - 1 - length ts) ≡ n + (owes - suc (length ts)) = omega arith in
    subst (λ m. ScopedRegs 0 m (inst_file ts (owes - 1) (put_file (owes - 1) (shift (owes - 1) 0 t) x))) e
    (scoped_inst ts n (owes - 1) (put_file (owes - 1) (shift (owes - 1) 0 t) x) (omega arith) hs.1 part)

-- registers and fields
scoped_case : (n : ℕ) (b : Bool) (u t : Ty) (o : Option Ty) → Scoped n u → (o ≡ Some t → Scoped n t) →
    cond b (Some u) o ≡ Some t → Scoped n t
scoped_case n true u t o h k e = let s : u ≡ t = cc in subst (Scoped n) s h
scoped_case n false u t o h k e = k e

pub scoped_at : (n low : ℕ) (x : TFile) (r : ℕ) (t : Ty) → ScopedRegs low n x → lookup x r ≡ Some t → Scoped n t
scoped_at n low NoRegs r t h e = cc
scoped_at n low (MoreRegs q u x) r t h e =
    scoped_case n (nat_eq q r) u t (lookup x r) h.2 (λ k. scoped_at n q x r t h.3 k) e

scoped_field : (n : ℕ) (fs : TFields) (i : ℕ) (t : Ty) (flag : Bool) → ScopedFields n fs →
    field fs i ≡ Some (AField t flag) → Scoped n t
scoped_field n NoFields i t flag h e = cc
scoped_field n (MoreFields u x fs) zero t flag h e = let s : u ≡ t = cc in subst (Scoped n) s h.0
scoped_field n (MoreFields u x fs) (suc i) t flag h e = scoped_field n fs i t flag h.1 e

scoped_filled : (n : ℕ) (fs : TFields) (i : ℕ) → ScopedFields n fs → ScopedFields n (filled fs i)
scoped_filled n NoFields i h = tt
scoped_filled n (MoreFields u x fs) zero h = h
scoped_filled n (MoreFields u x fs) (suc i) h = (h.0, scoped_filled n fs i h.1)

scoped_empty : (n : ℕ) (ts : List Ty) → ScopedTypes n ts → ScopedFields n (empty_fields ts)
scoped_empty n [] h = tt
scoped_empty n (t ∷ ts) h = (h.0, scoped_empty n ts h.1)

pub scoped_ins : (low n r : ℕ) (t : Ty) (x : TFile) → low < r → r ≤ max_number → Scoped n t → ScopedRegs low n x →
    ScopedRegs low n (ins r t x)
scoped_ins low n r t NoRegs lt le ht h = (lt, le, ht, tt)
scoped_ins low n r t (MoreRegs q u x) lt le ht h = go (λ a. scoped_ins q n r t x a le ht h.3) (case_of r q)
  where
    go : (q < r → ScopedRegs q n (ins r t x)) → CaseOf r q → ScopedRegs low n (ins r t (MoreRegs q u x))
    go f (inl a) = subst (ScopedRegs low n) (sym (ins_less r q t u x a)) (lt, le, ht, (a, h.1, h.2, h.3))
    go f (inr (inl a)) =
        subst (ScopedRegs low n) (sym (ins_same r q t u x a)) (lt, le, ht, subst (λ z. ScopedRegs z n x) (sym a) h.3)
    go f (inr (inr a)) = subst (ScopedRegs low n) (sym (ins_more r q t u x a)) (h.0, h.1, h.2, f a)

lower : (low r n : ℕ) (x : TFile) → low < r → ScopedRegs r n x → ScopedRegs low n x
lower low r n NoRegs lt h = tt
lower low r n (MoreRegs q t x) lt h = (omega (arith, lt, h.0), h.1, h.2, h.3)

pub scoped_keep : (low n : ℕ) (qs : List ℕ) (x : TFile) → ScopedRegs low n x → ScopedRegs low n (keep qs x)
scoped_keep low n qs NoRegs h = tt
scoped_keep low n qs (MoreRegs r t x) h = go (among r qs) (scoped_keep r n qs x h.3)
  where
    go : (b : Bool) → ScopedRegs r n (keep qs x) → ScopedRegs low n (cond b (MoreRegs r t (keep qs x)) (keep qs x))
    go true k = (h.0, h.1, h.2, k)
    go false k = lower low r n (keep qs x) h.0 k

-- values and instructions
abbrev pub DataScoped : TProg → Type 0
DataScoped P = (d : ℕ) (x : TData) → slice_get P.heap d ≡ Some x → ScopedFields 0 (data_fields x)

abbrev pub LabelsScoped : TProg → Type 0
LabelsScoped P = (l : ℕ) (b : TBlock) → slice_get P.blocks l ≡ Some b → ScopedRegs 0 b.owes b.file

module _ (P : TProg) (p q : ℕ) (labels : LabelsScoped P) (tuples : DataScoped P) where
  scoped_base : (n : ℕ) (x : TFile) (b : TBase) (t : Ty) → ScopedRegs 0 n x → BaseHas P (lookup x) b t → Scoped n t
  scoped_base n x (Reg r) t h k = scoped_at n 0 x r t h k
  scoped_base n x (Int i) t h k = subst (Scoped n) (sym k) tt
  scoped_base n x (Label l) t h k =
      subst (Scoped n) (sym k.2) (scoped_more k.0.owes (n + k.0.owes) 0 k.0.file (omega arith) (labels l k.0 k.1))
  scoped_base n x (Data d) t h k =
      subst (Scoped n) (sym k.2) (fields_more 0 n (data_fields k.0) (omega arith) (tuples d k.0 k.1))

  pub scoped_value : (n : ℕ) (x : TFile) (v : TValue) (t : Ty) → ScopedRegs 0 n x → WellFormedValue p q n v →
      Has P n (lookup x) v t → Scoped n t
  scoped_value n x (Plain b []) t h w k = scoped_base n x b t h k
  scoped_value n x (Plain b (u ∷ us)) t h w k =
      subst (Scoped n) (sym k.4)
      (scoped_inst (u ∷ us) n k.0 k.1 k.3 (scoped_types n (u ∷ us) w.1) (scoped_base n x b (CodeTy k.0 k.1) h k.2))
  scoped_value n x (Pack hid v shape) t h w k = subst (Scoped n) (sym k.5) (scoped n shape w.2)

  pub scoped_next : (i : TInstr) (n : ℕ) (x : TFile) (g : RegTypes) → ScopedRegs 0 n x → WellFormedInstr p q n i →
      Typed P n (lookup x) i g → ScopedRegs 0 (names_after i n) (next P x i)
  scoped_next (Arith op rd rs v) n x g h w k = scoped_ins 0 n rd IntTy x (omega (arith, w.0.0)) w.0.1 tt h
  scoped_next (Bnz r v) n x g h w k = h
  scoped_next (Ld rd rs i) n x g h w k =
      let e : field_type (or_int (lookup x rs)) i ≡ k.1 = ap (λ o. field_type (or_int o) i) k.2 ∙ ap type_in k.3 in
      scoped_ins 0 n rd _ x (omega (arith, w.0.0)) w.0.1
      (subst (Scoped n) (sym e) (scoped_field n k.0 i k.1 true (scoped_at n 0 x rs (TupleTy k.0) h k.2) k.3)) h
  scoped_next (Malloc rd ts) n x g h w k =
      scoped_ins 0 n rd (TupleTy (empty_fields ts)) x (omega (arith, w.0.0)) w.0.1
      (scoped_empty n ts (scoped_types n ts w.1)) h
  scoped_next (Mov rd v) n x g h w k =
      scoped_ins 0 n rd _ x (omega (arith, w.0.0)) w.0.1
      (subst (Scoped n) (sym (value_is P n x v k.0 k.1)) (scoped_value n x v k.0 h w.1 k.1)) h
  scoped_next (St rd i rs) n x g h w k =
      let e : filled_type (or_int (lookup x rd)) i ≡ TupleTy (filled k.0 i) = ap (λ o. filled_type (or_int o) i) k.4 in
      scoped_ins 0 n rd _ x (omega (arith, w.0.0)) w.0.1
      (subst (Scoped n) (sym e) (scoped_filled n k.0 i (scoped_at n 0 x rd (TupleTy k.0) h k.4))) h
  scoped_next (Unpack rd v) n x g h w k =
      let e : hidden_type (type_of P x v) ≡ k.0 = ap hidden_type (value_is P n x v (ExistsTy k.0) k.1) in
      scoped_ins 0 (n + 1) rd _ (shift_file 1 0 x) (omega (arith, w.0.0)) w.0.1
      (subst (Scoped (n + 1)) (sym e) (scoped_value n x v (ExistsTy k.0) h w.1 k.1)) (regs_shift 1 n 0 x h)

  pub scoped_kept : (i : TInstr) (n : ℕ) (x : TFile) (c : TSeq) → ScopedRegs 0 n (next P x i) →
      ScopedRegs 0 n (kept P x i c)
  scoped_kept i n x c h = by_cases P i x c (ScopedRegs 0 n) (scoped_keep 0 n (live P (next P x i) c) (next P x i) h) h

  pub scoped_target : (n : ℕ) (x : TFile) (v : TValue) → ScopedRegs 0 n x → WellFormedValue p q n v →
      (k : Enters P n (lookup x) v) → ScopedRegs 0 n k.0
  scoped_target n x v h w k =
      let e : n + 0 ≡ n = omega arith in
      subst (λ m. ScopedRegs 0 m k.0) e (scoped_value n x v (CodeTy 0 k.0) h w k.1)

-- of a whole program
scoped_blocks : (p q : ℕ) (bs : List TBlock) → WellFormedBlocks p q bs → (l : ℕ) (b : TBlock) →
    slice_get bs l ≡ Some b → ScopedRegs 0 b.owes b.file
scoped_blocks p q [] w l b e = cc
scoped_blocks p q (x ∷ bs) w zero b e = let s : x ≡ b = cc in
    subst (λ y. ScopedRegs 0 y.owes y.file) s (scoped_regs 0 x.owes x.file w.0.1)
scoped_blocks p q (x ∷ bs) w (suc l) b e = scoped_blocks p q bs w.1 l b e

pub labels_scoped : (P : TProg) → WellFormedProgram P → LabelsScoped P
labels_scoped P w l b e = scoped_blocks (length P.blocks) (length P.heap) P.blocks w.1 l b e

scoped_datum : (p q : ℕ) (xs : TData) → WellFormedData p q xs → ScopedFields 0 (data_fields xs)
scoped_datum p q [] w = tt
scoped_datum p q (x ∷ xs) w = (scoped 0 x.ty w.0.2, scoped_datum p q xs w.1)

scoped_heap : (p q : ℕ) (hs : List TData) → WellFormedHeap p q hs → (d : ℕ) (x : TData) → slice_get hs d ≡ Some x →
    ScopedFields 0 (data_fields x)
scoped_heap p q [] w d x e = cc
scoped_heap p q (y ∷ hs) w zero x e = let s : y ≡ x = cc in
    subst (λ z. ScopedFields 0 (data_fields z)) s (scoped_datum p q y w.0)
scoped_heap p q (y ∷ hs) w (suc d) x e = scoped_heap p q hs w.1 d x e

pub data_scoped : (P : TProg) → WellFormedProgram P → DataScoped P
data_scoped P w d x e = scoped_heap (length P.blocks) (length P.heap) P.heap w.2 d x e
