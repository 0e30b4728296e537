-- What is asked of the types of a program that is spilled, for one whose types are within bounds.
use Rattle.std.proofs.Common.{◌≡◌, ℕ, suc, ◌+◌, ◌≤◌, nat_lt, Bool, true, false, List, [], ◌∷◌, Some, refl, sym, ap}
use Rattle.std.proofs.Common.{◌∙◌, subst, arith, inl, inr}
use Rattle.std.specs.Prelude.{max, if◌then◌else◌}
use Rattle.std.proofs.Math.Path.{fun_ext}
use Rattle.idx_core.specs.Over.{shifted}
use Rattle.t_types.specs.Tree.{Ty, IntTy, VarTy, CodeTy, ExistsTy, TupleTy, TFile, NoRegs, MoreRegs, TFields, NoFields}
use Rattle.t_types.specs.Tree.{MoreFields, over, over_file, over_fields, shift_file, each_fields}
use Rattle.t_types.specs.Fields.{filled, empty_fields}
use Rattle.t_types.specs.Fits.{RegTypes, lookup}
use Rattle.t_types.specs.WellFormed.{max_names}
use Rattle.t_terms.specs.Tree.{TValue, Plain, Pack, TInstr, Arith, Bnz, Ld, Malloc, Mov, St, Unpack, Jmp, Halt, TSeq}
use Rattle.t_terms.specs.Tree.{Then, Ends, TBlock, TData, TProg, names_after}
use Rattle.t_terms.specs.Registers.{with_reg, no_types}
use Rattle.t_rules.specs.Rules.{Has, Typed}
use Rattle.t_gen_laws.specs.TypesEach.{TWithin, AllTypes, FileTypes, HasEach, InstrEach, SeqEach, BlocksEach, DataEach}
use Rattle.t_gen_laws.specs.TypesEach.{HeapEach, TypesEach, tbinds, tbinds_file}
use Rattle.t_gen_laws.specs.TypesEach.{tbinds_fields}
use Rattle.t_spill_rules.specs.Spill.{ins, or_int, type_of, type_in, field_type, filled_type, hidden_type, next}
use Rattle.t_spill_rules.specs.Spill.{FewNames}
use Rattle.t_spill_rules.specs.Spill.{FewNamesFile, values_of, ValuesFew, SeqFew, BlocksFew, TypesFew}
use Rattle.t_terms.specs.Reach.{type_reach, regs_reach, fields_reach, types_reach}
use Rattle.t_spill_laws.specs.Reach.{value_reach, instr_reach, seq_reach, blocks_reach, data_reach, heap_reach, reach}
use Rattle.t_spill_laws.proofs.Files.{look_same, CaseOf, case_of, ins_less, ins_same, ins_more}
use Rattle.t_spill_laws.proofs.Computed.{value_is, next_is}
use Rattle.t_spill_laws.proofs.Kept.{AllIn}

-- reach and names of types
mutual
  few_type : (n : ℕ) (t : Ty) → n + tbinds t ≤ max_names → FewNames n t
  few_type n IntTy h = tt
  few_type n (VarTy i) h = tt
  few_type n (CodeTy k f) h = (omega (arith, h), few_file (n + k) f (omega (arith, h)))
  few_type n (ExistsTy t) h = (omega (arith, h), few_type (n + 1) t (omega (arith, h)))
  few_type n (TupleTy fs) h = few_fields n fs h

  few_file : (n : ℕ) (f : TFile) → n + tbinds_file f ≤ max_names → FewNamesFile n f
  few_file n NoRegs h = tt
  few_file n (MoreRegs r t f) h = (few_type n t (omega (arith, h)), few_file n f (omega (arith, h)))

  few_fields : (n : ℕ) (fs : TFields) → n + tbinds_fields fs ≤ max_names →
      each_fields (λ d i. Unit {0}) (λ d. d ≤ max_names) n fs
  few_fields n NoFields h = tt
  few_fields n (MoreFields t b fs) h = (few_type n t (omega (arith, h)), few_fields n fs (omega (arith, h)))

-- a shift keeps both
var_reach : (b : Bool) (i j : ℕ) → type_reach (if b then VarTy i else VarTy j) ≡ 0
var_reach true i j = refl
var_reach false i j = refl

var_binds : (b : Bool) (i j : ℕ) → tbinds (if b then VarTy i else VarTy j) ≡ 0
var_binds true i j = refl
var_binds false i j = refl

mutual
  shift_reach : (d : ℕ) (t : Ty) → type_reach (over (shifted VarTy 1) d t) ≡ type_reach t
  shift_reach d IntTy = refl
  shift_reach d (VarTy i) = var_reach (nat_lt i d) i (i + 1)
  shift_reach d (CodeTy n f) = ap (λ m. m + 2) (shift_reach_file (d + n) f)
  shift_reach d (ExistsTy t) = ap (λ m. m + 1) (shift_reach (d + 1) t)
  shift_reach d (TupleTy fs) = ap (λ m. m + 1) (shift_reach_fields d fs)

  shift_reach_file : (d : ℕ) (f : TFile) → regs_reach (over_file (shifted VarTy 1) d f) ≡ regs_reach f
  shift_reach_file d NoRegs = refl
  shift_reach_file d (MoreRegs r t f) = let a = shift_reach d t in let b = shift_reach_file d f in omega (arith, a, b)

  shift_reach_fields : (d : ℕ) (fs : TFields) → fields_reach (over_fields (shifted VarTy 1) d fs) ≡ fields_reach fs
  shift_reach_fields d NoFields = refl
  shift_reach_fields d (MoreFields t x fs) =
      let a = shift_reach d t in let b = shift_reach_fields d fs in omega (arith, a, b)

mutual
  shift_binds : (d : ℕ) (t : Ty) → tbinds (over (shifted VarTy 1) d t) ≡ tbinds t
  shift_binds d IntTy = refl
  shift_binds d (VarTy i) = var_binds (nat_lt i d) i (i + 1)
  shift_binds d (CodeTy n f) = ap (λ m. n + m) (shift_binds_file (d + n) f)
  shift_binds d (ExistsTy t) = ap suc (shift_binds (d + 1) t)
  shift_binds d (TupleTy fs) = shift_binds_fields d fs

  shift_binds_file : (d : ℕ) (f : TFile) → tbinds_file (over_file (shifted VarTy 1) d f) ≡ tbinds_file f
  shift_binds_file d NoRegs = refl
  shift_binds_file d (MoreRegs r t f) = let a = shift_binds d t in let b = shift_binds_file d f in omega (arith, a, b)

  shift_binds_fields : (d : ℕ) (fs : TFields) → tbinds_fields (over_fields (shifted VarTy 1) d fs) ≡ tbinds_fields fs
  shift_binds_fields d NoFields = refl
  shift_binds_fields d (MoreFields t x fs) =
      let a = shift_binds d t in let b = shift_binds_fields d fs in omega (arith, a, b)

all_ins : (Q : Ty → Type 0) (r : ℕ) (t : Ty) (x : TFile) → Q t → AllIn Q x → AllIn Q (ins r t x)
all_ins Q r t NoRegs q h = (q, tt)
all_ins Q r t (MoreRegs s u x) q h = go (case_of r s) (all_ins Q r t x q h.1)
  where
    go : CaseOf r s → AllIn Q (ins r t x) → AllIn Q (ins r t (MoreRegs s u x))
    go (inl a) f = subst (AllIn Q) (sym (ins_less r s t u x a)) (q, h)
    go (inr (inl a)) f = subst (AllIn Q) (sym (ins_same r s t u x a)) (q, h.1)
    go (inr (inr a)) f = subst (AllIn Q) (sym (ins_more r s t u x a)) (h.0, f)

none_known : no_types ≡ lookup NoRegs
none_known = fun_ext (λ q. refl)

module _ (N R B : ℕ) (small : N + B ≤ max_names) where
  abbrev Ok : Ty → Type 0
  Ok t = (type_reach t ≤ R) × (tbinds t ≤ B)

  ok_of : (n : ℕ) (t : Ty) → TWithin N R B n t → Ok t
  ok_of n t h = (h.1, h.2)

  few_of : (n : ℕ) (t : Ty) → TWithin N R B n t → FewNames n t
  few_of n t h = few_type n t (omega (arith, h.0, h.2, small))

  all_shift : (x : TFile) → AllIn Ok x → AllIn Ok (shift_file 1 0 x)
  all_shift NoRegs h = tt
  all_shift (MoreRegs r t x) h =
      let a = shift_reach 0 t in
      let b = shift_binds 0 t in ((omega (arith, a, h.0.0), omega (arith, b, h.0.1)), all_shift x h.1)

  few_all : (n : ℕ) (x : TFile) → n ≤ N → AllIn Ok x → FewNamesFile n x
  few_all n NoRegs le h = tt
  few_all n (MoreRegs r t x) le h = (few_type n t (omega (arith, le, h.0.1, small)), few_all n x le h.1)

  reach_all : (x : TFile) → AllIn Ok x → regs_reach x ≤ R
  reach_all NoRegs h = omega arith
  reach_all (MoreRegs r t x) h = let b = reach_all x h.1 in omega (arith, b, h.0.0)

  file_in : (n : ℕ) (x : TFile) → FileTypes (TWithin N R B) n x → AllIn Ok x
  file_in n NoRegs h = tt
  file_in n (MoreRegs r t x) h = (ok_of n t h.0, file_in n x h.1)

  types_in : (n : ℕ) (ts : List Ty) → AllTypes (TWithin N R B) n ts → types_reach ts ≤ R
  types_in n [] h = omega arith
  types_in n (t ∷ ts) h = let b = types_in n ts h.1 in omega (arith, b, h.0.1)

  module _ (P : TProg) where
    value_type : (n : ℕ) (g : RegTypes) (v : TValue) (t : Ty) → HasEach (TWithin N R B) P n g v t → TWithin N R B n t
    value_type n g (Plain b ts) t h = h.1.3
    value_type n g (Pack u v s) t h = h.1.3

    value_has : (n : ℕ) (g : RegTypes) (v : TValue) (t : Ty) → HasEach (TWithin N R B) P n g v t → Has P n g v t
    value_has n g (Plain b ts) t h = h.0
    value_has n g (Pack u v s) t h = h.0

    written : (n : ℕ) (g : RegTypes) (v : TValue) (t : Ty) → HasEach (TWithin N R B) P n g v t → value_reach v ≤ R
    written n g (Plain b ts) t h = types_in n ts h.1.4
    written n g (Pack u v s) t h =
        let b = written n g v h.1.0 h.1.1 in
        let same = ap type_reach (sym h.0.5) in
        omega (arith, b, same, h.1.2.1, h.1.3.1)

    -- a value's type, computed
    computed : (n : ℕ) (x : TFile) (v : TValue) (t : Ty) → HasEach (TWithin N R B) P n (lookup x) v t →
        type_of P x v ≡ t
    computed n x v t h = value_is P n x v t (value_has n (lookup x) v t h)

    value_few : (n : ℕ) (x : TFile) (v : TValue) (t : Ty) → HasEach (TWithin N R B) P n (lookup x) v t →
        FewNames n (type_of P x v)
    value_few n x v t h = subst (FewNames n) (sym (computed n x v t h)) (few_of n t (value_type n (lookup x) v t h))

    value_most : (n : ℕ) (x : TFile) (v : TValue) (t : Ty) → HasEach (TWithin N R B) P n (lookup x) v t →
        max (value_reach v) (type_reach (type_of P x v)) ≤ R
    value_most n x v t h =
        let a = written n (lookup x) v t h in
        let b = ap type_reach (computed n x v t h) in
        let d = value_type n (lookup x) v t h in
        omega (arith, a, b, d.1)

    -- an instruction, and what is known after it
    record Goes (n : ℕ) (x : TFile) (i : TInstr) : Type 0 where
      few : ValuesFew P n x (values_of i)
      most : instr_reach P x i ≤ R
      known : AllIn Ok (next P x i)
      names : names_after i n ≤ N

    int_ok : Ok IntTy
    int_ok = (omega arith, omega arith)

    with_type : (n : ℕ) (x : TFile) (rd : ℕ) (u t : Ty) → u ≡ t → TWithin N R B n t → AllIn Ok x → AllIn Ok (ins rd u x)
    with_type n x rd u t e q h = all_ins Ok rd u x (subst Ok (sym e) (ok_of n t q)) h

    some_same : (t u : Ty) → Some t ≡ Some u → t ≡ u
    some_same t u e = cc

    loaded : (n : ℕ) (x : TFile) (rd rs i : ℕ) (t : Ty) →
        Typed P n (lookup x) (Ld rd rs i) (with_reg (lookup x) rd t) → field_type (or_int (lookup x rs)) i ≡ t
    loaded n x rd rs i t k =
        let same : Some k.1 ≡ Some t =
        sym (look_same (lookup x) rd k.1) ∙ ap (λ g. g rd) (sym k.4) ∙ look_same (lookup x) rd t in
        ap (λ o. field_type (or_int o) i) k.2 ∙ ap type_in k.3 ∙ some_same k.1 t same

    goes : (i : TInstr) (n : ℕ) (x : TFile) → InstrEach (TWithin N R B) P n (lookup x) i → AllIn Ok x → Goes n x i
    goes (Arith op rd rs v) n x k h =
        let q = value_type n (lookup x) v IntTy k in
        record {
          few = (value_few n x v IntTy k, tt);
          most = value_most n x v IntTy k;
          known = all_ins Ok rd IntTy x int_ok h;
          names = q.0;
        }
    goes (Bnz r v) n x k h =
        let q = value_type n (lookup x) v (CodeTy 0 k.0) k.1 in
        record {
          few = (value_few n x v (CodeTy 0 k.0) k.1, tt);
          most = value_most n x v (CodeTy 0 k.0) k.1;
          known = h;
          names = q.0;
        }
    goes (Ld rd rs i) n x k h =
        record {
          few = tt;
          most = omega arith;
          known = with_type n x rd _ k.0 (loaded n x rd rs i k.0 k.1) k.2 h;
          names = k.2.0;
        }
    goes (Malloc rd ts) n x k h =
        record {
          few = tt;
          most = types_in n ts k.0;
          known = with_type n x rd _ (TupleTy (empty_fields ts)) refl k.1 h;
          names = k.1.0;
        }
    goes (Mov rd v) n x k h =
        let q = value_type n (lookup x) v k.0 k.1 in
        record {
          few = (value_few n x v k.0 k.1, tt);
          most = value_most n x v k.0 k.1;
          known = with_type n x rd _ k.0 (computed n x v k.0 k.1) q h;
          names = q.0;
        }
    goes (St rd i rs) n x k h =
        record {
          few = tt;
          most = omega arith;
          known = with_type n x rd _ (TupleTy (filled k.0 i)) (ap (λ o. filled_type (or_int o) i) k.1) k.2 h;
          names =
              k.2.0;
        }
    goes (Unpack rd v) n x k h =
        record {
          few = (value_few n x v (ExistsTy k.0) k.1, tt);
          most = value_most n x v (ExistsTy k.0) k.1;
          known = with_type (suc n) (shift_file 1 0 x) rd _ k.0 (ap hidden_type (computed n x v (ExistsTy k.0) k.1))
              k.2 (all_shift x h);
          names = omega (arith, k.2.0);
        }

    seq_in : (c : TSeq) (n : ℕ) (x : TFile) → SeqEach (TWithin N R B) P n (lookup x) c → AllIn Ok x →
        SeqFew P n x c × (seq_reach P x c ≤ R)
    seq_in (Then i c) n x k h =
        let g = goes i n x k.2 h in
        let rest = seq_in c (names_after i n) (next P x i)
        (subst (λ f. SeqEach (TWithin N R B) P (names_after i n) f c) (next_is P n x i k.0 k.1) k.3) g.known in
        let m = reach_all (next P x i) g.known in
        ((g.few, few_all (names_after i n) (next P x i) g.names g.known, rest.0), omega (arith, g.most, m, rest.1))
    seq_in (Ends (Jmp v)) n x k h = (value_few n x v (CodeTy 0 k.1.0) k.1.1, value_most n x v (CodeTy 0 k.1.0) k.1.1)
    seq_in (Ends Halt) n x k h = (tt, omega arith)

    blocks_in : (bs : List TBlock) → BlocksEach (TWithin N R B) P bs → BlocksFew P bs × (blocks_reach P bs ≤ R)
    blocks_in [] h = (tt, omega arith)
    blocks_in (b ∷ bs) h =
        let k = file_in b.owes b.file h.0.0 in
        let a = reach_all b.file k in
        let s = seq_in b.code b.owes b.file h.0.1 k in
        let r = blocks_in bs h.1 in
        ((s.0, r.0), omega (arith, a, s.1, r.1))

    data_in : (xs : TData) → DataEach (TWithin N R B) P xs → data_reach P xs ≤ R
    data_in [] h = omega arith
    data_in (x ∷ xs) h =
        let v = value_most 0 NoRegs x.value h.0.1.0
        (subst (λ g. HasEach (TWithin N R B) P 0 g x.value h.0.1.0) none_known h.0.1.1) in
        let r = data_in xs h.1 in
        omega (arith, v, r, h.0.0.1)

    heap_in : (hs : List TData) → HeapEach (TWithin N R B) P hs → heap_reach P hs ≤ R
    heap_in [] h = omega arith
    heap_in (x ∷ hs) h = let a = data_in x h.0 in let r = heap_in hs h.1 in omega (arith, a, r)

    pub types_few : TypesEach (TWithin N R B) P → TypesFew P
    types_few h = (blocks_in P.blocks h.0).0

    pub reach_within : TypesEach (TWithin N R B) P → reach P ≤ R
    reach_within h = let a = (blocks_in P.blocks h.0).1 in let b = heap_in P.heap h.1 in omega (arith, a, b)
