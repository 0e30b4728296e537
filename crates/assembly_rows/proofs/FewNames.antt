-- What typing gives in a program with few type names has few as well.
use Rattle.std.proofs.Common.{◌≡◌, ℕ, zero, suc, ◌+◌, ◌-◌, ◌≤◌, nat_eq, nat_lt, cond, Bool, true, false, List, [], ◌∷◌}
use Rattle.std.proofs.Common.{length, Some, refl, sym, ap, ◌∙◌, subst, arith, inl, inr}
use Rattle.std.specs.Prelude.{max, if◌then◌else◌, ◌==◌, slice_get, option_map}
use Rattle.idx_core.specs.Over.{At, shifted, putted}
use Rattle.t_types.specs.Tree.{Ty, IntTy, VarTy, CodeTy, ExistsTy, TupleTy, TFile, NoRegs, MoreRegs, TFields, NoFields}
use Rattle.t_types.specs.Tree.{MoreFields, over, over_file, over_fields, shift, shift_file, put_file, each_fields}
use Rattle.t_types.specs.Fields.{field, filled, empty_fields}
use Rattle.t_types.specs.Fits.{lookup}
use Rattle.t_types.specs.WellFormed.{max_names}
use Rattle.t_terms.specs.Tree.{TBase, Reg, Int, Label, Data, TValue, Plain, Pack, TInstr, Arith, Bnz, Ld, Malloc, Mov}
use Rattle.t_terms.specs.Tree.{St, Unpack, TEnd, Jmp, Halt, TSeq, Then, Ends, TBlock, TData, TProg, names_after}
use Rattle.t_terms.specs.Registers.{inst_file}
use Rattle.t_terms.specs.Labels.{label_type, data_fields, data_type}
use Rattle.t_spill_rules.specs.Spill.{ins, or_int, base_type, applied_type, type_of, type_in, field_type, filled_type}
use Rattle.t_spill_rules.specs.Spill.{hidden_type, next, FewNames, FewNamesFile, values_of, ValuesFew, SeqFew}
use Rattle.t_spill_rules.specs.Spill.{BlocksFew}
use Rattle.t_spill_rules.specs.Spill.{TypesFew}
use Rattle.t_spill_laws.proofs.Files.{ins_less, ins_same, ins_more, CaseOf, case_of}
use Rattle.t_spill_laws.proofs.Kept.{AllIn}
use Rattle.idx_core.specs.declared.span.Span.{Span}
use Rattle.t_terms.specs.declared.instr.Instr.{Instr}
use Rattle.t_terms.specs.Read.{body}
use Rattle.t_terms.specs.Spanned.{seq_of}
use Rattle.assembly_rows.specs.FewNames.{FewInType, FewInFile, FewInFields, FewInTypes, FewInValue, FewInInstr}
use Rattle.assembly_rows.specs.FewNames.{FewInSeq, steps, FewInBlocks, FewInData, FewInHeap, FewInProgram}

-- the names that a type binds around its places, at most
abbrev mutual
  binds : Ty → ℕ
  binds IntTy = 0
  binds (VarTy i) = 0
  binds (CodeTy n x) = n + binds_file x
  binds (ExistsTy t) = suc (binds t)
  binds (TupleTy fs) = binds_fields fs

  binds_file : TFile → ℕ
  binds_file NoRegs = 0
  binds_file (MoreRegs r t x) = max (binds t) (binds_file x)

  binds_fields : TFields → ℕ
  binds_fields NoFields = 0
  binds_fields (MoreFields t b fs) = max (binds t) (binds_fields fs)

mutual
  few_binds : (k : ℕ) (t : Ty) → FewInType k t → binds t ≤ k
  few_binds k IntTy h = omega arith
  few_binds k (VarTy i) h = omega arith
  few_binds k (CodeTy n x) h = let a = few_binds_file (k - n) x h.1 in omega (arith, a, h.0)
  few_binds k (ExistsTy t) h = let a = few_binds (k - 1) t h.1 in omega (arith, a, h.0)
  few_binds k (TupleTy fs) h = few_binds_fields k fs h

  few_binds_file : (k : ℕ) (x : TFile) → FewInFile k x → binds_file x ≤ k
  few_binds_file k NoRegs h = omega arith
  few_binds_file k (MoreRegs r t x) h =
      let a = few_binds k t h.0 in
      let b = few_binds_file k x h.1 in
      omega (arith, a, b)

  few_binds_fields : (k : ℕ) (fs : TFields) → FewInFields k fs → binds_fields fs ≤ k
  few_binds_fields k NoFields h = omega arith
  few_binds_fields k (MoreFields t b fs) h =
      let a = few_binds k t h.0 in
      let c = few_binds_fields k fs h.1 in
      omega (arith, a, c)

mutual
  names_few : (n : ℕ) (t : Ty) → n + binds t ≤ max_names → FewNames n t
  names_few n IntTy h = tt
  names_few n (VarTy i) h = tt
  names_few n (CodeTy k x) h = (omega (arith, h), names_few_file (n + k) x (omega (arith, h)))
  names_few n (ExistsTy t) h = (omega (arith, h), names_few (n + 1) t (omega (arith, h)))
  names_few n (TupleTy fs) h = names_few_fields n fs h

  names_few_file : (n : ℕ) (x : TFile) → n + binds_file x ≤ max_names → FewNamesFile n x
  names_few_file n NoRegs h = tt
  names_few_file n (MoreRegs r t x) h = (names_few n t (omega (arith, h)), names_few_file n x (omega (arith, h)))

  names_few_fields : (n : ℕ) (fs : TFields) → n + binds_fields fs ≤ max_names →
      each_fields (λ d i. Unit {0}) (λ d. d ≤ max_names) n fs
  names_few_fields n NoFields h = tt
  names_few_fields n (MoreFields t b fs) h =
      (names_few n t (omega (arith, h)), names_few_fields n fs (omega (arith, h)))

-- a walk whose variables bind no names binds no more than before
mutual
  walked : (f : At Ty) → ((e i : ℕ) → binds (f e i) ≡ 0) → (d : ℕ) (t : Ty) → binds (over f d t) ≡ binds t
  walked f h d IntTy = refl
  walked f h d (VarTy i) = h d i
  walked f h d (CodeTy n x) = ap (λ m. n + m) (walked_file f h (d + n) x)
  walked f h d (ExistsTy t) = ap suc (walked f h (d + 1) t)
  walked f h d (TupleTy fs) = walked_fields f h d fs

  walked_file : (f : At Ty) → ((e i : ℕ) → binds (f e i) ≡ 0) → (d : ℕ) (x : TFile) →
      binds_file (over_file f d x) ≡ binds_file x
  walked_file f h d NoRegs = refl
  walked_file f h d (MoreRegs r t x) = let a = walked f h d t in let b = walked_file f h d x in omega (arith, a, b)

  walked_fields : (f : At Ty) → ((e i : ℕ) → binds (f e i) ≡ 0) → (d : ℕ) (fs : TFields) →
      binds_fields (over_fields f d fs) ≡ binds_fields fs
  walked_fields f h d NoFields = refl
  walked_fields f h d (MoreFields t b fs) =
      let a = walked f h d t in
      let c = walked_fields f h d fs in
      omega (arith, a, c)

either : (b : Bool) (t u : Ty) → binds t ≡ 0 → binds u ≡ 0 → binds (if b then t else u) ≡ 0
either true t u h k = h
either false t u h k = k

shift_var : (k e i : ℕ) → binds (shifted VarTy k e i) ≡ 0
shift_var k e i = either (nat_lt i e) (VarTy i) (VarTy (i + k)) refl refl

put_var : (c : ℕ) (s : Ty) → binds s ≡ 0 → (e i : ℕ) → binds (putted VarTy over c s e i) ≡ 0
put_var c s h e i =
    let raised : binds (over (shifted VarTy (e - c)) 0 s) ≡ 0 =
    walked (shifted VarTy (e - c)) (shift_var (e - c)) 0 s ∙ h in
    either (nat_lt i e) (VarTy i) _ refl
    (either (i == e) (over (shifted VarTy (e - c)) 0 s) (VarTy (i - 1)) raised refl)

no_binds : (t : Ty) → FewInType 0 t → binds t ≡ 0
no_binds t h = let a = few_binds 0 t h in omega (arith, a)

put_types : (ts : List Ty) (n : ℕ) (x : TFile) → FewInTypes 0 ts → binds_file (inst_file ts n x) ≡ binds_file x
put_types [] n x h = refl
put_types (t ∷ ts) n x h =
    let s = shift (n - 1) 0 t in
    let none : binds s ≡ 0 = walked (shifted VarTy (n - 1)) (shift_var (n - 1)) 0 t ∙ no_binds t h.0 in
    put_types ts (n - 1) (put_file (n - 1) s x) h.1
    ∙ walked_file (putted VarTy over (n - 1) s) (put_var (n - 1) s none) (n - 1) x

applied : (t : Ty) (ts : List Ty) → FewInTypes 0 ts → binds (applied_type t ts) ≤ binds t
applied IntTy ts h = omega arith
applied (VarTy i) ts h = omega arith
applied (CodeTy n x) ts h = let a = put_types ts n x h in omega (arith, a)
applied (ExistsTy t) ts h = omega arith
applied (TupleTy fs) ts h = omega arith

-- at most 2000 of them
abbrev Low : Ty → Type 0
Low t = binds t ≤ 2000

low_reg : (x : TFile) (r : ℕ) → AllIn Low x → Low (or_int (lookup x r))
low_reg NoRegs r h = omega arith
low_reg (MoreRegs q t x) r h = go (nat_eq q r) (low_reg x r h.1)
  where
    go : (b : Bool) → Low (or_int (lookup x r)) → Low (or_int (cond b (Some t) (lookup x r)))
    go true k = h.0
    go false k = k

low_ins : (r : ℕ) (t : Ty) (x : TFile) → Low t → AllIn Low x → AllIn Low (ins r t x)
low_ins r t NoRegs q h = (q, tt)
low_ins r t (MoreRegs s u x) q h = go (case_of r s) (low_ins r t x q h.1)
  where
    go : CaseOf r s → AllIn Low (ins r t x) → AllIn Low (ins r t (MoreRegs s u x))
    go (inl a) f = subst (AllIn Low) (sym (ins_less r s t u x a)) (q, h)
    go (inr (inl a)) f = subst (AllIn Low) (sym (ins_same r s t u x a)) (q, h.1)
    go (inr (inr a)) f = subst (AllIn Low) (sym (ins_more r s t u x a)) (h.0, f)

low_shift : (x : TFile) → AllIn Low x → AllIn Low (shift_file 1 0 x)
low_shift NoRegs h = tt
low_shift (MoreRegs r t x) h =
    let a = walked (shifted VarTy 1) (shift_var 1) 0 t in
    (omega (arith, a, h.0), low_shift x h.1)

low_file : (x : TFile) → binds_file x ≤ 2000 → AllIn Low x
low_file NoRegs h = tt
low_file (MoreRegs r t x) h = (omega (arith, h), low_file x (omega (arith, h)))

low_names : (n : ℕ) (x : TFile) → n ≤ 2000000 → AllIn Low x → FewNamesFile n x
low_names n NoRegs le h = tt
low_names n (MoreRegs r t x) le h = (names_few n t (omega (arith, le, h.0)), low_names n x le h.1)

low_label : (bs : List TBlock) (l : ℕ) → FewInBlocks 1000 bs → Low (or_int (option_map label_type (slice_get bs l)))
low_label [] l h = omega arith
low_label (b ∷ bs) zero h = let a = few_binds_file 1000 b.file h.0.1 in omega (arith, a, h.0.0)
low_label (b ∷ bs) (suc l) h = low_label bs l h.1

low_fields : (xs : TData) → FewInData 1000 xs → binds_fields (data_fields xs) ≤ 1000
low_fields [] h = omega arith
low_fields (x ∷ xs) h = let a = few_binds 1000 x.ty h.0 in let b = low_fields xs h.1 in omega (arith, a, b)

low_data : (hs : List TData) (d : ℕ) → FewInHeap 1000 hs → Low (or_int (option_map data_type (slice_get hs d)))
low_data [] d h = omega arith
low_data (x ∷ hs) zero h = let a = low_fields x h.0 in omega (arith, a)
low_data (x ∷ hs) (suc d) h = low_data hs d h.1

low_field : (fs : TFields) (i : ℕ) → binds (type_in (field fs i)) ≤ binds_fields fs
low_field NoFields i = omega arith
low_field (MoreFields t b fs) zero = omega arith
low_field (MoreFields t b fs) (suc i) = let a = low_field fs i in omega (arith, a)

low_part : (t : Ty) (i : ℕ) → Low t → Low (field_type t i)
low_part IntTy i h = omega arith
low_part (VarTy j) i h = omega arith
low_part (CodeTy n x) i h = omega arith
low_part (ExistsTy t) i h = omega arith
low_part (TupleTy fs) i h = let a = low_field fs i in omega (arith, a, h)

filled_binds : (fs : TFields) (i : ℕ) → binds_fields (filled fs i) ≡ binds_fields fs
filled_binds NoFields i = refl
filled_binds (MoreFields t b fs) zero = refl
filled_binds (MoreFields t b fs) (suc i) = ap (max (binds t)) (filled_binds fs i)

low_filled : (t : Ty) (i : ℕ) → Low t → Low (filled_type t i)
low_filled IntTy i h = omega arith
low_filled (VarTy j) i h = omega arith
low_filled (CodeTy n x) i h = omega arith
low_filled (ExistsTy t) i h = omega arith
low_filled (TupleTy fs) i h = let a = filled_binds fs i in omega (arith, a, h)

low_hidden : (t : Ty) → Low t → Low (hidden_type t)
low_hidden IntTy h = omega arith
low_hidden (VarTy j) h = omega arith
low_hidden (CodeTy n x) h = omega arith
low_hidden (ExistsTy t) h = omega (arith, h)
low_hidden (TupleTy fs) h = omega arith

low_empty : (ts : List Ty) → FewInTypes 1000 ts → binds_fields (empty_fields ts) ≤ 1000
low_empty [] h = omega arith
low_empty (t ∷ ts) h = let a = few_binds 1000 t h.0 in let b = low_empty ts h.1 in omega (arith, a, b)

module _ (P : TProg) (few : FewInProgram P) where
  low_base : (x : TFile) (b : TBase) → AllIn Low x → Low (base_type P x b)
  low_base x (Reg r) h = low_reg x r h
  low_base x (Int i) h = omega arith
  low_base x (Label l) h = low_label P.blocks l few.0
  low_base x (Data d) h = low_data P.heap d few.1

  low_value : (x : TFile) (v : TValue) → FewInValue 1000 v → AllIn Low x → Low (type_of P x v)
  low_value x (Plain b []) k h = low_base x b h
  low_value x (Plain b (u ∷ us)) k h =
      let a = applied (base_type P x b) (u ∷ us) k in
      let c = low_base x b h in
      omega (arith, a, c)
  low_value x (Pack t v s) k h = let a = few_binds 1000 s k in omega (arith, a)

  low_next : (x : TFile) (i : TInstr) → FewInInstr 1000 i → AllIn Low x → AllIn Low (next P x i)
  low_next x (Arith op rd rs v) k h = low_ins rd IntTy x (omega arith) h
  low_next x (Bnz r v) k h = h
  low_next x (Ld rd rs i) k h = low_ins rd _ x (low_part (or_int (lookup x rs)) i (low_reg x rs h)) h
  low_next x (Malloc rd ts) k h =
      let a = low_empty ts k in
      low_ins rd (TupleTy (empty_fields ts)) x (omega (arith, a)) h
  low_next x (Mov rd v) k h = low_ins rd _ x (low_value x v k h) h
  low_next x (St rd i rs) k h = low_ins rd _ x (low_filled (or_int (lookup x rd)) i (low_reg x rd h)) h
  low_next x (Unpack rd v) k h =
      low_ins rd _ (shift_file 1 0 x) (low_hidden (type_of P x v) (low_value x v k h)) (low_shift x h)

  few_value : (n : ℕ) (x : TFile) (v : TValue) → n ≤ 2000000 → FewInValue 1000 v → AllIn Low x →
      FewNames n (type_of P x v)
  few_value n x v le k h = let a = low_value x v k h in names_few n (type_of P x v) (omega (arith, a, le))

  few_values : (n : ℕ) (x : TFile) (i : TInstr) → n ≤ 2000000 → FewInInstr 1000 i → AllIn Low x →
      ValuesFew P n x (values_of i)
  few_values n x (Arith op rd rs v) le k h = (few_value n x v le k h, tt)
  few_values n x (Bnz r v) le k h = (few_value n x v le k h, tt)
  few_values n x (Ld rd rs i) le k h = tt
  few_values n x (Malloc rd ts) le k h = tt
  few_values n x (Mov rd v) le k h = (few_value n x v le k h, tt)
  few_values n x (St rd i rs) le k h = tt
  few_values n x (Unpack rd v) le k h = (few_value n x v le k h, tt)

  one_more : (i : TInstr) (n : ℕ) → names_after i n ≤ n + 1
  one_more (Arith op rd rs v) n = omega arith
  one_more (Bnz r v) n = omega arith
  one_more (Ld rd rs i) n = omega arith
  one_more (Malloc rd ts) n = omega arith
  one_more (Mov rd v) n = omega arith
  one_more (St rd i rs) n = omega arith
  one_more (Unpack rd v) n = omega arith

  few_seq : (c : TSeq) (n : ℕ) (x : TFile) → n + steps c ≤ 2000000 → FewInSeq 1000 c → AllIn Low x → SeqFew P n x c
  few_seq (Then i c) n x le k h =
      let m = one_more i n in
      let g = low_next x i k.0 h in (
        few_values n x i (omega (arith, le)) k.0 h,
        low_names (names_after i n) (next P x i) (omega (arith, le, m)) g,
        few_seq c (names_after i n) (next P x i) (omega (arith, le, m)) k.1 g,
      )
  few_seq (Ends (Jmp v)) n x le k h = few_value n x v (omega (arith, le)) k h
  few_seq (Ends Halt) n x le k h = tt

  few_blocks : (bs : List TBlock) → FewInBlocks 1000 bs → BlocksFew P bs
  few_blocks [] h = tt
  few_blocks (b ∷ bs) h =
      let a = few_binds_file 1000 b.file h.0.1 in (
        few_seq b.code b.owes b.file (omega (arith, h.0.0, h.0.2)) h.0.3 (low_file b.file (omega (arith, a))),
        few_blocks bs h.1,
      )

-- a block's instructions as a list and as a sequence
pub steps_of_body : (xs : List (Instr × Span)) (e : TEnd) → steps (seq_of (body xs) e) ≡ length xs
steps_of_body [] e = refl
steps_of_body (x ∷ xs) e = ap suc (steps_of_body xs e)

pub types_are_few : (P : TProg) → FewInProgram P → TypesFew P
types_are_few P h = few_blocks P h P.blocks h.0
