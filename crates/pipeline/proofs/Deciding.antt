-- A program has a register above k, or it has none.
use Rattle.std.proofs.Common.{◌<◌, ◌≤◌, ◌⊎◌, inl, inr, ℕ, List, [], ◌∷◌, arith}
use Rattle.std.proofs.lemmas.Bool.{cases_lt}
use Rattle.t_types.specs.Tree.{Ty, IntTy, VarTy, CodeTy, ExistsTy, TupleTy, TFile, NoRegs, MoreRegs, TFields, NoFields}
use Rattle.t_types.specs.Tree.{MoreFields}
use Rattle.t_terms.specs.Tree.{TBase, Reg, Int, Label, Data, TValue, Plain, Pack, TInstr, Arith, Bnz, Ld, Malloc, Mov}
use Rattle.t_terms.specs.Tree.{St, Unpack, Jmp, Halt, TSeq, Then, Ends, TBlock, TData, TProg}
use Rattle.t_spill_laws.specs.Bound.{InType, InFile, InFields, InTypes, InBase, InValue, InInstr, InSeq, InBlocks}
use Rattle.t_spill_laws.specs.Bound.{InData}
use Rattle.t_spill_laws.specs.Bound.{InHeap, RegistersUpTo}

abbrev pub Decided : Type 0 → Type 0
Decided A = A ⊎ (A → ⊥)

both : {A B : Type 0} → Decided A → Decided B → Decided (A × B)
both (inl a) (inl b) = inl (a, b)
both (inl a) (inr g) = inr (λ p. g p.1)
both (inr f) b = inr (λ p. f p.0)

three : {A B C : Type 0} → Decided A → Decided B → Decided C → Decided (A × B × C)
three (inl a) (inl b) (inl c) = inl (a, b, c)
three (inl a) (inl b) (inr h) = inr (λ p. h p.2)
three (inl a) (inr g) c = inr (λ p. g p.1)
three (inr f) b c = inr (λ p. f p.0)

module _ (k : ℕ) where
  at_most : (r : ℕ) → Decided (r ≤ k)
  at_most r = go (cases_lt k r)
    where
      go : (k < r) ⊎ (r ≤ k) → Decided (r ≤ k)
      go (inl lt) = inr (λ le. omega (arith, lt, le))
      go (inr le) = inl le

  mutual
    of_type : (t : Ty) → Decided (InType k t)
    of_type IntTy = inl tt
    of_type (VarTy i) = inl tt
    of_type (CodeTy owes file) = of_file file
    of_type (ExistsTy t) = of_type t
    of_type (TupleTy fields) = of_fields fields

    of_file : (f : TFile) → Decided (InFile k f)
    of_file NoRegs = inl tt
    of_file (MoreRegs r t file) = three (at_most r) (of_type t) (of_file file)

    of_fields : (fs : TFields) → Decided (InFields k fs)
    of_fields NoFields = inl tt
    of_fields (MoreFields t flag fields) = both (of_type t) (of_fields fields)

  of_types : (ts : List Ty) → Decided (InTypes k ts)
  of_types [] = inl tt
  of_types (t ∷ ts) = both (of_type t) (of_types ts)

  of_base : (b : TBase) → Decided (InBase k b)
  of_base (Reg r) = at_most r
  of_base (Int i) = inl tt
  of_base (Label l) = inl tt
  of_base (Data d) = inl tt

  of_value : (v : TValue) → Decided (InValue k v)
  of_value (Plain b ts) = both (of_base b) (of_types ts)
  of_value (Pack t v s) = three (of_type t) (of_value v) (of_type s)

  of_instr : (i : TInstr) → Decided (InInstr k i)
  of_instr (Arith op rd rs v) = three (at_most rd) (at_most rs) (of_value v)
  of_instr (Bnz r v) = both (at_most r) (of_value v)
  of_instr (Ld rd rs i) = both (at_most rd) (at_most rs)
  of_instr (Malloc rd ts) = both (at_most rd) (of_types ts)
  of_instr (Mov rd v) = both (at_most rd) (of_value v)
  of_instr (St rd i rs) = both (at_most rd) (at_most rs)
  of_instr (Unpack rd v) = both (at_most rd) (of_value v)

  of_seq : (c : TSeq) → Decided (InSeq k c)
  of_seq (Then i rest) = both (of_instr i) (of_seq rest)
  of_seq (Ends (Jmp v)) = of_value v
  of_seq (Ends Halt) = inl tt

  of_blocks : (bs : List TBlock) → Decided (InBlocks k bs)
  of_blocks [] = inl tt
  of_blocks (b ∷ bs) = three (of_file b.file) (of_seq b.code) (of_blocks bs)

  of_data : (xs : TData) → Decided (InData k xs)
  of_data [] = inl tt
  of_data (x ∷ xs) = three (of_value x.value) (of_type x.ty) (of_data xs)

  of_heap : (xs : List TData) → Decided (InHeap k xs)
  of_heap [] = inl tt
  of_heap (x ∷ xs) = both (of_data x) (of_heap xs)

  pub few_or_not : (P : TProg) → Decided (RegistersUpTo k P)
  few_or_not P = both (of_blocks P.blocks) (of_heap P.heap)
