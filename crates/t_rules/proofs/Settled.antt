-- Each program is accepted, or has a first fault: what the rules ask can be decided.
use Rattle.std.proofs.Common.{◌≡◌, ℕ, zero, suc, ◌<◌, ◌≤◌, Bool, true, false, IsTrue, List, [], ◌∷◌, length, Option}
use Rattle.std.proofs.Common.{Some, None, refl, ap, subst, arith, ◌⊎◌, inl, inr, slice_get}
use Rattle.std.proofs.lemmas.Bool.{cases_lt, cases_order}
use Rattle.idx_core.specs.declared.span.Span.{Span}
use Rattle.t_types.specs.Tree.{Ty, IntTy, CodeTy, TupleTy, TFile, NoRegs, MoreRegs, TFields, NoFields}
use Rattle.t_types.specs.Tree.{MoreFields, put, BelowTypes}
use Rattle.t_types.specs.WellFormed.{WellFormedTypes}
use Rattle.t_types.proofs.Scope.{well_formed_below, regs_below}
use Rattle.t_types.specs.Fields.{AField, field, filled, empty_fields}
use Rattle.t_types.specs.Fits.{FieldsFit, Fits, FitsFile, RegTypes, lookup}
use Rattle.t_types.specs.Props.{same, same_file}
use Rattle.t_terms.specs.Tree.{TBase, Reg, Int, Label, Data, TValue, Plain, Pack, TInstr, Arith, Bnz, Ld, Malloc, Mov}
use Rattle.t_terms.specs.Tree.{St, Unpack, TEnd, Jmp, Halt, TProg, names_after}
use Rattle.t_terms.specs.Spanned.{SBlock, SDatum, SData, seq_of, plain, plain_datum, plain_fields, plain_heap}
use Rattle.t_terms.specs.Spanned.{plain_blocks, plain_program}
use Rattle.t_terms.specs.Whole.{WellFormedBase, WellFormedValue, WellFormedInstr, WellFormedEnd, WellFormedSeq}
use Rattle.t_terms.specs.Whole.{WellFormedBlock, WellFormedBlocks, WellFormedDatum, WellFormedData, WellFormedHeap}
use Rattle.t_terms.specs.Registers.{with_reg, raised, no_types}
use Rattle.t_rules.specs.Rules.{BaseHas, Has, Enters, Typed, EndTyped, SeqAccepted}
use Rattle.t_terms.specs.Labels.{label_type, data_type}
use Rattle.t_rules.specs.Rules.{BlockAccepted, BlocksAccepted, DatumAccepted, DataAccepted, HeapAccepted}
use Rattle.t_rules.specs.Rules.{FirstTakesNothing, Accepted}
use Rattle.t_rules.specs.Faults.{KnownFits, BaseFaultWith, ValueFaultWith, FileFaultWith, EnterFaultWith}
use Rattle.t_rules.specs.Faults.{InstrFaultWith, EndFaultWith, BodyFaultWith, BlockFaultWith, BlocksFaultWith}
use Rattle.t_rules.specs.Faults.{DatumFaultWith, DataFaultWith, HeapFaultWith, FirstBlockFaultWith, ProgramNoted}
use Rattle.t_rules.specs.Faults.{ProgramFault}
use Rattle.t_rules.specs.LawsFaults.{AcceptedOrFault}
use Rattle.text_core.proofs.Refusals.{Settles, holds, comes, refused, settle_check, settle_part, settle_known}
use Rattle.text_core.proofs.Refusals.{settle_map}
use Rattle.t_rules.proofs.Forms.{settle_code, settle_exists, settle_tuple, settle_field}

abbrev pub Decided : Type 0 → Type 0
Decided A = A ⊎ (A → ⊥)

pub by_equal : {A B : Type 0} → Decided A → (A → B) → ((A → ⊥) → B → ⊥) → Decided B
by_equal (inl x) f g = inl (f x)
by_equal (inr x) f g = inr (g x)

both : {A B C : Type 0} → Decided A → Decided B → (A → B → C) → ((A → ⊥) → C → ⊥) → ((B → ⊥) → C → ⊥) → Decided C
both (inl x) (inl y) f g h = inl (f x y)
both (inr x) y f g h = inr (g x)
both (inl x) (inr y) f g h = inr (h y)

number_same : (m n : ℕ) → Decided (m ≡ n)
number_same m n = by_order (cases_order m n)
  where
    by_order : (m ≡ n) ⊎ ((m < n) ⊎ (n < m)) → Decided (m ≡ n)
    by_order (inl e) = inl e
    by_order (inr (inl lt)) = inr (λ e. omega (arith, lt, e))
    by_order (inr (inr lt)) = inr (λ e. omega (arith, lt, e))

at_most : (m n : ℕ) → Decided (m ≤ n)
at_most m n = by_order (cases_lt n m)
  where
    by_order : (n < m) ⊎ (m ≤ n) → Decided (m ≤ n)
    by_order (inl lt) = inr (λ le. omega (arith, lt, le))
    by_order (inr le) = inl le

flag_same : (a b : Bool) → Decided (a ≡ b)
flag_same true true = inl refl
flag_same false false = inl refl
flag_same true false = inr (λ e. cc)
flag_same false true = inr (λ e. cc)

-- types are equal or not
decided : {A : Type 0} → Dec A → Decided A
decided (yes a) = inl a
decided (no a) = inr a

ty_same : (t u : Ty) → Decided (t ≡ u)
ty_same t u = decided (same t u)

-- a type fits another or not
flag_fits : (own flag : Bool) → Decided (IsTrue flag → IsTrue own)
flag_fits true flag = inl (λ h. refl)
flag_fits false false = inl (λ h. h)
flag_fits false true = inr (λ h. let e : false ≡ true = h refl in cc)

fields_fit : (fs gs : TFields) → Decided (FieldsFit fs gs)
fields_fit NoFields NoFields = inl tt
fields_fit NoFields (MoreFields u flag gs) = inr (λ h. h)
fields_fit (MoreFields t own fs) NoFields = inr (λ h. h)
fields_fit (MoreFields t own fs) (MoreFields u flag gs) =
    let rest : Decided ((IsTrue flag → IsTrue own) × FieldsFit fs gs) =
    both (flag_fits own flag) (fields_fit fs gs) (λ x y. (x, y)) (λ differ h. differ h.0) (λ differ h. differ h.1) in
    both (ty_same t u) rest (λ x y. (x, y.0, y.1)) (λ differ h. differ h.0) (λ differ h. differ (h.1, h.2))

pub fits : (t u : Ty) → Decided (Fits t u)
fits (TupleTy fs) (TupleTy gs) = fields_fit fs gs
fits t u = ty_same t u

-- a register is known by a type that fits, or not
known_fits : (g : RegTypes) (r : ℕ) (t : Ty) → Decided (KnownFits g r t)
known_fits g r t = known (g r)
  where
    known : (o : Option Ty) → Decided ((u : Ty) × (o ≡ Some u) × Fits u t)
    known None = inr (λ h. let e = h.1 in cc)
    known (Some u) =
        by_equal (fits u t) (λ h. (u, refl, h)) (λ differ h. let e1 = h.1 in let e : h.0 ≡ u = cc in
        differ (subst (λ z. Fits z t) e h.2))

file_settled : (n : ℕ) (g : RegTypes) (s : Span) (file : TFile) → Settles (FitsFile g file) (FileFaultWith n g s file)
file_settled n g s NoRegs = holds tt
file_settled n g s (MoreRegs r t file) =
    settle_check (known_fits g r t) refused (λ known. settle_map (λ rest. (known, rest)) (file_settled n g s file))

-- what is in range is there
pub there : {A : Type 0} (xs : List A) (i : ℕ) → i < length xs → (x : A) × (slice_get xs i ≡ Some x)
there [] i lt = absurd (omega (arith, lt))
there (x ∷ xs) zero lt = (x, refl)
there (x ∷ xs) (suc i) lt = there xs i (omega (arith, lt))

types_below : (n : ℕ) (ts : List Ty) → WellFormedTypes n ts → BelowTypes n ts
types_below n [] h = tt
types_below n (t ∷ ts) h = (well_formed_below n t h.0, types_below n ts h.1)

module _ (P : TProg) where
  abbrev blocks : ℕ
  blocks = length P.blocks

  abbrev tuples : ℕ
  tuples = length P.heap

  base_settled : (g : RegTypes) (s : Span) (b : TBase) → WellFormedBase blocks tuples b →
      Settles ((t : Ty) × BaseHas P g b t) (BaseFaultWith g s b)
  base_settled g s (Reg r) h = settle_known (g r) refused (λ t e. holds (t, e))
  base_settled g s (Int i) h = holds (IntTy, refl)
  base_settled g s (Label l) h = let x = there P.blocks l h in holds (label_type x.0, (x.0, x.1, refl))
  base_settled g s (Data d) h = let x = there P.heap d h in holds (data_type x.0, (x.0, x.1, refl))

  value_settled : (n : ℕ) (g : RegTypes) (s : Span) (v : TValue) → WellFormedValue blocks tuples n v →
      Settles ((t : Ty) × Has P n g v t) (ValueFaultWith P n g s v)
  value_settled n g s (Plain b []) h = base_settled g s b h.0
  value_settled n g s (Plain b (u ∷ us)) h =
      settle_part (base_settled g s b h.0)
      (λ t k. settle_code t refused (λ owes file e. settle_check (at_most (length (u ∷ us)) owes) refused (λ le.
      holds (_, (owes, file, subst (BaseHas P g b) e k, le, refl, types_below n (u ∷ us) h.1)))))
  value_settled n g s (Pack hidden v shape) h =
      settle_part (value_settled n g s v h.1)
      (λ t k. settle_exists shape refused (λ body e. settle_check (fits t (put 0 hidden body)) refused (λ f.
      holds (shape, (body, t, k, e, f, refl, well_formed_below n hidden h.0, well_formed_below n shape h.2)))))

  enter_settled : (n : ℕ) (g : RegTypes) (s : Span) (v : TValue) → WellFormedValue blocks tuples n v →
      Settles (Enters P n g v) (EnterFaultWith P n g s v)
  enter_settled n g s v h =
      settle_part (value_settled n g s v h)
      (λ t k. settle_code t refused
      (λ owes file e. settle_check (number_same owes 0) refused
      (λ none. settle_map (λ f. (file, subst (λ m. Has P n g v (CodeTy m file)) none (subst (Has P n g v) e k), f))
      (file_settled n g s file))))

  instr_settled : (n : ℕ) (g : RegTypes) (s : Span) (i : TInstr) → WellFormedInstr blocks tuples n i →
      Settles ((h : RegTypes) × Typed P n g i h) (InstrFaultWith P n g s i)
  instr_settled n g s (Arith op rd rs v) h =
      settle_known (g rs) refused
      (λ t e. settle_check (ty_same t IntTy) refused
      (λ int. settle_part (value_settled n g s v h.2) (λ u k. settle_check (ty_same u IntTy) refused (λ too.
      holds (with_reg g rd IntTy, (subst (λ z. g rs ≡ Some z) int e, subst (Has P n g v) too k, refl))))))
  instr_settled n g s (Bnz r v) h =
      settle_known (g r) refused
      (λ t e. settle_check (ty_same t IntTy) refused
      (λ int. settle_map (λ k. (g, (subst (λ z. g r ≡ Some z) int e, k, refl))) (enter_settled n g s v h.1)))
  instr_settled n g s (Ld rd rs i) h =
      settle_known (g rs) refused
      (λ t e. settle_tuple t refused
      (λ fs is. settle_field (field fs i) refused (λ u flag at. settle_check (flag_same flag true) refused (λ full.
      holds (
        with_reg g rd u,
        (fs, u, subst (λ z. g rs ≡ Some z) is e, subst (λ z. field fs i ≡ Some (AField u z)) full at, refl),
      )))))
  instr_settled n g s (Malloc rd ts) h = holds (with_reg g rd (TupleTy (empty_fields ts)), (refl, types_below n ts h.1))
  instr_settled n g s (Mov rd v) h = settle_map (λ k. (with_reg g rd k.0, (k.0, k.1, refl))) (value_settled n g s v h.1)
  instr_settled n g s (St rd i rs) h =
      settle_known (g rd) refused
      (λ t e. settle_tuple t refused
      (λ fs is. settle_field (field fs i) refused
      (λ u flag at. settle_known (g rs) refused (λ w there. settle_check (fits w u) refused (λ f.
      holds (
        with_reg g rd (TupleTy (filled fs i)),
        (fs, u, flag, w, subst (λ z. g rd ≡ Some z) is e, at, there, f, refl),
      ))))))
  instr_settled n g s (Unpack rd v) h =
      settle_part (value_settled n g s v h.1)
      (λ t k. settle_exists t refused
      (λ u is. holds (with_reg (raised g) rd u, (u, subst (Has P n g v) is k, refl))))

  end_settled : (n : ℕ) (g : RegTypes) (s : Span) (e : TEnd) → WellFormedEnd blocks tuples n e →
      Settles (EndTyped P n g e) (EndFaultWith P n g s e)
  end_settled n g s (Jmp v) h = enter_settled n g s v h
  end_settled n g s Halt h = settle_check (known (g 1)) refused (λ k. holds k)
    where
      known : (o : Option Ty) → Decided (o ≡ Some IntTy)
      known None = inr (λ e. cc)
      known (Some t) = by_equal (ty_same t IntTy) (λ e. ap Some e) (λ differ e. differ (cc))

  body_settled : (xs : List (TInstr × Span)) (n : ℕ) (g : RegTypes) (e : TEnd) (s : Span) →
      WellFormedSeq blocks tuples n (seq_of xs e) →
      Settles (SeqAccepted P n g (seq_of xs e)) (BodyFaultWith P n g xs e s)
  body_settled [] n g e s h = end_settled n g s e h
  body_settled (x ∷ xs) n g e s h =
      settle_part (instr_settled n g x.1 x.0 h.0)
      (λ k typed. settle_map (λ rest. (k, typed, rest)) (body_settled xs (names_after x.0 n) k e s h.2))

  block_settled : (b : SBlock) → WellFormedBlock blocks tuples (plain b) →
      Settles (BlockAccepted P (plain b)) (BlockFaultWith P b)
  block_settled b h =
      settle_map (λ k. (regs_below 0 b.owes b.file h.1, k))
      (body_settled b.body b.owes (lookup b.file) b.last b.last_span h.2)

  blocks_settled : (bs : List SBlock) → WellFormedBlocks blocks tuples (plain_blocks bs) →
      Settles (BlocksAccepted P (plain_blocks bs)) (BlocksFaultWith P bs)
  blocks_settled [] h = holds tt
  blocks_settled (b ∷ bs) h =
      settle_part (settle_map (λ k. (tt, k)) (block_settled b h.0))
      (λ u k. settle_map (λ rest. (k, rest)) (blocks_settled bs h.1))

  datum_settled : (x : SDatum) → WellFormedDatum blocks tuples (plain_datum x) →
      Settles (DatumAccepted P (plain_datum x)) (DatumFaultWith P x)
  datum_settled x h =
      settle_part (value_settled 0 no_types x.span x.value h.0)
      (λ t k. settle_check (fits t x.ty) refused (λ f. holds (t, k, f, well_formed_below 0 x.ty h.2)))

  data_settled : (xs : List SDatum) → WellFormedData blocks tuples (plain_fields xs) →
      Settles (DataAccepted P (plain_fields xs)) (DataFaultWith P xs)
  data_settled [] h = holds tt
  data_settled (x ∷ xs) h =
      settle_part (settle_map (λ k. (tt, k)) (datum_settled x h.0))
      (λ u k. settle_map (λ rest. (k, rest)) (data_settled xs h.1))

  heap_settled : (xs : List SData) → WellFormedHeap blocks tuples (plain_heap xs) →
      Settles (HeapAccepted P (plain_heap xs)) (HeapFaultWith P xs)
  heap_settled [] h = holds tt
  heap_settled (x ∷ xs) h =
      settle_part (settle_map (λ k. (tt, k)) (data_settled x.fields h.0))
      (λ u k. settle_map (λ rest. (k, rest)) (heap_settled xs h.1))

-- the first block takes nothing, or T20 stands
nothing_owed : (b : SBlock) → Decided (FirstTakesNothing (plain b ∷ []))
nothing_owed b =
    both (number_same b.owes 0) (decided (same_file b.file NoRegs)) (λ x y. (x, y)) (λ differ h. differ h.0)
    (λ differ h. differ h.1)

pub accepted_or_fault : AcceptedOrFault
accepted_or_fault P whole = told settled
  where
    first : (bs : List SBlock) → 1 ≤ length (plain_blocks bs) → Decided (FirstTakesNothing (plain_blocks bs))
        × Settles ⊥ (FirstBlockFaultWith bs)
    first [] le = absurd (omega (arith, le))
    first (b ∷ bs) le = (nothing_owed b, refused)

    settled : Settles (Accepted (plain_program P)) (ProgramNoted P)
    settled =
        let x = first P.blocks whole.0 in
        settle_check x.0 x.1
        (λ taken. settle_part (settle_map (λ k. (tt, k)) (heap_settled (plain_program P) P.heap whole.2))
        (λ u heap.
        settle_map (λ rest. (taken, heap, rest)) (blocks_settled (plain_program P) P.blocks whole.1)))

    told : Settles (Accepted (plain_program P)) (ProgramNoted P) → Accepted (plain_program P)
        ⊎ ((c : _) × (p : Span) × ProgramFault P c p)
    told (holds k) = inl k
    told (comes c p h) = inr (c.0, p, (c.1, h))
