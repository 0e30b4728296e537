-- Typing is kept where a type is put for a type variable, and where a block is entered with its types.
use Rattle.std.proofs.Common.{◌≡◌, ℕ, suc, ◌+◌, ◌-◌, ◌≤◌, nat_eq, cond, Bool, true, false, List, [], ◌∷◌, ◌++◌, length}
use Rattle.std.proofs.Common.{Option, Some, None, refl, sym, ap, ap₂, ◌∙◌, subst, arith, slice_get}
use Rattle.std.specs.Prelude.{option_map}
use Rattle.std.proofs.Math.Path.{fun_ext}
use Rattle.idx_core.specs.Over.{putted}
use Rattle.idx_core.specs.Laws.{put_below, below_put, below_shift}
use Rattle.t_types.specs.Tree.{Ty, IntTy, VarTy, CodeTy, ExistsTy, TupleTy, TFile, NoRegs, MoreRegs, over, over_file}
use Rattle.t_types.specs.Tree.{over_fields, over_types, shift, put, put_file, put_from, Below, BelowTypes, VarTy}
use Rattle.t_types.specs.TreeLaws.{types_part, types_each, types_over, file_over}
use Rattle.t_types.proofs.PutLaws.{put_below_is, put_shifted, put_past_put, put_past_first}
use Rattle.t_types.specs.Fields.{filled, empty_fields}
use Rattle.t_types.specs.Fits.{Fits, FitsFile, RegTypes, lookup}
use Rattle.t_types.proofs.FitsLaws.{fits_over, field_over, filled_over, empty_over}
use Rattle.t_terms.specs.Tree.{TBase, Reg, Int, Label, Data, TValue, Plain, Pack, TInstr, Arith, Bnz, Ld, Malloc, Mov}
use Rattle.t_terms.specs.Tree.{St, Unpack, TEnd, Jmp, Halt, TSeq, Then, Ends, TBlock, TData, TProg, over_value}
use Rattle.t_terms.specs.Tree.{over_instr, over_end, over_seq, put_seq, names_after}
use Rattle.t_terms.specs.Registers.{with_reg, raised, inst_file, inst_seq, inst_known}
use Rattle.t_rules.specs.Rules.{BaseHas, Has, Enters, Typed, EndTyped, SeqAccepted}
use Rattle.t_terms.specs.Labels.{label_type, data_type}
use Rattle.t_terms.proofs.BodyWalks.{names_grow}

pub over_length : (f : ℕ → ℕ → Ty) (d : ℕ) (ts : List Ty) → length (over_types f d ts) ≡ length ts
over_length f d [] = refl
over_length f d (t ∷ ts) = ap suc (over_length f d ts)

-- one list of types after another
pub inst_append : (ts us : List Ty) (n : ℕ) (file : TFile) →
    inst_file (ts ++ us) n file ≡ inst_file us (n - length ts) (inst_file ts n file)
inst_append [] us n file = let e : n ≡ n - 0 = omega arith in ap (λ m. inst_file us m file) e
inst_append (t ∷ ts) us n file =
    let e : n - 1 - length ts ≡ n - suc (length ts) = omega arith in
    inst_append ts us (n - 1) _
    ∙ ap (λ m. inst_file us m (inst_file ts (n - 1) (put_file (n - 1) (shift (n - 1) 0 t) file))) e

-- what a map has at a register, through a walk over what it has
pub at_reg : {A B : Type 0} (f : A → B) (here : Bool) (x : A) (o : Option A) →
    option_map f (cond here (Some x) o) ≡ cond here (Some (f x)) (option_map f o)
at_reg f true x o = refl
at_reg f false x o = refl

-- the types of labels have no free variable
abbrev pub ClosedLabels : TProg → Type 0
ClosedLabels P = (l : ℕ) (b : TBlock) → slice_get P.blocks l ≡ Some b → Below 0 (label_type b)

-- and so have those of data labels
abbrev pub ClosedData : TProg → Type 0
ClosedData P = (d : ℕ) (x : TData) → slice_get P.heap d ≡ Some x → Below 0 (data_type x)

-- what is known of the registers, where s is put for c, seen below d - c binders
abbrev pub put_known : ℕ → Ty → ℕ → RegTypes → RegTypes
put_known c s d g q = option_map (put_from c s d) (g q)

-- how many names an instruction binds, wherever it stands
pub names_more : (i : TInstr) (d : ℕ) → names_after i d ≡ d + names_after i 0
names_more (Arith op rd rs v) d = omega arith
names_more (Bnz r v) d = omega arith
names_more (Ld rd rs i) d = omega arith
names_more (Malloc rd ts) d = omega arith
names_more (Mov rd v) d = omega arith
names_more (St rd i rs) d = omega arith
names_more (Unpack rd v) d = omega arith

pub names_over : (f : ℕ → ℕ → Ty) (i : TInstr) (d e : ℕ) → names_after (over_instr f e i) d ≡ names_after i d
names_over f (Arith op rd rs v) d e = refl
names_over f (Bnz r v) d e = refl
names_over f (Ld rd rs i) d e = refl
names_over f (Malloc rd ts) d e = refl
names_over f (Mov rd v) d e = refl
names_over f (St rd i rs) d e = refl
names_over f (Unpack rd v) d e = refl

names_up : (i : TInstr) (d : ℕ) → names_after i (d + 1) ≡ names_after i d + 1
names_up i d = omega (arith, names_more i d, names_more i (d + 1))

-- The types in order, put for the first of n type variables, in an instruction; in what is known, and in a sequence,
-- that stand under k type variables more.
abbrev pub inst_instr : List Ty → ℕ → TInstr → TInstr
inst_instr [] n i = i
inst_instr (t ∷ ts) n i = inst_instr ts (n - 1) (over_instr (putted VarTy over (n - 1) (shift (n - 1) 0 t)) (n - 1) i)

abbrev pub inst_under : List Ty → ℕ → ℕ → RegTypes → RegTypes
inst_under [] n k g = g
inst_under (t ∷ ts) n k g = inst_under ts (n - 1) k (put_known (n - 1) (shift (n - 1) 0 t) (n - 1 + k) g)

abbrev pub inst_rest : List Ty → ℕ → ℕ → TSeq → TSeq
inst_rest [] n k c = c
inst_rest (t ∷ ts) n k c =
    inst_rest ts (n - 1) k (over_seq (putted VarTy over (n - 1) (shift (n - 1) 0 t)) (n - 1 + k) c)

-- types put under closed ones
below_put_from : (c d : ℕ) (s t : Ty) → c ≤ d → Below c s → Below (d + 1) t → Below d (put_from c s d t)
below_put_from c d s t le hs h =
    let e : c + (d - c) ≡ d = omega arith in
    let far : Below d (shift (d - c) 0 s) =
    subst (λ n. Below n (shift (d - c) 0 s)) e
    (below_shift types_part types_each types_over types_each.has (d - c) 0 c s hs) in
    subst (Below d) (sym (put_below_is types_over c d d s t le (omega arith)))
    (below_put types_part types_each types_over types_each.has d d (shift (d - c) 0 s) t (omega arith) far h)

types_put_from : (c d : ℕ) (s : Ty) (ts : List Ty) → c ≤ d → Below c s → BelowTypes (d + 1) ts →
    BelowTypes d (over_types (putted VarTy over c s) d ts)
types_put_from c d s [] le hs h = tt
types_put_from c d s (t ∷ ts) le hs h = (below_put_from c d s t le hs h.0, types_put_from c d s ts le hs h.1)

-- a closed type is so under any names, and is its own shift
pub below_any : (k : ℕ) (t : Ty) → Below 0 t → Below k (shift k 0 t)
below_any k t h =
    let e : 0 + k ≡ k = omega arith in
    subst (λ n. Below n (shift k 0 t)) e (below_shift types_part types_each types_over types_each.has k 0 0 t h)

module _ (c : ℕ) (s : Ty) where
  known_at : (d : ℕ) (g : RegTypes) (r : ℕ) (t : Ty) → g r ≡ Some t → put_known c s d g r ≡ Some (put_from c s d t)
  known_at d g r t e = ap (option_map (put_from c s d)) e

  with_put : (d : ℕ) (g : RegTypes) (r : ℕ) (t : Ty) →
      put_known c s d (with_reg g r t) ≡ with_reg (put_known c s d g) r (put_from c s d t)
  with_put d g r t = fun_ext (λ q. at_reg (put_from c s d) (nat_eq r q) t (g q))

  raised_at : (d : ℕ) (o : Option Ty) → c ≤ d → option_map (put_from c s (d + 1)) (option_map (shift 1 0) o)
      ≡ option_map (shift 1 0) (option_map (put_from c s d) o)
  raised_at d None le = refl
  raised_at d (Some t) le = ap Some (put_shifted types_over c d 1 s t le)

  raised_put : (d : ℕ) (g : RegTypes) → c ≤ d → put_known c s (d + 1) (raised g) ≡ raised (put_known c s d g)
  raised_put d g le = fun_ext (λ q. raised_at d (g q) le)

  fits_file_put : (d : ℕ) (g : RegTypes) (file : TFile) → FitsFile g file →
      FitsFile (put_known c s d g) (over_file (putted VarTy over c s) d file)
  fits_file_put d g NoRegs h = tt
  fits_file_put d g (MoreRegs r t file) h = (
    (put_from c s d h.0.0, known_at d g r h.0.0 h.0.1, fits_over (putted VarTy over c s) d h.0.0 t h.0.2),
    fits_file_put d g file h.1,
  )

  -- types in order, of which p are still owed, and a put
  inst_put : (ts : List Ty) (n p d : ℕ) (file : TFile) → c ≤ d → n ≡ p + length ts →
      over_file (putted VarTy over c s) (d + p) (inst_file ts n file)
      ≡ inst_file (over_types (putted VarTy over c s) d ts) n (over_file (putted VarTy over c s) (d + n) file)
  inst_put [] n p d file le e =
      let same : p ≡ n = omega arith in ap (λ m. over_file (putted VarTy over c s) (d + m) file) same
  inst_put (t ∷ ts) n p d file le e =
      let far : d + (n - 1) + 1 ≡ d + n = omega arith in
      inst_put ts (n - 1) p d (put_file (n - 1) (shift (n - 1) 0 t) file) le (omega arith)
      ∙ ap (inst_file (over_types (putted VarTy over c s) d ts) (n - 1))
      (put_past_put file_over c d (n - 1) s t file le
      ∙ ap (λ m. put_file (n - 1) (shift (n - 1) 0 (put_from c s d t)) (over_file (putted VarTy over c s) m file)) far)

  module _ (P : TProg) (closed : ClosedLabels P) (tuples : ClosedData P) (small : Below c s) where
    -- a closed type stays as it is
    stays : (d : ℕ) (t : Ty) → c ≤ d → Below 0 t → put_from c s d t ≡ t
    stays d t le h =
        put_below_is types_over c d d s t le (omega arith)
        ∙ put_below types_part types_each types_over types_each.has d (shift (d - c) 0 s) 0 t (omega arith) h

    base_put : (d : ℕ) (g : RegTypes) (b : TBase) (t : Ty) → c ≤ d → BaseHas P g b t →
        BaseHas P (put_known c s d g) b (put_from c s d t)
    base_put d g (Reg r) t le h = known_at d g r t h
    base_put d g (Int i) t le h = ap (put_from c s d) h
    base_put d g (Label l) t le h = (h.0, h.1, ap (put_from c s d) h.2 ∙ stays d (label_type h.0) le (closed l h.0 h.1))
    base_put d g (Data l) t le h = (h.0, h.1, ap (put_from c s d) h.2 ∙ stays d (data_type h.0) le (tuples l h.0 h.1))

    has_put : (d : ℕ) (g : RegTypes) (v : TValue) (t : Ty) → c ≤ d → Has P (d + 1) g v t →
        Has P d (put_known c s d g) (over_value (putted VarTy over c s) d v) (put_from c s d t)
    has_put d g (Plain b []) t le h = base_put d g b t le h
    has_put d g (Plain b (u ∷ us)) t le h =
        let len : length (over_types (putted VarTy over c s) d us) ≡ length us =
        over_length (putted VarTy over c s) d us in
        let most : length (u ∷ us) ≤ h.0 = h.3 in
        let left : h.0 - length (u ∷ us) ≡ h.0 - suc (length (over_types (putted VarTy over c s) d us)) =
        omega arith in (
          h.0,
          over_file (putted VarTy over c s) (d + h.0) h.1,
          base_put d g b (CodeTy h.0 h.1) le h.2,
          omega arith,
          ap (put_from c s d) h.4
              ∙ ap₂ CodeTy left (inst_put (u ∷ us) h.0 (h.0 - length (u ∷ us)) d h.1 le (omega arith)),
          types_put_from c d s (u ∷ us) le small h.5,
        )
    has_put d g (Pack hidden v shape) t le h = (
      put_from c s (d + 1) h.0,
      put_from c s d h.1,
      has_put d g v h.1 le h.2,
      ap (put_from c s d) h.3,
      subst (Fits (put_from c s d h.1)) (put_past_first c d s hidden h.0 le)
          (fits_over (putted VarTy over c s) d h.1 (put 0 hidden h.0) h.4),
      ap (put_from c s d) h.5,
      below_put_from c d s hidden le small h.6,
      below_put_from c d s shape le small h.7,
    )

    enters_put : (d : ℕ) (g : RegTypes) (v : TValue) → c ≤ d → Enters P (d + 1) g v →
        Enters P d (put_known c s d g) (over_value (putted VarTy over c s) d v)
    enters_put d g v le h =
        let e : d ≡ d + 0 = omega arith in (
          over_file (putted VarTy over c s) (d + 0) h.0,
          has_put d g v (CodeTy 0 h.0) le h.1,
          subst (λ n. FitsFile (put_known c s d g) (over_file (putted VarTy over c s) n h.0)) e
              (fits_file_put d g h.0 h.2),
        )

    end_put : (d : ℕ) (g : RegTypes) (e : TEnd) → c ≤ d → EndTyped P (d + 1) g e →
        EndTyped P d (put_known c s d g) (over_end (putted VarTy over c s) d e)
    end_put d g (Jmp v) le h = enters_put d g v le h
    end_put d g Halt le h = known_at d g 1 IntTy h

    -- one instruction, with what is known after it
    pub typed_put : (i : TInstr) (d : ℕ) (g h : RegTypes) → c ≤ d → Typed P (d + 1) g i h →
        Typed P d (put_known c s d g) (over_instr (putted VarTy over c s) d i) (put_known c s (names_after i d) h)
    typed_put (Arith op rd rs v) d g h le k =
        (known_at d g rs IntTy k.0, has_put d g v IntTy le k.1, ap (put_known c s d) k.2 ∙ with_put d g rd IntTy)
    typed_put (Bnz r v) d g h le k = (known_at d g r IntTy k.0, enters_put d g v le k.1, ap (put_known c s d) k.2)
    typed_put (Ld rd rs i) d g h le k = (
      over_fields (putted VarTy over c s) d k.0,
      put_from c s d k.1,
      known_at d g rs (TupleTy k.0) k.2,
      field_over (putted VarTy over c s) d k.0 i k.1 true k.3,
      ap (put_known c s d) k.4 ∙ with_put d g rd k.1,
    )
    typed_put (Malloc rd ts) d g h le k = (
      ap (put_known c s d) k.0 ∙ with_put d g rd (TupleTy (empty_fields ts))
          ∙ ap (λ z. with_reg (put_known c s d g) rd (TupleTy z)) (empty_over (putted VarTy over c s) d ts),
      types_put_from c d s ts le small k.1,
    )
    typed_put (Mov rd v) d g h le k =
        (put_from c s d k.0, has_put d g v k.0 le k.1, ap (put_known c s d) k.2 ∙ with_put d g rd k.0)
    typed_put (St rd i rs) d g h le k = (
      over_fields (putted VarTy over c s) d k.0,
      put_from c s d k.1,
      k.2,
      put_from c s d k.3,
      known_at d g rd (TupleTy k.0) k.4,
      field_over (putted VarTy over c s) d k.0 i k.1 k.2 k.5,
      known_at d g rs k.3 k.6,
      fits_over (putted VarTy over c s) d k.3 k.1 k.7,
      ap (put_known c s d) k.8
          ∙ with_put d g rd (TupleTy (filled k.0 i))
          ∙ ap (λ z. with_reg (put_known c s d g) rd (TupleTy z)) (filled_over (putted VarTy over c s) d k.0 i),
    )
    typed_put (Unpack rd v) d g h le k = (
      put_from c s (d + 1) k.0,
      has_put d g v (ExistsTy k.0) le k.1,
      ap (put_known c s (d + 1)) k.2 ∙ with_put (d + 1) (raised g) rd k.0
          ∙ ap (λ z. with_reg z rd (put_from c s (d + 1) k.0)) (raised_put d g le),
    )

    -- a sequence, instruction by instruction
    pub seq_put : (code : TSeq) (d : ℕ) (g : RegTypes) → c ≤ d → SeqAccepted P (d + 1) g code →
        SeqAccepted P d (put_known c s d g) (over_seq (putted VarTy over c s) d code)
    seq_put (Then i code) d g le h =
        let more : c ≤ names_after i d = omega (arith, le, names_grow i d) in (
          put_known c s (names_after i d) h.0,
          typed_put i d g h.0 le h.1,
          subst (λ m. SeqAccepted P m (put_known c s (names_after i d) h.0)
              (over_seq (putted VarTy over c s) (names_after i d) code))
              (sym (names_over (putted VarTy over c s) i d d))
              (seq_put code (names_after i d) h.0 more (subst (λ m. SeqAccepted P m h.0 code) (names_up i d) h.2)),
        )
    seq_put (Ends e) d g le h = end_put d g e le h

  lookup_at : (file : TFile) (d q : ℕ) →
      put_known c s d (lookup file) q ≡ lookup (over_file (putted VarTy over c s) d file) q
  lookup_at NoRegs d q = refl
  lookup_at (MoreRegs r t file) d q = at_reg (put_from c s d) (nat_eq r q) t (lookup file q)
      ∙ ap (cond (nat_eq r q) (Some (put_from c s d t))) (lookup_at file d q)

-- The types that a block or a place owes, put in order: they are closed.
module _ (P : TProg) (closed : ClosedLabels P) (tuples : ClosedData P) where
  -- what is known, and a sequence
  pub seq_inst : (ts : List Ty) (n : ℕ) (g : RegTypes) (code : TSeq) → length ts ≡ n → BelowTypes 0 ts →
      SeqAccepted P n g code →
      SeqAccepted P 0 (inst_known ts n g) (inst_seq ts n code)
  seq_inst [] n g code len small h = subst (λ m. SeqAccepted P m g code) (sym len) h
  seq_inst (t ∷ ts) n g code len small h =
      let e : n ≡ n - 1 + 1 = omega (arith, len) in
      seq_inst ts (n - 1) (put_known (n - 1) (shift (n - 1) 0 t) (n - 1) g) (put_seq (n - 1) (shift (n - 1) 0 t) code)
      (omega (arith, len)) small.1
      (seq_put (n - 1) (shift (n - 1) 0 t) P closed tuples (below_any (n - 1) t small.0) code (n - 1) g (omega arith)
      (subst (λ m. SeqAccepted P m g code) e h))

  -- an instruction of which k type variables come after the n of the place
  pub typed_inst : (ts : List Ty) (n : ℕ) (g h : RegTypes) (i : TInstr) → length ts ≡ n → BelowTypes 0 ts →
      Typed P n g i h →
      Typed P 0 (inst_known ts n g) (inst_instr ts n i) (inst_under ts n (names_after i 0) h)
  typed_inst [] n g h i len small k = subst (λ m. Typed P m g i h) (sym len) k
  typed_inst (t ∷ ts) n g h i len small k =
      let e : n ≡ n - 1 + 1 = omega (arith, len) in
      let f = putted VarTy over (n - 1) (shift (n - 1) 0 t) in
      let here = typed_put (n - 1) (shift (n - 1) 0 t) P closed tuples (below_any (n - 1) t small.0) i (n - 1) g h
      (omega arith) (subst (λ m. Typed P m g i h) e k) in
      let rest = typed_inst ts (n - 1) (put_known (n - 1) (shift (n - 1) 0 t) (n - 1) g) _ (over_instr f (n - 1) i)
      (omega (arith, len)) small.1 here in
      subst (λ z. Typed P 0 (inst_known (t ∷ ts) n g) (inst_instr (t ∷ ts) n i) z)
      (ap (λ m. inst_under ts (n - 1) m (put_known (n - 1) (shift (n - 1) 0 t) (names_after i (n - 1)) h))
      (names_over f i 0 (n - 1))
      ∙ ap (λ m. inst_under ts (n - 1) (names_after i 0) (put_known (n - 1) (shift (n - 1) 0 t) m h))
      (names_more i (n - 1))) rest

-- the file of a block with its types is what is known of its file
pub file_inst : (ts : List Ty) (n : ℕ) (file : TFile) → inst_known ts n (lookup file) ≡ lookup (inst_file ts n file)
file_inst [] n file = refl
file_inst (t ∷ ts) n file =
    ap (inst_known ts (n - 1)) (fun_ext (λ q. lookup_at (n - 1) (shift (n - 1) 0 t) file (n - 1) q))
    ∙ file_inst ts (n - 1) (put_file (n - 1) (shift (n - 1) 0 t) file)
