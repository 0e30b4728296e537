-- The program that is read is whole.
use Rattle.std.proofs.Common.{◌≡◌, ◌≢◌, ℕ, ◌+◌, ◌<◌, ◌≤◌, List, [], ◌∷◌, ◌++◌, length, map, refl, sym, ◌∙◌, subst}
use Rattle.std.proofs.Common.{Bool, true, false, not, ◌||◌, if◌then◌else◌, arith, zero-add, Option, Some, None}
use Rattle.std.specs.Prelude.{nat_eq, nat_lt, bytes_eq, is_none}
use Rattle.std.specs.List.{list_any}
use Rattle.std.proofs.lemmas.Bool.{eq-eqb, ltb-true, ltb-false, not-false}
use Rattle.idx_core.specs.declared.span.Span.{Span}
use Rattle.idx_core.specs.Names.{Name}
use Rattle.t_types.specs.Tree.{Ty, TFile, NoRegs, MoreRegs}
use Rattle.t_types.specs.WellFormed.{max_number, WellFormed, RegsAbove, WellFormedFields, WellFormedTypes}
use Rattle.t_terms.specs.declared.fault.TCode.{TCode}
use Rattle.t_terms.specs.declared.fault.TCode.TheVariants.{T05, T06, T07}
use Rattle.t_terms.specs.declared.block.Block as code
use Rattle.t_terms.specs.declared.data.Data as heap_of
use Rattle.t_terms.specs.Tree as tree
use Rattle.t_terms.specs.Tree.{TBase, Reg, Int, Label, Data}
use Rattle.t_terms.specs.Spanned.{SBlock, SData, SProg, plain_program, plain, plain_blocks, plain_datum, plain_fields}
use Rattle.t_terms.specs.Spanned.{plain_heap, seq_of}
use Rattle.t_terms.specs.Read.{spanned_parts, parts}
use Rattle.std.proofs.lemmas.List.{length-map}
use Rattle.t_terms.specs.Whole.{WellFormedProgram, WellFormedBase, WellFormedValue, WellFormedInstr, WellFormedEnd}
use Rattle.t_terms.specs.Whole.{WellFormedSeq}
use Rattle.t_terms.specs.Whole.{WellFormedBlock, WellFormedBlocks, WellFormedDatum, WellFormedData, WellFormedHeap}
use Rattle.t_text.specs.Raw.{RawTy, RInt, RName, RCode, RSome, RTuple, RawRegs, NoRawRegs, MoreRawRegs, RawFields}
use Rattle.t_text.specs.Raw.{NoRawFields, MoreRawFields, RawBase, RReg, RNum, RLabel, RawValue, RPlain, RPack, RawInstr}
use Rattle.t_text.specs.Raw.{RArith, RBnz, RLd, RMalloc, RMov, RSt, RUnpack, RawEnd, RJmp, RHalt, RawBlock, RawDatum}
use Rattle.t_text.specs.Raw.{RawItem, BlockItem, DataItem, blocks_in, data_in}
use Rattle.t_text.specs.Names.{Labels, named_by, or_first, spelled, is_among, index_in, bind, insert_reg, type_of}
use Rattle.t_text.specs.Names.{file_of, fields_of, types_of, base_of, value_of, instr_of, body_of, end_of, scope_after}
use Rattle.t_text.specs.Names.{scope_after_all, labels_of, block_of, datum_of, data_of, program_of}
use Rattle.t_text.specs.NameFaults.{only_if, type_faults, regs_faults, fields_faults, types_faults, base_faults}
use Rattle.t_text.specs.NameFaults.{value_faults, instr_faults, body_faults, end_faults, block_faults, datum_faults}
use Rattle.t_text.specs.NameFaults.{data_faults, items_faults, program_faults}
use Rattle.t_text.proofs.ItemLaws.{IsTarget, labels_named, no_register}
use Rattle.t_reader.specs.Resolve.{IsShape}
use Rattle.t_reader.proofs.Fitting.{FitsTy, FitsRegs, FitsFields, FitsTys, FitsBase, FitsValue, FitsInstr, after_raw}
use Rattle.t_reader.proofs.Fitting.{after_steps, FitsSteps, FitsEnd, FitsBlock, FitsDatum, FitsData, FitsItems}
use Rattle.t_reader.proofs.Fitting.{fits_Program, kept_cut}

none_left : {A : Type 0} (u v : List A) → u ++ v ≡ [] → u ≡ []
none_left [] v e = refl
none_left (x ∷ u) v e = absurd (cc)

none_right : {A : Type 0} (u v : List A) → u ++ v ≡ [] → v ≡ []
none_right [] v e = e
none_right (x ∷ u) v e = absurd (cc)

-- no fault, so the test failed
no_fault : (b : Bool) (c : TCode) (s : Span) → only_if b c s ≡ [] → b ≡ false
no_fault true c s e = absurd (cc)
no_fault false c s e = refl

place_within : (x : Name) (ns : List Name) → is_among x ns ≡ true → index_in x ns < length ns
place_within x [] e = absurd (cc)
place_within x (n ∷ ns) e = by_test (bytes_eq x n) (place_within x ns) e
  where
    by_test : (b : Bool) → (is_among x ns ≡ true → index_in x ns < length ns) → (b || is_among x ns) ≡ true →
        (if not b then 1 + index_in x ns else 0) < length (n ∷ ns)
    by_test true h q = omega arith
    by_test false h q = let l = h q in omega arith

bind_length : (text : List ℕ) (ns : List Span) (a : List Name) → length (bind text ns a) ≡ length a + length ns
bind_length text [] a = omega arith
bind_length text (n ∷ ns) a = let h = bind_length text ns (spelled text n ∷ a) in omega (arith, h)

-- a register that is not in a file
abbrev Absent : ℕ → TFile → Type 0
Absent r NoRegs = Unit {0}
Absent r (MoreRegs q t f) = (r ≢ q) × Absent r f

absent_insert : (r q : ℕ) (t : Ty) (f : TFile) → r ≢ q → Absent r f → Absent r (insert_reg q t f)
absent_insert r q t NoRegs n h = (n, tt)
absent_insert r q t (MoreRegs p u f) n h = by_test (nat_lt p q) (absent_insert r q t f n h.1)
  where
    by_test : (b : Bool) → Absent r (insert_reg q t f) →
        Absent r (if b then MoreRegs p u (insert_reg q t f) else MoreRegs q t (MoreRegs p u f))
    by_test true g = (h.0, g)
    by_test false g = (n, h)

insert_above : (low n r : ℕ) (t : Ty) (f : TFile) → RegsAbove low n f → low < r → r ≤ max_number → WellFormed n t →
    Absent r f → RegsAbove low n (insert_reg r t f)
insert_above low n r t NoRegs h a b d e = (a, b, d, tt)
insert_above low n r t (MoreRegs p u f) h a b d e =
    by_test (nat_lt p r) refl (λ l. insert_above p n r t f h.3 l b d e.1)
  where
    by_test : (x : Bool) → nat_lt p r ≡ x → (p < r → RegsAbove p n (insert_reg r t f)) →
        RegsAbove low n (if x then MoreRegs p u (insert_reg r t f) else MoreRegs r t (MoreRegs p u f))
    by_test true q g = (h.0, h.1, h.2, g (ltb-true p r q))
    by_test false q g = let m = ltb-false p r q in let z = e.0 in (a, b, d, (less r p m z, h.1, h.2, h.3))
      where
        less : (x y : ℕ) → x ≤ y → x ≢ y → x < y
        less x y l n = omega (arith, l, n)

here : (r : ℕ) (before : List ℕ) → list_any (nat_eq r) (r ∷ before) ≡ true
here r before = rw (eq-eqb r r refl) refl

-- the registers of a file that were there before are none of it
not_in : (text : List ℕ) (a : List Name) (before : List ℕ) (rs : RawRegs) → regs_faults text a before rs ≡ [] →
    (r : ℕ) → list_any (nat_eq r) before ≡ true → Absent r (file_of text a rs)
not_in text a before NoRawRegs e r m = tt
not_in text a before (MoreRawRegs q s t rs) e r m =
    let f = none_right _ _ (none_right _ _ e) in
    let o : only_if (list_any (nat_eq q) before) T07 s ≡ [] = none_left _ _ e in
    let n = no_fault (list_any (nat_eq q) before) T07 s o in
    absent_insert r q (type_of text a t) (file_of text a rs)
    (λ z. let y = subst (λ (x : ℕ). list_any (nat_eq x) before ≡ true) z m in cc)
    (not_in text a (q ∷ before) rs f r (more (nat_eq r q) (list_any (nat_eq r) before) m))
  where
    more : (x y : Bool) → y ≡ true → (x || y) ≡ true
    more true y e = refl
    more false y e = e

mutual
  well_type : (text : List ℕ) (a : List Name) (t : RawTy) → FitsTy (length a) t → type_faults text a t ≡ [] →
      WellFormed (length a) (type_of text a t)
  well_type text a RInt h e = tt
  well_type text a (RName s) h e =
      place_within (spelled text s) a
      (not-false (is_among (spelled text s) a) (no_fault (not (is_among (spelled text s) a)) T06 s e))
  well_type text a (RCode ns rs) h e =
      let l = bind_length text ns a in (
        h.0,
        subst (λ (n : ℕ). RegsAbove 0 n (file_of text (bind text ns a) rs)) l
            (well_regs text (bind text ns a) [] rs (subst (λ (n : ℕ). FitsRegs n rs) (sym l) h.1) e),
      )
  well_type text a (RSome s t) h e =
      let l : length (spelled text s ∷ a) ≡ length a + 1 = omega arith in (
        h.0,
        subst (λ (n : ℕ). WellFormed n (type_of text (spelled text s ∷ a) t)) l
            (well_type text (spelled text s ∷ a) t (subst (λ (n : ℕ). FitsTy n t) (sym l) h.1) e),
      )
  well_type text a (RTuple fs) h e = well_fields text a fs h e

  well_regs : (text : List ℕ) (a : List Name) (before : List ℕ) (rs : RawRegs) → FitsRegs (length a) rs →
      regs_faults text a before rs ≡ [] → RegsAbove 0 (length a) (file_of text a rs)
  well_regs text a before NoRawRegs h e = tt
  well_regs text a before (MoreRawRegs r s t rs) h e =
      let f = none_right _ _ e in
      let i = none_left _ _ f in
      let j = none_right _ _ f in
      insert_above 0 (length a) r (type_of text a t) (file_of text a rs) (well_regs text a (r ∷ before) rs h.2 j) h.0.0
      h.0.1 (well_type text a t h.1 i) (not_in text a (r ∷ before) rs j r (here r before))

  well_fields : (text : List ℕ) (a : List Name) (fs : RawFields) → FitsFields (length a) fs →
      fields_faults text a fs ≡ [] → WellFormedFields (length a) (fields_of text a fs)
  well_fields text a NoRawFields h e = tt
  well_fields text a (MoreRawFields t b fs) h e =
      (well_type text a t h.0 (none_left _ _ e), well_fields text a fs h.1 (none_right _ _ e))

well_types : (text : List ℕ) (a : List Name) (ts : List RawTy) → FitsTys (length a) ts → types_faults text a ts ≡ [] →
    WellFormedTypes (length a) (types_of text a ts)
well_types text a [] h e = tt
well_types text a (t ∷ ts) h e = (well_type text a t h.0 (none_left _ _ e), well_types text a ts h.1 (none_right _ _ e))

-- each label names one of p blocks, or of q data tuples
abbrev NamesBelow : ℕ → ℕ → Labels → Type 0
NamesBelow p q ls = (x : Name) → IsTarget p q (named_by x ls)

well_named : (p q : ℕ) (o : Option TBase) → IsTarget p q o → is_none o ≡ false → WellFormedBase p q (or_first o)
well_named p q None h e = absurd (cc)
well_named p q (Some (Label i)) h e = h
well_named p q (Some (Data d)) h e = h
well_named p q (Some (Reg r)) h e = absurd h
well_named p q (Some (Int z)) h e = absurd h

well_base : (text : List ℕ) (p q : ℕ) (ls : Labels) → NamesBelow p q ls → (b : RawBase) → FitsBase b →
    base_faults text ls b ≡ [] → WellFormedBase p q (base_of text ls b)
well_base text p q ls w (RReg r) h e = h
well_base text p q ls w (RNum z) h e = tt
well_base text p q ls w (RLabel s) h e =
    well_named p q (named_by (spelled text s) ls) (w (spelled text s))
    (no_fault (is_none (named_by (spelled text s) ls)) T05 s e)

well_value : (text : List ℕ) (p q : ℕ) (ls : Labels) (w : NamesBelow p q ls) (a : List Name) (v : RawValue) →
    FitsValue (length a) v → value_faults text ls a v ≡ [] → WellFormedValue p q (length a) (value_of text ls a v)
well_value text p q ls w a (RPlain b ts) h e =
    (well_base text p q ls w b h.0 (none_left _ _ e), well_types text a ts h.1 (none_right _ _ e))
well_value text p q ls w a (RPack t v s) h e =
    let f = none_right _ _ e in (
      well_type text a t h.0 (none_left _ _ e),
      well_value text p q ls w a v h.1 (none_left _ _ f),
      well_type text a s h.2 (none_right _ _ f),
    )

well_instr : (text : List ℕ) (p q : ℕ) (ls : Labels) (w : NamesBelow p q ls) (a : List Name) (i : RawInstr) →
    FitsInstr (length a) i → instr_faults text ls a i ≡ [] → WellFormedInstr p q (length a) (instr_of text ls a i)
well_instr text p q ls w a (RArith op rd rs v) h e = (h.0, h.1, well_value text p q ls w a v h.2 e)
well_instr text p q ls w a (RBnz r v) h e = (h.0, well_value text p q ls w a v h.1 e)
well_instr text p q ls w a (RLd rd rs i) h e = h
well_instr text p q ls w a (RMalloc rd ts) h e = (h.0, well_types text a ts h.1 e)
well_instr text p q ls w a (RMov rd v) h e = (h.0, well_value text p q ls w a v h.1 e)
well_instr text p q ls w a (RSt rd i rs) h e = h
well_instr text p q ls w a (RUnpack n rd v) h e = (h.0, well_value text p q ls w a v h.1 e)

-- the number of names after an instruction, read and resolved
after_length : (text : List ℕ) (i : RawInstr) (a : List Name) → length (scope_after text i a) ≡ after_raw i (length a)
after_length text (RArith op rd rs v) a = refl
after_length text (RBnz r v) a = refl
after_length text (RLd rd rs i) a = refl
after_length text (RMalloc rd ts) a = refl
after_length text (RMov rd v) a = refl
after_length text (RSt rd i rs) a = refl
after_length text (RUnpack n rd v) a = omega arith

after_same : (text : List ℕ) (ls : Labels) (a : List Name) (i : RawInstr) (n : ℕ) →
    tree.names_after (instr_of text ls a i) n ≡ after_raw i n
after_same text ls a (RArith op rd rs v) n = refl
after_same text ls a (RBnz r v) n = refl
after_same text ls a (RLd rd rs i) n = refl
after_same text ls a (RMalloc rd ts) n = refl
after_same text ls a (RMov rd v) n = refl
after_same text ls a (RSt rd i rs) n = refl
after_same text ls a (RUnpack m rd v) n = refl

well_end : (text : List ℕ) (p q : ℕ) (ls : Labels) (w : NamesBelow p q ls) (a : List Name) (e : RawEnd) →
    FitsEnd (length a) e → end_faults text ls a e ≡ [] → WellFormedEnd p q (length a) (end_of text ls a e)
well_end text p q ls w a (RJmp v) h e = well_value text p q ls w a v h e
well_end text p q ls w a RHalt h e = tt

well_seq : (text : List ℕ) (p q : ℕ) (ls : Labels) (w : NamesBelow p q ls) (a : List Name)
    (is : List (RawInstr × Span)) (last : RawEnd) → FitsSteps (length a) is →
    FitsEnd (after_steps is (length a)) last → body_faults text ls a is ≡ [] →
    end_faults text ls (scope_after_all text is a) last ≡ [] →
    WellFormedSeq p q (length a) (seq_of (body_of text ls a is) (end_of text ls (scope_after_all text is a) last))
well_seq text p q ls w a [] last h g e f = well_end text p q ls w a last g f
well_seq text p q ls w a (i ∷ is) last h g e f =
    let l = after_length text i.0 a in
    let s = after_same text ls a i.0 (length a) in
    let same : length (scope_after text i.0 a) ≡ tree.names_after (instr_of text ls a i.0) (length a) = l ∙ sym s in (
      well_instr text p q ls w a i.0 h.0 (none_left _ _ e),
      rw s h.1,
      subst (λ (n : ℕ).
          WellFormedSeq p q n
          (seq_of (body_of text ls (scope_after text i.0 a) is)
          (end_of text ls (scope_after_all text is (scope_after text i.0 a)) last))) same
          (well_seq text p q ls w (scope_after text i.0 a) is last (subst (λ (n : ℕ). FitsSteps n is) (sym l) h.2)
          (subst (λ (n : ℕ). FitsEnd (after_steps is n) last) (sym l) g) (none_right _ _ e) f),
    )

well_block : (text : List ℕ) (p q : ℕ) (ls : Labels) (w : NamesBelow p q ls) (b : RawBlock) → FitsBlock b →
    block_faults text ls b ≡ [] → WellFormedBlock p q (plain (block_of text ls b))
well_block text p q ls w b h e =
    let l : length (bind text b.names []) ≡ length b.names = bind_length text b.names [] ∙ omega arith in
    let f = none_right _ _ e in (
      h.0,
      subst (λ (n : ℕ). RegsAbove 0 n (file_of text (bind text b.names []) b.file)) l
          (well_regs text (bind text b.names []) [] b.file (subst (λ (n : ℕ). FitsRegs n b.file) (sym l) h.1)
          (none_left _ _ e)),
      subst (λ (n : ℕ).
          WellFormedSeq p q n
          (seq_of (body_of text ls (bind text b.names []) b.body)
          (end_of text ls (scope_after_all text b.body (bind text b.names [])) b.last.0))) l
          (well_seq text p q ls w (bind text b.names []) b.body b.last.0
          (subst (λ (n : ℕ). FitsSteps n b.body) (sym l) h.2)
          (subst (λ (n : ℕ). FitsEnd (after_steps b.body n) b.last.0) (sym l) h.3) (none_left _ _ f)
          (none_right _ _ f)),
    )

-- data stand under no type names, and no register stands in a value of theirs
module _ (text : List ℕ) (xs : List RawItem) where
  abbrev labels : Labels
  labels = labels_of text xs

  module _ (p q : ℕ) (w : NamesBelow p q labels) where
    well_datum : (x : RawDatum) → FitsDatum x → datum_faults text labels x ≡ [] →
        WellFormedDatum p q (plain_datum (datum_of text labels x))
    well_datum x h e = (
      well_value text p q labels w [] x.value h.0 (none_left _ _ e),
      no_register text xs h.2.1 [],
      well_type text [] x.ty h.1 (none_right _ _ e),
    )

    well_data : (ys : List RawDatum) → FitsData ys → data_faults text labels ys ≡ [] →
        WellFormedData p q (plain_fields (map (datum_of text labels) ys))
    well_data [] h e = tt
    well_data (y ∷ ys) h e = (well_datum y h.0 (none_left _ _ e), well_data ys h.1 (none_right _ _ e))

    abbrev Well : List RawItem → Type 0
    Well ys = WellFormedBlocks p q (plain_blocks (map (block_of text labels) (blocks_in ys)))
        × WellFormedHeap p q (plain_heap (map (data_of text labels) (data_in ys)))

    well_items : (before : List Name) (ys : List RawItem) → FitsItems ys → items_faults text labels before ys ≡ [] →
        Well ys
    well_items before [] h e = (tt, tt)
    well_items before (BlockItem b ∷ ys) h e =
        let f = none_right _ _ e in
        let r = well_items (spelled text b.name ∷ before) ys h.1 (none_right _ _ f) in
        ((well_block text p q labels w b h.0 (none_left _ _ f), r.0), r.1)
    well_items before (DataItem x ∷ ys) h e =
        let f = none_right _ _ e in
        let r = well_items (spelled text x.name ∷ before) ys h.1 (none_right _ _ f) in
        (r.0, (well_data x.fields h.0 (none_left _ _ f), r.1))

plain_length : (bs : List SBlock) → length (plain_blocks bs) ≡ length bs
plain_length [] = refl
plain_length (b ∷ bs) = let h = plain_length bs in omega (arith, h)

heap_length : (xs : List SData) → length (plain_heap xs) ≡ length xs
heap_length [] = refl
heap_length (x ∷ xs) = let h = heap_length xs in omega (arith, h)

-- what a text stands for, as it was read
pub whole_program : (text : List ℕ) (raw : List RawItem) → FitsItems raw → 1 ≤ length (blocks_in raw) →
    program_faults text raw ≡ [] → WellFormedProgram (plain_program (program_of text raw))
whole_program text raw fits some f =
    let blocks = map (block_of text (labels_of text raw)) (blocks_in raw) in
    let heap = map (data_of text (labels_of text raw)) (data_in raw) in
    let l : length (plain_blocks blocks) ≡ length (blocks_in raw) =
    plain_length blocks ∙ length-map (blocks_in raw) (block_of text (labels_of text raw)) in
    let m : length (plain_heap heap) ≡ length (data_in raw) =
    heap_length heap ∙ length-map (data_in raw) (data_of text (labels_of text raw)) in
    let w = well_items text raw (length (blocks_in raw)) (length (data_in raw))
    (λ x. rw (← zero-add (length (blocks_in raw)), ← zero-add (length (data_in raw)))
    (labels_named text 0 0 raw x)) [] raw fits f in
    (omega (arith, l, some), rw (l, m) w.0, rw (l, m) w.1)

pub is_whole : (text : List ℕ) (raw : List RawItem) (bs : List code.Block) (xs : List heap_of.Data) →
    IsShape text raw → program_faults text raw ≡ [] → spanned_parts bs xs ≡ program_of text raw →
    WellFormedProgram (parts bs xs)
is_whole text raw bs xs h f e =
    let k = fits_Program h.shape (kept_cut h.cut) h.short in
    subst (λ (P : SProg). WellFormedProgram (plain_program P)) (sym e) (whole_program text raw k.0 k.1 f)
