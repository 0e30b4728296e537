-- The constructs that are open at the tokens of a text, counted by the program that the text stands for.
use Rattle.std.proofs.Common.{◌≡◌, ◌≤◌, ℕ, zero, suc, ◌+◌, max, nat_lt, if◌then◌else◌, List, [], ◌∷◌, ◌++◌, length}
use Rattle.std.proofs.Common.{map, slice_index, Bool, true, false, refl, sym, ap, ap₂, ◌∙◌, arith, subst, append_assoc}
use Rattle.std.proofs.lemmas.Bool.{ltb-false}
use Rattle.idx_core.specs.declared.span.Span.{Span}
use Rattle.idx_core.specs.Names.{Name}
use Rattle.text_core.specs.Shapes.{NonePasses}
use Rattle.text_core.specs.Verdicts.{Says}
use Rattle.text_core.specs.Table.{Done, seen, Fine, Passed, bounded}
use Rattle.t_types.specs.Tree.{Ty, TFile, NoRegs, MoreRegs}
use Rattle.t_text.specs.declared.token.Token.{Token}
use Rattle.t_terms.specs.Tree.{TProg}
use Rattle.t_terms.specs.Spanned.{SProg, seq_of, plain_blocks, plain_fields, plain_heap, plain_program}
use Rattle.t_text.specs.Raw.{RawTy, RInt, RName, RCode, RSome, RTuple, RawRegs, NoRawRegs, MoreRawRegs, RawFields}
use Rattle.t_text.specs.Raw.{NoRawFields, MoreRawFields, RawReg, RawField, raw_regs, raw_fields, RawBase, RawValue}
use Rattle.t_text.specs.Raw.{RPlain, RPack, RawInstr, RArith, RBnz, RLd, RMalloc, RMov, RSt, RUnpack, RawEnd, RJmp}
use Rattle.t_text.specs.Raw.{RHalt, RawBlock, RawDatum, RawData, RawItem, BlockItem, DataItem, blocks_in, data_in}
use Rattle.t_text.specs.Raw.{block_items, Piece}
use Rattle.t_text.specs.Grammar.{Names, ns_one, ns_more, Binds, bs_none, bs_names, T, t_int, t_name, t_code, t_some}
use Rattle.t_text.specs.Grammar.{t_unit, t_tuple, File, f_none, f_regs, Rs, rs_one, rs_more, Fs, fs_one, fs_more, Ts}
use Rattle.t_text.specs.Grammar.{ts_one, ts_more, V, v_base, v_apply, v_pack, I, i_arith, i_bnz, i_ld, i_malloc_none}
use Rattle.t_text.specs.Grammar.{i_malloc, i_mov, i_st, i_unpack, Is, is_none, is_more, End, e_jmp, e_halt, Block}
use Rattle.t_text.specs.Grammar.{b_block, Blocks, bs_one, bs_more, W, w_base, w_apply, w_pack, datum, Ds, ds_one}
use Rattle.t_text.specs.Grammar.{ds_more, Tuple, tu_none, tu_fields, Item, it_block, it_data, Items, its_none}
use Rattle.t_text.specs.Grammar.{its_more, Program, p_blocks, p_items, open_Names, open_Binds, open_T, open_File}
use Rattle.t_text.specs.Grammar.{open_Rs, open_Fs, open_Ts, open_V, open_I, open_Is, open_End, open_Block}
use Rattle.t_text.specs.Grammar.{open_Blocks, open_W, open_Ds, open_Tuple, open_Item, open_Items, open_Program}
use Rattle.t_text.specs.Grammar.{assembly_grammar}
use Rattle.t_text.specs.GrammarTable.{table, Val, OfItems}
use Rattle.t_text.specs.Names.{insert_reg, type_of, file_of, fields_of, types_of, value_of, instr_of, scope_after}
use Rattle.t_text.specs.Names.{scope_after_all, body_of, end_of, block_of, datum_of, data_of, program_of, labels_of}
use Rattle.t_text.specs.Names.{Labels, bind, spelled}
use Rattle.t_text.specs.Text.{most_open, Stands, StandsFor, KeepsLimit}
use Rattle.t_text.proofs.Complete.{read_shape}
use Rattle.t_text.proofs.Instance.{assembly_exact, one_verdict}
use Rattle.t_text.proofs.TextExact.{one_cut}
use Rattle.t_terms.specs.Nesting.{blocks_nesting, data_nesting, heap_nesting, type_nesting, regs_nesting}
use Rattle.t_terms.specs.Nesting.{fields_nesting, types_nesting, value_nesting, instr_nesting, end_nesting}
use Rattle.t_terms.specs.Nesting.{seq_nesting, nesting}
use Rattle.t_text.specs.NestingLaws.{greatest, CountsOpen, KeepsByNesting}

greatest-append : (a b : List ℕ) → greatest (a ++ b) ≡ max (greatest a) (greatest b)
greatest-append [] b = omega arith
greatest-append (n ∷ a) b = omega (arith, greatest-append a b)

-- the nesting of trees before names are resolved
abbrev mutual
  raw_type : RawTy → ℕ
  raw_type RInt = 0
  raw_type (RName s) = 0
  raw_type (RCode ns file) = 1 + raw_file file
  raw_type (RSome s t) = 1 + raw_type t
  raw_type (RTuple fs) = 1 + raw_tuple fs

  raw_file : RawRegs → ℕ
  raw_file NoRawRegs = 0
  raw_file (MoreRawRegs r s t rs) = max (raw_type t) (raw_file rs)

  raw_tuple : RawFields → ℕ
  raw_tuple NoRawFields = 0
  raw_tuple (MoreRawFields t flag fs) = max (raw_type t) (raw_tuple fs)

abbrev raw_types : List RawTy → ℕ
raw_types [] = 0
raw_types (t ∷ ts) = max (raw_type t) (raw_types ts)

abbrev raw_value : RawValue → ℕ
raw_value (RPlain b []) = 0
raw_value (RPlain b (t ∷ ts)) = 1 + raw_types (t ∷ ts)
raw_value (RPack t v s) = max (1 + max (raw_type t) (raw_value v)) (raw_type s)

abbrev raw_instr : RawInstr → ℕ
raw_instr (RArith op rd rs v) = raw_value v
raw_instr (RBnz r v) = raw_value v
raw_instr (RLd rd rs i) = 1
raw_instr (RMalloc rd ts) = 1 + raw_types ts
raw_instr (RMov rd v) = raw_value v
raw_instr (RSt rd i rs) = 1
raw_instr (RUnpack n rd v) = max 1 (raw_value v)

abbrev raw_end : RawEnd → ℕ
raw_end (RJmp v) = raw_value v
raw_end RHalt = 1

abbrev raw_body : List (RawInstr × Span) → ℕ
raw_body [] = 0
raw_body (i ∷ is) = max (raw_instr i.0) (raw_body is)

abbrev raw_block : RawBlock → ℕ
raw_block b = max (1 + raw_file b.file) (max (raw_body b.body) (raw_end b.last.0))

abbrev raw_blocks : List RawBlock → ℕ
raw_blocks [] = 0
raw_blocks (b ∷ bs) = max (raw_block b) (raw_blocks bs)

abbrev raw_datum : RawDatum → ℕ
raw_datum x = max (raw_value x.value) (raw_type x.ty)

abbrev raw_datums : List RawDatum → ℕ
raw_datums [] = 0
raw_datums (x ∷ xs) = max (raw_datum x) (raw_datums xs)

abbrev raw_heap : List RawData → ℕ
raw_heap [] = 0
raw_heap (x ∷ xs) = max (1 + raw_datums x.fields) (raw_heap xs)

abbrev raw_item : RawItem → ℕ
raw_item (BlockItem b) = raw_block b
raw_item (DataItem x) = 1 + raw_datums x.fields

abbrev raw_items : List RawItem → ℕ
raw_items [] = 0
raw_items (x ∷ xs) = max (raw_item x) (raw_items xs)

-- blocks and data apart
items_apart : (xs : List RawItem) → raw_items xs ≡ max (raw_blocks (blocks_in xs)) (raw_heap (data_in xs))
items_apart [] = refl
items_apart (BlockItem b ∷ xs) = omega (arith, items_apart xs)
items_apart (DataItem x ∷ xs) = omega (arith, items_apart xs)

blocks_alone : (bs : List RawBlock) → raw_items (block_items bs) ≡ raw_blocks bs
blocks_alone [] = refl
blocks_alone (b ∷ bs) = ap (λ (n : ℕ). max (raw_block b) n) (blocks_alone bs)

-- it is that of the trees that are resolved
insert_nesting : (r : ℕ) (t : Ty) (file : TFile) →
    regs_nesting (insert_reg r t file) ≡ max (type_nesting t) (regs_nesting file)
insert_nesting r t NoRegs = refl
insert_nesting r t (MoreRegs q u file) = by_order (nat_lt q r) (insert_nesting r t file)
  where
    by_order : (b : Bool) → regs_nesting (insert_reg r t file) ≡ max (type_nesting t) (regs_nesting file) →
        regs_nesting (if b then MoreRegs q u (insert_reg r t file) else MoreRegs r t (MoreRegs q u file))
        ≡ max (type_nesting t) (max (type_nesting u) (regs_nesting file))
    by_order true ih = rw ih (omega arith)
    by_order false ih = refl

module _ (text : List ℕ) where
  mutual
    type_same : (a : List Name) (t : RawTy) → type_nesting (type_of text a t) ≡ raw_type t
    type_same a RInt = refl
    type_same a (RName s) = refl
    type_same a (RCode ns file) = ap (λ n. 1 + n) (file_same (bind text ns a) file)
    type_same a (RSome s t) = ap (λ n. 1 + n) (type_same (spelled text s ∷ a) t)
    type_same a (RTuple fs) = ap (λ n. 1 + n) (tuple_same a fs)

    file_same : (a : List Name) (rs : RawRegs) → regs_nesting (file_of text a rs) ≡ raw_file rs
    file_same a NoRawRegs = refl
    file_same a (MoreRawRegs r s t rs) =
        insert_nesting r (type_of text a t) (file_of text a rs) ∙ ap₂ max (type_same a t) (file_same a rs)

    tuple_same : (a : List Name) (fs : RawFields) → fields_nesting (fields_of text a fs) ≡ raw_tuple fs
    tuple_same a NoRawFields = refl
    tuple_same a (MoreRawFields t flag fs) = ap₂ max (type_same a t) (tuple_same a fs)

  types_same : (a : List Name) (ts : List RawTy) → types_nesting (types_of text a ts) ≡ raw_types ts
  types_same a [] = refl
  types_same a (t ∷ ts) = ap₂ max (type_same a t) (types_same a ts)

  module _ (ls : Labels) where
    value_same : (a : List Name) (v : RawValue) → value_nesting (value_of text ls a v) ≡ raw_value v
    value_same a (RPlain b []) = refl
    value_same a (RPlain b (t ∷ ts)) = ap (λ n. 1 + n) (types_same a (t ∷ ts))
    value_same a (RPack t v s) = rw (type_same a t, value_same a v, type_same a s) refl

    instr_same : (a : List Name) (i : RawInstr) → instr_nesting (instr_of text ls a i) ≡ raw_instr i
    instr_same a (RArith op rd rs v) = value_same a v
    instr_same a (RBnz r v) = value_same a v
    instr_same a (RLd rd rs i) = refl
    instr_same a (RMalloc rd ts) = ap (λ n. 1 + n) (types_same a ts)
    instr_same a (RMov rd v) = value_same a v
    instr_same a (RSt rd i rs) = refl
    instr_same a (RUnpack n rd v) = ap (λ n. max 1 n) (value_same a v)

    end_same : (a : List Name) (e : RawEnd) → end_nesting (end_of text ls a e) ≡ raw_end e
    end_same a (RJmp v) = value_same a v
    end_same a RHalt = refl

    seq_same : (a : List Name) (is : List (RawInstr × Span)) (e : RawEnd) →
        seq_nesting (seq_of (body_of text ls a is) (end_of text ls (scope_after_all text is a) e))
        ≡ max (raw_body is) (raw_end e)
    seq_same a [] e = end_same a e ∙ omega arith
    seq_same a (i ∷ is) e = ap₂ max (instr_same a i.0) (seq_same (scope_after text i.0 a) is e) ∙ omega arith

    blocks_same : (bs : List RawBlock) → blocks_nesting (plain_blocks (map (block_of text ls) bs)) ≡ raw_blocks bs
    blocks_same [] = refl
    blocks_same (b ∷ bs) =
        ap₂ max (ap₂ (λ m n. max (1 + m) n) (file_same (bind text b.names []) b.file)
        (seq_same (bind text b.names []) b.body b.last.0)) (blocks_same bs)

    datums_same : (xs : List RawDatum) → data_nesting (plain_fields (map (datum_of text ls) xs)) ≡ raw_datums xs
    datums_same [] = refl
    datums_same (x ∷ xs) = ap₂ max (ap₂ max (value_same [] x.value) (type_same [] x.ty)) (datums_same xs)

    heap_same : (xs : List RawData) → heap_nesting (plain_heap (map (data_of text ls) xs)) ≡ raw_heap xs
    heap_same [] = refl
    heap_same (x ∷ xs) = ap₂ (λ m n. max (1 + m) n) (datums_same x.fields) (heap_same xs)

  program_same : (xs : List RawItem) → nesting (plain_program (program_of text xs)) ≡ raw_items xs
  program_same xs =
      ap₂ max (blocks_same (labels_of text xs) (blocks_in xs)) (heap_same (labels_of text xs) (data_in xs)) ∙
      sym (items_apart xs)

-- lists grow at their end
file-append : (rs : List RawReg) (r : RawReg) →
    raw_file (raw_regs (rs ++ r ∷ [])) ≡ max (raw_file (raw_regs rs)) (raw_type r.ty)
file-append [] r = omega arith
file-append (q ∷ rs) r = omega (arith, file-append rs r)

tuple-append : (fs : List RawField) (f : RawField) →
    raw_tuple (raw_fields (fs ++ f ∷ [])) ≡ max (raw_tuple (raw_fields fs)) (raw_type f.ty)
tuple-append [] f = omega arith
tuple-append (q ∷ fs) f = omega (arith, tuple-append fs f)

types-append : (ts : List RawTy) (t : RawTy) → raw_types (ts ++ t ∷ []) ≡ max (raw_types ts) (raw_type t)
types-append [] t = omega arith
types-append (u ∷ ts) t = omega (arith, types-append ts t)

body-append : (is : List (RawInstr × Span)) (i : RawInstr × Span) →
    raw_body (is ++ i ∷ []) ≡ max (raw_body is) (raw_instr i.0)
body-append [] i = omega arith
body-append (j ∷ is) i = omega (arith, body-append is i)

blocks-append : (bs : List RawBlock) (b : RawBlock) → raw_blocks (bs ++ b ∷ []) ≡ max (raw_blocks bs) (raw_block b)
blocks-append [] b = omega arith
blocks-append (c ∷ bs) b = omega (arith, blocks-append bs b)

datums-append : (xs : List RawDatum) (x : RawDatum) → raw_datums (xs ++ x ∷ []) ≡ max (raw_datums xs) (raw_datum x)
datums-append [] x = omega arith
datums-append (y ∷ xs) x = omega (arith, datums-append xs x)

items-append : (xs : List RawItem) (x : RawItem) → raw_items (xs ++ x ∷ []) ≡ max (raw_items xs) (raw_item x)
items-append [] x = omega arith
items-append (y ∷ xs) x = omega (arith, items-append xs x)

-- The greatest number of constructs that are open at a token of a part, where d are open around it.
names_open : {w : List Token} {ns : List Span} (x : Names w ns) (d : ℕ) → greatest (open_Names x d) ≡ d
names_open (ns_one n) d = omega arith
names_open (ns_more c n x) d = omega (arith, greatest-append (open_Names x d) (d ∷ (d ∷ [])), names_open x d)

binds_open : {w : List Token} {ns : List Span} (x : Binds w ns) (d : ℕ) → greatest (open_Binds x d) ≡ d + 1
binds_open (bs_none o c) d = omega arith
binds_open (bs_names o c x) d = omega (arith, greatest-append (open_Names x (suc d)) (suc d ∷ []), names_open x (suc d))

mutual
  type_open : {w : List Token} {t : Piece RawTy} (x : T w t) (d : ℕ) → greatest (open_T x d) ≡ d + raw_type t.tree
  type_open (t_int s) d = omega arith
  type_open (t_name s) d = omega arith
  type_open (t_code a x y) d =
      omega (arith, greatest-append (open_Binds x d) (open_File y d), binds_open x d, file_open y d)
  type_open (t_some s n e x) d = omega (arith, type_open x (suc d))
  type_open (t_unit o c) d = omega arith
  type_open (t_tuple o c x) d = omega (arith, greatest-append (open_Fs x (suc d)) (suc d ∷ []), tuple_open x (suc d))

  file_open : {w : List Token} {t : Piece RawRegs} (x : File w t) (d : ℕ) →
      greatest (open_File x d) ≡ d + (1 + raw_file t.tree)
  file_open (f_none o c) d = omega arith
  file_open (f_regs o c x) d = omega (arith, greatest-append (open_Rs x (suc d)) (suc d ∷ []), regs_open x (suc d))

  regs_open : {w : List Token} {rs : List RawReg} (x : Rs w rs) (d : ℕ) →
      greatest (open_Rs x d) ≡ d + raw_file (raw_regs rs)
  regs_open (rs_one r s c x) d = omega (arith, type_open x d)
  regs_open (rs_more {rs} {t} c r s e x y) d =
      let q : RawReg = record { reg = r; place = s; ty = t.tree } in
      omega (
        arith,
        greatest-append (open_Rs x d) (d ∷ (d ∷ (d ∷ open_T y d))),
        regs_open x d,
        type_open y d,
        file-append rs q,
      )

  tuple_open : {w : List Token} {fs : List RawField} (x : Fs w fs) (d : ℕ) →
      greatest (open_Fs x d) ≡ d + raw_tuple (raw_fields fs)
  tuple_open (fs_one h s x f) d = omega (arith, greatest-append (open_T x d) (d ∷ (d ∷ [])), type_open x d)
  tuple_open (fs_more {fs} {t} {flag} c h s x y f) d =
      let q : RawField = record { ty = t.tree; flag = flag } in
      omega (
        arith,
        greatest-append (open_Fs x d) (d ∷ (open_T y d ++ d ∷ (d ∷ []))),
        greatest-append (open_T y d) (d ∷ (d ∷ [])),
        tuple_open x d,
        type_open y d,
        tuple-append fs q,
      )

types_open : {w : List Token} {ts : List RawTy} (x : Ts w ts) (d : ℕ) → greatest (open_Ts x d) ≡ d + raw_types ts
types_open (ts_one x) d = omega (arith, type_open x d)
types_open (ts_more {ts} {t} c x y) d =
    omega (
      arith,
      greatest-append (open_Ts x d) (d ∷ open_T y d),
      types_open x d,
      type_open y d,
      types-append ts t.tree,
    )

-- a base with types
applied_more : (b : RawBase) (ts : List RawTy) (t : RawTy) →
    raw_value (RPlain b (ts ++ t ∷ [])) ≡ 1 + raw_types (ts ++ t ∷ [])
applied_more b [] t = refl
applied_more b (u ∷ ts) t = refl

applied : {w : List Token} {ts : List RawTy} (b : RawBase) → Ts w ts → raw_value (RPlain b ts) ≡ 1 + raw_types ts
applied b (ts_one x) = refl
applied b (ts_more {ts} {t} c x y) = applied_more b ts t.tree

value_open : {w : List Token} {v : Piece RawValue} (x : V w v) (d : ℕ) → greatest (open_V x d) ≡ d + raw_value v.tree
value_open (v_base n) d = omega arith
value_open (v_apply {base} o c n x) d =
    omega (arith, greatest-append (open_Ts x (suc d)) (suc d ∷ []), types_open x (suc d), applied base x)
value_open (v_pack p o m c a x y z) d =
    omega (
      arith,
      greatest-append (open_T x (suc d)) (suc d ∷ (open_V y (suc d) ++ suc d ∷ (d ∷ open_T z d))),
      greatest-append (open_V y (suc d)) (suc d ∷ (d ∷ open_T z d)),
      type_open x (suc d),
      value_open y (suc d),
      type_open z d,
    )

instr_open : {w : List Token} {i : RawInstr × Span} (x : I w i) (d : ℕ) → greatest (open_I x d) ≡ d + raw_instr i.0
instr_open (i_arith a b c e f rd rs o x) d = omega (arith, value_open x d)
instr_open (i_bnz a b c r x) d = omega (arith, value_open x d)
instr_open (i_ld a b c e o f g rd rs n) d = omega arith
instr_open (i_malloc_none a b o c rd) d = omega arith
instr_open (i_malloc a b o c rd x) d =
    omega (arith, greatest-append (open_Ts x (suc d)) (suc d ∷ []), types_open x (suc d))
instr_open (i_mov a b c rd x) d = omega (arith, value_open x d)
instr_open (i_st a b o f e c g rd rs n) d = omega arith
instr_open (i_unpack a o n b e c f rd x) d = omega (arith, value_open x d)

end_open : {w : List Token} {e : RawEnd × Span} (x : End w e) (d : ℕ) → greatest (open_End x d) ≡ d + raw_end e.0
end_open (e_jmp a x) d = omega (arith, value_open x d)
end_open (e_halt a o i c) d = omega arith

body_open : {w : List Token} {is : List (RawInstr × Span)} (x : Is w is) → greatest (open_Is x 0) ≡ raw_body is
body_open is_none = refl
body_open (is_more {is} {i} x y) =
    omega (arith, greatest-append (open_Is x 0) (open_I y 0), body_open x, instr_open y 0, body-append is i)

block_open : {w : List Token} {b : RawBlock} (x : Block w b) → greatest (open_Block x 0) ≡ raw_block b
block_open (b_block l c e p x y z last) =
    omega (
      arith,
      greatest-append (open_Binds x 0) (open_File y 0 ++ 0 ∷ (open_Is z 0 ++ open_End last 0)),
      greatest-append (open_File y 0) (0 ∷ (open_Is z 0 ++ open_End last 0)),
      greatest-append (open_Is z 0) (open_End last 0),
      binds_open x 0,
      file_open y 0,
      body_open z,
      end_open last 0,
    )

blocks_open : {w : List Token} {bs : List RawBlock} (x : Blocks w bs) → greatest (open_Blocks x 0) ≡ raw_blocks bs
blocks_open (bs_one x) = omega (arith, block_open x)
blocks_open (bs_more {bs} {b} x y) =
    omega (arith, greatest-append (open_Blocks x 0) (open_Block y 0), blocks_open x, block_open y, blocks-append bs b)

-- data
word_open : {w : List Token} {v : RawValue × Span} (x : W w v) (d : ℕ) → greatest (open_W x d) ≡ d + raw_value v.0
word_open (w_base n) d = omega arith
word_open (w_apply {base} o c n x) d =
    omega (arith, greatest-append (open_Ts x (suc d)) (suc d ∷ []), types_open x (suc d), applied base x)
word_open (w_pack p o m c a x y z) d =
    omega (
      arith,
      greatest-append (open_T x (suc d)) (suc d ∷ (open_W y (suc d) ++ suc d ∷ (d ∷ open_T z d))),
      greatest-append (open_W y (suc d)) (suc d ∷ (d ∷ open_T z d)),
      type_open x (suc d),
      word_open y (suc d),
      type_open z d,
    )

datums_open : {w : List Token} {xs : List RawDatum} (x : Ds w xs) (d : ℕ) → greatest (open_Ds x d) ≡ d + raw_datums xs
datums_open (ds_one c x y) d =
    omega (arith, greatest-append (open_W x d) (d ∷ open_T y d), word_open x d, type_open y d)
datums_open (ds_more {xs} {x = v} {t} m c x y z) d =
    omega (
      arith,
      greatest-append (open_Ds x d) (d ∷ (open_W y d ++ d ∷ open_T z d)),
      greatest-append (open_W y d) (d ∷ open_T z d),
      datums_open x d,
      word_open y d,
      type_open z d,
      datums-append xs (datum v t.tree),
    )

data_open : {w : List Token} {xs : List RawDatum} (x : Tuple w xs) (d : ℕ) →
    greatest (open_Tuple x d) ≡ d + (1 + raw_datums xs)
data_open (tu_none o c) d = omega arith
data_open (tu_fields o c x) d =
    omega (arith, greatest-append (open_Ds x (suc d)) (suc d ∷ []), datums_open x (suc d))

item_open : {w : List Token} {i : RawItem} (x : Item w i) → greatest (open_Item x 0) ≡ raw_item i
item_open (it_block x) = block_open x
item_open (it_data l c d x) = omega (arith, data_open x 0)

items_open : {w : List Token} {xs : List RawItem} (x : Items w xs) → greatest (open_Items x 0) ≡ raw_items xs
items_open its_none = refl
items_open (its_more {xs} {x = i} x y) =
    omega (arith, greatest-append (open_Items x 0) (open_Item y 0), items_open x, item_open y, items-append xs i)

program_open : {w : List Token} {xs : List RawItem} (x : Program w xs) → greatest (open_Program x 0) ≡ raw_items xs
program_open (p_blocks {bs} t n x) = omega (arith, blocks_open x, blocks_alone bs)
program_open (p_items t n x h) = omega (arith, items_open x)

pub counts_open : CountsOpen
counts_open text P s =
    program_open s.shape ∙ (sym (program_same text s.raw) ∙ ap (λ (Q : SProg). nesting (plain_program Q)) (sym s.is))

-- a number at a place is at most the greatest
at_most_greatest : (ns : List ℕ) (i : ℕ) → slice_index ns i ≤ greatest ns
at_most_greatest [] i = omega arith
at_most_greatest (n ∷ ns) zero = omega arith
at_most_greatest (n ∷ ns) (suc i) = omega (arith, at_most_greatest ns i)

-- no more than the limit are open anywhere, where the machine takes the tokens
never_more : (ns : List ℕ) (w : List Token) (vs us : List Val) → bounded table most_open w (seen table ns (Done vs))
    ≡ Fine us → greatest ns ≤ most_open
never_more [] w vs us e = omega arith
never_more (n ∷ ns) [] vs us e = absurd (cc)
never_more (n ∷ ns) (c ∷ w) vs us e = by_test (nat_lt most_open n) refl e (never_more ns w vs us)
  where
    by_test : (x : Bool) → nat_lt most_open n ≡ x →
        (if x then Passed (c ∷ w) else bounded table most_open w (seen table ns (Done vs))) ≡ Fine us →
        (bounded table most_open w (seen table ns (Done vs)) ≡ Fine us → greatest ns ≤ most_open) →
        max n (greatest ns) ≤ most_open
    by_test true f e ih = absurd (cc)
    by_test false f e ih = omega (arith, ltb-false most_open n f, ih e)

module _ (text : List ℕ) (P : TProg) (stand : StandsFor text P) where
  abbrev it : Stands text stand.0
  it = stand.1

  -- the greatest number in any shape with the raw tree of the text
  all_open : {w : List Token} (p : Program w it.raw) → greatest (open_Program p 0) ≡ nesting P
  all_open p =
      program_open p
      ∙ (sym (program_same text it.raw)
      ∙ (ap (λ (R : SProg). nesting (plain_program R)) (sym it.is) ∙ ap nesting stand.2))

  pub keeps : nesting P ≤ most_open → NonePasses assembly_grammar most_open it.tokens
  keeps h u c z e x =
      let q : it.tokens ≡ (u ++ c ∷ []) ++ z = e ∙ sym (append_assoc u (c ∷ []) z) in
      let p : Program ((u ++ c ∷ []) ++ z) it.raw = subst (λ (w : List Token). Program w it.raw) q it.shape in
      let n : slice_index (open_Program p 0) (length u) ≡ x.number = x.holds z it.raw p in
      let all = all_open p in
      let m = at_most_greatest (open_Program p 0) (length u) in
      omega (arith, x.more)

  pub kept : KeepsLimit text → nesting P ≤ most_open
  kept k =
      let none = subst (λ (w : List Token). NonePasses assembly_grammar most_open w)
      (one_cut text k.0 it.tokens k.1 it.cut) k.2 in
      let says = assembly_exact most_open it.tokens in
      let fine : Says table most_open it.tokens (Fine (OfItems it.raw ∷ [])) =
      record { value = it.raw; shape = it.shape; is = refl; within = none } in
      let q = one_verdict most_open it.tokens _ _ says fine in
      let r : bounded table most_open it.tokens (seen table (open_Program it.shape 0) (Done (OfItems it.raw ∷ [])))
      ≡ Fine (OfItems it.raw ∷ []) =
      ap (bounded table most_open it.tokens) (sym (read_shape it.shape)) ∙ q in
      let most = never_more (open_Program it.shape 0) it.tokens (OfItems it.raw ∷ []) (OfItems it.raw ∷ []) r in
      omega (arith, all_open it.shape)

pub keeps_by_nesting : KeepsByNesting
keeps_by_nesting text P s = (λ k. kept text P s k, λ h. (s.1.tokens, s.1.cut, keeps text P s h))
