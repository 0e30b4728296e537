-- What is read keeps the bounds of its numbers, and does not bind too many names.
use Rattle.std.proofs.Common.{◌≡◌, ℕ, ◌+◌, ◌*◌, ◌≤◌, ℤ, pos, negsuc, List, [], ◌∷◌, ◌++◌, length, refl, subst, arith}
use Rattle.std.proofs.Common.{Bool, true, false, if◌then◌else◌, Some, ◌==◌}
use Rattle.std.specs.Prelude.{nat_abs, bytes_eq}
use Rattle.std.proofs.lemmas.List.{length-append}
use Rattle.std.proofs.lemmas.Int.{ints}
use Rattle.idx_core.specs.declared.span.Span.{Span}
use Rattle.t_types.specs.WellFormed.{max_number, max_names, IsRegister}
use Rattle.t_text.specs.declared.token.Kind.{Kind}
use Rattle.t_text.specs.declared.token.Kind.TheVariants as k
use Rattle.t_text.specs.declared.token.Token.{Token}
use Rattle.text_core.specs.Byte.{value}
use Rattle.text_core.specs.Tokens.{Cut, c_end, c_gap, c_token, Next, n_spelling, Spelling, Spells, s_word, s_plain}
use Rattle.text_core.specs.Tokens.{s_negative, s_sign, s_pair, look}
use Rattle.t_text.specs.Tokens.{assembly, Keeps, words, word, word_in, is_register, after_first, signs}
use Rattle.t_text.specs.Raw.{RawTy, RInt, RName, RCode, RSome, RTuple, RawRegs, NoRawRegs, MoreRawRegs, RawFields}
use Rattle.t_text.specs.Raw.{NoRawFields, MoreRawFields, RawReg, RawField, raw_regs, raw_fields, RawBase, RReg, RNum}
use Rattle.t_text.specs.Raw.{RLabel, RawValue, RPlain, RPack, RawInstr, RArith, RBnz, RLd, RMalloc, RMov, RSt, RUnpack}
use Rattle.t_text.specs.Raw.{RawEnd, RJmp, RHalt, RawBlock, RawDatum, RawItem, BlockItem, DataItem, blocks_in}
use Rattle.t_text.specs.Raw.{block_items, Piece}
use Rattle.t_text.specs.Grammar.{Names, ns_one, ns_more, Binds, bs_none, bs_names, T, t_int, t_name, t_code, t_some}
use Rattle.t_text.specs.Grammar.{t_unit, t_tuple, File, f_none, f_regs, Rs, rs_one, rs_more, Fs, fs_one, fs_more, Ts}
use Rattle.t_text.specs.Grammar.{ts_one, ts_more, N, n_reg, n_plain, n_negative, n_label, V, v_base, v_apply, v_pack, I}
use Rattle.t_text.specs.Grammar.{i_arith, i_bnz, i_ld, i_malloc_none, i_malloc, i_mov, i_st, i_unpack, Is, is_none}
use Rattle.t_text.specs.Grammar.{is_more, End, e_jmp, e_halt, Block, b_block, Blocks, W, Ds, ds_one, ds_more, Tuple}
use Rattle.t_text.specs.Grammar.{tu_none, tu_fields, Item, it_block, it_data, Items, its_none, its_more, Program}
use Rattle.t_text.specs.Grammar.{p_blocks, p_items}
use Rattle.t_text.specs.Grammar as g
use Rattle.t_text.proofs.ItemLaws.{as_value, blocks_alone}

-- under n names: registers and fields are in range, and not too many names are bound
abbrev mutual
  pub FitsTy : ℕ → RawTy → Type 0
  FitsTy n RInt = Unit {0}
  FitsTy n (RName s) = Unit {0}
  FitsTy n (RCode ns rs) = (n + length ns ≤ max_names) × FitsRegs (n + length ns) rs
  FitsTy n (RSome s t) = (n + 1 ≤ max_names) × FitsTy (n + 1) t
  FitsTy n (RTuple fs) = FitsFields n fs

  pub FitsRegs : ℕ → RawRegs → Type 0
  FitsRegs n NoRawRegs = Unit {0}
  FitsRegs n (MoreRawRegs r s t rs) = IsRegister r × FitsTy n t × FitsRegs n rs

  pub FitsFields : ℕ → RawFields → Type 0
  FitsFields n NoRawFields = Unit {0}
  FitsFields n (MoreRawFields t f fs) = FitsTy n t × FitsFields n fs

abbrev pub FitsTys : ℕ → List RawTy → Type 0
FitsTys n [] = Unit {0}
FitsTys n (t ∷ ts) = FitsTy n t × FitsTys n ts

abbrev pub FitsBase : RawBase → Type 0
FitsBase (RReg r) = IsRegister r
FitsBase (RNum z) = Unit {0}
FitsBase (RLabel s) = Unit {0}

abbrev pub FitsValue : ℕ → RawValue → Type 0
FitsValue n (RPlain b ts) = FitsBase b × FitsTys n ts
FitsValue n (RPack t v s) = FitsTy n t × FitsValue n v × FitsTy n s

abbrev pub FitsInstr : ℕ → RawInstr → Type 0
FitsInstr n (RArith op rd rs v) = IsRegister rd × IsRegister rs × FitsValue n v
FitsInstr n (RBnz r v) = IsRegister r × FitsValue n v
FitsInstr n (RLd rd rs i) = IsRegister rd × IsRegister rs × (i ≤ max_number)
FitsInstr n (RMalloc rd ts) = IsRegister rd × FitsTys n ts
FitsInstr n (RMov rd v) = IsRegister rd × FitsValue n v
FitsInstr n (RSt rd i rs) = IsRegister rd × (i ≤ max_number) × IsRegister rs
FitsInstr n (RUnpack m rd v) = IsRegister rd × FitsValue n v

-- the number of names after an instruction, and after instructions
abbrev pub after_raw : RawInstr → ℕ → ℕ
after_raw (RUnpack m rd v) n = n + 1
after_raw (RArith op rd rs v) n = n
after_raw (RBnz r v) n = n
after_raw (RLd rd rs i) n = n
after_raw (RMalloc rd ts) n = n
after_raw (RMov rd v) n = n
after_raw (RSt rd i rs) n = n

abbrev pub after_steps : List (RawInstr × Span) → ℕ → ℕ
after_steps [] n = n
after_steps (i ∷ is) n = after_steps is (after_raw i.0 n)

abbrev pub FitsSteps : ℕ → List (RawInstr × Span) → Type 0
FitsSteps n [] = Unit {0}
FitsSteps n (i ∷ is) = FitsInstr n i.0 × (after_raw i.0 n ≤ max_names) × FitsSteps (after_raw i.0 n) is

abbrev pub FitsEnd : ℕ → RawEnd → Type 0
FitsEnd n (RJmp v) = FitsValue n v
FitsEnd n RHalt = Unit {0}

abbrev pub FitsBlock : RawBlock → Type 0
FitsBlock b = (length b.names ≤ max_names) × FitsRegs (length b.names) b.file × FitsSteps (length b.names) b.body
    × FitsEnd (after_steps b.body (length b.names)) b.last.0

abbrev pub FitsBlocks : List RawBlock → Type 0
FitsBlocks [] = Unit {0}
FitsBlocks (b ∷ bs) = FitsBlock b × FitsBlocks bs

-- a field of a data tuple stands under no names, and no register stands in its value
abbrev pub FitsDatum : RawDatum → Type 0
FitsDatum x = FitsValue 0 x.value × FitsTy 0 x.ty × ((w : List Token) × W w (x.value, x.place))

abbrev pub FitsData : List RawDatum → Type 0
FitsData [] = Unit {0}
FitsData (x ∷ xs) = FitsDatum x × FitsData xs

abbrev pub FitsItem : RawItem → Type 0
FitsItem (BlockItem b) = FitsBlock b
FitsItem (DataItem x) = FitsData x.fields

abbrev pub FitsItems : List RawItem → Type 0
FitsItems [] = Unit {0}
FitsItems (x ∷ xs) = FitsItem x × FitsItems xs

-- a plain number has no sign
abbrev IsMade : Kind → Type 0
IsMade (k.Plain (negsuc n)) = ⊥
IsMade _ = Unit {0}

-- tokens that keep their bounds
abbrev pub Kept : List Token → Type 0
Kept [] = Unit {0}
Kept (c ∷ w) = (Keeps c.kind × IsMade c.kind) × Kept w

kept_left : (u v : List Token) → Kept (u ++ v) → Kept u
kept_left [] v h = tt
kept_left (c ∷ u) v h = (h.0, kept_left u v h.1)

kept_right : (u v : List Token) → Kept (u ++ v) → Kept v
kept_right [] v h = h
kept_right (c ∷ u) v h = kept_right u v h.1

-- the room that is left for names
abbrev Room : ℕ → List Token → Type 0
Room n w = 2 * n + length w ≤ 9223372036854775808

names_count : {w : List Token} {ns : List Span} → Names w ns → 2 * length ns ≤ length w + 1
names_count (ns_one n) = omega arith
names_count (ns_more {w} {ns} c n x) = let h = names_count x in simp length-append (omega (arith, h))

binds_count : {w : List Token} {ns : List Span} → Binds w ns → 2 * length ns ≤ length w
binds_count (bs_none o c) = omega arith
binds_count (bs_names {w} {ns} o c x) = let h = names_count x in simp length-append (omega (arith, h))

regs_append : (n : ℕ) (xs ys : List RawReg) → FitsRegs n (raw_regs xs) → FitsRegs n (raw_regs ys) →
    FitsRegs n (raw_regs (xs ++ ys))
regs_append n [] ys h g = g
regs_append n (x ∷ xs) ys h g = (h.0, h.1, regs_append n xs ys h.2 g)

fields_append : (n : ℕ) (xs ys : List RawField) → FitsFields n (raw_fields xs) → FitsFields n (raw_fields ys) →
    FitsFields n (raw_fields (xs ++ ys))
fields_append n [] ys h g = g
fields_append n (x ∷ xs) ys h g = (h.0, fields_append n xs ys h.1 g)

tys_append : (n : ℕ) (xs ys : List RawTy) → FitsTys n xs → FitsTys n ys → FitsTys n (xs ++ ys)
tys_append n [] ys h g = g
tys_append n (x ∷ xs) ys h g = (h.0, tys_append n xs ys h.1 g)

mutual
  fits_T : {w : List Token} {t : Piece RawTy} → T w t → (n : ℕ) → Kept w → Room n w → FitsTy n t.tree
  fits_T (t_int s) n h r = tt
  fits_T (t_name s) n h r = tt
  fits_T (t_code {u} {v} {ns} a x y) n h r =
      let b = binds_count x in
      let l = length-append u v in
      let q : Room (n + length ns) v = omega (arith, b, l, r) in
      (omega (arith, q), fits_File y (n + length ns) (kept_right u v h.1) q)
  fits_T (t_some {w} s m d x) n h r =
      let q : Room (n + 1) w = omega (arith, r) in (omega (arith, q), fits_T x (n + 1) h.1.1.1 q)
  fits_T (t_unit o c) n h r = tt
  fits_T (t_tuple {w} o c x) n h r = fits_Fs x n (kept_left w _ h.1) (omega (arith, length-append {A = Token}, r))

  fits_File : {w : List Token} {t : Piece RawRegs} → File w t → (n : ℕ) → Kept w → Room n w → FitsRegs n t.tree
  fits_File (f_none o c) n h r = tt
  fits_File (f_regs {w} o c x) n h r = fits_Rs x n (kept_left w _ h.1) (omega (arith, length-append {A = Token}, r))

  fits_Rs : {w : List Token} {rs : List RawReg} → Rs w rs → (n : ℕ) → Kept w → Room n w → FitsRegs n (raw_regs rs)
  fits_Rs (rs_one {w} q s c x) n h r = (h.0.0, fits_T x n h.1.1 (omega (arith, length-append {A = Token}, r)), tt)
  fits_Rs (rs_more {u} {v} {rs} c q s d x y) n h r =
      let k = kept_right u _ h in
      regs_append n rs _ (fits_Rs x n (kept_left u _ h) (omega (arith, length-append {A = Token}, r)))
      (k.1.0.0, fits_T y n k.1.1.1 (omega (arith, length-append {A = Token}, r)), tt)

  fits_Fs : {w : List Token} {fs : List RawField} → Fs w fs → (n : ℕ) → Kept w → Room n w → FitsFields n (raw_fields fs)
  fits_Fs (fs_one {w} a s x f) n h r = (fits_T x n (kept_left w _ h) (omega (arith, length-append {A = Token}, r)), tt)
  fits_Fs (fs_more {u} {v} {fs} c a s x y f) n h r =
      let k = kept_right u _ h in
      fields_append n fs _ (fits_Fs x n (kept_left u _ h) (omega (arith, length-append {A = Token}, r)))
      (fits_T y n (kept_left v _ k.1) (omega (arith, length-append {A = Token}, r)), tt)

fits_Ts : {w : List Token} {ts : List RawTy} → Ts w ts → (n : ℕ) → Kept w → Room n w → FitsTys n ts
fits_Ts (ts_one x) n h r = (fits_T x n h r, tt)
fits_Ts (ts_more {u} {v} {ts} c x y) n h r =
    let k = kept_right u _ h in
    tys_append n ts _ (fits_Ts x n (kept_left u _ h) (omega (arith, length-append {A = Token}, r)))
    (fits_T y n k.1 (omega (arith, length-append {A = Token}, r)), tt)

fits_N : {b : Token} {base : RawBase} → N b base → Keeps b.kind → FitsBase base
fits_N (n_reg r s) h = h
fits_N (n_plain z s) h = tt
fits_N (n_negative z s) h = tt
fits_N (n_label s) h = tt

fits_V : {w : List Token} {v : Piece RawValue} → V w v → (n : ℕ) → Kept w → Room n w → FitsValue n v.tree
fits_V (v_base b) n h r = (fits_N b h.0.0, tt)
fits_V (v_apply {w} o c b x) n h r =
    (fits_N b h.0.0, fits_Ts x n (kept_left w _ h.1.1) (omega (arith, length-append {A = Token}, r)))
fits_V (v_pack {u} {v} {w} p o m c a x y z) n h r =
    let h1 = h.1.1 in
    let h2 = (kept_right u _ h1).1 in
    let h3 = (kept_right v _ h2).1.1 in (
      fits_T x n (kept_left u _ h1) (omega (arith, length-append {A = Token}, r)),
      fits_V y n (kept_left v _ h2) (omega (arith, length-append {A = Token}, r)),
      fits_T z n h3 (omega (arith, length-append {A = Token}, r)),
    )

small_number : (z : ℤ) → Keeps (k.Plain z) × IsMade (k.Plain z) → nat_abs z ≤ max_number
small_number (pos n) h = let l = h.0 in omega (arith, ints, l)
small_number (negsuc n) h = absurd h.1

fits_I : {w : List Token} {i : RawInstr × Span} → I w i → (n : ℕ) → Kept w → Room n w → FitsInstr n i.0
fits_I (i_arith {w} a b c d e rd rs o x) n h r =
    (h.1.0.0, h.1.1.1.0.0, fits_V x n h.1.1.1.1.1 (omega (arith, length-append {A = Token}, r)))
fits_I (i_bnz {w} a b c q x) n h r = (h.1.0.0, fits_V x n h.1.1.1 (omega (arith, length-append {A = Token}, r)))
fits_I (i_ld a b c d o f e rd rs z) n h r = (h.1.0.0, h.1.1.1.0.0, small_number z h.1.1.1.1.1.0)
fits_I (i_malloc_none a b o c rd) n h r = (h.1.0.0, tt)
fits_I (i_malloc {w} a b o c rd x) n h r =
    (h.1.0.0, fits_Ts x n (kept_left w _ h.1.1.1) (omega (arith, length-append {A = Token}, r)))
fits_I (i_mov {w} a b c rd x) n h r = (h.1.0.0, fits_V x n h.1.1.1 (omega (arith, length-append {A = Token}, r)))
fits_I (i_st a b o f e c d rd rs z) n h r = (h.1.0.0, small_number z h.1.1.1.0, h.1.1.1.1.1.1.0.0)
fits_I (i_unpack {w} a o m b d c e rd x) n h r =
    (h.1.1.1.1.0.0, fits_V x n h.1.1.1.1.1.1.1 (omega (arith, length-append {A = Token}, r)))

-- an instruction takes room for the name that it binds
after_I : {w : List Token} {i : RawInstr × Span} → I w i → (n : ℕ) → 2 * after_raw i.0 n ≤ 2 * n + length w
after_I (i_arith a b c d e rd rs o x) n = omega arith
after_I (i_bnz a b c q x) n = omega arith
after_I (i_ld a b c d o f e rd rs z) n = omega arith
after_I (i_malloc_none a b o c rd) n = omega arith
after_I (i_malloc a b o c rd x) n = omega arith
after_I (i_mov a b c rd x) n = omega arith
after_I (i_st a b o f e c d rd rs z) n = omega arith
after_I (i_unpack a o m b d c e rd x) n = omega arith

steps_append : (n : ℕ) (is js : List (RawInstr × Span)) → FitsSteps n is → FitsSteps (after_steps is n) js →
    FitsSteps n (is ++ js)
steps_append n [] js h g = g
steps_append n (i ∷ is) js h g = (h.0, h.1, steps_append (after_raw i.0 n) is js h.2 g)

after_append : (n : ℕ) (is js : List (RawInstr × Span)) → after_steps (is ++ js) n ≡ after_steps js (after_steps is n)
after_append n [] js = refl
after_append n (i ∷ is) js = after_append (after_raw i.0 n) is js

after_Is : {w : List Token} {is : List (RawInstr × Span)} → Is w is → (n : ℕ) → 2 * after_steps is n ≤ 2 * n + length w
after_Is is_none n = omega arith
after_Is (is_more {u} {v} {is} {i} x y) n =
    let a = after_Is x n in
    let b = after_I y (after_steps is n) in
    let l = length-append u v in
    rw (after_append n is (i ∷ [])) (omega (arith, a, b, l))

fits_Is : {w : List Token} {is : List (RawInstr × Span)} → Is w is → (n : ℕ) → Kept w → Room n w → FitsSteps n is
fits_Is is_none n h r = tt
fits_Is (is_more {u} {v} {is} {i} x y) n h r =
    let a = after_Is x n in
    let l = length-append u v in
    let q : Room (after_steps is n) v = omega (arith, a, l, r) in
    let b = after_I y (after_steps is n) in
    steps_append n is (i ∷ []) (fits_Is x n (kept_left u v h) (omega (arith, length-append {A = Token}, r)))
    (fits_I y (after_steps is n) (kept_right u v h) q, omega (arith, b, q), tt)

fits_End : {w : List Token} {e : RawEnd × Span} → End w e → (n : ℕ) → Kept w → Room n w → FitsEnd n e.0
fits_End (e_jmp a x) n h r = fits_V x n h.1 (omega (arith, length-append {A = Token}, r))
fits_End (e_halt a o i c) n h r = tt

fits_Block : {w : List Token} {b : RawBlock} → Block w b → Kept w → Room 0 w → FitsBlock b
fits_Block (b_block {u} {v} {w} {x} {ns} {file} {is} {last} l c d p names f body end) h r =
    let count = binds_count names in
    let h1 = h.1.1.1 in
    let lu = length-append u (v ++ g.tok k.Dot p ∷ (w ++ x)) in
    let lv = length-append v (g.tok k.Dot p ∷ (w ++ x)) in
    let lw = length-append w x in
    let after = after_Is body (length ns) in
    let h2 = kept_right u _ h1 in
    let h3 = (kept_right v _ h2).1 in
    let r1 : Room (length ns) v = omega (arith, count, lu, lv, lw, r) in
    let r2 : Room (length ns) w = omega (arith, count, lu, lv, lw, r) in
    let r3 : Room (after_steps is (length ns)) x = omega (arith, count, lu, lv, lw, after, r) in (
      omega (arith, r1),
      fits_File f (length ns) (kept_left v _ h2) r1,
      fits_Is body (length ns) (kept_left w x h3) r2,
      fits_End end (after_steps is (length ns)) (kept_right w x h3) r3,
    )

blocks_append : (xs ys : List RawBlock) → FitsBlocks xs → FitsBlocks ys → FitsBlocks (xs ++ ys)
blocks_append [] ys h q = q
blocks_append (x ∷ xs) ys h q = (h.0, blocks_append xs ys h.1 q)

fits_Blocks : {w : List Token} {bs : List RawBlock} → Blocks w bs → Kept w → Room 0 w → FitsBlocks bs × (1 ≤ length bs)
fits_Blocks (g.bs_one x) h r = ((fits_Block x h r, tt), omega arith)
fits_Blocks (g.bs_more {u} {v} {bs} x y) h r =
    let p = fits_Blocks x (kept_left u v h) (omega (arith, length-append {A = Token}, r)) in (
      blocks_append bs _ p.0 (fits_Block y (kept_right u v h) (omega (arith, length-append {A = Token}, r)), tt),
      simp length-append (omega (arith, p.1)),
    )

blocks_items : (bs : List RawBlock) → FitsBlocks bs → FitsItems (block_items bs)
blocks_items [] h = tt
blocks_items (b ∷ bs) h = (h.0, blocks_items bs h.1)

data_append : (xs ys : List RawDatum) → FitsData xs → FitsData ys → FitsData (xs ++ ys)
data_append [] ys h q = q
data_append (x ∷ xs) ys h q = (h.0, data_append xs ys h.1 q)

fits_Ds : {w : List Token} {xs : List RawDatum} → Ds w xs → Kept w → Room 0 w → FitsData xs
fits_Ds (ds_one {u} {v} c x y) h r =
    let k = kept_right u _ h in (
      (
        fits_V (as_value x) 0 (kept_left u _ h) (omega (arith, length-append {A = Token}, r)),
        fits_T y 0 k.1 (omega (arith, length-append {A = Token}, r)),
        (u, x),
      ),
      tt,
    )
fits_Ds (ds_more {u} {v} {w} {xs} m c x y z) h r =
    let k = kept_right u _ h in
    let e = kept_right v _ k.1 in
    data_append xs _ (fits_Ds x (kept_left u _ h) (omega (arith, length-append {A = Token}, r))) (
      (
        fits_V (as_value y) 0 (kept_left v _ k.1) (omega (arith, length-append {A = Token}, r)),
        fits_T z 0 e.1 (omega (arith, length-append {A = Token}, r)),
        (v, y),
      ),
      tt,
    )

fits_Tuple : {w : List Token} {xs : List RawDatum} → Tuple w xs → Kept w → Room 0 w → FitsData xs
fits_Tuple (tu_none o c) h r = tt
fits_Tuple (tu_fields {w} o c x) h r = fits_Ds x (kept_left w _ h.1) (omega (arith, length-append {A = Token}, r))

fits_Item : {w : List Token} {x : RawItem} → Item w x → Kept w → Room 0 w → FitsItem x
fits_Item (it_block x) h r = fits_Block x h r
fits_Item (it_data l c d x) h r = fits_Tuple x h.1.1.1 (omega (arith, r))

items_append : (xs ys : List RawItem) → FitsItems xs → FitsItems ys → FitsItems (xs ++ ys)
items_append [] ys h q = q
items_append (x ∷ xs) ys h q = (h.0, items_append xs ys h.1 q)

fits_Items : {w : List Token} {xs : List RawItem} → Items w xs → Kept w → Room 0 w → FitsItems xs
fits_Items its_none h r = tt
fits_Items (its_more {u} {v} {xs} x y) h r =
    items_append xs _ (fits_Items x (kept_left u v h) (omega (arith, length-append {A = Token}, r)))
    (fits_Item y (kept_right u v h) (omega (arith, length-append {A = Token}, r)), tt)

pub fits_Program : {w : List Token} {xs : List RawItem} → Program w xs → Kept w → length w ≤ 9223372036854775807 →
    FitsItems xs × (1 ≤ length (blocks_in xs))
fits_Program (p_blocks {w} {bs} t n x) h l =
    let k = fits_Blocks x h.1.1 (omega (arith, l)) in
    (blocks_items bs k.0, rw (blocks_alone bs) k.1)
fits_Program (p_items t n x b) h l = (fits_Items x h.1.1 (omega (arith, l)), b)

-- the tokens of a text are so
all_made : List (List ℕ × Kind) → Type 0
all_made [] = Unit {0}
all_made (e ∷ t) = IsMade e.1 × all_made t

made_in : (t : List (List ℕ × Kind)) → all_made t → (u : List ℕ) → IsMade (word_in t u)
unfolding all_made
made_in [] h u = tt
made_in (e ∷ t) h u = go (bytes_eq u e.0) (made_in t h.1 u)
  where
    go : (b : Bool) → IsMade (word_in t u) → IsMade (if b then e.1 else word_in t u)
    go true x = h.0
    go false x = x

words_made : all_made words
unfolding all_made
words_made = search

made_word : (u : List ℕ) → IsMade (word u)
made_word u = go (is_register u)
  where
    go : (b : Bool) → IsMade (if b then k.Register (value (after_first u)) else word_in words u)
    go true = tt
    go false = made_in words words_made u

all_signs : List (ℕ × Kind) → Type 0
all_signs [] = Unit {0}
all_signs (e ∷ t) = IsMade e.1 × all_signs t

made_look : (t : List (ℕ × Kind)) → all_signs t → (b : ℕ) (x : Kind) → look t b ≡ Some x → IsMade x
unfolding all_signs
made_look [] h b x e = absurd (cc)
made_look (y ∷ t) h b x e = go (b == y.0) (made_look t h.1 b x) e
  where
    go : (c : Bool) → (look t b ≡ Some x → IsMade x) → (if c then Some y.1 else look t b) ≡ Some x → IsMade x
    go true f q = let z : y.1 ≡ x = cc in subst (λ (v : Kind). IsMade v) z h.0
    go false f q = f q

signs_made : all_signs signs
unfolding all_signs
signs_made = search

made_spelling : {u : List ℕ} {x : Kind} → Spells assembly u x → IsMade x
made_spelling (s_word b s p q) = made_word (b ∷ s)
made_spelling (s_plain b s p) = tt
made_spelling (s_negative b s p) = tt
made_spelling (s_sign b x e) = made_look signs signs_made b x e
made_spelling (s_pair b c x e) = absurd (cc)

made_next : {s : List ℕ} {x : Kind} {n : ℕ} → Next assembly s (Spelling x n) → IsMade x
made_next (n_spelling a b) = made_spelling b.spells

pub kept_cut : {i : ℕ} {s : List ℕ} {w : List Token} → Cut assembly i s w → Kept w
kept_cut c_end = tt
kept_cut (c_gap n x) = kept_cut x
kept_cut (c_token n h x) = ((h, made_next n), kept_cut x)
