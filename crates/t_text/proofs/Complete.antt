-- Each shape is read whole.
use Rattle.std.proofs.Common.{pos, ◌≡◌, ℕ, suc, ◌||◌, List, [], ◌∷◌, ◌++◌, refl, ◌∙◌, ap, append_assoc, Option, Some}
use Rattle.std.proofs.Common.{Bool, true, false, arith}
use Rattle.std.proofs.lemmas.List.{append-nil}
use Rattle.idx_core.specs.declared.span.Span.{Span}
use Rattle.idx_core.specs.declared.arith.Op.{Op}
use Rattle.t_text.specs.declared.token.Kind.{Kind}
use Rattle.t_text.specs.declared.token.Kind.TheVariants as k
use Rattle.t_text.specs.declared.token.Token.{Token}
use Rattle.t_text.specs.declared.wanted.Wanted.TheVariants as want
use Rattle.t_text.specs.Raw.{RawTy, RawRegs, RawReg, RawField, RawBase, RawValue, RPlain, RawInstr, RawEnd, RawBlock}
use Rattle.t_text.specs.Raw.{RawDatum, RawItem, BlockItem, DataItem, block_items, Piece, ending}
use Rattle.t_text.specs.Grammar.{tok, Names, ns_one, ns_more, Binds, bs_none, bs_names, IsFlag, is_zero, is_one}
use Rattle.t_text.specs.Grammar.{is_minus_zero, T, t_int, t_name, t_code, t_some, t_unit, t_tuple, File, f_none}
use Rattle.t_text.specs.Grammar.{f_regs, Rs, rs_one, rs_more, Fs, fs_one, fs_more, Ts, ts_one, ts_more, N, n_reg}
use Rattle.t_text.specs.Grammar.{n_plain, n_negative, n_label, V, v_base, v_apply, v_pack, IsOp, is_add, is_sub}
use Rattle.t_text.specs.Grammar.{is_mul, I, i_arith, i_bnz, i_ld, i_malloc_none, i_malloc, i_mov, i_st, i_unpack, Is}
use Rattle.t_text.specs.Grammar.{is_none, is_more, End, e_jmp, e_halt, Block, b_block, Blocks, bs_one, bs_more, Q}
use Rattle.t_text.specs.Grammar.{q_plain, q_negative, q_label, W, w_base, w_apply, w_pack, Ds, ds_one, ds_more, Tuple}
use Rattle.t_text.specs.Grammar.{tu_none, tu_fields, Item, it_block, it_data, Items, its_none, its_more, HasBlock}
use Rattle.t_text.specs.Grammar.{Program, p_blocks, p_items, open_Names, open_Binds, open_T, open_File, open_Rs}
use Rattle.t_text.specs.Grammar.{open_Fs, open_Ts, open_V, open_I, open_Is, open_End, open_Block, open_Blocks, open_W}
use Rattle.t_text.specs.Grammar.{open_Ds, open_Tuple, open_Item, open_Items, open_Program}
use Rattle.text_core.specs.Table.{Tm, Nt, Do, Mark, Done, Seen, then_more}
use Rattle.text_core.proofs.Reading as reading
use Rattle.text_core.proofs.Reading.{Opens, opens}
use Rattle.t_text.specs.GrammarTable.{table, Line, LProgram, LBlock, LMoreBlocks, LBinds, LNames, LMoreNames, LFile}
use Rattle.t_text.specs.GrammarTable.{LRegs, LMoreRegs, LT, LFields, LMoreFields, LTypeList, LSomeTypes, LMoreTypes}
use Rattle.t_text.specs.GrammarTable.{LV, LArgs, LTo, LI, LMoreSteps, LEnd, LSomeItems, LMoreItems, LTuple, LDatums}
use Rattle.t_text.specs.GrammarTable.{LMoreDatums, LW, LWordArgs, Act, MakeNoNames, MakeFirstName, MakeNextName}
use Rattle.t_text.specs.GrammarTable.{MakeClosedNames, MakeBinds, MakeNoRegs, MakeFirstReg, MakeNextReg}
use Rattle.t_text.specs.GrammarTable.{MakeClosedRegs, MakeFile, MakeTypeInt, MakeTypeName, MakeTypeCode, MakeTypeSome}
use Rattle.t_text.specs.GrammarTable.{MakeNoFields, MakeFirstField, MakeNextField, MakeClosedFields, MakeTypeTuple}
use Rattle.t_text.specs.GrammarTable.{MakeNoTypes, MakeFirstType, MakeNextType, MakeClosedTypes, MakeTypes, MakeBase}
use Rattle.t_text.specs.GrammarTable.{MakeApply, MakePacked, MakePack, MakeTo, MakeIndex, MakeAt, MakeInt, MakeArith}
use Rattle.t_text.specs.GrammarTable.{MakeBnz, MakeLd, MakeMalloc, MakeMov, MakeSt, MakeUnpack, MakeNoSteps}
use Rattle.t_text.specs.GrammarTable.{MakeNextStep, MakeJmp, MakeHalt, MakeBlock, MakeFirstBlock, MakeNextBlock}
use Rattle.t_text.specs.GrammarTable.{MakeWord, MakeWordApply, MakeWordPacked, MakeWordPack, MakeNoDatums}
use Rattle.t_text.specs.GrammarTable.{MakeFirstDatum, MakeNextDatum, MakeClosedDatums, MakeTuple, MakeBlockItem}
use Rattle.t_text.specs.GrammarTable.{MakeDataItem, MakeNoItems, MakeNextItem, MakeHeaded, MakeProgram, Stack, Val}
use Rattle.t_text.specs.GrammarTable.{OfToken, OfNames, OfType, OfRegs, OfFile, OfFields, OfTypes, OfValue, OfStep}
use Rattle.t_text.specs.GrammarTable.{OfSteps, OfEnd, OfBlock, OfBlocks, OfWord, OfDatums, OfTuple, OfItems, act}
use Rattle.t_text.specs.GrammarTable.{type_after, fields_after, fields_tail, type_list_after, some_types_after}
use Rattle.t_text.specs.GrammarTable.{types_tail, instr_after, steps_after, steps_tail, block_after, blocks_after}
use Rattle.t_text.specs.GrammarTable.{blocks_tail, code_owed, word_after, datums_after, datums_tail, items_tail}
use Rattle.t_text.specs.GrammarTable.{Outcome, marks, seen, exec}

pub do_now : (w : List Token) (a : Act) (s : Stack) (vs : List Val) → exec w (Do a ∷ s) vs ≡ exec w s (act a vs)
do_now w a s vs = reading.do_now table w a s vs

pub marked : (w : List Token) (a : Act) (s : Stack) (vs : List Val) →
    exec w (Mark ∷ (Do a ∷ s)) vs ≡ exec w s (act a vs)
marked w a s vs = reading.marked table w a s vs

seen_append : (a b : List ℕ) (o : Outcome) → seen (a ++ b) o ≡ seen a (seen b o)
seen_append a b o = reading.seen_append table a b o

pub under : (a : List ℕ) {x y : Outcome} → x ≡ y → seen a x ≡ seen a y
under a e = reading.under table a e

pub next : (n : ℕ) {x y : Outcome} → x ≡ y → Seen n x ≡ Seen n y
next n e = reading.next table n e

abbrev pub Leaves : Line → List Token → Type 0
Leaves n w = reading.Leaves table n w

-- lines that go on as others do
pub fields_type : (c : Kind) (r : Stack) → type_after c ≡ Some r → fields_after c ≡ Some (r ++ fields_tail)
fields_type k.RightAngle r e = absurd (cc)
fields_type _ r e = ap (λ (o : Option Stack). then_more o fields_tail) e

pub list_type : (c : Kind) (r : Stack) → type_after c ≡ Some r → type_list_after c ≡ Some (r ++ types_tail)
list_type k.RightBracket r e = absurd (cc)
list_type _ r e = ap (λ (o : Option Stack). then_more o types_tail) e

pub some_type : (c : Kind) (r : Stack) → type_after c ≡ Some r → some_types_after c ≡ Some (r ++ types_tail)
some_type c r e = ap (λ (o : Option Stack). then_more o types_tail) e

pub steps_instr : (c : Kind) (r : Stack) → instr_after c ≡ Some r → steps_after c ≡ Some (r ++ steps_tail)
steps_instr c r e = ap (λ (o : Option Stack). then_more o steps_tail) e

pub blocks_block : (c : Kind) (r : Stack) → block_after c ≡ Some r → blocks_after c ≡ Some (r ++ blocks_tail)
blocks_block c r e = ap (λ (o : Option Stack). then_more o blocks_tail) e

pub datums_word : (c : Kind) (r : Stack) → word_after c ≡ Some r → datums_after c ≡ Some (r ++ datums_tail)
datums_word k.RightAngle r e = absurd (cc)
datums_word _ r e = ap (λ (o : Option Stack). then_more o datums_tail) e

fields_as_type : {w : List Token} → Opens table LT w → (s : Stack) (vs : List Val) →
    exec w (Nt LFields ∷ s) vs ≡ exec w (Nt LT ∷ (fields_tail ++ s)) vs
fields_as_type o s vs = reading.as_line table LT LFields fields_tail (λ c r e. fields_type c.kind r e) o s vs

list_as_type : {w : List Token} → Opens table LT w → (s : Stack) (vs : List Val) →
    exec w (Nt LTypeList ∷ s) vs ≡ exec w (Nt LT ∷ (types_tail ++ s)) vs
list_as_type o s vs = reading.as_line table LT LTypeList types_tail (λ c r e. list_type c.kind r e) o s vs

some_as_type : {w : List Token} → Opens table LT w → (s : Stack) (vs : List Val) →
    exec w (Nt LSomeTypes ∷ s) vs ≡ exec w (Nt LT ∷ (types_tail ++ s)) vs
some_as_type o s vs = reading.as_line table LT LSomeTypes types_tail (λ c r e. some_type c.kind r e) o s vs

steps_as_instr : {w : List Token} → Opens table LI w → (s : Stack) (vs : List Val) →
    exec w (Nt LMoreSteps ∷ s) vs ≡ exec w (Nt LI ∷ (steps_tail ++ s)) vs
steps_as_instr o s vs = reading.as_line table LI LMoreSteps steps_tail (λ c r e. steps_instr c.kind r e) o s vs

blocks_as_block : {w : List Token} → Opens table LBlock w → (s : Stack) (vs : List Val) →
    exec w (Nt LMoreBlocks ∷ s) vs ≡ exec w (Nt LBlock ∷ (blocks_tail ++ s)) vs
blocks_as_block o s vs = reading.as_line table LBlock LMoreBlocks blocks_tail (λ c r e. blocks_block c.kind r e) o s vs

datums_as_word : {w : List Token} → Opens table LW w → (s : Stack) (vs : List Val) →
    exec w (Nt LDatums ∷ s) vs ≡ exec w (Nt LW ∷ (datums_tail ++ s)) vs
datums_as_word o s vs = reading.as_line table LW LDatums datums_tail (λ c r e. datums_word c.kind r e) o s vs

-- what begins with a form begins its line
more : (n : Line) {u : List Token} (w : List Token) → Opens table n u → Opens table n (u ++ w)
more n w o = reading.opens_more table n w o

first_T : {w : List Token} {t : Piece RawTy} → T w t → Opens table LT w
first_T (t_int s) = opens _ _ _ refl
first_T (t_name s) = opens _ _ _ refl
first_T (t_code a x y) = opens _ _ _ refl
first_T (t_some s n d x) = opens _ _ _ refl
first_T (t_unit o c) = opens _ _ _ refl
first_T (t_tuple o c x) = opens _ _ _ refl

first_Fs : {w : List Token} {fs : List RawField} → Fs w fs → Opens table LT w
first_Fs (fs_one {n} h s x f) = more LT (tok k.Caret h ∷ (tok n s ∷ [])) (first_T x)
first_Fs (fs_more {u} {v} {n} c h s x y f) =
    more LT (tok k.Comma c ∷ (v ++ tok k.Caret h ∷ (tok n s ∷ []))) (first_Fs x)

first_Ts : {w : List Token} {ts : List RawTy} → Ts w ts → Opens table LT w
first_Ts (ts_one x) = first_T x
first_Ts (ts_more {u} {v} c x y) = more LT (tok k.Comma c ∷ v) (first_Ts x)

first_I : {w : List Token} {i : RawInstr × Span} → I w i → Opens table LI w
first_I (i_arith a b c d e rd rs is_add x) = opens _ _ _ refl
first_I (i_arith a b c d e rd rs is_sub x) = opens _ _ _ refl
first_I (i_arith a b c d e rd rs is_mul x) = opens _ _ _ refl
first_I (i_bnz a b c r x) = opens _ _ _ refl
first_I (i_ld a b c d o f e rd rs n) = opens _ _ _ refl
first_I (i_malloc_none a b o c rd) = opens _ _ _ refl
first_I (i_malloc a b o c rd x) = opens _ _ _ refl
first_I (i_mov a b c rd x) = opens _ _ _ refl
first_I (i_st a b o f e c d rd rs n) = opens _ _ _ refl
first_I (i_unpack a o n b d c e rd x) = opens _ _ _ refl

first_Block : {w : List Token} {b : RawBlock} → Block w b → Opens table LBlock w
first_Block (b_block l c d p x y z e) = opens _ _ _ refl

first_W : {w : List Token} {x : RawValue × Span} → W w x → Opens table LW w
first_W (w_base (q_plain z s)) = opens _ _ _ refl
first_W (w_base (q_negative z s)) = opens _ _ _ refl
first_W (w_base (q_label s)) = opens _ _ _ refl
first_W (w_apply o c (q_plain z s) x) = opens _ _ _ refl
first_W (w_apply o c (q_negative z s) x) = opens _ _ _ refl
first_W (w_apply o c (q_label s) x) = opens _ _ _ refl
first_W (w_pack p o m c a x y z) = opens _ _ _ refl

first_Ds : {w : List Token} {xs : List RawDatum} → Ds w xs → Opens table LW w
first_Ds (ds_one {v} c x y) = more LW (tok k.Colon c ∷ v) (first_W x)
first_Ds (ds_more {v} {w} m c x y z) = more LW (tok k.Comma m ∷ (v ++ tok k.Colon c ∷ w)) (first_Ds x)

-- no type arguments begin with an instruction, an end, a block or an item, and no instruction with an end
leaves_I : {w : List Token} {i : RawInstr × Span} → I w i → (rest : List Token) → Leaves LArgs (w ++ rest)
leaves_I (i_arith a b c d e rd rs is_add x) rest = λ _ _. refl
leaves_I (i_arith a b c d e rd rs is_sub x) rest = λ _ _. refl
leaves_I (i_arith a b c d e rd rs is_mul x) rest = λ _ _. refl
leaves_I (i_bnz a b c r x) rest = λ _ _. refl
leaves_I (i_ld a b c d o f e rd rs n) rest = λ _ _. refl
leaves_I (i_malloc_none a b o c rd) rest = λ _ _. refl
leaves_I (i_malloc a b o c rd x) rest = λ _ _. refl
leaves_I (i_mov a b c rd x) rest = λ _ _. refl
leaves_I (i_st a b o f e c d rd rs n) rest = λ _ _. refl
leaves_I (i_unpack a o n b d c e rd x) rest = λ _ _. refl

leaves_End : {w : List Token} {e : RawEnd × Span} → End w e → (rest : List Token) → Leaves LArgs (w ++ rest)
leaves_End (e_jmp a x) rest = λ _ _. refl
leaves_End (e_halt a o i c) rest = λ _ _. refl

ends_steps : {w : List Token} {e : RawEnd × Span} → End w e → (rest : List Token) → Leaves LMoreSteps (w ++ rest)
ends_steps (e_jmp a x) rest = λ _ _. refl
ends_steps (e_halt a o i c) rest = λ _ _. refl

leaves_Block : {w : List Token} {b : RawBlock} → Block w b → (rest : List Token) → Leaves LArgs (w ++ rest)
leaves_Block (b_block l c d p x y z e) rest = λ _ _. refl

leaves_Item : {w : List Token} {x : RawItem} → Item w x → (rest : List Token) → Leaves LArgs (w ++ rest)
leaves_Item (it_block x) rest = leaves_Block x rest
leaves_Item (it_data l c d x) rest = λ _ _. refl

read_Names : {w : List Token} {ns : List Span} (x : Names w ns) (s : Stack) (vs : List Val) (rest : List Token) →
    exec (w ++ rest) (Nt LNames ∷ s) vs
    ≡ seen (open_Names x (marks s))
    (exec rest (Nt LMoreNames ∷ (Tm want.RightBracket ∷ (Do MakeClosedNames ∷ s))) (OfNames ns ∷ vs))
read_Names (ns_one n) s vs rest = next (marks s) (do_now rest MakeFirstName _ _)
read_Names (ns_more {w} {ns} c n x) s vs rest =
    rw (
      append_assoc w (tok k.Comma c ∷ (tok k.Name n ∷ [])) rest,
      seen_append (open_Names x (marks s)) (marks s ∷ (marks s ∷ [])),
    )
    (read_Names x s vs (tok k.Comma c ∷ (tok k.Name n ∷ rest))
    ∙ under (open_Names x (marks s)) (next (marks s) (next (marks s) (do_now rest MakeNextName _ _))))

read_Binds : {w : List Token} {ns : List Span} (x : Binds w ns) (s : Stack) (vs : List Val) (rest : List Token) →
    exec (w ++ rest) (Nt LBinds ∷ s) vs ≡ seen (open_Binds x (marks s)) (exec rest s (OfNames ns ∷ vs))
read_Binds (bs_none o c) s vs rest =
    next (suc (marks s)) (next (suc (marks s)) (do_now rest MakeNoNames _ _ ∙ marked rest MakeBinds s _))
read_Binds (bs_names {w} o c x) s vs rest = next (suc (marks s))
    (rw (
      append_assoc w (tok k.RightBracket c ∷ []) rest,
      seen_append (open_Names x (suc (marks s))) (suc (marks s) ∷ []),
    )
    (read_Names x (Mark ∷ (Do MakeBinds ∷ s)) (OfToken (tok k.LeftBracket o) ∷ vs) (tok k.RightBracket c ∷ rest) ∙
    under (open_Names x (suc (marks s)))
    (next (suc (marks s)) (do_now rest MakeClosedNames _ _ ∙ marked rest MakeBinds s _))))

-- ^ and a flag
read_flag : {n : Kind} {flag : Bool} → IsFlag n flag →
    (h p : Span) (t : Piece RawTy) (s : Stack) (vs : List Val) (rest : List Token) →
    exec (tok k.Caret h ∷ (tok n p ∷ rest)) (fields_tail ++ s) (OfType t ∷ vs) ≡
    Seen (marks s)
    (Seen (marks s)
    (exec rest (Nt LMoreFields ∷ (Tm want.RightAngle ∷ (Do MakeClosedFields ∷ s)))
    (OfFields (record { ty = t.tree; flag = flag } ∷ []) ∷ vs)))
read_flag is_zero h p t s vs rest = next (marks s) (next (marks s) (do_now rest MakeFirstField _ _))
read_flag is_one h p t s vs rest = next (marks s) (next (marks s) (do_now rest MakeFirstField _ _))
read_flag is_minus_zero h p t s vs rest = next (marks s) (next (marks s) (do_now rest MakeFirstField _ _))

read_next_flag : {n : Kind} {flag : Bool} → IsFlag n flag →
    (h p : Span) (t : Piece RawTy) (c : Token) (fs : List RawField) (s : Stack) (vs : List Val) (rest : List Token) →
    exec (tok k.Caret h ∷ (tok n p ∷ rest))
    (Tm want.Caret ∷ (Tm want.Flag ∷ (Do MakeNextField ∷ (Nt LMoreFields ∷ s))))
    (OfType t ∷ (OfToken c ∷ (OfFields fs ∷ vs))) ≡
    Seen (marks s)
    (Seen (marks s)
    (exec rest (Nt LMoreFields ∷ s) (OfFields (fs ++ record { ty = t.tree; flag = flag } ∷ []) ∷ vs)))
read_next_flag is_zero h p t c fs s vs rest = next (marks s) (next (marks s) (do_now rest MakeNextField _ _))
read_next_flag is_one h p t c fs s vs rest = next (marks s) (next (marks s) (do_now rest MakeNextField _ _))
read_next_flag is_minus_zero h p t c fs s vs rest = next (marks s) (next (marks s) (do_now rest MakeNextField _ _))

mutual
  pub read_T : {w : List Token} {t : Piece RawTy} (x : T w t) (s : Stack) (vs : List Val) (rest : List Token) →
      exec (w ++ rest) (Nt LT ∷ s) vs ≡ seen (open_T x (marks s)) (exec rest s (OfType t ∷ vs))
  read_T (t_int p) s vs rest = next (marks s) (do_now rest MakeTypeInt s _)
  read_T (t_name p) s vs rest = next (marks s) (do_now rest MakeTypeName s _)
  read_T (t_code {u} {v} {ns} a x y) s vs rest = next (marks s)
      (rw (append_assoc u v rest, seen_append (open_Binds x (marks s)) (open_File y (marks s)))
      (read_Binds x (Nt LFile ∷ (Do MakeTypeCode ∷ s)) (OfToken (tok k.All a) ∷ vs) (v ++ rest)
      ∙ under (open_Binds x (marks s))
      (read_File y (Do MakeTypeCode ∷ s) (OfNames ns ∷ (OfToken (tok k.All a) ∷ vs)) rest
      ∙ under (open_File y (marks s)) (do_now rest MakeTypeCode s _))))
  read_T (t_some p n d x) s vs rest = next (suc (marks s)) (next (suc (marks s)) (next (suc (marks s))
      (read_T x (Mark ∷ (Do MakeTypeSome ∷ s))
      (OfToken (tok k.Dot d) ∷ (OfToken (tok k.Name n) ∷ (OfToken (tok k.Some p) ∷ vs))) rest
      ∙ under (open_T x (suc (marks s))) (marked rest MakeTypeSome s _))))
  read_T (t_unit o c) s vs rest =
      next (suc (marks s)) (next (suc (marks s)) (do_now rest MakeNoFields _ _ ∙ marked rest MakeTypeTuple s _))
  read_T (t_tuple {w} o c x) s vs rest = next (suc (marks s))
      (rw (append_assoc w (tok k.RightAngle c ∷ []) rest, seen_append (open_Fs x (suc (marks s))) (suc (marks s) ∷ []))
      (fields_as_type (more LT (tok k.RightAngle c ∷ rest) (first_Fs x)) (Mark ∷ (Do MakeTypeTuple ∷ s))
      (OfToken (tok k.LeftAngle o) ∷ vs) ∙
      (read_Fs x (Mark ∷ (Do MakeTypeTuple ∷ s)) (OfToken (tok k.LeftAngle o) ∷ vs) (tok k.RightAngle c ∷ rest) ∙
      under (open_Fs x (suc (marks s)))
      (next (suc (marks s)) (do_now rest MakeClosedFields _ _ ∙ marked rest MakeTypeTuple s _)))))

  pub read_File : {w : List Token} {t : Piece RawRegs} (x : File w t) (s : Stack) (vs : List Val) (rest : List Token) →
      exec (w ++ rest) (Nt LFile ∷ s) vs ≡ seen (open_File x (marks s)) (exec rest s (OfFile t ∷ vs))
  read_File (f_none o c) s vs rest =
      next (suc (marks s)) (next (suc (marks s)) (do_now rest MakeNoRegs _ _ ∙ marked rest MakeFile s _))
  read_File (f_regs {w} o c x) s vs rest = next (suc (marks s))
      (rw (append_assoc w (tok k.RightBrace c ∷ []) rest, seen_append (open_Rs x (suc (marks s))) (suc (marks s) ∷ []))
      (read_Rs x (Mark ∷ (Do MakeFile ∷ s)) (OfToken (tok k.LeftBrace o) ∷ vs) (tok k.RightBrace c ∷ rest) ∙
      under (open_Rs x (suc (marks s)))
      (next (suc (marks s)) (do_now rest MakeClosedRegs _ _ ∙ marked rest MakeFile s _))))

  pub read_Rs : {w : List Token} {rs : List RawReg} (x : Rs w rs) (s : Stack) (vs : List Val) (rest : List Token) →
      exec (w ++ rest) (Nt LRegs ∷ s) vs
      ≡ seen (open_Rs x (marks s))
      (exec rest (Nt LMoreRegs ∷ (Tm want.RightBrace ∷ (Do MakeClosedRegs ∷ s))) (OfRegs rs ∷ vs))
  read_Rs (rs_one r p c x) s vs rest = next (marks s) (next (marks s)
      (read_T x (Do MakeFirstReg ∷ (Nt LMoreRegs ∷ (Tm want.RightBrace ∷ (Do MakeClosedRegs ∷ s))))
      (OfToken (tok k.Colon c) ∷ (OfToken (tok (k.Register r) p) ∷ vs)) rest ∙
      under (open_T x (marks s)) (do_now rest MakeFirstReg _ _)))
  read_Rs (rs_more {u} {v} {rs} c r p d x y) s vs rest =
      rw (
        append_assoc u (tok k.Comma c ∷ (tok (k.Register r) p ∷ (tok k.Colon d ∷ v))) rest,
        seen_append (open_Rs x (marks s)) (marks s ∷ (marks s ∷ (marks s ∷ open_T y (marks s)))),
      )
      (read_Rs x s vs (tok k.Comma c ∷ (tok (k.Register r) p ∷ (tok k.Colon d ∷ (v ++ rest))))
      ∙ under (open_Rs x (marks s)) (next (marks s) (next (marks s) (next (marks s)
      (read_T y (Do MakeNextReg ∷ (Nt LMoreRegs ∷ (Tm want.RightBrace ∷ (Do MakeClosedRegs ∷ s))))
      (OfToken (tok k.Colon d) ∷ (OfToken (tok (k.Register r) p) ∷ (OfToken (tok k.Comma c) ∷ (OfRegs rs ∷ vs))))
      rest ∙
      under (open_T y (marks s)) (do_now rest MakeNextReg _ _))))))

  pub read_Fs : {w : List Token} {fs : List RawField} (x : Fs w fs) (s : Stack) (vs : List Val) (rest : List Token) →
      exec (w ++ rest) (Nt LT ∷ (fields_tail ++ s)) vs
      ≡ seen (open_Fs x (marks s))
      (exec rest (Nt LMoreFields ∷ (Tm want.RightAngle ∷ (Do MakeClosedFields ∷ s))) (OfFields fs ∷ vs))
  read_Fs (fs_one {w} {t} {n} h p x f) s vs rest =
      rw (
        append_assoc w (tok k.Caret h ∷ (tok n p ∷ [])) rest,
        seen_append (open_T x (marks s)) (marks s ∷ (marks s ∷ [])),
      )
      (read_T x (fields_tail ++ s) vs (tok k.Caret h ∷ (tok n p ∷ rest))
      ∙ under (open_T x (marks s)) (read_flag f h p t s vs rest))
  read_Fs (fs_more {u} {v} {fs} {t} {n} c h p x y f) s vs rest =
      rw (
        append_assoc u (tok k.Comma c ∷ (v ++ tok k.Caret h ∷ (tok n p ∷ []))) rest,
        append_assoc v (tok k.Caret h ∷ (tok n p ∷ [])) rest,
        seen_append (open_Fs x (marks s)) (marks s ∷ (open_T y (marks s) ++ marks s ∷ (marks s ∷ []))),
        seen_append (open_T y (marks s)) (marks s ∷ (marks s ∷ [])),
      )
      (read_Fs x s vs (tok k.Comma c ∷ (v ++ tok k.Caret h ∷ (tok n p ∷ rest)))
      ∙ under (open_Fs x (marks s)) (next (marks s)
      (read_T y (Tm want.Caret
      ∷ (Tm want.Flag
      ∷ (Do MakeNextField ∷ (Nt LMoreFields ∷ (Tm want.RightAngle ∷ (Do MakeClosedFields ∷ s))))))
      (OfToken (tok k.Comma c) ∷ (OfFields fs ∷ vs)) (tok k.Caret h ∷ (tok n p ∷ rest)) ∙
      under (open_T y (marks s))
      (read_next_flag f h p t (tok k.Comma c) fs (Tm want.RightAngle ∷ (Do MakeClosedFields ∷ s)) vs rest))))

read_Ts : {w : List Token} {ts : List RawTy} (x : Ts w ts) (s : Stack) (vs : List Val) (rest : List Token) →
    exec (w ++ rest) (Nt LT ∷ (types_tail ++ s)) vs
    ≡ seen (open_Ts x (marks s))
    (exec rest (Nt LMoreTypes ∷ (Tm want.RightBracket ∷ (Do MakeClosedTypes ∷ s))) (OfTypes ts ∷ vs))
read_Ts (ts_one x) s vs rest =
    read_T x (types_tail ++ s) vs rest ∙ under (open_T x (marks s)) (do_now rest MakeFirstType _ _)
read_Ts (ts_more {u} {v} {ts} c x y) s vs rest =
    rw (append_assoc u (tok k.Comma c ∷ v) rest, seen_append (open_Ts x (marks s)) (marks s ∷ open_T y (marks s)))
    (read_Ts x s vs (tok k.Comma c ∷ (v ++ rest)) ∙ under (open_Ts x (marks s)) (next (marks s)
    (read_T y (Do MakeNextType ∷ (Nt LMoreTypes ∷ (Tm want.RightBracket ∷ (Do MakeClosedTypes ∷ s))))
    (OfToken (tok k.Comma c) ∷ (OfTypes ts ∷ vs)) rest
    ∙ under (open_T y (marks s)) (do_now rest MakeNextType _ _))))

-- a base, with type arguments to come
read_base : {b : Token} {base : RawBase} → N b base → (s : Stack) (vs : List Val) (rest : List Token) →
    exec (b ∷ rest) (Nt LV ∷ s) vs
    ≡ Seen (marks s) (exec rest (Nt LArgs ∷ s) (OfValue (ending (RPlain base []) b.span.end) ∷ vs))
read_base (n_reg r p) s vs rest = next (marks s) (do_now rest MakeBase _ _)
read_base (n_plain z p) s vs rest = next (marks s) (do_now rest MakeBase _ _)
read_base (n_negative z p) s vs rest = next (marks s) (do_now rest MakeBase _ _)
read_base (n_label p) s vs rest = next (marks s) (do_now rest MakeBase _ _)

read_V : {w : List Token} {v : Piece RawValue} (x : V w v) (s : Stack) (vs : List Val) (rest : List Token) →
    Leaves LArgs rest →
    exec (w ++ rest) (Nt LV ∷ s) vs ≡ seen (open_V x (marks s)) (exec rest s (OfValue v ∷ vs))
read_V (v_base n) s vs rest g = read_base n s vs rest ∙ next (marks s) (g s _)
read_V (v_apply {b} {base} {w} o c n x) s vs rest g =
    read_base n s vs (tok k.LeftBracket o ∷ ((w ++ tok k.RightBracket c ∷ []) ++ rest))
    ∙ next (marks s) (next (suc (marks s))
    (rw (append_assoc w (tok k.RightBracket c ∷ []) rest, seen_append (open_Ts x (suc (marks s))) (suc (marks s) ∷ []))
    (some_as_type (more LT (tok k.RightBracket c ∷ rest) (first_Ts x)) (Mark ∷ (Do MakeApply ∷ s)) _ ∙
    (read_Ts x (Mark ∷ (Do MakeApply ∷ s)) _ (tok k.RightBracket c ∷ rest) ∙
    under (open_Ts x (suc (marks s)))
    (next (suc (marks s)) (do_now rest MakeClosedTypes _ _ ∙ marked rest MakeApply s _))))))
read_V (v_pack {u} {v} {w} {t} {s = t'} {x = i} p o m c a x y z) s vs rest g =
    let n = marks s in
    let us = OfToken (tok k.LeftBracket o) ∷ (OfToken (tok k.Pack p) ∷ vs) in
    let after_t =
    Tm want.Comma
    ∷ (Nt LV ∷ (Tm want.RightBracket ∷ (Mark ∷ (Do MakePacked ∷ (Tm want.As ∷ (Nt LT ∷ (Do MakePack ∷ s))))))) in
    let after_v = Tm want.RightBracket ∷ (Mark ∷ (Do MakePacked ∷ (Tm want.As ∷ (Nt LT ∷ (Do MakePack ∷ s))))) in
    next n (next (suc n)
    (rw (
      append_assoc u (tok k.Comma m ∷ (v ++ tok k.RightBracket c ∷ (tok k.As a ∷ w))) rest,
      append_assoc v (tok k.RightBracket c ∷ (tok k.As a ∷ w)) rest,
      seen_append (open_T x (suc n)) (suc n ∷ (open_V y (suc n) ++ suc n ∷ (n ∷ open_T z n))),
      seen_append (open_V y (suc n)) (suc n ∷ (n ∷ open_T z n)),
    )
    (read_T x after_t us (tok k.Comma m ∷ (v ++ tok k.RightBracket c ∷ (tok k.As a ∷ (w ++ rest))))
    ∙ under (open_T x (suc n)) (next (suc n)
    (read_V y after_v (OfToken (tok k.Comma m) ∷ (OfType t ∷ us)) (tok k.RightBracket c ∷ (tok k.As a ∷ (w ++ rest)))
    (λ _ _. refl) ∙ under (open_V y (suc n)) (next (suc n) (next n
    (read_T z (Do MakePack ∷ s) _ rest ∙ under (open_T z n) (do_now rest MakePack s _)))))))))

-- an operation, with its operands to come
read_op : {n : Kind} {op : Op} → IsOp n op → (a : Span) (s : Stack) (vs : List Val) (rest : List Token) →
    exec (tok n a ∷ rest) (Nt LI ∷ s) vs
    ≡ Seen (marks s) (exec rest (Nt LTo ∷ (Nt LTo ∷ (Nt LV ∷ (Do (MakeArith op) ∷ s)))) (OfToken (tok n a) ∷ vs))
read_op is_add a s vs rest = refl
read_op is_sub a s vs rest = refl
read_op is_mul a s vs rest = refl

read_I : {w : List Token} {i : RawInstr × Span} (x : I w i) (s : Stack) (vs : List Val) (rest : List Token) →
    Leaves LArgs rest →
    exec (w ++ rest) (Nt LI ∷ s) vs ≡ seen (open_I x (marks s)) (exec rest s (OfStep i ∷ vs))
read_I (i_arith {n} {op} {w} a b c d e rd rs o x) s vs rest g =
    let m = marks s in
    read_op o a s vs
    (tok (k.Register rd) b ∷ (tok k.Comma c ∷ (tok (k.Register rs) d ∷ (tok k.Comma e ∷ (w ++ rest)))))
    ∙ next m (next m (next m (next m (next m
    (do_now (w ++ rest) MakeTo (Nt LV ∷ (Do (MakeArith op) ∷ s)) _
    ∙ (read_V x (Do (MakeArith op) ∷ s) _ rest g ∙ under (open_V x m) (do_now rest (MakeArith op) s _)))))))
read_I (i_bnz {w} a b c r x) s vs rest g =
    let m = marks s in
    next m (next m
    (next m (do_now (w ++ rest) MakeTo (Nt LV ∷ (Do MakeBnz ∷ s)) _
    ∙ (read_V x (Do MakeBnz ∷ s) _ rest g ∙ under (open_V x m) (do_now rest MakeBnz s _)))))
read_I (i_ld a b c d o f e rd rs n) s vs rest g =
    let m = marks s in
    next m (next m
    (next m (next m
    (next (suc m)
    (next (suc m)
    (next (suc m) (marked rest MakeIndex _ _ ∙ (do_now rest MakeAt _ _ ∙ do_now rest MakeLd s _))))))))
read_I (i_malloc_none a b o c rd) s vs rest g =
    let m = marks s in
    next m (next m
    (next (suc m)
    (next (suc m) (do_now rest MakeNoTypes _ _ ∙ (marked rest MakeTypes _ _ ∙ do_now rest MakeMalloc s _)))))
read_I (i_malloc {w} a b o c rd x) s vs rest g =
    let m = marks s in
    next m (next m
    (next (suc m)
    (rw (append_assoc w (tok k.RightBracket c ∷ []) rest, seen_append (open_Ts x (suc m)) (suc m ∷ []))
    (list_as_type (more LT (tok k.RightBracket c ∷ rest) (first_Ts x)) (Mark ∷ (Do MakeTypes ∷ (Do MakeMalloc ∷ s))) _ ∙
    (read_Ts x (Mark ∷ (Do MakeTypes ∷ (Do MakeMalloc ∷ s))) _ (tok k.RightBracket c ∷ rest) ∙
    under (open_Ts x (suc m))
    (next (suc m)
    (do_now rest MakeClosedTypes _ _ ∙ (marked rest MakeTypes _ _ ∙ do_now rest MakeMalloc s _))))))))
read_I (i_mov {w} a b c rd x) s vs rest g =
    let m = marks s in
    next m (next m
    (next m (do_now (w ++ rest) MakeTo (Nt LV ∷ (Do MakeMov ∷ s)) _
    ∙ (read_V x (Do MakeMov ∷ s) _ rest g ∙ under (open_V x m) (do_now rest MakeMov s _)))))
read_I (i_st a b o f e c d rd rs n) s vs rest g =
    let m = marks s in
    next m (next m (next (suc m) (next (suc m) (next (suc m) (next m (next m (do_now rest MakeSt s _)))))))
read_I (i_unpack {w} a o n b d c e rd x) s vs rest g =
    let m = marks s in
    next m (next (suc m)
    (next (suc m)
    (next (suc m)
    (next (suc m)
    (next (suc m)
    (next m (read_V x (Do MakeUnpack ∷ s) _ rest g ∙ under (open_V x m) (do_now rest MakeUnpack s _))))))))

read_Is : {w : List Token} {is : List (RawInstr × Span)} (x : Is w is) (s : Stack) (vs : List Val)
    (rest : List Token) → Leaves LArgs rest →
    exec (w ++ rest) (Nt LMoreSteps ∷ s) (OfSteps [] ∷ vs)
    ≡ seen (open_Is x (marks s)) (exec rest (Nt LMoreSteps ∷ s) (OfSteps is ∷ vs))
read_Is is_none s vs rest g = refl
read_Is (is_more {u} {v} {is} x y) s vs rest g =
    rw (append_assoc u v rest, seen_append (open_Is x (marks s)) (open_I y (marks s)))
    (read_Is x s vs (v ++ rest) (leaves_I y rest) ∙ under (open_Is x (marks s))
    (steps_as_instr (more LI rest (first_I y)) s (OfSteps is ∷ vs) ∙
    (read_I y (steps_tail ++ s) (OfSteps is ∷ vs) rest g
    ∙ under (open_I y (marks s)) (do_now rest MakeNextStep (Nt LMoreSteps ∷ s) _))))

read_End : {w : List Token} {e : RawEnd × Span} (x : End w e) (s : Stack) (vs : List Val) (rest : List Token) →
    Leaves LArgs rest →
    exec (w ++ rest) (Nt LEnd ∷ s) vs ≡ seen (open_End x (marks s)) (exec rest s (OfEnd e ∷ vs))
read_End (e_jmp a x) s vs rest g =
    next (marks s) (read_V x (Do MakeJmp ∷ s) _ rest g ∙ under (open_V x (marks s)) (do_now rest MakeJmp s _))
read_End (e_halt a o i c) s vs rest g =
    let m = marks s in
    next m (next (suc m)
    (next (suc m) (next (suc m) (marked rest MakeInt (Do MakeHalt ∷ s) _ ∙ do_now rest MakeHalt s _))))

-- what follows on the word of a block
read_code : {u v w x : List Token} {ns : List Span} {file : Piece RawRegs} {is : List (RawInstr × Span)}
    {last : RawEnd × Span} (l c d p : Span) (a : Binds u ns) (f : File v file) (i : Is w is) (e : End x last)
    (s : Stack) (vs : List Val) (rest : List Token) → Leaves LArgs rest →
    exec ((u ++ (v ++ tok k.Dot p ∷ (w ++ x))) ++ rest) (code_owed ++ s)
    (OfToken (tok k.Code d) ∷ (OfToken (tok k.Colon c) ∷ (OfToken (tok k.Name l) ∷ vs))) ≡
    seen (open_Binds a (marks s) ++
    (open_File f (marks s) ++ marks s ∷ (open_Is i (marks s) ++ open_End e (marks s))))
    (exec rest s (OfBlock (record { name = l; names = ns; file = file.tree; body = is; last = last }) ∷ vs))
read_code {u} {v} {w} {x} l c d p a f i e s vs rest g =
    let m = marks s in
    let after_is = Nt LEnd ∷ (Do MakeBlock ∷ s) in
    let after_file = Tm want.Dot ∷ (Do MakeNoSteps ∷ (Nt LMoreSteps ∷ after_is)) in
    rw (
      append_assoc u (v ++ tok k.Dot p ∷ (w ++ x)) rest,
      append_assoc v (tok k.Dot p ∷ (w ++ x)) rest,
      append_assoc w x rest,
      seen_append (open_Binds a m) (open_File f m ++ m ∷ (open_Is i m ++ open_End e m)),
      seen_append (open_File f m) (m ∷ (open_Is i m ++ open_End e m)),
      seen_append (open_Is i m) (open_End e m),
    )
    (read_Binds a (Nt LFile ∷ after_file) _ (v ++ tok k.Dot p ∷ (w ++ (x ++ rest))) ∙ under (open_Binds a m)
    (read_File f after_file _ (tok k.Dot p ∷ (w ++ (x ++ rest))) ∙ under (open_File f m) (next m
    (do_now (w ++ (x ++ rest)) MakeNoSteps (Nt LMoreSteps ∷ after_is) _ ∙
    (read_Is i after_is _ (x ++ rest) (leaves_End e rest) ∙ under (open_Is i m)
    (ends_steps e rest after_is _ ∙
    (read_End e (Do MakeBlock ∷ s) _ rest g ∙ under (open_End e m) (do_now rest MakeBlock s _))))))))

read_Block : {w : List Token} {b : RawBlock} (x : Block w b) (s : Stack) (vs : List Val) (rest : List Token) →
    Leaves LArgs rest →
    exec (w ++ rest) (Nt LBlock ∷ s) vs ≡ seen (open_Block x (marks s)) (exec rest s (OfBlock b ∷ vs))
read_Block (b_block l c d p a f i e) s vs rest g =
    next (marks s) (next (marks s) (next (marks s) (read_code l c d p a f i e s vs rest g)))

read_Blocks : {w : List Token} {bs : List RawBlock} (x : Blocks w bs) (s : Stack) (vs : List Val) (rest : List Token) →
    Leaves LArgs rest →
    exec (w ++ rest) (Nt LBlock ∷ (Do MakeFirstBlock ∷ (Nt LMoreBlocks ∷ s))) vs
    ≡ seen (open_Blocks x (marks s)) (exec rest (Nt LMoreBlocks ∷ s) (OfBlocks bs ∷ vs))
read_Blocks (bs_one x) s vs rest g = read_Block x (Do MakeFirstBlock ∷ (Nt LMoreBlocks ∷ s)) vs rest g
    ∙ under (open_Block x (marks s)) (do_now rest MakeFirstBlock _ _)
read_Blocks (bs_more {u} {v} {bs} x y) s vs rest g =
    rw (append_assoc u v rest, seen_append (open_Blocks x (marks s)) (open_Block y (marks s)))
    (read_Blocks x s vs (v ++ rest) (leaves_Block y rest) ∙ under (open_Blocks x (marks s))
    (blocks_as_block (more LBlock rest (first_Block y)) s (OfBlocks bs ∷ vs) ∙
    (read_Block y (blocks_tail ++ s) (OfBlocks bs ∷ vs) rest g
    ∙ under (open_Block y (marks s)) (do_now rest MakeNextBlock (Nt LMoreBlocks ∷ s) _))))

-- the value of a data field, with type arguments to come
read_word : {b : Token} {base : RawBase} → Q b base → (s : Stack) (vs : List Val) (rest : List Token) →
    exec (b ∷ rest) (Nt LW ∷ s) vs ≡
    Seen (marks s) (exec rest (Nt LWordArgs ∷ s) (OfWord (RPlain base [], b.span) ∷ vs))
read_word (q_plain z p) s vs rest = next (marks s) (do_now rest MakeWord _ _)
read_word (q_negative z p) s vs rest = next (marks s) (do_now rest MakeWord _ _)
read_word (q_label p) s vs rest = next (marks s) (do_now rest MakeWord _ _)

read_W : {w : List Token} {v : RawValue × Span} (x : W w v) (s : Stack) (vs : List Val) (rest : List Token) →
    Leaves LWordArgs rest → exec (w ++ rest) (Nt LW ∷ s) vs ≡ seen (open_W x (marks s)) (exec rest s (OfWord v ∷ vs))
read_W (w_base n) s vs rest g = read_word n s vs rest ∙ next (marks s) (g s _)
read_W (w_apply {b} {base} {w} o c n x) s vs rest g =
    let m = marks s in
    read_word n s vs (tok k.LeftBracket o ∷ ((w ++ tok k.RightBracket c ∷ []) ++ rest)) ∙ next m (next (suc m)
    (rw (append_assoc w (tok k.RightBracket c ∷ []) rest, seen_append (open_Ts x (suc m)) (suc m ∷ []))
    (some_as_type (more LT (tok k.RightBracket c ∷ rest) (first_Ts x)) (Mark ∷ (Do MakeWordApply ∷ s)) _ ∙
    (read_Ts x (Mark ∷ (Do MakeWordApply ∷ s)) _ (tok k.RightBracket c ∷ rest) ∙ under (open_Ts x (suc m))
    (next (suc m) (do_now rest MakeClosedTypes _ _ ∙ marked rest MakeWordApply s _))))))
read_W (w_pack {u} {v} {w} {t} {s = t'} {x = i} p o m c a x y z) s vs rest g =
    let n = marks s in
    let us = OfToken (tok k.LeftBracket o) ∷ (OfToken (tok k.Pack p) ∷ vs) in
    let outside = Tm want.As ∷ (Nt LT ∷ (Do MakeWordPack ∷ s)) in
    let after_v = Tm want.RightBracket ∷ (Mark ∷ (Do MakeWordPacked ∷ outside)) in
    let after_t = Tm want.Comma ∷ (Nt LW ∷ after_v) in
    next n (next (suc n)
    (rw (
      append_assoc u (tok k.Comma m ∷ (v ++ tok k.RightBracket c ∷ (tok k.As a ∷ w))) rest,
      append_assoc v (tok k.RightBracket c ∷ (tok k.As a ∷ w)) rest,
      seen_append (open_T x (suc n)) (suc n ∷ (open_W y (suc n) ++ suc n ∷ (n ∷ open_T z n))),
      seen_append (open_W y (suc n)) (suc n ∷ (n ∷ open_T z n)),
    )
    (read_T x after_t us (tok k.Comma m ∷ (v ++ tok k.RightBracket c ∷ (tok k.As a ∷ (w ++ rest)))) ∙
    under (open_T x (suc n)) (next (suc n)
    (read_W y after_v (OfToken (tok k.Comma m) ∷ (OfType t ∷ us))
    (tok k.RightBracket c ∷ (tok k.As a ∷ (w ++ rest))) (λ _ _. refl) ∙
    under (open_W y (suc n)) (next (suc n) (next n
    (read_T z (Do MakeWordPack ∷ s) _ rest ∙ under (open_T z n) (do_now rest MakeWordPack s _)))))))))

-- fields, with more to come
abbrev datums_left : Stack → Stack
datums_left s = Nt LMoreDatums ∷ (Tm want.RightAngle ∷ (Do MakeClosedDatums ∷ s))

read_Ds : {w : List Token} {xs : List RawDatum} (x : Ds w xs) (s : Stack) (vs : List Val) (rest : List Token) →
    exec (w ++ rest) (Nt LW ∷ (datums_tail ++ s)) vs ≡
    seen (open_Ds x (marks s)) (exec rest (datums_left s) (OfDatums xs ∷ vs))
read_Ds (ds_one {u} {v} {x = i} c x y) s vs rest =
    let m = marks s in
    rw (append_assoc u (tok k.Colon c ∷ v) rest, seen_append (open_W x m) (m ∷ open_T y m))
    (read_W x (datums_tail ++ s) vs (tok k.Colon c ∷ (v ++ rest)) (λ _ _. refl) ∙ under (open_W x m) (next m
    (read_T y (Do MakeFirstDatum ∷ datums_left s) (OfToken (tok k.Colon c) ∷ (OfWord i ∷ vs)) rest ∙
    under (open_T y m) (do_now rest MakeFirstDatum _ _))))
read_Ds (ds_more {u} {v} {w} {xs} {x = i} q c x y z) s vs rest =
    let m = marks s in
    let us = OfToken (tok k.Comma q) ∷ (OfDatums xs ∷ vs) in
    let after_t = Do MakeNextDatum ∷ datums_left s in
    rw (
      append_assoc u (tok k.Comma q ∷ (v ++ tok k.Colon c ∷ w)) rest,
      append_assoc v (tok k.Colon c ∷ w) rest,
      seen_append (open_Ds x m) (m ∷ (open_W y m ++ m ∷ open_T z m)),
      seen_append (open_W y m) (m ∷ open_T z m),
    )
    (read_Ds x s vs (tok k.Comma q ∷ (v ++ tok k.Colon c ∷ (w ++ rest))) ∙ under (open_Ds x m) (next m
    (read_W y (Tm want.Colon ∷ (Nt LT ∷ after_t)) us (tok k.Colon c ∷ (w ++ rest)) (λ _ _. refl) ∙
    under (open_W y m) (next m
    (read_T z after_t (OfToken (tok k.Colon c) ∷ (OfWord i ∷ us)) rest ∙
    under (open_T z m) (do_now rest MakeNextDatum _ _))))))

read_Tuple : {w : List Token} {xs : List RawDatum} (x : Tuple w xs) (s : Stack) (vs : List Val) (rest : List Token) →
    exec (w ++ rest) (Nt LTuple ∷ s) vs ≡ seen (open_Tuple x (marks s)) (exec rest s (OfTuple xs ∷ vs))
read_Tuple (tu_none o c) s vs rest =
    let m = suc (marks s) in next m (next m (do_now rest MakeNoDatums _ _ ∙ marked rest MakeTuple s _))
read_Tuple (tu_fields {w} o c x) s vs rest =
    let m = suc (marks s) in
    let after = Mark ∷ (Do MakeTuple ∷ s) in
    next m (rw (append_assoc w (tok k.RightAngle c ∷ []) rest, seen_append (open_Ds x m) (m ∷ []))
    (datums_as_word (more LW (tok k.RightAngle c ∷ rest) (first_Ds x)) after (OfToken (tok k.LeftAngle o) ∷ vs) ∙
    (read_Ds x after (OfToken (tok k.LeftAngle o) ∷ vs) (tok k.RightAngle c ∷ rest) ∙
    under (open_Ds x m) (next m (do_now rest MakeClosedDatums _ _ ∙ marked rest MakeTuple s _)))))

-- the line of the items to come, where a block stood before or not
abbrev pub items_line : Bool → Line
items_line true = LMoreItems
items_line false = LSomeItems

abbrev pub is_block : RawItem → Bool
is_block (BlockItem b) = true
is_block (DataItem x) = false

abbrev pub any_block : List RawItem → Bool
any_block [] = false
any_block (x ∷ xs) = is_block x || any_block xs

any_block-append : (xs : List RawItem) (x : RawItem) → any_block (xs ++ x ∷ []) ≡ (any_block xs || is_block x)
any_block-append [] (BlockItem b) = refl
any_block-append [] (DataItem x) = refl
any_block-append (BlockItem b ∷ xs) x = refl
any_block-append (DataItem y ∷ xs) x = any_block-append xs x

has_block : (xs : List RawItem) → HasBlock xs → any_block xs ≡ true
has_block [] h = absurd (omega arith)
has_block (BlockItem b ∷ xs) h = refl
has_block (DataItem x ∷ xs) h = has_block xs h

read_next : (any : Bool) {w : List Token} {x : RawItem} (i : Item w x) (xs : List RawItem) (s : Stack) (vs : List Val)
    (rest : List Token) → Leaves LArgs rest →
    exec (w ++ rest) (Nt (items_line any) ∷ s) (OfItems xs ∷ vs) ≡
    seen (open_Item i (marks s)) (exec rest (Nt (items_line (any || is_block x)) ∷ s) (OfItems (xs ++ x ∷ []) ∷ vs))
read_next true (it_block (b_block l c d p a f i e)) xs s vs rest g =
    let m = marks s in
    next m (next m (next m
    (read_code l c d p a f i e (Do MakeBlockItem ∷ (items_tail ++ s)) (OfItems xs ∷ vs) rest g ∙
    under (open_Binds a m ++ (open_File f m ++ m ∷ (open_Is i m ++ open_End e m)))
    (do_now rest MakeBlockItem (items_tail ++ s) _ ∙ do_now rest MakeNextItem (Nt LMoreItems ∷ s) _))))
read_next false (it_block (b_block l c d p a f i e)) xs s vs rest g =
    let m = marks s in
    next m (next m (next m
    (read_code l c d p a f i e (Do MakeBlockItem ∷ (items_tail ++ s)) (OfItems xs ∷ vs) rest g ∙
    under (open_Binds a m ++ (open_File f m ++ m ∷ (open_Is i m ++ open_End e m)))
    (do_now rest MakeBlockItem (items_tail ++ s) _ ∙ do_now rest MakeNextItem (Nt LMoreItems ∷ s) _))))
read_next true (it_data l c d x) xs s vs rest g =
    let m = marks s in
    next m (next m (next m (read_Tuple x (Do MakeDataItem ∷ (items_tail ++ s)) _ rest ∙ under (open_Tuple x m)
    (do_now rest MakeDataItem (items_tail ++ s) _ ∙ do_now rest MakeNextItem (Nt LMoreItems ∷ s) _))))
read_next false (it_data l c d x) xs s vs rest g =
    let m = marks s in
    let after = Do MakeNextItem ∷ (Nt LSomeItems ∷ s) in
    next m (next m (next m (read_Tuple x (Do MakeDataItem ∷ after) _ rest ∙ under (open_Tuple x m)
    (do_now rest MakeDataItem after _ ∙ do_now rest MakeNextItem (Nt LSomeItems ∷ s) _))))

read_Items : {w : List Token} {xs : List RawItem} (x : Items w xs) (s : Stack) (vs : List Val) (rest : List Token) →
    Leaves LArgs rest →
    exec (w ++ rest) (Nt LSomeItems ∷ s) (OfItems [] ∷ vs) ≡
    seen (open_Items x (marks s)) (exec rest (Nt (items_line (any_block xs)) ∷ s) (OfItems xs ∷ vs))
read_Items its_none s vs rest g = refl
read_Items (its_more {u} {v} {xs} {x = i} x y) s vs rest g =
    let m = marks s in
    rw (append_assoc u v rest, seen_append (open_Items x m) (open_Item y m), any_block-append xs i)
    (read_Items x s vs (v ++ rest) (leaves_Item y rest) ∙ under (open_Items x m)
    (read_next (any_block xs) y xs s vs rest g))

pub read_shape : {w : List Token} {xs : List RawItem} (e : Program w xs) →
    exec w (Nt LProgram ∷ []) [] ≡ seen (open_Program e 0) (Done (OfItems xs ∷ []))
read_shape (p_blocks {w} {bs} t n x) =
    let s = Do MakeHeaded ∷ (Do MakeProgram ∷ []) in
    let h : exec (w ++ []) (Nt LBlock ∷ (Do MakeFirstBlock ∷ (Nt LMoreBlocks ∷ s)))
    (OfToken (tok (k.Plain (pos 1)) n) ∷ (OfToken (tok k.Tal t) ∷ [])) ≡
    seen (open_Blocks x 0) (Done (OfItems (block_items bs) ∷ [])) = read_Blocks x s _ [] (λ _ _. refl) in
    next 0 (next 0 (rw append-nil at h))
read_shape (p_items {w} {xs} t n x b) =
    let s = Do MakeHeaded ∷ (Do MakeProgram ∷ []) in
    let vs = OfToken (tok (k.Plain (pos 2)) n) ∷ (OfToken (tok k.Tal t) ∷ []) in
    let h : exec (w ++ []) (Nt LSomeItems ∷ s) (OfItems [] ∷ vs) ≡
    seen (open_Items x 0) (exec [] (Nt (items_line (any_block xs)) ∷ s) (OfItems xs ∷ vs)) =
    read_Items x s vs [] (λ _ _. refl) in
    let ends : exec [] (Nt (items_line (any_block xs)) ∷ s) (OfItems xs ∷ vs) ≡ Done (OfItems xs ∷ []) =
    rw (has_block xs b) refl in
    next 0 (next 0 (do_now w MakeNoItems (Nt LSomeItems ∷ s) vs ∙ ((rw append-nil at h) ∙ under (open_Items x 0) ends)))
