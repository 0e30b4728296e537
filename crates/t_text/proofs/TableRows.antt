-- What is read stands in the grammar: one row for each production.
use Rattle.std.proofs.Common.{ℤ, pos, negsuc, ◌+◌, ◌==◌, ◌≡◌, ℕ, List, [], ◌∷◌, ◌++◌, length}
use Rattle.std.proofs.Common.{if◌then◌else◌, refl, sym, ◌∙◌, ap, subst, append_assoc, Option, Some, None, Bool, true}
use Rattle.std.proofs.Common.{false, arith}
use Rattle.std.proofs.lemmas.List.{append-nil, length-append}
use Rattle.std.proofs.lemmas.Bool.{eqb-true}
use Rattle.idx_core.specs.declared.span.Span.{Span}
use Rattle.idx_core.specs.declared.arith.Op.{Op}
use Rattle.idx_core.specs.declared.arith.Op.TheVariants.{Add, Sub, Mul}
use Rattle.t_text.specs.declared.token.Kind.{Kind}
use Rattle.t_text.specs.declared.token.Kind.TheVariants as k
use Rattle.t_text.specs.declared.token.Token.{Token}
use Rattle.t_text.specs.declared.wanted.Wanted.TheVariants as want
use Rattle.t_text.specs.Raw.{RawTy, RawField, RawBase, RawValue}
use Rattle.t_text.specs.Raw.{RPlain, RawBlock, RawItem, BlockItem, DataItem, blocks_in}
use Rattle.t_text.specs.Raw.{Piece, ending}
use Rattle.t_text.specs.Grammar.{tok, Names, ns_one, ns_more, bs_none, bs_names}
use Rattle.t_text.specs.Grammar.{t_int, t_name, t_code, t_some, t_unit, t_tuple, f_none}
use Rattle.t_text.specs.Grammar.{f_regs, Rs, rs_one, rs_more, Fs, fs_one, fs_more, Ts, ts_one, ts_more, N, n_reg}
use Rattle.t_text.specs.Grammar.{n_plain, n_negative, n_label, V, v_base, v_apply, v_pack, IsOp, is_add, is_sub}
use Rattle.t_text.specs.Grammar.{is_mul, i_arith, i_bnz, i_ld, i_malloc_none, i_malloc, i_mov, i_st, i_unpack, Is}
use Rattle.t_text.specs.Grammar.{is_none, is_more, e_jmp, e_halt, Block, b_block, Blocks, bs_one, bs_more, Q}
use Rattle.t_text.specs.Grammar.{q_plain, q_negative, q_label, W, w_base, w_apply, w_pack, datum, Ds, ds_one, ds_more}
use Rattle.t_text.specs.Grammar.{tu_none, tu_fields, it_block, it_data, its_none, its_more}
use Rattle.t_text.specs.Grammar.{HasBlock, p_blocks, p_items}
use Rattle.t_text.proofs.ItemLaws.{blocks_in-append}
use Rattle.text_core.specs.Table.{Tm, Nt, Do, Mark, then_more}
use Rattle.text_core.proofs.Rules as rules
use Rattle.text_core.proofs.Rules.{m_tm, m_nt, m_do, m_mark, Row, Made}
use Rattle.t_text.specs.GrammarTable.{table, Line, LProgram, LBlock, LMoreBlocks, LBinds, LNames, LMoreNames, LFile}
use Rattle.t_text.specs.GrammarTable.{LRegs, LMoreRegs, LT, LFields, LMoreFields, LTypes, LTypeList, LSomeTypes}
use Rattle.t_text.specs.GrammarTable.{LMoreTypes, LV, LArgs, LPacked, LTo, LAt, LIndex, LTarget, LInt, LI, LMoreSteps}
use Rattle.t_text.specs.GrammarTable.{LEnd, LHeader, LSomeItems, LFirst, LMoreItems, LItem, LTuple, LDatums}
use Rattle.t_text.specs.GrammarTable.{LMoreDatums, LW, LWordArgs, LWordPacked, MakeNoNames, MakeFirstName}
use Rattle.t_text.specs.GrammarTable.{MakeNextName, MakeClosedNames, MakeBinds, MakeNoRegs, MakeFirstReg, MakeNextReg}
use Rattle.t_text.specs.GrammarTable.{MakeClosedRegs, MakeFile, MakeTypeInt, MakeTypeName, MakeTypeCode, MakeTypeSome}
use Rattle.t_text.specs.GrammarTable.{MakeNoFields, MakeNextField, MakeClosedFields, MakeTypeTuple, MakeNoTypes}
use Rattle.t_text.specs.GrammarTable.{MakeNextType, MakeClosedTypes, MakeTypes, MakeBase, MakeApply, MakePacked}
use Rattle.t_text.specs.GrammarTable.{MakePack, MakeTo, MakeIndex, MakeAt, MakeTarget, MakeInt, MakeBnz, MakeLd}
use Rattle.t_text.specs.GrammarTable.{MakeMalloc, MakeMov, MakeSt, MakeUnpack, MakeNextStep, MakeJmp, MakeHalt}
use Rattle.t_text.specs.GrammarTable.{MakeBlock, MakeNextBlock, MakeWord, MakeWordApply, MakeWordPacked, MakeWordPack}
use Rattle.t_text.specs.GrammarTable.{MakeNoDatums, MakeNextDatum, MakeClosedDatums, MakeTuple, MakeBlockItem}
use Rattle.t_text.specs.GrammarTable.{MakeDataItem, MakeNextItem, MakeHeaded, MakeProgram, Stack, Val, OfToken}
use Rattle.t_text.specs.GrammarTable.{OfNames, OfType, OfFile, OfFields, OfList, OfValue}
use Rattle.t_text.specs.GrammarTable.{OfStep, OfSteps, OfEnd, OfBlock}
use Rattle.t_text.specs.GrammarTable.{OfWord, OfTuple, OfItem, OfItems}
use Rattle.t_text.specs.GrammarTable.{applied, word_applied, act, after, may_end, type_after}
use Rattle.t_text.specs.GrammarTable.{fields_tail, fields_after, types_tail, some_types_after, type_list_after}
use Rattle.t_text.specs.GrammarTable.{base_owed, value_after, arith_owed, instr_after, steps_tail, steps_after}
use Rattle.t_text.specs.GrammarTable.{code_owed, block_owed, data_owed, blocks_tail, word_owed, word_after}
use Rattle.t_text.specs.GrammarTable.{datums_tail, datums_after, items_tail, blocks_owed, items_owed, headed}
use Rattle.t_text.proofs.TableLines.{of_name, of_register, of_number, of_flag, of_right_bracket, of_right_brace}
use Rattle.t_text.proofs.TableLines.{of_right_angle, of_comma, of_dot, of_colon, of_caret, of_code, of_as, of_int}
use Rattle.t_text.proofs.TableLines.{flag_is, Bare, bare, BareWord, bare_word, SomeItems, blocks, block, items}
use Rattle.t_text.proofs.TableLines.{datums, names, registers, fields, types, steps, labelled, over_label, Sem}
use Rattle.t_text.proofs.TableLines.{sem_program, sem_header, sem_some_items, sem_first, sem_more_items, sem_item}
use Rattle.t_text.proofs.TableLines.{sem_tuple, sem_no_datums, sem_datums, sem_datum_commas, sem_W, sem_word_args}
use Rattle.t_text.proofs.TableLines.{sem_word_packed, sem_block, sem_blocks, sem_binds, sem_no_names, sem_names}
use Rattle.t_text.proofs.TableLines.{sem_name_commas, sem_file, sem_no_regs, sem_regs, sem_reg_commas, sem_T}
use Rattle.t_text.proofs.TableLines.{sem_no_fields, sem_fields, sem_field_commas, sem_no_list, sem_list, sem_no_types}
use Rattle.t_text.proofs.TableLines.{sem_type_list, sem_some_types, sem_type_commas, sem_V, sem_args, sem_packed}
use Rattle.t_text.proofs.TableLines.{sem_to, sem_at, sem_index, sem_target, sem_int, sem_I, sem_steps, sem_End}
use Rattle.t_text.proofs.TableLines.{meaning, Meets, along, with_values, Begun}

-- names
row_binds : (o : Span) → Begun LBinds k.LeftBracket (Nt LNames ∷ (Mark ∷ (Do MakeBinds ∷ []))) o
row_binds o s vs r _ (m_nt (sem_no_names c) (m_mark (m_do m))) = m_nt (sem_binds (bs_none o c)) m
row_binds o s vs r _ (m_nt (sem_names c d) (m_mark (m_do m))) = m_nt (sem_binds (bs_names o c d)) m

row_no_names : (o : Span) → Begun LNames k.RightBracket (Do MakeNoNames ∷ []) o
row_no_names o s vs r w (m_do m) = m_nt (sem_no_names o) m

row_names : (o : Span) →
    Begun LNames k.Name (Do MakeFirstName ∷ (Nt LMoreNames ∷ (Tm want.RightBracket ∷ (Do MakeClosedNames ∷ [])))) o
row_names o s vs r _ (m_do (m_nt (sem_name_commas f) (m_tm (of_right_bracket c) (m_do m)))) =
    let h = f _ _ vs refl (ns_one o) in along (m_nt (sem_names c h.whole) (with_values h.is m)) (simp append_assoc)

row_name_comma : (o : Span) → Begun LMoreNames k.Comma (Tm want.Name ∷ (Do MakeNextName ∷ (Nt LMoreNames ∷ []))) o
row_name_comma o s vs r _ (m_tm (of_name n) (m_do (m_nt {u = v} (sem_name_commas f) m))) =
    m_nt {u = tok k.Comma o ∷ (tok k.Name n ∷ v)} (sem_name_commas (λ x a below q h.
    rules.moved table names Names
    (f _ _ below
    (ap (λ (l : List Val). act MakeNextName (OfToken (tok k.Name n) ∷ (OfToken (tok k.Comma o) ∷ l))) q)
    (ns_more o n h)) (simp append_assoc))) m

-- files
row_file : (o : Span) → Begun LFile k.LeftBrace (Nt LRegs ∷ (Mark ∷ (Do MakeFile ∷ []))) o
row_file o s vs r _ (m_nt (sem_no_regs c) (m_mark (m_do m))) = m_nt (sem_file (f_none o c)) m
row_file o s vs r _ (m_nt (sem_regs c d) (m_mark (m_do m))) = m_nt (sem_file (f_regs o c d)) m

row_no_regs : (o : Span) → Begun LRegs k.RightBrace (Do MakeNoRegs ∷ []) o
row_no_regs o s vs r w (m_do m) = m_nt (sem_no_regs o) m

row_regs : (n : ℕ) (o : Span) →
    Begun LRegs (k.Register n)
    (Tm want.Colon ∷ (Nt LT ∷ (Do MakeFirstReg ∷ (Nt LMoreRegs ∷ (Tm want.RightBrace ∷ (Do MakeClosedRegs ∷ [])))))) o
row_regs n o s vs r _
    (m_tm (of_colon c) (m_nt (sem_T d) (m_do (m_nt (sem_reg_commas f) (m_tm (of_right_brace e) (m_do m)))))) =
    let h = f _ _ vs refl (rs_one n o c d) in
    along (m_nt (sem_regs e h.whole)
    (with_values (ap (λ (l : List Val). act MakeClosedRegs (OfToken (tok k.RightBrace e) ∷ l)) h.is) m))
    (simp append_assoc)

row_reg_comma : (o : Span) →
    Begun LMoreRegs k.Comma (Tm want.Register ∷ (Tm want.Colon ∷ (Nt LT ∷ (Do MakeNextReg ∷ (Nt LMoreRegs ∷ []))))) o
row_reg_comma o s vs r _
    (m_tm (of_register n p) (m_tm (of_colon c) (m_nt {u} (sem_T {t} d) (m_do (m_nt {u = v} (sem_reg_commas f) m))))) =
    along (m_nt {u = tok k.Comma o ∷ (tok (k.Register n) p ∷ (tok k.Colon c ∷ (u ++ v)))}
    (sem_reg_commas (λ x a below q h.
    rules.moved table registers Rs
    (f _ _ below
    (ap (λ (l : List Val).
    act MakeNextReg
    (OfType t ∷ (OfToken (tok k.Colon c) ∷ (OfToken (tok (k.Register n) p) ∷ (OfToken (tok k.Comma o) ∷ l)))))
    q) (rs_more o n p c h d)) (simp append_assoc))) m) (simp append_assoc)

-- types
row_int : (o : Span) → Begun LT k.Int (Do MakeTypeInt ∷ []) o
row_int o s vs r w (m_do m) = m_nt (sem_T (t_int o)) m

row_type_name : (o : Span) → Begun LT k.Name (Do MakeTypeName ∷ []) o
row_type_name o s vs r w (m_do m) = m_nt (sem_T (t_name o)) m

row_type_code : (o : Span) → Begun LT k.All (Nt LBinds ∷ (Nt LFile ∷ (Do MakeTypeCode ∷ []))) o
row_type_code o s vs r _ (m_nt (sem_binds d) (m_nt (sem_file e) (m_do m))) =
    along (m_nt (sem_T (t_code o d e)) m) (simp append_assoc)

row_type_some : (o : Span) →
    Begun LT k.Some (Tm want.Name ∷ (Tm want.Dot ∷ (Nt LT ∷ (Mark ∷ (Do MakeTypeSome ∷ []))))) o
row_type_some o s vs r _ (m_tm (of_name n) (m_tm (of_dot d) (m_nt (sem_T t) (m_mark (m_do m))))) =
    m_nt (sem_T (t_some o n d t)) m

row_type_tuple : (o : Span) → Begun LT k.LeftAngle (Nt LFields ∷ (Mark ∷ (Do MakeTypeTuple ∷ []))) o
row_type_tuple o s vs r _ (m_nt (sem_no_fields c) (m_mark (m_do m))) = m_nt (sem_T (t_unit o c)) m
row_type_tuple o s vs r _ (m_nt (sem_fields c d) (m_mark (m_do m))) = m_nt (sem_T (t_tuple o c d)) m

row_no_fields : (o : Span) → Begun LFields k.RightAngle (Do MakeNoFields ∷ []) o
row_no_fields o s vs r w (m_do m) = m_nt (sem_no_fields o) m

row_fields : (s : Stack) (vs r : List Val) (w : List Token) → Meets (Nt LT ∷ (fields_tail ++ s)) vs w r →
    Meets (Nt LFields ∷ s) vs w r
row_fields s vs r _
    (m_nt (sem_T {t} d)
    (m_tm (of_caret c)
    (m_tm (of_flag {n} {flag} p g) (m_do (m_nt (sem_field_commas f) (m_tm (of_right_angle e) (m_do m))))))) =
    let x : RawField = record { ty = t.tree; flag = flag } in
    let h = f _ (x ∷ []) vs (ap (λ (b : Bool). OfFields (record { ty = t.tree; flag = b } ∷ []) ∷ vs) (flag_is g))
    (fs_one c p d g) in
    along (m_nt (sem_fields e h.whole)
    (with_values (ap (λ (l : List Val). act MakeClosedFields (OfToken (tok k.RightAngle e) ∷ l)) h.is) m))
    (simp append_assoc)

row_field_comma : (o : Span) →
    Begun LMoreFields k.Comma (Nt LT ∷ (Tm want.Caret ∷ (Tm want.Flag ∷ (Do MakeNextField ∷ (Nt LMoreFields ∷ []))))) o
row_field_comma o s vs r _
    (m_nt {u} (sem_T {t} d)
    (m_tm (of_caret c) (m_tm (of_flag {n} {flag} p g) (m_do (m_nt {u = v} (sem_field_commas f) m))))) =
    along (m_nt {u = tok k.Comma o ∷ (u ++ tok k.Caret c ∷ (tok n p ∷ v))} (sem_field_commas (λ x a below q h.
    rules.moved table fields Fs
    (f _ _ below
    (ap (λ (l : List Val).
    act MakeNextField
    (OfToken (tok n p) ∷ (OfToken (tok k.Caret c) ∷ (OfType t ∷ (OfToken (tok k.Comma o) ∷ l))))) q ∙
    ap (λ (b : Bool). OfFields (a ++ record { ty = t.tree; flag = b } ∷ []) ∷ below) (flag_is g))
    (fs_more o c p h d g)) (simp append_assoc))) m) (simp append_assoc)

-- lists of types
row_list : (o : Span) → Begun LTypes k.LeftBracket (Nt LTypeList ∷ (Mark ∷ (Do MakeTypes ∷ []))) o
row_list o s vs r _ (m_nt (sem_no_types c) (m_mark (m_do m))) = m_nt (sem_no_list o c) m
row_list o s vs r _ (m_nt (sem_type_list c d) (m_mark (m_do m))) = m_nt (sem_list o c d) m

row_no_types : (o : Span) → Begun LTypeList k.RightBracket (Do MakeNoTypes ∷ []) o
row_no_types o s vs r w (m_do m) = m_nt (sem_no_types o) m

row_type_list : (s : Stack) (vs r : List Val) (w : List Token) → Meets (Nt LT ∷ (types_tail ++ s)) vs w r →
    Meets (Nt LTypeList ∷ s) vs w r
row_type_list s vs r _ (m_nt (sem_T d) (m_do (m_nt (sem_type_commas f) (m_tm (of_right_bracket c) (m_do m))))) =
    let h = f _ _ vs refl (ts_one d) in
    along (m_nt (sem_type_list c h.whole)
    (with_values (ap (λ (l : List Val). act MakeClosedTypes (OfToken (tok k.RightBracket c) ∷ l)) h.is) m))
    (simp append_assoc)

row_some_types : (s : Stack) (vs r : List Val) (w : List Token) → Meets (Nt LT ∷ (types_tail ++ s)) vs w r →
    Meets (Nt LSomeTypes ∷ s) vs w r
row_some_types s vs r _ (m_nt (sem_T d) (m_do (m_nt (sem_type_commas f) (m_tm (of_right_bracket c) (m_do m))))) =
    let h = f _ _ vs refl (ts_one d) in
    along (m_nt (sem_some_types c h.whole)
    (with_values (ap (λ (l : List Val). act MakeClosedTypes (OfToken (tok k.RightBracket c) ∷ l)) h.is) m))
    (simp append_assoc)

row_type_comma : (o : Span) → Begun LMoreTypes k.Comma (Nt LT ∷ (Do MakeNextType ∷ (Nt LMoreTypes ∷ []))) o
row_type_comma o s vs r _ (m_nt {u} (sem_T {t} d) (m_do (m_nt {u = v} (sem_type_commas f) m))) =
    along (m_nt {u = tok k.Comma o ∷ (u ++ v)} (sem_type_commas (λ x a below q h.
    rules.moved table types Ts
    (f _ _ below (ap (λ (l : List Val). act MakeNextType (OfType t ∷ (OfToken (tok k.Comma o) ∷ l))) q)
    (ts_more o h d)) (simp append_assoc))) m) (simp append_assoc)

-- values
row_base : (c : Kind) (base : RawBase) (o : Span) → N (tok c o) base →
    act MakeBase (OfToken (tok c o) ∷ []) ≡ OfValue (ending (RPlain base []) o.end) ∷ [] → Begun LV c base_owed o
row_base c base o n e s vs r _ (m_do (m_nt (sem_args f) m)) =
    let q : act MakeBase (OfToken (tok c o) ∷ vs) ≡ OfValue (ending (RPlain base []) o.end) ∷ vs =
    ap (λ (l : List Val). l ++ vs) e in
    let h = f (tok c o ∷ []) _ vs q (bare n) in m_nt (sem_V h.whole) (with_values h.is m)

row_pack : (o : Span) → Begun LV k.Pack (Nt LPacked ∷ (Tm want.As ∷ (Nt LT ∷ (Do MakePack ∷ [])))) o
row_pack p s vs r _ (m_nt (sem_packed o m c d e) (m_tm (of_as a) (m_nt (sem_T g) (m_do x)))) =
    along (m_nt (sem_V (v_pack p o m c a d e g)) x) (simp append_assoc)

applied_bare : {u w : List Token} {a : Piece RawValue} {ts : List RawTy} → Bare u a → (o c : Span) → Ts w ts →
    V (u ++ tok k.LeftBracket o ∷ (w ++ tok k.RightBracket c ∷ [])) (ending (applied a.tree ts) c.end)
applied_bare (bare n) o c d = v_apply o c n d

row_args : (o : Span) → Begun LArgs k.LeftBracket (Nt LSomeTypes ∷ (Mark ∷ (Do MakeApply ∷ []))) o
row_args o s vs r _ (m_nt (sem_some_types {w} {ts} c d) (m_mark (m_do m))) =
    m_nt {u = tok k.LeftBracket o ∷ (w ++ tok k.RightBracket c ∷ [])} (sem_args (λ x a below q h. record {
      value = ending (applied a.tree ts) c.end;
      whole = applied_bare h o c d;
      is = ap (λ (l : List Val). act MakeApply (OfList (ending ts c.end) ∷ (OfToken (tok k.LeftBracket o) ∷ l))) q;
    })) m

row_packed : (o : Span) →
    Begun LPacked k.LeftBracket
    (Nt LT ∷ (Tm want.Comma ∷ (Nt LV ∷ (Tm want.RightBracket ∷ (Mark ∷ (Do MakePacked ∷ [])))))) o
row_packed o s vs r _
    (m_nt (sem_T d) (m_tm (of_comma m) (m_nt (sem_V e) (m_tm (of_right_bracket c) (m_mark (m_do x)))))) =
    along (m_nt (sem_packed o m c d e) x) (simp append_assoc)

-- instructions
row_to : (n : ℕ) (o : Span) → Begun LTo (k.Register n) (Tm want.Comma ∷ (Do MakeTo ∷ [])) o
row_to n o s vs r _ (m_tm (of_comma c) (m_do m)) = m_nt (sem_to n o c) m

row_at : (n : ℕ) (o : Span) → Begun LAt (k.Register n) (Nt LIndex ∷ (Do MakeAt ∷ [])) o
row_at n o s vs r _ (m_nt (sem_index z b f c) (m_do m)) = m_nt (sem_at n z o b f c) m

row_index : (o : Span) →
    Begun LIndex k.LeftBracket (Tm want.Number ∷ (Tm want.RightBracket ∷ (Mark ∷ (Do MakeIndex ∷ [])))) o
row_index o s vs r _ (m_tm (of_number z f) (m_tm (of_right_bracket c) (m_mark (m_do m)))) = m_nt (sem_index z o f c) m

row_target : (o : Span) →
    Begun LTarget k.LeftBracket
    (Tm want.Name ∷ (Tm want.Comma ∷ (Tm want.Register ∷ (Tm want.RightBracket ∷ (Mark ∷ (Do MakeTarget ∷ [])))))) o
row_target o s vs r _
    (m_tm (of_name n) (m_tm (of_comma c) (m_tm (of_register d p) (m_tm (of_right_bracket e) (m_mark (m_do m)))))) =
    m_nt (sem_target d o n c p e) m

row_halt_int : (o : Span) →
    Begun LInt k.LeftBracket (Tm want.Int ∷ (Tm want.RightBracket ∷ (Mark ∷ (Do MakeInt ∷ [])))) o
row_halt_int o s vs r _ (m_tm (of_int i) (m_tm (of_right_bracket c) (m_mark (m_do m)))) = m_nt (sem_int o i c) m

row_arith : (n : Kind) (op : Op) → IsOp n op → (o : Span) → Begun LI n (arith_owed op) o
row_arith n op i a s vs r _ (m_nt (sem_to rd b c) (m_nt (sem_to rs d e) (m_nt (sem_V v) (m_do m)))) =
    m_nt (sem_I (i_arith a b c d e rd rs i v)) m

row_bnz : (o : Span) → Begun LI k.Bnz (Nt LTo ∷ (Nt LV ∷ (Do MakeBnz ∷ []))) o
row_bnz a s vs r _ (m_nt (sem_to n b c) (m_nt (sem_V v) (m_do m))) = m_nt (sem_I (i_bnz a b c n v)) m

row_ld : (o : Span) → Begun LI k.Ld (Nt LTo ∷ (Nt LAt ∷ (Do MakeLd ∷ []))) o
row_ld a s vs r _ (m_nt (sem_to rd b c) (m_nt (sem_at rs z d o f e) (m_do m))) =
    m_nt (sem_I (i_ld a b c d o f e rd rs z)) m

row_malloc : (o : Span) → Begun LI k.Malloc (Tm want.Register ∷ (Nt LTypes ∷ (Do MakeMalloc ∷ []))) o
row_malloc a s vs r _ (m_tm (of_register rd b) (m_nt (sem_no_list o c) (m_do m))) =
    m_nt (sem_I (i_malloc_none a b o c rd)) m
row_malloc a s vs r _ (m_tm (of_register rd b) (m_nt (sem_list o c d) (m_do m))) =
    m_nt (sem_I (i_malloc a b o c rd d)) m

row_mov : (o : Span) → Begun LI k.Mov (Nt LTo ∷ (Nt LV ∷ (Do MakeMov ∷ []))) o
row_mov a s vs r _ (m_nt (sem_to rd b c) (m_nt (sem_V v) (m_do m))) = m_nt (sem_I (i_mov a b c rd v)) m

row_st : (o : Span) → Begun LI k.St (Nt LAt ∷ (Tm want.Comma ∷ (Tm want.Register ∷ (Do MakeSt ∷ [])))) o
row_st a s vs r _ (m_nt (sem_at rd z b o f e) (m_tm (of_comma c) (m_tm (of_register rs d) (m_do m)))) =
    m_nt (sem_I (i_st a b o f e c d rd rs z)) m

row_unpack : (o : Span) → Begun LI k.Unpack (Nt LTarget ∷ (Tm want.Comma ∷ (Nt LV ∷ (Do MakeUnpack ∷ [])))) o
row_unpack a s vs r _ (m_nt (sem_target rd o n b d c) (m_tm (of_comma e) (m_nt (sem_V v) (m_do m)))) =
    m_nt (sem_I (i_unpack a o n b d c e rd v)) m

row_step : (s : Stack) (vs r : List Val) (w : List Token) → Meets (Nt LI ∷ (steps_tail ++ s)) vs w r →
    Meets (Nt LMoreSteps ∷ s) vs w r
row_step s vs r _ (m_nt {u} (sem_I {i} d) (m_do (m_nt {u = v} (sem_steps f) m))) =
    along (m_nt {u = u ++ v} (sem_steps (λ x a below q h.
    rules.moved table steps Is (f _ _ below (ap (λ (l : List Val). act MakeNextStep (OfStep i ∷ l)) q) (is_more h d))
    (simp append_assoc))) m) (simp append_assoc)

row_jmp : (o : Span) → Begun LEnd k.Jmp (Nt LV ∷ (Do MakeJmp ∷ [])) o
row_jmp a s vs r _ (m_nt (sem_V v) (m_do m)) = m_nt (sem_End (e_jmp a v)) m

row_halt : (o : Span) → Begun LEnd k.Halt (Nt LInt ∷ (Do MakeHalt ∷ [])) o
row_halt a s vs r _ (m_nt (sem_int o i c) (m_do m)) = m_nt (sem_End (e_halt a o i c)) m

-- blocks
row_block : (o : Span) → Begun LBlock k.Name block_owed o
row_block l s vs r _
    (m_tm (of_colon c)
    (m_tm (of_code d)
    (m_nt (sem_binds a)
    (m_nt (sem_file f) (m_tm (of_dot p) (m_do (m_nt (sem_steps g) (m_nt (sem_End {e} x) (m_do m))))))))) =
    let h = g [] [] _ refl is_none in
    along (m_nt (sem_block (b_block l c d p a f h.whole x))
    (with_values (ap (λ (v : List Val). act MakeBlock (OfEnd e ∷ v)) h.is) m)) (simp append_assoc)

row_next_block : (s : Stack) (vs r : List Val) (w : List Token) → Meets (Nt LBlock ∷ (blocks_tail ++ s)) vs w r →
    Meets (Nt LMoreBlocks ∷ s) vs w r
row_next_block s vs r _ (m_nt {u} (sem_block {b} d) (m_do (m_nt {u = v} (sem_blocks f) m))) =
    along (m_nt {u = u ++ v} (sem_blocks (λ x a below q h.
    rules.moved table blocks Blocks
    (f _ _ below (ap (λ (l : List Val). act MakeNextBlock (OfBlock b ∷ l)) q) (bs_more h d)) (simp append_assoc)))
    m) (simp append_assoc)

-- the values of data
row_word : (c : Kind) (base : RawBase) (o : Span) → Q (tok c o) base →
    act MakeWord (OfToken (tok c o) ∷ []) ≡ OfWord (RPlain base [], o) ∷ [] → Begun LW c word_owed o
row_word c base o n e s vs r _ (m_do (m_nt (sem_word_args f) m)) =
    let q : act MakeWord (OfToken (tok c o) ∷ vs) ≡ OfWord (RPlain base [], o) ∷ vs =
    ap (λ (l : List Val). l ++ vs) e in
    let h = f (tok c o ∷ []) _ vs q (bare_word n) in m_nt (sem_W h.whole) (with_values h.is m)

row_word_pack : (o : Span) → Begun LW k.Pack (Nt LWordPacked ∷ (Tm want.As ∷ (Nt LT ∷ (Do MakeWordPack ∷ [])))) o
row_word_pack p s vs r _ (m_nt (sem_word_packed o m c d e) (m_tm (of_as a) (m_nt (sem_T g) (m_do x)))) =
    along (m_nt (sem_W (w_pack p o m c a d e g)) x) (simp append_assoc)

applied_word : {u w : List Token} {a : RawValue × Span} {ts : List RawTy} → BareWord u a → (o c : Span) → Ts w ts →
    W (u ++ tok k.LeftBracket o ∷ (w ++ tok k.RightBracket c ∷ [])) (word_applied a (ending ts c.end))
applied_word (bare_word n) o c d = w_apply o c n d

row_word_args : (o : Span) → Begun LWordArgs k.LeftBracket (Nt LSomeTypes ∷ (Mark ∷ (Do MakeWordApply ∷ []))) o
row_word_args o s vs r _ (m_nt (sem_some_types {w} {ts} c d) (m_mark (m_do m))) =
    m_nt {u = tok k.LeftBracket o ∷ (w ++ tok k.RightBracket c ∷ [])} (sem_word_args (λ x a below q h. record {
      value = word_applied a (ending ts c.end);
      whole = applied_word h o c d;
      is = ap (λ (l : List Val). act MakeWordApply (OfList (ending ts c.end) ∷ (OfToken (tok k.LeftBracket o) ∷ l))) q;
    })) m

row_word_packed : (o : Span) → Begun LWordPacked k.LeftBracket
    (Nt LT ∷ (Tm want.Comma ∷ (Nt LW ∷ (Tm want.RightBracket ∷ (Mark ∷ (Do MakeWordPacked ∷ [])))))) o
row_word_packed o s vs r _ (m_nt (sem_T d) (m_tm (of_comma m) (m_nt (sem_W e) (m_tm (of_right_bracket c)
    (m_mark (m_do x)))))) = along (m_nt (sem_word_packed o m c d e) x) (simp append_assoc)

-- data tuples
row_tuple : (o : Span) → Begun LTuple k.LeftAngle (Nt LDatums ∷ (Mark ∷ (Do MakeTuple ∷ []))) o
row_tuple o s vs r _ (m_nt (sem_no_datums c) (m_mark (m_do m))) = m_nt (sem_tuple (tu_none o c)) m
row_tuple o s vs r _ (m_nt (sem_datums c d) (m_mark (m_do m))) = m_nt (sem_tuple (tu_fields o c d)) m

row_no_datums : (o : Span) → Begun LDatums k.RightAngle (Do MakeNoDatums ∷ []) o
row_no_datums o s vs r w (m_do m) = m_nt (sem_no_datums o) m

row_datums : (s : Stack) (vs r : List Val) (w : List Token) → Meets (Nt LW ∷ (datums_tail ++ s)) vs w r →
    Meets (Nt LDatums ∷ s) vs w r
row_datums s vs r _ (m_nt (sem_W {x} d) (m_tm (of_colon c) (m_nt (sem_T {t} e) (m_do
    (m_nt (sem_datum_commas f) (m_tm (of_right_angle b) (m_do m))))))) =
    let h = f _ (datum x t.tree ∷ []) vs refl (ds_one c d e) in
    along (m_nt (sem_datums b h.whole)
    (with_values (ap (λ (l : List Val). act MakeClosedDatums (OfToken (tok k.RightAngle b) ∷ l)) h.is) m))
    (simp append_assoc)

row_datum_comma : (o : Span) → Begun LMoreDatums k.Comma
    (Nt LW ∷ (Tm want.Colon ∷ (Nt LT ∷ (Do MakeNextDatum ∷ (Nt LMoreDatums ∷ []))))) o
row_datum_comma o s vs r _ (m_nt {u} (sem_W {x = i} d) (m_tm (of_colon c) (m_nt {u = v} (sem_T {t} e) (m_do
    (m_nt {u = w} (sem_datum_commas f) m))))) =
    along (m_nt {u = tok k.Comma o ∷ (u ++ tok k.Colon c ∷ (v ++ w))} (sem_datum_commas (λ x a below q h.
    rules.moved table datums Ds (f _ _ below
    (ap (λ (l : List Val). act MakeNextDatum
    (OfType t ∷ (OfToken (tok k.Colon c) ∷ (OfWord i ∷ (OfToken (tok k.Comma o) ∷ l))))) q)
    (ds_more o c h d e)) (simp append_assoc))) m) (simp append_assoc)

-- a block after its word, and what follows on it
record Coded (d : Span) (s : Stack) (vs r : List Val) (w : List Token) : Type 0 where
  front : List Token
  back : List Token
  same : front ++ back ≡ w
  us : List Val
  meets : Meets s us back r
  is : (l c : Span) (below : List Val) → vs ≡ over_label l c below →
      Made table block Block (labelled l c (tok k.Code d ∷ front)) below us

coded : {s : Stack} {vs r : List Val} {w : List Token} (d : Span) →
    Meets (code_owed ++ s) (OfToken (tok k.Code d) ∷ vs) w r → Coded d s vs r w
coded {vs} d (m_nt {u = u} (sem_binds {ns} a) (m_nt {u = v} (sem_file {f = file} f) (m_tm (of_dot p) (m_do
    (m_nt {u = x} (sem_steps g) (m_nt {u = y} {w} (sem_End {e} z) (m_do m))))))) =
    let h = g [] [] _ refl is_none in
    record {
      front = u ++ (v ++ tok k.Dot p ∷ (x ++ y));
      back = w;
      same = simp append_assoc;
      us = _;
      meets = m;
      is = λ l c below q. record {
        value = record { name = l; names = ns; file = file.tree; body = h.value; last = e };
        whole = b_block l c d p a f h.whole z;
        is =
            ap (λ (t : List Val). act MakeBlock (OfEnd e ∷ t)) h.is ∙
            ap (λ (t : List Val). act MakeBlock (OfEnd e ∷ (OfSteps h.value ∷ (OfToken (tok k.Dot p) ∷ (OfFile file ∷
            (OfNames ns ∷ (OfToken (tok k.Code d) ∷ t))))))) q;
      };
    }

-- items, and a block among them
blocks_count : (xs : List RawItem) (x : RawItem) →
    length (blocks_in (xs ++ x ∷ [])) ≡ length (blocks_in xs) + length (blocks_in (x ∷ []))
blocks_count xs x =
    ap (λ (bs : List RawBlock). length bs) (blocks_in-append xs (x ∷ [])) ∙
    length-append (blocks_in xs) (blocks_in (x ∷ []))

still_block : (xs : List RawItem) (x : RawItem) → HasBlock xs → HasBlock (xs ++ x ∷ [])
still_block xs x h = omega (arith, blocks_count xs x)

new_block : (xs : List RawItem) (b : RawBlock) → HasBlock (xs ++ BlockItem b ∷ [])
new_block xs b = omega (arith, blocks_count xs (BlockItem b))

block_item : (s : Stack) (vs us r : List Val) (u w : List Token) (d : Span) →
    ((l c : Span) (below : List Val) → vs ≡ over_label l c below →
    Made table block Block (labelled l c (tok k.Code d ∷ u)) below us) →
    Meets (Do MakeBlockItem ∷ s) us w r → Meets (Nt LItem ∷ s) vs (tok k.Code d ∷ (u ++ w)) r
block_item s vs us r u w d is (m_do m) =
    m_nt {u = tok k.Code d ∷ u} (sem_item (λ l c below q. let b = is l c below q in record {
      value = BlockItem b.value;
      whole = it_block b.whole;
      is = ap (λ (t : List Val). act MakeBlockItem t) b.is;
    })) m

row_item_code : (o : Span) → Begun LItem k.Code (code_owed ++ Do MakeBlockItem ∷ []) o
row_item_code d s vs r w m =
    let z = coded d m in
    along (block_item s vs z.us r z.front z.back d z.is z.meets) (ap (λ (t : List Token). tok k.Code d ∷ t) z.same)

row_item_data : (o : Span) → Begun LItem k.Data data_owed o
row_item_data d s vs r _ (m_nt {u} (sem_tuple {xs} x) (m_do m)) =
    m_nt {u = tok k.Data d ∷ u} (sem_item (λ l c below q. record {
      value = DataItem (record { name = l; fields = xs });
      whole = it_data l c d x;
      is = ap (λ (t : List Val). act MakeDataItem (OfTuple xs ∷ (OfToken (tok k.Data d) ∷ t))) q;
    })) m

row_more_items : (o : Span) → Begun LMoreItems k.Name (Tm want.Colon ∷ (Nt LItem ∷ items_tail)) o
row_more_items l s vs r _ (m_tm (of_colon c) (m_nt {u} (sem_item f) (m_do (m_nt {u = v} (sem_more_items g) m)))) =
    along (m_nt {u = labelled l c (u ++ v)} (sem_more_items (λ x a below q h.
    let i = f l c vs refl in
    rules.moved table items SomeItems (g (x ++ labelled l c u) (a ++ i.value ∷ []) below
    (ap (λ (t : List Val). act MakeNextItem t) i.is ∙ ap (λ (t : List Val). act MakeNextItem (OfItem i.value ∷ t)) q)
    (its_more h.0 i.whole, still_block a i.value h.1)) (simp append_assoc))) m) (simp append_assoc)

row_some_items : (o : Span) → Begun LSomeItems k.Name (Tm want.Colon ∷ (Nt LFirst ∷ [])) o
row_some_items l s vs r _ (m_tm (of_colon c) (m_nt {u} (sem_first f) m)) =
    m_nt {u = labelled l c u} (sem_some_items (λ x a below q h.
    f l c x a below (ap (λ (t : List Val). over_label l c t) q) h)) m

first_block : (s : Stack) (vs us r : List Val) (u w : List Token) (d : Span) →
    ((l c : Span) (below : List Val) → vs ≡ over_label l c below →
    Made table block Block (labelled l c (tok k.Code d ∷ u)) below us) →
    Meets (Do MakeBlockItem ∷ (items_tail ++ s)) us w r → Meets (Nt LFirst ∷ s) vs (tok k.Code d ∷ (u ++ w)) r
first_block s vs us r u _ d is (m_do (m_do (m_nt {u = v} (sem_more_items g) m))) =
    along (m_nt {u = tok k.Code d ∷ (u ++ v)} (sem_first (λ l c x a below q h.
    let b = is l c (OfItems a ∷ below) q in
    rules.moved table items SomeItems (g (x ++ labelled l c (tok k.Code d ∷ u)) (a ++ BlockItem b.value ∷ []) below
    (ap (λ (t : List Val). act MakeNextItem (act MakeBlockItem t)) b.is)
    (its_more h (it_block b.whole), new_block a b.value)) (simp append_assoc))) m) (simp append_assoc)

row_first_code : (o : Span) → Begun LFirst k.Code (code_owed ++ Do MakeBlockItem ∷ items_tail) o
row_first_code d s vs r w m =
    let z = coded d m in
    along (first_block s vs z.us r z.front z.back d z.is z.meets) (ap (λ (t : List Token). tok k.Code d ∷ t) z.same)

row_first_data : (o : Span) → Begun LFirst k.Data (data_owed ++ Do MakeNextItem ∷ (Nt LSomeItems ∷ [])) o
row_first_data d s vs r _ (m_nt {u} (sem_tuple {xs} x) (m_do (m_do (m_nt {u = v} (sem_some_items g) m)))) =
    along (m_nt {u = tok k.Data d ∷ (u ++ v)} (sem_first (λ l c y a below q h.
    let i : RawItem = DataItem (record { name = l; fields = xs }) in
    rules.moved table items SomeItems (g (y ++ labelled l c (tok k.Data d ∷ u)) (a ++ i ∷ []) below
    (ap (λ (t : List Val). act MakeNextItem (act MakeDataItem (OfTuple xs ∷ (OfToken (tok k.Data d) ∷ t)))) q)
    (its_more h (it_data l c d x))) (simp append_assoc))) m) (simp append_assoc)

-- programs
row_blocks : (o : Span) → Begun LHeader (k.Plain (pos 1)) blocks_owed o
row_blocks n s vs r _ (m_nt (sem_block d) (m_do (m_nt (sem_blocks f) (m_do m)))) =
    let h = f _ _ _ refl (bs_one d) in
    along (m_nt (sem_header (λ t. p_blocks t n h.whole))
    (with_values (ap (λ (l : List Val). act MakeHeaded l) h.is) m)) (simp append_assoc)

row_items : (o : Span) → Begun LHeader (k.Plain (pos 2)) items_owed o
row_items n s vs r _ (m_do (m_nt (sem_some_items f) (m_do m))) =
    let h = f [] [] _ refl its_none in
    m_nt (sem_header (λ t. p_items t n h.whole.0 h.whole.1))
    (with_values (ap (λ (l : List Val). act MakeHeaded l) h.is) m)

header_row : (z : ℤ) (p : Span) → Row table meaning LHeader (tok (k.Plain z) p) (headed z)
header_row (pos n) p = by_one (n == 1) refl
  where
    by_two : (y : Bool) → (n == 2) ≡ y →
        Row table meaning LHeader (tok (k.Plain (pos n)) p) (if y then Some items_owed else None)
    by_two true e =
        subst (λ (m : ℕ). Row table meaning LHeader (tok (k.Plain (pos m)) p) (Some items_owed)) (sym (eqb-true n 2 e))
        (row_items p)
    by_two false e = tt

    by_one : (x : Bool) → (n == 1) ≡ x → Row table meaning LHeader (tok (k.Plain (pos n)) p)
        (if x then Some blocks_owed else if n == 2 then Some items_owed else None)
    by_one true e =
        subst (λ (m : ℕ). Row table meaning LHeader (tok (k.Plain (pos m)) p) (Some blocks_owed)) (sym (eqb-true n 1 e))
        (row_blocks p)
    by_one false e = by_two (n == 2) refl
header_row (negsuc n) p = tt

row_program : (o : Span) → Begun LProgram k.Tal (Nt LHeader ∷ (Do MakeProgram ∷ [])) o
row_program t s vs r _ (m_nt (sem_header f) (m_do m)) = m_nt (sem_program (f t)) m

-- the rows of each line
type_row : (c : Kind) (p : Span) → Row table meaning LT (tok c p) (type_after c)
type_row k.Int p = row_int p
type_row k.Name p = row_type_name p
type_row k.All p = row_type_code p
type_row k.Some p = row_type_some p
type_row k.LeftAngle p = row_type_tuple p
type_row _ p = tt

fields_row : (c : Kind) (p : Span) → Row table meaning LFields (tok c p) (fields_after c)
fields_row k.RightAngle p = row_no_fields p
fields_row c p = rules.more_row table meaning LT LFields (tok c p) fields_tail row_fields (type_after c) (type_row c p)

list_row : (c : Kind) (p : Span) → Row table meaning LTypeList (tok c p) (type_list_after c)
list_row k.RightBracket p = row_no_types p
list_row c p =
    rules.more_row table meaning LT LTypeList (tok c p) types_tail row_type_list (type_after c) (type_row c p)

some_row : (c : Kind) (p : Span) → Row table meaning LSomeTypes (tok c p) (some_types_after c)
some_row c p = more_row (type_after c) (type_row c p)
  where
    more_row : (o : Option Stack) → Row table meaning LT (tok c p) o →
        Row table meaning LSomeTypes (tok c p) (then_more o types_tail)
    more_row None h = tt
    more_row (Some a) h = rules.more_row table meaning LT LSomeTypes (tok c p) types_tail row_some_types (Some a) h

instr_row : (c : Kind) (p : Span) → Row table meaning LI (tok c p) (instr_after c)
instr_row k.Add p = row_arith k.Add Add is_add p
instr_row k.Sub p = row_arith k.Sub Sub is_sub p
instr_row k.Mul p = row_arith k.Mul Mul is_mul p
instr_row k.Bnz p = row_bnz p
instr_row k.Ld p = row_ld p
instr_row k.Malloc p = row_malloc p
instr_row k.Mov p = row_mov p
instr_row k.St p = row_st p
instr_row k.Unpack p = row_unpack p
instr_row _ p = tt

steps_row : (c : Kind) (p : Span) → Row table meaning LMoreSteps (tok c p) (steps_after c)
steps_row c p = more_row (instr_after c) (instr_row c p)
  where
    more_row : (o : Option Stack) → Row table meaning LI (tok c p) o →
        Row table meaning LMoreSteps (tok c p) (then_more o steps_tail)
    more_row None h = tt
    more_row (Some a) h = rules.more_row table meaning LI LMoreSteps (tok c p) steps_tail row_step (Some a) h

value_row : (c : Kind) (p : Span) → Row table meaning LV (tok c p) (value_after c)
value_row (k.Register r) p = row_base (k.Register r) _ p (n_reg r p) refl
value_row (k.Plain z) p = row_base (k.Plain z) _ p (n_plain z p) refl
value_row (k.Negative z) p = row_base (k.Negative z) _ p (n_negative z p) refl
value_row k.Name p = row_base k.Name _ p (n_label p) refl
value_row k.Pack p = row_pack p
value_row _ p = tt

word_row : (c : Kind) (p : Span) → Row table meaning LW (tok c p) (word_after c)
word_row (k.Plain z) p = row_word (k.Plain z) _ p (q_plain z p) refl
word_row (k.Negative z) p = row_word (k.Negative z) _ p (q_negative z p) refl
word_row k.Name p = row_word k.Name _ p (q_label p) refl
word_row k.Pack p = row_word_pack p
word_row _ p = tt

datums_row : (c : Kind) (p : Span) → Row table meaning LDatums (tok c p) (datums_after c)
datums_row k.RightAngle p = row_no_datums p
datums_row c p = rules.more_row table meaning LW LDatums (tok c p) datums_tail row_datums (word_after c) (word_row c p)

pub row : (n : Line) (c : Kind) (p : Span) → Row table meaning n (tok c p) (after n c)
row LProgram k.Tal p = row_program p
row LProgram _ p = tt
row LHeader (k.Plain z) p = header_row z p
row LHeader _ p = tt
row LSomeItems k.Name p = row_some_items p
row LSomeItems _ p = tt
row LFirst k.Code p = row_first_code p
row LFirst k.Data p = row_first_data p
row LFirst _ p = tt
row LMoreItems k.Name p = row_more_items p
row LMoreItems _ p = tt
row LItem k.Code p = row_item_code p
row LItem k.Data p = row_item_data p
row LItem _ p = tt
row LTuple k.LeftAngle p = row_tuple p
row LTuple _ p = tt
row LDatums c p = datums_row c p
row LMoreDatums k.Comma p = row_datum_comma p
row LMoreDatums _ p = tt
row LW c p = word_row c p
row LWordArgs k.LeftBracket p = row_word_args p
row LWordArgs _ p = tt
row LWordPacked k.LeftBracket p = row_word_packed p
row LWordPacked _ p = tt
row LBlock k.Name p = row_block p
row LBlock _ p = tt
row LMoreBlocks k.Name p =
    rules.more_row table meaning LBlock LMoreBlocks (tok k.Name p) blocks_tail row_next_block (Some block_owed)
    (row_block p)
row LMoreBlocks _ p = tt
row LBinds k.LeftBracket p = row_binds p
row LBinds _ p = tt
row LNames k.RightBracket p = row_no_names p
row LNames k.Name p = row_names p
row LNames _ p = tt
row LMoreNames k.Comma p = row_name_comma p
row LMoreNames _ p = tt
row LFile k.LeftBrace p = row_file p
row LFile _ p = tt
row LRegs k.RightBrace p = row_no_regs p
row LRegs (k.Register r) p = row_regs r p
row LRegs _ p = tt
row LMoreRegs k.Comma p = row_reg_comma p
row LMoreRegs _ p = tt
row LT c p = type_row c p
row LFields c p = fields_row c p
row LMoreFields k.Comma p = row_field_comma p
row LMoreFields _ p = tt
row LTypes k.LeftBracket p = row_list p
row LTypes _ p = tt
row LTypeList c p = list_row c p
row LSomeTypes c p = some_row c p
row LMoreTypes k.Comma p = row_type_comma p
row LMoreTypes _ p = tt
row LV c p = value_row c p
row LArgs k.LeftBracket p = row_args p
row LArgs _ p = tt
row LPacked k.LeftBracket p = row_packed p
row LPacked _ p = tt
row LTo (k.Register r) p = row_to r p
row LTo _ p = tt
row LAt (k.Register r) p = row_at r p
row LAt _ p = tt
row LIndex k.LeftBracket p = row_index p
row LIndex _ p = tt
row LTarget k.LeftBracket p = row_target p
row LTarget _ p = tt
row LInt k.LeftBracket p = row_halt_int p
row LInt _ p = tt
row LI c p = instr_row c p
row LMoreSteps c p = steps_row c p
row LEnd k.Jmp p = row_jmp p
row LEnd k.Halt p = row_halt p
row LEnd _ p = tt

bare_value : {w : List Token} {a : Piece RawValue} → Bare w a → V w a
bare_value (bare n) = v_base n

word_value : {w : List Token} {a : RawValue × Span} → BareWord w a → W w a
word_value (bare_word n) = w_base n

-- a line that may end takes no token
pub empty : (n : Line) → may_end n ≡ true → (vs : List Val) → Sem n vs [] vs
empty LMoreBlocks e vs = sem_blocks (λ u a below q h. record { value = a; whole = rw append-nil h; is = q })
empty LMoreNames e vs = sem_name_commas (λ u a below q h. record { value = a; whole = rw append-nil h; is = q })
empty LMoreRegs e vs = sem_reg_commas (λ u a below q h. record { value = a; whole = rw append-nil h; is = q })
empty LMoreFields e vs = sem_field_commas (λ u a below q h. record { value = a; whole = rw append-nil h; is = q })
empty LMoreTypes e vs = sem_type_commas (λ u a below q h. record { value = a; whole = rw append-nil h; is = q })
empty LArgs e vs = sem_args (λ u a below q h. record { value = a; whole = rw append-nil (bare_value h); is = q })
empty LMoreSteps e vs = sem_steps (λ u a below q h. record { value = a; whole = rw append-nil h; is = q })
empty LMoreItems e vs = sem_more_items (λ u a below q h. record {
  value = a;
  whole = ((rw append-nil h.0), h.1);
  is = q;
})
empty LMoreDatums e vs = sem_datum_commas (λ u a below q h. record { value = a; whole = rw append-nil h; is = q })
empty LWordArgs e vs = sem_word_args (λ u a below q h. record {
  value = a;
  whole = rw append-nil (word_value h);
  is = q;
})
empty _ e vs = absurd (cc)
