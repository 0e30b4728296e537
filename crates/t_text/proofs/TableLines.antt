-- What the lines of the table read: tokens of a class, and what each line takes and gives.
use Rattle.std.proofs.Common.{ℤ, pos, negsuc, nat_abs, ◌==◌, ◌||◌, ◌≡◌, ℕ, List, [], ◌∷◌, ◌++◌}
use Rattle.std.proofs.Common.{refl, sym, subst, Bool, true}
use Rattle.std.proofs.Common.{false}
use Rattle.std.proofs.lemmas.Bool.{eqb-true}
use Rattle.idx_core.specs.declared.span.Span.{Span}
use Rattle.t_text.specs.declared.token.Kind.{Kind}
use Rattle.t_text.specs.declared.token.Kind.TheVariants as k
use Rattle.t_text.specs.declared.token.Token.{Token}
use Rattle.t_text.specs.declared.wanted.Wanted.{Wanted}
use Rattle.t_text.specs.declared.wanted.Wanted.TheVariants as want
use Rattle.t_text.specs.Raw.{RawTy, RTuple, RawRegs, RawReg, RawField, raw_regs, raw_fields, RawBase, RawValue}
use Rattle.t_text.specs.Raw.{RPlain, RawInstr, RawEnd, RawBlock, RawDatum, RawItem}
use Rattle.t_text.specs.Raw.{Piece, ending}
use Rattle.t_text.specs.Grammar.{tok, Names, Binds, IsFlag, is_zero, is_one}
use Rattle.t_text.specs.Grammar.{is_minus_zero, T, File}
use Rattle.t_text.specs.Grammar.{Rs, Fs, Ts, N}
use Rattle.t_text.specs.Grammar.{V}
use Rattle.t_text.specs.Grammar.{I, Is}
use Rattle.t_text.specs.Grammar.{End, Block, Blocks, Q}
use Rattle.t_text.specs.Grammar.{W, Ds}
use Rattle.t_text.specs.Grammar.{Tuple, Item, Items}
use Rattle.t_text.specs.Grammar.{HasBlock, Program}
use Rattle.text_core.specs.Table.{Nt}
use Rattle.text_core.proofs.Rules as rules
use Rattle.text_core.proofs.Rules.{Meaning, Matches, Made, Extends}
use Rattle.t_text.specs.GrammarTable.{table, Line, LProgram, LBlock, LMoreBlocks, LBinds, LNames, LMoreNames, LFile}
use Rattle.t_text.specs.GrammarTable.{LRegs, LMoreRegs, LT, LFields, LMoreFields, LTypes, LTypeList, LSomeTypes}
use Rattle.t_text.specs.GrammarTable.{LMoreTypes, LV, LArgs, LPacked, LTo, LAt, LIndex, LTarget, LInt, LI, LMoreSteps}
use Rattle.t_text.specs.GrammarTable.{LEnd, LHeader, LSomeItems, LFirst, LMoreItems, LItem, LTuple, LDatums}
use Rattle.t_text.specs.GrammarTable.{LMoreDatums, LW, LWordArgs, LWordPacked}
use Rattle.t_text.specs.GrammarTable.{Stack, Val, OfToken}
use Rattle.t_text.specs.GrammarTable.{OfNames, OfType, OfRegs, OfFile, OfFields, OfTypes, OfList, OfValue, OfPacked}
use Rattle.t_text.specs.GrammarTable.{OfReg, OfIndex, OfAt, OfTarget, OfPlace, OfStep, OfSteps, OfEnd, OfBlock}
use Rattle.t_text.specs.GrammarTable.{OfBlocks, OfWord, OfDatums, OfTuple, OfItem, OfItems, flag_value, zero_value}
use Rattle.t_text.specs.GrammarTable.{fits, flag_of}

-- tokens of a class
pub data IsOf : Wanted → Token → Type 0 where
  of_name : (s : Span) → IsOf want.Name (tok k.Name s)
  of_register : (r : ℕ) (s : Span) → IsOf want.Register (tok (k.Register r) s)
  of_number : (z : ℤ) (s : Span) → IsOf want.Number (tok (k.Plain z) s)
  of_flag : {n : Kind} {flag : Bool} (s : Span) → IsFlag n flag → IsOf want.Flag (tok n s)
  of_left_bracket : (s : Span) → IsOf want.LeftBracket (tok k.LeftBracket s)
  of_right_bracket : (s : Span) → IsOf want.RightBracket (tok k.RightBracket s)
  of_left_brace : (s : Span) → IsOf want.LeftBrace (tok k.LeftBrace s)
  of_right_brace : (s : Span) → IsOf want.RightBrace (tok k.RightBrace s)
  of_right_angle : (s : Span) → IsOf want.RightAngle (tok k.RightAngle s)
  of_comma : (s : Span) → IsOf want.Comma (tok k.Comma s)
  of_dot : (s : Span) → IsOf want.Dot (tok k.Dot s)
  of_colon : (s : Span) → IsOf want.Colon (tok k.Colon s)
  of_caret : (s : Span) → IsOf want.Caret (tok k.Caret s)
  of_tal : (s : Span) → IsOf want.Tal (tok k.Tal s)
  of_code : (s : Span) → IsOf want.Code (tok k.Code s)
  of_as : (s : Span) → IsOf want.As (tok k.As s)
  of_int : (s : Span) → IsOf want.Int (tok k.Int s)

of_value_flag : (z : ℤ) (s : Span) → flag_value z ≡ true → IsOf want.Flag (tok (k.Plain z) s)
of_value_flag (pos n) s e = by_zero (n == 0) refl e
  where
    by_zero : (x : Bool) → (n == 0) ≡ x → (x || n == 1) ≡ true → IsOf want.Flag (tok (k.Plain (pos n)) s)
    by_zero true f h = subst (λ m. IsOf want.Flag (tok (k.Plain (pos m)) s)) (sym (eqb-true n 0 f)) (of_flag s is_zero)
    by_zero false f h = subst (λ m. IsOf want.Flag (tok (k.Plain (pos m)) s)) (sym (eqb-true n 1 h)) (of_flag s is_one)
of_value_flag (negsuc n) s e = absurd (cc)

of_value_zero : (z : ℤ) (s : Span) → zero_value z ≡ true → IsOf want.Flag (tok (k.Negative z) s)
of_value_zero (pos n) s e =
    subst (λ m. IsOf want.Flag (tok (k.Negative (pos m)) s)) (sym (eqb-true n 0 e)) (of_flag s is_minus_zero)
of_value_zero (negsuc n) s e = absurd (cc)

pub is_of : (c : Wanted) (t : Kind) (s : Span) → fits c t ≡ true → IsOf c (tok t s)
is_of want.Name k.Name s e = of_name s
is_of want.Register (k.Register r) s e = of_register r s
is_of want.Number (k.Plain z) s e = of_number z s
is_of want.Flag (k.Plain z) s e = of_value_flag z s e
is_of want.Flag (k.Negative z) s e = of_value_zero z s e
is_of want.LeftBracket k.LeftBracket s e = of_left_bracket s
is_of want.RightBracket k.RightBracket s e = of_right_bracket s
is_of want.LeftBrace k.LeftBrace s e = of_left_brace s
is_of want.RightBrace k.RightBrace s e = of_right_brace s
is_of want.RightAngle k.RightAngle s e = of_right_angle s
is_of want.Comma k.Comma s e = of_comma s
is_of want.Dot k.Dot s e = of_dot s
is_of want.Colon k.Colon s e = of_colon s
is_of want.Caret k.Caret s e = of_caret s
is_of want.Tal k.Tal s e = of_tal s
is_of want.Code k.Code s e = of_code s
is_of want.As k.As s e = of_as s
is_of want.Int k.Int s e = of_int s
is_of _ _ s e = absurd (cc)

pub flag_is : {n : Kind} {flag : Bool} → IsFlag n flag → flag_of n ≡ flag
flag_is is_zero = refl
flag_is is_one = refl
flag_is is_minus_zero = refl

-- a base alone
pub data Bare : List Token → Piece RawValue → Type 0 where
  bare : {b : Token} {base : RawBase} → N b base → Bare (b ∷ []) (ending (RPlain base []) b.span.end)

-- the same of the value of a data field
pub data BareWord : List Token → RawValue × Span → Type 0 where
  bare_word : {b : Token} {base : RawBase} → Q b base → BareWord (b ∷ []) (RPlain base [], b.span)

-- items of which one is a block
abbrev pub SomeItems : List Token → List RawItem → Type 0
SomeItems w xs = Items w xs × HasBlock xs

abbrev pub blocks : List RawBlock → Val
blocks bs = OfBlocks bs

abbrev pub block : RawBlock → Val
block b = OfBlock b

abbrev item : RawItem → Val
item x = OfItem x

abbrev pub items : List RawItem → Val
items xs = OfItems xs

abbrev pub datums : List RawDatum → Val
datums xs = OfDatums xs

abbrev word : RawValue × Span → Val
word x = OfWord x

abbrev pub names : List Span → Val
names ns = OfNames ns

abbrev pub registers : List RawReg → Val
registers rs = OfRegs rs

abbrev pub fields : List RawField → Val
fields fs = OfFields fs

abbrev pub types : List RawTy → Val
types ts = OfTypes ts

abbrev pub value : Piece RawValue → Val
value v = OfValue v

abbrev pub steps : List (RawInstr × Span) → Val
steps is = OfSteps is

-- what stands before the tokens of an item after its label: the label and the colon
abbrev pub labelled : Span → Span → List Token → List Token
labelled l c w = tok k.Name l ∷ (tok k.Colon c ∷ w)

abbrev pub over_label : Span → Span → List Val → List Val
over_label l c vs = OfToken (tok k.Colon c) ∷ (OfToken (tok k.Name l) ∷ vs)

-- the tokens w are an item after its label
abbrev pub IsItem : List Token → List Val → List Val → Type 0
IsItem w vs us =
    (l c : Span) (below : List Val) → vs ≡ over_label l c below → Made table item Item (labelled l c w) below us

-- the tokens w are the first of more items, after its label, and those: with it a block is among the items
abbrev pub IsFirst : List Token → List Val → List Val → Type 0
IsFirst w vs us =
    (l c : Span) (u : List Token) (xs : List RawItem) (below : List Val) → vs ≡ over_label l c (OfItems xs ∷ below) →
    Items u xs → Made table items SomeItems (u ++ labelled l c w) below us

-- the tokens w are of this line, and take these values to those
pub data Sem : Line → List Val → List Token → List Val → Type 0 where
  sem_program : {vs : List Val} {w : List Token} {xs : List RawItem} → Program w xs →
      Sem LProgram vs w (OfItems xs ∷ vs)
  sem_header : {vs : List Val} {w : List Token} {xs : List RawItem} → ((t : Span) → Program (tok k.Tal t ∷ w) xs) →
      Sem LHeader vs w (OfItems xs ∷ vs)
  sem_some_items : {vs us : List Val} {w : List Token} → Extends table items Items SomeItems w vs us →
      Sem LSomeItems vs w us
  sem_first : {vs us : List Val} {w : List Token} → IsFirst w vs us → Sem LFirst vs w us
  sem_more_items : {vs us : List Val} {w : List Token} → Extends table items SomeItems SomeItems w vs us →
      Sem LMoreItems vs w us
  sem_item : {vs us : List Val} {w : List Token} → IsItem w vs us → Sem LItem vs w us
  sem_tuple : {vs : List Val} {w : List Token} {xs : List RawDatum} → Tuple w xs → Sem LTuple vs w (OfTuple xs ∷ vs)
  sem_no_datums : {vs : List Val} (c : Span) → Sem LDatums vs (tok k.RightAngle c ∷ []) (OfTuple [] ∷ vs)
  sem_datums : {vs : List Val} {w : List Token} {xs : List RawDatum} (c : Span) → Ds w xs →
      Sem LDatums vs (w ++ tok k.RightAngle c ∷ []) (OfTuple xs ∷ vs)
  sem_datum_commas : {vs us : List Val} {w : List Token} → Extends table datums Ds Ds w vs us → Sem LMoreDatums vs w us
  sem_W : {vs : List Val} {w : List Token} {x : RawValue × Span} → W w x → Sem LW vs w (OfWord x ∷ vs)
  sem_word_args : {vs us : List Val} {w : List Token} → Extends table word BareWord W w vs us → Sem LWordArgs vs w us
  sem_word_packed : {vs : List Val} {u v : List Token} {t : Piece RawTy} {x : RawValue × Span} (o m c : Span) →
      T u t → W v x →
      Sem LWordPacked vs (tok k.LeftBracket o ∷ (u ++ tok k.Comma m ∷ (v ++ tok k.RightBracket c ∷ [])))
      (OfPacked (record { hidden = t.tree; inner = x.0 }) ∷ vs)
  sem_block : {vs : List Val} {w : List Token} {b : RawBlock} → Block w b → Sem LBlock vs w (OfBlock b ∷ vs)
  sem_blocks : {vs us : List Val} {w : List Token} → Extends table blocks Blocks Blocks w vs us →
      Sem LMoreBlocks vs w us
  sem_binds : {vs : List Val} {w : List Token} {ns : List Span} → Binds w ns → Sem LBinds vs w (OfNames ns ∷ vs)
  sem_no_names : {vs : List Val} (c : Span) → Sem LNames vs (tok k.RightBracket c ∷ []) (OfNames [] ∷ vs)
  sem_names : {vs : List Val} {w : List Token} {ns : List Span} (c : Span) → Names w ns →
      Sem LNames vs (w ++ tok k.RightBracket c ∷ []) (OfNames ns ∷ vs)
  sem_name_commas : {vs us : List Val} {w : List Token} → Extends table names Names Names w vs us →
      Sem LMoreNames vs w us
  sem_file : {vs : List Val} {w : List Token} {f : Piece RawRegs} → File w f → Sem LFile vs w (OfFile f ∷ vs)
  sem_no_regs : {vs : List Val} (c : Span) →
      Sem LRegs vs (tok k.RightBrace c ∷ []) (OfFile (ending (raw_regs []) c.end) ∷ vs)
  sem_regs : {vs : List Val} {w : List Token} {rs : List RawReg} (c : Span) → Rs w rs →
      Sem LRegs vs (w ++ tok k.RightBrace c ∷ []) (OfFile (ending (raw_regs rs) c.end) ∷ vs)
  sem_reg_commas : {vs us : List Val} {w : List Token} → Extends table registers Rs Rs w vs us → Sem LMoreRegs vs w us
  sem_T : {vs : List Val} {w : List Token} {t : Piece RawTy} → T w t → Sem LT vs w (OfType t ∷ vs)
  sem_no_fields : {vs : List Val} (c : Span) →
      Sem LFields vs (tok k.RightAngle c ∷ []) (OfType (ending (RTuple (raw_fields [])) c.end) ∷ vs)
  sem_fields : {vs : List Val} {w : List Token} {fs : List RawField} (c : Span) → Fs w fs →
      Sem LFields vs (w ++ tok k.RightAngle c ∷ []) (OfType (ending (RTuple (raw_fields fs)) c.end) ∷ vs)
  sem_field_commas : {vs us : List Val} {w : List Token} → Extends table fields Fs Fs w vs us → Sem LMoreFields vs w us
  sem_no_list : {vs : List Val} (o c : Span) →
      Sem LTypes vs (tok k.LeftBracket o ∷ (tok k.RightBracket c ∷ [])) (OfList (ending [] c.end) ∷ vs)
  sem_list : {vs : List Val} {w : List Token} {ts : List RawTy} (o c : Span) → Ts w ts →
      Sem LTypes vs (tok k.LeftBracket o ∷ (w ++ tok k.RightBracket c ∷ [])) (OfList (ending ts c.end) ∷ vs)
  sem_no_types : {vs : List Val} (c : Span) →
      Sem LTypeList vs (tok k.RightBracket c ∷ []) (OfList (ending [] c.end) ∷ vs)
  sem_type_list : {vs : List Val} {w : List Token} {ts : List RawTy} (c : Span) → Ts w ts →
      Sem LTypeList vs (w ++ tok k.RightBracket c ∷ []) (OfList (ending ts c.end) ∷ vs)
  sem_some_types : {vs : List Val} {w : List Token} {ts : List RawTy} (c : Span) → Ts w ts →
      Sem LSomeTypes vs (w ++ tok k.RightBracket c ∷ []) (OfList (ending ts c.end) ∷ vs)
  sem_type_commas : {vs us : List Val} {w : List Token} → Extends table types Ts Ts w vs us → Sem LMoreTypes vs w us
  sem_V : {vs : List Val} {w : List Token} {v : Piece RawValue} → V w v → Sem LV vs w (OfValue v ∷ vs)
  sem_args : {vs us : List Val} {w : List Token} → Extends table value Bare V w vs us → Sem LArgs vs w us
  sem_packed : {vs : List Val} {u v : List Token} {t : Piece RawTy} {x : Piece RawValue} (o m c : Span) → T u t →
      V v x →
      Sem LPacked vs (tok k.LeftBracket o ∷ (u ++ tok k.Comma m ∷ (v ++ tok k.RightBracket c ∷ [])))
      (OfPacked (record { hidden = t.tree; inner = x.tree }) ∷ vs)
  sem_to : {vs : List Val} (r : ℕ) (s c : Span) →
      Sem LTo vs (tok (k.Register r) s ∷ (tok k.Comma c ∷ [])) (OfReg r ∷ vs)
  sem_at : {vs : List Val} (r : ℕ) (z : ℤ) (s o f c : Span) →
      Sem LAt vs (tok (k.Register r) s ∷ (tok k.LeftBracket o ∷ (tok (k.Plain z) f ∷ (tok k.RightBracket c ∷ []))))
      (OfAt (record { reg = r; field = nat_abs z; end = c.end }) ∷ vs)
  sem_index : {vs : List Val} (z : ℤ) (o f c : Span) →
      Sem LIndex vs (tok k.LeftBracket o ∷ (tok (k.Plain z) f ∷ (tok k.RightBracket c ∷ [])))
      (OfIndex (ending (nat_abs z) c.end) ∷ vs)
  sem_target : {vs : List Val} (r : ℕ) (o n m s c : Span) →
      Sem LTarget vs
      (tok k.LeftBracket o
      ∷ (tok k.Name n ∷ (tok k.Comma m ∷ (tok (k.Register r) s ∷ (tok k.RightBracket c ∷ [])))))
      (OfTarget (record { name = n; reg = r }) ∷ vs)
  sem_int : {vs : List Val} (o i c : Span) →
      Sem LInt vs (tok k.LeftBracket o ∷ (tok k.Int i ∷ (tok k.RightBracket c ∷ []))) (OfPlace c.end ∷ vs)
  sem_I : {vs : List Val} {w : List Token} {i : RawInstr × Span} → I w i → Sem LI vs w (OfStep i ∷ vs)
  sem_steps : {vs us : List Val} {w : List Token} → Extends table steps Is Is w vs us → Sem LMoreSteps vs w us
  sem_End : {vs : List Val} {w : List Token} {e : RawEnd × Span} → End w e → Sem LEnd vs w (OfEnd e ∷ vs)

abbrev pub meaning : Meaning table
meaning = record { Is = λ c t. IsOf c t; Sem = λ n vs w us. Sem n vs w us }

abbrev pub Meets : Stack → List Val → List Token → List Val → Type 0
Meets s vs w r = Matches table meaning s vs w r

pub along : {s : Stack} {vs r : List Val} {u w : List Token} → Meets s vs u r → u ≡ w → Meets s vs w r
along m e = rules.along table meaning e m

-- the values are those
pub with_values : {s : Stack} {vs us r : List Val} {w : List Token} → vs ≡ us → Meets s vs w r → Meets s us w r
with_values e m = rules.with_values table meaning e m

abbrev pub Begun : Line → Kind → Stack → Span → Type 0
Begun n c rhs o = (s : Stack) (vs r : List Val) (w : List Token) → Meets (rhs ++ s) (OfToken (tok c o) ∷ vs) w r →
    Meets (Nt n ∷ s) vs (tok c o ∷ w) r
