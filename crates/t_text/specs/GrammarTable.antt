-- The table of the grammar: how it is read one token ahead.
use Rattle.std.specs.Prelude.{ℕ, ℤ, pos, nat_abs, ◌==◌, ◌||◌, if◌then◌else◌, List, [], ◌∷◌, ◌++◌, Option, Some, None}
use Rattle.std.specs.Prelude.{Bool, true, false}
use Rattle.idx_core.specs.declared.span.Span.{Span}
use Rattle.idx_core.specs.declared.arith.Op.{Op}
use Rattle.idx_core.specs.declared.arith.Op.TheVariants.{Add, Sub, Mul}
use Rattle.t_text.specs.declared.token.Kind.{Kind}
use Rattle.t_text.specs.declared.token.Kind.TheVariants as k
use Rattle.t_text.specs.declared.token.Token.{Token}
use Rattle.t_text.specs.declared.wanted.Wanted.{Wanted}
use Rattle.t_text.specs.declared.wanted.Wanted.TheVariants as want
use Rattle.text_core.specs.Table as table_of
use Rattle.text_core.specs.Table.{Sym, Tm, Nt, Do, Mark, Table, then_more}
use Rattle.t_text.specs.Raw.{RawTy, RInt, RName, RCode, RSome, RTuple, RawRegs, RawReg, RawField, raw_regs, raw_fields}
use Rattle.t_text.specs.Raw.{RawBase, RReg, RNum, RLabel, RawValue, RPlain, RPack, RawInstr, RArith, RBnz, RLd}
use Rattle.t_text.specs.Raw.{RMalloc, RMov, RSt, RUnpack, RawEnd, RJmp, RHalt, RawBlock, RawDatum, RawItem, BlockItem}
use Rattle.t_text.specs.Raw.{DataItem, block_items, Piece, ending, up_to}
use Rattle.t_text.specs.Grammar.{datum, Program, open_Program}

-- the lines: those of the grammar, what stands in brackets of its forms, and what may follow on a part
pub data Line : Type 0 where
  LProgram : Line
  -- what follows on the word of the header: its number, and what it heads
  LHeader : Line
  LBlock : Line
  LMoreBlocks : Line
  -- items of which one is a block, and what follows on the label of the first of them; any more items
  LSomeItems : Line
  LFirst : Line
  LMoreItems : Line
  -- what follows on the label of an item
  LItem : Line
  -- < > or < W : T , .. , W : T >, what follows on the bracket, and more fields
  LTuple : Line
  LDatums : Line
  LMoreDatums : Line
  -- [ names ], and what follows on the bracket
  LBinds : Line
  LNames : Line
  LMoreNames : Line
  -- { .. }, and what follows on the brace
  LFile : Line
  LRegs : Line
  LMoreRegs : Line
  LT : Line
  LFields : Line
  LMoreFields : Line
  -- [ ] or [ T , .. , T ], what follows on the bracket, and T , .. , T ]
  LTypes : Line
  LTypeList : Line
  LSomeTypes : Line
  LMoreTypes : Line
  LV : Line
  -- [ T , .. , T ] after a base, or nothing
  LArgs : Line
  -- [ T , V ]
  LPacked : Line
  -- the same of the values of data
  LW : Line
  LWordArgs : Line
  LWordPacked : Line
  -- reg ,
  LTo : Line
  -- reg [ n ], and [ n ]
  LAt : Line
  LIndex : Line
  -- [ name , reg ]
  LTarget : Line
  -- [ int ]
  LInt : Line
  LI : Line
  LMoreSteps : Line
  LEnd : Line

-- what is made where a form is whole
pub data Act : Type 0 where
  MakeNoNames : Act
  MakeFirstName : Act
  MakeNextName : Act
  MakeClosedNames : Act
  MakeBinds : Act
  MakeNoRegs : Act
  MakeFirstReg : Act
  MakeNextReg : Act
  MakeClosedRegs : Act
  MakeFile : Act
  MakeTypeInt : Act
  MakeTypeName : Act
  MakeTypeCode : Act
  MakeTypeSome : Act
  MakeNoFields : Act
  MakeFirstField : Act
  MakeNextField : Act
  MakeClosedFields : Act
  MakeTypeTuple : Act
  MakeNoTypes : Act
  MakeFirstType : Act
  MakeNextType : Act
  MakeClosedTypes : Act
  MakeTypes : Act
  MakeBase : Act
  MakeApply : Act
  MakePacked : Act
  MakePack : Act
  MakeTo : Act
  MakeIndex : Act
  MakeAt : Act
  MakeTarget : Act
  MakeInt : Act
  MakeArith : Op → Act
  MakeBnz : Act
  MakeLd : Act
  MakeMalloc : Act
  MakeMov : Act
  MakeSt : Act
  MakeUnpack : Act
  MakeNoSteps : Act
  MakeNextStep : Act
  MakeJmp : Act
  MakeHalt : Act
  MakeBlock : Act
  MakeFirstBlock : Act
  MakeNextBlock : Act
  MakeWord : Act
  MakeWordApply : Act
  MakeWordPacked : Act
  MakeWordPack : Act
  MakeNoDatums : Act
  MakeFirstDatum : Act
  MakeNextDatum : Act
  MakeClosedDatums : Act
  MakeTuple : Act
  MakeBlockItem : Act
  MakeDataItem : Act
  MakeNoItems : Act
  MakeNextItem : Act
  MakeHeaded : Act
  MakeProgram : Act

abbrev pub Stack : Type 0
Stack = List (Sym Wanted Line Act)

-- a type and a value in brackets; a register with a field, and a name with a register, where their brackets end
pub record Packed : Type 0 where
  pub hidden : RawTy
  pub inner : RawValue

pub record FieldAt : Type 0 where
  pub reg : ℕ
  pub field : ℕ
  pub end : ℕ

pub record Target : Type 0 where
  pub name : Span
  pub reg : ℕ

-- the values: tokens, and the trees made of them
pub data Val : Type 0 where
  OfToken : Token → Val
  OfNames : List Span → Val
  OfType : Piece RawTy → Val
  OfRegs : List RawReg → Val
  OfFile : Piece RawRegs → Val
  OfFields : List RawField → Val
  OfTypes : List RawTy → Val
  OfList : Piece (List RawTy) → Val
  OfValue : Piece RawValue → Val
  OfPacked : Packed → Val
  OfReg : ℕ → Val
  OfIndex : Piece ℕ → Val
  OfAt : FieldAt → Val
  OfTarget : Target → Val
  OfPlace : ℕ → Val
  OfStep : RawInstr × Span → Val
  OfSteps : List (RawInstr × Span) → Val
  OfEnd : RawEnd × Span → Val
  OfBlock : RawBlock → Val
  OfBlocks : List RawBlock → Val
  OfWord : RawValue × Span → Val
  OfDatums : List RawDatum → Val
  OfTuple : List RawDatum → Val
  OfItem : RawItem → Val
  OfItems : List RawItem → Val

abbrev pub one_value : ℤ → Bool
one_value (pos n) = n == 1
one_value _ = false

abbrev pub flag_value : ℤ → Bool
flag_value (pos n) = n == 0 || n == 1
flag_value _ = false

abbrev pub zero_value : ℤ → Bool
zero_value (pos n) = n == 0
zero_value _ = false

abbrev pub fits : Wanted → Kind → Bool
fits want.Name k.Name = true
fits want.Register (k.Register r) = true
fits want.Number (k.Plain z) = true
fits want.Flag (k.Plain z) = flag_value z
fits want.Flag (k.Negative z) = zero_value z
fits want.LeftBracket k.LeftBracket = true
fits want.RightBracket k.RightBracket = true
fits want.LeftBrace k.LeftBrace = true
fits want.RightBrace k.RightBrace = true
fits want.RightAngle k.RightAngle = true
fits want.Comma k.Comma = true
fits want.Dot k.Dot = true
fits want.Colon k.Colon = true
fits want.Caret k.Caret = true
fits want.Tal k.Tal = true
fits want.Code k.Code = true
fits want.As k.As = true
fits want.Int k.Int = true
fits _ _ = false

-- the number of a register token, the value of a number, and the flag that it is
abbrev pub register_of : Kind → ℕ
register_of (k.Register r) = r
register_of _ = 0

abbrev pub value_of : Kind → ℤ
value_of (k.Plain z) = z
value_of (k.Negative z) = z
value_of _ = pos 0

abbrev pub flag_of : Kind → Bool
flag_of n = one_value (value_of n)

-- what a value begins with
abbrev pub base_of : Kind → Span → RawBase
base_of (k.Register r) s = RReg r
base_of (k.Plain z) s = RNum z
base_of (k.Negative z) s = RNum z
base_of _ s = RLabel s

abbrev pub applied : RawValue → List RawTy → RawValue
applied (RPlain b us) ts = RPlain b ts
applied (RPack t v s) ts = RPack t v s

abbrev pub word_applied : RawValue × Span → Piece (List RawTy) → RawValue × Span
word_applied x l = (applied x.0 l.tree, up_to x.1 l.end)

abbrev pub reg_of : Token → RawTy → RawReg
reg_of r t = record { reg = register_of r.kind; place = r.span; ty = t }

abbrev pub field_of : RawTy → Token → RawField
field_of t n = record { ty = t; flag = flag_of n.kind }

abbrev pub act : Act → List Val → List Val
act MakeNoNames (OfToken c ∷ vs) = OfNames [] ∷ vs
act MakeFirstName (OfToken n ∷ vs) = OfNames (n.span ∷ []) ∷ vs
act MakeNextName (OfToken n ∷ OfToken c ∷ OfNames ns ∷ vs) = OfNames (ns ++ n.span ∷ []) ∷ vs
act MakeClosedNames (OfToken c ∷ vs) = vs
act MakeBinds (OfNames ns ∷ OfToken o ∷ vs) = OfNames ns ∷ vs
act MakeNoRegs (OfToken c ∷ vs) = OfFile (ending (raw_regs []) c.span.end) ∷ vs
act MakeFirstReg (OfType t ∷ OfToken c ∷ OfToken r ∷ vs) = OfRegs (reg_of r t.tree ∷ []) ∷ vs
act MakeNextReg (OfType t ∷ OfToken d ∷ OfToken r ∷ OfToken c ∷ OfRegs rs ∷ vs) =
    OfRegs (rs ++ reg_of r t.tree ∷ []) ∷ vs
act MakeClosedRegs (OfToken c ∷ OfRegs rs ∷ vs) = OfFile (ending (raw_regs rs) c.span.end) ∷ vs
act MakeFile (OfFile f ∷ OfToken o ∷ vs) = OfFile f ∷ vs
act MakeTypeInt (OfToken i ∷ vs) = OfType (ending RInt i.span.end) ∷ vs
act MakeTypeName (OfToken n ∷ vs) = OfType (ending (RName n.span) n.span.end) ∷ vs
act MakeTypeCode (OfFile f ∷ OfNames ns ∷ OfToken a ∷ vs) = OfType (ending (RCode ns f.tree) f.end) ∷ vs
act MakeTypeSome (OfType t ∷ OfToken d ∷ OfToken n ∷ OfToken s ∷ vs) = OfType (ending (RSome n.span t.tree) t.end) ∷ vs
act MakeNoFields (OfToken c ∷ vs) = OfType (ending (RTuple (raw_fields [])) c.span.end) ∷ vs
act MakeFirstField (OfToken n ∷ OfToken h ∷ OfType t ∷ vs) = OfFields (field_of t.tree n ∷ []) ∷ vs
act MakeNextField (OfToken n ∷ OfToken h ∷ OfType t ∷ OfToken c ∷ OfFields fs ∷ vs) =
    OfFields (fs ++ field_of t.tree n ∷ []) ∷ vs
act MakeClosedFields (OfToken c ∷ OfFields fs ∷ vs) = OfType (ending (RTuple (raw_fields fs)) c.span.end) ∷ vs
act MakeTypeTuple (OfType t ∷ OfToken o ∷ vs) = OfType t ∷ vs
act MakeNoTypes (OfToken c ∷ vs) = OfList (ending [] c.span.end) ∷ vs
act MakeFirstType (OfType t ∷ vs) = OfTypes (t.tree ∷ []) ∷ vs
act MakeNextType (OfType t ∷ OfToken c ∷ OfTypes ts ∷ vs) = OfTypes (ts ++ t.tree ∷ []) ∷ vs
act MakeClosedTypes (OfToken c ∷ OfTypes ts ∷ vs) = OfList (ending ts c.span.end) ∷ vs
act MakeTypes (OfList l ∷ OfToken o ∷ vs) = OfList l ∷ vs
act MakeBase (OfToken b ∷ vs) = OfValue (ending (RPlain (base_of b.kind b.span) []) b.span.end) ∷ vs
act MakeApply (OfList l ∷ OfToken o ∷ OfValue v ∷ vs) = OfValue (ending (applied v.tree l.tree) l.end) ∷ vs
act MakePacked (OfToken c ∷ OfValue v ∷ OfToken m ∷ OfType t ∷ OfToken o ∷ vs) =
    OfPacked (record { hidden = t.tree; inner = v.tree }) ∷ vs
act MakePack (OfType s ∷ OfToken a ∷ OfPacked x ∷ OfToken p ∷ vs) =
    OfValue (ending (RPack x.hidden x.inner s.tree) s.end) ∷ vs
act MakeTo (OfToken c ∷ OfToken r ∷ vs) = OfReg (register_of r.kind) ∷ vs
act MakeIndex (OfToken c ∷ OfToken n ∷ OfToken o ∷ vs) = OfIndex (ending (nat_abs (value_of n.kind)) c.span.end) ∷ vs
act MakeAt (OfIndex i ∷ OfToken r ∷ vs) = OfAt (record { reg = register_of r.kind; field = i.tree; end = i.end }) ∷ vs
act MakeTarget (OfToken c ∷ OfToken r ∷ OfToken m ∷ OfToken n ∷ OfToken o ∷ vs) =
    OfTarget (record { name = n.span; reg = register_of r.kind }) ∷ vs
act MakeInt (OfToken c ∷ OfToken i ∷ OfToken o ∷ vs) = OfPlace c.span.end ∷ vs
act (MakeArith op) (OfValue v ∷ OfReg rs ∷ OfReg rd ∷ OfToken a ∷ vs) =
    OfStep (RArith op rd rs v.tree, up_to a.span v.end) ∷ vs
act MakeBnz (OfValue v ∷ OfReg r ∷ OfToken a ∷ vs) = OfStep (RBnz r v.tree, up_to a.span v.end) ∷ vs
act MakeLd (OfAt x ∷ OfReg rd ∷ OfToken a ∷ vs) = OfStep (RLd rd x.reg x.field, up_to a.span x.end) ∷ vs
act MakeMalloc (OfList l ∷ OfToken r ∷ OfToken a ∷ vs) =
    OfStep (RMalloc (register_of r.kind) l.tree, up_to a.span l.end) ∷ vs
act MakeMov (OfValue v ∷ OfReg rd ∷ OfToken a ∷ vs) = OfStep (RMov rd v.tree, up_to a.span v.end) ∷ vs
act MakeSt (OfToken r ∷ OfToken c ∷ OfAt x ∷ OfToken a ∷ vs) =
    OfStep (RSt x.reg x.field (register_of r.kind), up_to a.span r.span.end) ∷ vs
act MakeUnpack (OfValue v ∷ OfToken c ∷ OfTarget x ∷ OfToken a ∷ vs) =
    OfStep (RUnpack x.name x.reg v.tree, up_to a.span v.end) ∷ vs
act MakeNoSteps vs = OfSteps [] ∷ vs
act MakeNextStep (OfStep i ∷ OfSteps is ∷ vs) = OfSteps (is ++ i ∷ []) ∷ vs
act MakeJmp (OfValue v ∷ OfToken a ∷ vs) = OfEnd (RJmp v.tree, up_to a.span v.end) ∷ vs
act MakeHalt (OfPlace e ∷ OfToken a ∷ vs) = OfEnd (RHalt, up_to a.span e) ∷ vs
act MakeBlock (OfEnd e ∷ OfSteps is ∷ OfToken p ∷ OfFile f ∷ OfNames ns ∷ OfToken d ∷ OfToken c ∷ OfToken l ∷ vs) =
    OfBlock (record { name = l.span; names = ns; file = f.tree; body = is; last = e }) ∷ vs
act MakeFirstBlock (OfBlock b ∷ vs) = OfBlocks (b ∷ []) ∷ vs
act MakeNextBlock (OfBlock b ∷ OfBlocks bs ∷ vs) = OfBlocks (bs ++ b ∷ []) ∷ vs
act MakeWord (OfToken b ∷ vs) = OfWord (RPlain (base_of b.kind b.span) [], b.span) ∷ vs
act MakeWordApply (OfList l ∷ OfToken o ∷ OfWord x ∷ vs) = OfWord (word_applied x l) ∷ vs
act MakeWordPacked (OfToken c ∷ OfWord x ∷ OfToken m ∷ OfType t ∷ OfToken o ∷ vs) =
    OfPacked (record { hidden = t.tree; inner = x.0 }) ∷ vs
act MakeWordPack (OfType s ∷ OfToken a ∷ OfPacked x ∷ OfToken p ∷ vs) =
    OfWord (RPack x.hidden x.inner s.tree, up_to p.span s.end) ∷ vs
act MakeNoDatums (OfToken c ∷ vs) = OfTuple [] ∷ vs
act MakeFirstDatum (OfType t ∷ OfToken c ∷ OfWord x ∷ vs) = OfDatums (datum x t.tree ∷ []) ∷ vs
act MakeNextDatum (OfType t ∷ OfToken c ∷ OfWord x ∷ OfToken m ∷ OfDatums xs ∷ vs) =
    OfDatums (xs ++ datum x t.tree ∷ []) ∷ vs
act MakeClosedDatums (OfToken c ∷ OfDatums xs ∷ vs) = OfTuple xs ∷ vs
act MakeTuple (OfTuple xs ∷ OfToken o ∷ vs) = OfTuple xs ∷ vs
act MakeBlockItem (OfBlock b ∷ vs) = OfItem (BlockItem b) ∷ vs
act MakeDataItem (OfTuple xs ∷ OfToken d ∷ OfToken c ∷ OfToken l ∷ vs) =
    OfItem (DataItem (record { name = l.span; fields = xs })) ∷ vs
act MakeNoItems vs = OfItems [] ∷ vs
act MakeNextItem (OfItem x ∷ OfItems xs ∷ vs) = OfItems (xs ++ x ∷ []) ∷ vs
act MakeHeaded (OfBlocks bs ∷ OfToken n ∷ vs) = OfItems (block_items bs) ∷ vs
act MakeHeaded (OfItems xs ∷ OfToken n ∷ vs) = OfItems xs ∷ vs
act MakeProgram (OfItems xs ∷ OfToken t ∷ vs) = OfItems xs ∷ vs
act _ vs = vs

-- what is still owed of a line after its first token, or none where it cannot begin with it
abbrev pub binds_after : Kind → Option Stack
binds_after k.LeftBracket = Some (Nt LNames ∷ (Mark ∷ (Do MakeBinds ∷ [])))
binds_after _ = None

abbrev pub name_list_after : Kind → Option Stack
name_list_after k.RightBracket = Some (Do MakeNoNames ∷ [])
name_list_after k.Name = Some (Do MakeFirstName ∷ (Nt LMoreNames ∷ (Tm want.RightBracket ∷ (Do MakeClosedNames ∷ []))))
name_list_after _ = None

abbrev pub name_commas_after : Kind → Option Stack
name_commas_after k.Comma = Some (Tm want.Name ∷ (Do MakeNextName ∷ (Nt LMoreNames ∷ [])))
name_commas_after _ = None

abbrev pub file_after : Kind → Option Stack
file_after k.LeftBrace = Some (Nt LRegs ∷ (Mark ∷ (Do MakeFile ∷ [])))
file_after _ = None

abbrev pub regs_after : Kind → Option Stack
regs_after k.RightBrace = Some (Do MakeNoRegs ∷ [])
regs_after (k.Register r) =
    Some (Tm want.Colon ∷
    (Nt LT ∷ (Do MakeFirstReg ∷ (Nt LMoreRegs ∷ (Tm want.RightBrace ∷ (Do MakeClosedRegs ∷ []))))))
regs_after _ = None

abbrev pub reg_commas_after : Kind → Option Stack
reg_commas_after k.Comma = Some (Tm want.Register ∷ (Tm want.Colon ∷ (Nt LT ∷ (Do MakeNextReg ∷ (Nt LMoreRegs ∷ [])))))
reg_commas_after _ = None

abbrev pub type_after : Kind → Option Stack
type_after k.Int = Some (Do MakeTypeInt ∷ [])
type_after k.Name = Some (Do MakeTypeName ∷ [])
type_after k.All = Some (Nt LBinds ∷ (Nt LFile ∷ (Do MakeTypeCode ∷ [])))
type_after k.Some = Some (Tm want.Name ∷ (Tm want.Dot ∷ (Nt LT ∷ (Mark ∷ (Do MakeTypeSome ∷ [])))))
type_after k.LeftAngle = Some (Nt LFields ∷ (Mark ∷ (Do MakeTypeTuple ∷ [])))
type_after _ = None

abbrev pub fields_tail : Stack
fields_tail = Tm want.Caret ∷
    (Tm want.Flag ∷ (Do MakeFirstField ∷ (Nt LMoreFields ∷ (Tm want.RightAngle ∷ (Do MakeClosedFields ∷ [])))))

abbrev pub fields_after : Kind → Option Stack
fields_after k.RightAngle = Some (Do MakeNoFields ∷ [])
fields_after c = then_more (type_after c) fields_tail

abbrev pub field_commas_after : Kind → Option Stack
field_commas_after k.Comma =
    Some (Nt LT ∷ (Tm want.Caret ∷ (Tm want.Flag ∷ (Do MakeNextField ∷ (Nt LMoreFields ∷ [])))))
field_commas_after _ = None

abbrev pub types_after : Kind → Option Stack
types_after k.LeftBracket = Some (Nt LTypeList ∷ (Mark ∷ (Do MakeTypes ∷ [])))
types_after _ = None

abbrev pub types_tail : Stack
types_tail = Do MakeFirstType ∷ (Nt LMoreTypes ∷ (Tm want.RightBracket ∷ (Do MakeClosedTypes ∷ [])))

abbrev pub some_types_after : Kind → Option Stack
some_types_after c = then_more (type_after c) types_tail

abbrev pub type_list_after : Kind → Option Stack
type_list_after k.RightBracket = Some (Do MakeNoTypes ∷ [])
type_list_after c = then_more (type_after c) types_tail

abbrev pub type_commas_after : Kind → Option Stack
type_commas_after k.Comma = Some (Nt LT ∷ (Do MakeNextType ∷ (Nt LMoreTypes ∷ [])))
type_commas_after _ = None

abbrev pub base_owed : Stack
base_owed = Do MakeBase ∷ (Nt LArgs ∷ [])

abbrev pub value_after : Kind → Option Stack
value_after (k.Register r) = Some base_owed
value_after (k.Plain z) = Some base_owed
value_after (k.Negative z) = Some base_owed
value_after k.Name = Some base_owed
value_after k.Pack = Some (Nt LPacked ∷ (Tm want.As ∷ (Nt LT ∷ (Do MakePack ∷ []))))
value_after _ = None

abbrev pub args_after : Kind → Option Stack
args_after k.LeftBracket = Some (Nt LSomeTypes ∷ (Mark ∷ (Do MakeApply ∷ [])))
args_after _ = None

abbrev pub packed_after : Kind → Option Stack
packed_after k.LeftBracket =
    Some (Nt LT ∷ (Tm want.Comma ∷ (Nt LV ∷ (Tm want.RightBracket ∷ (Mark ∷ (Do MakePacked ∷ []))))))
packed_after _ = None

abbrev pub to_after : Kind → Option Stack
to_after (k.Register r) = Some (Tm want.Comma ∷ (Do MakeTo ∷ []))
to_after _ = None

abbrev pub at_after : Kind → Option Stack
at_after (k.Register r) = Some (Nt LIndex ∷ (Do MakeAt ∷ []))
at_after _ = None

abbrev pub index_after : Kind → Option Stack
index_after k.LeftBracket = Some (Tm want.Number ∷ (Tm want.RightBracket ∷ (Mark ∷ (Do MakeIndex ∷ []))))
index_after _ = None

abbrev pub target_after : Kind → Option Stack
target_after k.LeftBracket =
    Some (Tm want.Name ∷ (Tm want.Comma ∷ (Tm want.Register ∷ (Tm want.RightBracket ∷ (Mark ∷ (Do MakeTarget ∷ []))))))
target_after _ = None

abbrev pub int_after : Kind → Option Stack
int_after k.LeftBracket = Some (Tm want.Int ∷ (Tm want.RightBracket ∷ (Mark ∷ (Do MakeInt ∷ []))))
int_after _ = None

abbrev pub arith_owed : Op → Stack
arith_owed op = Nt LTo ∷ (Nt LTo ∷ (Nt LV ∷ (Do (MakeArith op) ∷ [])))

abbrev pub instr_after : Kind → Option Stack
instr_after k.Add = Some (arith_owed Add)
instr_after k.Sub = Some (arith_owed Sub)
instr_after k.Mul = Some (arith_owed Mul)
instr_after k.Bnz = Some (Nt LTo ∷ (Nt LV ∷ (Do MakeBnz ∷ [])))
instr_after k.Ld = Some (Nt LTo ∷ (Nt LAt ∷ (Do MakeLd ∷ [])))
instr_after k.Malloc = Some (Tm want.Register ∷ (Nt LTypes ∷ (Do MakeMalloc ∷ [])))
instr_after k.Mov = Some (Nt LTo ∷ (Nt LV ∷ (Do MakeMov ∷ [])))
instr_after k.St = Some (Nt LAt ∷ (Tm want.Comma ∷ (Tm want.Register ∷ (Do MakeSt ∷ []))))
instr_after k.Unpack = Some (Nt LTarget ∷ (Tm want.Comma ∷ (Nt LV ∷ (Do MakeUnpack ∷ []))))
instr_after _ = None

abbrev pub steps_tail : Stack
steps_tail = Do MakeNextStep ∷ (Nt LMoreSteps ∷ [])

abbrev pub steps_after : Kind → Option Stack
steps_after c = then_more (instr_after c) steps_tail

abbrev pub end_after : Kind → Option Stack
end_after k.Jmp = Some (Nt LV ∷ (Do MakeJmp ∷ []))
end_after k.Halt = Some (Nt LInt ∷ (Do MakeHalt ∷ []))
end_after _ = None

-- of a block after `code`, after its label, and of a data tuple after `data`
abbrev pub code_owed : Stack
code_owed = Nt LBinds ∷
    (Nt LFile ∷ (Tm want.Dot ∷ (Do MakeNoSteps ∷ (Nt LMoreSteps ∷ (Nt LEnd ∷ (Do MakeBlock ∷ []))))))

abbrev pub block_owed : Stack
block_owed = Tm want.Colon ∷ (Tm want.Code ∷ code_owed)

abbrev pub data_owed : Stack
data_owed = Nt LTuple ∷ (Do MakeDataItem ∷ [])

abbrev pub block_after : Kind → Option Stack
block_after k.Name = Some block_owed
block_after _ = None

abbrev pub blocks_tail : Stack
blocks_tail = Do MakeNextBlock ∷ (Nt LMoreBlocks ∷ [])

abbrev pub blocks_after : Kind → Option Stack
blocks_after c = then_more (block_after c) blocks_tail

-- the values of data
abbrev pub word_owed : Stack
word_owed = Do MakeWord ∷ (Nt LWordArgs ∷ [])

abbrev pub word_after : Kind → Option Stack
word_after (k.Plain z) = Some word_owed
word_after (k.Negative z) = Some word_owed
word_after k.Name = Some word_owed
word_after k.Pack = Some (Nt LWordPacked ∷ (Tm want.As ∷ (Nt LT ∷ (Do MakeWordPack ∷ []))))
word_after _ = None

abbrev pub word_args_after : Kind → Option Stack
word_args_after k.LeftBracket = Some (Nt LSomeTypes ∷ (Mark ∷ (Do MakeWordApply ∷ [])))
word_args_after _ = None

abbrev pub word_packed_after : Kind → Option Stack
word_packed_after k.LeftBracket =
    Some (Nt LT ∷ (Tm want.Comma ∷ (Nt LW ∷ (Tm want.RightBracket ∷ (Mark ∷ (Do MakeWordPacked ∷ []))))))
word_packed_after _ = None

abbrev pub tuple_after : Kind → Option Stack
tuple_after k.LeftAngle = Some (Nt LDatums ∷ (Mark ∷ (Do MakeTuple ∷ [])))
tuple_after _ = None

abbrev pub datums_tail : Stack
datums_tail = Tm want.Colon ∷
    (Nt LT ∷ (Do MakeFirstDatum ∷ (Nt LMoreDatums ∷ (Tm want.RightAngle ∷ (Do MakeClosedDatums ∷ [])))))

abbrev pub datums_after : Kind → Option Stack
datums_after k.RightAngle = Some (Do MakeNoDatums ∷ [])
datums_after c = then_more (word_after c) datums_tail

abbrev pub datum_commas_after : Kind → Option Stack
datum_commas_after k.Comma =
    Some (Nt LW ∷ (Tm want.Colon ∷ (Nt LT ∷ (Do MakeNextDatum ∷ (Nt LMoreDatums ∷ [])))))
datum_commas_after _ = None

-- the word after an item's label says which it is
abbrev pub item_after : Kind → Option Stack
item_after k.Code = Some (code_owed ++ Do MakeBlockItem ∷ [])
item_after k.Data = Some data_owed
item_after _ = None

abbrev pub items_tail : Stack
items_tail = Do MakeNextItem ∷ (Nt LMoreItems ∷ [])

abbrev pub items_after : Kind → Option Stack
items_after k.Name = Some (Tm want.Colon ∷ (Nt LItem ∷ items_tail))
items_after _ = None

-- as long as no block stood, one is owed
abbrev pub some_items_after : Kind → Option Stack
some_items_after k.Name = Some (Tm want.Colon ∷ (Nt LFirst ∷ []))
some_items_after _ = None

abbrev pub first_after : Kind → Option Stack
first_after k.Code = Some (code_owed ++ Do MakeBlockItem ∷ items_tail)
first_after k.Data = Some (data_owed ++ Do MakeNextItem ∷ (Nt LSomeItems ∷ []))
first_after _ = None

-- by the number's value
abbrev pub blocks_owed : Stack
blocks_owed = Nt LBlock ∷ (Do MakeFirstBlock ∷ (Nt LMoreBlocks ∷ (Do MakeHeaded ∷ [])))

abbrev pub items_owed : Stack
items_owed = Do MakeNoItems ∷ (Nt LSomeItems ∷ (Do MakeHeaded ∷ []))

abbrev pub headed : ℤ → Option Stack
headed (pos n) = if n == 1 then Some blocks_owed else if n == 2 then Some items_owed else None
headed _ = None

abbrev pub header_after : Kind → Option Stack
header_after (k.Plain z) = headed z
header_after _ = None

abbrev pub program_after : Kind → Option Stack
program_after k.Tal = Some (Nt LHeader ∷ (Do MakeProgram ∷ []))
program_after _ = None

abbrev pub after : Line → Kind → Option Stack
after LProgram c = program_after c
after LHeader c = header_after c
after LBlock c = block_after c
after LMoreBlocks c = blocks_after c
after LSomeItems c = some_items_after c
after LFirst c = first_after c
after LMoreItems c = items_after c
after LItem c = item_after c
after LTuple c = tuple_after c
after LDatums c = datums_after c
after LMoreDatums c = datum_commas_after c
after LBinds c = binds_after c
after LNames c = name_list_after c
after LMoreNames c = name_commas_after c
after LFile c = file_after c
after LRegs c = regs_after c
after LMoreRegs c = reg_commas_after c
after LT c = type_after c
after LFields c = fields_after c
after LMoreFields c = field_commas_after c
after LTypes c = types_after c
after LTypeList c = type_list_after c
after LSomeTypes c = some_types_after c
after LMoreTypes c = type_commas_after c
after LV c = value_after c
after LArgs c = args_after c
after LPacked c = packed_after c
after LW c = word_after c
after LWordArgs c = word_args_after c
after LWordPacked c = word_packed_after c
after LTo c = to_after c
after LAt c = at_after c
after LIndex c = index_after c
after LTarget c = target_after c
after LInt c = int_after c
after LI c = instr_after c
after LMoreSteps c = steps_after c
after LEnd c = end_after c

abbrev pub may_end : Line → Bool
may_end LMoreBlocks = true
may_end LMoreItems = true
may_end LMoreDatums = true
may_end LMoreNames = true
may_end LMoreRegs = true
may_end LMoreFields = true
may_end LMoreTypes = true
may_end LArgs = true
may_end LWordArgs = true
may_end LMoreSteps = true
may_end _ = false

abbrev pub table : Table
table = record {
  Tok = Token;
  Tree = List RawItem;
  Shape = λ w t. Program w t;
  opens = λ w t e. open_Program e 0;
  Class = Wanted;
  Line = Line;
  Act = Act;
  Val = Val;
  fits = λ c t. fits c t.kind;
  value = λ t. OfToken t;
  after = λ n t. after n t.kind;
  may_end = may_end;
  act = act;
  tree = λ t. OfItems t;
  first = LProgram;
}

abbrev pub Outcome : Type 0
Outcome = table_of.Outcome table

abbrev pub marks : Stack → ℕ
marks = table_of.marks table

abbrev pub seen : List ℕ → Outcome → Outcome
seen = table_of.seen table

abbrev pub exec : List Token → Stack → List Val → Outcome
exec = table_of.exec table
