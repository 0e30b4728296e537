-- What the reading functions promise, by the table.
use Rattle.std.specs.Prelude.{◌≡◌, ◌<◌, ◌≤◌, ℕ, ◌+◌, List, [], ◌∷◌, length, map, drop, slice_get, is_some, Bool, true}
use Rattle.std.specs.Prelude.{false, Option, Some, None, Result, MatchResult}
use Rattle.idx_core.specs.declared.arith.Op.{Op}
use Rattle.idx_core.specs.declared.span.Span.{Span}
use Rattle.text_core.specs.Table.{Nt, Tm, Do, Fine, bounded, whole}
use Rattle.text_core.specs.Table as table_of
use Rattle.text_core.specs.Going.{Goes, next_of}
use Rattle.text_core.specs.Going as going
use Rattle.t_text.specs.declared.token.Token.{Token}
use Rattle.t_text.specs.declared.wanted.Wanted.TheVariants as want
use Rattle.t_text.specs.Raw as tree
use Rattle.t_text.specs.Raw.{ending, block_items}
use Rattle.t_text.specs.Text.{most_open}
use Rattle.t_text.specs.GrammarTable.{table, fits, Line, Stack, LTo, LV, LPacked, LAt, LIndex, LTypes, LTypeList}
use Rattle.t_text.specs.GrammarTable.{LSomeTypes, LTarget, LInt, LI, LEnd, LBlock, LBinds, LFile, LT, LHeader}
use Rattle.t_text.specs.GrammarTable.{LMoreSteps, LMoreBlocks, LW, LWordPacked, LTuple, LDatums, LItem, LSomeItems}
use Rattle.t_text.specs.GrammarTable.{LMoreItems, header_after, MakeBnz, MakeLd, MakeMalloc, MakeMov, MakeSt}
use Rattle.t_text.specs.GrammarTable.{MakeUnpack, MakeNoSteps, MakeFirstBlock, MakeNoItems, arith_owed, blocks_owed}
use Rattle.t_text.specs.GrammarTable.{items_owed, instr_after, OfToken, OfType, OfStep, OfSteps, OfFile, OfNames}
use Rattle.t_text.specs.GrammarTable.{OfBlocks, OfList, OfIndex, OfAt, OfTarget, OfPlace, OfReg, OfValue, OfPacked}
use Rattle.t_text.specs.GrammarTable.{OfEnd, OfBlock, OfWord, OfTuple, OfItem, OfItems, Val}
use Rattle.t_shapes.specs.RawTypes.{raw, raw_file}
use Rattle.t_shapes.specs.ReadsTypes.{ReadsOwed, Fails, IsLine}
use Rattle.t_shapes.specs.declared.cursor.Stopped.{Stopped}
use Rattle.t_shapes.specs.declared.cursor.Stopped.TheVariants.{Memory, Unexpected, TooDeep}
use Rattle.t_shapes.specs.Raw.{raw_value, raw_step, raw_last, raw_block, raw_datum, raw_item, raw_items, is_block}
use Rattle.t_shapes.specs.declared.raw.RawItem.{RawItem}
use Rattle.t_shapes.specs.declared.lists.FoundTypes.{FoundTypes}
use Rattle.t_shapes.specs.declared.parts.FoundIndex.{FoundIndex}
use Rattle.t_shapes.specs.declared.parts.FoundPlace.{FoundPlace}
use Rattle.t_shapes.specs.declared.parts.FoundTarget.{FoundTarget}
use Rattle.t_shapes.specs.declared.values.FoundValue.{FoundValue}
use Rattle.t_shapes.specs.declared.values.FoundPacked.{FoundPacked}
use Rattle.t_shapes.specs.declared.steps.FoundStep.{FoundStep}
use Rattle.t_shapes.specs.declared.ends.FoundEnd.{FoundEnd}
use Rattle.t_shapes.specs.declared.heads.FoundHead.{FoundHead}
use Rattle.t_shapes.specs.declared.blocks.FoundSteps.{FoundSteps}
use Rattle.t_shapes.specs.declared.blocks.FoundBlock.{FoundBlock}
use Rattle.t_shapes.specs.declared.data.FoundTuple.{FoundTuple}
use Rattle.t_shapes.specs.declared.data.FoundDatum.{FoundDatum}
use Rattle.t_shapes.specs.declared.items.FoundItem.{FoundItem}
use Rattle.t_shapes.specs.declared.items.FoundItems.{FoundItems}
use Rattle.t_shapes.specs.declared.whole.Version.{Version}
use Rattle.t_shapes.specs.declared.whole.Version.TheVariants.{Blocks, Items}
use Rattle.t_shapes.specs.declared.turns.SoFar.{SoFar}

-- what is owed of an instruction after its word
abbrev pub arith_left : Op → Stack
arith_left op = arith_owed op

abbrev pub bnz_left : Stack
bnz_left = Nt LTo ∷ (Nt LV ∷ (Do MakeBnz ∷ []))

abbrev pub ld_left : Stack
ld_left = Nt LTo ∷ (Nt LAt ∷ (Do MakeLd ∷ []))

abbrev pub malloc_left : Stack
malloc_left = Tm want.Register ∷ (Nt LTypes ∷ (Do MakeMalloc ∷ []))

abbrev pub mov_left : Stack
mov_left = Nt LTo ∷ (Nt LV ∷ (Do MakeMov ∷ []))

abbrev pub st_left : Stack
st_left = Nt LAt ∷ (Tm want.Comma ∷ (Tm want.Register ∷ (Do MakeSt ∷ [])))

abbrev pub unpack_left : Stack
unpack_left = Nt LTarget ∷ (Tm want.Comma ∷ (Nt LV ∷ (Do MakeUnpack ∷ [])))

-- it is read after the word
abbrev pub ReadsStep : Stack → List Token → ℕ → Token → FoundStep → Type 0
ReadsStep left ts i word f =
    going.Reads table most_open ts 0 i left (OfToken word ∷ []) f.next [] (OfStep (raw_step f.step) ∷ [])

-- whether the next token begins an instruction
abbrev pub step_next : Option Token → Bool
step_next None = false
step_next (Some c) = is_some (instr_after c.kind)

-- [ names ] File .
abbrev pub head_owed : Stack
head_owed = Nt LBinds ∷ (Nt LFile ∷ (Tm want.Dot ∷ []))

pub record ReadsHead (ts : List Token) (i : ℕ) (f : FoundHead) : Type 0 where
  pub end : ℕ
  pub dot : Token
  pub reads : ReadsOwed head_owed ts 0 i f.next
      (OfToken dot ∷ (OfFile (ending (raw_file f.file) end) ∷ (OfNames f.names.items ∷ [])))

-- I .. I
abbrev pub steps_owed : Stack
steps_owed = Do MakeNoSteps ∷ (Nt LMoreSteps ∷ [])

pub record ReadsSteps (ts : List Token) (i : ℕ) (f : FoundSteps) : Type 0 where
  pub forward : i ≤ f.next
  pub in_range : f.next ≤ length ts
  pub same : Goes table most_open ts 0 i steps_owed [] f.next [] (OfSteps (map raw_step f.steps.items) ∷ [])

-- some instructions were read, and there may be more
pub record ReadsSomeSteps (ts : List Token) (i j : ℕ) (is : List (tree.RawInstr × Span)) : Type 0 where
  pub forward : i ≤ j
  pub in_range : j ≤ length ts
  pub same : Goes table most_open ts 0 i steps_owed [] j (Nt LMoreSteps ∷ []) (OfSteps is ∷ [])

-- [ names ] File . I .. I End, and the block with this label that it is of
abbrev pub code_parts : Stack
code_parts = Nt LBinds ∷ (Nt LFile ∷ (Tm want.Dot ∷ (Do MakeNoSteps ∷ (Nt LMoreSteps ∷ (Nt LEnd ∷ [])))))

pub record ReadsCode (ts : List Token) (i : ℕ) (name : Span) (f : FoundBlock) : Type 0 where
  pub is : f.block.name ≡ name
  pub end : ℕ
  pub dot : Token
  pub reads : ReadsOwed code_parts ts 0 i f.next
      (OfEnd (raw_last f.block.last) ∷ (OfSteps (map raw_step f.block.body.items) ∷
      (OfToken dot ∷ (OfFile (ending (raw_file f.block.file) end) ∷ (OfNames f.block.names.items ∷ [])))))

-- W : T, in the bracket of a data tuple
abbrev pub datum_owed : Stack
datum_owed = Nt LW ∷ (Tm want.Colon ∷ (Nt LT ∷ []))

pub record ReadsDatum (ts : List Token) (i : ℕ) (f : FoundDatum) : Type 0 where
  pub colon : Token
  pub end : ℕ
  pub reads : ReadsOwed datum_owed ts 1 i f.next
      (OfType (ending (raw f.datum.ty) end) ∷ (OfToken colon ∷ (OfWord (raw_value f.datum.value, f.datum.place) ∷ [])))

-- an item, which the word after its label tells
abbrev pub item_owed : Stack
item_owed = Tm want.Name ∷ (Tm want.Colon ∷ (Nt LItem ∷ []))

abbrev pub is_code : Option Token → Bool
is_code None = false
is_code (Some c) = fits want.Code c.kind

pub record ReadsItem (ts : List Token) (i : ℕ) (f : FoundItem) : Type 0 where
  pub kind : is_block (raw_item f.item) ≡ is_code (slice_get ts (i + 2))
  pub reads : ReadsOwed item_owed ts 0 i f.next (OfItem (raw_item f.item) ∷ [])

-- items of which one is a block
abbrev pub some_owed : Stack
some_owed = Do MakeNoItems ∷ (Nt LSomeItems ∷ [])

-- some items were read; as long as none is a block, one is owed, and else there may be more
abbrev pub items_line : Bool → Line
items_line true = LMoreItems
items_line false = LSomeItems

pub record ReadsSomeItems (ts : List Token) (i j : ℕ) (has_block : Bool) (xs : List tree.RawItem) : Type 0 where
  pub forward : i ≤ j
  pub moved : has_block ≡ true → i < j
  pub in_range : j ≤ length ts
  pub same : Goes table most_open ts 0 i some_owed [] j (Nt (items_line has_block) ∷ []) (OfItems xs ∷ [])

-- Block .. Block, one or more
abbrev pub all_blocks : Stack
all_blocks = Nt LBlock ∷ (Do MakeFirstBlock ∷ (Nt LMoreBlocks ∷ []))

pub record ReadsBlocks (ts : List Token) (i : ℕ) (f : FoundItems) : Type 0 where
  pub blocks : List tree.RawBlock
  pub are : block_items blocks ≡ raw_items f.items.items
  pub reads : ReadsOwed all_blocks ts 0 i f.next (OfBlocks blocks ∷ [])

-- some blocks were read, and there may be more
pub record ReadsSomeBlocks (ts : List Token) (i j : ℕ) (xs : List tree.RawItem) : Type 0 where
  pub blocks : List tree.RawBlock
  pub are : block_items blocks ≡ xs
  pub forward : i < j
  pub in_range : j ≤ length ts
  pub same : Goes table most_open ts 0 i all_blocks [] j (Nt LMoreBlocks ∷ []) (OfBlocks blocks ∷ [])

-- what a header's number heads
abbrev pub version_owed : Option Version → Option Stack
version_owed None = None
version_owed (Some Blocks) = Some blocks_owed
version_owed (Some Items) = Some items_owed

-- the first two tokens are a header of what is owed
pub record Headed (ts : List Token) (owed : Stack) : Type 0 where
  pub tal : Token
  pub number : Token
  pub first : next_of table want.Tal (slice_get ts 0) ≡ Some tal
  pub second : slice_get ts 1 ≡ Some number
  pub heads : header_after number.kind ≡ Some owed

-- blocks behind a header were read up to the token j, or none yet
abbrev pub HasBlocks : List Token → Bool → ℕ → List tree.RawItem → Type 0
HasBlocks ts false j xs = (j ≡ 2) × (xs ≡ [])
HasBlocks ts true j xs = ReadsSomeBlocks ts 2 j xs

-- these are the items of a program that were read so far
abbrev pub HasReadAs : Version → List Token → Bool → ℕ → List tree.RawItem → Type 0
HasReadAs Blocks ts b j xs = Headed ts blocks_owed × HasBlocks ts b j xs
HasReadAs Items ts b j xs = Headed ts items_owed × ReadsSomeItems ts 2 j b xs

abbrev pub HasRead : List Token → SoFar → List tree.RawItem → Type 0
HasRead ts s xs = HasReadAs s.version ts s.has_block s.next xs

-- all the tokens are a program with these items
abbrev pub AreProgram : List Token → List tree.RawItem → Type 0
AreProgram ts xs = bounded table most_open ts (whole table ts) ≡ Fine (OfItems xs ∷ [])

-- all the tokens are a program, with these items; or the reading of them stops
abbrev pub IsProgram : List Token → List RawItem → Type 0
IsProgram ts xs = bounded table most_open ts (whole table ts) ≡ Fine (OfItems (raw_items xs) ∷ [])

abbrev pub IsStop : List Token → Stopped → Type 0
IsStop ts Memory = Unit {0}
IsStop ts (Unexpected j) = bounded table most_open ts (whole table ts) ≡ table_of.Unexpected (drop j ts)
IsStop ts (TooDeep j) = bounded table most_open ts (whole table ts) ≡ table_of.Passed (drop j ts)

-- The answers of the reading functions, from the token i on. Around values d constructs are open, and around the parts
-- of instructions and blocks none.

-- types in brackets; after the opening bracket; and after it where there is one at least
abbrev pub IsTypesLine : Line → List Token → ℕ → ℕ → Result FoundTypes Stopped → Type 0
IsTypesLine n ts d i r = IsLine n (λ f. f.next) (λ f. OfList (ending (map raw f.types.items) f.end)) ts d i r

abbrev pub IsTypes : List Token → ℕ → ℕ → Result FoundTypes Stopped → Type 0
IsTypes ts d i r = IsTypesLine LTypes ts d i r

abbrev pub IsTypeList : List Token → ℕ → ℕ → Result FoundTypes Stopped → Type 0
IsTypeList ts d i r = IsTypesLine LTypeList ts d i r

abbrev pub IsSomeTypes : List Token → ℕ → ℕ → Result FoundTypes Stopped → Type 0
IsSomeTypes ts d i r = IsTypesLine LSomeTypes ts d i r

-- the lines of a value and of the brackets of a package, and what is made of a value, of data or not
abbrev pub value_line : Bool → Line
value_line false = LV
value_line true = LW

abbrev pub packed_line : Bool → Line
packed_line false = LPacked
packed_line true = LWordPacked

abbrev pub of_value : Bool → tree.RawValue → Span → Val
of_value false v place = OfValue (ending v place.end)
of_value true v place = OfWord (v, place)

abbrev pub IsValue : Bool → List Token → ℕ → ℕ → Result FoundValue Stopped → Type 0
IsValue b ts d i r = IsLine (value_line b) (λ f. f.next) (λ f. of_value b (raw_value f.value) f.place) ts d i r

abbrev pub IsPacked : Bool → List Token → ℕ → ℕ → Result FoundPacked Stopped → Type 0
IsPacked b ts d i r =
    IsLine (packed_line b) (λ f. f.next)
    (λ f. OfPacked (record { hidden = raw f.hidden; inner = raw_value f.inner })) ts d i r

-- [ n ]
abbrev pub IsIndex : List Token → ℕ → Result FoundIndex Stopped → Type 0
IsIndex ts i r = IsLine LIndex (λ f. i + 3) (λ f. OfIndex (ending f.field f.end)) ts 0 i r

-- reg [ n ]
abbrev pub IsRegField : List Token → ℕ → Result FoundPlace Stopped → Type 0
IsRegField ts i r =
    IsLine LAt (λ f. i + 4) (λ f. OfAt (record { reg = f.reg; field = f.field; end = f.end })) ts 0 i r

-- [ name , reg ]
abbrev pub IsTarget : List Token → ℕ → Result FoundTarget Stopped → Type 0
IsTarget ts i r = IsLine LTarget (λ f. i + 5) (λ f. OfTarget (record { name = f.name; reg = f.reg })) ts 0 i r

-- [ int ]
abbrev pub IsInt : List Token → ℕ → Result ℕ Stopped → Type 0
IsInt ts i r = IsLine LInt (λ end. i + 3) (λ end. OfPlace end) ts 0 i r

-- reg ,
abbrev pub IsOperand : List Token → ℕ → Result ℕ Stopped → Type 0
IsOperand ts i r = IsLine LTo (λ reg. i + 2) (λ reg. OfReg reg) ts 0 i r

-- what is left of an instruction after its word
abbrev pub IsRest : Stack → List Token → ℕ → Token → Result FoundStep Stopped → Type 0
IsRest left ts i word r =
    MatchResult r (λ f. ReadsStep left ts i word f) (λ e. Fails ts 0 i left (OfToken word ∷ []) e)

abbrev pub IsStep : List Token → ℕ → Result FoundStep Stopped → Type 0
IsStep ts i r = IsLine LI (λ f. f.next) (λ f. OfStep (raw_step f.step)) ts 0 i r

abbrev pub IsEnd : List Token → ℕ → Result FoundEnd Stopped → Type 0
IsEnd ts i r = IsLine LEnd (λ f. f.next) (λ f. OfEnd (raw_last f.last)) ts 0 i r

abbrev pub IsHead : List Token → ℕ → Result FoundHead Stopped → Type 0
IsHead ts i r = MatchResult r (λ f. ReadsHead ts i f) (λ e. Fails ts 0 i head_owed [] e)

abbrev pub AreSteps : List Token → ℕ → Result FoundSteps Stopped → Type 0
AreSteps ts i r = MatchResult r (λ f. ReadsSteps ts i f) (λ e. Fails ts 0 i steps_owed [] e)

abbrev pub IsBlock : List Token → ℕ → Result FoundBlock Stopped → Type 0
IsBlock ts i r = IsLine LBlock (λ f. f.next) (λ f. OfBlock (raw_block f.block)) ts 0 i r

abbrev pub IsCode : List Token → ℕ → Span → Result FoundBlock Stopped → Type 0
IsCode ts i name r = MatchResult r (λ f. ReadsCode ts i name f) (λ e. Fails ts 0 i code_parts [] e)

-- a field of a data tuple; a data tuple, and one after its opening bracket
abbrev pub IsDatum : List Token → ℕ → Result FoundDatum Stopped → Type 0
IsDatum ts i r = MatchResult r (λ f. ReadsDatum ts i f) (λ e. Fails ts 1 i datum_owed [] e)

abbrev pub IsTupleLine : Line → List Token → ℕ → ℕ → Result FoundTuple Stopped → Type 0
IsTupleLine n ts d i r = IsLine n (λ f. f.next) (λ f. OfTuple (map raw_datum f.fields.items)) ts d i r

abbrev pub IsTuple : List Token → ℕ → Result FoundTuple Stopped → Type 0
IsTuple ts i r = IsTupleLine LTuple ts 0 i r

abbrev pub AreDatums : List Token → ℕ → Result FoundTuple Stopped → Type 0
AreDatums ts i r = IsTupleLine LDatums ts 1 i r

abbrev pub IsItem : List Token → ℕ → Result FoundItem Stopped → Type 0
IsItem ts i r = MatchResult r (λ f. ReadsItem ts i f) (λ e. Fails ts 0 i item_owed [] e)

abbrev pub AreItems : List Token → ℕ → Result FoundItems Stopped → Type 0
AreItems ts i r =
    MatchResult r (λ f. ReadsOwed some_owed ts 0 i f.next (OfItems (raw_items f.items.items) ∷ []))
    (λ e. Fails ts 0 i some_owed [] e)

abbrev pub AreBlocks : List Token → ℕ → Result FoundItems Stopped → Type 0
AreBlocks ts i r = MatchResult r (λ f. ReadsBlocks ts i f) (λ e. Fails ts 0 i all_blocks [] e)

-- the number of a header, and what it heads
abbrev pub IsHeaded : List Token → ℕ → Result FoundItems Stopped → Type 0
IsHeaded ts i r = IsLine LHeader (λ f. f.next) (λ f. OfItems (raw_items f.items.items)) ts 0 i r
