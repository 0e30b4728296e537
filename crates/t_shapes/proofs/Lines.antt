-- The lines of values, instructions and blocks by their first tokens.
use Rattle.std.proofs.Common.{◌≡◌, ◌≢◌, ℕ, List, [], ◌∷◌, ◌++◌, slice_get, refl, Some, None, Bool, true, false}
use Rattle.std.proofs.Common.{if◌then◌else◌}
use Rattle.text_core.specs.Table.{Tm, Nt, Do, Mark, then_more}
use Rattle.text_core.proofs.Going as step
use Rattle.t_text.specs.declared.token.Token.{Token}
use Rattle.t_text.specs.declared.token.Kind.{Kind}
use Rattle.t_text.specs.declared.token.Kind.TheVariants as k
use Rattle.t_text.specs.declared.wanted.Wanted.TheVariants as want
use Rattle.t_text.specs.GrammarTable.{table, LT, LTypes, LTypeList, LSomeTypes, LMoreTypes, MakeTypes, MakeFirstType}
use Rattle.t_text.specs.GrammarTable.{MakeNextType, MakeClosedTypes, MakeNoTypes, LArgs, MakeApply}
use Rattle.t_text.specs.GrammarTable.{MakePacked, LTo, MakeTo, LAt, MakeAt, LIndex, MakeIndex, LTarget, MakeTarget}
use Rattle.t_text.specs.GrammarTable.{LInt, MakeInt, LBlock, LMoreBlocks, LProgram, LHeader, MakeProgram, LW, LWordArgs}
use Rattle.t_text.specs.GrammarTable.{MakeWordApply, MakeWordPacked, LDatums, LMoreDatums, MakeNoDatums}
use Rattle.t_text.specs.GrammarTable.{MakeFirstDatum, MakeNextDatum, MakeClosedDatums, LSomeItems, LMoreItems, LFirst}
use Rattle.t_text.specs.GrammarTable.{LItem, MakeNextItem, fits, after, type_list_after, some_types_after, types_tail}
use Rattle.t_text.specs.GrammarTable.{instr_after, block_owed, blocks_tail, end_after}
use Rattle.t_text.specs.GrammarTable.{word_after, datums_after, datums_tail, tuple_after, items_tail}
use Rattle.t_text.specs.GrammarTable.{item_after, Line, Act, Stack, may_end, MakeBase, MakePack, MakeWord, MakeWordPack}
use Rattle.t_text.specs.Text.{most_open}
use Rattle.t_shapes.specs.Cursor.{Misses}
use Rattle.t_shapes.proofs.Stepping.{Moves, not_fits, Opens, ListLine}
use Rattle.t_shapes.specs.Raw.{is_base}
use Rattle.t_shapes.specs.Reads.{datum_owed, items_line, value_line, packed_line}

pub opens_types : Opens LTypes want.LeftBracket (Nt LTypeList ∷ (Mark ∷ (Do MakeTypes ∷ [])))
opens_types = record { takes = λ c e. takes c e; no_other = λ c e. no_other c e }
  where
    takes : (c : Kind) → fits want.LeftBracket c ≡ true →
        after LTypes c ≡ Some (Nt LTypeList ∷ (Mark ∷ (Do MakeTypes ∷ [])))
    takes k.LeftBracket e = refl
    takes _ e = absurd (cc)

    no_other : (c : Kind) → fits want.LeftBracket c ≡ false → after LTypes c ≡ None
    no_other k.LeftBracket e = absurd (cc)
    no_other _ e = refl

pub comma_types : Opens LMoreTypes want.Comma (Nt LT ∷ (Do MakeNextType ∷ (Nt LMoreTypes ∷ [])))
comma_types = record { takes = λ c e. takes c e; no_other = λ c e. no_other c e }
  where
    takes : (c : Kind) → fits want.Comma c ≡ true →
        after LMoreTypes c ≡ Some (Nt LT ∷ (Do MakeNextType ∷ (Nt LMoreTypes ∷ [])))
    takes k.Comma e = refl
    takes _ e = absurd (cc)

    no_other : (c : Kind) → fits want.Comma c ≡ false → after LMoreTypes c ≡ None
    no_other k.Comma e = absurd (cc)
    no_other _ e = refl

pub some_begin : (ts : List Token) (d i : ℕ) → Moves ts d i (Nt LSomeTypes ∷ []) [] i (Nt LT ∷ types_tail) []
some_begin ts d i = step.as_any table most_open ts d i LT LSomeTypes types_tail [] [] refl refl (λ c q. refl)

pub list_types : ListLine LSomeTypes LMoreTypes want.RightBracket (Nt LT ∷ []) MakeFirstType MakeNextType
    MakeClosedTypes
list_types = record { begin = λ ts d i e. some_begin ts d i; comma = comma_types; ends = refl; flat = refl }

types_begin : (c : Kind) → fits want.RightBracket c ≡ false → type_list_after c ≡ then_more (some_types_after c) []
types_begin k.RightBracket e = absurd (cc)
types_begin _ e = refl

pub as_some : (ts : List Token) (d i : ℕ) → Misses ts i want.RightBracket →
    Moves ts d i (Nt LTypeList ∷ []) [] i (Nt LSomeTypes ∷ []) []
as_some ts d i e =
    step.as_any table most_open ts d i LSomeTypes LTypeList [] [] [] refl refl
    (λ c q. types_begin c.kind (not_fits want.RightBracket (slice_get ts i) c e q))

pub no_types : (c : Kind) → fits want.RightBracket c ≡ true → type_list_after c ≡ Some (Do MakeNoTypes ∷ [])
no_types k.RightBracket e = refl
no_types _ e = absurd (cc)

-- values, of data or not
abbrev pub args_line : Bool → Line
args_line false = LArgs
args_line true = LWordArgs

abbrev pub make_base : Bool → Act
make_base false = MakeBase
make_base true = MakeWord

abbrev pub make_apply : Bool → Act
make_apply false = MakeApply
make_apply true = MakeWordApply

abbrev pub make_packed : Bool → Act
make_packed false = MakePacked
make_packed true = MakeWordPacked

abbrev pub make_pack : Bool → Act
make_pack false = MakePack
make_pack true = MakeWordPack

-- what is owed after `pack`, and in the end; and what after the bracket behind it
abbrev pub shape_left : Bool → Stack
shape_left b = Nt LT ∷ (Do (make_pack b) ∷ [])

abbrev pub as_left : Bool → Stack
as_left b = Tm want.As ∷ shape_left b

abbrev pub pack_left : Bool → Stack
pack_left b = Nt (packed_line b) ∷ as_left b

abbrev pub close_left : Bool → Stack
close_left b = Tm want.RightBracket ∷ (Mark ∷ (Do (make_packed b) ∷ []))

abbrev pub inner_left : Bool → Stack
inner_left b = Nt (value_line b) ∷ close_left b

abbrev pub comma_left : Bool → Stack
comma_left b = Tm want.Comma ∷ inner_left b

abbrev pub packed_left : Bool → Stack
packed_left b = Nt LT ∷ comma_left b

pub opens_args : (b : Bool) →
    Opens (args_line b) want.LeftBracket (Nt LSomeTypes ∷ (Mark ∷ (Do (make_apply b) ∷ [])))
opens_args b = record { takes = λ c e. takes b c e; no_other = λ c e. no_other b c e }
  where
    takes : (b : Bool) (c : Kind) → fits want.LeftBracket c ≡ true →
        after (args_line b) c ≡ Some (Nt LSomeTypes ∷ (Mark ∷ (Do (make_apply b) ∷ [])))
    takes false k.LeftBracket e = refl
    takes true k.LeftBracket e = refl
    takes b _ e = absurd (cc)

    no_other : (b : Bool) (c : Kind) → fits want.LeftBracket c ≡ false → after (args_line b) c ≡ None
    no_other b k.LeftBracket e = absurd (cc)
    no_other false _ e = refl
    no_other true _ e = refl

pub opens_packed : (b : Bool) → Opens (packed_line b) want.LeftBracket (packed_left b)
opens_packed b = record { takes = λ c e. takes b c e; no_other = λ c e. no_other b c e }
  where
    takes : (b : Bool) (c : Kind) → fits want.LeftBracket c ≡ true → after (packed_line b) c ≡ Some (packed_left b)
    takes false k.LeftBracket e = refl
    takes true k.LeftBracket e = refl
    takes b _ e = absurd (cc)

    no_other : (b : Bool) (c : Kind) → fits want.LeftBracket c ≡ false → after (packed_line b) c ≡ None
    no_other b k.LeftBracket e = absurd (cc)
    no_other false _ e = refl
    no_other true _ e = refl

pub base_begins : (b : Bool) (c : Kind) → is_base b c ≡ true →
    after (value_line b) c ≡ Some (Do (make_base b) ∷ (Nt (args_line b) ∷ []))
base_begins false (k.Register r) e = refl
base_begins true (k.Register r) e = absurd (cc)
base_begins false (k.Plain z) e = refl
base_begins true (k.Plain z) e = refl
base_begins false (k.Negative z) e = refl
base_begins true (k.Negative z) e = refl
base_begins false k.Name e = refl
base_begins true k.Name e = refl
base_begins b _ e = absurd (cc)

pub pack_begins : (b : Bool) (c : Kind) → c ≡ k.Pack → after (value_line b) c ≡ Some (pack_left b)
pack_begins false c e = rw e refl
pack_begins true c e = rw e refl

pub no_value : (b : Bool) (c : Kind) → is_base b c ≡ false → c ≢ k.Pack → after (value_line b) c ≡ None
no_value false (k.Register r) e n = absurd (cc)
no_value true (k.Register r) e n = refl
no_value b (k.Plain z) e n = absurd (cc)
no_value b (k.Negative z) e n = absurd (cc)
no_value b k.Name e n = absurd (cc)
no_value b k.Pack e n = absurd (n refl)
no_value false _ e n = refl
no_value true _ e n = refl

-- neither line may be of no tokens
pub value_ends : (b : Bool) → may_end (value_line b) ≡ false
value_ends false = refl
value_ends true = refl

pub packed_ends : (b : Bool) → may_end (packed_line b) ≡ false
packed_ends false = refl
packed_ends true = refl

pub args_end : (b : Bool) → may_end (args_line b) ≡ true
args_end false = refl
args_end true = refl

pub opens_index : Opens LIndex want.LeftBracket (Tm want.Number ∷ (Tm want.RightBracket ∷ (Mark ∷ (Do MakeIndex ∷ []))))
opens_index = record { takes = λ c e. takes c e; no_other = λ c e. no_other c e }
  where
    takes : (c : Kind) → fits want.LeftBracket c ≡ true →
        after LIndex c ≡ Some (Tm want.Number ∷ (Tm want.RightBracket ∷ (Mark ∷ (Do MakeIndex ∷ []))))
    takes k.LeftBracket e = refl
    takes _ e = absurd (cc)

    no_other : (c : Kind) → fits want.LeftBracket c ≡ false → after LIndex c ≡ None
    no_other k.LeftBracket e = absurd (cc)
    no_other _ e = refl

pub opens_target : Opens LTarget want.LeftBracket
    (Tm want.Name ∷ (Tm want.Comma ∷ (Tm want.Register ∷ (Tm want.RightBracket ∷ (Mark ∷ (Do MakeTarget ∷ []))))))
opens_target = record { takes = λ c e. takes c e; no_other = λ c e. no_other c e }
  where
    takes : (c : Kind) → fits want.LeftBracket c ≡ true →
        after LTarget c
        ≡ Some (Tm want.Name
        ∷ (Tm want.Comma ∷ (Tm want.Register ∷ (Tm want.RightBracket ∷ (Mark ∷ (Do MakeTarget ∷ []))))))
    takes k.LeftBracket e = refl
    takes _ e = absurd (cc)

    no_other : (c : Kind) → fits want.LeftBracket c ≡ false → after LTarget c ≡ None
    no_other k.LeftBracket e = absurd (cc)
    no_other _ e = refl

pub opens_int : Opens LInt want.LeftBracket (Tm want.Int ∷ (Tm want.RightBracket ∷ (Mark ∷ (Do MakeInt ∷ []))))
opens_int = record { takes = λ c e. takes c e; no_other = λ c e. no_other c e }
  where
    takes : (c : Kind) → fits want.LeftBracket c ≡ true →
        after LInt c ≡ Some (Tm want.Int ∷ (Tm want.RightBracket ∷ (Mark ∷ (Do MakeInt ∷ []))))
    takes k.LeftBracket e = refl
    takes _ e = absurd (cc)

    no_other : (c : Kind) → fits want.LeftBracket c ≡ false → after LInt c ≡ None
    no_other k.LeftBracket e = absurd (cc)
    no_other _ e = refl

pub to_begins : (c : Kind) →
    after LTo c ≡ (if fits want.Register c then Some (Tm want.Comma ∷ (Do MakeTo ∷ [])) else None)
to_begins (k.Register r) = refl
to_begins _ = refl

pub at_begins : (c : Kind) → after LAt c ≡ (if fits want.Register c then Some (Nt LIndex ∷ (Do MakeAt ∷ [])) else None)
at_begins (k.Register r) = refl
at_begins _ = refl

pub block_begins : (c : Kind) → after LBlock c ≡ (if fits want.Name c then Some (block_owed) else None)
block_begins k.Name = refl
block_begins _ = refl

pub program_begins : (c : Kind) →
    after LProgram c ≡ (if fits want.Tal c then Some (Nt LHeader ∷ (Do MakeProgram ∷ [])) else None)
program_begins k.Tal = refl
program_begins _ = refl

-- a value that begins with a base, and none
pub no_step : (c : Kind) → c ≢ k.Add → c ≢ k.Sub → c ≢ k.Mul → c ≢ k.Bnz → c ≢ k.Ld → c ≢ k.Malloc → c ≢ k.Mov →
    c ≢ k.St → c ≢ k.Unpack → instr_after c ≡ None
no_step k.Add a b d e f g h i j = absurd (a refl)
no_step k.Sub a b d e f g h i j = absurd (b refl)
no_step k.Mul a b d e f g h i j = absurd (d refl)
no_step k.Bnz a b d e f g h i j = absurd (e refl)
no_step k.Ld a b d e f g h i j = absurd (f refl)
no_step k.Malloc a b d e f g h i j = absurd (g refl)
no_step k.Mov a b d e f g h i j = absurd (h refl)
no_step k.St a b d e f g h i j = absurd (i refl)
no_step k.Unpack a b d e f g h i j = absurd (j refl)
no_step _ a b d e f g h i j = refl

pub no_end : (c : Kind) → c ≢ k.Jmp → c ≢ k.Halt → end_after c ≡ None
no_end k.Jmp a b = absurd (a refl)
no_end k.Halt a b = absurd (b refl)
no_end _ a b = refl

-- a block that follows on blocks, and none
pub block_follows : (c : Kind) → fits want.Name c ≡ true → (after LBlock c ≡ Some block_owed)
    × (after LMoreBlocks c ≡ Some (block_owed ++ blocks_tail))
block_follows k.Name e = (refl, refl)
block_follows _ e = absurd (cc)

pub no_block : (c : Kind) → fits want.Name c ≡ false → after LMoreBlocks c ≡ None
no_block k.Name e = absurd (cc)
no_block _ e = refl

-- data tuples and their fields
comma_datums : Opens LMoreDatums want.Comma (datum_owed ++ (Do MakeNextDatum ∷ (Nt LMoreDatums ∷ [])))
comma_datums = record { takes = λ c e. takes c e; no_other = λ c e. no_other c e }
  where
    takes : (c : Kind) → fits want.Comma c ≡ true →
        after LMoreDatums c ≡ Some (datum_owed ++ (Do MakeNextDatum ∷ (Nt LMoreDatums ∷ [])))
    takes k.Comma e = refl
    takes _ e = absurd (cc)

    no_other : (c : Kind) → fits want.Comma c ≡ false → after LMoreDatums c ≡ None
    no_other k.Comma e = absurd (cc)
    no_other _ e = refl

datums_begin : (c : Kind) → fits want.RightAngle c ≡ false → datums_after c ≡ then_more (word_after c) datums_tail
datums_begin k.RightAngle e = absurd (cc)
datums_begin _ e = refl

pub list_datums : ListLine LDatums LMoreDatums want.RightAngle datum_owed MakeFirstDatum MakeNextDatum MakeClosedDatums
list_datums = record {
  begin = λ ts d i e. step.as_any table most_open ts d i LW LDatums datums_tail [] [] refl refl
      (λ c q. datums_begin c.kind (not_fits want.RightAngle (slice_get ts i) c e q));
  comma = comma_datums;
  ends = refl;
  flat = refl;
}

pub no_datums : (c : Kind) → fits want.RightAngle c ≡ true → datums_after c ≡ Some (Do MakeNoDatums ∷ [])
no_datums k.RightAngle e = refl
no_datums _ e = absurd (cc)

pub no_tuple : (c : Kind) → c ≢ k.LeftAngle → tuple_after c ≡ None
no_tuple k.LeftAngle a = absurd (a refl)
no_tuple _ a = refl

-- items
pub items_begin : (c : Kind) →
    after LSomeItems c ≡ (if fits want.Name c then Some (Tm want.Colon ∷ (Nt LFirst ∷ [])) else None)
items_begin k.Name = refl
items_begin _ = refl

pub item_follows : (c : Kind) → fits want.Name c ≡ true →
    after LMoreItems c ≡ Some (Tm want.Colon ∷ (Nt LItem ∷ items_tail))
item_follows k.Name e = refl
item_follows _ e = absurd (cc)

pub no_more_items : (c : Kind) → fits want.Name c ≡ false → after LMoreItems c ≡ None
no_more_items k.Name e = absurd (cc)
no_more_items _ e = refl

-- as long as no block stood, an item goes on as any, and then with what is owed after it
pub first_as_item : (c : Kind) →
    after LFirst c ≡ then_more (after LItem c) (Do MakeNextItem ∷ (Nt (items_line (fits want.Code c)) ∷ []))
first_as_item k.Code = refl
first_as_item k.Data = refl
first_as_item _ = refl

pub no_item : (c : Kind) → c ≢ k.Code → c ≢ k.Data → item_after c ≡ None
no_item k.Code a b = absurd (a refl)
no_item k.Data a b = absurd (b refl)
no_item _ a b = refl
