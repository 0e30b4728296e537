-- When words are a command, and what they ask for.
use Rattle.std.specs.Prelude.{◌≡◌, ◌≤◌, ℕ, Bool, true, false, List, [], ◌∷◌, Option, Some, None, IsSome, codes}
use Rattle.std.specs.Prelude.{◌%◌, cond, if◌then◌else◌, is_some, nat_eq, not}
use Rattle.std.specs.Prelude.{option_and_then, option_map}
use Rattle.std.specs.Option.{option_map_or}
use Rattle.std.specs.Str.{bytes_eq}
use Rattle.std.specs.Str.Parse.{digits_value, without_leading_plus}
use Rattle.clap.specs.ValueTests.{accepts}
use Rattle.clap.specs.Words.{Kinds, Row, Text, fault_of, first_of, one_of, subcommand_of}
use Rattle.talc_words.specs.declared.form.Form.{Form}
use Rattle.talc_words.specs.declared.form.Form.TheVariants.{Source, Cps, Closed, Hoisted, Allocated, Assembly}
use Rattle.talc_words.specs.Description.{talc_app, whole_number}

-- what the words ask for: to compile the source text of the file IN into the file OUT, or into a text that uses the
-- registers up to a number alone, to check the TAL text of IN, to run it for so many instructions, to show the type of
-- the source text of IN, to evaluate it within so many turns, to put the source of a seed through all of that and
-- write it to the file OUT, to write the program of the TAL text of IN to the file OUT in the newest version of the
-- language, to run the TAL text of IN and show its states from one number of instructions to another, to show a form
-- of the program of the source text of IN, with types or without, to show what is wrong with the source or TAL text of
-- IN, to run the TAL text of IN for so many instructions and show what the run cost, to show the TAL text of IN with
-- the types of the registers at each place, to show what the forms of the source text of IN bind, with the types, to
-- write an executable file of the TAL text of IN to the file OUT, with a heap of so many bytes, or to show the
-- instructions of that file
pub data Asked : Type 0 where
  Compiles : (input output : Text) → Asked
  CompilesWithin : (input output : Text) (registers : ℕ) → Asked
  Checks : (input : Text) → Asked
  Runs : (input : Text) (fuel : ℕ) → Asked
  Types : (input : Text) → Asked
  Evaluates : (input : Text) (turns : ℕ) → Asked
  Generates : (seed : ℕ) (output : Text) → Asked
  Upgrades : (input output : Text) → Asked
  Traces : (input : Text) (from to : ℕ) → Asked
  Shows : (input : Text) (form : Form) → Asked
  Explains : (input : Text) → Asked
  Costs : (input : Text) (fuel : ℕ) → Asked
  Lists : (input : Text) → Asked
  TypesNames : (input : Text) → Asked
  Builds : (input output : Text) (heap : ℕ) → Asked
  Disassembles : (input : Text) (heap : ℕ) → Asked

-- the number that a text writes, where `clap`'s reader of whole numbers takes it: decimal digits, perhaps after a plus,
-- of a number below 2 ^ 64
abbrev pub number_of : Text → Option ℕ
number_of text = if accepts false whole_number text then Some (digits_value 10 (without_leading_plus text)) else None

-- the number that `clap` reads from the first value of an argument
abbrev pub number_in : Text → List Row → Option ℕ
number_in name rows = option_and_then number_of (one_of name rows)

-- the form that a name means
abbrev pub form_named : Text → Option Form
form_named name =
    if bytes_eq name (codes "source") then Some Source
    else (if bytes_eq name (codes "cps") then Some (Cps false)
    else (if bytes_eq name (codes "closed") then Some (Closed false)
    else (if bytes_eq name (codes "hoisted") then Some (Hoisted false)
    else (if bytes_eq name (codes "allocated") then Some (Allocated false)
    else (if bytes_eq name (codes "assembly") then Some Assembly else None)))))

-- the form that the first value of the argument `form` names
abbrev pub form_in : List Row → Option Form
form_in rows = option_and_then form_named (first_of (codes "form") rows)

-- whether the flag was used
abbrev pub flag_in : Text → List Row → Bool
flag_in name rows = option_map_or (λ t. bytes_eq t (codes "true")) (first_of name rows) false

-- the same form with types, if it can be shown with them
abbrev pub with_types : Form → Option Form
with_types Source = None
with_types (Cps typed) = Some (Cps true)
with_types (Closed typed) = Some (Closed true)
with_types (Hoisted typed) = Some (Hoisted true)
with_types (Allocated typed) = Some (Allocated true)
with_types Assembly = None

-- the form that is to be shown, with types or without
abbrev pub shown_in : List Row → Option Form
shown_in rows = if flag_in (codes "types") rows then option_and_then with_types (form_in rows) else form_in rows

-- a number of bytes, where it is a multiple of 4096
abbrev pub in_pages : Option ℕ → Option ℕ
in_pages (Some bytes) = cond (nat_eq (bytes % 4096) 0) (Some bytes) None
in_pages None = None

-- the heap that a text asks for; where there is none, 1 GiB
abbrev pub heap_by : Option Text → Option ℕ
heap_by (Some text) = in_pages (number_of text)
heap_by None = Some 1073741824

-- the heap that the first value of the argument `heap` asks for
abbrev pub heap_in : List Row → Option ℕ
heap_in rows = heap_by (one_of (codes "heap") rows)

-- what both values ask for, where both are there
abbrev pub asked_with : {X : Type 0} → (Text → X → Asked) → Option Text → Option X → Option Asked
asked_with asks (Some input) (Some more) = Some (asks input more)
asked_with asks _ _ = None

-- what a text and two numbers ask for, where all are there
abbrev pub asked_between : Option Text → Option ℕ → Option ℕ → Option Asked
asked_between (Some input) (Some from) (Some to) = Some (Traces input from to)
asked_between _ _ _ = None

-- what two texts ask for, and a third one, a number's, that may be left out
abbrev pub asked_within : Option Text → Option Text → Option Text → Option Asked
asked_within (Some input) (Some output) None = Some (Compiles input output)
asked_within (Some input) (Some output) (Some text) = option_map (CompilesWithin input output) (number_of text)
asked_within _ _ _ = None

-- what a text and a heap ask for: a file where the text of its name is there, and its instructions where they are to
-- be listed and there is no such text
abbrev pub asked_to_build : Bool → Option Text → Option Text → Option ℕ → Option Asked
asked_to_build false (Some input) (Some output) (Some heap) = Some (Builds input output heap)
asked_to_build true (Some input) None (Some heap) = Some (Disassembles input heap)
asked_to_build _ _ _ _ = None

-- what a subcommand asks for, by its name and the values that `clap` gives its arguments
abbrev pub asked_in : Text → List Row → Option Asked
asked_in name rows =
    let input = first_of (codes "IN") rows in
    if bytes_eq name (codes "compile") then
    asked_within input (first_of (codes "OUT") rows) (one_of (codes "registers") rows)
    else (if bytes_eq name (codes "check") then option_map Checks input
    else (if bytes_eq name (codes "run") then asked_with Runs input (number_in (codes "fuel") rows)
    else (if bytes_eq name (codes "typeof") then option_map Types input
    else (if bytes_eq name (codes "eval") then asked_with Evaluates input (number_in (codes "turns") rows)
    else (if bytes_eq name (codes "gen") then
    asked_with (λ output seed. Generates seed output) (first_of (codes "OUT") rows) (number_in (codes "seed") rows)
    else (if bytes_eq name (codes "upgrade") then asked_with Upgrades input (first_of (codes "OUT") rows)
    else (if bytes_eq name (codes "trace") then
    asked_between input (number_in (codes "from") rows) (number_in (codes "to") rows)
    else (if bytes_eq name (codes "show") then asked_with Shows input (shown_in rows)
    else (if bytes_eq name (codes "explain") then option_map Explains input
    else (if bytes_eq name (codes "cost") then asked_with Costs input (number_in (codes "fuel") rows)
    else (if bytes_eq name (codes "listing") then option_map Lists input
    else (if bytes_eq name (codes "types") then option_map TypesNames input
    else (if bytes_eq name (codes "native") then
    asked_to_build (flag_in (codes "listing") rows) input (first_of (codes "OUT") rows) (heap_in rows)
    else None)))))))))))))

abbrev pub asked_of : Option (Text × List Row) → Option Asked
asked_of entered = option_and_then (λ p. asked_in p.0 p.1) entered

-- the value, where no kind of error comes
abbrev pub where_none : Kinds → Option Asked → Option Asked
where_none [] asked = asked
where_none (kind ∷ kinds) asked = None

-- where the subcommand is `show`, its form has one of the six names, and can be shown with types where they are asked
-- for
abbrev pub NamesForm : Option (Text × List Row) → Type 0
NamesForm None = Unit {0}
NamesForm (Some entered) = bytes_eq entered.0 (codes "show") ≡ true → IsSome (shown_in entered.1)

-- where the subcommand is `native`, its heap is a multiple of 4096 bytes
abbrev pub HasPages : Option (Text × List Row) → Type 0
HasPages None = Unit {0}
HasPages (Some entered) = bytes_eq entered.0 (codes "native") ≡ true → IsSome (heap_in entered.1)

-- where the subcommand is `native`, it has either OUT or `--listing`
abbrev pub HasOneResult : Option (Text × List Row) → Type 0
HasOneResult None = Unit {0}
HasOneResult (Some entered) = bytes_eq entered.0 (codes "native") ≡ true →
    is_some (first_of (codes "OUT") entered.1) ≡ not (flag_in (codes "listing") entered.1)

-- The words are a command where they break no rule of `clap` by the description, a form has one of the six names, one
-- that is asked for with types can be shown with them, a heap is a multiple of 4096 bytes, and `native` has either OUT
-- or `--listing`; then the subcommand and its values say what is asked. The first word is the program's name.
unfoldable pub command_of : List Text → Option Asked
command_of words = where_none (fault_of talc_app words) (asked_of (subcommand_of talc_app words))

-- the bytes of a heap: from 64 KiB to 1 TiB, and whole pages
pub record IsHeapSize (heap : ℕ) : Type 0 where
  pub low : 65536 ≤ heap
  pub high : heap ≤ 1099511627776
  pub whole : heap % 4096 ≡ 0

-- the registers to which a text is bounded are 8 at least, and a heap has a size that heaps have
abbrev pub NumbersAreInBounds : Asked → Type 0
NumbersAreInBounds (CompilesWithin input output registers) = 8 ≤ registers
NumbersAreInBounds (Builds input output heap) = IsHeapSize heap
NumbersAreInBounds (Disassembles input heap) = IsHeapSize heap
NumbersAreInBounds other = Unit {0}
