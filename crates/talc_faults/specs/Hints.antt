-- A sentence for a fault: that of the first row of the table for its code whose tests all hold of what stands around
-- the place and of what is told; else that of the code. The code reads the same tables. All of it is our own choice, and
-- none is longer than 100 bytes.
use Rattle.std.specs.Prelude.{ℕ, List, [], drop, map, codes, bytes_eq, if◌then◌else◌}
use Rattle.idx_core.specs.declared.span.Span.{Span}
use Rattle.f_terms.specs.declared.fault.Code.{Code}
use Rattle.f_terms.specs.declared.fault.Code.TheVariants.{E01, E03, E04, E05, E06, E07, E08, E09, E10, E12, E13, E14}
use Rattle.f_terms.specs.declared.fault.Code.TheVariants.{E15, E21}
use Rattle.t_terms.specs.declared.fault.TCode.{TCode}
use Rattle.t_terms.specs.declared.fault.TCode.TheVariants.{T01, T03, T05, T20}
use Rattle.talc_faults.specs.declared.type_form.Form.{Form}
use Rattle.talc_faults.specs.declared.type_form.Form.TheVariants.{Untold, Integer, Variable, Function, Polymorphic}
use Rattle.talc_faults.specs.declared.type_form.Form.TheVariants.{Tuple, Package, Reference}
use Rattle.talc_faults.specs.declared.walk.Seen.{Seen}
use Rattle.talc_faults.specs.declared.walk.Seen.TheVariants.{Nowhere, Own, Ended}
use Rattle.talc_faults.specs.declared.token_table.TheConstants.{E03_FIRST, E03_ROWS, E03_LAST}
use Rattle.talc_faults.specs.declared.source_table.TheConstants.{E01_ROWS, E04_ROWS, E05_ROWS}
use Rattle.talc_faults.specs.declared.source_table.TheConstants.{E06_ROWS, E07_ROWS, E08_ROWS}
use Rattle.talc_faults.specs.declared.source_table.TheConstants.{E09_ROWS, E10_ROWS, E12_ROWS, E13_ROWS}
use Rattle.talc_faults.specs.declared.source_table.TheConstants.{E14_ROWS, E15_ROWS, E21_ROWS}
use Rattle.talc_faults.specs.declared.assembly_table.TheConstants.{T01_ROWS, T03_FIRST, T03_ROWS, T05_ROWS, T20_ROWS}
use Rattle.talc_faults.specs.Around.{bytes_at}
use Rattle.talc_faults.specs.Words.{owns}
use Rattle.talc_faults.specs.Walk.{token_at, token_behind, walked}
use Rattle.talc_faults.specs.Choice.{Place, Tests, pick}
use Rattle.talc_faults.specs.Sentences.{source_sentence, tal_sentence}

-- ---- what stands around a place

-- the bracket that is open, or the word that it belongs to: the one before it, or the `fix` before its name
abbrev pub inside_of : (bracket by behind : List ℕ) → List ℕ
inside_of bracket by behind =
    if bytes_eq behind (codes "fix") then behind
    else if owns by then by
    else bracket

abbrev pub place_of : List ℕ → Span → (told kind : List ℕ) → Place
place_of text span told kind =
    let before = bytes_at text 0 span.start in
    let w = walked before [] (walked before [] 0).depth in
    record {
      told = told;
      kind = kind;
      inside = inside_of (token_at before w.bracket) (token_at before w.by) (token_at before w.behind);
      earlier = token_at before w.before;
      before = token_at before w.last;
      found = bytes_at text span.start span.end;
      behind = token_behind (drop span.end text);
    }

-- ---- of a source

abbrev pub byte_rows : List (Tests × List ℕ)
byte_rows = map (λ r. (map (λ t. (t.0, t.1.now)) r.0.now, r.1.now)) E01_ROWS

abbrev pub first_token_rows : List (Tests × List ℕ)
first_token_rows = map (λ r. (map (λ t. (t.0, t.1.now)) r.0.now, r.1.now)) E03_FIRST

abbrev pub token_rows : List (Tests × List ℕ)
token_rows = map (λ r. (map (λ t. (t.0, t.1.now)) r.0.now, r.1.now)) E03_ROWS

abbrev pub last_token_rows : List (Tests × List ℕ)
last_token_rows = map (λ r. (map (λ t. (t.0, t.1.now)) r.0.now, r.1.now)) E03_LAST

abbrev pub name_rows : List (Tests × List ℕ)
name_rows = map (λ r. (map (λ t. (t.0, t.1.now)) r.0.now, r.1.now)) E05_ROWS

abbrev pub end_rows : List (Tests × List ℕ)
end_rows = map (λ r. (map (λ t. (t.0, t.1.now)) r.0.now, r.1.now)) E04_ROWS

abbrev pub call_rows : List (Tests × List ℕ)
call_rows = map (λ r. (map (λ t. (t.0, t.1.now)) r.0.now, r.1.now)) E07_ROWS

abbrev pub operand_rows : List (Tests × List ℕ)
operand_rows = map (λ r. (map (λ t. (t.0, t.1.now)) r.0.now, r.1.now)) E12_ROWS

abbrev pub cell_rows : List (Tests × List ℕ)
cell_rows = map (λ r. (map (λ t. (t.0, t.1.now)) r.0.now, r.1.now)) E21_ROWS

abbrev pub argument_rows : List (Tests × List ℕ)
argument_rows = map (λ r. (map (λ t. (t.0, t.1.now)) r.0.now, r.1.now)) E08_ROWS

abbrev pub source_rows : Code → List (Tests × List ℕ)
source_rows E01 = byte_rows
source_rows E03 = token_rows
source_rows E04 = end_rows
source_rows E05 = name_rows
source_rows E06 = map (λ r. (map (λ t. (t.0, t.1.now)) r.0.now, r.1.now)) E06_ROWS
source_rows E07 = call_rows
source_rows E08 = argument_rows
source_rows E09 = map (λ r. (map (λ t. (t.0, t.1.now)) r.0.now, r.1.now)) E09_ROWS
source_rows E10 = map (λ r. (map (λ t. (t.0, t.1.now)) r.0.now, r.1.now)) E10_ROWS
source_rows E12 = operand_rows
source_rows E13 = map (λ r. (map (λ t. (t.0, t.1.now)) r.0.now, r.1.now)) E13_ROWS
source_rows E14 = map (λ r. (map (λ t. (t.0, t.1.now)) r.0.now, r.1.now)) E14_ROWS
source_rows E15 = map (λ r. (map (λ t. (t.0, t.1.now)) r.0.now, r.1.now)) E15_ROWS
source_rows E21 = cell_rows
source_rows other = []

-- the rows that come before those
abbrev pub first_rows : Code → List (Tests × List ℕ)
first_rows E03 = first_token_rows
first_rows other = []

-- the rows that come after those
abbrev pub last_rows : Code → List (Tests × List ℕ)
last_rows E03 = last_token_rows
last_rows other = []

-- the word for a form
abbrev pub form_word : Form → List ℕ
form_word Untold = codes "untold"
form_word Integer = codes "integer"
form_word Variable = codes "variable"
form_word Function = codes "function"
form_word Polymorphic = codes "polymorphic"
form_word Tuple = codes "tuple"
form_word Package = codes "package"
form_word Reference = codes "reference"

-- the word for where a name is bound that is bound nowhere around its place: by a `let` whose value it stands in, by
-- what has ended, further down only, or nowhere
abbrev pub behind_word : Seen → List ℕ
behind_word Nowhere = codes "nowhere"
behind_word other = codes "later"

abbrev pub seen_word : (before all : Seen) → List ℕ
seen_word Own all = codes "own"
seen_word Ended all = codes "ended"
seen_word Nowhere all = behind_word all

-- the word for the form, or of a name that nothing binds for where it is bound
abbrev pub source_kind : (text before found : List ℕ) → Code → Form → List ℕ
source_kind text before found E05 form = seen_word (walked before found 0).seen (walked text found 0).seen
source_kind text before found other form = form_word form

-- of a fault of a text at a place
abbrev pub source_hint_at : List ℕ → Code → Span → (told : List ℕ) → Form → List ℕ
source_hint_at text code span told form =
    let before = bytes_at text 0 span.start in
    let kind = source_kind text before (bytes_at text span.start span.end) code form in
    let place = place_of text span told kind in
    pick place (first_rows code)
    (pick place (source_rows code) (pick place (last_rows code) (source_sentence code)))

-- ---- of an assembly text

abbrev pub first_instruction_rows : List (Tests × List ℕ)
first_instruction_rows = map (λ r. (map (λ t. (t.0, t.1.now)) r.0.now, r.1.now)) T03_FIRST

abbrev pub instruction_rows : List (Tests × List ℕ)
instruction_rows = map (λ r. (map (λ t. (t.0, t.1.now)) r.0.now, r.1.now)) T03_ROWS

abbrev pub tal_rows : TCode → List (Tests × List ℕ)
tal_rows T01 = map (λ r. (map (λ t. (t.0, t.1.now)) r.0.now, r.1.now)) T01_ROWS
tal_rows T03 = instruction_rows
tal_rows T05 = map (λ r. (map (λ t. (t.0, t.1.now)) r.0.now, r.1.now)) T05_ROWS
tal_rows T20 = map (λ r. (map (λ t. (t.0, t.1.now)) r.0.now, r.1.now)) T20_ROWS
tal_rows other = []

-- the rows that come before those
abbrev pub first_tal_rows : TCode → List (Tests × List ℕ)
first_tal_rows T03 = first_instruction_rows
first_tal_rows other = []

-- of a fault of a text at a place
abbrev pub tal_hint_at : List ℕ → TCode → Span → (told : List ℕ) → List ℕ
tal_hint_at text code span told =
    let place = place_of text span told [] in
    pick place (first_tal_rows code) (pick place (tal_rows code) (tal_sentence code))
