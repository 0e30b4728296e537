-- What `clap` takes by the description is a command.
use Rattle.std.proofs.Common.{◌≡◌, ◌%◌, ◌||◌, ℕ, Bool, true, false, not, cond, List, [], ◌∷◌, drop, find, Option, Some}
use Rattle.std.proofs.Common.{None, IsSome, IfSome, MatchOption, is_some, option_map, refl, sym, subst, inl, inr, codes}
use Rattle.std.proofs.Common.{arith, nat_eq, eqb-true}
use Rattle.std.specs.Option.{option_map_or}
use Rattle.std.specs.List.{AllByRecursion}
use Rattle.std.proofs.lemmas.Slice.Eq.{bytes_eq-Decides}
use Rattle.clap.specs.Walk.{Row, Rule, Text, Held, answers_to, finished, rows_after, settled, walk, walk_from}
use Rattle.clap.specs.Walk.{nothing_held}
use Rattle.clap.specs.Simple.{App, Shape, built, entered, label_of, names_of, rows_at, subcommand_of}
use Rattle.clap.specs.Takes.{is_given}
use Rattle.clap.specs.Words.{first_of, one_of}
use Rattle.clap.specs.Faults as f
use Rattle.clap.specs.Faults.{fault_of, entered_fault, settle_fault, walk_fault}
use Rattle.clap.specs.Kinds.{Kinds}
use Rattle.clap.specs.declared.error.kind.ErrorKind.TheVariants.{MissingRequiredArgument}
use Rattle.talc_words.specs.Description.{talc_app}
use Rattle.talc_words.specs.declared.form.Form.{Form}
use Rattle.talc_words.specs.Command.{Asked, Checks, CompilesWithin, Costs, Evaluates, Explains, Generates}
use Rattle.talc_words.specs.Command.{HasOneResult, HasPages, IsHeapSize, Lists, NamesForm, NumbersAreInBounds, Runs}
use Rattle.talc_words.specs.Command.{Shows, Types, TypesNames, asked_to_build, flag_in, heap_by, heap_in, in_pages}
use Rattle.talc_words.specs.Command.{asked_between, asked_in, asked_of, asked_with, asked_within, command_of}
use Rattle.talc_words.specs.Command.{number_in, number_of, shown_in, where_none}
use Rattle.talc_words.specs.Laws.{CommandWhereTaken, CommandsAreInBounds}
use Rattle.talc_words.proofs.NumberLemmas.{IsBetween}
use Rattle.talc_words.proofs.Taken.{IsAmong, IsBetweenIf, IsPlain, ArePlain, AreRows, Each, IsNumberIf, MayHaveValue}
use Rattle.talc_words.proofs.Taken.{each, between_given, none_first, none_next, level_rows, level_given, first_given}
use Rattle.talc_words.proofs.Taken.{number_given}

abbrev leaf : List Shape → Shape
leaf [] = (built talc_app).top
leaf (s ∷ rest) = s

-- the subcommands, with what building adds to each
abbrev compile_leaf : Shape
compile_leaf = leaf (built talc_app).subs

abbrev check_leaf : Shape
check_leaf = leaf (drop 1 (built talc_app).subs)

abbrev run_leaf : Shape
run_leaf = leaf (drop 2 (built talc_app).subs)

abbrev typeof_leaf : Shape
typeof_leaf = leaf (drop 3 (built talc_app).subs)

abbrev eval_leaf : Shape
eval_leaf = leaf (drop 4 (built talc_app).subs)

abbrev gen_leaf : Shape
gen_leaf = leaf (drop 5 (built talc_app).subs)

abbrev upgrade_leaf : Shape
upgrade_leaf = leaf (drop 6 (built talc_app).subs)

abbrev trace_leaf : Shape
trace_leaf = leaf (drop 7 (built talc_app).subs)

abbrev show_leaf : Shape
show_leaf = leaf (drop 8 (built talc_app).subs)

abbrev explain_leaf : Shape
explain_leaf = leaf (drop 9 (built talc_app).subs)

abbrev cost_leaf : Shape
cost_leaf = leaf (drop 10 (built talc_app).subs)

abbrev listing_leaf : Shape
listing_leaf = leaf (drop 11 (built talc_app).subs)

abbrev types_leaf : Shape
types_leaf = leaf (drop 12 (built talc_app).subs)

abbrev native_leaf : Shape
native_leaf = leaf (drop 13 (built talc_app).subs)

-- the argument takes a value at each use, asks for help or is a flag, and its parser takes a default
abbrev IsOrdinary : Rule → Type 0
IsOrdinary a = IsPlain a × MayHaveValue a a.defaults

compile_ordinary : Each IsOrdinary compile_leaf.rules
compile_ordinary =
    ((inl (refl, refl), tt), ((inl (refl, refl), tt), ((inl (refl, refl), tt), ((inr (inl refl), tt), tt))))

check_ordinary : Each IsOrdinary check_leaf.rules
check_ordinary = ((inl (refl, refl), tt), ((inr (inl refl), tt), tt))

run_ordinary : Each IsOrdinary run_leaf.rules
run_ordinary = ((inl (refl, refl), tt), ((inl (refl, refl), tt), ((inr (inl refl), tt), tt)))

typeof_ordinary : Each IsOrdinary typeof_leaf.rules
typeof_ordinary = ((inl (refl, refl), tt), ((inr (inl refl), tt), tt))

eval_ordinary : Each IsOrdinary eval_leaf.rules
eval_ordinary = ((inl (refl, refl), tt), ((inl (refl, refl), tt), ((inr (inl refl), tt), tt)))

gen_ordinary : Each IsOrdinary gen_leaf.rules
gen_ordinary = ((inl (refl, refl), tt), ((inl (refl, refl), tt), ((inr (inl refl), tt), tt)))

upgrade_ordinary : Each IsOrdinary upgrade_leaf.rules
upgrade_ordinary = ((inl (refl, refl), tt), ((inl (refl, refl), tt), ((inr (inl refl), tt), tt)))

trace_ordinary : Each IsOrdinary trace_leaf.rules
trace_ordinary =
    ((inl (refl, refl), tt), ((inl (refl, refl), tt), ((inl (refl, refl), tt), ((inr (inl refl), tt), tt))))

show_ordinary : Each IsOrdinary show_leaf.rules
show_ordinary =
    ((inl (refl, refl), tt), ((inl (refl, refl), tt), ((inr (inr (refl, refl)), refl), ((inr (inl refl), tt), tt))))

explain_ordinary : Each IsOrdinary explain_leaf.rules
explain_ordinary = ((inl (refl, refl), tt), ((inr (inl refl), tt), tt))

cost_ordinary : Each IsOrdinary cost_leaf.rules
cost_ordinary = ((inl (refl, refl), tt), ((inl (refl, refl), tt), ((inr (inl refl), tt), tt)))

listing_ordinary : Each IsOrdinary listing_leaf.rules
listing_ordinary = ((inl (refl, refl), tt), ((inr (inl refl), tt), tt))

types_ordinary : Each IsOrdinary types_leaf.rules
types_ordinary = ((inl (refl, refl), tt), ((inr (inl refl), tt), tt))

native_ordinary : Each IsOrdinary native_leaf.rules
native_ordinary = (
  (inl (refl, refl), tt),
  (
    (inl (refl, refl), tt),
    (
      (inr (inr (refl, refl)), refl),
      ((inl (refl, refl), tt), ((inr (inl refl), tt), tt)),
    ),
  ),
)

-- numbers of registers, and of bytes of a heap
abbrev IsCountOf : Text → Rule → Type 0
IsCountOf = IsBetweenIf 8 18446744073709551615

abbrev IsSizeOf : Text → Rule → Type 0
IsSizeOf = IsBetweenIf 65536 1099511627776

compile_numbers : Each (IsCountOf (codes "registers")) compile_leaf.rules
compile_numbers = (λ named. cc, (λ named. cc, (λ named. (refl, refl), (λ named. cc, tt))))

native_numbers : Each (IsSizeOf (codes "heap")) native_leaf.rules
native_numbers = (λ named. cc, (λ named. cc, (λ named. cc, (λ named. (refl, refl), (λ named. cc, tt)))))

run_numbers : Each (IsNumberIf (codes "fuel")) run_leaf.rules
run_numbers = (λ named. cc, (λ named. (refl, refl), (λ named. cc, tt)))

eval_numbers : Each (IsNumberIf (codes "turns")) eval_leaf.rules
eval_numbers = (λ named. cc, (λ named. (refl, refl), (λ named. cc, tt)))

gen_numbers : Each (IsNumberIf (codes "seed")) gen_leaf.rules
gen_numbers = (λ named. cc, (λ named. (refl, refl), (λ named. cc, tt)))

first_numbers : Each (IsNumberIf (codes "from")) trace_leaf.rules
first_numbers = (λ named. cc, (λ named. (refl, refl), (λ named. cc, (λ named. cc, tt))))

last_numbers : Each (IsNumberIf (codes "to")) trace_leaf.rules
last_numbers = (λ named. cc, (λ named. cc, (λ named. (refl, refl), (λ named. cc, tt))))

cost_numbers : Each (IsNumberIf (codes "fuel")) cost_leaf.rules
cost_numbers = (λ named. cc, (λ named. (refl, refl), (λ named. cc, tt)))

-- nothing that is required is missing
all_given : (a b c : Bool) → cond (not a || (not b || (not c || false))) (MissingRequiredArgument ∷ []) [] ≡ [] →
    (a ≡ true) × (b ≡ true) × (c ≡ true)
all_given true true true e = (refl, refl, refl)
all_given true true false e = cc
all_given true false c e = cc
all_given false b c e = cc

both_given : (a b : Bool) → cond (not a || (not b || false)) (MissingRequiredArgument ∷ []) [] ≡ [] →
    (a ≡ true) × (b ≡ true)
both_given true true e = (refl, refl)
both_given true false e = cc
both_given false b e = cc

one_given : (a : Bool) → cond (not a || false) (MissingRequiredArgument ∷ []) [] ≡ [] → a ≡ true
one_given true e = refl
one_given false e = cc

-- something is asked for, and its numbers keep their bounds
abbrev Asks : Option Asked → Type 0
Asks None = ⊥
Asks (Some asked) = NumbersAreInBounds asked

-- the values of a level in which no error is found
within : (input output : Text) (o : Option Text) →
    IfSome o (λ t. MatchOption (number_of t) ⊥ (IsBetween 8 18446744073709551615)) →
    Asks (asked_within (Some input) (Some output) o)
within input output None enough = tt
within input output (Some text) enough = go (number_of text) enough
  where
    go : (o : Option ℕ) → MatchOption o ⊥ (IsBetween 8 18446744073709551615) →
        Asks (option_map (CompilesWithin input output) o)
    go None enough = absurd enough
    go (Some k) enough = enough.0

compile_asks : (rows : List Row) → AreRows compile_leaf.rules rows → f.check_fault compile_leaf rows false ≡ [] →
    Asks (asked_in (codes "compile") rows)
compile_asks rows held none =
    let given = both_given (is_given (codes "IN") rows) (is_given (codes "OUT") rows) none in
    let input = first_given compile_leaf.rules (codes "IN") rows held given.0 in
    let output = first_given compile_leaf.rules (codes "OUT") rows held given.1 in
    rw (input.1, output.1)
    (within input.0 output.0 (one_of (codes "registers") rows)
    (between_given 8 18446744073709551615 compile_leaf.rules (codes "registers") rows
    (each (IsCountOf (codes "registers")) compile_leaf.rules compile_numbers) held))

upgrade_asks : (rows : List Row) → AreRows upgrade_leaf.rules rows → f.check_fault upgrade_leaf rows false ≡ [] →
    Asks (asked_in (codes "upgrade") rows)
upgrade_asks rows held none =
    let given = both_given (is_given (codes "IN") rows) (is_given (codes "OUT") rows) none in
    let input = first_given upgrade_leaf.rules (codes "IN") rows held given.0 in
    let output = first_given upgrade_leaf.rules (codes "OUT") rows held given.1 in
    rw (input.1, output.1) tt

-- a file alone
file_asks : (asks : Text → Asked) → ((t : Text) → NumbersAreInBounds (asks t)) → (s : Shape) (rows : List Row) →
    AreRows s.rules rows → is_given (codes "IN") rows ≡ true → Asks (option_map asks (first_of (codes "IN") rows))
file_asks asks free s rows held given =
    let input = first_given s.rules (codes "IN") rows held given in
    rw input.1 (free input.0)

check_asks : (rows : List Row) → AreRows check_leaf.rules rows → f.check_fault check_leaf rows false ≡ [] →
    Asks (asked_in (codes "check") rows)
check_asks rows held none =
    file_asks Checks (λ t. tt) check_leaf rows held (one_given (is_given (codes "IN") rows) none)

typeof_asks : (rows : List Row) → AreRows typeof_leaf.rules rows → f.check_fault typeof_leaf rows false ≡ [] →
    Asks (asked_in (codes "typeof") rows)
typeof_asks rows held none =
    file_asks Types (λ t. tt) typeof_leaf rows held (one_given (is_given (codes "IN") rows) none)

numbered : (asks : Text → ℕ → Asked) → ((t : Text) (n : ℕ) → NumbersAreInBounds (asks t n)) →
    (input : Text) (number : Option ℕ) → IsSome number → Asks (asked_with asks (Some input) number)
numbered asks free input None some = cc
numbered asks free input (Some n) some = free input n

run_asks : (rows : List Row) → AreRows run_leaf.rules rows → f.check_fault run_leaf rows false ≡ [] →
    Asks (asked_in (codes "run") rows)
run_asks rows held none =
    let given = both_given (is_given (codes "IN") rows) (is_given (codes "fuel") rows) none in
    let input = first_given run_leaf.rules (codes "IN") rows held given.0 in
    let fuel = number_given run_leaf.rules (codes "fuel") rows
    (each (IsNumberIf (codes "fuel")) run_leaf.rules run_numbers) held given.1 in
    rw input.1 (numbered Runs (λ t n. tt) input.0 (number_in (codes "fuel") rows) fuel)

eval_asks : (rows : List Row) → AreRows eval_leaf.rules rows → f.check_fault eval_leaf rows false ≡ [] →
    Asks (asked_in (codes "eval") rows)
eval_asks rows held none =
    let given = both_given (is_given (codes "IN") rows) (is_given (codes "turns") rows) none in
    let input = first_given eval_leaf.rules (codes "IN") rows held given.0 in
    let turns = number_given eval_leaf.rules (codes "turns") rows
    (each (IsNumberIf (codes "turns")) eval_leaf.rules eval_numbers) held given.1 in
    rw input.1 (numbered Evaluates (λ t n. tt) input.0 (number_in (codes "turns") rows) turns)

gen_asks : (rows : List Row) → AreRows gen_leaf.rules rows → f.check_fault gen_leaf rows false ≡ [] →
    Asks (asked_in (codes "gen") rows)
gen_asks rows held none =
    let given = both_given (is_given (codes "OUT") rows) (is_given (codes "seed") rows) none in
    let output = first_given gen_leaf.rules (codes "OUT") rows held given.0 in
    let seed = number_given gen_leaf.rules (codes "seed") rows
    (each (IsNumberIf (codes "seed")) gen_leaf.rules gen_numbers) held given.1 in
    rw output.1 (numbered (λ output seed. Generates seed output) (λ t n. tt) output.0 (number_in (codes "seed") rows)
    seed)

between : (input : Text) (from to : Option ℕ) → IsSome from → IsSome to → Asks (asked_between (Some input) from to)
between input None to some more = cc
between input (Some a) None some more = cc
between input (Some a) (Some b) some more = tt

trace_asks : (rows : List Row) → AreRows trace_leaf.rules rows → f.check_fault trace_leaf rows false ≡ [] →
    Asks (asked_in (codes "trace") rows)
trace_asks rows held none =
    let given =
    all_given (is_given (codes "IN") rows) (is_given (codes "from") rows) (is_given (codes "to") rows) none in
    let input = first_given trace_leaf.rules (codes "IN") rows held given.0 in
    let first = number_given trace_leaf.rules (codes "from") rows
    (each (IsNumberIf (codes "from")) trace_leaf.rules first_numbers) held given.1 in
    let last = number_given trace_leaf.rules (codes "to") rows
    (each (IsNumberIf (codes "to")) trace_leaf.rules last_numbers) held given.2 in
    rw input.1 (between input.0 (number_in (codes "from") rows) (number_in (codes "to") rows) first last)

shows_form : (input : Text) (form : Option Form) → IsSome form → Asks (asked_with Shows (Some input) form)
shows_form input None some = cc
shows_form input (Some form) some = tt

show_asks : (rows : List Row) → AreRows show_leaf.rules rows → f.check_fault show_leaf rows false ≡ [] →
    IsSome (shown_in rows) → Asks (asked_in (codes "show") rows)
show_asks rows held none form =
    let given = both_given (is_given (codes "IN") rows) (is_given (codes "form") rows) none in
    let input = first_given show_leaf.rules (codes "IN") rows held given.0 in
    rw input.1 (shows_form input.0 (shown_in rows) form)

explain_asks : (rows : List Row) → AreRows explain_leaf.rules rows → f.check_fault explain_leaf rows false ≡ [] →
    Asks (asked_in (codes "explain") rows)
explain_asks rows held none =
    file_asks Explains (λ t. tt) explain_leaf rows held (one_given (is_given (codes "IN") rows) none)

cost_asks : (rows : List Row) → AreRows cost_leaf.rules rows → f.check_fault cost_leaf rows false ≡ [] →
    Asks (asked_in (codes "cost") rows)
cost_asks rows held none =
    let given = both_given (is_given (codes "IN") rows) (is_given (codes "fuel") rows) none in
    let input = first_given cost_leaf.rules (codes "IN") rows held given.0 in
    let fuel = number_given cost_leaf.rules (codes "fuel") rows
    (each (IsNumberIf (codes "fuel")) cost_leaf.rules cost_numbers) held given.1 in
    rw input.1 (numbered Costs (λ t n. tt) input.0 (number_in (codes "fuel") rows) fuel)

listing_asks : (rows : List Row) → AreRows listing_leaf.rules rows → f.check_fault listing_leaf rows false ≡ [] →
    Asks (asked_in (codes "listing") rows)
listing_asks rows held none =
    file_asks Lists (λ t. tt) listing_leaf rows held (one_given (is_given (codes "IN") rows) none)

types_asks : (rows : List Row) → AreRows types_leaf.rules rows → f.check_fault types_leaf rows false ≡ [] →
    Asks (asked_in (codes "types") rows)
types_asks rows held none =
    file_asks TypesNames (λ t. tt) types_leaf rows held (one_given (is_given (codes "IN") rows) none)

-- a heap of so many bytes, where they are whole pages
paged : (k : ℕ) → IsBetween 65536 1099511627776 k → (b : Bool) → nat_eq (k % 4096) 0 ≡ b →
    IfSome (cond b (Some k) None) IsHeapSize
paged k size true e = record {
  low = size.0;
  high = size.1;
  whole = eqb-true (k % 4096) 0 e;
}
paged k size false e = tt

sized : (o : Option Text) → IfSome o (λ t. MatchOption (number_of t) ⊥ (IsBetween 65536 1099511627776)) →
    IfSome (heap_by o) IsHeapSize
sized None size = record {
  low = omega arith;
  high = omega arith;
  whole = refl;
}
sized (Some text) size = go (number_of text) size
  where
    go : (o : Option ℕ) → MatchOption o ⊥ (IsBetween 65536 1099511627776) → IfSome (in_pages o) IsHeapSize
    go None size = tt
    go (Some k) size = paged k size (nat_eq (k % 4096) 0) refl

-- a file or its instructions, with a heap
builds : (lists : Bool) (input : Text) (output : Option Text) (heap : Option ℕ) → is_some output ≡ not lists →
    IsSome heap → IfSome heap IsHeapSize → Asks (asked_to_build lists (Some input) output heap)
builds false input (Some output) (Some heap) one some size = size
builds true input None (Some heap) one some size = size
builds false input None heap one some size = cc
builds true input (Some output) heap one some size = cc
builds lists input output None one some size = cc

native_asks : (rows : List Row) → AreRows native_leaf.rules rows → f.check_fault native_leaf rows false ≡ [] →
    IsSome (heap_in rows) → is_some (first_of (codes "OUT") rows) ≡ not (flag_in (codes "listing") rows) →
    Asks (asked_in (codes "native") rows)
native_asks rows held none heap one =
    let input = first_given native_leaf.rules (codes "IN") rows held (one_given (is_given (codes "IN") rows) none) in
    rw input.1
    (builds (flag_in (codes "listing") rows) input.0 (first_of (codes "OUT") rows) (heap_in rows) one heap
    (sized (one_of (codes "heap") rows)
    (between_given 65536 1099511627776 native_leaf.rules (codes "heap") rows
    (each (IsSizeOf (codes "heap")) native_leaf.rules native_numbers) held)))

-- a form has its name, a heap its pages, and there is one result
abbrev IsFit : Option (Text × List Row) → Type 0
IsFit entered = NamesForm entered × HasPages entered × HasOneResult entered

-- a level of the parse of a subcommand, no error in it, and a value that fits
level_asks : (s : Shape) → Each IsOrdinary s.rules →
    ((rows : List Row) → AreRows s.rules rows → f.check_fault s rows false ≡ [] → IsFit (Some (s.name, rows)) →
    Asks (asked_in s.name rows))
    → (words : List Text) → f.level_fault s [] nothing_held words false [] ≡ [] → IsFit (Some (rows_at s words)) →
    Asks (asked_of (Some (rows_at s words)))
level_asks s ordinary asks words none fit =
    let plain : ArePlain s.rules = λ a among. (each IsOrdinary s.rules ordinary a among).0 in
    let defaults : (a : Rule) → IsAmong a s.rules → MayHaveValue a a.defaults =
    λ a among. (each IsOrdinary s.rules ordinary a among).1 in
    asks (rows_after s.rules [] words) (level_rows s plain defaults words none) (level_given s plain words none) fit

-- a level of another subcommand
plain_asks : (s : Shape) → Each IsOrdinary s.rules →
    ((rows : List Row) → AreRows s.rules rows → f.check_fault s rows false ≡ [] → Asks (asked_in s.name rows))
    → (words : List Text) → f.level_fault s [] nothing_held words false [] ≡ [] → IsFit (Some (rows_at s words)) →
    Asks (asked_of (Some (rows_at s words)))
plain_asks s ordinary asks = level_asks s ordinary (λ rows held none fit. asks rows held none)

-- the words of a subcommand in which no error is found are a command
abbrev LeafAsks : Shape → Type 0
LeafAsks s = (words : List Text) → f.level_fault s [] nothing_held words false [] ≡ [] →
    IsFit (Some (rows_at s words)) → Asks (asked_of (Some (rows_at s words)))

both : {A B : Type 0} → A → B → A × B
both a b = (a, b)

each_asks : AllByRecursion LeafAsks (built talc_app).subs
each_asks =
    both (plain_asks compile_leaf compile_ordinary compile_asks)
    (both (plain_asks check_leaf check_ordinary check_asks)
    (both (plain_asks run_leaf run_ordinary run_asks)
    (both (plain_asks typeof_leaf typeof_ordinary typeof_asks)
    (both (plain_asks eval_leaf eval_ordinary eval_asks)
    (both (plain_asks gen_leaf gen_ordinary gen_asks)
    (both (plain_asks upgrade_leaf upgrade_ordinary upgrade_asks)
    (both (plain_asks trace_leaf trace_ordinary trace_asks)
    (both (level_asks show_leaf show_ordinary (λ rows held given fit. show_asks rows held given (fit.0 refl)))
    (both (plain_asks explain_leaf explain_ordinary explain_asks)
    (both (plain_asks cost_leaf cost_ordinary cost_asks)
    (both (plain_asks listing_leaf listing_ordinary listing_asks)
    (both (plain_asks types_leaf types_ordinary types_asks)
    (both
    (level_asks native_leaf native_ordinary
    (λ rows held given fit. native_asks rows held given (fit.1 refl) (fit.2 refl)))
    tt)))))))))))))

-- so it is for the first subcommand for which a test holds, where there is one
abbrev FoundAsks : Option Shape → List Text → Type 0
FoundAsks found words =
    option_map_or (λ s. f.level_fault s [] nothing_held words false []) found [] ≡ [] →
    IsFit (option_map (λ s. rows_at s words) found) →
    is_some (option_map (λ s. rows_at s words) found) ≡ true → Asks (asked_of (option_map (λ s. rows_at s words) found))

chosen_asks : (p : Shape → Bool) (subs : List Shape) → AllByRecursion LeafAsks subs → (words : List Text) →
    FoundAsks (find p subs) words
chosen_asks p [] asks words = λ none fit entered. cc
chosen_asks p (s ∷ rest) asks words = go (p s) (chosen_asks p rest asks.1 words)
  where
    go : (b : Bool) → FoundAsks (find p rest) words → FoundAsks (cond b (Some s) (find p rest)) words
    go true later = λ none fit entered. asks.0 words none fit
    go false later = later

stopped_asks : (stop : Option (Text × List Text)) → entered_fault (built talc_app) stop ≡ [] →
    IsFit (entered (built talc_app) stop) → is_some (entered (built talc_app) stop) ≡ true →
    Asks (asked_of (entered (built talc_app) stop))
stopped_asks None none fit entered = cc
stopped_asks (Some p) none fit entered =
    chosen_asks (λ s. answers_to p.0 (label_of s)) (built talc_app).subs each_asks p.1 none fit entered

-- a subcommand is required
met : (rows : List Row) (has : Bool) → f.check_fault (built talc_app).top rows has ≡ [] → has ≡ true
met rows true e = refl
met rows false e = cc

where_taken : (kinds : Kinds) (o : Option Asked) → kinds ≡ [] → Asks o → Asks (where_none kinds o)
where_taken [] o none asks = asks
where_taken (k ∷ ks) o none asks = cc

taken_asks : (words : List Text) → fault_of talc_app words ≡ [] → IsFit (subcommand_of talc_app words) →
    Asks (command_of words)
unfolding command_of
taken_asks words none fit =
    let app : App = built talc_app in
    let after : List Text = drop 1 words in
    let end : Held = (walk app.top.rules (names_of app) nothing_held after).held in
    let stop : Option (Text × List Text) = (walk app.top.rules (names_of app) nothing_held after).stopped in
    let walked_on = none_next (walk_fault app.top (names_of app) (walk_from nothing_held) after) _ none in
    let below : entered_fault app stop ≡ [] = none_first (entered_fault app stop) _ walked_on in
    let checked =
    none_next (f.defaults_fault (settled app.top.rules end).rows app.top.rules) _
    (none_next (settle_fault app.top.rules app.top.args_override_self end) _
    (none_next (entered_fault app stop) _ walked_on)) in
    where_taken (fault_of talc_app words) (asked_of (entered app stop)) none
    (stopped_asks stop below fit (met (finished app.top.rules end) (is_some (entered app stop)) checked))

there : (o : Option Asked) → Asks o → IsSome o
there None asks = absurd asks
there (Some asked) asks = refl

none_where : (kinds : Kinds) (o : Option Asked) → IsSome (where_none kinds o) → kinds ≡ []
none_where [] o asks = refl
none_where (k ∷ ks) o asks = cc

command_taken : (words : List Text) → IsSome (command_of words) → fault_of talc_app words ≡ []
unfolding command_of
command_taken words asks = none_where (fault_of talc_app words) (asked_of (subcommand_of talc_app words)) asks

some_where : (kinds : Kinds) (o : Option Asked) → IsSome (where_none kinds o) → IsSome o
some_where [] o asks = asks
some_where (k ∷ ks) o asks = cc

with_some : (input : Option Text) (form : Option Form) → IsSome (asked_with Shows input form) → IsSome form
with_some (Some input) (Some form) some = refl
with_some (Some input) None some = cc
with_some None form some = cc

show_form : (name : Text) (rows : List Row) → IsSome (asked_in name rows) → name ≡ codes "show" → IsSome (shown_in rows)
show_form name rows some is =
    let named : IsSome (asked_in (codes "show") rows) = subst (λ (t : Text). IsSome (asked_in t rows)) is some in
    with_some (first_of (codes "IN") rows) (shown_in rows) named

-- what is asked of `native` has a heap, and one result
to_build : (lists : Bool) (input output : Option Text) (heap : Option ℕ) →
    IsSome (asked_to_build lists input output heap) → IsSome heap × (is_some output ≡ not lists)
to_build false (Some input) (Some output) (Some heap) some = (refl, refl)
to_build true (Some input) None (Some heap) some = (refl, refl)
to_build false (Some input) None heap some = (cc, cc)
to_build true (Some input) (Some output) heap some = (cc, cc)
to_build lists (Some input) output None some = (cc, cc)
to_build false None output heap some = (cc, cc)
to_build true None output heap some = (cc, cc)

native_fit : (name : Text) (rows : List Row) → IsSome (asked_in name rows) → name ≡ codes "native" →
    IsSome (heap_in rows) × (is_some (first_of (codes "OUT") rows) ≡ not (flag_in (codes "listing") rows))
native_fit name rows some is =
    let named : IsSome (asked_in (codes "native") rows) = subst (λ (t : Text). IsSome (asked_in t rows)) is some in
    to_build (flag_in (codes "listing") rows) (first_of (codes "IN") rows) (first_of (codes "OUT") rows) (heap_in rows)
    named

asked_fit : (entered : Option (Text × List Row)) → IsSome (asked_of entered) → IsFit entered
asked_fit None some = (tt, tt, tt)
asked_fit (Some p) some = (
  λ named. show_form p.0 p.1 some ((bytes_eq-Decides p.0 (codes "show")).0 named),
  λ named. (native_fit p.0 p.1 some ((bytes_eq-Decides p.0 (codes "native")).0 named)).0,
  λ named. (native_fit p.0 p.1 some ((bytes_eq-Decides p.0 (codes "native")).0 named)).1,
)

command_fit : (words : List Text) → IsSome (command_of words) → IsFit (subcommand_of talc_app words)
unfolding command_of
command_fit words asks =
    asked_fit (subcommand_of talc_app words)
    (some_where (fault_of talc_app words) (asked_of (subcommand_of talc_app words)) asks)

pub command_where_taken : CommandWhereTaken
command_where_taken words = (
  λ asks. let fit = command_fit words asks in (command_taken words asks, fit.0, fit.1, fit.2),
  λ taken. there (command_of words) (taken_asks words taken.0 (taken.1, taken.2, taken.3)),
)

pub numbers_are_in_bounds : CommandsAreInBounds
numbers_are_in_bounds words asked is =
    let some : IsSome (command_of words) = subst (λ (o : Option Asked). IsSome o) (sym is) refl in
    subst Asks is (taken_asks words (command_taken words some) (command_fit words some))
