-- Where `clap` finds no error in the words of a simple command, each argument that has a row has a value that its
-- parser takes.
use Rattle.std.proofs.Common.{◌≡◌, ◌⊎◌, ◌∙◌, ◌&&◌, ℕ, Bool, true, false, zero, suc, cond, List, [], ◌∷◌, ◌++◌}
use Rattle.std.proofs.Common.{length, drop, Option, Some, None, is_some, refl, sym, ap, subst, inl, inr, IfSome}
use Rattle.std.proofs.Common.{MatchOption, true≢false, option_and_then, option_map, IsSome}
use Rattle.std.specs.Prelude.{find, fold, encode_utf8, slice_get}
use Rattle.std.specs.Option.{option_map_or}
use Rattle.std.specs.Str.{bytes_eq, chars}
use Rattle.clap.specs.Lexer.{long_of, short_of}
use Rattle.clap.specs.Facts.{explicit_source, parser_of_value, unwrap_or_range}
use Rattle.clap.specs.Takes.{is_given}
use Rattle.clap.specs.Kinds.{Kinds, or_else, range_kinds, value_kinds}
use Rattle.clap.specs.Walk as w
use Rattle.clap.specs.Walk.{Held, Names, Row, Rule, Text, Waiting, Walk, action_of, reading_by, arg_by_id, arg_by_long}
use Rattle.clap.specs.Walk.{arg_by_short, arg_by_index, takes_values, takes_several, is_pending, most_values}
use Rattle.clap.specs.Walk.{attached_value, used, used_as, values_or_missing, at_row, with_values, without}
use Rattle.clap.specs.Walk.{more_values, settled, settled_rows, reacted, one_of, row_text, option_met, long_met}
use Rattle.clap.specs.Walk.{bundle_met, bundle, plain_word, option_word, after_flag, word_met, positional_held, walked}
use Rattle.clap.specs.Walk.{walk, walk_from, nothing_held, with_default, rows_after, subcommand_met}
use Rattle.clap.specs.Walk.{first_of}
use Rattle.clap.specs.Simple.{Shape}
use Rattle.clap.specs.Faults as f
use Rattle.clap.specs.Faults.{use_fault, action_fault, values_fault, settle_fault, react_fault, option_fault}
use Rattle.clap.specs.Faults.{long_fault, flags_fault, bundle_fault, flag_word_fault, word_fault, step_fault}
use Rattle.clap.specs.Faults.{turn_fault, walk_fault}
use Rattle.clap.specs.declared.error.kind.ErrorKind.TheVariants.{TooManyValues}
use Rattle.clap.specs.declared.builder.action.ArgAction.TheVariants.{Set, SetTrue, Help}
use Rattle.clap.specs.Values.{read_as, reading_of}
use Rattle.clap.specs.declared.builder.value_parser.ValueParser.{ValueParser}
use Rattle.clap.specs.declared.builder.value_parser.ValueParser.TheVariants.{Unsigned}
use Rattle.clap.specs.declared.builder.value_parser.Reading.TheVariants.{AsWritten}
use Rattle.talc_words.specs.Command.{number_in, number_of}
use Rattle.talc_words.specs.Description.{whole_number}
use Rattle.talc_words.proofs.NumberLemmas.{IsBetween, taken_between, taken_number}
use Rattle.clap.specs.declared.parser.matches.ValueSource.{ValueSource}
use Rattle.clap.specs.declared.parser.matches.ValueSource.TheVariants.{CommandLine, DefaultValue}

-- no kind comes of two steps where none comes of either
pub none_first : (a b : Kinds) → or_else a b ≡ [] → a ≡ []
none_first [] b e = refl
none_first (k ∷ ks) b e = e

pub none_next : (a b : Kinds) → or_else a b ≡ [] → b ≡ []
none_next [] b e = e
none_next (k ∷ ks) b e = cc

-- ---- rules

abbrev pub IsAmong : Rule → List Rule → Type 0
IsAmong a [] = ⊥
IsAmong a (b ∷ bs) = (b ≡ a) ⊎ IsAmong a bs

found_among : (p : Rule → Bool) (rules : List Rule) → IfSome (find p rules) (λ a. IsAmong a rules)
found_among p [] = tt
found_among p (b ∷ bs) = go (p b) (found_among p bs)
  where
    weaker : (o : Option Rule) → IfSome o (λ a. IsAmong a bs) → IfSome o (λ a. (b ≡ a) ⊎ IsAmong a bs)
    weaker None h = tt
    weaker (Some a) h = inr h

    go : (x : Bool) → IfSome (find p bs) (λ a. IsAmong a bs) →
        IfSome (cond x (Some b) (find p bs)) (λ a. (b ≡ a) ⊎ IsAmong a bs)
    go true h = inl refl
    go false h = weaker (find p bs) h

-- P of each rule
abbrev pub Each : (Rule → Type 0) → List Rule → Type 0
Each P [] = Unit {0}
Each P (a ∷ rules) = P a × Each P rules

pub each : (P : Rule → Type 0) (rules : List Rule) → Each P rules → (a : Rule) → IsAmong a rules → P a
each P [] all a among = absurd among
each P (b ∷ bs) all a (inl e) = subst P e all.0
each P (b ∷ bs) all a (inr among) = each P bs all.1 a among

-- there is a first value, and the parser takes it
abbrev pub HasValue : Rule → List Text → Type 0
HasValue a [] = ⊥
HasValue a (v ∷ vs) = value_kinds a.ignore_case (parser_of_value a.parser) v ≡ []

-- the parser takes the first value, where there is one
abbrev pub MayHaveValue : Rule → List Text → Type 0
MayHaveValue a [] = Unit {0}
MayHaveValue a (v ∷ vs) = value_kinds a.ignore_case (parser_of_value a.parser) v ≡ []

-- the argument takes a value at each use, asks for help, or is a flag, which has a value where none is given
abbrev pub IsPlain : Rule → Type 0
IsPlain a = ((action_of a ≡ Set) × ((unwrap_or_range a.range).start_inclusive ≡ 1))
    ⊎ ((action_of a ≡ Help) ⊎ ((action_of a ≡ SetTrue) × HasValue a a.missing))

abbrev pub ArePlain : List Rule → Type 0
ArePlain rules = (a : Rule) → IsAmong a rules → IsPlain a

-- ---- rows

-- the row is that of a rule, and has a value
pub record IsRow (rules : List Rule) (r : Row) : Type 0 where
  pub rule : Rule
  pub known : IsAmong rule rules
  pub id : r.id ≡ rule.id
  pub how : r.reading ≡ reading_by rule
  pub value : HasValue rule r.values

abbrev pub AreRows : List Rule → List Row → Type 0
AreRows rules [] = Unit {0}
AreRows rules (r ∷ rs) = IsRow rules r × AreRows rules rs

module _ (rules : List Rule) (plain : ArePlain rules) (again : Bool) where
  append : (xs ys : List Row) → AreRows rules xs → AreRows rules ys → AreRows rules (xs ++ ys)
  append [] ys x y = y
  append (r ∷ xs) ys x y = (x.0, append xs ys x.1 y)

  at_row_rows : (id : Text) (change : Row → List Row) (missing rows : List Row) →
      ((r : Row) → IsRow rules r → AreRows rules (change r)) → AreRows rules missing → AreRows rules rows →
      AreRows rules (at_row id change missing rows)
  at_row_rows id change missing [] changed none rows = none
  at_row_rows id change missing (r ∷ rs) changed none rows =
      go (bytes_eq r.id id) (at_row_rows id change missing rs changed none rows.1)
    where
      go : (b : Bool) → AreRows rules (at_row id change missing rs) →
          AreRows rules (cond b (change r ++ rs) (r ∷ at_row id change missing rs))
      go true rest = append (change r) rs (changed r rows.0) rows.1
      go false rest = (rows.0, rest)

  more : (a : Rule) (xs ys : List Text) → HasValue a xs → HasValue a (xs ++ ys)
  more a [] ys h = absurd h
  more a (x ∷ xs) ys h = h

  -- a row with this value is added
  value_rows : (a : Rule) (source : ValueSource) (v : Text) (vs : List Text) (rows : List Row) → IsAmong a rules →
      value_kinds a.ignore_case (parser_of_value a.parser) v ≡ [] → AreRows rules rows →
      AreRows rules (with_values a.id (reading_by a) source (v ∷ vs) rows)
  value_rows a source v vs rows known good held =
      at_row_rows a.id (more_values source (v ∷ vs)) _ rows
      (λ r is. (
        record {
          rule = is.rule;
          known = is.known;
          id = is.id;
          how = is.how;
          value = more is.rule r.values (v ∷ vs) is.value;
        },
        tt,
      ))
      (record { rule = a; known = known; id = refl; how = refl; value = good }, tt) held

  without_rows : (id : Text) (rows : List Row) → AreRows rules rows → AreRows rules (without id rows)
  without_rows id rows held = at_row_rows id (λ _. []) [] rows (λ r is. tt) tt held

  set_rows : (a : Rule) (values : List Text) (rows : List Row) → IsAmong a rules → action_of a ≡ Set →
      (unwrap_or_range a.range).start_inclusive ≡ 1 → use_fault again a values rows ≡ [] → AreRows rules rows →
      AreRows rules (used a values rows)
  set_rows a [] rows known set one none held =
      let empty : range_kinds 1 (most_values a) 0 ≡ [] =
      subst (λ n. range_kinds n (most_values a) 0 ≡ []) one
      (none_first (range_kinds (unwrap_or_range a.range).start_inclusive (most_values a) 0) _ none) in
      cc
  set_rows a (v ∷ vs) rows known set one none held =
      let action : action_fault Set again a (v ∷ vs) rows ≡ [] =
      subst (λ x. action_fault x again a (v ∷ vs) rows ≡ []) set
      (none_next (range_kinds (unwrap_or_range a.range).start_inclusive (most_values a) (length (v ∷ vs))) _
      none) in
      let values : values_fault a (v ∷ vs) ≡ [] = none_next (f.repeat_fault again a.id rows) _ action in
      subst (λ x. AreRows rules (used_as x a.id (reading_by a) (v ∷ vs) rows)) (sym set)
      (value_rows a CommandLine v vs (without a.id rows) known
      (none_first (value_kinds a.ignore_case (parser_of_value a.parser) v) _ values) (without_rows a.id rows held))

  flag_value : (a : Rule) (values : List Text) → values_fault a (values_or_missing a values) ≡ [] →
      HasValue a a.missing → HasValue a (values_or_missing a values)
  flag_value a [] none missing = missing
  flag_value a (v ∷ vs) none missing =
      none_first (value_kinds a.ignore_case (parser_of_value a.parser) v) _ none

  command_rows : (a : Rule) (values : List Text) (rows : List Row) → IsAmong a rules → HasValue a values →
      AreRows rules rows → AreRows rules (with_values a.id (reading_by a) CommandLine values (without a.id rows))
  command_rows a [] rows known good held = absurd good
  command_rows a (v ∷ vs) rows known good held =
      value_rows a CommandLine v vs (without a.id rows) known good (without_rows a.id rows held)

  flag_used : (a : Rule) (values : List Text) (rows : List Row) → IsAmong a rules → action_of a ≡ SetTrue →
      HasValue a a.missing → use_fault again a values rows ≡ [] → AreRows rules rows →
      AreRows rules (used a values rows)
  flag_used a values rows known set missing none held =
      let given : List Text = values_or_missing a values in
      let action : action_fault SetTrue again a given rows ≡ [] =
      subst (λ x. action_fault x again a given rows ≡ []) set
      (none_next (range_kinds (unwrap_or_range a.range).start_inclusive (most_values a) (length values)) _ none) in
      let good = flag_value a values (none_next (f.repeat_fault again a.id rows) _ action) missing in
      subst (λ x. AreRows rules (used_as x a.id (reading_by a) given rows)) (sym set)
      (command_rows a given rows known good held)

  -- a use of an argument adds a row with its value
  used_rows : (a : Rule) (values : List Text) (rows : List Row) → IsAmong a rules →
      use_fault again a values rows ≡ [] → AreRows rules rows → AreRows rules (used a values rows)
  used_rows a values rows known none held =
      elim (plain a known) [
        | inl set ↦ set_rows a values rows known set.0 set.1 none held
        | inr (inl help) ↦ subst (λ x. AreRows rules (used_as x a.id (reading_by a) (values_or_missing a values) rows))
            (sym help) held
        | inr (inr flag) ↦ flag_used a values rows known flag.0 flag.1 none held
      ]

  -- ---- the walk

  by_id_rows : (o : Option Rule) (values : List Text) (rows : List Row) → IfSome o (λ a. IsAmong a rules) →
      option_map_or (λ a. use_fault again a values rows) o [] ≡ [] → AreRows rules rows →
      AreRows rules (w.used_by_id o values rows)
  by_id_rows None values rows known none held = held
  by_id_rows (Some a) values rows known none held = used_rows a values rows known none held

  pending_rows : (pending : Option (Text × List Text)) (rows : List Row) →
      option_map_or
      (λ (p : Text × List Text). option_map_or (λ a. use_fault again a p.1 rows) (arg_by_id rules p.0) []) pending []
      ≡ [] → AreRows rules rows → AreRows rules (settled_rows rules pending rows)
  pending_rows None rows none held = held
  pending_rows (Some p) rows none held = by_id_rows (arg_by_id rules p.0) p.1 rows (found_among _ rules) none held

  settle_rows : (h : Held) → settle_fault rules again h ≡ [] → AreRows rules h.rows →
      AreRows rules (settled rules h).rows
  settle_rows h none held = pending_rows h.pending h.rows none held

  react_rows : (a : Rule) (values : List Text) (h : Held) → IsAmong a rules → react_fault rules again a values h ≡ [] →
      AreRows rules h.rows → AreRows rules (reacted rules a values h).rows
  react_rows a values h known none held =
      used_rows a values (settled rules h).rows known (none_next (settle_fault rules again h) _ none)
      (settle_rows h (none_first (settle_fault rules again h) _ none) held)

  option_rows : (a : Rule) (v : Option Text) (h : Held) → IsAmong a rules → option_fault rules again a v h ≡ [] →
      AreRows rules h.rows → AreRows rules (option_met rules a v h).0.rows
  option_rows a (Some v) h known none held = react_rows a (v ∷ []) h known none held
  option_rows a None h known none held = settle_rows h none held

  flag_rows : (a : Rule) (v : Option Text) (h : Held) → IsAmong a rules →
      cond (is_some v) (TooManyValues ∷ []) (react_fault rules again a [] h) ≡ [] → AreRows rules h.rows →
      AreRows rules (w.flag_met rules a v h).0.rows
  flag_rows a (Some v) h known none held = held
  flag_rows a None h known none held = react_rows a [] h known none held

  long_rows : (o : Option Rule) (v : Option Text) (h : Held) → IfSome o (λ a. IsAmong a rules) →
      long_fault rules again o v h ≡ [] → AreRows rules h.rows → AreRows rules (long_met rules o v h).0.rows
  long_rows None v h known none held = held
  long_rows (Some a) v h known none held = go (takes_values a) none
    where
      go : (b : Bool) →
          cond b (option_fault rules again a v h)
          (cond (is_some v) (TooManyValues ∷ []) (react_fault rules again a [] h)) ≡ [] →
          AreRows rules (cond b (option_met rules a v h) (w.flag_met rules a v h)).0.rows
      go true e = option_rows a v h known e held
      go false e = flag_rows a v h known e held

  short_rows : (o : Option Rule) (rest : Text) (h : Held) (next : Held → Held × w.Outcome) (after : Held → Kinds) →
      ((g : Held) → after g ≡ [] → AreRows rules g.rows → AreRows rules (next g).0.rows) →
      IfSome o (λ a. IsAmong a rules) → f.short_fault rules again o rest h after ≡ [] → AreRows rules h.rows →
      AreRows rules (w.short_met rules o rest h next).0.rows
  short_rows None rest h next after go_on known none held = held
  short_rows (Some a) rest h next after go_on known none held = go (takes_values a) none
    where
      go : (b : Bool) →
          cond b (option_fault rules again a (attached_value rest) h)
          (or_else (react_fault rules again a [] h) (after (reacted rules a [] h))) ≡ [] →
          AreRows rules (cond b (option_met rules a (attached_value rest) h) (next (reacted rules a [] h))).0.rows
      go true e = option_rows a (attached_value rest) h known e held
      go false e =
          go_on (reacted rules a [] h) (none_next (react_fault rules again a [] h) _ e)
          (react_rows a [] h known (none_first (react_fault rules again a [] h) _ e) held)

  bundle_rows : (k : ℕ) (flags : Text) (skip : ℕ) (so_far : w.Outcome) (h : Held) →
      flags_fault rules again k flags skip h ≡ [] → AreRows rules h.rows →
      AreRows rules (bundle_met rules k flags skip so_far h).0.rows
  unfolding bundle_met flags_fault
  bundle_rows zero flags skip so_far h none held = held
  bundle_rows (suc k) flags skip so_far h none held = go (slice_get (chars flags) 0) skip none (bundle_rows k)
    where
      go : (o : Option ℕ) (m : ℕ) → f.bundle_step_fault rules again o flags m h (flags_fault rules again k) ≡ [] →
          ((rest : Text) (pass : ℕ) (before : w.Outcome) (g : Held) → flags_fault rules again k rest pass g ≡ [] →
          AreRows rules g.rows → AreRows rules (bundle_met rules k rest pass before g).0.rows) →
          AreRows rules (w.bundle_step rules o flags m so_far h (bundle_met rules k)).0.rows
      go None m e next = held
      go (Some x) zero e next =
          short_rows (arg_by_short rules x) (drop (length (encode_utf8 x)) flags) h
          (bundle_met rules k (drop (length (encode_utf8 x)) flags) 0 w.done)
          (flags_fault rules again k (drop (length (encode_utf8 x)) flags) 0)
          (next (drop (length (encode_utf8 x)) flags) 0 w.done) (found_among _ rules) e held
      go (Some x) (suc m) e next = next (drop (length (encode_utf8 x)) flags) m so_far h e held

  plain_rows : (waiting : Waiting) (word : Text) (h : Held) → AreRows rules h.rows →
      AreRows rules (plain_word rules waiting word h).0.rows
  plain_rows w.idle word h held = held
  plain_rows w.positional word h held = held
  plain_rows (w.option id) word h held = go (arg_by_id rules id)
    where
      go : (o : Option Rule) → AreRows rules (option_word o id word h).0.rows
      go None = held
      go (Some a) = held

  after_rows : (waiting : Waiting) (word : Text) (h : Held) (o : w.Outcome) → AreRows rules h.rows →
      AreRows rules (after_flag rules waiting word h o).0.rows
  after_rows waiting word h w.done held = held
  after_rows waiting word h (w.waits id) held = held
  after_rows waiting word h w.plain held = plain_rows waiting word h held
  after_rows waiting word h w.refused held = plain_rows waiting word h held

  long_or_other_rows : (waiting : Waiting) (word : Text) (o : Option (Text × Option Text)) (h : Held) →
      flag_word_fault rules again o word h ≡ [] → AreRows rules h.rows →
      AreRows rules (w.long_or_other rules waiting word o h).0.rows
  long_or_other_rows waiting word (Some p) h none held =
      after_rows waiting word (long_met rules (arg_by_long rules p.0) p.1 h).0
      (long_met rules (arg_by_long rules p.0) p.1 h).1
      (long_rows (arg_by_long rules p.0) p.1 h (found_among _ rules) none held)
  long_or_other_rows waiting word None h none held = go (short_of word) none
    where
      go : (o : Option Text) → option_map_or (λ flags. bundle_fault rules again flags h) o [] ≡ [] →
          AreRows rules (w.short_or_plain rules waiting word o h).0.rows
      go (Some flags) e =
          after_rows waiting word (bundle rules flags h).0 (bundle rules flags h).1
          (bundle_rows (length flags) flags h.skip w.plain (record h { skip = 0 }) e held)
      go None e = plain_rows waiting word h held

  positional_rows : (a : Rule) (word : Text) (h : Held) → f.positional_fault rules again a h ≡ [] →
      AreRows rules h.rows → AreRows rules (positional_held rules a word h).rows
  positional_rows a word h none held = go (is_pending a h.pending && takes_several a) none
    where
      go : (b : Bool) → cond b [] (settle_fault rules again h) ≡ [] →
          AreRows rules (w.pushed a.id word (cond b h (settled rules h))).rows
      go true e = held
      go false e = settle_rows h e held

  default_rows : (known : List Rule) →
      ((a : Rule) → IsAmong a known → IsAmong a rules × MayHaveValue a a.defaults) → (rows : List Row) →
      AreRows rules rows → AreRows rules (fold with_default rows known)
  default_rows [] good rows held = held
  default_rows (a ∷ known) good rows held =
      default_rows known (λ b is. good b (inr is)) (with_default rows a)
      (go (w.has_row a.id rows) a.defaults (good a (inl refl)).1)
    where
      go : (b : Bool) (vs : List Text) → MayHaveValue a vs →
          AreRows rules (cond b rows (w.default_rows a.id (reading_by a) vs rows))
      go true vs e = held
      go false [] e = held
      go false (v ∷ vs) e = value_rows a DefaultValue v vs rows (good a (inl refl)).0 e held

module _ (s : Shape) (plain : ArePlain s.rules) where
  other_rows : (o : Option Text) (waiting : Waiting) (position : ℕ) (word : Text) (h : Held) →
      f.other_fault s o word h ≡ [] → AreRows s.rules h.rows →
      AreRows s.rules (w.subcommand_or_other s.rules o waiting position word h).0.rows
  other_rows (Some name) waiting position word h none held = held
  other_rows None waiting position word h none held = go (bytes_eq word (45 ∷ 45 ∷ [])) none
    where
      go : (b : Bool) → cond b [] (flag_word_fault s.rules s.args_override_self (long_of word) word h) ≡ [] →
          AreRows s.rules
          (cond b (h, w.trailing position) (w.long_or_other s.rules waiting word (long_of word) h)).0.rows
      go true e = held
      go false e = long_or_other_rows s.rules plain s.args_override_self waiting word (long_of word) h e held

  word_rows : (names : Names) (is_trailing : Bool) (waiting : Waiting) (position : ℕ) (word : Text) (h : Held) →
      word_fault s names is_trailing waiting word h ≡ [] → AreRows s.rules h.rows →
      AreRows s.rules (word_met s.rules names is_trailing waiting position word h).0.rows
  word_rows names true waiting position word h none held = held
  word_rows names false waiting position word h none held =
      other_rows (subcommand_met names waiting word) waiting position word h none held

  step_rows : (word : Text) (at : Walk) (h : Held) (st : w.Step) → step_fault s at.position h st ≡ [] →
      AreRows s.rules h.rows → AreRows s.rules (w.after_step s.rules word at h st).held.rows
  step_rows word at h (w.next waiting) none held = held
  step_rows word at h (w.trailing position) none held = held
  step_rows word at h (w.subcommand name) none held = held
  step_rows word at h w.value none held = go (arg_by_index s.rules at.position) none
    where
      go : (o : Option Rule) →
          option_map_or (λ a. f.positional_fault s.rules s.args_override_self a h) o (f.stray_fault s) ≡ [] →
          AreRows s.rules (w.to_positional s.rules o word at h).held.rows
      go None e = held
      go (Some a) e = positional_rows s.rules plain s.args_override_self a word h e held

  turn_rows : (names : Names) (at : Walk) (word : Text) → turn_fault s names at word ≡ [] →
      AreRows s.rules at.held.rows → AreRows s.rules (walked s.rules names at word).held.rows
  unfolding walked
  turn_rows names at word none held = go at.stopped none
    where
      go : (o : Option (Text × List Text)) →
          cond (is_some o) []
          (or_else (word_fault s names at.is_trailing at.waiting word at.held)
          (step_fault s at.position (word_met s.rules names at.is_trailing at.waiting at.position word at.held).0
          (word_met s.rules names at.is_trailing at.waiting at.position word at.held).1)) ≡ [] →
          AreRows s.rules (w.walked_from s.rules names o at word).held.rows
      go (Some p) e = held
      go None e =
          step_rows word at (word_met s.rules names at.is_trailing at.waiting at.position word at.held).0
          (word_met s.rules names at.is_trailing at.waiting at.position word at.held).1
          (none_next (word_fault s names at.is_trailing at.waiting word at.held) _ e)
          (word_rows names at.is_trailing at.waiting at.position word at.held
          (none_first (word_fault s names at.is_trailing at.waiting word at.held) _ e) held)

  walk_rows : (names : Names) (words : List Text) (at : Walk) → walk_fault s names at words ≡ [] →
      AreRows s.rules at.held.rows → AreRows s.rules (fold (walked s.rules names) at words).held.rows
  unfolding walk_fault
  walk_rows names [] at none held = held
  walk_rows names (word ∷ rest) at none held =
      walk_rows names rest (walked s.rules names at word) (none_next (turn_fault s names at word) _ none)
      (turn_rows names at word (none_first (turn_fault s names at word) _ none) held)

  -- the rows after a level in which no error is found
  pub level_rows : ((a : Rule) → IsAmong a s.rules → MayHaveValue a a.defaults) → (words : List Text) →
      f.level_fault s [] nothing_held words false [] ≡ [] → AreRows s.rules (rows_after s.rules [] words)
  level_rows good words none =
      let end : Held = (walk s.rules [] nothing_held words).held in
      let held : AreRows s.rules end.rows =
      walk_rows [] words (walk_from nothing_held) (none_first (walk_fault s [] (walk_from nothing_held) words) _ none)
      tt in
      let settles : settle_fault s.rules s.args_override_self end ≡ [] =
      none_first (settle_fault s.rules s.args_override_self end) _
      (none_next (walk_fault s [] (walk_from nothing_held) words) _ none) in
      default_rows s.rules plain s.args_override_self s.rules (λ a is. (is, good a is)) (settled s.rules end).rows
      (settle_rows s.rules plain s.args_override_self end settles held)

  -- and what is required was given
  pub level_given : (words : List Text) → f.level_fault s [] nothing_held words false [] ≡ [] →
      f.check_fault s (rows_after s.rules [] words) false ≡ []
  level_given words none =
      let end : Held = (walk s.rules [] nothing_held words).held in
      none_next (f.defaults_fault (settled s.rules end).rows s.rules) _
      (none_next (settle_fault s.rules s.args_override_self end) _
      (none_next (walk_fault s [] (walk_from nothing_held) words) _ none))

-- ---- the values of rows

found_row : (p : Row → Bool) (rules : List Rule) (rows : List Row) → AreRows rules rows →
    IfSome (find p rows) (λ r. IsRow rules r × (p r ≡ true))
found_row p rules [] held = tt
found_row p rules (r ∷ rows) held = go (p r) refl (found_row p rules rows held.1)
  where
    go : (b : Bool) → p r ≡ b → IfSome (find p rows) (λ x. IsRow rules x × (p x ≡ true)) →
        IfSome (cond b (Some r) (find p rows)) (λ x. IsRow rules x × (p x ≡ true))
    go true e rest = (held.0, e)
    go false e rest = rest

-- an argument that was given has a first value, which its parser takes
pub value_of : (rules : List Rule) (id : Text) (rows : List Row) → AreRows rules rows → is_given id rows ≡ true →
    (r : Row) × (find (λ (x : Row). bytes_eq x.id id) rows ≡ Some r) × IsRow rules r × (bytes_eq r.id id ≡ true)
value_of rules id rows held given =
    go (find (λ (x : Row). bytes_eq x.id id) rows) refl (found_row (λ (x : Row). bytes_eq x.id id) rules rows held)
  where
    go : (o : Option Row) → find (λ (x : Row). bytes_eq x.id id) rows ≡ o →
        IfSome o (λ r. IsRow rules r × (bytes_eq r.id id ≡ true)) →
        (r : Row) × (find (λ (x : Row). bytes_eq x.id id) rows ≡ Some r) × IsRow rules r × (bytes_eq r.id id ≡ true)
    go None e h =
        absurd (true≢false
        (sym given ∙ ap (λ (o : Option Row). option_map_or (λ r. explicit_source r.source) o false) e))
    go (Some r) e h = (r, e, h.0, h.1)

-- a row with a value has a first one
first_value : (a : Rule) (values : List Text) → HasValue a values → (v : Text) × (slice_get values 0 ≡ Some v)
    × (value_kinds a.ignore_case (parser_of_value a.parser) v ≡ [])
first_value a [] h = absurd h
first_value a (v ∷ vs) h = (v, refl, h)

pub first_given : (rules : List Rule) (id : Text) (rows : List Row) → AreRows rules rows → is_given id rows ≡ true →
    (v : Text) × (first_of id rows ≡ Some v)
first_given rules id rows held given =
    let found = value_of rules id rows held given in
    let value = first_value found.2.rule found.0.values found.2.value in
    (value.0, ap (λ (o : Option Row). option_and_then (λ (r : Row). slice_get r.values 0) o) found.1 ∙ value.1)

-- what has the id is an option of whole numbers
abbrev pub IsNumberIf : Text → Rule → Type 0
IsNumberIf id a = bytes_eq a.id id ≡ true → (a.parser ≡ Some whole_number) × (a.ignore_case ≡ false)

-- such an option that was given has a number
pub number_given : (rules : List Rule) (id : Text) (rows : List Row) →
    ((a : Rule) → IsAmong a rules → IsNumberIf id a) → AreRows rules rows → is_given id rows ≡ true →
    IsSome (number_in id rows)
number_given rules id rows numbers held given =
    let found = value_of rules id rows held given in
    let number = numbers found.2.rule found.2.known (subst (λ (t : Text). bytes_eq t id ≡ true) found.2.id found.3) in
    let value = first_value found.2.rule found.0.values found.2.value in
    let in_case : value_kinds false (parser_of_value found.2.rule.parser) value.0 ≡ [] =
    subst (λ (b : Bool). value_kinds b (parser_of_value found.2.rule.parser) value.0 ≡ []) number.1 value.2 in
    let taken : value_kinds false whole_number value.0 ≡ [] =
    subst (λ (p : Option ValueParser). value_kinds false (parser_of_value p) value.0 ≡ []) number.0 in_case in
    let how : found.0.reading ≡ AsWritten =
    found.2.how ∙ ap (λ (p : Option ValueParser). reading_of (parser_of_value p)) number.0 in
    let text : option_map (read_as found.0.reading) (slice_get found.0.values 0) ≡ Some value.0 =
    ap (option_map (read_as found.0.reading)) value.1 ∙ ap (λ h. Some (read_as h value.0)) how in
    let one : one_of id rows ≡ Some value.0 = ap (λ (o : Option Row). option_and_then row_text o) found.1 ∙ text in
    subst (λ (o : Option Text). IsSome (option_and_then number_of o)) (sym one) (taken_number value.0 taken)

-- what has the id is an option of numbers from one to another
abbrev pub IsBetweenIf : ℕ → ℕ → Text → Rule → Type 0
IsBetweenIf low high id a = bytes_eq a.id id ≡ true → (a.parser ≡ Some (Unsigned low high)) × (a.ignore_case ≡ false)

-- such an option has such a number, where it has a value
pub between_given : (low high : ℕ) (rules : List Rule) (id : Text) (rows : List Row) →
    ((a : Rule) → IsAmong a rules → IsBetweenIf low high id a) → AreRows rules rows →
    IfSome (one_of id rows) (λ t. MatchOption (number_of t) ⊥ (IsBetween low high))
between_given low high rules id rows numbers held =
    go (find (λ (x : Row). bytes_eq x.id id) rows) (found_row (λ (x : Row). bytes_eq x.id id) rules rows held)
  where
    go : (o : Option Row) → IfSome o (λ r. IsRow rules r × (bytes_eq r.id id ≡ true)) →
        IfSome (option_and_then row_text o) (λ t. MatchOption (number_of t) ⊥ (IsBetween low high))
    go None found = tt
    go (Some r) found =
        let number =
        numbers found.0.rule found.0.known (subst (λ (t : Text). bytes_eq t id ≡ true) found.0.id found.1) in
        let value = first_value found.0.rule r.values found.0.value in
        let in_case : value_kinds false (parser_of_value found.0.rule.parser) value.0 ≡ [] =
        subst (λ (b : Bool). value_kinds b (parser_of_value found.0.rule.parser) value.0 ≡ []) number.1 value.2 in
        let taken : value_kinds false (Unsigned low high) value.0 ≡ [] =
        subst (λ (p : Option ValueParser). value_kinds false (parser_of_value p) value.0 ≡ []) number.0 in_case in
        let how : r.reading ≡ AsWritten =
        found.0.how ∙ ap (λ (p : Option ValueParser). reading_of (parser_of_value p)) number.0 in
        let text : option_map (read_as r.reading) (slice_get r.values 0) ≡ Some value.0 =
        ap (option_map (read_as r.reading)) value.1 ∙ ap (λ h. Some (read_as h value.0)) how in
        subst (λ (o : Option Text). IfSome o (λ t. MatchOption (number_of t) ⊥ (IsBetween low high))) (sym text)
        (taken_between low high value.0 taken)
