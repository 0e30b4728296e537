-- What could stand at the place where a text's first token is that may not, and the line that tells it: by the table of
-- the text's grammar. All of it is our own choice.
use Rattle.std.specs.Prelude.{ℕ, ◌+◌, ◌-◌, ◌==◌, ◌&&◌, not, nat_lt, List, [], ◌∷◌, ◌++◌, take, drop, length, codes}
use Rattle.std.specs.Prelude.{◌≡◌, ◌≤◌, ◌↔◌, ◌⊎◌, slice_get, IsTrue, Option, Some, None, Bool, false, if◌then◌else◌}
use Rattle.std.specs.Option.{is_some}
use Rattle.std.specs.Borrow.{Bor}
use Rattle.idx_core.specs.declared.span.Span.{Span}
use Rattle.text_core.specs.Table.{Table, State, Nt, step, finish}
use Rattle.text_core.specs.Shapes.{IsShape, Begins, IsUnexpected, IsCutShort}
use Rattle.text_core.specs.Verdicts.{grammar_of}

-- ---- what a machine takes

-- a machine that reads tokens one by one: its state before the first; the state after one more, or none where that may
-- not stand next; and whether all may end
pub record Machine (S T : Type 0) : Type 0 where
  pub start : S
  pub step : S → T → Option S
  pub ends : S → Bool

-- the machine over a table
abbrev pub machine_of : (g : Table) → Machine (State g) g.Tok
machine_of g = record {
  start = record { owed = Nt g.first ∷ []; made = [] };
  step = λ st c. step g st.owed st.made c;
  ends = λ st. is_some (finish g st.owed st.made);
}

-- in this state it takes the token c next
abbrev pub takes : {S T : Type 0} → Machine S T → S → T → Bool
takes m st c = is_some (m.step st c)

-- where it stands as it comes to the first token that it does not take, or to the end: its state, and the tokens that
-- are left
abbrev pub goes_on : {S T : Type 0} → (S → S × List T) → S → List T → Option S → S × List T
goes_on next st w None = (st, w)
goes_on next st w (Some b) = next b

abbrev pub stop : {S T : Type 0} → Machine S T → List T → S → S × List T
stop m [] st = (st, [])
stop m (c ∷ w) st = goes_on (stop m w) st (c ∷ w) (m.step st c)

-- ---- the words for it

-- a list that the code has by reference
abbrev pub lent : {A B X : Type 0} → List (A × B × Bor X) → List (A × B × X)
lent [] = []
lent (r ∷ rest) = (r.0, r.1, r.2.now) ∷ lent rest

-- What a language fixes: the kinds of tokens that are told, most specific first, each with a wider kind, if any, that
-- stands for it where that can stand, too, and with the words for it; a token of each kind; and the place of a token.
pub record Kinds (K T : Type 0) : Type 0 where
  pub kinds : List (K × Option K × List ℕ)
  pub sample : K → T
  pub place : T → Span

abbrev pub the_end : List ℕ
the_end = codes "the end"

module _ {S K T : Type 0} (m : Machine S T) (k : Kinds K T) where
  abbrev pub takes_some : S → Option K → Bool
  takes_some st None = false
  takes_some st (Some kind) = takes m st (k.sample kind)

  -- a kind is told where the machine takes a token of it, and none of a wider kind
  abbrev pub is_told : S → K → Option K → Bool
  is_told st kind wider = takes m st (k.sample kind) && not (takes_some st wider)

  abbrev pub told : S → List (K × Option K × List ℕ) → List (List ℕ)
  told st [] = []
  told st ((kind, wider, words) ∷ ks) = if is_told st kind wider then words ∷ told st ks else told st ks

  -- the end first, where all may end
  abbrev pub told_of : S → List (List ℕ)
  told_of st = if m.ends st then the_end ∷ told st k.kinds else told st k.kinds

-- ---- the line

-- words, each behind a space, as far as there is room for so many bytes, and dots for the rest
abbrev pub listed : ℕ → List (List ℕ) → List ℕ
listed room [] = []
listed room (w ∷ ws) =
    if nat_lt room (1 + length w) then codes " .." else codes " " ++ w ++ listed (room - (1 + length w)) ws

-- of 60 bytes
abbrev pub heading : List (List ℕ) → List ℕ
heading ws = codes "wanted one of:" ++ listed 60 ws

-- what was found: the end, or a token, of which at most 11 bytes are shown
abbrev pub found_end : List ℕ
found_end = codes "; found the end"

abbrev pub found_token : List ℕ → List ℕ
found_token bytes =
    codes "; found `" ++ take 11 bytes ++ (if nat_lt 11 (length bytes) then codes ".." else []) ++ codes "`"

abbrev pub bytes_at : List ℕ → Span → List ℕ
bytes_at text place = take (place.end - place.start) (drop place.start text)

abbrev pub same_place : Span → Span → Bool
same_place a b = a.start == b.start && a.end == b.end

abbrev pub end_of : List ℕ → Span
end_of text = record { start = length text; end = length text }

module _ {S K T : Type 0} (m : Machine S T) (k : Kinds K T) (text : List ℕ) (at : Span) where
  -- the line of a place where the machine stands in this state before the token c, and before the end: nothing where
  -- it is another place than that, or where all may end
  abbrev pub token_line : S → T → List ℕ
  token_line st c =
      if same_place at (k.place c) then heading (told_of m k st) ++ found_token (bytes_at text at) else []

  abbrev pub end_line : S → List ℕ
  end_line st = if same_place at (end_of text) && not (m.ends st) then heading (told_of m k st) ++ found_end else []

  abbrev pub line_at : S × List T → List ℕ
  line_at (st, []) = end_line st
  line_at (st, c ∷ w) = token_line st c

  -- the line of a place in a text of these tokens
  abbrev pub wanted_line : List T → List ℕ
  wanted_line w = line_at (stop m w m.start)

-- ---- the laws

-- The machine takes exactly what the grammar goes on with. Where it stands behind the tokens u, it takes a token
-- exactly where some shape begins with u and this token, and the end exactly where u is a shape.
abbrev pub TakesWhatGoesOn : Table → Type 0
TakesWhatGoesOn g = (w z : List g.Tok) (st : State g) → stop (machine_of g) w (machine_of g).start ≡ (st, z) →
    (u : List g.Tok) × (w ≡ u ++ z)
    × ((c : g.Tok) → IsTrue (takes (machine_of g) st c) ↔ Begins (grammar_of g) (u ++ c ∷ []))
    × (IsTrue ((machine_of g).ends st) ↔ IsShape (grammar_of g) u)

module _ {K : Type 0} (g : Table) (k : Kinds K g.Tok) where
  -- a token is told as one of the kinds: the machine takes both or none
  pub record IsTold (c : g.Tok) : Type 0 where
    pub number : ℕ
    pub kind : K
    pub wider : Option K
    pub words : List ℕ
    pub is_there : slice_get k.kinds number ≡ Some (kind, wider, words)
    pub same : (st : State g) → takes (machine_of g) st c ≡ takes (machine_of g) st (k.sample kind)

  -- no line has more than 100 bytes
  abbrev pub FewBytes : Type 0
  FewBytes = (text : List ℕ) (at : Span) (w : List g.Tok) → length (wanted_line (machine_of g) k text at w) ≤ 100

  -- there is a line at each first unexpected token, and at the end of each text that is cut short, whatever the limit
  -- on open constructs
  abbrev pub UnexpectedIsTold : Type 0
  UnexpectedIsTold = (text : List ℕ) (limit : ℕ) (w u : List g.Tok) (c : g.Tok) (z : List g.Tok) →
      IsUnexpected (grammar_of g) limit w u c z → ¬ (wanted_line (machine_of g) k text (k.place c) w ≡ [])

  abbrev pub CutShortIsTold : Type 0
  CutShortIsTold = (text : List ℕ) (limit : ℕ) (w : List g.Tok) → IsCutShort (grammar_of g) limit w →
      ¬ (wanted_line (machine_of g) k text (end_of text) w ≡ [])

  -- the line of a place in a text, of which this says of what tokens it is: none where it is of no tokens
  abbrev pub IsWanted : (List ℕ → List g.Tok → Type 0) → (text : List ℕ) → Span → List ℕ → Type 0
  IsWanted IsCut text at line =
      ((w : List g.Tok) × IsCut text w × (line ≡ wanted_line (machine_of g) k text at w))
      ⊎ (((w : List g.Tok) → ¬ IsCut text w) × (line ≡ []))

  -- a place in a text has one line
  abbrev pub OneLine : (List ℕ → List g.Tok → Type 0) → Type 0
  OneLine IsCut = (text : List ℕ) (at : Span) (a b : List ℕ) → IsWanted IsCut text at a → IsWanted IsCut text at b →
      a ≡ b
