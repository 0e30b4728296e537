-- How the reading functions follow one another, over plain variables.
use Rattle.std.proofs.Common.{◌≡◌, ℕ, ◌+◌, ◌<◌, ◌≤◌, inl, inr, List, [], ◌∷◌, ◌++◌, length, slice_get, refl, sym}
use Rattle.std.proofs.Common.{subst, Option, Some, None, arith, true, false, if◌then◌else◌, append_assoc}
use Rattle.std.proofs.lemmas.Option.{slice_get_within}
use Rattle.std.proofs.lemmas.List.{append-nil}
use Rattle.text_core.specs.Table.{Tm, Nt, Do, Mark, marks}
use Rattle.text_core.specs.Going.{Goes, Lacks, next_of}
use Rattle.text_core.proofs.Going as step
use Rattle.t_text.specs.declared.token.Token.{Token}
use Rattle.t_text.specs.declared.token.Kind.{Kind}
use Rattle.t_text.specs.declared.wanted.Wanted.{Wanted}
use Rattle.t_text.specs.GrammarTable.{table, Line, Stack, Val, OfToken, Act, act, fits, after, may_end}
use Rattle.t_shapes.specs.declared.cursor.Stopped.{Stopped}
use Rattle.t_shapes.specs.declared.cursor.Stopped.TheVariants.{Memory, Unexpected, TooDeep}
use Rattle.t_shapes.specs.Cursor.{Next, Misses, TwoMissed}
use Rattle.t_shapes.specs.ReadsTypes.{ReadsOwed, Reads, Fails, ReadsSome}
use Rattle.t_text.specs.declared.wanted.Wanted.TheVariants as want
use Rattle.t_text.specs.Text.{most_open}

abbrev pub Moves : List Token → ℕ → ℕ → Stack → List Val → ℕ → Stack → List Val → Type 0
Moves ts d i owed vs j left us = Goes table most_open ts d i owed vs j left us

pub is_next : (ts : List Token) (i : ℕ) (w : Wanted) (c : Token) → Next ts i w c → slice_get ts i ≡ Some c
is_next ts i w c e = step.is_next table ts i w c e

pub is_of : (ts : List Token) (i : ℕ) (w : Wanted) (c : Token) → Next ts i w c → fits w c.kind ≡ true
is_of ts i w c e = step.is_of table ts i w c e

pub within : (ts : List Token) (i : ℕ) (w : Wanted) (c : Token) → Next ts i w c → i < length ts
within ts i w c e = slice_get_within ts i c (is_next ts i w c e)

pub not_fits : (w : Wanted) (o : Option Token) (c : Token) → next_of table w o ≡ None → o ≡ Some c →
    fits w c.kind ≡ false
not_fits w o c e q = step.not_fits table w o c e q

-- what is owed goes on
pub start : (ts : List Token) (d i : ℕ) (owed : Stack) → Moves ts d i owed [] i owed []
start ts d i owed = record { leads = λ s below q. refl }

pub by_token : {ts : List Token} {d i j : ℕ} {owed : Stack} {vs : List Val} (w : Wanted) (c : Token) (rest : Stack)
    (us : List Val) → Moves ts d i owed vs j (Tm w ∷ rest) us →
    Next ts j w c → marks table rest + d ≤ most_open → Moves ts d i owed vs (j + 1) rest (OfToken c ∷ us)
by_token {ts} {d} {i} {j} w c rest us h e m =
    step.then_goes table most_open ts d h (step.token_taken table most_open ts d j c w rest us e m)

pub by_two : {ts : List Token} {d i j : ℕ} {owed : Stack} {vs : List Val} (v w : Wanted) (a b : Token) (rest : Stack)
    (us : List Val) → Moves ts d i owed vs j (Tm v ∷ (Tm w ∷ rest)) us →
    Next ts j v a × Next ts (j + 1) w b → marks table rest + d ≤ most_open →
    Moves ts d i owed vs (j + 2) rest (OfToken b ∷ (OfToken a ∷ us))
by_two {ts} {d} v w a b rest us h (e, f) m =
    step.goes_to table most_open ts d (omega arith)
    (by_token w b rest (OfToken a ∷ us) (by_token v a (Tm w ∷ rest) us h e m) f m)

pub by_row : {ts : List Token} {d i j : ℕ} {owed : Stack} {vs : List Val} (c : Token) (n : Line) (rhs rest : Stack)
    (us : List Val) → Moves ts d i owed vs j (Nt n ∷ rest) us →
    slice_get ts j ≡ Some c → after n c.kind ≡ Some rhs → marks table (rhs ++ rest) + d ≤ most_open →
    Moves ts d i owed vs (j + 1) (rhs ++ rest) (OfToken c ∷ us)
by_row {ts} {d} {i} {j} c n rhs rest us h e f m =
    step.then_goes table most_open ts d h (step.line_goes table most_open ts d j c n rhs rest us e f m)

pub by_none : {ts : List Token} {d i j : ℕ} {owed : Stack} {vs : List Val} (n : Line) (rest : Stack) (us : List Val) →
    Moves ts d i owed vs j (Nt n ∷ rest) us → may_end n ≡ true → Lacks table ts j n →
    Moves ts d i owed vs j rest us
by_none {ts} {d} {i} {j} n rest us h m l =
    step.then_goes table most_open ts d h (step.line_ends table most_open ts d j n rest us m l)

pub by_call : {ts : List Token} {d i j k : ℕ} {owed a : Stack} {vs ws : List Val} (m : ℕ) (rest : Stack)
    (us : List Val) → Moves ts d i owed vs j (a ++ rest) us → m ≡ marks table rest + d →
    Goes table most_open ts m j a [] k [] ws → Moves ts d i owed vs k rest (ws ++ us)
by_call {ts} {d} m rest us h e r =
    step.then_goes table most_open ts d h (step.call_goes table most_open ts d rest us e r)

pub by_do : {ts : List Token} {d i j : ℕ} {owed : Stack} {vs : List Val} (x : Act) (rest : Stack) (us ws : List Val) →
    Moves ts d i owed vs j (Do x ∷ rest) us →
    ((below : List Val) → act x (us ++ below) ≡ ws ++ below) → Moves ts d i owed vs j rest ws
by_do {ts} {d} {i} {j} x rest us ws h e =
    step.then_goes table most_open ts d h (step.do_goes table most_open ts d j x rest us ws e)

pub by_mark : {ts : List Token} {d i j : ℕ} {owed : Stack} {vs : List Val} (rest : Stack) (us : List Val) →
    Moves ts d i owed vs j (Mark ∷ rest) us → Moves ts d i owed vs j rest us
by_mark {ts} {d} {i} {j} rest us h =
    step.then_goes table most_open ts d h (step.mark_goes table most_open ts d j rest us)

pub by_same : {ts : List Token} {d i j k : ℕ} {owed left : Stack} {vs us : List Val} → k ≡ j →
    Moves ts d i owed vs j left us → Moves ts d i owed vs k left us
by_same {ts} {d} e h = step.goes_to table most_open ts d (sym e) h

-- a line begins
pub begins : (ts : List Token) (d i : ℕ) (c : Token) (n : Line) (rhs : Stack) → slice_get ts i ≡ Some c →
    after n c.kind ≡ Some rhs → marks table rhs + d ≤ most_open →
    Moves ts d i (Nt n ∷ []) [] (i + 1) rhs (OfToken c ∷ [])
begins ts d i c n rhs e f m =
    subst (λ (x : Stack). Moves ts d i (Nt n ∷ []) [] (i + 1) x (OfToken c ∷ [])) (append-nil rhs)
    (step.line_goes table most_open ts d i c n rhs [] [] e f
    (subst (λ (x : Stack). marks table x + d ≤ most_open) (sym (append-nil rhs)) m))

-- the reading stops
pub after_moves : {ts : List Token} {d i j : ℕ} {a b : Stack} {x y : List Val} (e : Stopped) → Moves ts d i a x j b y →
    Fails ts d j b y e → Fails ts d i a x e
after_moves Memory h f = tt
after_moves {ts} {d} (Unexpected n) h f = step.then_stops table most_open ts d h f
after_moves {ts} {d} (TooDeep n) h f = step.then_stops table most_open ts d h f

pub stop_token : {ts : List Token} {d i j : ℕ} {a : Stack} {x : List Val} (e : Stopped) (w : Wanted) (rest : Stack)
    (us : List Val) → Moves ts d i a x j (Tm w ∷ rest) us →
    (e ≡ Unexpected j) × Misses ts j w → Fails ts d i a x e
stop_token {ts} {d} {i} {j} e w rest us h q =
    rw q.0 (step.then_stops table most_open ts d h (step.token_misses table most_open ts d j w rest us q.1))

pub stop_two : {ts : List Token} {d i j : ℕ} {a : Stack} {x : List Val} (e : Stopped) (v w : Wanted) (rest : Stack)
    (us : List Val) → Moves ts d i a x j (Tm v ∷ (Tm w ∷ rest)) us →
    marks table rest + d ≤ most_open → TwoMissed ts j v w e → Fails ts d i a x e
stop_two e v w rest us h m (inl q) = stop_token e v (Tm w ∷ rest) us h q
stop_two e v w rest us h m (inr (q, (c, f, g))) =
    stop_token e w rest (OfToken c ∷ us) (by_token v c (Tm w ∷ rest) us h f m) (q, g)

pub stop_call : {ts : List Token} {d i j : ℕ} {a : Stack} {x : List Val} (e : Stopped) (owed : Stack) (m : ℕ)
    (rest : Stack) (us : List Val) → Moves ts d i a x j (owed ++ rest) us → m ≡ marks table rest + d →
    Fails ts m j owed [] e → Fails ts d i a x e
stop_call Memory owed m rest us h q f = tt
stop_call {ts} {d} (Unexpected n) owed m rest us h q f =
    step.then_stops table most_open ts d h (step.call_stops table most_open ts d rest us q f)
stop_call {ts} {d} (TooDeep n) owed m rest us h q f =
    step.then_stops table most_open ts d h (step.call_stops table most_open ts d rest us q f)

pub stop_deep : {ts : List Token} {d i j : ℕ} {a : Stack} {x : List Val} (e : Stopped) (c : Token) (n : Line)
    (rhs rest : Stack) (us : List Val) → Moves ts d i a x j (Nt n ∷ rest) us →
    slice_get ts j ≡ Some c → after n c.kind ≡ Some rhs → marks table (rhs ++ rest) ≡ 1 →
    (e ≡ TooDeep j) × (most_open ≤ d) → Fails ts d i a x e
stop_deep {ts} {d} {i} {j} e c n rhs rest us h q r m p =
    rw p.0 (step.then_stops table most_open ts d h
    (step.line_too_deep table most_open ts d j c n rhs rest us q r (omega (arith, m, p.1))))

pub stop_lacks : {ts : List Token} {d i j : ℕ} {a : Stack} {x : List Val} (e : Stopped) (n : Line) (rest : Stack)
    (us : List Val) → Moves ts d i a x j (Nt n ∷ rest) us → may_end n ≡ false →
    Lacks table ts j n → e ≡ Unexpected j → Fails ts d i a x e
stop_lacks {ts} {d} {i} {j} e n rest us h m l q =
    rw q (step.then_stops table most_open ts d h (step.line_lacks table most_open ts d j n rest us m l))

-- a line that begins with one class of tokens alone
pub record Opens (n : Line) (w : Wanted) (rhs : Stack) : Type 0 where
  pub takes : (c : Kind) → fits w c ≡ true → after n c ≡ Some rhs
  pub no_other : (c : Kind) → fits w c ≡ false → after n c ≡ None

pub lacks : (ts : List Token) (i : ℕ) (n : Line) (w : Wanted) (rhs : Stack) → Opens n w rhs → Misses ts i w →
    Lacks table ts i n
lacks ts i n w rhs o e = step.lacks_all table ts i w n (λ c q. o.no_other c.kind q) e

pub opening : (ts : List Token) (d i : ℕ) (c : Token) (n : Line) (w : Wanted) (rhs : Stack) → Opens n w rhs →
    Next ts i w c → marks table rhs + d ≤ most_open → Moves ts d i (Nt n ∷ []) [] (i + 1) rhs (OfToken c ∷ [])
opening ts d i c n w rhs o e m = begins ts d i c n rhs (is_next ts i w c e) (o.takes c.kind (is_of ts i w c e)) m

pub not_opening : (ts : List Token) (d i : ℕ) (e : Stopped) (n : Line) (w : Wanted) (rhs : Stack) → Opens n w rhs →
    may_end n ≡ false → (e ≡ Unexpected i) × Misses ts i w → Fails ts d i (Nt n ∷ []) [] e
not_opening ts d i e n w rhs o m q = stop_lacks e n [] [] (start ts d i (Nt n ∷ [])) m (lacks ts i n w rhs o q.1) q.0

pub too_deep : (ts : List Token) (d i : ℕ) (e : Stopped) (c : Token) (n : Line) (w : Wanted) (rhs : Stack) →
    Opens n w rhs → Next ts i w c → marks table (rhs ++ []) ≡ 1 → (e ≡ TooDeep i) × (most_open ≤ d) →
    Fails ts d i (Nt n ∷ []) [] e
too_deep ts d i e c n w rhs o q m p =
    stop_deep e c n rhs [] [] (start ts d i (Nt n ∷ [])) (is_next ts i w c q) (o.takes c.kind (is_of ts i w c q)) m p

-- a line n that is an opening bracket with the line l after it
module _ (ts : List Token) (d i : ℕ) (c : Token) (n l : Line) (w : Wanted) (x : Act)
    (o : Opens n w (Nt l ∷ (Mark ∷ (Do x ∷ [])))) (e : Next ts i w c) (m : ℕ) (h : d < most_open) (q : m ≡ d + 1) where
  inside : Moves ts d i (Nt n ∷ []) [] (i + 1) (Nt l ∷ (Mark ∷ (Do x ∷ []))) (OfToken c ∷ [])
  inside = opening ts d i c n w (Nt l ∷ (Mark ∷ (Do x ∷ []))) o e (omega arith)

  pub bracketed_stops : (s : Stopped) → Fails ts m (i + 1) (Nt l ∷ []) [] s → Fails ts d i (Nt n ∷ []) [] s
  bracketed_stops s f = stop_call s (Nt l ∷ []) m (Mark ∷ (Do x ∷ [])) (OfToken c ∷ []) inside (omega (arith, q)) f

  pub bracketed : (j : ℕ) (v u : Val) → Reads l ts m (i + 1) j (v ∷ []) →
      ((below : List Val) → act x (v ∷ (OfToken c ∷ below)) ≡ u ∷ below) → Reads n ts d i j (u ∷ [])
  bracketed j v u r k = record {
    forward = (let f = r.forward in omega arith);
    in_range = r.in_range;
    same = by_do x [] (v ∷ (OfToken c ∷ [])) (u ∷ [])
        (by_mark (Do x ∷ []) (v ∷ (OfToken c ∷ []))
        (by_call m (Mark ∷ (Do x ∷ [])) (OfToken c ∷ []) inside (omega (arith, q)) r.same)) k;
  }

-- a line that goes on as a token of a class with k after it
pub as_token : (ts : List Token) (d i : ℕ) (n : Line) (w : Wanted) (k : Stack) → may_end n ≡ false →
    ((c : Token) → slice_get ts i ≡ Some c → after n c.kind ≡ (if fits w c.kind then Some k else None)) →
    Moves ts d i (Nt n ∷ []) [] i (Tm w ∷ k) []
as_token ts d i n w k m h = step.as_token table most_open ts d i n w k m h

-- a list: items with commas between them, up to a closing bracket
abbrev pub list_left : Line → Wanted → Act → Stack
list_left q w close = Nt q ∷ (Tm w ∷ (Do close ∷ []))

pub record ListLine (n q : Line) (w : Wanted) (item : Stack) (first next close : Act) : Type 0 where
  pub begin : (ts : List Token) (d i : ℕ) → Misses ts i w →
      Moves ts d i (Nt n ∷ []) [] i (item ++ (Do first ∷ list_left q w close)) []
  pub comma : Opens q want.Comma (item ++ (Do next ∷ (Nt q ∷ [])))
  pub ends : may_end q ≡ true
  pub flat : marks table item ≡ 0

module _ (n q : Line) (w : Wanted) (item : Stack) (first next close : Act) (l : ListLine n q w item first next close)
    (ts : List Token) (d i : ℕ) where
  abbrev SoFar : ℕ → Val → Type 0
  SoFar j v = ReadsSome n (list_left q w close) ts d i j v

  pub list_first_from : (j : ℕ) (us : List Val) (v : Val) →
      Moves ts d i (Nt n ∷ []) [] i (item ++ (Do first ∷ list_left q w close)) [] → ReadsOwed item ts d i j us →
      ((below : List Val) → act first (us ++ below) ≡ v ∷ below) → SoFar j v
  list_first_from j us v b r k = record {
    forward = r.forward;
    in_range = r.in_range;
    same = by_do first (list_left q w close) us (v ∷ [])
        (subst (λ (x : List Val). Moves ts d i (Nt n ∷ []) [] j (Do first ∷ list_left q w close) x) (append-nil us)
        (by_call d (Do first ∷ list_left q w close) [] b (omega arith) r.same)) k;
  }

  pub list_first : (j : ℕ) (us : List Val) (v : Val) → Misses ts i w → ReadsOwed item ts d i j us →
      ((below : List Val) → act first (us ++ below) ≡ v ∷ below) → SoFar j v
  list_first j us v e r k = list_first_from j us v (l.begin ts d i e) r k

  pub list_first_stops : (e : Stopped) → Misses ts i w → Fails ts d i item [] e → Fails ts d i (Nt n ∷ []) [] e
  list_first_stops e m f = stop_call e item d (Do first ∷ list_left q w close) [] (l.begin ts d i m) (omega arith) f

  after_comma : (j : ℕ) (v : Val) (c : Token) → d ≤ most_open → SoFar j v → Next ts j want.Comma c →
      Moves ts d i (Nt n ∷ []) [] (j + 1) (item ++ (Do next ∷ list_left q w close)) (OfToken c ∷ (v ∷ []))
  after_comma j v c h r e =
      subst (λ (x : Stack). Moves ts d i (Nt n ∷ []) [] (j + 1) x (OfToken c ∷ (v ∷ [])))
      (append_assoc item (Do next ∷ (Nt q ∷ [])) (Tm w ∷ (Do close ∷ [])))
      (by_row c q (item ++ (Do next ∷ (Nt q ∷ []))) (Tm w ∷ (Do close ∷ [])) (v ∷ []) r.same
      (is_next ts j want.Comma c e) (l.comma.takes c.kind (is_of ts j want.Comma c e))
      (let x = step.marks_append table (item ++ (Do next ∷ (Nt q ∷ []))) (Tm w ∷ (Do close ∷ [])) in
      let y = step.marks_append table item (Do next ∷ (Nt q ∷ [])) in omega (arith, x, y, l.flat)))

  pub list_next : (j k : ℕ) (us : List Val) (v u : Val) (c : Token) → d ≤ most_open → SoFar j v →
      Next ts j want.Comma c → ReadsOwed item ts d (j + 1) k us →
      ((below : List Val) → act next (us ++ (OfToken c ∷ (v ∷ below))) ≡ u ∷ below) → SoFar k u
  list_next j k us v u c h r e x f = record {
    forward = omega (arith, r.forward, x.forward);
    in_range = x.in_range;
    same = by_do next (list_left q w close) (us ++ (OfToken c ∷ (v ∷ []))) (u ∷ [])
        (by_call d (Do next ∷ list_left q w close) (OfToken c ∷ (v ∷ [])) (after_comma j v c h r e)
        (omega arith) x.same)
        (λ below. rw (append_assoc us (OfToken c ∷ (v ∷ [])) below) (f below));
  }

  pub list_next_stops : (j : ℕ) (v : Val) (c : Token) (e : Stopped) → d ≤ most_open → SoFar j v →
      Next ts j want.Comma c → Fails ts d (j + 1) item [] e → Fails ts d i (Nt n ∷ []) [] e
  list_next_stops j v c e h r m f =
      stop_call e item d (Do next ∷ list_left q w close) (OfToken c ∷ (v ∷ [])) (after_comma j v c h r m)
      (omega arith) f

  at_close : (j : ℕ) (v : Val) → SoFar j v → Misses ts j want.Comma →
      Moves ts d i (Nt n ∷ []) [] j (Tm w ∷ (Do close ∷ [])) (v ∷ [])
  at_close j v r e =
      by_none q (Tm w ∷ (Do close ∷ [])) (v ∷ []) r.same l.ends
      (lacks ts j q want.Comma (item ++ (Do next ∷ (Nt q ∷ []))) l.comma e)

  pub list_whole : (j : ℕ) (v u : Val) (c : Token) → d ≤ most_open → SoFar j v → Misses ts j want.Comma →
      Next ts j w c → ((below : List Val) → act close (OfToken c ∷ (v ∷ below)) ≡ u ∷ below) →
      Reads n ts d i (j + 1) (u ∷ [])
  list_whole j v u c h r e f k = record {
    forward = omega (arith, r.forward);
    in_range = (let b = within ts j w c f in omega arith);
    same = by_do close [] (OfToken c ∷ (v ∷ [])) (u ∷ [])
        (by_token w c (Do close ∷ []) (v ∷ []) (at_close j v r e) f (omega arith)) k;
  }

  pub list_close_stops : (j : ℕ) (v : Val) (e : Stopped) → SoFar j v → Misses ts j want.Comma →
      (e ≡ Unexpected j) × Misses ts j w → Fails ts d i (Nt n ∷ []) [] e
  list_close_stops j v e r m f = stop_token e w (Do close ∷ []) (v ∷ []) (at_close j v r m) f

-- one token, and two, that are owed
pub one_read : (ts : List Token) (d i k : ℕ) (w : Wanted) (c : Token) → d ≤ most_open → Next ts i w c → k ≡ i + 1 →
    ReadsOwed (Tm w ∷ []) ts d i k (OfToken c ∷ [])
one_read ts d i k w c h e q =
    record {
      forward = omega arith;
      in_range = (let b = within ts i w c e in omega arith);
      same = by_same q (by_token w c [] [] (start ts d i (Tm w ∷ [])) e (omega arith));
    }

pub one_missed : (ts : List Token) (d i : ℕ) (w : Wanted) (e : Stopped) → (e ≡ Unexpected i) × Misses ts i w →
    Fails ts d i (Tm w ∷ []) [] e
one_missed ts d i w e f = stop_token e w [] [] (start ts d i (Tm w ∷ [])) f
