-- What the machine takes is what some shape goes on with, over any table that meets its claims.
use Rattle.std.proofs.Common.{rules, ◌≡◌, IsTrue, ℕ, List, [], ◌∷◌, ◌++◌, refl, sym, ◌∙◌, ap, subst, append_assoc}
use Rattle.std.proofs.Common.{Option, Some, None, Bool, true, false, if◌then◌else◌, nat_lt, inl, inr}
use Rattle.std.proofs.lemmas.List.{append-nil}
use Rattle.std.specs.Option.{is_some}
use Rattle.idx_core.specs.declared.span.Span.{Span}
use Rattle.text_core.specs.Table.{Table, State, step, finish, Outcome, Done, Stop, seen, marks, at_end, go}
use Rattle.text_core.specs.Table.{exec, whole, bounded, Unexpected, Passed}
use Rattle.text_core.specs.Shapes.{IsShape, Begins}
use Rattle.text_core.specs.Verdicts.{grammar_of, Says}
use Rattle.text_core.proofs.Claims.{Claims}
use Rattle.text_core.proofs.Reading.{seen_append}
use Rattle.text_core.proofs.Assembly.{exact}
use Rattle.text_core.proofs.Unique.{one_verdict}
use Rattle.talc_wanted.specs.Wanted.{Machine, machine_of, goes_on, stop, Kinds, TakesWhatGoesOn, UnexpectedIsTold}
use Rattle.talc_wanted.specs.Wanted.{CutShortIsTold, line_at, wanted_line, same_place, end_of, OneLine}

module _ (g : Table) (k : Claims g) where
  abbrev m : Machine (State g) g.Tok
  m = machine_of g

  two_ends : (a b : List ℕ) (t : List g.Val) (r : List g.Tok) → seen g a (Done t) ≡ seen g b (Stop r) → ⊥
  two_ends [] [] t r e = cc
  two_ends [] (m ∷ b) t r e = cc
  two_ends (n ∷ a) [] t r e = cc
  two_ends (n ∷ a) (m ∷ b) t r e = let q : seen g a (Done t) ≡ seen g b (Stop r) = cc in two_ends a b t r q

  -- the tokens u were read from the start, up to the state b
  record Came (u : List g.Tok) (b : State g) : Type 0 where
    counts : List ℕ
    leads : (z : List g.Tok) → whole g (u ++ z) ≡ seen g counts (exec g z b.owed b.made)
    good : k.Good b.owed

  came_start : Came [] m.start
  came_start = record { counts = []; leads = λ z. refl; good = k.good_start }

  came_next : (u : List g.Tok) (b : State g) (c : g.Tok) (d : State g) → step g b.owed b.made c ≡ Some d → Came u b →
      Came (u ++ c ∷ []) d
  came_next u b c d f h = record {
    counts = h.counts ++ marks g d.owed ∷ [];
    leads = λ z.
        rw (append_assoc u (c ∷ []) z, seen_append g h.counts (marks g d.owed ∷ []) (exec g z d.owed d.made))
        (h.leads (c ∷ z) ∙ ap (λ (o : Option (State g)). seen g h.counts (go g (exec g z) (c ∷ z) o)) f);
    good = k.good_step b.owed b.made c d f h.good;
  }

  -- where the machine stands
  record Stood (u w z : List g.Tok) (st : State g) : Type 0 where
    read : List g.Tok
    is : w ≡ read ++ z
    came : Came (u ++ read) st

  nothing_read : (u w z : List g.Tok) (b st : State g) → Came u b →
      ◌≡◌ {A = State g × List g.Tok} (b, w) (st, z) → Stood u w z st
  nothing_read u w z b st h e =
      let p : b ≡ st = ap (λ (x : State g × List g.Tok). x.0) e in
      let q : w ≡ z = ap (λ (x : State g × List g.Tok). x.1) e in
      record { read = []; is = q; came = rw (append-nil u) (subst (λ (x : State g). Came u x) p h) }

  by_step : (u : List g.Tok) (c : g.Tok) (w z : List g.Tok) (b st : State g) → Came u b →
      ((d : State g) → Came (u ++ c ∷ []) d → stop m w d ≡ (st, z) → Stood (u ++ c ∷ []) w z st) →
      (o : Option (State g)) → step g b.owed b.made c ≡ o → goes_on (stop m w) b (c ∷ w) o ≡ (st, z) →
      Stood u (c ∷ w) z st
  by_step u c w z b st h further None f e = nothing_read u (c ∷ w) z b st h e
  by_step u c w z b st h further (Some d) f e =
      let s = further d (came_next u b c d f h) e in
      record {
        read = c ∷ s.read;
        is = ap (λ (x : List g.Tok). c ∷ x) s.is;
        came = subst (λ (x : List g.Tok). Came x st) (append_assoc u (c ∷ []) s.read) s.came;
      }

  stood : (u w z : List g.Tok) (b st : State g) → Came u b → stop m w b ≡ (st, z) → Stood u w z st
  stood u [] z b st h e = nothing_read u [] z b st h e
  stood u (c ∷ w) z b st h e =
      by_step u c w z b st h (λ d. stood (u ++ c ∷ []) w z d st) (step g b.owed b.made c) refl e

  begins : (u : List g.Tok) (b : State g) → Came u b → Begins (grammar_of g) u
  begins u b h =
      let f = k.filled b.owed b.made h.good in
      let s = k.sound (u ++ f.rest) f.made (h.counts ++ f.counts)
      (h.leads f.rest
      ∙ (ap (λ (o : Outcome g). seen g h.counts o) f.done ∙ sym (seen_append g h.counts f.counts (Done f.made)))) in
      (f.rest, (s.value, s.shape))

  taken_begins : (u : List g.Tok) (b : State g) (c : g.Tok) → Came u b → (o : Option (State g)) →
      step g b.owed b.made c ≡ o → IsTrue (is_some o) → Begins (grammar_of g) (u ++ c ∷ [])
  taken_begins u b c h None f t = absurd (cc)
  taken_begins u b c h (Some d) f t = begins (u ++ c ∷ []) d (came_next u b c d f h)

  begins_taken : (u : List g.Tok) (b : State g) (c : g.Tok) → Came u b → (o : Option (State g)) →
      step g b.owed b.made c ≡ o → Begins (grammar_of g) (u ++ c ∷ []) → IsTrue (is_some o)
  begins_taken u b c h None f (z, (t, s)) =
      absurd (two_ends (g.opens ((u ++ c ∷ []) ++ z) t s) h.counts (g.tree t ∷ []) (c ∷ z)
      (sym (k.complete ((u ++ c ∷ []) ++ z) t s)
      ∙ (ap (λ (x : List g.Tok). whole g x) (append_assoc u (c ∷ []) z)
      ∙ (h.leads (c ∷ z) ∙ ap (λ (o : Option (State g)). seen g h.counts (go g (exec g z) (c ∷ z) o)) f))))
  begins_taken u b c h (Some d) f e = refl

  ended_shape : (u : List g.Tok) (b : State g) → Came u b → (o : Option (List g.Val)) →
      finish g b.owed b.made ≡ o → IsTrue (is_some o) → IsShape (grammar_of g) u
  ended_shape u b h None f t = absurd (cc)
  ended_shape u b h (Some vs) f t =
      let s = k.sound u vs h.counts
      (ap (λ (x : List g.Tok). whole g x) (sym (append-nil u))
      ∙ (h.leads [] ∙ ap (λ (o : Option (List g.Val)). seen g h.counts (at_end g o)) f)) in
      (s.value, s.shape)

  shape_ended : (u : List g.Tok) (b : State g) → Came u b → (o : Option (List g.Val)) →
      finish g b.owed b.made ≡ o → IsShape (grammar_of g) u → IsTrue (is_some o)
  shape_ended u b h None f (t, s) =
      absurd (two_ends (g.opens u t s) h.counts (g.tree t ∷ []) []
      (sym (k.complete u t s)
      ∙ (ap (λ (x : List g.Tok). whole g x) (sym (append-nil u))
      ∙ (h.leads [] ∙ ap (λ (o : Option (List g.Val)). seen g h.counts (at_end g o)) f))))
  shape_ended u b h (Some vs) f e = refl

  pub takes_what_goes_on : TakesWhatGoesOn g
  takes_what_goes_on w z st e =
      let s = stood [] w z m.start st came_start e in (
        s.read,
        s.is,
        λ c. (
          taken_begins s.read st c s.came (step g st.owed st.made c) refl,
          begins_taken s.read st c s.came (step g st.owed st.made c) refl,
        ),
        (
          ended_shape s.read st s.came (finish g st.owed st.made) refl,
          shape_ended s.read st s.came (finish g st.owed st.made) refl,
        ),
      )

  -- Where the verdict is an unexpected token or end, the machine stands there.
  record Stuck (w r : List g.Tok) (b : State g) : Type 0 where
    state : State g
    is : stop m w b ≡ (state, r)
    open_end : r ≡ [] → m.ends state ≡ false

  stuck_at_end : (limit : ℕ) (r : List g.Tok) (b : State g) (o : Option (List g.Val)) → finish g b.owed b.made ≡ o →
      bounded g limit [] (at_end g o) ≡ Unexpected r → Stuck [] r b
  stuck_at_end limit r b None f e =
      let q : [] ≡ r = cc in
      record {
        state = b;
        is = ap (λ (x : List g.Tok). (b, x)) q;
        open_end = λ h. ap (λ (o : Option (List g.Val)). is_some o) f;
      }
  stuck_at_end limit r b (Some vs) f e = absurd (cc)

  stuck_within : (limit : ℕ) (c : g.Tok) (w r : List g.Tok) (b d : State g) →
      (bounded g limit w (exec g w d.owed d.made) ≡ Unexpected r → Stuck w r d) → step g b.owed b.made c ≡ Some d →
      (x : Bool) → (if x then Passed (c ∷ w) else bounded g limit w (exec g w d.owed d.made)) ≡ Unexpected r →
      Stuck (c ∷ w) r b
  stuck_within limit c w r b d further f true e = absurd (cc)
  stuck_within limit c w r b d further f false e =
      let s = further e in record { state = s.state; is = rw f s.is; open_end = s.open_end }

  stuck_by_step : (limit : ℕ) (c : g.Tok) (w r : List g.Tok) (b : State g) →
      ((d : State g) → bounded g limit w (exec g w d.owed d.made) ≡ Unexpected r → Stuck w r d) →
      (o : Option (State g)) → step g b.owed b.made c ≡ o →
      bounded g limit (c ∷ w) (go g (exec g w) (c ∷ w) o) ≡ Unexpected r → Stuck (c ∷ w) r b
  stuck_by_step limit c w r b further None f e =
      let q : c ∷ w ≡ r = cc in
      record {
        state = b;
        is = rw f (ap (λ (x : List g.Tok). (b, x)) q);
        open_end = λ h. let z : c ∷ w ≡ [] = q ∙ h in absurd (cc);
      }
  stuck_by_step limit c w r b further (Some d) f e =
      stuck_within limit c w r b d (further d) f (nat_lt limit (marks g d.owed)) e

  stuck : (limit : ℕ) (w r : List g.Tok) (b : State g) →
      bounded g limit w (exec g w b.owed b.made) ≡ Unexpected r → Stuck w r b
  stuck limit [] r b e = stuck_at_end limit r b (finish g b.owed b.made) refl e
  stuck limit (c ∷ w) r b e =
      stuck_by_step limit c w r b (λ d. stuck limit w r d) (step g b.owed b.made c) refl e

  verdict_of : (limit : ℕ) (w r : List g.Tok) → Says g limit w (Unexpected r) →
      bounded g limit w (whole g w) ≡ Unexpected r
  verdict_of limit w r s =
      one_verdict g k limit w (bounded g limit w (whole g w)) (Unexpected r) (exact g k limit w) s

  same_self : (p : Span) → same_place p p ≡ true
  same_self p = search rules

  pub unexpected_is_told : {K : Type 0} (j : Kinds K g.Tok) → UnexpectedIsTold g j
  unexpected_is_told j text limit w u c z h e =
      let s = stuck limit w (c ∷ z) m.start (verdict_of limit w (c ∷ z) (u, h)) in
      let q : line_at m j text (j.place c) (s.state, c ∷ z) ≡ [] =
      ap (λ (x : State g × List g.Tok). line_at m j text (j.place c) x) (sym s.is) ∙ e in
      let r = rw (same_self (j.place c)) at q in
      cc

  pub cut_short_is_told : {K : Type 0} (j : Kinds K g.Tok) → CutShortIsTold g j
  cut_short_is_told j text limit w h e =
      let s = stuck limit w [] m.start (verdict_of limit w [] h) in
      let q : line_at m j text (end_of text) (s.state, []) ≡ [] =
      ap (λ (x : State g × List g.Tok). line_at m j text (end_of text) x) (sym s.is) ∙ e in
      let r = rw (same_self (end_of text), s.open_end refl) at q in
      cc

-- A place in a text has one line, where a text is of the same tokens at each reading.
pub one_line : {K : Type 0} (g : Table) (j : Kinds K g.Tok) (IsCut : List ℕ → List g.Tok → Type 0) →
    ((text : List ℕ) (w v : List g.Tok) → IsCut text w → IsCut text v → w ≡ v) → OneLine g j IsCut
one_line g j IsCut one text at a b (inl (w, c, e)) (inl (v, d, f)) =
    e ∙ (ap (λ x. wanted_line (machine_of g) j text at x) (one text w v c d) ∙ sym f)
one_line g j IsCut one text at a b (inl (w, c, e)) (inr (n, f)) = absurd (n w c)
one_line g j IsCut one text at a b (inr (n, e)) (inl (v, d, f)) = absurd (n v d)
one_line g j IsCut one text at a b (inr (n, e)) (inr (m, f)) = e ∙ sym f
