-- One step of a reading, by one step of the table's machine.
use Rattle.std.proofs.Common.{◌≡◌, ◌<◌, ◌≤◌, ℕ, ◌+◌, List, [], ◌∷◌, ◌++◌, length, slice_get, refl, sym, ◌∙◌, ap, subst}
use Rattle.std.proofs.Common.{append_assoc, Some, None, arith, true, false}
use Rattle.std.proofs.lemmas.Option.{slice_get_within}
use Rattle.calc_core.specs.Stack.{Chain}
use Rattle.calc_core.proofs.Stacks.{chain_push, chain_pop, chain_map}
use Rattle.f_lexer.specs.declared.token.Token.{Token}
use Rattle.text_core.specs.Table.{Tm, Nt, Do, Mark, State, then_more}
use Rattle.text_core.specs.Going.{Goes, Lacks, next_of}
use Rattle.text_core.proofs.Going as step
use Rattle.text_core.proofs.Going.{marks_append}
use Rattle.f_grammar.specs.declared.cursor.Wanted.{Wanted}
use Rattle.f_grammar.specs.declared.cursor.Stopped.{Stopped}
use Rattle.f_grammar.specs.declared.cursor.Stopped.TheVariants.{Unexpected, TooDeep}
use Rattle.f_grammar.specs.Machine.{table, Line, Stack, Act, Val, OfToken, LE, act, marks}
use Rattle.f_grammar.specs.Reads.{Fails}
use Rattle.f_grammar.proofs.Typing.{fails_after, fails_call, fails_expect}
use Rattle.f_grammar.specs.declared.raw.RawShape.{RawShape}
use Rattle.idx_core.specs.declared.span.Span.{Span}
use Rattle.f_grammar.specs.Forest.{Puts, Counted, nodes_in}
use Rattle.f_grammar.specs.Frames.{owes, Held, Around, nothing, Reached, IsStop}
use Rattle.f_grammar.specs.declared.forest.Forest.{Forest}
use Rattle.f_grammar.specs.declared.part.Part.{Part}
use Rattle.f_grammar.specs.declared.frame.Frame.{Frame}
use Rattle.f_grammar.proofs.Keeping.{held_on, counted_on}

-- moved along an equation of what is owed, and of what is made
owed_is : (ts : List Token) {i : ℕ} {a b : Stack} {vs : List Val} → a ≡ b →
    Goes table 200 ts 0 0 (Nt LE ∷ []) [] i a vs → Goes table 200 ts 0 0 (Nt LE ∷ []) [] i b vs
owed_is ts {i} {a} {b} {vs} e h = subst (λ (x : Stack). Goes table 200 ts 0 0 (Nt LE ∷ []) [] i x vs) e h

made_is : (ts : List Token) {i : ℕ} {a : Stack} {vs us : List Val} → vs ≡ us →
    Goes table 200 ts 0 0 (Nt LE ∷ []) [] i a vs → Goes table 200 ts 0 0 (Nt LE ∷ []) [] i a us
made_is ts {i} {a} {vs} {us} e h = subst (λ (x : List Val). Goes table 200 ts 0 0 (Nt LE ∷ []) [] i a x) e h

module _ (ts : List Token) {fs : List Frame} {b : Forest} {depth at : ℕ} {goal : Stack} {got : List Val} where
  -- a token that is owed
  pub token : (w : Wanted) (c : Token) → Reached ts fs b depth at (Tm w ∷ goal) got →
      next_of table w (slice_get ts at) ≡ Some c → Reached ts fs b depth (at + 1) goal (OfToken c ∷ got)
  token w c r e = record {
    around = r.around;
    framed = r.framed;
    goes = step.then_goes table 200 ts 0 r.goes
        (step.token_taken table 200 ts 0 at c w (goal ++ r.around.owed) (got ++ r.around.made) e
        (omega (arith, r.counts, r.room)));
    counted = record { all = r.counted.all; many = r.counted.many };
    counts = r.counts;
    room = r.room;
    in_range = (let l = slice_get_within ts at c (step.is_next table ts at w c e) in omega (arith, l));
  }

  -- a line begins
  pub line : (n : Line) (c : Token) (rhs : Stack) (inner : ℕ) → Reached ts fs b depth at (Nt n ∷ goal) got →
      slice_get ts at ≡ Some c → table.after n c ≡ Some rhs → inner ≡ marks rhs + depth → inner ≤ 200 →
      Reached ts fs b inner (at + 1) (rhs ++ goal) (OfToken c ∷ got)
  line n c rhs inner r e f m l =
      let q = append_assoc rhs goal r.around.owed in
      let deep : marks (rhs ++ (goal ++ r.around.owed)) ≡ inner =
      omega (arith, marks_append table rhs (goal ++ r.around.owed), r.counts, m) in
      record {
        around = r.around;
        framed = r.framed;
        goes = step.then_goes table 200 ts 0 r.goes
            (subst (λ (x : Stack). Goes table 200 ts 0 at (Nt n ∷ (goal ++ r.around.owed)) (got ++ r.around.made)
            (at + 1) x (OfToken c ∷ (got ++ r.around.made))) (sym q)
            (step.line_goes table 200 ts 0 at c n rhs (goal ++ r.around.owed) (got ++ r.around.made) e f
            (omega (arith, deep, l))));
        counted = record { all = r.counted.all; many = r.counted.many };
        counts = sym (ap marks q ∙ deep);
        room = l;
        in_range = (let k = slice_get_within ts at c e in omega (arith, k));
      }

  -- a line ends before the next token
  pub ends : (n : Line) → table.may_end n ≡ true → Reached ts fs b depth at (Nt n ∷ goal) got → Lacks table ts at n →
      Reached ts fs b depth at goal got
  ends n e r l = record {
    around = r.around;
    framed = r.framed;
    goes = step.then_goes table 200 ts 0 r.goes
        (step.line_ends table 200 ts 0 at n (goal ++ r.around.owed) (got ++ r.around.made) e l);
    counted = r.counted;
    counts = r.counts;
    room = r.room;
    in_range = r.in_range;
  }

  -- a line goes on as another
  pub as_line : (n m : Line) (k : Stack) → table.may_end n ≡ false → table.may_end m ≡ false → marks k ≡ 0 →
      ((c : Token) → slice_get ts at ≡ Some c → table.after m c ≡ then_more (table.after n c) k) →
      Reached ts fs b depth at (Nt m ∷ goal) got → Reached ts fs b depth at (Nt n ∷ (k ++ goal)) got
  as_line n m k p q z h r =
      let e = append_assoc k goal r.around.owed in
      record {
        around = r.around;
        framed = r.framed;
        goes = owed_is ts (ap (λ (x : Stack). Nt n ∷ x) (sym e))
            (step.then_goes table 200 ts 0 r.goes
            (step.as_any table 200 ts 0 at n m k (goal ++ r.around.owed) (got ++ r.around.made) p q h));
        counted = r.counted;
        counts = omega (arith, r.counts, ap marks e, marks_append table k (goal ++ r.around.owed), z);
        room = r.room;
        in_range = r.in_range;
      }

  -- the same where the next token is known to begin the other line
  pub as_begun : (n m : Line) (k : Stack) (c : Token) (rhs : Stack) → marks k ≡ 0 → slice_get ts at ≡ Some c →
      table.after n c ≡ Some rhs → table.after m c ≡ Some (rhs ++ k) →
      Reached ts fs b depth at (Nt m ∷ goal) got → Reached ts fs b depth at (Nt n ∷ (k ++ goal)) got
  as_begun n m k c rhs z e f g r =
      let q = append_assoc k goal r.around.owed in
      record {
        around = r.around;
        framed = r.framed;
        goes = owed_is ts (ap (λ (x : Stack). Nt n ∷ x) (sym q))
            (step.then_goes table 200 ts 0 r.goes
            (step.as_goes table 200 ts 0 at n m k (goal ++ r.around.owed) c (got ++ r.around.made) e rhs f g));
        counted = r.counted;
        counts = omega (arith, r.counts, ap marks q, marks_append table k (goal ++ r.around.owed), z);
        room = r.room;
        in_range = r.in_range;
      }

  -- a construct ends
  pub closed : (outer : ℕ) → depth ≡ outer + 1 → Reached ts fs b depth at (Mark ∷ goal) got →
      Reached ts fs b outer at goal got
  closed outer e r = record {
    around = r.around;
    framed = r.framed;
    goes = step.then_goes table 200 ts 0 r.goes
        (step.mark_goes table 200 ts 0 at (goal ++ r.around.owed) (got ++ r.around.made));
    counted = r.counted;
    counts = omega (arith, r.counts, e);
    room = omega (arith, r.room, e);
    in_range = r.in_range;
  }

  pub is_open : Reached ts fs b depth at (Mark ∷ goal) got → 0 < depth
  is_open r = omega (arith, r.counts)

  -- an action on the values that were got
  module _ (a : Act) (us : List Val) (acts : (below : List Val) → act a (got ++ below) ≡ us ++ below) where
    acted : Reached ts fs b depth at (Do a ∷ goal) got → (k : State table) →
        Goes table 200 ts 0 0 (Nt LE ∷ []) [] at (Do a ∷ (goal ++ k.owed)) (got ++ k.made) →
        Goes table 200 ts 0 0 (Nt LE ∷ []) [] at (goal ++ k.owed) (us ++ k.made)
    acted r k g =
        step.then_goes table 200 ts 0 g
        (step.do_goes table 200 ts 0 at a (goal ++ k.owed) (got ++ k.made) (us ++ k.made)
        (λ below. ap (λ (x : List Val). act a x) (append_assoc got k.made below)
        ∙ (acts (k.made ++ below) ∙ sym (append_assoc us k.made below))))

    -- that makes no node
    pub done : ((below : List Val) → nodes_in (us ++ below) ≡ nodes_in (got ++ below)) →
        Reached ts fs b depth at (Do a ∷ goal) got → Reached ts fs b depth at goal us
    done same r = record {
      around = r.around;
      framed = r.framed;
      goes = acted r r.around r.goes;
      counted = record {
        all = λ e. r.counted.all e ∙ sym (same r.around.made);
        many = λ e. let l = r.counted.many e in
            omega (arith, l, same r.around.made);
      };
      counts = r.counts;
      room = r.room;
      in_range = r.in_range;
    }

    -- that makes a node
    pub made : {new : Forest} {shape : RawShape} {s : Span} {p : Part} →
        ((below : List Val) → nodes_in (us ++ below) ≡ 1 + nodes_in (got ++ below)) → Puts b new shape s p →
        Reached ts fs b depth at (Do a ∷ goal) got → Reached ts fs new depth at goal us
    made {new = new} one h r = record {
      around = r.around;
      framed = chain_map (Around b) (Around new) (λ f t w x. (x.0, held_on h f x.0 x.1, x.2, x.3)) fs r.around nothing
          r.framed;
      goes = acted r r.around r.goes;
      counted = counted_on h (got ++ r.around.made) (us ++ r.around.made) (one r.around.made) r.counted;
      counts = r.counts;
      room = r.room;
      in_range = r.in_range;
    }

-- a line that another function reads: a type, or the head of a binder
module _ (ts : List Token) {fs : List Frame} {b : Forest} {depth at : ℕ} {got : List Val} where
  pub called : (goal owed left : Stack) (us : List Val) (next inner : ℕ) → marks owed ≡ 0 →
      inner ≡ marks left + depth → inner ≤ 200 → next ≤ length ts →
      ((below : List Val) → nodes_in (us ++ below) ≡ nodes_in below) →
      Goes table 200 ts depth at owed [] next left us → Reached ts fs b depth at (owed ++ goal) got →
      Reached ts fs b inner next (left ++ goal) (us ++ got)
  called goal owed left us next inner z m l k none h r =
      let p = append_assoc owed goal r.around.owed in
      let q = append_assoc left goal r.around.owed in
      let v = append_assoc us got r.around.made in
      let deep : depth ≡ marks (goal ++ r.around.owed) + 0 =
      omega (arith, r.counts, ap marks p, marks_append table owed (goal ++ r.around.owed), z) in
      let go = step.then_goes table 200 ts 0 (owed_is ts p r.goes)
      (step.call_goes table 200 ts 0 (goal ++ r.around.owed) (got ++ r.around.made) deep h) in
      record {
        around = r.around;
        framed = r.framed;
        goes = owed_is ts (sym q) (made_is ts (sym v) go);
        counted = record {
          all = λ e. r.counted.all e ∙ (sym (none (got ++ r.around.made)) ∙ ap nodes_in (sym v));
          many = λ e. let c = r.counted.many e in omega (arith, c, none (got ++ r.around.made), ap nodes_in v);
        };
        counts = omega (arith, m, deep, ap marks q, marks_append table left (goal ++ r.around.owed));
        room = l;
        in_range = k;
      }

  -- where the reading stops
  pub stops : (goal owed : Stack) (e : Stopped) → marks owed ≡ 0 → Fails ts depth at owed [] e →
      Reached ts fs b depth at (owed ++ goal) got → IsStop ts e
  stops goal owed e z f r =
      let p = append_assoc owed goal r.around.owed in
      let deep : depth ≡ marks (goal ++ r.around.owed) + 0 =
      omega (arith, r.counts, ap marks p, marks_append table owed (goal ++ r.around.owed), z) in
      fails_after ts 0 0 at (Nt LE ∷ []) (owed ++ (goal ++ r.around.owed)) [] (got ++ r.around.made) e
      (owed_is ts p r.goes)
      (fails_call ts depth 0 at owed (goal ++ r.around.owed) (got ++ r.around.made) e deep f)

module _ (ts : List Token) {fs : List Frame} {b : Forest} {depth at : ℕ} {goal : Stack} {got : List Val} where
  pub stops_token : (w : Wanted) (e : Stopped) → (e ≡ Unexpected at) × (next_of table w (slice_get ts at) ≡ None) →
      Reached ts fs b depth at (Tm w ∷ goal) got → IsStop ts e
  stops_token w e h r =
      fails_after ts 0 0 at (Nt LE ∷ []) (Tm w ∷ (goal ++ r.around.owed)) [] (got ++ r.around.made) e r.goes
      (fails_expect ts 0 at w (goal ++ r.around.owed) (got ++ r.around.made) e h)

  pub stops_deep : (n : Line) (c : Token) (rhs : Stack) (e : Stopped) → (e ≡ TooDeep at) × (200 ≤ depth) →
      slice_get ts at ≡ Some c → table.after n c ≡ Some rhs → marks rhs ≡ 1 →
      Reached ts fs b depth at (Nt n ∷ goal) got → IsStop ts e
  stops_deep n c rhs e h f g m r = rw h.0 (step.then_stops table 200 ts 0 r.goes
      (step.line_too_deep table 200 ts 0 at c n rhs (goal ++ r.around.owed) (got ++ r.around.made) f g
      (omega (arith, marks_append table rhs (goal ++ r.around.owed), r.counts, m, h.1))))

  pub stops_line : (n : Line) (e : Stopped) → table.may_end n ≡ false → e ≡ Unexpected at → Lacks table ts at n →
      Reached ts fs b depth at (Nt n ∷ goal) got → IsStop ts e
  stops_line n e m h l r =
      rw h (step.then_stops table 200 ts 0 r.goes
      (step.line_lacks table 200 ts 0 at n (goal ++ r.around.owed) (got ++ r.around.made) m l))

-- a frame more, and a frame less
pub enter : (ts : List Token) (goal : Stack) (got : List Val) (f : Frame) (vs : List Val) {fs gs : List Frame}
    {b : Forest} {depth at : ℕ} → gs ≡ fs ++ f ∷ [] → Held b f vs →
    Reached ts fs b depth at (goal ++ owes f) (got ++ vs) → Reached ts gs b depth at goal got
enter ts goal got f vs {fs} {gs} {b} {depth} {at} e h r =
    let p = append_assoc goal (owes f) r.around.owed in
    let v = append_assoc got vs r.around.made in
    let inner : State table = record { owed = owes f ++ r.around.owed; made = vs ++ r.around.made } in
    record {
      around = inner;
      framed = subst (λ (xs : List Frame). Chain (Around b) xs inner nothing) (sym e)
          (chain_push (Around b) fs f inner r.around nothing r.framed (vs, h, refl, refl));
      goes = owed_is ts p (made_is ts v r.goes);
      counted = subst (λ (xs : List Val). Counted b xs) v r.counted;
      counts = r.counts ∙ ap marks p;
      room = r.room;
      in_range = r.in_range;
    }

pub leave : (ts : List Token) (goal : Stack) (got : List Val) (f : Frame) {fs gs : List Frame} {b : Forest}
    {depth at : ℕ} → gs ≡ fs ++ f ∷ [] → Reached ts gs b depth at goal got →
    (vs : List Val) × Held b f vs × Reached ts fs b depth at (goal ++ owes f) (got ++ vs)
leave ts goal got f {fs} {gs} {b} {depth} {at} e r =
    let c = chain_pop (Around b) fs f r.around nothing
    (subst (λ (xs : List Frame). Chain (Around b) xs r.around nothing) e r.framed) in
    let u = c.0 in
    let x = c.1 in
    let vs = x.0 in
    let p : goal ++ r.around.owed ≡ (goal ++ owes f) ++ u.owed =
    ap (λ (y : Stack). goal ++ y) x.2 ∙ sym (append_assoc goal (owes f) u.owed) in
    let v : got ++ r.around.made ≡ (got ++ vs) ++ u.made =
    ap (λ (y : List Val). got ++ y) x.3 ∙ sym (append_assoc got vs u.made) in (
      vs,
      x.1,
      record {
        around = u;
        framed = c.2;
        goes = owed_is ts p (made_is ts v r.goes);
        counted = subst (λ (xs : List Val). Counted b xs) v r.counted;
        counts = r.counts ∙ ap marks p;
        room = r.room;
        in_range = r.in_range;
      },
    )
