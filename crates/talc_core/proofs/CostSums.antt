-- Sums over the places on the page of a run are sums over its steps.
use Rattle.std.proofs.Common.{◌≡◌, ℕ, zero, suc, ◌+◌, ◌*◌, ◌≤◌, ◌==◌, true, cond, List, [], ◌∷◌, length, map}
use Rattle.std.proofs.Common.{Some, None, refl, sym, ap, ◌∙◌, subst, arith, slice_get, option_and_then}
use Rattle.std.proofs.Common.{sum_by, count_by}
use Rattle.std.specs.Prelude.{if◌then◌else◌}
use Rattle.std.proofs.lemmas.Bool.Decides.{nat_tests}
use Rattle.std.proofs.lemmas.List.Sums.{sum_by-cons, sum_by-append}
use Rattle.idx_core.specs.declared.span.Span.{Span}
use Rattle.idx_core.specs.declared.arith.Op.TheVariants as op
use Rattle.t_terms.specs.Tree as tree
use Rattle.t_terms.specs.Tree.{TInstr, TEnd, Then, Ends, TProg}
use Rattle.t_terms.specs.Spanned.{SBlock, SProg, seq_of, plain_blocks, plain_program}
use Rattle.t_rules.specs.Machine.{State, At, Where, Next, Into, Step, Place, Spot, moved, After}
use Rattle.t_rules.specs.Times as times
use Rattle.t_rules.specs.Times.{entries, entered_by, is_spot, Times}
use Rattle.t_rules.specs.Erase.{ESeq, EThen, EHalt, EMalloc, erase, erase_seq, erase_block, erase_blocks, drop_seq}
use Rattle.t_rules.specs.Erase.{seq_at, erase_instr, erase_end}
use Rattle.t_rules.specs.LawsErased as erased
use Rattle.t_rules.specs.LawsErased.{StandsAt}
use Rattle.t_machine.specs.Room.{tuples_made, fields_made, tuples_wanted, fields_wanted, asked_next}
use Rattle.cost_page.specs.Places.{kind_of, end_kind, fields_of, number}
use Rattle.cost_page.specs.Page.{weight, kinds, capped}
use Rattle.cost_page.specs.Laws.{KindsAddUp}
use Rattle.cost_page.specs.declared.places.Kind.{Kind}
use Rattle.cost_page.specs.declared.places.Kind.TheVariants as kind
use Rattle.cost_page.specs.declared.places.Place as row
use Rattle.cost_page.specs.declared.totals.Measure.TheVariants.{Of, Entries, Fields}
use Rattle.talc_core.specs.CostNumbers.{timed_rest, timed, kind_in, kind_at, is_of, executed, KindsAreSteps, RowsAddUp}
use Rattle.talc_core.specs.CostNumbers.{MallocsAreTuples, FieldsAreMade, EnteredIsEntries}
use Rattle.talc_core.proofs.CostTimed.{counts_are_times}

-- how often each place is executed, by its block and its index
abbrev Counting : Type 0
Counting = ℕ → ℕ → ℕ

-- g is f, with 1 more at the place
record Once (f g : Counting) (b i : ℕ) : Type 0 where
  here : g b i ≡ f b i + 1
  apart : (a j : ℕ) → (a ≡ b → j ≡ i → ⊥) → g a j ≡ f a j

same_sum : {A : Type 0} (f g : A → ℕ) → ((x : A) → f x ≡ g x) → (xs : List A) → sum_by f xs ≡ sum_by g xs
same_sum f g h [] = refl
same_sum f g h (x ∷ xs) =
    let left = sum_by-cons f x xs in
    let right = sum_by-cons g x xs in
    let here = h x in
    let rest = same_sum f g h xs in
    omega (arith, left, right, here, rest)

-- how many fields the tuple has that is made at the index of a body, and at the index of a block
abbrev fields_in : List (TInstr × Span) → ℕ → ℕ
fields_in [] i = 0
fields_in (x ∷ xs) zero = fields_of x.0
fields_in (x ∷ xs) (suc i) = fields_in xs i

abbrev fields_at : List SBlock → ℕ → ℕ → ℕ
fields_at [] b i = 0
fields_at (c ∷ cs) zero i = fields_in c.body i
fields_at (c ∷ cs) (suc b) i = fields_at cs b i

nowhere : {y : ESeq} → None ≡ Some y → ⊥
nowhere e = cc

-- What one step counts for that starts at a place with this kind, this index and this number of fields.
module _ (u : Kind → ℕ → ℕ → ℕ) where
  abbrev counted : row.Place → ℕ
  counted p = p.count * u p.kind p.index p.fields

  abbrev rest_sum : Counting → ℕ → Span → ℕ → List (TInstr × Span) → TEnd → Span → ℕ
  rest_sum f b label i xs e s = sum_by counted (timed_rest f b label i xs e s)

  rest_more : (f : Counting) (b : ℕ) (label : Span) (i : ℕ) (x : TInstr × Span) (xs : List (TInstr × Span)) (e : TEnd)
      (s : Span) →
      rest_sum f b label i (x ∷ xs) e s
      ≡ f b i * u (kind_of x.0) i (fields_of x.0) + rest_sum f b label (i + 1) xs e s
  rest_more f b label i x xs e s =
      sum_by-cons counted (record {
        label = label;
        index = i;
        kind = kind_of x.0;
        fields = fields_of x.0;
        start = x.1.start;
        count = f b i;
      }) (timed_rest f b label (i + 1) xs e s)

  rest_one : (f : Counting) (b : ℕ) (label : Span) (i : ℕ) (e : TEnd) (s : Span) →
      rest_sum f b label i [] e s ≡ f b i * u (end_kind e) i 0
  rest_one f b label i e s = omega arith

  rest_none : (f : Counting) → ((b i : ℕ) → f b i ≡ 0) → (b : ℕ) (label : Span) (i : ℕ) (xs : List (TInstr × Span))
      (e : TEnd) (s : Span) → rest_sum f b label i xs e s ≡ 0
  rest_none f h b label i [] e s = rest_one f b label i e s ∙ ap (λ n. n * u (end_kind e) i 0) (h b i) ∙ omega arith
  rest_none f h b label i (x ∷ xs) e s =
      let all = rest_more f b label i x xs e s in
      let here = ap (λ n. n * u (kind_of x.0) i (fields_of x.0)) (h b i) in
      let rest = rest_none f h b label (i + 1) xs e s in
      omega (arith, all, here, rest)

  rest_same : (f g : Counting) (b : ℕ) (label : Span) (i : ℕ) (xs : List (TInstr × Span)) (e : TEnd) (s : Span) →
      ((j : ℕ) → i ≤ j → g b j ≡ f b j) → rest_sum g b label i xs e s ≡ rest_sum f b label i xs e s
  rest_same f g b label i [] e s h =
      rest_one g b label i e s ∙ ap (λ n. n * u (end_kind e) i 0) (h i (omega arith)) ∙ sym (rest_one f b label i e s)
  rest_same f g b label i (x ∷ xs) e s h =
      let old = rest_more f b label i x xs e s in
      let new = rest_more g b label i x xs e s in
      let here = ap (λ n. n * u (kind_of x.0) i (fields_of x.0)) (h i (omega arith)) in
      let rest = rest_same f g b label (i + 1) xs e s (λ j le. h j (omega (arith, le))) in
      omega (arith, old, new, here, rest)

  -- one more at the place d places on
  one_more : (n m k : ℕ) → m ≡ n + 1 → m * k ≡ n * k + k
  one_more n m k e = ap (λ z. z * k) e ∙ omega arith

  rest_once : (f g : Counting) (b : ℕ) (label : Span) (i d : ℕ) (xs : List (TInstr × Span)) (e : TEnd) (s : Span) →
      Once f g b (i + d) → (y : ESeq) → drop_seq d (erase_seq (seq_of xs e)) ≡ Some y →
      rest_sum g b label i xs e s ≡ rest_sum f b label i xs e s + u (kind_in xs e d) (i + d) (fields_in xs d)
  rest_once f g b label i zero [] e s once y is =
      let at : i + 0 ≡ i = omega arith in
      let old = rest_one f b label i e s in
      let new = rest_one g b label i e s in
      let here = one_more (f b i) (g b i) (u (end_kind e) i 0) (subst (λ j. g b j ≡ f b j + 1) at once.here) in
      let index = ap (λ j. u (end_kind e) j 0) at in
      omega (arith, old, new, here, index)
  rest_once f g b label i (suc d) [] (tree.Jmp v) s once y is = absurd (nowhere is)
  rest_once f g b label i (suc d) [] tree.Halt s once y is = absurd (nowhere is)
  rest_once f g b label i zero (x ∷ xs) e s once y is =
      let at : i + 0 ≡ i = omega arith in
      let old = rest_more f b label i x xs e s in
      let new = rest_more g b label i x xs e s in
      let here = one_more (f b i) (g b i) (u (kind_of x.0) i (fields_of x.0))
      (subst (λ j. g b j ≡ f b j + 1) at once.here) in
      let index = ap (λ j. u (kind_of x.0) j (fields_of x.0)) at in
      let rest = rest_same f g b label (i + 1) xs e s (λ j le. once.apart b j (λ p q. omega (arith, le, q))) in
      omega (arith, old, new, here, index, rest)
  rest_once f g b label i (suc d) (x ∷ xs) e s once y is =
      let on : i + suc d ≡ i + 1 + d = omega arith in
      let old = rest_more f b label i x xs e s in
      let new = rest_more g b label i x xs e s in
      let here = ap (λ n. n * u (kind_of x.0) i (fields_of x.0)) (once.apart b i (λ p q. omega (arith, q))) in
      let index = ap (λ j. u (kind_in xs e d) j (fields_in xs d)) on in
      let rest = rest_once f g b label (i + 1) d xs e s (subst (Once f g b) on once) y is in
      omega (arith, old, new, here, index, rest)

  -- ---- blocks

  abbrev blocks_sum : Counting → ℕ → List SBlock → ℕ
  blocks_sum f b cs = sum_by counted (timed f b cs)

  blocks_more : (f : Counting) (b : ℕ) (c : SBlock) (cs : List SBlock) →
      blocks_sum f b (c ∷ cs) ≡ rest_sum f b c.name 0 c.body c.last c.last_span + blocks_sum f (b + 1) cs
  blocks_more f b c cs =
      sum_by-append counted (timed_rest f b c.name 0 c.body c.last c.last_span) (timed f (b + 1) cs)

  blocks_none : (f : Counting) → ((b i : ℕ) → f b i ≡ 0) → (b : ℕ) (cs : List SBlock) → blocks_sum f b cs ≡ 0
  blocks_none f h b [] = refl
  blocks_none f h b (c ∷ cs) =
      let all = blocks_more f b c cs in
      let here = rest_none f h b c.name 0 c.body c.last c.last_span in
      let rest = blocks_none f h (b + 1) cs in
      omega (arith, all, here, rest)

  blocks_same : (f g : Counting) (b : ℕ) (cs : List SBlock) → ((a j : ℕ) → b ≤ a → g a j ≡ f a j) →
      blocks_sum g b cs ≡ blocks_sum f b cs
  blocks_same f g b [] h = refl
  blocks_same f g b (c ∷ cs) h =
      let old = blocks_more f b c cs in
      let new = blocks_more g b c cs in
      let here = rest_same f g b c.name 0 c.body c.last c.last_span (λ j le. h b j (omega arith)) in
      let rest = blocks_same f g (b + 1) cs (λ a j le. h a j (omega (arith, le))) in
      omega (arith, old, new, here, rest)

  blocks_once : (f g : Counting) (n : ℕ) (cs : List SBlock) (b i : ℕ) → Once f g (n + b) i → (y : ESeq) →
      option_and_then (drop_seq i) (slice_get (map erase_block (plain_blocks cs)) b) ≡ Some y →
      blocks_sum g n cs ≡ blocks_sum f n cs + u (kind_at cs b i) i (fields_at cs b i)
  blocks_once f g n [] b i once y is = absurd (nowhere is)
  blocks_once f g n (c ∷ cs) zero i once y is =
      let at : n + 0 ≡ n = omega arith in
      let from : i ≡ 0 + i = omega arith in
      let one = subst (λ z. Once f g z i) at once in
      let old = blocks_more f n c cs in
      let new = blocks_more g n c cs in
      let here = rest_once f g n c.name 0 i c.body c.last c.last_span (subst (Once f g n) from one) y is in
      let index = ap (λ j. u (kind_in c.body c.last i) j (fields_in c.body i)) from in
      let rest = blocks_same f g (n + 1) cs (λ a j le. one.apart a j (λ p q. omega (arith, le, p))) in
      omega (arith, old, new, here, index, rest)
  blocks_once f g n (c ∷ cs) (suc b) i once y is =
      let on : n + suc b ≡ n + 1 + b = omega arith in
      let old = blocks_more f n c cs in
      let new = blocks_more g n c cs in
      let here = rest_same f g n c.name 0 c.body c.last c.last_span
      (λ j le. once.apart n j (λ p q. omega (arith, p))) in
      let rest = blocks_once f g (n + 1) cs b i (subst (λ z. Once f g z i) on once) y is in
      omega (arith, old, new, here, rest)

  -- ---- steps

  -- what a step counts for that starts at the place
  abbrev step_of : List SBlock → Place → ℕ
  step_of cs (Spot b i) = u (kind_at cs b i) i (fields_at cs b i)

  step_once : (cs : List SBlock) (log : List Place) (q : Place) (y : ESeq) →
      seq_at (map erase_block (plain_blocks cs)) q ≡ Some y →
      blocks_sum (λ a j. count_by (is_spot a j) (q ∷ log)) 0 cs
      ≡ blocks_sum (λ a j. count_by (is_spot a j) log) 0 cs + step_of cs q
  step_once cs log (Spot b i) y is =
      let at : b ≡ 0 + b = omega arith in
      blocks_once (λ a j. count_by (is_spot a j) log) (λ a j. count_by (is_spot a j) (Spot b i ∷ log)) 0 cs b i
      (subst (λ z. Once (λ a j. count_by (is_spot a j) log) (λ a j. count_by (is_spot a j) (Spot b i ∷ log)) z i) at
      (record {
        here =
            let all = sum_by-cons (λ (z : Place). cond (is_spot b i z) 1 0) (Spot b i) log in
            let hit = ap (λ t. cond {A = ℕ} t 1 0) (same b i) in
            omega (arith, all, hit);
        apart = λ a j ne.
            let all = sum_by-cons (λ (z : Place). cond (is_spot a j z) 1 0) (Spot b i) log in
            let none = other b i a j ne in
            omega (arith, all, none);
      })) y is
    where
      same : (b i : ℕ) → is_spot b i (Spot b i) ≡ true
      same b i = grind (arith, nat_tests)

      other : (b i a j : ℕ) → (a ≡ b → j ≡ i → ⊥) → cond {A = ℕ} (is_spot a j (Spot b i)) 1 0 ≡ 0
      other b i a j ne = grind (arith, nat_tests, ne)

  module _ (law : StandsAt) (program : SProg) where
    abbrev P : TProg
    P = plain_program program

    pub stands : (m : ℕ) (s : State) (p : Place) → After P m s p →
        seq_at (erase_blocks P) p ≡ Some (erased.seq_of (erase s))
    stands m s p run = law P m (erase_blocks P) (erase s) p (refl, (s, run, refl))

    timed_sum : (m : ℕ) (s : State) (p : Place) (run : After P m s p) →
        blocks_sum (Times P m s p run) 0 program.blocks ≡ sum_by (step_of program.blocks) (times.places P m s p run)
    timed_sum zero s p run = blocks_none (Times P zero s p run) (λ b i. refl) 0 program.blocks
    timed_sum (suc m) s p run =
        let one = step_once program.blocks (times.places P m run.0 run.1 run.3) run.1 _
        (stands m run.0 run.1 run.3) in
        let all = sum_by-cons (step_of program.blocks) run.1 (times.places P m run.0 run.1 run.3) in
        let rest = timed_sum m run.0 run.1 run.3 in
        omega (arith, one, all, rest)

    -- the sum of what is so counted
    pub counted_sum : (w : row.Place → ℕ) → ((p : row.Place) → w p ≡ counted p) → (m : ℕ) (s : State) (p : Place)
        (run : After P m s p) →
        sum_by w (executed program m s p run) ≡ sum_by (step_of program.blocks) (times.places P m s p run)
    counted_sum w is m s p run =
        ap (sum_by w) (counts_are_times program m s p run)
        ∙ same_sum w counted is (timed (Times P m s p run) 0 program.blocks)
        ∙ timed_sum m s p run

-- ---- kinds

-- a step counts for a kind
abbrev of_kind : Kind → Kind → ℕ → ℕ → ℕ
of_kind k l i n = if number l == number k then 1 else 0

kind_counted : (a b n : ℕ) → (if a == b then n else 0) ≡ n * (if a == b then 1 else 0)
kind_counted a b n = grind (arith, nat_tests)

pub kinds_are_steps : StandsAt → KindsAreSteps
kinds_are_steps law program m s p run k =
    counted_sum (of_kind k) law program (weight (Of k)) (λ q. kind_counted (number q.kind) (number k) q.count) m s p run
    ∙ same_sum (step_of (of_kind k) program.blocks) (λ q. cond (is_of program.blocks k q) 1 0) (here program.blocks k)
    (times.places (plain_program program) m s p run)
  where
    here : (cs : List SBlock) (k : Kind) (q : Place) → step_of (of_kind k) cs q ≡ cond (is_of cs k q) 1 0
    here cs k (Spot b i) = refl

-- ---- blocks that are entered

-- where an index is that of a first place
abbrev first : ℕ → ℕ
first i = if i == 0 then 1 else 0

abbrev index_of : Place → ℕ
index_of (Spot b i) = i

first_next : (i : ℕ) → first (i + 1) ≡ 0
first_next i = grind (arith, nat_tests)

-- a step enters a block where it leads to a first place
entered_one : (q : Place) (k : Where) (log : List ℕ) →
    length (entered_by k log) ≡ length log + first (index_of (moved q k))
entered_one (Spot b i) Next log = let none = first_next i in omega (arith, none)
entered_one (Spot b i) (Into l) log = omega arith

firsts : (P : TProg) (m : ℕ) (s : State) (p : Place) (run : After P m s p) →
    sum_by (λ q. first (index_of q)) (times.places P m s p run) + first (index_of p) ≡ length (entries P m s p run)
firsts P zero s p run = let start = ap (λ q. first (index_of q)) run.1 in omega (arith, start)
firsts P (suc m) s p run =
    let here = ap (λ q. first (index_of q)) run.5 in
    let one = entered_one run.1 run.2 (entries P m run.0 run.1 run.3) in
    let all = sum_by-cons (λ q. first (index_of q)) run.1 (times.places P m run.0 run.1 run.3) in
    let rest = firsts P m run.0 run.1 run.3 in
    omega (arith, here, one, all, rest)

module _ (law : StandsAt) where
  entries_sum : (program : SProg) (m : ℕ) (s : State) (p : Place) (run : After (plain_program program) m s p) →
      sum_by (weight Entries) (executed program m s p run) + first (index_of p)
      ≡ length (entries (plain_program program) m s p run)
  entries_sum program m s p run =
      let sum = counted_sum (λ l i n. first i) law program (weight Entries) (λ q. here q.index q.count) m s p run
      ∙ same_sum _ (λ q. first (index_of q)) (λ q. there program.blocks q)
      (times.places (plain_program program) m s p run) in
      let all = firsts (plain_program program) m s p run in
      omega (arith, sum, all)
    where
      here : (i n : ℕ) → (if i == 0 then n else 0) ≡ n * (if i == 0 then 1 else 0)
      here i n = grind (arith, nat_tests)

      there : (cs : List SBlock) (q : Place) → step_of (λ l i n. first i) cs q ≡ first (index_of q)
      there cs (Spot b i) = refl

  pub entered_is_entries : EnteredIsEntries
  entered_is_entries program m s block index run =
      let is = entries_sum program m s (Spot block index) run in (
        is,
        twice (sum_by (weight Entries) (executed program m s (Spot block index) run)) (first index)
            ∙ ap capped is,
      )
    where
      twice : (n k : ℕ) → capped (capped n + k) ≡ capped (n + k)
      twice n k = omega arith

-- ---- what stands at the places

-- Where erased code tells what a step counts for, the sum over the steps is told by the code at which they start.
module _ (u : Kind → ℕ → ℕ → ℕ) (v : ESeq → ℕ)
    (instr : (x : TInstr) (c : ESeq) (i : ℕ) → u (kind_of x) i (fields_of x) ≡ v (EThen (erase_instr x) c))
    (end : (e : TEnd) (i : ℕ) → u (end_kind e) i 0 ≡ v (erase_end e)) where
  in_body : (xs : List (TInstr × Span)) (e : TEnd) (d i : ℕ) (y : ESeq) →
      drop_seq d (erase_seq (seq_of xs e)) ≡ Some y → u (kind_in xs e d) i (fields_in xs d) ≡ v y
  in_body [] e zero i y is = let same : erase_end e ≡ y = cc in end e i ∙ ap v same
  in_body [] (tree.Jmp w) (suc d) i y is = absurd (nowhere is)
  in_body [] tree.Halt (suc d) i y is = absurd (nowhere is)
  in_body (x ∷ xs) e zero i y is =
      let same : EThen (erase_instr x.0) (erase_seq (seq_of xs e)) ≡ y = cc in
      instr x.0 (erase_seq (seq_of xs e)) i ∙ ap v same
  in_body (x ∷ xs) e (suc d) i y is = in_body xs e d i y is

  in_blocks : (cs : List SBlock) (b i : ℕ) (y : ESeq) →
      option_and_then (drop_seq i) (slice_get (map erase_block (plain_blocks cs)) b) ≡ Some y →
      u (kind_at cs b i) i (fields_at cs b i) ≡ v y
  in_blocks [] b i y is = absurd (nowhere is)
  in_blocks (c ∷ cs) zero i y is = in_body c.body c.last i i y is
  in_blocks (c ∷ cs) (suc b) i y is = in_blocks cs b i y is

  at_place : (cs : List SBlock) (q : Place) (y : ESeq) → seq_at (map erase_block (plain_blocks cs)) q ≡ Some y →
      step_of u cs q ≡ v y
  at_place cs (Spot b i) y is = in_blocks cs b i y is

  module _ (law : StandsAt) (program : SProg)
      (made : (m : ℕ) (s : State) (p : Place) → After (plain_program program) m s p → ℕ)
      (none : (s : State) (p : Place) (run : After (plain_program program) 0 s p) → made 0 s p run ≡ 0)
      (one : (m : ℕ) (s : State) (p : Place) (run : After (plain_program program) (suc m) s p) →
      made (suc m) s p run ≡ made m run.0 run.1 run.3 + v (erased.seq_of (erase run.0))) where
    pub made_sum : (m : ℕ) (s : State) (p : Place) (run : After (plain_program program) m s p) →
        sum_by (step_of u program.blocks) (times.places (plain_program program) m s p run) ≡ made m s p run
    made_sum zero s p run = sym (none s p run)
    made_sum (suc m) s p run =
        let all = sum_by-cons (step_of u program.blocks) run.1
        (times.places (plain_program program) m run.0 run.1 run.3) in
        let here = at_place program.blocks run.1 _ (stands u law program m run.0 run.1 run.3) in
        let rest = made_sum m run.0 run.1 run.3 in
        let more = one m s p run in
        omega (arith, all, here, rest, more)

-- ---- what is allocated

-- the size of the tuple that erased code makes first, and 1 where it makes one
abbrev size_made : ESeq → ℕ
size_made (EThen (EMalloc d n) c) = n
size_made other = 0

abbrev is_made : ESeq → ℕ
is_made (EThen (EMalloc d n) c) = 1
is_made other = 0

tuples_asked : (s : State) → tuples_wanted (asked_next s) ≡ is_made (erased.seq_of (erase s))
tuples_asked (At h r (Then (tree.Malloc rd ts) c)) = refl
tuples_asked (At h r (Then (tree.Arith op rd rs x) c)) = refl
tuples_asked (At h r (Then (tree.Bnz q x) c)) = refl
tuples_asked (At h r (Then (tree.Ld rd rs i) c)) = refl
tuples_asked (At h r (Then (tree.Mov rd x) c)) = refl
tuples_asked (At h r (Then (tree.St rd i rs) c)) = refl
tuples_asked (At h r (Then (tree.Unpack rd x) c)) = refl
tuples_asked (At h r (Ends (tree.Jmp x))) = refl
tuples_asked (At h r (Ends tree.Halt)) = refl

fields_asked : (s : State) → fields_wanted (asked_next s) ≡ size_made (erased.seq_of (erase s))
fields_asked (At h r (Then (tree.Malloc rd ts) c)) = refl
fields_asked (At h r (Then (tree.Arith op rd rs x) c)) = refl
fields_asked (At h r (Then (tree.Bnz q x) c)) = refl
fields_asked (At h r (Then (tree.Ld rd rs i) c)) = refl
fields_asked (At h r (Then (tree.Mov rd x) c)) = refl
fields_asked (At h r (Then (tree.St rd i rs) c)) = refl
fields_asked (At h r (Then (tree.Unpack rd x) c)) = refl
fields_asked (At h r (Ends (tree.Jmp x))) = refl
fields_asked (At h r (Ends tree.Halt)) = refl

malloc_instr : (x : TInstr) (c : ESeq) (i : ℕ) →
    of_kind kind.Malloc (kind_of x) i (fields_of x) ≡ is_made (EThen (erase_instr x) c)
malloc_instr (tree.Arith op.Add rd rs x) c i = refl
malloc_instr (tree.Arith op.Sub rd rs x) c i = refl
malloc_instr (tree.Arith op.Mul rd rs x) c i = refl
malloc_instr (tree.Bnz q x) c i = refl
malloc_instr (tree.Ld rd rs j) c i = refl
malloc_instr (tree.Malloc rd ts) c i = refl
malloc_instr (tree.Mov rd x) c i = refl
malloc_instr (tree.St rd j rs) c i = refl
malloc_instr (tree.Unpack rd x) c i = refl

malloc_end : (e : TEnd) (i : ℕ) → of_kind kind.Malloc (end_kind e) i 0 ≡ is_made (erase_end e)
malloc_end (tree.Jmp x) i = refl
malloc_end tree.Halt i = refl

field_instr : (x : TInstr) (c : ESeq) (i : ℕ) → fields_of x ≡ size_made (EThen (erase_instr x) c)
field_instr (tree.Arith op rd rs x) c i = refl
field_instr (tree.Bnz q x) c i = refl
field_instr (tree.Ld rd rs j) c i = refl
field_instr (tree.Malloc rd ts) c i = refl
field_instr (tree.Mov rd x) c i = refl
field_instr (tree.St rd j rs) c i = refl
field_instr (tree.Unpack rd x) c i = refl

field_end : (e : TEnd) (i : ℕ) → 0 ≡ size_made (erase_end e)
field_end (tree.Jmp x) i = refl
field_end tree.Halt i = refl

pub mallocs_are_tuples : StandsAt → MallocsAreTuples
mallocs_are_tuples law program m s p run =
    counted_sum (of_kind kind.Malloc) law program (weight (Of kind.Malloc))
    (λ q. kind_counted (number q.kind) (number kind.Malloc) q.count) m s p run
    ∙ made_sum (of_kind kind.Malloc) is_made malloc_instr malloc_end law program
    (λ m s p run. tuples_made (plain_program program) m m s p run) (λ s p run. refl)
    (λ m s p run. ap (λ n. tuples_made (plain_program program) m m run.0 run.1 run.3 + n) (tuples_asked run.0))
    m s p run

pub fields_are_made : StandsAt → FieldsAreMade
fields_are_made law program m s p run =
    counted_sum (λ l i n. n) law program (weight Fields) (λ q. refl) m s p run
    ∙ made_sum (λ l i n. n) size_made field_instr field_end law program
    (λ m s p run. fields_made (plain_program program) m m s p run) (λ s p run. refl)
    (λ m s p run. ap (λ n. fields_made (plain_program program) m m run.0 run.1 run.3 + n) (fields_asked run.0))
    m s p run

-- ---- all steps

abbrev is_halt : ESeq → ℕ
is_halt EHalt = 1
is_halt other = 0

halt_instr : (x : TInstr) (c : ESeq) (i : ℕ) →
    of_kind kind.Halt (kind_of x) i (fields_of x) ≡ is_halt (EThen (erase_instr x) c)
halt_instr (tree.Arith op.Add rd rs x) c i = refl
halt_instr (tree.Arith op.Sub rd rs x) c i = refl
halt_instr (tree.Arith op.Mul rd rs x) c i = refl
halt_instr (tree.Bnz q x) c i = refl
halt_instr (tree.Ld rd rs j) c i = refl
halt_instr (tree.Malloc rd ts) c i = refl
halt_instr (tree.Mov rd x) c i = refl
halt_instr (tree.St rd j rs) c i = refl
halt_instr (tree.Unpack rd x) c i = refl

halt_end : (e : TEnd) (i : ℕ) → of_kind kind.Halt (end_kind e) i 0 ≡ is_halt (erase_end e)
halt_end (tree.Jmp x) i = refl
halt_end tree.Halt i = refl

-- no step starts at `halt`
no_halt : (P : TProg) (s : State) (k : Where) (t : State) → Step P s k t → 0 ≡ is_halt (erased.seq_of (erase s))
no_halt P (At h r (Then x c)) k t step = refl
no_halt P (At h r (Ends (tree.Jmp x))) k t step = refl
no_halt P (At h r (Ends tree.Halt)) k t step = absurd step

module _ (law : StandsAt) (program : SProg) (m : ℕ) (s : State) (p : Place)
    (run : After (plain_program program) m s p) where
  halts_none : sum_by (weight (Of kind.Halt)) (executed program m s p run) ≡ 0
  halts_none =
      counted_sum (of_kind kind.Halt) law program (weight (Of kind.Halt))
      (λ q. kind_counted (number q.kind) (number kind.Halt) q.count) m s p run
      ∙ made_sum (of_kind kind.Halt) is_halt halt_instr halt_end law program (λ m s p run. 0) (λ s p run. refl)
      (λ m s p run. let none = no_halt (plain_program program) run.0 run.2 s run.4 in omega (arith, none)) m s p run

  all_steps : sum_by (λ (q : row.Place). q.count) (executed program m s p run) ≡ m
  all_steps =
      counted_sum (λ l i n. 1) law program (λ q. q.count) (λ q. omega arith) m s p run
      ∙ made_sum (λ l i n. 1) (λ y. 1) (λ x c i. refl) (λ e i. refl) law program (λ m s p run. m) (λ s p run. refl)
      (λ m s p run. omega arith) m s p run

pub rows_add_up : StandsAt → KindsAddUp → RowsAddUp
rows_add_up law add program m s p run =
    let ps = executed program m s p run in
    let whole = add ps in
    let parts = sum_by-append (λ k. sum_by (weight (Of k)) ps) kinds (kind.Halt ∷ []) in
    let none = halts_none law program m s p run in
    let last = sum_by-cons (λ k. sum_by (weight (Of k)) ps) kind.Halt [] in
    let all = all_steps law program m s p run in
    omega (arith, whole, parts, none, last, all)
