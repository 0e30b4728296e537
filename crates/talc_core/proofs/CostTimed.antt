-- The places on the page of a run: the count of each is how many steps of the run start there.
use Rattle.std.proofs.Common.{◌≡◌, ℕ, zero, suc, ◌+◌, List, [], ◌∷◌, ◌++◌, length, get_or, drop, refl, ap}
use Rattle.std.proofs.Common.{◌∙◌, subst, arith, map}
use Rattle.idx_core.specs.declared.span.Span.{Span}
use Rattle.t_terms.specs.Tree.{TInstr, TEnd, Jmp, Halt}
use Rattle.t_terms.specs.Spanned.{SBlock, seq_of, plain_blocks, plain_program}
use Rattle.t_rules.specs.Times.{Times}
use Rattle.t_rules.specs.Erase.{erase_seq, erase_block}
use Rattle.t_machine.specs.Tables.{seq_table, blocks_table, table}
use Rattle.cost_page.specs.Places.{kind_of, end_kind, fields_of, rest_places, places}
use Rattle.talc_core.specs.CostNumbers.{timed_rest, timed, CountsAreTimes, PageIsOfExecuted}

nil_not : {y : ℕ} {ys : List ℕ} → [] ≡ y ∷ ys → ⊥
nil_not e = cc

-- of a list from number k on, the first and those behind it
read_at : (k : ℕ) (xs : List ℕ) (x : ℕ) (ys : List ℕ) → drop k xs ≡ x ∷ ys →
    (get_or xs k 0 ≡ x) × (drop (suc k) xs ≡ ys)
read_at zero [] x ys e = absurd (nil_not e)
read_at zero (z ∷ zs) x ys e = (cc, cc)
read_at (suc k) [] x ys e = absurd (nil_not e)
read_at (suc k) (z ∷ zs) x ys e = read_at k zs x ys e

module _ (f : ℕ → ℕ → ℕ) (counts : List ℕ) where
  -- a block, from its index i on, and what is behind it
  rest_timed : (b k : ℕ) (label : Span) (i : ℕ) (xs : List (TInstr × Span)) (e : TEnd) (s : Span) (ys : List ℕ) →
      drop k counts ≡ seq_table f b i (erase_seq (seq_of xs e)) ++ ys →
      (rest_places counts k label i xs e s ≡ timed_rest f b label i xs e s)
      × (drop (k + (length xs + 1)) counts ≡ ys)
  rest_timed b k label i [] (Jmp v) s ys is =
      let one : suc k ≡ k + (0 + 1) = omega arith in
      let here = read_at k counts (f b i) ys is in (
        ap (λ n. record {
          label = label;
          index = i;
          kind = end_kind (Jmp v);
          fields = 0;
          start = s.start;
          count = n;
        } ∷ []) here.0,
        subst (λ n. drop n counts ≡ ys) one here.1,
      )
  rest_timed b k label i [] Halt s ys is =
      let one : suc k ≡ k + (0 + 1) = omega arith in
      let here = read_at k counts (f b i) ys is in (
        ap (λ n. record {
          label = label;
          index = i;
          kind = end_kind Halt;
          fields = 0;
          start = s.start;
          count = n;
        } ∷ []) here.0,
        subst (λ n. drop n counts ≡ ys) one here.1,
      )
  rest_timed b k label i (x ∷ xs) e s ys is =
      let one : suc k ≡ k + 1 = omega arith in
      let far : k + 1 + (length xs + 1) ≡ k + (length (x ∷ xs) + 1) = omega arith in
      let here = read_at k counts (f b i) (seq_table f b (i + 1) (erase_seq (seq_of xs e)) ++ ys) is in
      let rest = rest_timed b (k + 1) label (i + 1) xs e s ys
      (subst (λ n. drop n counts ≡ seq_table f b (i + 1) (erase_seq (seq_of xs e)) ++ ys) one here.1) in (
        ap (λ n. record {
          label = label;
          index = i;
          kind = kind_of x.0;
          fields = fields_of x.0;
          start = x.1.start;
          count = n;
        } ∷ rest_places counts (k + 1) label (i + 1) xs e s) here.0
            ∙ ap (λ ps. record {
              label = label;
              index = i;
              kind = kind_of x.0;
              fields = fields_of x.0;
              start = x.1.start;
              count = f b i;
            } ∷ ps) rest.0,
        subst (λ n. drop n counts ≡ ys) far rest.1,
      )

  blocks_timed : (b k : ℕ) (cs : List SBlock) →
      drop k counts ≡ blocks_table f b (map erase_block (plain_blocks cs)) → places counts k cs ≡ timed f b cs
  blocks_timed b k [] is = refl
  blocks_timed b k (c ∷ cs) is =
      let here = rest_timed b k c.name 0 c.body c.last c.last_span
      (blocks_table f (b + 1) (map erase_block (plain_blocks cs))) is in
      let rest = blocks_timed (b + 1) (k + (length c.body + 1)) cs here.1 in
      ap (λ ps. ps ++ places counts (k + (length c.body + 1)) cs) here.0
      ∙ ap (λ ps. timed_rest f b c.name 0 c.body c.last c.last_span ++ ps) rest

whole : (xs : List ℕ) → drop 0 xs ≡ xs
whole [] = refl
whole (x ∷ xs) = refl

pub counts_are_times : CountsAreTimes
counts_are_times program m s p run =
    let counts = table (Times (plain_program program) m s p run) (plain_program program) in
    blocks_timed (Times (plain_program program) m s p run) counts 0 0 program.blocks (whole counts)

pub page_is_of_executed : PageIsOfExecuted
page_is_of_executed text program m lines cost = cost.is
