-- The source of every number is the text of a program: the sum of its items, nested to the left.
use Rattle.std.proofs.Common.{◌≡◌, ◌≤◌, ◌<◌, ℕ, ℤ, zero, suc, ◌+◌, ◌*◌, ◌-◌, ◌^◌, List, [], ◌∷◌, ◌++◌, length, drop}
use Rattle.std.proofs.Common.{Bool, true, false, ◌||◌, refl, sym, ◌∙◌, ap, ap₂, subst, append_assoc, arith, lit≤}
use Rattle.std.proofs.Common.{lit<, decimal, slice_index}
use Rattle.std.specs.Prelude.{codes}
use Rattle.std.specs.List.{list_all}
use Rattle.std.proofs.lemmas.List.{length-append, drop-drop, drop_at, append-nil}
use Rattle.std.proofs.lemmas.List.Folds.{list_all-append}
use Rattle.std.proofs.lemmas.Bool.{and_parts, and_from}
use Rattle.std.proofs.lemmas.Bool.Decides.{nat_tests}
use Rattle.std.proofs.lemmas.Fmt.{length-decimal-le}
use Rattle.idx_core.specs.declared.arith.Op.TheVariants.{Add}
use Rattle.idx_core.specs.Arith.{compute}
use Rattle.text_core.specs.Byte.{digit}
use Rattle.text_core.specs.Tokens.{Cut, c_end, c_gap}
use Rattle.text_core.proofs.Items.{some_next}
use Rattle.f_terms.specs.Ty.{Ty, TInt}
use Rattle.f_terms.specs.Tm.{Tm, Term, plain, MArith}
use Rattle.f_terms.specs.Limits.{nodes, Within, FewNodes}
use Rattle.f_terms.specs.Accepted.{IsAccepted}
use Rattle.f_terms.specs.Eval.{Gives, VInt, Empty, Evaluates, eval_by, turn, operate, then_eval, Val, Vals, Result}
use Rattle.f_terms.specs.Cells.{has_cells}
use Rattle.f_terms.specs.Laws.{PassesWhereTyped, KeepsRules}
use Rattle.f_lexer.specs.declared.token.Token.{Token}
use Rattle.f_lexer.specs.declared.kind.Kind.TheVariants as k
use Rattle.f_lexer.specs.Source.{source as source_tokens}
use Rattle.f_lexer.proofs.Finding.{source_signs}
use Rattle.f_grammar.specs.Raw.{Piece, arith as arith_piece}
use Rattle.f_grammar.specs.Grammar.{E, S, e_sum, s_plus, s_product, tok, open_E, open_S, open_M}
use Rattle.f_grammar.specs.Scope.{TermOf, of_arith}
use Rattle.f_grammar.specs.Text.{FewOpen}
use Rattle.f_seeds.specs.declared.item.Kind.{Kind}
use Rattle.f_seeds.specs.declared.item.Kind.TheVariants.{Number, Factorial, Field, Identity, Branch, Twice}
use Rattle.f_seeds.specs.Source.{kind_of, number_of, item, item_at, items_to, source}
use Rattle.f_seeds.specs.Laws.{SourcesArePrograms}
use Rattle.f_seeds.proofs.Meaning.{item_term, turns, Given, item_given}
use Rattle.f_seeds.proofs.Running.{at, run}
use Rattle.f_seeds.proofs.Texts.{few, Denotes, denotes}

low_number : (n j : ℕ) → number_of n j < 20
low_number n j = omega arith

-- the term of the items at the places 0 to j
unfoldable pub sum_term : ℕ → ℕ → Term
sum_term n zero = item_term (kind_of n 0) (number_of n 0)
sum_term n (suc j) = MArith Add (sum_term n j) (item_term (kind_of n (suc j)) (number_of n (suc j)))

-- what it means

added : KeepsRules → (e f : Term) (t u a b : ℕ) → Given e t a → Given f u b → Given (MArith Add e f) (t + u) (a + b + 1)
added rules e f t u a b g h = record {
  typed = (refl, g.typed, h.typed);
  limits = (
    λ s q. let w : Within TInt = (lit≤ tt, lit≤ tt) in subst (λ (x : Ty). Within x) (sym q.0) w,
    g.limits,
    h.limits,
  );
  few = let p = g.few in let q = h.few in omega arith;
  value = compute Add g.value h.value;
  gives = λ n st.
      let first : eval_by turn Empty e (t + u + n) st ≡ Gives (VInt g.value) (u + n) st =
      subst (λ (m : ℕ). eval_by turn Empty e m st ≡ Gives (VInt g.value) (u + n) st) (omega arith)
      (g.gives (u + n) st) in
      let rest : Val → ℕ → Vals → Result =
      λ v m s. then_eval (eval_by turn Empty f m s) (λ w k z. operate Add v w k z) in
      ap (λ (r : Result). then_eval r rest) first
      ∙ ap (λ (r : Result). then_eval r (λ w k z. operate Add (VInt g.value) w k z)) (h.gives n st);
  cell_free = ap₂ (λ (x y : Bool). x || y) g.cell_free h.cell_free;
}

-- the turns of the items at the places 0 to j
unfoldable all_turns : ℕ → ℕ → ℕ
all_turns n zero = turns (kind_of n 0) (number_of n 0)
all_turns n (suc j) = all_turns n j + turns (kind_of n (suc j)) (number_of n (suc j))

few_turns_each : (kind : Kind) (c : ℕ) → c < 20 → turns kind c ≤ 20
few_turns_each Number c h = omega arith
few_turns_each Factorial c h = omega arith
few_turns_each Field c h = omega arith
few_turns_each Identity c h = omega arith
few_turns_each Branch c h = omega arith
few_turns_each Twice c h = omega arith

few_turns : (n j : ℕ) → all_turns n j ≤ 20 * (j + 1)
unfolding all_turns
few_turns n zero = few_turns_each (kind_of n 0) (number_of n 0) (low_number n 0)
few_turns n (suc j) =
    let p = few_turns n j in
    let q = few_turns_each (kind_of n (suc j)) (number_of n (suc j)) (low_number n (suc j)) in omega arith

unfoldable all_nodes : ℕ → ℕ
all_nodes zero = 13
all_nodes (suc j) = all_nodes j + 13 + 1

nodes_are : (j : ℕ) → all_nodes j ≡ 13 + 14 * j
unfolding all_nodes
nodes_are zero = refl
nodes_are (suc j) = let p = nodes_are j in omega arith

sum_given : PassesWhereTyped → KeepsRules → (n j : ℕ) → Given (sum_term n j) (all_turns n j) (all_nodes j)
unfolding sum_term all_turns all_nodes
sum_given typing rules n zero = item_given typing rules (kind_of n 0) (number_of n 0) (low_number n 0)
sum_given typing rules n (suc j) =
    added rules _ _ _ _ _ _ (sum_given typing rules n j)
    (item_given typing rules (kind_of n (suc j)) (number_of n (suc j)) (low_number n (suc j)))

evaluates : KeepsRules → (e : Term) (t a m : ℕ) → Given e t a → t ≤ m → (i : ℤ) × Evaluates e m i
evaluates rules e t a m g h =
    let q : eval_by turn Empty e m Empty ≡ Gives (VInt g.value) (m - t) Empty =
    subst (λ (x : ℕ). eval_by turn Empty e x Empty ≡ Gives (VInt g.value) (m - t) Empty) (omega arith)
    (g.gives (m - t) Empty) in
    (g.value, (m - t, (Empty, rules m Empty Empty e ∙ q)))

-- what it is the text of

pub record Sums (text bytes : List ℕ) (e : Term) : Type 0 where
  pub tokens_of : List Token
  pub shape : Piece
  pub sum : S tokens_of shape
  pub few_open : list_all few (open_S sum 0) ≡ true
  pub cut : (b : ℕ) (r : List ℕ) (v : List Token) → digit b ≡ false → Cut source_tokens (length bytes) (b ∷ r) v →
      Cut source_tokens 0 (bytes ++ b ∷ r) (tokens_of ++ v)
  pub term : Tm
  pub bound : TermOf text [] [] shape.tree term
  pub is : plain term ≡ e

alone : (text bytes : List ℕ) (e : Term) → Denotes text 0 bytes e → Sums text bytes e
alone text bytes e s = record {
  tokens_of = s.tokens_of;
  shape = s.shape;
  sum = s_product s.product;
  few_open = s.few_open;
  cut = λ b r v h cut. s.cut b r v h (subst (λ (j : ℕ). Cut source_tokens j (b ∷ r) v) (omega arith) cut);
  term = s.term;
  bound = s.bound;
  is = s.is;
}

join : (a b c t : List ℕ) → (a ++ b ++ c) ++ t ≡ a ++ (b ++ (c ++ t))
join a b c t = simp append_assoc

more : (text bytes next : List ℕ) (e f : Term) → Sums text bytes e → Denotes text (length bytes + 3) next f →
    Sums text (bytes ++ codes " + " ++ next) (MArith Add e f)
more text bytes next e f s t =
    let plus = tok k.Plus (at (length bytes) 1 2) in
    record {
      tokens_of = s.tokens_of ++ plus ∷ t.tokens_of;
      shape = arith_piece Add s.shape t.shape;
      sum = s_plus plus.span s.sum t.product;
      few_open = list_all-append few (open_S s.sum 0) (0 ∷ open_M t.product 0) ∙ and_from _ _ s.few_open t.few_open;
      cut = λ b r v h cut.
          let length_is : length bytes + 3 + length next ≡ length (bytes ++ codes " + " ++ next) =
          omega (arith, length-append (bytes ++ codes " + ") next, length-append bytes (codes " + ")) in
          let after = t.cut b r v h (subst (λ (j : ℕ). Cut source_tokens j (b ∷ r) v) (sym length_is) cut) in
          let whole : Cut source_tokens 0 (bytes ++ (codes " + " ++ (next ++ b ∷ r)))
          (s.tokens_of ++ plus ∷ (t.tokens_of ++ v)) =
          s.cut 32 (43 ∷ (32 ∷ (next ++ b ∷ r))) (plus ∷ (t.tokens_of ++ v)) refl
          (run 3 (length bytes) (codes " + " ++ (next ++ b ∷ r)) (t.tokens_of ++ v) refl after) in
          subst (λ (w : List Token). Cut source_tokens 0 ((bytes ++ codes " + " ++ next) ++ b ∷ r) w)
          (sym (append_assoc s.tokens_of (plus ∷ t.tokens_of) v))
          (subst (λ (x : List ℕ). Cut source_tokens 0 x (s.tokens_of ++ plus ∷ (t.tokens_of ++ v)))
          (sym (join bytes (codes " + ") next (b ∷ r))) whole);
      term = _;
      bound = of_arith _ Add s.bound t.bound;
      is = ap₂ (λ (a b : Term). MArith Add a b) s.is t.is;
    }

texts : (n j : ℕ) (text rest : List ℕ) → text ≡ items_to n j ++ rest → Sums text (items_to n j) (sum_term n j)
unfolding items_to sum_term
texts n zero text rest e = alone text _ _ (denotes (kind_of n 0) text 0 (number_of n 0) rest (low_number n 0) e)
texts n (suc j) text rest e =
    let next = item_at n (suc j) in
    let first : text ≡ items_to n j ++ (codes " + " ++ (next ++ rest)) =
    e ∙ join (items_to n j) (codes " + ") next rest in
    let after : drop (length (items_to n j)) text ≡ codes " + " ++ (next ++ rest) =
    ap (λ (s : List ℕ). drop (length (items_to n j)) s) first
    ∙ drop_at (items_to n j) (codes " + " ++ (next ++ rest)) (length (items_to n j)) refl in
    let here : drop (length (items_to n j) + 3) text ≡ next ++ rest =
    sym (drop-drop 3 (length (items_to n j)) text) ∙ ap (λ (s : List ℕ). drop 3 s) after in
    more text _ _ _ _ (texts n j text (codes " + " ++ (next ++ rest)) first)
    (denotes (kind_of n (suc j)) text (length (items_to n j) + 3) (number_of n (suc j)) rest
    (low_number n (suc j)) here)

-- within the limits

short_decimal : (c : ℕ) → c < 20 → length (decimal c) ≤ 2
short_decimal c h =
    let a : c < 10 ^ 2 = omega arith in let b : c < 2 ^ 64 = omega arith in length-decimal-le 2 c (lit< tt) a b

short_item : (kind : Kind) (c : ℕ) → c < 20 → length (item kind c) ≤ 70
short_item Number c h = let d = short_decimal c h in omega arith
short_item Factorial c h = let d = short_decimal c h in omega arith
short_item Field c h =
    let d = short_decimal c h in
    let e = length-append (decimal c ++ codes ", " ++ decimal c) (codes " + 1, <>>") in
    omega (arith, d, e, length-append (decimal c ++ codes ", ") (decimal c), length-append (decimal c) (codes ", "))
short_item Identity c h = let d = short_decimal c h in omega arith
short_item Branch c h = let d = short_decimal c h in omega (arith, length-append (decimal c) (codes ", 1, 2)"))
short_item Twice c h =
    let d = short_decimal c h in omega (arith, length-append (decimal c) (codes ")) (fix s(y:int):int. y * 3)"))

short_items : (n j : ℕ) → length (items_to n j) ≤ 73 * (j + 1)
unfolding items_to
short_items n zero = let p = short_item (kind_of n 0) (number_of n 0) (low_number n 0) in omega arith
short_items n (suc j) =
    let p = short_item (kind_of n (suc j)) (number_of n (suc j)) (low_number n (suc j)) in
    let q = short_items n j in
    omega (
      arith,
      length-append (items_to n j ++ codes " + ") (item_at n (suc j)),
      length-append (items_to n j) (codes " + "),
    )

at_most : (ns : List ℕ) (i : ℕ) → list_all few ns ≡ true → slice_index ns i ≤ 200
at_most [] i h = omega arith
at_most (n ∷ ns) zero h = let p = (and_parts (few n) (list_all few ns) h).0 in grind (arith, nat_tests)
at_most (n ∷ ns) (suc i) h = at_most ns i (and_parts (few n) (list_all few ns) h).1

carried : (w x : List Token) (p : Piece) (e : E w p) → list_all few (open_E e 0) ≡ true → w ≡ x →
    (f : E x p) × (list_all few (open_E f 0) ≡ true)
carried w x p e h q = subst (λ (y : List Token). (f : E y p) × (list_all few (open_E f 0) ≡ true)) q (e, h)

none_pass : (w : List Token) (p : Piece) (e : E w p) → list_all few (open_E e 0) ≡ true → FewOpen w
none_pass w p e h u c z q passes =
    let s = carried w ((u ++ c ∷ []) ++ z) p e h (q ∙ sym (append_assoc u (c ∷ []) z)) in
    let n = passes.holds z p s.0 in
    let m = at_most (open_E s.0 0) (length u) s.1 in
    let k = passes.more in
    omega arith

pub programs : PassesWhereTyped → KeepsRules → SourcesArePrograms
programs typing rules n =
    let s = texts n 63 (source n) (10 ∷ []) refl in
    let g = sum_given typing rules n 63 in
    let few_nodes : nodes (sum_term n 63) ≤ 100000 = omega (arith, g.few, nodes_are 63) in
    let few_bytes : length (source n) ≤ 16777216 =
    omega (arith, short_items n 63, length-append (items_to n 63) (10 ∷ [])) in
    let cut : Cut source_tokens 0 (source n) s.tokens_of =
    subst (λ (w : List Token). Cut source_tokens 0 (source n) w) (append-nil s.tokens_of)
    (s.cut 10 [] [] refl (c_gap (some_next source_tokens source_signs 10 []) c_end)) in
    let is : sum_term n 63 ≡ plain s.term = sym s.is in (
      s.term,
      record {
        source = record { tokens = s.tokens_of; shape = s.shape; cut = cut; is_shape = e_sum s.sum; bound = s.bound };
        few_bytes = few_bytes;
        few_open = none_pass s.tokens_of s.shape (e_sum s.sum) s.few_open;
        few_nodes = subst (λ (e : Term). FewNodes e) is few_nodes;
      },
      subst (λ (e : Term). IsAccepted e TInt) is (g.typed, g.limits),
      subst (λ (e : Term). has_cells e ≡ false) is g.cell_free,
      subst (λ (e : Term). (i : ℤ) × Evaluates e 1280 i) is
          (evaluates rules (sum_term n 63) _ _ 1280 g (omega (arith, few_turns n 63))),
    )
