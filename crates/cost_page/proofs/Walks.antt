-- Walks over the places of a program, one at a time.
use Rattle.std.proofs.Common.{◌≡◌, ℕ, ◌+◌, List, [], ◌∷◌, ◌++◌, length, min, refl, sym, ap, ◌∙◌, subst, arith}
use Rattle.std.proofs.Common.{◌<◌, ◌≤◌, ◌==◌, nat_lt, append_assoc, length-append, get_or, drop, take, codes}
use Rattle.std.specs.Prelude.{sum_by, insert, if◌then◌else◌}
use Rattle.std.proofs.lemmas.Bool.Decides.{nat_tests}
use Rattle.std.proofs.lemmas.List.{drop_more, drop_all}
use Rattle.std.proofs.lemmas.List.Sums.{sum_by-cons}
use Rattle.idx_core.specs.declared.span.Span.{Span}
use Rattle.t_terms.specs.Tree.{TInstr, TEnd}
use Rattle.t_terms.specs.Spanned.{SBlock}
use Rattle.cost_page.specs.Places.{rest_places, block_places, places}
use Rattle.cost_page.specs.Page.{weight, capped, row, kind_row, kind_rows, kinds, totals_text, most_text, most}
use Rattle.cost_page.specs.Page.{rank, placed, page_from}
use Rattle.cost_page.specs.declared.places.Kind.{Kind}
use Rattle.cost_page.specs.declared.places.Place.{Place}
use Rattle.cost_page.specs.declared.totals.Measure.{Measure}

-- a place by its parts
abbrev pub place : Span → ℕ → Kind → ℕ → ℕ → ℕ → Place
place label index kind fields start count =
    record { label = label; index = index; kind = kind; fields = fields; start = start; count = count }

pub place_is : (label : Span) (index : ℕ) (k l : Kind) (n m start c d : ℕ) → k ≡ l → n ≡ m → c ≡ d →
    place label index k n start c ≡ place label index l m start d
place_is label index k l n m start c d kinds fields counts =
    ap (λ z. place label index z n start c) kinds ∙ ap (λ z. place label index l z start c) fields
    ∙ ap (λ z. place label index l m start z) counts

-- one place more, behind those that were put
pub put_one : (old new : List Place) (p q : Place) (rest : ℕ → List Place) (all : List Place) →
    new ≡ old ++ p ∷ [] → p ≡ q → old ++ q ∷ rest (length old + 1) ≡ all → new ++ rest (length new) ≡ all
put_one old new p q rest all is same whole =
    ap (λ ps. ps ++ rest (length ps)) (is ∙ ap (λ z. old ++ z ∷ []) same)
    ∙ append_assoc old (q ∷ []) (rest (length (old ++ q ∷ [])))
    ∙ ap (λ n. old ++ q ∷ rest n) (length-append old (q ∷ []))
    ∙ whole

-- a block has a place for each instruction, and one for its end
rest_count : (counts : List ℕ) (k : ℕ) (label : Span) (i : ℕ) (xs : List (TInstr × Span)) (e : TEnd) (s : Span) →
    length (rest_places counts k label i xs e s) ≡ length xs + 1
rest_count counts k label i [] e s = refl
rest_count counts k label i (x ∷ xs) e s = omega (arith, rest_count counts (k + 1) label (i + 1) xs e s)

-- one block more
pub put_block : (counts : List ℕ) (old new : List Place) (b : SBlock) (bs : List SBlock) (all : List Place) →
    new ≡ old ++ block_places counts (length old) b → old ++ places counts (length old) (b ∷ bs) ≡ all →
    new ++ places counts (length new) bs ≡ all
put_block counts old new b bs all is whole =
    let mine = block_places counts (length old) b in
    let count : length (old ++ mine) ≡ length old + (length b.body + 1) =
    omega (arith, length-append old mine, rest_count counts (length old) b.name 0 b.body b.last b.last_span) in
    ap (λ ps. ps ++ places counts (length ps) bs) is
    ∙ append_assoc old mine (places counts (length (old ++ mine)) bs)
    ∙ ap (λ n. old ++ (mine ++ places counts n bs)) count
    ∙ whole

-- one place more in a sum
capped_sum : (s w v r : ℕ) → min 18446744073709551615 v ≡ min 18446744073709551615 w →
    min 18446744073709551615 (min 18446744073709551615 (s + v) + r) ≡ min 18446744073709551615 (s + (w + r))
capped_sum s w v r is = omega (arith, is)

pub sum_more : (m : Measure) (p : Place) (ps : List Place) (s v : ℕ) → capped v ≡ capped (weight m p) →
    capped (min 18446744073709551615 (s + v) + sum_by (weight m) ps) ≡ capped (s + sum_by (weight m) (p ∷ ps))
sum_more m p ps s v is =
    capped_sum s (weight m p) v (sum_by (weight m) ps) is
    ∙ ap (λ n. capped (s + n)) (sym (sum_by-cons (weight m) p ps))

-- ---- pieces of a page

-- one row more
pub row_more : (old new row rest all : List ℕ) → new ≡ old ++ row → old ++ (row ++ rest) ≡ all → new ++ rest ≡ all
row_more old new row rest all is whole = ap (λ t. t ++ rest) is ∙ append_assoc old row rest ∙ whole

pub kind_more : (ps : List Place) (ks : List Kind) (i : ℕ) (d : Kind) (old new all : List ℕ) → i < length ks →
    new ≡ old ++ kind_row ps (get_or ks i d) → old ++ kind_rows ps (drop i ks) ≡ all →
    new ++ kind_rows ps (drop (i + 1) ks) ≡ all
kind_more ps ks i d old new all lt is whole =
    row_more old new (kind_row ps (get_or ks i d)) (kind_rows ps (drop (i + 1) ks)) all is
    (subst (λ (z : List Kind). old ++ kind_rows ps z ≡ all) (drop_more ks i d lt) whole)

pub made_page : (text : List ℕ) (steps index : ℕ) (ps qs rs top : List Place) (a b c d e : List ℕ) → qs ≡ ps →
    rs ≡ ps → top ≡ most [] ps → a ≡ [] → b ≡ a ++ row (codes "instructions ") steps → c ≡ b ++ kind_rows qs kinds →
    d ≡ c ++ totals_text rs index → e ≡ d ++ most_text text top → e ≡ page_from text steps index ps
made_page text steps index ps qs rs top a b c d e same also best none first second third fourth =
    joined a b c d e (row (codes "instructions ") steps) (kind_rows ps kinds) (totals_text ps index)
    (most_text text (most [] ps)) none first (second ∙ ap (λ zs. b ++ kind_rows zs kinds) same)
    (third ∙ ap (λ zs. c ++ totals_text zs index) also) (fourth ∙ ap (λ zs. d ++ most_text text zs) best)
  where
    joined : (a b c d e r k t m : List ℕ) → a ≡ [] → b ≡ a ++ r → c ≡ b ++ k → d ≡ c ++ t → e ≡ d ++ m →
        e ≡ r ++ (k ++ (t ++ m))
    joined a b c d e r k t m none first second third fourth =
        let start : b ≡ r = first ∙ ap (λ z. z ++ r) none in
        fourth ∙ ap (λ z. z ++ m) (third ∙ ap (λ z. z ++ t) (second ∙ ap (λ z. z ++ k) start))
        ∙ append_assoc (r ++ k) t m ∙ append_assoc r k (t ++ m)

-- ---- the rank of a place

-- none of the first i was executed less often
abbrev pub RankBehind : Place → List Place → ℕ → Type 0
RankBehind p qs i = rank p qs ≡ i + rank p (drop i qs)

less : (n m r : ℕ) → n < m → (if nat_lt n m then 0 else 1 + r) ≡ 0
less n m r lt = grind (arith, nat_tests)

no_less : (n m r : ℕ) → m ≤ n → (if nat_lt n m then 0 else 1 + r) ≡ 1 + r
no_less n m r le = grind (arith, nat_tests)

pub rank_here : (p : Place) (qs : List Place) (i : ℕ) (q : Place) → i < length qs → (get_or qs i q).count < p.count →
    RankBehind p qs i → i ≡ rank p qs
rank_here p qs i q lt fewer behind =
    let x = get_or qs i q in
    let next = ap (rank p) (drop_more qs i q lt) in
    let here = less x.count p.count (rank p (drop (i + 1) qs)) fewer in
    omega (arith, behind, next, here)

pub rank_more : (p : Place) (qs : List Place) (i : ℕ) (q : Place) → i < length qs → p.count ≤ (get_or qs i q).count →
    RankBehind p qs i → RankBehind p qs (i + 1)
rank_more p qs i q lt most behind =
    let x = get_or qs i q in
    let next = ap (rank p) (drop_more qs i q lt) in
    let here = no_less x.count p.count (rank p (drop (i + 1) qs)) most in
    omega (arith, behind, next, here)

pub rank_last : (p : Place) (qs : List Place) (i : ℕ) → length qs ≤ i → i ≤ length qs → RankBehind p qs i →
    length qs ≡ rank p qs
rank_last p qs i le ge behind =
    let none = ap (rank p) (drop_all i qs le) in
    omega (arith, behind, none)

-- ---- the first ten

pub placed_none : (top : List Place) (p : Place) → p.count ≡ 0 → top ≡ placed top p
placed_none top p none = grind (arith, nat_tests)

pub placed_some : (top inserted : List Place) (p : Place) (at : ℕ) → (p.count ≡ 0 → ⊥) → at ≡ rank p top →
    inserted ≡ insert top at p → take 10 inserted ≡ placed top p
placed_some top inserted p at some is made =
    ap (take 10) (made ∙ ap (λ i. insert top i p) is) ∙ chosen p.count (take 10 (insert top (rank p top) p)) top some
  where
    chosen : (n : ℕ) (a b : List Place) → (n ≡ 0 → ⊥) → a ≡ (if n == 0 then b else a)
    chosen n a b ne = grind (arith, nat_tests)
