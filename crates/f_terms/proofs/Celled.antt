-- A term makes, reads or assigns cells where one of its nodes does.
use Rattle.std.proofs.Common.{◌≡◌, ◌≤◌, ◌<◌, ◌⊎◌, inl, inr, ℕ, zero, suc, ◌+◌, ◌-◌, Bool, true, false, ◌||◌}
use Rattle.std.proofs.Common.{List, [], ◌∷◌, map, length, get_or, refl, ap, ap₂, ◌∙◌, arith, All}
use Rattle.std.proofs.lemmas.Bool.{cases_eq, or_left, or_right}
use Rattle.std.proofs.lemmas.List.Elements.{All-head, All-tail}
use Rattle.calc_core.specs.Roots.{total, roots}
use Rattle.calc_core.proofs.Once as once
use Rattle.calc_core.proofs.Roots.{if_same, if_other}
use Rattle.f_terms.specs.Tm.{Tm, Spn, plain, plain_all, tms}
use Rattle.f_terms.specs.Read.{place}
use Rattle.f_terms.specs.Shape.{children, kids, shape_tree}
use Rattle.f_terms.specs.ReadTerm.{count, node_at, shape_at, term_of}
use Rattle.f_terms.specs.Cells.{has_cells, any_has_cells, is_of_cells}
use Rattle.f_terms.specs.declared.node.FNode.{FNode}
use Rattle.f_terms.specs.declared.node.FTerm.{FTerm}
use Rattle.f_terms.specs.declared.node.FShape.{FShape}
use Rattle.f_terms.specs.declared.node.FShape.TheVariants.{Var, Int, Fix, App, Gen, Inst, Tuple, Proj, Arith, If0, Let}
use Rattle.f_terms.specs.declared.node.FShape.TheVariants.{Pack, Open, Ref, Deref, Assign}
use Rattle.f_terms.proofs.Occurs.{times, times_of, low, at, node_of}

abbrev any : (ℕ → Bool) → List ℕ → Bool
any h [] = false
any h (k ∷ ks) = h k || any h ks

or_false : (b : Bool) → b ≡ (b || false)
or_false true = refl
or_false false = refl

or_three : (a b c : Bool) → (a || b || c) ≡ (a || (b || (c || false)))
or_three true b c = refl
or_three false true c = refl
or_three false false c = or_false c

or_both : (a b c d : Bool) → a ≡ c → b ≡ d → (a || b) ≡ (c || d)
or_both a b c d e f = ap₂ (λ x y. x || y) e f

abbrev celled : (ℕ → Tm) → ℕ → Bool
celled f k = has_cells (plain (f k))

any_of_all : (f : ℕ → Tm) (ks : List ℕ) → any_has_cells (plain_all (tms (map f ks))) ≡ any (celled f) ks
any_of_all f [] = refl
any_of_all f (k ∷ ks) = ap (λ b. celled f k || b) (any_of_all f ks)

-- a form has cells where it is of them itself, or a part has them
form_cells : (f : ℕ → Tm) (s : Spn) (n : FShape) →
    has_cells (plain (shape_tree f s n)) ≡ (is_of_cells n || any (celled f) (children n))
form_cells f s (Var i) = refl
form_cells f s (Int i) = refl
form_cells f s (Fix a r b) = or_false (celled f b)
form_cells f s (App a x) = ap (λ b. celled f a || b) (or_false (celled f x))
form_cells f s (Gen b) = or_false (celled f b)
form_cells f s (Inst e t) = or_false (celled f e)
form_cells f s (Tuple es) = any_of_all f es.items
form_cells f s (Proj i e) = or_false (celled f e)
form_cells f s (Arith op a x) = ap (λ b. celled f a || b) (or_false (celled f x))
form_cells f s (If0 c a x) = or_three (celled f c) (celled f a) (celled f x)
form_cells f s (Let a x) = ap (λ b. celled f a || b) (or_false (celled f x))
form_cells f s (Pack h e t) = or_false (celled f e)
form_cells f s (Open a x) = ap (λ b. celled f a || b) (or_false (celled f x))
form_cells f s (Ref e) = refl
form_cells f s (Deref e) = refl
form_cells f s (Assign a x) = refl

none_of : (h : ℕ → Bool) (ks : List ℕ) → All (λ k. h k ≡ false) ks → any h ks ≡ false
none_of h [] p = refl
none_of h (k ∷ ks) p =
    or_both (h k) (any h ks) false false (All-head (λ k. h k ≡ false) k ks p)
    (none_of h ks (All-tail (λ k. h k ≡ false) k ks p))

one_of : (m n : ℕ) → 1 ≤ m + n → (1 ≤ m) ⊎ (1 ≤ n)
one_of zero n h = inr (omega (arith, h))
one_of (suc m) n h = inl (omega arith)

some_of : (h : ℕ → Bool) (w : ℕ → ℕ) (ks : List ℕ) → All (λ k. 1 ≤ w k → h k ≡ true) ks → 1 ≤ total w ks →
    any h ks ≡ true
some_of h w [] p le = absurd (omega (arith, le))
some_of h w (k ∷ ks) p le = elim (one_of (w k) (total w ks) le) as (λ x. any h (k ∷ ks) ≡ true) [
  | inl a ↦ or_left (h k) (any h ks) (All-head (λ k. 1 ≤ w k → h k ≡ true) k ks p a)
  | inr b ↦ or_right (h k) (any h ks) (some_of h w ks (All-tail (λ k. 1 ≤ w k → h k ≡ true) k ks p) b)
]

-- no node is of cells
none_at : (f : FTerm) → ((k : ℕ) → k < count f → is_of_cells (shape_at f k) ≡ false) → (b i : ℕ) → i < b →
    i < count f → celled (node_at f) i ≡ false
none_at f h zero i lb lt = absurd (omega (arith, lb))
none_at f h (suc b) i lb lt =
    ap (λ e. has_cells (plain e)) (node_of f i lt)
    ∙ form_cells (node_at f) (place (at f i).span) (shape_at f i)
    ∙ or_both (is_of_cells (shape_at f i)) (any (celled (node_at f)) (children (shape_at f i))) false false (h i lt)
    (none_of (celled (node_at f)) (children (shape_at f i))
    (λ j d l. let k = low f i lt j d l in
    none_at f h b (get_or (children (shape_at f i)) j d) (omega (arith, lb, k)) (omega (arith, lt, k))))

pub no_cells : (f : FTerm) → ((k : ℕ) → k < count f → is_of_cells (shape_at f k) ≡ false) →
    has_cells (term_of f) ≡ false
no_cells f h = let some = f.some in none_at f h (count f) (count f - 1) (omega (arith, some)) (omega (arith, some))

-- node m is, and occurs
some_at : (f : FTerm) (m : ℕ) → is_of_cells (shape_at f m) ≡ true → (b i : ℕ) → i < b → i < count f → 1 ≤ times f m i →
    celled (node_at f) i ≡ true
some_at f m h zero i lb lt le = absurd (omega (arith, lb))
some_at f m h (suc b) i lb lt le =
    let ks = children (shape_at f i) in
    ap (λ e. has_cells (plain e)) (node_of f i lt)
    ∙ form_cells (node_at f) (place (at f i).span) (shape_at f i)
    ∙ elim (cases_eq i m) as (λ x. (is_of_cells (shape_at f i) || any (celled (node_at f)) ks) ≡ true) [
      | inl e ↦ or_left (is_of_cells (shape_at f i)) (any (celled (node_at f)) ks) (ap (λ k.
          is_of_cells (shape_at f k)) e ∙ h)
      | inr ne ↦ or_right (is_of_cells (shape_at f i)) (any (celled (node_at f)) ks)
          (some_of (celled (node_at f)) (times f m) ks
          (λ j d l. let k = low f i lt j d l in
          some_at f m h b (get_or ks j d) (omega (arith, lb, k)) (omega (arith, lt, k)))
          (omega (arith, le, times_of f m i lt, if_other {A = ℕ} i m 1 0 ne)))
    ]

own_has : (m k : ℕ) (ns : List FNode) → k ≤ m → m < k + length ns → 1 ≤ once.own kids (once.one kids m) k ns
own_has m k [] le lt = absurd (omega (arith, le, lt))
own_has m k (n ∷ ns) le lt = elim (cases_eq k m) as (λ x. 1 ≤ once.own kids (once.one kids m) k (n ∷ ns)) [
  | inl e ↦ omega (arith, if_same {A = ℕ} k m 1 0 e)
  | inr ne ↦ (let less : k + 1 ≤ m = omega (arith, le, ne) in let x = own_has m (k + 1) ns less (omega (arith, lt)) in
      omega (arith, x))
]

occurs : (f : FTerm) (m : ℕ) → m < count f → 1 ≤ times f m (count f - 1)
occurs f m lt =
    let x = once.all_weigh kids (once.one kids m) f.nodes.items f.ordered in
    let y : total (times f m) (roots kids f.nodes.items) ≡ times f m (count f - 1) + 0 = ap (total (times f m)) f.one in
    let z = own_has m 0 f.nodes.items (omega arith) (omega (arith, lt)) in
    omega (arith, x, y, z)

pub with_cells : (f : FTerm) (m : ℕ) → m < count f → is_of_cells (shape_at f m) ≡ true → has_cells (term_of f) ≡ true
with_cells f m lt h =
    let some = f.some in
    some_at f m h (count f) (count f - 1) (omega (arith, some)) (omega (arith, some)) (occurs f m lt)
