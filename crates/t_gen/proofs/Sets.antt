-- Sets of variables, and what values use.
use Rattle.std.proofs.Common.{subst, ◌≡◌, ℕ, zero, suc, ◌+◌, ◌<◌, ◌≤◌, ◌++◌, List, [], ◌∷◌, length, take, get_or, refl}
use Rattle.std.proofs.Common.{sym, ap, ◌∙◌, arith, ⊎_elim}
use Rattle.std.specs.Prelude.{Bool, true, false, ◌==◌, ◌||◌, ◌&&◌, not, cond}
use Rattle.std.specs.declared.cmp.Ordering.TheVariants.{Less, Equal, Greater}
use Rattle.std.specs.Ordering.{nat_cmp, is_eq}
use Rattle.std.proofs.lemmas.Cmp.{ranked}
use Rattle.std.specs.BTreeMap.Range.{IsLtBy}
use Rattle.std.proofs.lemmas.Bool.{eq-eqb, ne_eqb, lt-ltb, le-ltb, cases_lt, cases_order, cases_eq}
use Rattle.std.proofs.lemmas.Bool.{true≢false as not_both}
use Rattle.std.specs.BTreeMap.{is_at}
use Rattle.std.specs.List.{list_any, All}
use Rattle.t_gen_rules.specs.Gen.{uses, uses_any}
use Rattle.t_gen.specs.Uses.{Listed, mem}
use Rattle.a_terms.specs.Tree as a
use Rattle.a_terms.specs.NodeTrees.{wrap, wrapped, a_value, a_values}
use Rattle.a_terms.specs.declared.nodes.AValue.{AValue}
use Rattle.a_terms.specs.declared.nodes.AWrap.{AWrap}
use Rattle.a_terms.specs.declared.nodes.AWrap.TheVariants.{Apply, Pack}
use Rattle.std.proofs.lemmas.List.{append-nil as append_none}

-- two keys are the same where the numbers are
pub same_key : (n i o : ℕ) → is_eq (nat_cmp (n + o) (i + o)) ≡ (n == i)
same_key n i o = ⊎_elim
    (λ (e : n ≡ i).
    let x = le-ltb (n + o) (i + o) (omega arith) in
    let y = eq-eqb (n + o) (i + o) (omega arith) in
    ap (λ b. is_eq (cond b Less (cond ((n + o) == (i + o)) Equal Greater))) x
    ∙ ap (λ b. is_eq (cond b Equal Greater)) y ∙ sym (eq-eqb n i e))
    (λ q. ⊎_elim
    (λ (lt : n < i).
    let x = lt-ltb (n + o) (i + o) (omega arith) in
    ap (λ b. is_eq (cond b Less (cond ((n + o) == (i + o)) Equal Greater))) x
    ∙ sym (ne_eqb n i (λ z. absurd (omega arith))))
    (λ (gt : i < n).
    let x = le-ltb (n + o) (i + o) (omega arith) in
    let y = ne_eqb (n + o) (i + o) (λ z. absurd (omega arith)) in
    ap (λ b. is_eq (cond b Less (cond ((n + o) == (i + o)) Equal Greater))) x
    ∙ ap (λ b. is_eq (cond b Equal Greater)) y ∙ sym (ne_eqb n i (λ z. absurd (omega arith)))) q)
    (cases_order n i)

pub or_put : (b x : Bool) → cond b true x ≡ (x || b)
or_put true true = refl
or_put true false = refl
or_put false true = refl
or_put false false = refl

-- what a value uses is what it begins with
uses_wrap : (w : AWrap) (v : a.AVal) (i : ℕ) → uses (wrap w v) i ≡ uses v i
uses_wrap (Apply ts) v i = refl
uses_wrap (Pack h s) v i = refl

pub uses_base : (v : a.AVal) (ws : List AWrap) (i : ℕ) → uses v i ≡ uses (wrapped v ws) i
uses_base v [] i = refl
uses_base v (w ∷ ws) i = sym (uses_wrap w v i) ∙ uses_base (wrap w v) ws i

pub or_none : (x : Bool) → x ≡ (x || false)
or_none true = refl
or_none false = refl

pub or_more : (x y z : Bool) → ((x || y) || z) ≡ (x || (y || z))
or_more true y z = refl
or_more false y z = refl

uses_snoc : (vs : List AValue) (k : ℕ) (v : AValue) (i : ℕ) → k < length vs → v ≡ get_or vs k v →
    uses_any (a_values (take (k + 1) vs)) i ≡ (uses_any (a_values (take k vs)) i || uses (a_value v) i)
uses_snoc [] k v i lt is = absurd (omega arith)
uses_snoc (x ∷ vs) zero v i lt is =
    sym (or_none (uses (a_value x) i)) ∙ ap (λ (y : AValue). uses (a_value y) i) (sym is)
uses_snoc (x ∷ vs) (suc k) v i lt is =
    let more : suc k + 1 ≡ suc (k + 1) = omega arith in
    ap (λ q. uses_any (a_values (take q (x ∷ vs))) i) more
    ∙ ap (λ b. uses (a_value x) i || b) (uses_snoc vs k v i (omega arith) is)
    ∙ sym (or_more (uses (a_value x) i) (uses_any (a_values (take k vs)) i) (uses (a_value v) i))

-- one more value
pub note_next : (vs : List AValue) (k : ℕ) (v : AValue) (i : ℕ) (old mid new : Bool) → k < length vs →
    v ≡ get_or vs k v → new ≡ (mid || uses (a_value v) i) → mid ≡ (old || uses_any (a_values (take k vs)) i) →
    new ≡ (old || uses_any (a_values (take (k + 1) vs)) i)
note_next vs k v i old mid new lt is e h =
    e ∙ ap (λ b. b || uses (a_value v) i) h ∙ or_more old (uses_any (a_values (take k vs)) i) (uses (a_value v) i)
    ∙ ap (λ b. old || b) (sym (uses_snoc vs k v i lt is))

pub mem_push : (xs : List ℕ) (n i : ℕ) → mem (xs ++ n ∷ []) i ≡ (mem xs i || (n == i))
mem_push [] n i = sym (or_none (n == i))
mem_push (x ∷ xs) n i = ap (λ b. (x == i) || b) (mem_push xs n i) ∙ sym (or_more (x == i) (mem xs i) (n == i))

or_and : (x y z : Bool) → ((x || y) && z) ≡ ((x && z) || (y && z))
or_and true true true = refl
or_and true true false = refl
or_and true false true = refl
or_and true false false = refl
or_and false y z = refl

-- one more value whose variable may be missing
pub missing_next : (vs : List AValue) (k : ℕ) (v : AValue) (i : ℕ) (h old mid new : Bool) → k < length vs →
    v ≡ get_or vs k v → new ≡ (mid || (uses (a_value v) i && h)) →
    mid ≡ (old || (uses_any (a_values (take k vs)) i && h)) →
    new ≡ (old || (uses_any (a_values (take (k + 1) vs)) i && h))
missing_next vs k v i h old mid new lt is e m =
    let many = uses_any (a_values (take k vs)) i in
    let one = uses (a_value v) i in
    e ∙ ap (λ b. b || (one && h)) m ∙ or_more old (many && h) (one && h)
    ∙ ap (λ b. old || b) (sym (or_and many one h) ∙ ap (λ b. b && h) (sym (uses_snoc vs k v i lt is)))

-- a number that is there, and one that is not
pub there_none : (s : ℕ → Bool) (n i : ℕ) (old : Bool) → s n ≡ true → old ≡ (old || ((n == i) && not (s i)))
there_none s n i old y = ⊎_elim
    (λ (e : n ≡ i). or_none old
    ∙ ap (λ b. old || b) (sym (ap (λ b. b && not (s i)) (eq-eqb n i e) ∙ ap not (ap s (sym e) ∙ y))))
    (λ (ne : n ≡ i → ⊥). or_none old ∙ ap (λ b. old || b) (sym (ap (λ b. b && not (s i)) (ne_eqb n i ne))))
    (cases_eq n i)

pub missing_one : (s : ℕ → Bool) (n i : ℕ) → s n ≡ false → (n == i) ≡ ((n == i) && not (s i))
missing_one s n i y = ⊎_elim
    (λ (e : n ≡ i). eq-eqb n i e ∙ sym (ap (λ b. b && not (s i)) (eq-eqb n i e) ∙ ap not (ap s (sym e) ∙ y)))
    (λ (ne : n ≡ i → ⊥). ne_eqb n i ne ∙ sym (ap (λ b. b && not (s i)) (ne_eqb n i ne)))
    (cases_eq n i)

mem_snoc : (xs : List ℕ) (k d i : ℕ) → k < length xs →
    mem (take (k + 1) xs) i ≡ (mem (take k xs) i || (get_or xs k d == i))
mem_snoc [] k d i lt = absurd (omega arith)
mem_snoc (x ∷ xs) zero d i lt = sym (or_none (x == i))
mem_snoc (x ∷ xs) (suc k) d i lt =
    let more : suc k + 1 ≡ suc (k + 1) = omega arith in
    ap (λ q. mem (take q (x ∷ xs)) i) more ∙ ap (λ b. (x == i) || b) (mem_snoc xs k d i (omega arith))
    ∙ sym (or_more (x == i) (mem (take k xs) i) (get_or xs k d == i))

-- one more number that may be missing
pub missing_more : (xs : List ℕ) (k d i : ℕ) (h old mid new : Bool) → k < length xs →
    new ≡ (mid || ((get_or xs k d == i) && h)) → mid ≡ (old || (mem (take k xs) i && h)) →
    new ≡ (old || (mem (take (k + 1) xs) i && h))
missing_more xs k d i h old mid new lt e m =
    let many = mem (take k xs) i in
    let one = get_or xs k d == i in
    e ∙ ap (λ b. b || (one && h)) m ∙ or_more old (many && h) (one && h)
    ∙ ap (λ b. old || b) (sym (or_and many one h) ∙ ap (λ b. b && h) (sym (mem_snoc xs k d i lt)))

pub add_next : (xs : List ℕ) (k d i : ℕ) (old mid new : Bool) → k < length xs → new ≡ (mid || (get_or xs k d == i)) →
    mid ≡ (old || mem (take k xs) i) → new ≡ (old || mem (take (k + 1) xs) i)
add_next xs k d i old mid new lt e h =
    e ∙ ap (λ b. b || (get_or xs k d == i)) h ∙ or_more old (mem (take k xs) i) (get_or xs k d == i)
    ∙ ap (λ b. old || b) (sym (mem_snoc xs k d i lt))

listed_low : (xs : List ℕ) (u : ℕ → Bool) (n i : ℕ) → Listed u n xs → i < n → mem xs i ≡ false
listed_low [] u n i h lt = refl
listed_low (x ∷ xs) u n i h lt =
    ap (λ b. b || mem xs i) (ne_eqb x i (λ z. absurd (omega (arith, h.0, z))))
    ∙ listed_low xs u (suc x) i h.3 (omega (arith, h.0))

listed_from : (xs : List ℕ) (u : ℕ → Bool) (n i : ℕ) → Listed u n xs → n ≤ i → mem xs i ≡ u i
listed_from [] u n i h le = sym (h i le)
listed_from (x ∷ xs) u n i h le = ⊎_elim
    (λ (e : i ≡ x). ap (λ b. b || mem xs i) (eq-eqb x i (sym e)) ∙ sym (ap u e ∙ h.2))
    (λ q. ⊎_elim
    (λ (lt : i < x). ap (λ b. b || mem xs i) (ne_eqb x i (λ z. absurd (omega (arith, z))))
    ∙ listed_low xs u (suc x) i h.3 (omega arith) ∙ sym (h.1 i le lt))
    (λ (gt : x < i). ap (λ b. b || mem xs i) (ne_eqb x i (λ z. absurd (omega (arith, z))))
    ∙ listed_from xs u (suc x) i h.3 (omega arith)) q)
    (cases_order i x)

pub listed_mem : (xs : List ℕ) (u : ℕ → Bool) (i : ℕ) → Listed u 0 xs → mem xs i ≡ u i
listed_mem xs u i h = listed_from xs u 0 i h (omega arith)

-- keys that are taken from a set, the least one first
abbrev pub any : ℕ → List ℕ → Bool
any q ks = list_any (is_at (nat_cmp q)) ks

pub record Taken (o : ℕ) (all left numbers : List ℕ) : Type 0 where
  pub next : ℕ
  pub before : (u : ℕ → Bool) → ((i : ℕ) → any (i + o) all ≡ u i) → (t : List ℕ) → Listed u next t →
      Listed u 0 (numbers ++ t)
  pub here : (i : ℕ) → next ≤ i → any (i + o) left ≡ any (i + o) all
  pub gone : (i : ℕ) → i < next → any (i + o) left ≡ false

key_apart : (q k : ℕ) → (q ≡ k → ⊥) → is_eq (nat_cmp q k) ≡ false
key_apart q k ne =
    let z : q ≡ q + 0 = omega arith in
    let w : k ≡ k + 0 = omega arith in
    ap (λ x. is_eq (nat_cmp x k)) z ∙ ap (λ x. is_eq (nat_cmp (q + 0) x)) w ∙ same_key q k 0 ∙ ne_eqb q k ne

key_same : (q k : ℕ) → q ≡ k → is_eq (nat_cmp q k) ≡ true
key_same q k e =
    let z : q ≡ q + 0 = omega arith in
    let w : k ≡ k + 0 = omega arith in
    ap (λ x. is_eq (nat_cmp x k)) z ∙ ap (λ x. is_eq (nat_cmp (q + 0) x)) w ∙ same_key q k 0 ∙ eq-eqb q k e

-- each is greater
abbrev pub Above : ℕ → List ℕ → Type 0
Above k [] = Unit {0}
Above k (x ∷ xs) = (k < x) × Above k xs

any_apart : (q k : ℕ) (old new : List ℕ) → old ≡ k ∷ new → (q ≡ k → ⊥) → any q old ≡ any q new
any_apart q k old new e ne = ap (any q) e ∙ ap (λ b. b || any q new) (key_apart q k ne)

any_above : (q k : ℕ) (xs : List ℕ) → Above k xs → q ≤ k → any q xs ≡ false
any_above q k [] h le = refl
any_above q k (x ∷ xs) h le =
    ap (λ b. b || any q xs) (key_apart q x (λ z. absurd (omega (arith, h.0, z)))) ∙ any_above q k xs h.1 le

assoc : (xs : List ℕ) (x : ℕ) (t : List ℕ) → xs ++ x ∷ t ≡ (xs ++ x ∷ []) ++ t
assoc [] x t = refl
assoc (y ∷ xs) x t = ap (λ zs. y ∷ zs) (assoc xs x t)

pub taken_one : (o k n : ℕ) (all old new numbers : List ℕ) → n + o ≡ k → old ≡ k ∷ new → Above k new →
    Taken o all old numbers → Taken o all new (numbers ++ n ∷ [])
taken_one o k n all old new numbers at e above t =
    let in_old : any (n + o) old ≡ true = ap (any (n + o)) e ∙ ap (λ b. b || any (n + o) new) (key_same (n + o) k at) in
    let le : t.next ≤ n =
    ⊎_elim (λ (lt : n < t.next). absurd (not_both (sym in_old ∙ t.gone n lt))) (λ q. q) (cases_lt n t.next) in
    record {
      next = suc n;
      before = λ u h r l. subst (Listed u 0) (assoc numbers n r) (t.before u h (n ∷ r) (
        le,
        (λ i from lt. sym (h i) ∙ sym (t.here i from) ∙ ap (any (i + o)) e
            ∙ ap (λ b. b || any (i + o) new) (key_apart (i + o) k (λ z. absurd (omega (arith, at, z))))
            ∙ any_above (i + o) k new above (omega (arith, at))),
        sym (h n) ∙ sym (t.here n le) ∙ in_old,
        l,
      ));
      here =
          λ i from. sym (any_apart (i + o) k old new e (λ z. absurd (omega (arith, at, z)))) ∙ t.here i (omega arith);
      gone = λ i lt. any_above (i + o) k new above (omega (arith, at));
    }

pub taken_all : (o : ℕ) (all left numbers : List ℕ) (u : ℕ → Bool) → left ≡ [] → Taken o all left numbers →
    ((i : ℕ) → any (i + o) all ≡ u i) → Listed u 0 numbers
taken_all o all left numbers u e t h =
    subst (Listed u 0) (append_none numbers)
    (t.before u h [] (λ i le. sym (h i) ∙ sym (t.here i le) ∙ ap (any (i + o)) e))

pub nil_from : (xs : List ℕ) → (0 < length xs → false ≡ true) → xs ≡ []
nil_from [] f = refl
nil_from (x ∷ xs) f = absurd (not_both (sym (f (omega arith))))

pub above_all : (k : ℕ) (xs : List ℕ) → All (IsLtBy nat_cmp k) xs → Above k xs
above_all k [] h = tt
above_all k (x ∷ xs) h =
    (ranked k x Less (sym (h 0 0 (omega arith))), above_all k xs (λ j d lt. h (suc j) d (omega (arith, lt))))
