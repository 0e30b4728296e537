-- The verdict of any table that meets its claims is exact.
use Rattle.std.proofs.Common.{◌≡◌, ℕ, zero, suc, ◌<◌, ◌≤◌, List, [], ◌∷◌, ◌++◌, length, slice_index, arith, nat_lt}
use Rattle.std.proofs.Common.{if◌then◌else◌, Bool, true, false, refl, sym, ◌∙◌, ap, subst, append_assoc, Option, Some}
use Rattle.std.proofs.Common.{None}
use Rattle.std.proofs.lemmas.List.{append-nil, length-append}
use Rattle.std.proofs.Math.Seq.{get_or-append_seam}
use Rattle.std.proofs.lemmas.Bool.{ltb-true, ltb-false}
use Rattle.text_core.specs.Table.{Table, State, step, finish, Outcome, Done, Stop, seen, marks, at_end, go, exec}
use Rattle.text_core.specs.Table.{whole, Passed, bounded}
use Rattle.text_core.specs.Shapes.{Begins, Passes, NonePasses}
use Rattle.text_core.specs.Verdicts.{grammar_of, Says}
use Rattle.text_core.proofs.Claims.{Filled, Sound, Claims}
use Rattle.text_core.proofs.Reading.{seen_append}

seen_same : (g : Table) (a b : List ℕ) (t : List g.Val) (o : Outcome g) → seen g a (Done t) ≡ seen g b o → (i : ℕ) →
    i < length b → slice_index a i ≡ slice_index b i
seen_same g a [] t o e i h = absurd (omega arith)
seen_same g [] (m ∷ b) t o e i h = absurd (cc)
seen_same g (n ∷ a) (m ∷ b) t o e zero h = cc
seen_same g (n ∷ a) (m ∷ b) t o e (suc i) h =
    let q : seen g a (Done t) ≡ seen g b o = cc in seen_same g a b t o q i (omega arith)

two_ends : (g : Table) (a b : List ℕ) (t : List g.Val) (r : List g.Tok) → seen g a (Done t) ≡ seen g b (Stop r) → ⊥
two_ends g [] [] t r e = cc
two_ends g [] (m ∷ b) t r e = cc
two_ends g (n ∷ a) [] t r e = cc
two_ends g (n ∷ a) (m ∷ b) t r e = let q : seen g a (Done t) ≡ seen g b (Stop r) = cc in two_ends g a b t r q

-- the tokens u were read from the start, up to the state b, and none passed the limit
pub record Came (g : Table) (k : Claims g) (limit : ℕ) (u : List g.Tok) (b : State g) : Type 0 where
  pub counts : List ℕ
  pub leads : (z : List g.Tok) → whole g (u ++ z) ≡ seen g counts (exec g z b.owed b.made)
  pub long : length counts ≡ length u
  pub good : k.Good b.owed
  pub below : (i : ℕ) → i < length counts → slice_index counts i ≤ limit

completes : (g : Table) (k : Claims g) {limit : ℕ} {u : List g.Tok} {b : State g} → Came g k limit u b →
    Filled g b.owed b.made
completes g k {b} h = k.filled b.owed b.made h.good

shape : (g : Table) (k : Claims g) {limit : ℕ} {u : List g.Tok} {b : State g} → Came g k limit u b →
    (f : Filled g b.owed b.made) → Sound g (u ++ f.rest) f.made
shape g k {u} h f = k.sound (u ++ f.rest) f.made (h.counts ++ f.counts)
    (h.leads f.rest
    ∙ (ap (λ (o : Outcome g). seen g h.counts o) f.done ∙ sym (seen_append g h.counts f.counts (Done f.made))))

came_begins : (g : Table) (k : Claims g) {limit : ℕ} {u : List g.Tok} {b : State g} → Came g k limit u b →
    Begins (grammar_of g) u
came_begins g k h = let f = completes g k h in let s = shape g k h f in (f.rest, (s.value, s.shape))

regroup : {A : Type 0} (u : List A) (c : A) (v w : List A) → (u ++ c ∷ v) ++ w ≡ (u ++ c ∷ []) ++ (v ++ w)
regroup u c v w = simp append_assoc

none_passes : (g : Table) (k : Claims g) {limit : ℕ} {u : List g.Tok} {b : State g} → Came g k limit u b →
    NonePasses (grammar_of g) limit u
none_passes g k {limit} {u} {b} h u1 c u2 q p =
    let f = completes g k h in
    let s = shape g k h f in
    let e : u ++ f.rest ≡ (u1 ++ c ∷ []) ++ (u2 ++ f.rest) =
    ap (λ (x : List g.Tok). x ++ f.rest) q ∙ regroup u1 c u2 f.rest in
    let d : g.Shape ((u1 ++ c ∷ []) ++ (u2 ++ f.rest)) s.value =
    subst (λ (x : List g.Tok). g.Shape x s.value) e s.shape in
    let n = g.opens ((u1 ++ c ∷ []) ++ (u2 ++ f.rest)) s.value d in
    let a : seen g n (Done (g.tree s.value ∷ [])) ≡ seen g h.counts (exec g f.rest b.owed b.made) =
    sym (k.complete ((u1 ++ c ∷ []) ++ (u2 ++ f.rest)) s.value d)
    ∙ (ap (λ (x : List g.Tok). whole g x) (sym e) ∙ h.leads f.rest) in
    let l : length u1 < length h.counts =
    omega (arith, h.long, ap (λ (x : List g.Tok). length x) q, length-append u1 (c ∷ u2)) in
    let t : slice_index n (length u1) ≡ slice_index h.counts (length u1) =
    seen_same g n h.counts (g.tree s.value ∷ []) (exec g f.rest b.owed b.made) a (length u1) l in
    omega (arith, t, h.below (length u1) l, p.holds (u2 ++ f.rest) s.value d, p.more)

below_last : (a : List ℕ) (n m : ℕ) → ((i : ℕ) → i < length a → slice_index a i ≤ m) → n ≤ m → (i : ℕ) →
    i < length (a ++ n ∷ []) → slice_index (a ++ n ∷ []) i ≤ m
below_last [] n m g h zero l = h
below_last [] n m g h (suc i) l = absurd (omega arith)
below_last (b ∷ a) n m g h zero l = g 0 (omega arith)
below_last (b ∷ a) n m g h (suc i) l = below_last a n m (λ k q. g (suc k) (omega arith)) h i (omega arith)

came_next : (g : Table) (k : Claims g) {limit : ℕ} {u : List g.Tok} {b : State g} → Came g k limit u b →
    (c : g.Tok) (d : State g) → step g b.owed b.made c ≡ Some d →
    marks g d.owed ≤ limit → Came g k limit (u ++ c ∷ []) d
came_next g k {limit} {u} {b} h c d f m = record {
  counts = h.counts ++ marks g d.owed ∷ [];
  leads = λ z. rw (append_assoc u (c ∷ []) z, seen_append g h.counts (marks g d.owed ∷ []) (exec g z d.owed d.made))
      (h.leads (c ∷ z) ∙ ap (λ (o : Option (State g)). seen g h.counts (go g (exec g z) (c ∷ z) o)) f);
  long = omega (arith, h.long, length-append h.counts (marks g d.owed ∷ []), length-append u (c ∷ []));
  good = k.good_step b.owed b.made c d f h.good;
  below = λ i l. below_last h.counts (marks g d.owed) limit h.below m i l;
}

passes : (g : Table) (k : Claims g) {limit : ℕ} {u : List g.Tok} {b : State g} → Came g k limit u b →
    (c : g.Tok) (d : State g) → step g b.owed b.made c ≡ Some d →
    limit < marks g d.owed → Passes (grammar_of g) limit u c
unfolding came_next
passes g k {limit} {u} {b} h c d f m =
    let long = came_next g k {limit = marks g d.owed} (record {
      counts = h.counts;
      leads = h.leads;
      long = h.long;
      good = h.good;
      below = λ i l. omega (arith, h.below i l);
    }) c d f (omega arith) in
    record {
      begins = came_begins g k long;
      number = marks g d.owed;
      holds = λ z t e.
          let n = g.opens ((u ++ c ∷ []) ++ z) t e in
          let a : seen g n (Done (g.tree t ∷ [])) ≡ seen g (h.counts ++ marks g d.owed ∷ []) (exec g z d.owed d.made) =
          sym (k.complete ((u ++ c ∷ []) ++ z) t e) ∙ long.leads z in
          let l : length u < length (h.counts ++ marks g d.owed ∷ []) =
          omega (arith, h.long, length-append h.counts (marks g d.owed ∷ [])) in
          seen_same g n (h.counts ++ marks g d.owed ∷ []) (g.tree t ∷ []) (exec g z d.owed d.made) a (length u) l ∙
          (ap (λ (i : ℕ). slice_index (h.counts ++ marks g d.owed ∷ []) i) (sym h.long)
          ∙ get_or-append_seam h.counts (marks g d.owed) [] 0);
      more = m;
    }

says_end : (g : Table) (k : Claims g) (limit : ℕ) (u : List g.Tok) (b : State g) → Came g k limit u b →
    (o : Option (List g.Val)) → finish g b.owed b.made ≡ o →
    Says g limit (u ++ []) (bounded g limit [] (at_end g o))
says_end g k limit u b h None f = rw append-nil (record {
  begins = came_begins g k h;
  none = λ (t, e).
      let q : seen g (g.opens u t e) (Done (g.tree t ∷ [])) ≡ seen g h.counts (Stop []) =
      sym (k.complete u t e) ∙ (ap (λ (x : List g.Tok). whole g x) (sym (append-nil u)) ∙
      (h.leads [] ∙ ap (λ (o : Option (List g.Val)). seen g h.counts (at_end g o)) f)) in
      two_ends g (g.opens u t e) h.counts (g.tree t ∷ []) [] q;
  within = none_passes g k h;
})
says_end g k limit u b h (Some vs) f =
    let q : whole g (u ++ []) ≡ seen g h.counts (Done vs) =
    h.leads [] ∙ ap (λ (o : Option (List g.Val)). seen g h.counts (at_end g o)) f in
    let s : Sound g (u ++ []) vs = k.sound (u ++ []) vs h.counts q in
    let n : NonePasses (grammar_of g) limit (u ++ []) = rw append-nil (none_passes g k h) in
    record { value = s.value; shape = s.shape; is = s.is; within = n }

says_more : (g : Table) (k : Claims g) (limit : ℕ) (u : List g.Tok) (c : g.Tok) (w : List g.Tok) →
    ((u : List g.Tok) (b : State g) → Came g k limit u b →
    Says g limit (u ++ w) (bounded g limit w (exec g w b.owed b.made))) →
    (b : State g) → Came g k limit u b → (d : State g) → step g b.owed b.made c ≡ Some d → (x : Bool) →
    nat_lt limit (marks g d.owed) ≡ x →
    Says g limit (u ++ c ∷ w) (if x then Passed (c ∷ w) else bounded g limit w (exec g w d.owed d.made))
says_more g k limit u c w next b h d f true e = (
  u,
  record {
    place = refl;
    passes = passes g k h c d f (ltb-true limit (marks g d.owed) e);
    within = none_passes g k h;
  },
)
says_more g k limit u c w next b h d f false e =
    let x : Says g limit ((u ++ c ∷ []) ++ w) (bounded g limit w (exec g w d.owed d.made)) =
    next (u ++ c ∷ []) d (came_next g k h c d f (ltb-false limit (marks g d.owed) e)) in
    rw append_assoc at x

says_at : (g : Table) (k : Claims g) (limit : ℕ) (u : List g.Tok) (c : g.Tok) (w : List g.Tok) →
    ((u : List g.Tok) (b : State g) → Came g k limit u b →
    Says g limit (u ++ w) (bounded g limit w (exec g w b.owed b.made))) →
    (b : State g) → Came g k limit u b → (o : Option (State g)) → step g b.owed b.made c ≡ o →
    Says g limit (u ++ c ∷ w) (bounded g limit (c ∷ w) (go g (exec g w) (c ∷ w) o))
says_at g k limit u c w next b h None f = (
  u,
  record {
    place = refl;
    before = came_begins g k h;
    with_it = λ (y, s).
        let e : whole g (u ++ c ∷ y) ≡ seen g (g.opens ((u ++ c ∷ []) ++ y) s.0 s.1) (Done (g.tree s.0 ∷ [])) =
        ap (λ (x : List g.Tok). whole g x) (sym (append_assoc u (c ∷ []) y))
        ∙ k.complete ((u ++ c ∷ []) ++ y) s.0 s.1 in
        let q : seen g (g.opens ((u ++ c ∷ []) ++ y) s.0 s.1) (Done (g.tree s.0 ∷ []))
        ≡ seen g h.counts (Stop (c ∷ y)) =
        sym e ∙ (h.leads (c ∷ y) ∙ ap (λ (o : Option (State g)). seen g h.counts (go g (exec g y) (c ∷ y) o)) f) in
        two_ends g (g.opens ((u ++ c ∷ []) ++ y) s.0 s.1) h.counts (g.tree s.0 ∷ []) (c ∷ y) q;
    within = none_passes g k h;
  },
)
says_at g k limit u c w next b h (Some d) f =
    says_more g k limit u c w next b h d f (nat_lt limit (marks g d.owed)) refl

says : (g : Table) (k : Claims g) (limit : ℕ) (w u : List g.Tok) (b : State g) → Came g k limit u b →
    Says g limit (u ++ w) (bounded g limit w (exec g w b.owed b.made))
says g k limit [] u b h = says_end g k limit u b h (finish g b.owed b.made) refl
says g k limit (c ∷ w) u b h = says_at g k limit u c w (says g k limit w) b h (step g b.owed b.made c) refl

-- the verdict says what it should
pub exact : (g : Table) (k : Claims g) (limit : ℕ) (w : List g.Tok) → Says g limit w (bounded g limit w (whole g w))
exact g k limit w = says g k limit w [] (record { owed = _; made = [] })
    (record { counts = []; leads = λ z. refl; long = refl; good = k.good_start; below = λ i h. omega arith })
