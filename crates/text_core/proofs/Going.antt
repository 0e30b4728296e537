-- Steps of the reading functions, over any table.
use Rattle.std.proofs.Common.{◌≡◌, ℕ, zero, suc, ◌+◌, ◌<◌, ◌≤◌, List, [], ◌∷◌, ◌++◌, length, slice_get, drop, refl}
use Rattle.std.proofs.Common.{sym, ◌∙◌, ap, subst, append_assoc, Option, Some, None, arith, Bool, true, false}
use Rattle.std.proofs.Common.{if◌then◌else◌, add-one, drop-cons}
use Rattle.std.proofs.lemmas.Option.{slice_get_within, get_or_from_slice_get}
use Rattle.std.proofs.Math.ListN.{drop_of_length-le}
use Rattle.std.proofs.lemmas.Bool.{lt-ltb, le-ltb}
use Rattle.text_core.specs.Table.{Table, Tm, Nt, Do, Mark, Stack, step, Verdict, Unexpected, Passed, exec, bounded}
use Rattle.text_core.specs.Table.{marks, Outcome, then_more}
use Rattle.text_core.specs.Going.{verdict, Goes, Stops, Lacks, at_the_end, other, next_of}
use Rattle.text_core.proofs.Reading.{do_now, mark_now}

pub next_is : {A : Type 0} (ts : List A) (i : ℕ) (t : A) → slice_get ts i ≡ Some t → drop i ts ≡ t ∷ drop (i + 1) ts
next_is ts i t e =
    let h : i < length ts = slice_get_within ts i t e in
    rw (drop-cons ts i t h, get_or_from_slice_get ts i t t e, ← add-one i) refl

pub no_next : {A : Type 0} (ts : List A) (i : ℕ) → slice_get ts i ≡ None → drop i ts ≡ []
no_next {A} ts i e = drop_of_length-le ts (past ts i e)
  where
    past : (ts : List A) (i : ℕ) → slice_get ts i ≡ None → length ts ≤ i
    past [] i e = omega arith
    past (t ∷ ts) zero e = absurd (cc)
    past (t ∷ ts) (suc i) e = let h = past ts i e in omega arith

pub marks_append : (g : Table) (a b : Stack g) → marks g (a ++ b) ≡ marks g a + marks g b
marks_append g [] b = omega arith
marks_append g (Mark ∷ a) b = let h = marks_append g a b in omega arith
marks_append g (Tm k ∷ a) b = marks_append g a b
marks_append g (Nt n ∷ a) b = marks_append g a b
marks_append g (Do x ∷ a) b = marks_append g a b

-- a step within the limit, and one that passes it
taken : (g : Table) (limit : ℕ) (c : g.Tok) (w : List g.Tok) (s t : Stack g) (vs us : List g.Val) →
    step g s vs c ≡ Some (record { owed = t; made = us }) →
    marks g t ≤ limit → verdict g limit (c ∷ w) s vs ≡ verdict g limit w t us
taken g limit c w s t vs us e h = rw (e, le-ltb limit (marks g t) h) refl

passed : (g : Table) (limit : ℕ) (c : g.Tok) (w : List g.Tok) (s t : Stack g) (vs us : List g.Val) →
    step g s vs c ≡ Some (record { owed = t; made = us }) →
    limit < marks g t → verdict g limit (c ∷ w) s vs ≡ Passed (c ∷ w)
passed g limit c w s t vs us e h = rw (e, lt-ltb limit (marks g t) h) refl

refused : (g : Table) (limit : ℕ) (c : g.Tok) (w : List g.Tok) (s : Stack g) (vs : List g.Val) → step g s vs c ≡ None →
    verdict g limit (c ∷ w) s vs ≡ Unexpected (c ∷ w)
refused g limit c w s vs e = rw e refl

next_fits : (g : Table) (k : g.Class) (o : Option g.Tok) (c : g.Tok) → next_of g k o ≡ Some c →
    (o ≡ Some c) × (g.fits k c ≡ true)
next_fits g k None c e = absurd (cc)
next_fits g k (Some a) c e = by_fit (g.fits k a) refl e
  where
    by_fit : (x : Bool) → g.fits k a ≡ x → (if x then Some a else None) ≡ Some c →
        (Some a ≡ Some c) × (g.fits k c ≡ true)
    by_fit true f e = let q : a ≡ c = cc in (ap (λ (y : g.Tok). Some y) q, subst (λ (y : g.Tok). g.fits k y ≡ true) q f)
    by_fit false f e = absurd (cc)

pub is_next : (g : Table) (ts : List g.Tok) (i : ℕ) (k : g.Class) (c : g.Tok) → next_of g k (slice_get ts i) ≡ Some c →
    slice_get ts i ≡ Some c
is_next g ts i k c e = (next_fits g k (slice_get ts i) c e).0

pub is_of : (g : Table) (ts : List g.Tok) (i : ℕ) (k : g.Class) (c : g.Tok) → next_of g k (slice_get ts i) ≡ Some c →
    g.fits k c ≡ true
is_of g ts i k c e = (next_fits g k (slice_get ts i) c e).1

pub not_fits : (g : Table) (k : g.Class) (o : Option g.Tok) (c : g.Tok) → next_of g k o ≡ None → o ≡ Some c →
    g.fits k c ≡ false
not_fits g k o c e q = by_fit (g.fits k c) refl (subst (λ (x : Option g.Tok). next_of g k x ≡ None) q e)
  where
    by_fit : (x : Bool) → g.fits k c ≡ x → (if x then Some c else None) ≡ None → g.fits k c ≡ false
    by_fit true f h = absurd (cc)
    by_fit false f h = f

-- a line that takes only what is of the class k
pub lacks_all : (g : Table) (ts : List g.Tok) (i : ℕ) (k : g.Class) (n : g.Line) →
    ((c : g.Tok) → g.fits k c ≡ false → g.after n c ≡ None) → next_of g k (slice_get ts i) ≡ None → Lacks g ts i n
lacks_all g ts i k n h e = by_token (slice_get ts i) refl e
  where
    by_fit : (c : g.Tok) → slice_get ts i ≡ Some c → (x : Bool) → g.fits k c ≡ x →
        (if x then Some c else None) ≡ None → Lacks g ts i n
    by_fit c e true f q = absurd (cc)
    by_fit c e false f q = other c e (h c f)

    by_token : (o : Option g.Tok) → slice_get ts i ≡ o → next_of g k o ≡ None → Lacks g ts i n
    by_token None e q = at_the_end e
    by_token (Some c) e q = by_fit c e (g.fits k c) refl q

module _ (g : Table) (limit : ℕ) (ts : List g.Tok) (d : ℕ) where
  pub token_goes : (i : ℕ) (c : g.Tok) (k : g.Class) (rest : Stack g) (vs : List g.Val) → slice_get ts i ≡ Some c →
      g.fits k c ≡ true → marks g rest + d ≤ limit →
      Goes g limit ts d i (Tm k ∷ rest) vs (i + 1) rest (g.value c ∷ vs)
  token_goes i c k rest vs e f h = record {
    leads = λ s below q. rw (next_is ts i c e)
        (taken g limit c (drop (i + 1) ts) (Tm k ∷ (rest ++ s)) (rest ++ s) (vs ++ below) (g.value c ∷ (vs ++ below))
        (rw f refl) (omega (arith, marks_append g rest s, q, h)));
  }

  pub line_goes : (i : ℕ) (c : g.Tok) (n : g.Line) (rhs rest : Stack g) (vs : List g.Val) → slice_get ts i ≡ Some c →
      g.after n c ≡ Some rhs → marks g (rhs ++ rest) + d ≤ limit →
      Goes g limit ts d i (Nt n ∷ rest) vs (i + 1) (rhs ++ rest) (g.value c ∷ vs)
  line_goes i c n rhs rest vs e f h = record {
    leads = λ s below q. rw (next_is ts i c e)
        (taken g limit c (drop (i + 1) ts) (Nt n ∷ (rest ++ s)) ((rhs ++ rest) ++ s) (vs ++ below)
        (g.value c ∷ (vs ++ below)) (rw (f, append_assoc rhs rest s) refl)
        (omega (arith, marks_append g (rhs ++ rest) s, q, h)));
  }

  pub line_too_deep : (i : ℕ) (c : g.Tok) (n : g.Line) (rhs rest : Stack g) (vs : List g.Val) →
      slice_get ts i ≡ Some c → g.after n c ≡ Some rhs → limit < marks g (rhs ++ rest) + d →
      Stops g limit ts d i (Nt n ∷ rest) vs (Passed (drop i ts))
  line_too_deep i c n rhs rest vs e f h = record {
    leads = λ s below q. rw (next_is ts i c e)
        (passed g limit c (drop (i + 1) ts) (Nt n ∷ (rest ++ s)) ((rhs ++ rest) ++ s) (vs ++ below)
        (g.value c ∷ (vs ++ below)) (rw (f, append_assoc rhs rest s) refl)
        (omega (arith, marks_append g (rhs ++ rest) s, q, h)));
  }

  pub line_ends : (i : ℕ) (n : g.Line) (rest : Stack g) (vs : List g.Val) → g.may_end n ≡ true → Lacks g ts i n →
      Goes g limit ts d i (Nt n ∷ rest) vs i rest vs
  line_ends i n rest vs m (at_the_end e) = record { leads = λ s below q. rw (no_next ts i e, m) refl }
  line_ends i n rest vs m (other c e f) = record { leads = λ s below q. rw (next_is ts i c e, f, m) refl }

  pub line_lacks : (i : ℕ) (n : g.Line) (rest : Stack g) (vs : List g.Val) → g.may_end n ≡ false → Lacks g ts i n →
      Stops g limit ts d i (Nt n ∷ rest) vs (Unexpected (drop i ts))
  line_lacks i n rest vs m (at_the_end e) = record { leads = λ s below q. rw (no_next ts i e, m) refl }
  line_lacks i n rest vs m (other c e f) = record { leads = λ s below q. rw (next_is ts i c e, f, m) refl }

  pub token_misses : (i : ℕ) (k : g.Class) (rest : Stack g) (vs : List g.Val) → next_of g k (slice_get ts i) ≡ None →
      Stops g limit ts d i (Tm k ∷ rest) vs (Unexpected (drop i ts))
  token_misses i k rest vs e = by_token (slice_get ts i) refl e
    where
      by_fit : (c : g.Tok) → slice_get ts i ≡ Some c → (x : Bool) → g.fits k c ≡ x →
          (if x then Some c else None) ≡ None → Stops g limit ts d i (Tm k ∷ rest) vs (Unexpected (drop i ts))
      by_fit c e true f h = absurd (cc)
      by_fit c e false f h = record { leads = λ s below q. rw (next_is ts i c e, f) refl }

      by_token : (o : Option g.Tok) → slice_get ts i ≡ o → next_of g k o ≡ None →
          Stops g limit ts d i (Tm k ∷ rest) vs (Unexpected (drop i ts))
      by_token None e h = record { leads = λ s below q. rw (no_next ts i e) refl }
      by_token (Some c) e h = by_fit c e (g.fits k c) refl h

  pub token_taken : (i : ℕ) (c : g.Tok) (k : g.Class) (rest : Stack g) (vs : List g.Val) →
      next_of g k (slice_get ts i) ≡ Some c → marks g rest + d ≤ limit →
      Goes g limit ts d i (Tm k ∷ rest) vs (i + 1) rest (g.value c ∷ vs)
  token_taken i c k rest vs e h = token_goes i c k rest vs (is_next g ts i k c e) (is_of g ts i k c e) h

  pub do_goes : (i : ℕ) (a : g.Act) (rest : Stack g) (vs us : List g.Val) →
      ((below : List g.Val) → g.act a (vs ++ below) ≡ us ++ below) → Goes g limit ts d i (Do a ∷ rest) vs i rest us
  do_goes i a rest vs us h = record {
    leads = λ s below q. ap (λ (o : Outcome g). bounded g limit (drop i ts) o)
        (do_now g (drop i ts) a (rest ++ s) (vs ++ below)
        ∙ ap (λ (x : List g.Val). exec g (drop i ts) (rest ++ s) x) (h below));
  }

  pub mark_goes : (i : ℕ) (rest : Stack g) (vs : List g.Val) → Goes g limit ts d i (Mark ∷ rest) vs i rest vs
  mark_goes i rest vs =
      record {
        leads = λ s below q. ap (λ (o : Outcome g). bounded g limit (drop i ts) o)
            (mark_now g (drop i ts) (rest ++ s) (vs ++ below));
      }

  -- a call, with `rest` owed after it
  pub call_goes : {n i j : ℕ} {owed left : Stack g} (rest : Stack g) {us : List g.Val} (vs : List g.Val) →
      n ≡ marks g rest + d → Goes g limit ts n i owed [] j left us →
      Goes g limit ts d i (owed ++ rest) vs j (left ++ rest) (us ++ vs)
  call_goes {n} {i} {j} {owed} {left} rest {us} vs m h = record {
    leads = λ s below q.
        rw (append_assoc owed rest s, append_assoc left rest s, append_assoc us vs below)
        (h.leads (rest ++ s) (vs ++ below) (omega (arith, marks_append g rest s, q, m)));
  }

  pub call_stops : {n i : ℕ} {owed : Stack g} (rest : Stack g) (vs : List g.Val) {v : Verdict g} →
      n ≡ marks g rest + d → Stops g limit ts n i owed [] v → Stops g limit ts d i (owed ++ rest) vs v
  call_stops {n} {i} {owed} rest vs {v} m h =
      record {
        leads = λ s below q. rw (append_assoc owed rest s)
            (h.leads (rest ++ s) (vs ++ below) (omega (arith, marks_append g rest s, q, m)));
      }

  pub goes_to : {i j n : ℕ} {a b : Stack g} {x y : List g.Val} → j ≡ n → Goes g limit ts d i a x j b y →
      Goes g limit ts d i a x n b y
  goes_to {i} {j} {n} {a} {b} {x} {y} e h = subst (λ (z : ℕ). Goes g limit ts d i a x z b y) e h

  pub then_goes : {i j n : ℕ} {a b c : Stack g} {x y z : List g.Val} → Goes g limit ts d i a x j b y →
      Goes g limit ts d j b y n c z → Goes g limit ts d i a x n c z
  then_goes h k = record { leads = λ s below q. h.leads s below q ∙ k.leads s below q }

  pub then_stops : {i j : ℕ} {a b : Stack g} {x y : List g.Val} {v : Verdict g} → Goes g limit ts d i a x j b y →
      Stops g limit ts d j b y v → Stops g limit ts d i a x v
  then_stops h k = record { leads = λ s below q. h.leads s below q ∙ k.leads s below q }

  -- a line m goes on as the line n does, and then with k
  pub as_goes : (i : ℕ) (n m : g.Line) (k rest : Stack g) (c : g.Tok) (vs : List g.Val) → slice_get ts i ≡ Some c →
      (r : Stack g) → g.after n c ≡ Some r → g.after m c ≡ Some (r ++ k) →
      Goes g limit ts d i (Nt m ∷ rest) vs i (Nt n ∷ (k ++ rest)) vs
  as_goes i n m k rest c vs e r f h =
      record {
        leads = λ s below q. rw (next_is ts i c e, f, h)
            (rw (append_assoc r k (rest ++ s), append_assoc k rest s) refl);
      }

  -- the same where it is not known whether the line n begins
  pub as_any : (i : ℕ) (n m : g.Line) (k rest : Stack g) (vs : List g.Val) → g.may_end n ≡ false →
      g.may_end m ≡ false → ((c : g.Tok) → slice_get ts i ≡ Some c → g.after m c ≡ then_more (g.after n c) k) →
      Goes g limit ts d i (Nt m ∷ rest) vs i (Nt n ∷ (k ++ rest)) vs
  as_any i n m k rest vs p q h = by_token (slice_get ts i) refl
    where
      neither : Lacks g ts i m → Lacks g ts i n → Goes g limit ts d i (Nt m ∷ rest) vs i (Nt n ∷ (k ++ rest)) vs
      neither a b =
          record {
            leads = λ s below l. (line_lacks i m rest vs q a).leads s below l
                ∙ sym ((line_lacks i n (k ++ rest) vs p b).leads s below l);
          }

      by_row : (c : g.Tok) → slice_get ts i ≡ Some c → (o : Option (Stack g)) → g.after n c ≡ o →
          Goes g limit ts d i (Nt m ∷ rest) vs i (Nt n ∷ (k ++ rest)) vs
      by_row c e None f = neither (other c e (h c e ∙ ap (λ (o : Option (Stack g)). then_more o k) f)) (other c e f)
      by_row c e (Some r) f = as_goes i n m k rest c vs e r f (h c e ∙ ap (λ (o : Option (Stack g)). then_more o k) f)

      by_token : (o : Option g.Tok) → slice_get ts i ≡ o →
          Goes g limit ts d i (Nt m ∷ rest) vs i (Nt n ∷ (k ++ rest)) vs
      by_token None e = neither (at_the_end e) (at_the_end e)
      by_token (Some c) e = by_row c e (g.after n c) refl

  -- a line that goes on as a token of a class with k after it
  pub as_token : (i : ℕ) (n : g.Line) (w : g.Class) (k : Stack g) → g.may_end n ≡ false →
      ((c : g.Tok) → slice_get ts i ≡ Some c → g.after n c ≡ (if g.fits w c then Some k else None)) →
      Goes g limit ts d i (Nt n ∷ []) [] i (Tm w ∷ k) []
  as_token i n w k m h = by_next (slice_get ts i) refl
    where
      neither : Lacks g ts i n → next_of g w (slice_get ts i) ≡ None →
          Goes g limit ts d i (Nt n ∷ []) [] i (Tm w ∷ k) []
      neither l q =
          record {
            leads = λ s below r. (line_lacks i n [] [] m l).leads s below r
                ∙ sym ((token_misses i w k [] q).leads s below r);
          }

      by_fit : (c : g.Tok) → slice_get ts i ≡ Some c → (x : Bool) → g.fits w c ≡ x →
          g.after n c ≡ (if x then Some k else None) → Goes g limit ts d i (Nt n ∷ []) [] i (Tm w ∷ k) []
      by_fit c e true f q = record { leads = λ s below r. rw (next_is ts i c e, f, q) refl }
      by_fit c e false f q = neither (other c e q) (rw (e, f) refl)

      by_next : (o : Option g.Tok) → slice_get ts i ≡ o → Goes g limit ts d i (Nt n ∷ []) [] i (Tm w ∷ k) []
      by_next None e = neither (at_the_end e) (rw e refl)
      by_next (Some c) e = by_fit c e (g.fits w c) refl (h c e)
