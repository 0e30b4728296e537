-- What an instance owes, line by line, and that it is then exact.
use Rattle.std.proofs.Common.{◌≡◌, ℕ, ◌<◌, ◌≤◌, List, [], ◌∷◌, ◌++◌, refl, ◌∙◌, ap, subst, append_assoc, Option, Some}
use Rattle.std.proofs.Common.{None, Bool, true, false, arith, nat_lt, if◌then◌else◌}
use Rattle.std.proofs.lemmas.List.{append-nil}
use Rattle.std.proofs.lemmas.Bool.{ltb-false, le-ltb}
use Rattle.text_core.specs.Table.{Tm, Nt, Do, Mark, Table, Stack, State, step, finish, Outcome, Done, Seen, seen}
use Rattle.text_core.specs.Table.{marks, at_end, go, exec, whole, on_line, then_more, bounded}
use Rattle.text_core.specs.Verdicts.{Says}
use Rattle.text_core.proofs.Claims.{Claims, Sound}
use Rattle.text_core.proofs.Reading.{do_now, mark_now, seen_append}
use Rattle.text_core.proofs.Assembly.{exact}

-- Soundness. `Is k c`: the token c is one of the class k. `Sem n vs w us`: the tokens w are of the line n, and take
-- the values vs to us.
pub record Meaning (g : Table) : Type 1 where
  pub Is : g.Class → g.Tok → Type 0
  pub Sem : g.Line → List g.Val → List g.Tok → List g.Val → Type 0

pub data Matches (g : Table) (m : Meaning g) : Stack g → List g.Val → List g.Tok → List g.Val → Type 0 where
  m_end : {vs : List g.Val} → Matches g m [] vs [] vs
  m_tm : {k : g.Class} {s : Stack g} {vs r : List g.Val} {w : List g.Tok} {c : g.Tok} → m.Is k c →
      Matches g m s (g.value c ∷ vs) w r → Matches g m (Tm k ∷ s) vs (c ∷ w) r
  m_nt : {n : g.Line} {s : Stack g} {vs us r : List g.Val} {u w : List g.Tok} → m.Sem n vs u us →
      Matches g m s us w r → Matches g m (Nt n ∷ s) vs (u ++ w) r
  m_do : {a : g.Act} {s : Stack g} {vs r : List g.Val} {w : List g.Tok} → Matches g m s (g.act a vs) w r →
      Matches g m (Do a ∷ s) vs w r
  m_mark : {s : Stack g} {vs r : List g.Val} {w : List g.Tok} → Matches g m s vs w r → Matches g m (Mark ∷ s) vs w r

-- moved along an equation of the tokens
pub along : (g : Table) (m : Meaning g) {s : Stack g} {vs r : List g.Val} {u w : List g.Tok} → u ≡ w →
    Matches g m s vs u r → Matches g m s vs w r
along g m {s} {vs} {r} e x = subst (λ (y : List g.Tok). Matches g m s vs y r) e x

-- over values that are equal
pub with_values : (g : Table) (m : Meaning g) {s : Stack g} {vs us r : List g.Val} {w : List g.Tok} → vs ≡ us →
    Matches g m s vs w r → Matches g m s us w r
with_values g m {s} {r} {w} e x = subst (λ (y : List g.Val). Matches g m s y w r) e x

-- what is known of a line after a first token
abbrev pub Row : (g : Table) → Meaning g → g.Line → g.Tok → Option (Stack g) → Type 0
Row g m n c None = Unit {0}
Row g m n c (Some rhs) = (s : Stack g) (vs r : List g.Val) (w : List g.Tok) →
    Matches g m (rhs ++ s) (g.value c ∷ vs) w r → Matches g m (Nt n ∷ s) vs (c ∷ w) r

-- a row of a line n that goes on as the line l does, and then with k
pub more_row : (g : Table) (m : Meaning g) (l n : g.Line) (c : g.Tok) (k : Stack g) →
    ((s : Stack g) (vs r : List g.Val) (w : List g.Tok) → Matches g m (Nt l ∷ (k ++ s)) vs w r →
    Matches g m (Nt n ∷ s) vs w r) →
    (o : Option (Stack g)) → Row g m l c o → Row g m n c (then_more o k)
more_row g m l n c k f None h = tt
more_row g m l n c k f (Some rhs) h = λ s vs r w x.
    f s vs r (c ∷ w)
    (h (k ++ s) vs r w (subst (λ (y : Stack g). Matches g m y (g.value c ∷ vs) w r) (append_assoc rhs k s) x))

-- Completion. A number for each line and token: what may follow a line that is owed has at least the line's number.
pub record Filling (g : Table) : Type 0 where
  pub token : g.Class → g.Tok
  pub least : g.Line → List g.Tok
  pub level : g.Tok → ℕ
  pub wants : g.Line → ℕ

abbrev pub both : Bool → Bool → Bool
both true b = b
both false b = false

-- the number of the first token of a list
abbrev pub first_level : (g : Table) → Filling g → List g.Tok → ℕ
first_level g f [] = 0
first_level g f (c ∷ w) = f.level c

-- the number of the first token of what completes s, where what comes after s has the number e
abbrev pub level_of : (g : Table) → Filling g → Stack g → ℕ → ℕ
level_of g f [] e = e
level_of g f (Tm k ∷ s) e = f.level (f.token k)
level_of g f (Nt n ∷ s) e = if g.may_end n then level_of g f s e else first_level g f (f.least n)
level_of g f (Do a ∷ s) e = level_of g f s e
level_of g f (Mark ∷ s) e = level_of g f s e

abbrev pub good : (g : Table) → Filling g → Stack g → ℕ → Bool
good g f [] e = true
good g f (Nt n ∷ s) e = both (if nat_lt (level_of g f s e) (f.wants n) then false else true) (good g f s e)
good g f (Tm k ∷ s) e = good g f s e
good g f (Do a ∷ s) e = good g f s e
good g f (Mark ∷ s) e = good g f s e

abbrev pub good_row : (g : Table) → Filling g → g.Line → Option (Stack g) → Bool
good_row g f n None = true
good_row g f n (Some rhs) = good g f rhs (f.wants n)

abbrev pub is_none : {A : Type 0} → Option A → Bool
is_none None = true
is_none (Some x) = false

-- a line that may end is passed over at a token that may follow it
abbrev pub quiet_row : (g : Table) → Filling g → g.Line → g.Tok → Bool
quiet_row g f n c =
    if g.may_end n then (if nat_lt (f.level c) (f.wants n) then true else is_none (g.after n c)) else true

abbrev pub AtLeast : (g : Table) → Filling g → ℕ → List g.Tok → Type 0
AtLeast g f n [] = Unit {0}
AtLeast g f n (c ∷ w) = n ≤ f.level c

-- the least tokens of a line are read, and leave the rest
pub record Least (g : Table) (n : g.Line) (u w : List g.Tok) (s : Stack g) (vs : List g.Val) : Type 0 where
  pub made : List g.Val
  pub counts : List ℕ
  pub leads : exec g (u ++ w) (Nt n ∷ s) vs ≡ seen g counts (exec g w s made)

pub record Rules (g : Table) : Type 1 where
  pub complete : (w : List g.Tok) (t : g.Tree) (e : g.Shape w t) →
      whole g w ≡ seen g (g.opens w t e) (Done (g.tree t ∷ []))
  pub same_tree : (t r : g.Tree) → g.tree t ≡ g.tree r → t ≡ r
  pub meaning : Meaning g
  pub is : (k : g.Class) (c : g.Tok) → g.fits k c ≡ true → meaning.Is k c
  pub empty : (n : g.Line) → g.may_end n ≡ true → (vs : List g.Val) → meaning.Sem n vs [] vs
  pub row : (n : g.Line) (c : g.Tok) → Row g meaning n c (g.after n c)
  pub shape : (w : List g.Tok) (r : List g.Val) → meaning.Sem g.first [] w r → Sound g w r
  pub filling : Filling g
  pub fits : (k : g.Class) → g.fits k (filling.token k) ≡ true
  pub goods : (n : g.Line) (c : g.Tok) → good_row g filling n (g.after n c) ≡ true
  pub quiet : (n : g.Line) (c : g.Tok) → quiet_row g filling n c ≡ true
  pub least : (n : g.Line) → g.may_end n ≡ false → (w : List g.Tok) → AtLeast g filling (filling.wants n) w →
      (s : Stack g) (vs : List g.Val) → Least g n (filling.least n) w s vs
  pub wanted : (n : g.Line) → 0 < filling.wants n

-- one step, backwards
back : (g : Table) (k : Rules g) (s : Stack g) (vs : List g.Val) (c : g.Tok) (b : State g) → step g s vs c ≡ Some b →
    (r : List g.Val) (w : List g.Tok) →
    Matches g k.meaning b.owed b.made w r → Matches g k.meaning s vs (c ∷ w) r
back g k [] vs c b e r w m = absurd (cc)
back g k (Tm l ∷ s) vs c b e r w m = terminal (g.fits l c) refl e
  where
    terminal : (x : Bool) → g.fits l c ≡ x → (if x then Some (record { owed = s; made = g.value c ∷ vs }) else None)
        ≡ Some b → Matches g k.meaning (Tm l ∷ s) vs (c ∷ w) r
    terminal true f q =
        let p : b ≡ record { owed = s; made = g.value c ∷ vs } = cc in
        m_tm (k.is l c f) (subst (λ (x : State g). Matches g k.meaning x.owed x.made w r) p m)
    terminal false f q = absurd (cc)
back g k (Nt n ∷ s) vs c b e r w m = line (g.after n c) (k.row n c) (g.may_end n) refl (back g k s vs c b) e
  where
    line : (o : Option (Stack g)) → Row g k.meaning n c o → (x : Bool) → g.may_end n ≡ x →
        (step g s vs c ≡ Some b → (r : List g.Val) (w : List g.Tok) → Matches g k.meaning b.owed b.made w r →
        Matches g k.meaning s vs (c ∷ w) r) →
        on_line g o s vs c (if x then step g s vs c else None) ≡ Some b → Matches g k.meaning (Nt n ∷ s) vs (c ∷ w) r
    line (Some rhs) h x f ih q =
        let p : b ≡ record { owed = rhs ++ s; made = g.value c ∷ vs } = cc in
        h s vs r w (subst (λ (x : State g). Matches g k.meaning x.owed x.made w r) p m)
    line None h true f ih q = m_nt {u = []} (k.empty n f vs) (ih q r w m)
    line None h false f ih q = absurd (cc)
back g k (Do a ∷ s) vs c b e r w m = m_do (back g k s (g.act a vs) c b e r w m)
back g k (Mark ∷ s) vs c b e r w m = m_mark (back g k s vs c b e r w m)

ends : (g : Table) (k : Rules g) (s : Stack g) (vs r : List g.Val) → finish g s vs ≡ Some r →
    Matches g k.meaning s vs [] r
ends g k [] vs r e = let q : vs ≡ r = cc in subst (λ (x : List g.Val). Matches g k.meaning [] vs [] x) q m_end
ends g k (Tm l ∷ s) vs r e = absurd (cc)
ends g k (Nt n ∷ s) vs r e = by_end (g.may_end n) refl (ends g k s vs r) e
  where
    by_end : (x : Bool) → g.may_end n ≡ x → (finish g s vs ≡ Some r → Matches g k.meaning s vs [] r) →
        (if x then finish g s vs else None) ≡ Some r → Matches g k.meaning (Nt n ∷ s) vs [] r
    by_end true f ih e = m_nt {u = []} (k.empty n f vs) (ih e)
    by_end false f ih e = absurd (cc)
ends g k (Do a ∷ s) vs r e = m_do (ends g k s (g.act a vs) r e)
ends g k (Mark ∷ s) vs r e = m_mark (ends g k s vs r e)

one_end : (g : Table) (ns : List ℕ) (o : Option (List g.Val)) (r : List g.Val) → at_end g o ≡ seen g ns (Done r) →
    o ≡ Some r
one_end g [] (Some x) r e = cc
one_end g [] None r e = absurd (cc)
one_end g (n ∷ ns) (Some x) r e = absurd (cc)
one_end g (n ∷ ns) None r e = absurd (cc)

matched : (g : Table) (k : Rules g) (w : List g.Tok) (s : Stack g) (vs r : List g.Val) (ns : List ℕ) →
    exec g w s vs ≡ seen g ns (Done r) → Matches g k.meaning s vs w r
matched g k [] s vs r ns e = ends g k s vs r (one_end g ns (finish g s vs) r e)
matched g k (c ∷ w) s vs r ns e = by_step (step g s vs c) refl (λ b. matched g k w b.owed b.made r) ns e
  where
    by_step : (o : Option (State g)) → step g s vs c ≡ o →
        ((b : State g) (ns : List ℕ) → exec g w b.owed b.made ≡ seen g ns (Done r) →
        Matches g k.meaning b.owed b.made w r) →
        (ns : List ℕ) → go g (exec g w) (c ∷ w) o ≡ seen g ns (Done r) → Matches g k.meaning s vs (c ∷ w) r
    by_step None f ih [] e = absurd (cc)
    by_step None f ih (n ∷ ns) e = absurd (cc)
    by_step (Some b) f ih [] e = absurd (cc)
    by_step (Some b) f ih (n ∷ ns) e =
        let q : exec g w b.owed b.made ≡ seen g ns (Done r) = cc in back g k s vs c b f r w (ih b ns q)

sound : (g : Table) (k : Rules g) (w : List g.Tok) (vs : List g.Val) (ns : List ℕ) → whole g w ≡ seen g ns (Done vs) →
    Sound g w vs
sound g k w vs ns e = by_match w (Nt g.first ∷ []) [] vs refl refl (matched g k w (Nt g.first ∷ []) [] vs ns e)
  where
    last : (s : Stack g) (us : List g.Val) (w : List g.Tok) (r : List g.Val) → s ≡ [] → Matches g k.meaning s us w r →
        (u : List g.Tok) → k.meaning.Sem g.first [] u us → Sound g (u ++ w) r
    last _ us _ _ e m_end u h = rw append-nil (k.shape u us h)
    last _ us _ r e (m_tm x m) u h = absurd (cc)
    last _ us _ r e (m_nt x m) u h = absurd (cc)
    last _ us _ r e (m_do m) u h = absurd (cc)
    last _ us _ r e (m_mark m) u h = absurd (cc)

    by_match : (w : List g.Tok) (s : Stack g) (us r : List g.Val) → s ≡ Nt g.first ∷ [] → us ≡ [] →
        Matches g k.meaning s us w r → Sound g w r
    by_match _ _ us _ e f m_end = absurd (cc)
    by_match _ _ us r e f (m_tm x m) = absurd (cc)
    by_match _ _ us r e f (m_nt {n} {s} {us = vs} {u} {w} x m) =
        let p : n ≡ g.first = cc in
        let q : s ≡ [] = cc in
        last s vs w r q m u
        (subst (λ (l : g.Line). k.meaning.Sem l [] u vs) p
        (subst (λ (y : List g.Val). k.meaning.Sem n y u vs) f x))
    by_match _ _ us r e f (m_do m) = absurd (cc)
    by_match _ _ us r e f (m_mark m) = absurd (cc)

-- what completes a stack
abbrev pub fill : (g : Table) → Filling g → Stack g → List g.Tok
fill g f [] = []
fill g f (Tm k ∷ s) = f.token k ∷ fill g f s
fill g f (Nt n ∷ s) = if g.may_end n then fill g f s else (f.least n ++ fill g f s)
fill g f (Do a ∷ s) = fill g f s
fill g f (Mark ∷ s) = fill g f s

pub record Filled' (g : Table) (k : Rules g) (s : Stack g) (vs : List g.Val) : Type 0 where
  pub made : List g.Val
  pub counts : List ℕ
  pub done : exec g (fill g k.filling s) s vs ≡ seen g counts (Done made)

both_left : (a b : Bool) → both a b ≡ true → a ≡ true
both_left true b e = refl
both_left false b e = absurd (cc)

both_right : (a b : Bool) → both a b ≡ true → b ≡ true
both_right true b e = e
both_right false b e = absurd (cc)

both_true : (a b : Bool) → a ≡ true → b ≡ true → both a b ≡ true
both_true a b e f = rw (e, f) refl

not_less : (a b : ℕ) → (if nat_lt a b then false else true) ≡ true → b ≤ a
not_less a b e = by_test (nat_lt a b) refl e
  where
    by_test : (x : Bool) → nat_lt a b ≡ x → (if x then false else true) ≡ true → b ≤ a
    by_test true f e = absurd (cc)
    by_test false f e = ltb-false a b f

less_not : (a b : ℕ) → b ≤ a → (if nat_lt a b then false else true) ≡ true
less_not a b h = rw (le-ltb a b h) refl

level_more : (g : Table) (f : Filling g) (s : Stack g) (a b : ℕ) → a ≤ b → level_of g f s a ≤ level_of g f s b
level_more g f [] a b h = h
level_more g f (Tm k ∷ s) a b h = omega arith
level_more g f (Nt n ∷ s) a b h = by_end (first_level g f (f.least n)) (g.may_end n) (level_more g f s a b h)
  where
    by_end : (l : ℕ) (x : Bool) → level_of g f s a ≤ level_of g f s b →
        (if x then level_of g f s a else l) ≤ (if x then level_of g f s b else l)
    by_end l true i = i
    by_end l false i = omega arith
level_more g f (Do x ∷ s) a b h = level_more g f s a b h
level_more g f (Mark ∷ s) a b h = level_more g f s a b h

level_append : (g : Table) (f : Filling g) (s t : Stack g) (e : ℕ) →
    level_of g f (s ++ t) e ≡ level_of g f s (level_of g f t e)
level_append g f [] t e = refl
level_append g f (Tm k ∷ s) t e = refl
level_append g f (Nt n ∷ s) t e =
    ap (λ (i : ℕ). if g.may_end n then i else first_level g f (f.least n)) (level_append g f s t e)
level_append g f (Do x ∷ s) t e = level_append g f s t e
level_append g f (Mark ∷ s) t e = level_append g f s t e

good_append : (g : Table) (f : Filling g) (s t : Stack g) (a e : ℕ) → good g f s a ≡ true → a ≤ level_of g f t e →
    good g f t e ≡ true → good g f (s ++ t) e ≡ true
good_append g f [] t a e h l k = k
good_append g f (Tm c ∷ s) t a e h l k = good_append g f s t a e h l k
good_append g f (Nt n ∷ s) t a e h l k =
    let p : f.wants n ≤ level_of g f s a = not_less _ _ (both_left _ _ h) in
    let q : level_of g f s a ≤ level_of g f s (level_of g f t e) = level_more g f s a (level_of g f t e) l in
    let r : f.wants n ≤ level_of g f (s ++ t) e = omega (arith, p, q, level_append g f s t e) in
    both_true _ _ (less_not (level_of g f (s ++ t) e) (f.wants n) r) (good_append g f s t a e (both_right _ _ h) l k)
good_append g f (Do x ∷ s) t a e h l k = good_append g f s t a e h l k
good_append g f (Mark ∷ s) t a e h l k = good_append g f s t a e h l k

at_least_first : (g : Table) (f : Filling g) (w v : List g.Tok) (n : ℕ) → 0 < n → n ≤ first_level g f w →
    AtLeast g f n (w ++ v)
at_least_first g f [] v n p h = absurd (omega arith)
at_least_first g f (c ∷ w) v n p h = h

at_least : (g : Table) (f : Filling g) (s : Stack g) (n e : ℕ) → 0 < n → n ≤ level_of g f s e →
    AtLeast g f n (fill g f s)
at_least g f [] n e p h = tt
at_least g f (Tm k ∷ s) n e p h = h
at_least g f (Nt m ∷ s) n e p h = by_end (g.may_end m) (at_least g f s n e p) h
  where
    by_end : (x : Bool) → (n ≤ level_of g f s e → AtLeast g f n (fill g f s)) →
        n ≤ (if x then level_of g f s e else first_level g f (f.least m)) →
        AtLeast g f n (if x then fill g f s else (f.least m ++ fill g f s))
    by_end true i h = i h
    by_end false i h = at_least_first g f (f.least m) (fill g f s) n p h
at_least g f (Do a ∷ s) n e p h = at_least g f s n e p h
at_least g f (Mark ∷ s) n e p h = at_least g f s n e p h

pub silent : (g : Table) (f : Filling g) → ((n : g.Line) (c : g.Tok) → quiet_row g f n c ≡ true) → (n : g.Line) →
    g.may_end n ≡ true → (w : List g.Tok) → AtLeast g f (f.wants n) w →
    (s : Stack g) (vs : List g.Val) → exec g w (Nt n ∷ s) vs ≡ exec g w s vs
silent g f k n e [] h s vs = rw e refl
silent g f k n e (c ∷ w) h s vs =
    let q : (if nat_lt (f.level c) (f.wants n) then true else is_none (g.after n c)) ≡ true =
    (let x : quiet_row g f n c ≡ true = k n c in rw e at x) in
    let r : is_none (g.after n c) ≡ true = (rw (le-ltb (f.level c) (f.wants n) h) at q) in
    rw (none (g.after n c) r, e) refl
  where
    none : (o : Option (Stack g)) → is_none o ≡ true → o ≡ None
    none None e = refl
    none (Some x) e = absurd (cc)

filled : (g : Table) (k : Rules g) (e : ℕ) (s : Stack g) (vs : List g.Val) → good g k.filling s e ≡ true →
    Filled' g k s vs
filled g k e [] vs h = record { made = vs; counts = []; done = refl }
filled g k e (Tm l ∷ s) vs h =
    let i = filled g k e s (g.value (k.filling.token l) ∷ vs) h in
    record {
      made = i.made;
      counts = marks g s ∷ i.counts;
      done = rw (k.fits l) (ap (λ (o : Outcome g). Seen (marks g s) o) i.done);
    }
filled g k e (Nt n ∷ s) vs h = by_end (g.may_end n) refl (λ us. filled g k e s us (both_right _ _ h))
  where
    closes : AtLeast g k.filling (k.filling.wants n) (fill g k.filling s)
    closes = at_least g k.filling s (k.filling.wants n) e (k.wanted n) (not_less _ _ (both_left _ _ h))

    by_end : (x : Bool) → g.may_end n ≡ x → ((us : List g.Val) → Filled' g k s us) → Filled' g k (Nt n ∷ s) vs
    by_end true q ih = let i = ih vs in
        record {
          made = i.made;
          counts = i.counts;
          done = rw q (silent g k.filling k.quiet n q (fill g k.filling s) closes s vs ∙ i.done);
        }
    by_end false q ih =
        let l = k.least n q (fill g k.filling s) closes s vs in
        let i = ih l.made in
        record {
          made = i.made;
          counts = l.counts ++ i.counts;
          done = rw (q, seen_append g l.counts i.counts (Done i.made))
              (l.leads ∙ ap (λ (o : Outcome g). seen g l.counts o) i.done);
        }
filled g k e (Do a ∷ s) vs h =
    let i = filled g k e s (g.act a vs) h in
    record { made = i.made; counts = i.counts; done = do_now g (fill g k.filling s) a s vs ∙ i.done }
filled g k e (Mark ∷ s) vs h =
    let i = filled g k e s vs h in
    record { made = i.made; counts = i.counts; done = mark_now g (fill g k.filling s) s vs ∙ i.done }

good_step : (g : Table) (k : Rules g) (e : ℕ) (s : Stack g) (vs : List g.Val) (c : g.Tok) (b : State g) →
    step g s vs c ≡ Some b → good g k.filling s e ≡ true → good g k.filling b.owed e ≡ true
good_step g k e [] vs c b q h = absurd (cc)
good_step g k e (Tm l ∷ s) vs c b q h = by_fit (g.fits l c) q
  where
    by_fit : (x : Bool) → (if x then Some (record { owed = s; made = g.value c ∷ vs }) else None) ≡ Some b →
        good g k.filling b.owed e ≡ true
    by_fit true q =
        let p : record { owed = s; made = g.value c ∷ vs } ≡ b = cc in
        subst (λ (x : State g). good g k.filling x.owed e ≡ true) p h
    by_fit false q = absurd (cc)
good_step g k e (Nt n ∷ s) vs c b q h =
    by_row (g.after n c) (k.goods n c) (g.may_end n) (λ x. good_step g k e s vs c b x (both_right _ _ h)) q
  where
    by_row : (o : Option (Stack g)) → good_row g k.filling n o ≡ true → (x : Bool) →
        (step g s vs c ≡ Some b → good g k.filling b.owed e ≡ true) →
        on_line g o s vs c (if x then step g s vs c else None) ≡ Some b → good g k.filling b.owed e ≡ true
    by_row (Some rhs) r x ih q =
        let p : record { owed = rhs ++ s; made = g.value c ∷ vs } ≡ b = cc in
        subst (λ (y : State g). good g k.filling y.owed e ≡ true) p
        (good_append g k.filling rhs s (k.filling.wants n) e r (not_less _ _ (both_left _ _ h)) (both_right _ _ h))
    by_row None r true ih q = ih q
    by_row None r false ih q = absurd (cc)
good_step g k e (Do a ∷ s) vs c b q h = good_step g k e s (g.act a vs) c b q h
good_step g k e (Mark ∷ s) vs c b q h = good_step g k e s vs c b q h

pub claims_of : (g : Table) → Rules g → Claims g
claims_of g k = record {
  complete = k.complete;
  same_tree = k.same_tree;
  sound = λ w vs ns e. sound g k w vs ns e;
  Good = λ s. good g k.filling s (k.filling.wants g.first) ≡ true;
  good_start = both_true _ _ (less_not (k.filling.wants g.first) (k.filling.wants g.first) (omega arith)) refl;
  good_step = λ s vs c b e h. good_step g k (k.filling.wants g.first) s vs c b e h;
  filled = λ s vs h. let i = filled g k (k.filling.wants g.first) s vs h in
      record { rest = fill g k.filling s; counts = i.counts; made = i.made; done = i.done };
}

pub exact_by : (g : Table) (k : Rules g) (limit : ℕ) (w : List g.Tok) → Says g limit w (bounded g limit w (whole g w))
exact_by g k limit w = exact g (claims_of g k) limit w

-- one value on top of those below, of a line F
pub record Made (g : Table) {A : Type 0} (top : A → g.Val) (F : List g.Tok → A → Type 0) (w : List g.Tok)
    (vs us : List g.Val) : Type 0 where
  pub value : A
  pub whole : F w value
  pub is : us ≡ top value ∷ vs

-- the tokens w make of each F before them a G
abbrev pub Extends : (g : Table) {A : Type 0} (top : A → g.Val) (F G : List g.Tok → A → Type 0) (w : List g.Tok)
    (vs us : List g.Val) → Type 0
Extends g {A} top F G w vs us =
    (u : List g.Tok) (a : A) (below : List g.Val) → vs ≡ top a ∷ below → F u a → Made g top G (u ++ w) below us

pub moved : (g : Table) {A : Type 0} (top : A → g.Val) (F : List g.Tok → A → Type 0) {u w : List g.Tok}
    {vs us : List g.Val} → Made g top F u vs us → u ≡ w → Made g top F w vs us
moved g top F m e = record { value = m.value; whole = subst (λ (x : List g.Tok). F x m.value) e m.whole; is = m.is }
