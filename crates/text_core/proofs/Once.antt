-- A text is cut in one way, and not at all where a fault stands; its first fault is one.
use Rattle.std.proofs.Common.{◌≡◌, ◌<◌, ℕ, ◌+◌, List, [], ◌∷◌, ◌++◌, length, drop, refl, sym, ◌∙◌, subst, arith}
use Rattle.text_core.specs.Tokens.{Tokens, Spells, s_word, s_plain, s_negative, s_sign, s_pair, IsGap, g_space}
use Rattle.text_core.specs.Tokens.{g_comment, Item, Gap, Spelling, Nothing, Next, n_gap, n_spelling, n_nothing, Cut}
use Rattle.text_core.specs.Tokens.{c_end, c_gap, c_token, Reaches, r_here, r_gap, r_token, Reason, Wrong, w_none}
use Rattle.text_core.specs.Tokens.{w_bounds, FirstWrong, HasSigns}
use Rattle.text_core.proofs.Items.{one_next}

-- an item is not empty
pub gap_long : (u r : List ℕ) → IsGap u r → 0 < length u
gap_long _ r (g_space b h) = omega arith
gap_long _ r (g_comment h l) = omega arith

pub spelling_long : (g : Tokens) (u : List ℕ) (k : g.Kind) → Spells g u k → 0 < length u
spelling_long g _ _ (s_word b s l h) = omega arith
spelling_long g _ _ (s_plain b s h) = omega arith
spelling_long g _ _ (s_negative b s h) = omega arith
spelling_long g _ _ (s_sign b k e) = omega arith
spelling_long g _ _ (s_pair b c k e) = omega arith

long_left : (u r : List ℕ) → u ++ r ≡ [] → 0 < length u → ⊥
long_left [] r e l = omega arith
long_left (b ∷ u) r e l = cc

at_end : (g : Tokens) (x : Item g.Kind) → Next g [] x → ⊥
at_end g x h = go [] x h refl
  where
    go : (s : List ℕ) (x : Item g.Kind) → Next g s x → s ≡ [] → ⊥
    go s _ (n_gap {u} {r} h) e = long_left u r e (gap_long u r h)
    go s _ (n_spelling {u} {r} {k} m l) e = long_left u r e (spelling_long g u k l.spells)
    go s _ (n_nothing z m f) e = z e

module _ (g : Tokens) (signs : HasSigns g) where
  -- what a cut begins with
  data Begun (i : ℕ) (s : List ℕ) (w : List g.Token) : Type 0 where
    b_end : s ≡ [] → w ≡ [] → Begun i s w
    b_gap : (n : ℕ) → Next g s (Gap n) → Cut g (i + n) (drop n s) w → Begun i s w
    b_token : (n : ℕ) (k : g.Kind) (v : List g.Token) → Next g s (Spelling k n) → g.Keeps k →
        Cut g (i + n) (drop n s) v → w ≡ g.token k i (i + n) ∷ v → Begun i s w

  begun : {i : ℕ} {s : List ℕ} {w : List g.Token} → Cut g i s w → Begun i s w
  begun c_end = b_end refl refl
  begun (c_gap {n} h c) = b_gap n h c
  begun (c_token {n} {k} {w} h q c) = b_token n k w h q c refl

  no_item : {s : List ℕ} {x : Item g.Kind} → Next g s x → s ≡ [] → ⊥
  no_item {s} {x} h e = at_end g x (subst (λ (t : List ℕ). Next g t x) e h)

  pub one_cut : {i : ℕ} {s : List ℕ} {w : List g.Token} → Cut g i s w → (v : List g.Token) → Cut g i s v → w ≡ v
  one_cut {i} {s} c_end v d = ends (begun d)
    where
      ends : Begun i [] v → [] ≡ v
      ends (b_end p q) = sym q
      ends (b_gap n h x) = absurd (no_item h refl)
      ends (b_token n k u h q x e) = absurd (no_item h refl)
  one_cut {i} {s} {w} (c_gap {n} h c) v d = gaps (one_cut c v) (begun d)
    where
      gaps : (Cut g (i + n) (drop n s) v → w ≡ v) → Begun i s v → w ≡ v
      gaps r (b_end p q) = absurd (no_item h p)
      gaps r (b_gap m o x) =
          let e = one_next g signs s (Gap n) (Gap m) h o in
          let f : m ≡ n = cc in r (subst (λ (a : ℕ). Cut g (i + a) (drop a s) v) f x)
      gaps r (b_token m k u o q x e) = let e = one_next g signs s (Gap n) (Spelling k m) h o in absurd (cc)
  one_cut {i} {s} (c_token {n} {k} {w} h q c) v d = tokens (one_cut c) (begun d)
    where
      tokens : ((u : List g.Token) → Cut g (i + n) (drop n s) u → w ≡ u) → Begun i s v → g.token k i (i + n) ∷ w ≡ v
      tokens r (b_end p e) = absurd (no_item h p)
      tokens r (b_gap m o x) = let e = one_next g signs s (Spelling k n) (Gap m) h o in absurd (cc)
      tokens r (b_token m j u o p x e) =
          let f = one_next g signs s (Spelling k n) (Spelling j m) h o in
          let a : m ≡ n = cc in
          let b : j ≡ k = cc in
          let y = r u (subst (λ (a : ℕ). Cut g (i + a) (drop a s) u) a x) in
          rw (y, ← a, ← b) (sym e)

  -- a cut goes on from each place that is reached
  record GoesOn (j : ℕ) (r : List ℕ) : Type 0 where
    tokens : List g.Token
    cut : Cut g j r tokens

  goes_on : {i j : ℕ} {s r : List ℕ} → Reaches g i s j r → (w : List g.Token) → Cut g i s w → GoesOn j r
  goes_on r_here w c = record { tokens = w; cut = c }
  goes_on {i} {j} {s} {r} (r_gap {n} h x) w c = gap (goes_on x) (begun c)
    where
      gap : ((v : List g.Token) → Cut g (i + n) (drop n s) v → GoesOn j r) → Begun i s w → GoesOn j r
      gap f (b_end p q) = absurd (no_item h p)
      gap f (b_gap m o y) =
          let e = one_next g signs s (Gap n) (Gap m) h o in
          let z : m ≡ n = cc in f w (subst (λ (a : ℕ). Cut g (i + a) (drop a s) w) z y)
      gap f (b_token m k u o q y e) = let e = one_next g signs s (Gap n) (Spelling k m) h o in absurd (cc)
  goes_on {i} {j} {s} {r} (r_token {n} {k} h q x) w c = token (goes_on x) (begun c)
    where
      token : ((v : List g.Token) → Cut g (i + n) (drop n s) v → GoesOn j r) → Begun i s w → GoesOn j r
      token f (b_end p e) = absurd (no_item h p)
      token f (b_gap m o y) = let e = one_next g signs s (Spelling k n) (Gap m) h o in absurd (cc)
      token f (b_token m l u o p y e) =
          let e = one_next g signs s (Spelling k n) (Spelling l m) h o in
          let z : m ≡ n = cc in f u (subst (λ (a : ℕ). Cut g (i + a) (drop a s) u) z y)

  not_cut : {j : ℕ} {r : List ℕ} {why : Reason} {n : ℕ} → Wrong g r why n → (w : List g.Token) → Cut g j r w → ⊥
  not_cut {j} (w_none {s} h) w c = none (begun c)
    where
      none : Begun j s w → ⊥
      none (b_end p e) = no_item h p
      none (b_gap m o y) = let e = one_next g signs s Nothing (Gap m) h o in cc
      none (b_token m l u o p y e) = let e = one_next g signs s Nothing (Spelling l m) h o in cc
  not_cut {j} (w_bounds {s} {k} {n} h f) w c = large (begun c)
    where
      large : Begun j s w → ⊥
      large (b_end p e) = no_item h p
      large (b_gap m o y) = let e = one_next g signs s (Spelling k n) (Gap m) h o in cc
      large (b_token m l u o p y e) =
          let z = one_next g signs s (Spelling k n) (Spelling l m) h o in
          let q : l ≡ k = cc in f (subst (λ (x : g.Kind). g.Keeps x) q p)

  -- a cut text has no fault
  pub cut_or_wrong : (text : List ℕ) (w : List g.Token) (why : Reason) (start end : ℕ) → Cut g 0 text w →
      FirstWrong g text why start end → ⊥
  cut_or_wrong text w why start end c f = let o = goes_on f.reached w c in not_cut f.wrong o.tokens o.cut

  -- two things that are wrong at one place
  record SameWrong (why : Reason) (n : ℕ) (why' : Reason) (m : ℕ) : Type 0 where
    reason : why ≡ why'
    length : n ≡ m

  same_wrong : {r : List ℕ} {why why' : Reason} {n m : ℕ} → Wrong g r why n → Wrong g r why' m → SameWrong why n why' m
  same_wrong (w_none h) (w_none k) = record { reason = refl; length = refl }
  same_wrong (w_none {s} h) (w_bounds {k} {n} o f) =
      let e = one_next g signs s Nothing (Spelling k n) h o in absurd (cc)
  same_wrong (w_bounds {s} {k} {n} o f) (w_none h) =
      let e = one_next g signs s Nothing (Spelling k n) h o in absurd (cc)
  same_wrong (w_bounds {s} {k} {n} o f) (w_bounds {k = l} {n = m} p q) =
      let e = one_next g signs s (Spelling k n) (Spelling l m) o p in record { reason = refl; length = cc }

  -- what is reached with something wrong there, from a place with something wrong there, is that place
  record SamePlace (i : ℕ) (s : List ℕ) (j : ℕ) (r : List ℕ) : Type 0 where
    place : i ≡ j
    rest : s ≡ r

  stays : {i j : ℕ} {s r : List ℕ} {why : Reason} {n : ℕ} → Wrong g s why n → Reaches g i s j r → SamePlace i s j r
  stays h r_here = record { place = refl; rest = refl }
  stays (w_none {s} h) (r_gap {n = m} o x) = let e = one_next g signs s Nothing (Gap m) h o in absurd (cc)
  stays (w_none {s} h) (r_token {n = m} {k = l} o p x) =
      let e = one_next g signs s Nothing (Spelling l m) h o in absurd (cc)
  stays (w_bounds {s} {k} {n} h f) (r_gap {n = m} o x) =
      let e = one_next g signs s (Spelling k n) (Gap m) h o in absurd (cc)
  stays (w_bounds {s} {k} {n} h f) (r_token {n = m} {k = l} o p x) =
      let e = one_next g signs s (Spelling k n) (Spelling l m) h o in
      let q : l ≡ k = cc in absurd (f (subst (λ (y : g.Kind). g.Keeps y) q p))

  -- what a way to another place begins with
  data Leads (i : ℕ) (s : List ℕ) (j : ℕ) (r : List ℕ) : Type 0 where
    l_here : SamePlace i s j r → Leads i s j r
    l_gap : (n : ℕ) → Next g s (Gap n) → Reaches g (i + n) (drop n s) j r → Leads i s j r
    l_token : (n : ℕ) (k : g.Kind) → Next g s (Spelling k n) → Reaches g (i + n) (drop n s) j r → Leads i s j r

  leads : {i j : ℕ} {s r : List ℕ} → Reaches g i s j r → Leads i s j r
  leads r_here = l_here (record { place = refl; rest = refl })
  leads (r_gap {n} h x) = l_gap n h x
  leads (r_token {n} {k} h p x) = l_token n k h x

  here_only : {i j j' : ℕ} {s r r' : List ℕ} {why : Reason} {n : ℕ} → SamePlace i s j' r' → Wrong g r' why n →
      Reaches g i s j r → SamePlace j r j' r'
  here_only {s} {why} {n} e k x =
      let f = stays (subst (λ (z : List ℕ). Wrong g z why n) (sym e.rest) k) x in
      record { place = sym f.place ∙ e.place; rest = sym f.rest ∙ e.rest }

  one_place : {i j j' : ℕ} {s r r' : List ℕ} {why why' : Reason} {n n' : ℕ} → Reaches g i s j r → Wrong g r why n →
      Reaches g i s j' r' → Wrong g r' why' n' → SamePlace j r j' r'
  one_place r_here h y k = stays h y
  one_place {i} {j} {j'} {s} {r} {r'} (r_gap {n} o x) h y k = gap (λ z. one_place x h z k) (leads y)
    where
      gap : (Reaches g (i + n) (drop n s) j' r' → SamePlace j r j' r') → Leads i s j' r' → SamePlace j r j' r'
      gap f (l_here e) = here_only e k (r_gap o x)
      gap f (l_gap m p z) =
          let e = one_next g signs s (Gap n) (Gap m) o p in
          let q : m ≡ n = cc in f (subst (λ (a : ℕ). Reaches g (i + a) (drop a s) j' r') q z)
      gap f (l_token m l p z) = let e = one_next g signs s (Gap n) (Spelling l m) o p in absurd (cc)
  one_place {i} {j} {j'} {s} {r} {r'} (r_token {n} {k = kind} o b x) h y k = token (λ z. one_place x h z k) (leads y)
    where
      token : (Reaches g (i + n) (drop n s) j' r' → SamePlace j r j' r') → Leads i s j' r' → SamePlace j r j' r'
      token f (l_here e) = here_only e k (r_token o b x)
      token f (l_gap m p z) = let e = one_next g signs s (Spelling kind n) (Gap m) o p in absurd (cc)
      token f (l_token m l p z) =
          let e = one_next g signs s (Spelling kind n) (Spelling l m) o p in
          let q : m ≡ n = cc in f (subst (λ (a : ℕ). Reaches g (i + a) (drop a s) j' r') q z)

  -- two first faults are equal
  pub record SameFault (why : Reason) (start end : ℕ) (why' : Reason) (start' end' : ℕ) : Type 0 where
    pub reason : why ≡ why'
    pub starts : start ≡ start'
    pub ends : end ≡ end'

  pub one_wrong : (text : List ℕ) (why : Reason) (start end : ℕ) (why' : Reason) (start' end' : ℕ) →
      FirstWrong g text why start end → FirstWrong g text why' start' end' →
      SameFault why start end why' start' end'
  one_wrong text why start end why' start' end' f h =
      let p = one_place f.reached f.wrong h.reached h.wrong in
      let w = same_wrong f.wrong (subst (λ (z : List ℕ). Wrong g z why' h.length) (sym p.rest) h.wrong) in
      record { reason = w.reason; starts = p.place; ends = f.ends ∙ (omega (arith, p.place, w.length) ∙ sym h.ends) }
