-- A program has one line at most after so many steps, and its words are of the kinds of their types.
use Rattle.std.proofs.Common.{◌≡◌, ℕ, ◌+◌, ◌<◌, nat_eq, cond, Bool, true, false, List, [], ◌∷◌, length, map, Option}
use Rattle.std.proofs.Common.{Some, None, refl, sym, ap, ap₂, ◌∙◌, subst, arith, inl, inr, ◌⊎◌}
use Rattle.std.proofs.lemmas.Bool.{cases_order}
use Rattle.std.proofs.lemmas.Bool.Decides.{nat_tests}
use Rattle.std.proofs.lemmas.List.{length-map}
use Rattle.t_types.specs.Tree.{Ty, TFile, NoRegs, MoreRegs}
use Rattle.t_types.specs.Fits.{RegTypes, lookup}
use Rattle.t_terms.specs.declared.shown.Shown.{Shown}
use Rattle.t_terms.specs.declared.shown.Shown.TheVariants.{Int, Tuple, Label}
use Rattle.t_rules.specs.Known.{KnownAt}
use Rattle.t_rules.specs.Machine.{State, At, Spot, After}
use Rattle.t_rules.specs.LawsSound.{heap_of, regs_of, OneRun, OneKnown}
use Rattle.t_rules.specs.Erase.{EWord, ERegs, erase_blocks, erase_regs, erase_seq, erase_word}
use Rattle.t_rules.specs.Kinds.{HasKind, KnownWordsHaveKinds}
use Rattle.t_known.specs.Fitted.{RisesFrom}
use Rattle.t_machine.specs.Words.{shown_word}
use Rattle.t_trace.specs.Line.{line_text}
use Rattle.talc_core.specs.Traced.{AreOfKinds, HaveWords, LinesShowKinds, OneLine}

-- a file whose registers rise is told by the types that it gives
at_first : (r : ℕ) (t : Ty) (o : Option Ty) → cond (nat_eq r r) (Some t) o ≡ Some t
at_first r t o = let yes : nat_eq r r ≡ true = grind (arith, nat_tests) in ap (λ (b : Bool). cond b (Some t) o) yes

at_other : (r p : ℕ) (t : Ty) (o : Option Ty) → (r ≡ p → ⊥) → cond (nat_eq r p) (Some t) o ≡ o
at_other r p t o apart = go (nat_eq r p) refl
  where
    go : (b : Bool) → nat_eq r p ≡ b → cond b (Some t) o ≡ o
    go true e = absurd (apart (grind (arith, nat_tests, e)))
    go false e = refl

none_below : (f : TFile) (low p : ℕ) → RisesFrom low f → p < low → lookup f p ≡ None
none_below NoRegs low p h lt = refl
none_below (MoreRegs r t f) low p h lt =
    let le = h.0 in
    at_other r p t (lookup f p) (λ e. omega (arith, e, le, lt)) ∙ none_below f (r + 1) p h.1 (omega (arith, le, lt))

abbrev Same : TFile → TFile → Type 0
Same f g = (q : ℕ) → lookup f q ≡ lookup g q

first_same : (r q : ℕ) (t u : Ty) (f g : TFile) → RisesFrom (r + 1) f → RisesFrom (q + 1) g →
    Same (MoreRegs r t f) (MoreRegs q u g) → r ≡ q
first_same r q t u f g h k same = by_order (cases_order r q)
  where
    by_order : (r ≡ q) ⊎ ((r < q) ⊎ (q < r)) → r ≡ q
    by_order (inl e) = e
    by_order (inr (inl lt)) =
        let a : Some t ≡ None = sym (at_first r t (lookup f r)) ∙ same r
        ∙ at_other q r u (lookup g r) (λ e. omega (arith, e, lt)) ∙ none_below g (q + 1) r k (omega (arith, lt)) in
        absurd (cc)
    by_order (inr (inr lt)) =
        let a : Some u ≡ None = sym (at_first q u (lookup g q)) ∙ sym (same q)
        ∙ at_other r q t (lookup f q) (λ e. omega (arith, e, lt)) ∙ none_below f (r + 1) q h (omega (arith, lt)) in
        absurd (cc)

rest_same : (r : ℕ) (t u : Ty) (f g : TFile) → RisesFrom (r + 1) f → RisesFrom (r + 1) g →
    Same (MoreRegs r t f) (MoreRegs r u g) → Same f g
rest_same r t u f g h k same p = by_order (cases_order r p)
  where
    by_order : (r ≡ p) ⊎ ((r < p) ⊎ (p < r)) → lookup f p ≡ lookup g p
    by_order (inl e) = none_below f (r + 1) p h (omega (arith, e)) ∙ sym (none_below g (r + 1) p k (omega (arith, e)))
    by_order (inr (inl lt)) =
        sym (at_other r p t (lookup f p) (λ e. omega (arith, e, lt))) ∙ same p
        ∙ at_other r p u (lookup g p) (λ e. omega (arith, e, lt))
    by_order (inr (inr lt)) =
        none_below f (r + 1) p h (omega (arith, lt)) ∙ sym (none_below g (r + 1) p k (omega (arith, lt)))

pub file_one : (f g : TFile) (low : ℕ) → RisesFrom low f → RisesFrom low g → Same f g → f ≡ g
file_one NoRegs NoRegs low h k same = refl
file_one NoRegs (MoreRegs q u g) low h k same =
    absurd (let e : None ≡ Some u = same q ∙ at_first q u (lookup g q) in cc)
file_one (MoreRegs r t f) NoRegs low h k same =
    absurd (let e : None ≡ Some t = sym (same r) ∙ at_first r t (lookup f r) in cc)
file_one (MoreRegs r t f) (MoreRegs q u g) low h k same =
    let first : r ≡ q = first_same r q t u f g h.1 k.1 same in
    let rises : RisesFrom (r + 1) g = subst (λ n. RisesFrom (n + 1) g) (sym first) k.1 in
    let alike : Same (MoreRegs r t f) (MoreRegs r u g) =
    subst (λ n. Same (MoreRegs r t f) (MoreRegs n u g)) (sym first) same in
    let here : Some t ≡ Some u = sym (at_first r t (lookup f r)) ∙ alike r ∙ at_first r u (lookup g r) in
    let types : t ≡ u = cc in
    let rest : f ≡ g = file_one f g (r + 1) h.1 rises (rest_same r t u f g h.1 rises alike) in
    ap₂ (λ (x : Ty) (y : TFile). MoreRegs r x y) types rest ∙ ap (λ n. MoreRegs n u g) first

-- and words by the registers
shown_one : (a b : Shown) → shown_word a ≡ shown_word b → a ≡ b
shown_one (Int i) (Int j) e = cc
shown_one (Tuple a) (Tuple b) e = cc
shown_one (Label l) (Label m) e = cc
shown_one (Int i) (Tuple b) e = cc
shown_one (Int i) (Label b) e = cc
shown_one (Tuple a) (Int j) e = cc
shown_one (Tuple a) (Label m) e = cc
shown_one (Label l) (Int j) e = cc
shown_one (Label l) (Tuple b) e = cc

words_one : (r : ERegs) (xs ys : List (ℕ × Shown)) (f : TFile) → HaveWords r xs f → HaveWords r ys f → xs ≡ ys
words_one r [] [] NoRegs h k = refl
words_one r (x ∷ xs) (y ∷ ys) (MoreRegs q t f) h k =
    let words : Some (shown_word x.1) ≡ Some (shown_word y.1) = sym h.1 ∙ k.1 in
    let word : shown_word x.1 ≡ shown_word y.1 = cc in
    let here : x ≡ y = ap₂ (λ (n : ℕ) (w : Shown). (n, w)) (h.0 ∙ sym k.0) (shown_one x.1 y.1 word) in
    ap₂ (λ (z : ℕ × Shown) (zs : List (ℕ × Shown)). z ∷ zs) here (words_one r xs ys f h.2 k.2)
words_one r [] (y ∷ ys) NoRegs h k = absurd k
words_one r (x ∷ xs) ys NoRegs h k = absurd h
words_one r [] ys (MoreRegs q t f) h k = absurd h
words_one r (x ∷ xs) [] (MoreRegs q t f) h k = absurd k

pub one_line : OneRun → OneKnown → OneLine
one_line one known P m a b x y =
    let run = one P m x.state y.state (Spot x.block x.index) (Spot y.block y.index) x.run y.run in
    let places = run.1 in
    let block : x.block ≡ y.block = cc in
    let index : x.index ≡ y.index = cc in
    let there : KnownAt P x.block x.index y.names (lookup y.file) =
    subst (λ k. KnownAt P k x.index y.names (lookup y.file)) (sym block)
    (subst (λ k. KnownAt P y.block k y.names (lookup y.file)) (sym index) y.known.known) in
    let both = known P x.block x.index x.names y.names (lookup x.file) (lookup y.file) x.known.known there in
    let file : x.file ≡ y.file =
    file_one x.file y.file 0 x.known.rises y.known.rises (λ q. ap (λ (g : RegTypes). g q) both.1) in
    let have : HaveWords (erase_regs (regs_of x.state)) y.words x.file =
    subst (λ (s : State). HaveWords (erase_regs (regs_of s)) y.words x.file) (sym run.0)
    (subst (λ (f : TFile). HaveWords (erase_regs (regs_of y.state)) y.words f) (sym file) y.have) in
    let words : x.words ≡ y.words = words_one (erase_regs (regs_of x.state)) x.words y.words x.file x.have have in
    x.is
    ∙ ap₂ (λ (k : ℕ) (i : ℕ). line_text m k i x.names x.words x.file) block index
    ∙ ap₂ (λ (n : ℕ) (ws : List (ℕ × Shown)). line_text m y.block y.index n ws x.file) both.0 words
    ∙ ap (λ (f : TFile). line_text m y.block y.index y.names y.words f) file
    ∙ sym y.is

-- each word of a file whose registers rise is of the kind of the type beside it
of_kinds : (blocks tuples : ℕ) (r : ERegs) (low : ℕ) (words : List (ℕ × Shown)) (f : TFile) → RisesFrom low f →
    HaveWords r words f
    → ((q : ℕ) (t : Ty) → lookup f q ≡ Some t → (w : EWord) × (r q ≡ Some w) × HasKind blocks tuples t w) →
    AreOfKinds blocks tuples words f
of_kinds blocks tuples r low [] NoRegs rises have law = tt
of_kinds blocks tuples r low (x ∷ xs) (MoreRegs q t f) rises have law =
    let here = law q t (at_first q t (lookup f q)) in
    let both : Some here.0 ≡ Some (shown_word x.1) = sym here.1 ∙ have.1 in
    let word : here.0 ≡ shown_word x.1 = cc in
    (subst (λ w. HasKind blocks tuples t w) word here.2, of_kinds blocks tuples r (q + 1) xs f rises.1 have.2 later)
  where
    apart : (p : ℕ) (u : Ty) → lookup f p ≡ Some u → q ≡ p → ⊥
    apart p u e same = let none : None ≡ Some u = sym (none_below f (q + 1) p rises.1 (omega (arith, same))) ∙ e in cc

    later : (p : ℕ) (u : Ty) → lookup f p ≡ Some u → (w : EWord) × (r p ≡ Some w) × HasKind blocks tuples u w
    later p u e = law p u (at_other q p t (lookup f p) (apart p u e) ∙ e)
of_kinds blocks tuples r low [] (MoreRegs q t f) rises have law = absurd have
of_kinds blocks tuples r low (x ∷ xs) NoRegs rises have law = absurd have

pub lines_show_kinds : KnownWordsHaveKinds → LinesShowKinds
lines_show_kinds law P whole acc m line l = go l.state l.run l.have
  where
    go : (s : State) → After P m s (Spot l.block l.index) → HaveWords (erase_regs (regs_of s)) l.words l.file →
        AreOfKinds (length P.blocks) (length (heap_of s)) l.words l.file
    go (At h r c) run have =
        of_kinds (length P.blocks) (length h) (erase_regs r) 0 l.words l.file l.known.rises have (λ q t e.
        let k = law P whole acc m (erase_blocks P) (map (map erase_word) h) (erase_regs r)
        (erase_seq c) l.block l.index (refl, (At h r c, run, refl)) l.names (lookup l.file) l.known.known q t e in
        (k.0, k.1, subst (λ n. HasKind (length P.blocks) n t k.0) (length-map h (map erase_word)) k.2))
