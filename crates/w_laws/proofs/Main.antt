-- What a program does, its word code does.
use Rattle.std.proofs.Common.{◌≡◌, ℕ, zero, suc, ◌+◌, ◌-◌, ◌<◌, ◌≤◌, List, [], ◌∷◌, length, Option, Some, None, refl}
use Rattle.std.proofs.Common.{sym, ap, ap₂, ◌∙◌, subst, arith, slice_get, ⊎_elim, inl, inr, ◌⊎◌, option_and_then, map}
use Rattle.std.specs.Prelude.{ℤ, option_map, slice_index}
use Rattle.std.proofs.lemmas.Bool.{cases_lt}
use Rattle.std.proofs.lemmas.List.{length-map}
use Rattle.std.proofs.lemmas.Option.{slice_get_within, slice_get-map}
use Rattle.t_terms.specs.Tree.{TProg, TBlock}
use Rattle.t_terms.specs.Whole.{WellFormedProgram}
use Rattle.t_rules.specs.Rules.{Accepted}
use Rattle.t_rules.specs.Machine.{Spot, HaltedAfter, Halts}
use Rattle.t_rules.specs.Erase.{EWord, EInt, EAddress, ELabel, EEmpty, EHeap, erase_block, erase_blocks}
use Rattle.t_rules.specs.Erase.{erase_heap, erase_datum, no_ewords}
use Rattle.t_collect.specs.Kept.{Keeps, numbered, WordBelow}
use Rattle.w_terms.specs.Tree.{WSeq, WProg, WThen, WJump, WGoto, WExit}
use Rattle.w_terms.specs.Machine.{WRegs, Written, WState, WAt, wstep, wrun, WStart, AreWords, Places, Exits, ExitsWith}
use Rattle.w_terms.specs.Machine.{start_memory}
use Rattle.w_runtime.specs.Blocks.{Layout}
use Rattle.w_laws.specs.Shows.{IsWord}
use Rattle.w_laws.specs.Code.{IsTranslation, places}
use Rattle.w_laws.specs.Runtime.{Texts, IsRuntime, ReachesExit, zone_of}
use Rattle.w_laws.specs.Laws.{MeansTheSame, MeaningIsKept}
use Rattle.w_laws.specs.ProgramLaws.{ProgramLaws}
use Rattle.w_terms.proofs.Machine.{run_join, exit_last}
use Rattle.w_laws.proofs.Advance.{Holds, On, Ended, advance}

-- runs of word code
module _ (place : ℕ → ℕ) (blocks : List WSeq) where
  -- a run is no longer than one that comes to an exit
  no_longer : (m d : ℕ) (s x : WState) (status : ℕ) (out : List Written) → wrun place blocks m s ≡ Some x →
      ExitsWith x status out → wrun place blocks (m + suc d) s ≡ None
  no_longer m d s x status out e k =
      run_join place blocks m (suc d) s x None e
      (ap (option_and_then (wrun place blocks d)) (exit_last place blocks x status out k))

  -- what comes before
  before : (n d : ℕ) (s y : WState) → wrun place blocks (n + d) s ≡ Some y → (x : WState)
      × (wrun place blocks n s ≡ Some x)
  before zero d s y e = (s, refl)
  before (suc n) d s y e =
      let more : suc n + d ≡ suc (n + d) = omega arith in
      go (λ u f. before n d u y f) (wstep place blocks s) (ap (λ k. wrun place blocks k s) (sym more) ∙ e)
    where
      go : ((u : WState) → wrun place blocks (n + d) u ≡ Some y → (x : WState) × (wrun place blocks n u ≡ Some x)) →
          (o : Option WState) → option_and_then (wrun place blocks (n + d)) o ≡ Some y → (x : WState)
          × (option_and_then (wrun place blocks n) o ≡ Some x)
      go next None f = cc
      go next (Some u) f = next u f

  one_exit : (x : WState) (a b : ℕ) (out new : List Written) → ExitsWith x a out → ExitsWith x b new →
      (a ≡ b) × (out ≡ new)
  one_exit (WAt r m log (WExit n)) a b out new e f = (e.0 ∙ sym f.0, e.1 ∙ sym f.1)
  one_exit (WAt r m log (WThen i c)) a b out new e f = absurd e
  one_exit (WAt r m log (WJump l)) a b out new e f = absurd e
  one_exit (WAt r m log (WGoto q)) a b out new e f = absurd e

  -- two runs that come to an exit end alike
  same_exit : (m n : ℕ) (s x y : WState) (a b : ℕ) (out new : List Written) → wrun place blocks m s ≡ Some x →
      wrun place blocks n s ≡ Some y → ExitsWith x a out → ExitsWith y b new → (a ≡ b) × (out ≡ new)
  same_exit m n s x y a b out new e f p q = ⊎_elim
      (λ (lt : m < n).
      let long : n ≡ m + suc (n - suc m) = omega (arith, lt) in
      let none : None ≡ Some y = sym (no_longer m (n - suc m) s x a out e p)
      ∙ ap (λ k. wrun place blocks k s) (sym long) ∙ f in
      cc)
      (λ (le : n ≤ m). ⊎_elim
      (λ (lt : n < m).
      let long : m ≡ n + suc (m - suc n) = omega (arith, lt) in
      let none : None ≡ Some x = sym (no_longer n (m - suc n) s y b new f q)
      ∙ ap (λ k. wrun place blocks k s) (sym long) ∙ e in
      cc)
      (λ (ge : m ≤ n).
      let same : m ≡ n = omega (arith, le, ge) in
      let is_one : Some x ≡ Some y = sym e ∙ ap (λ k. wrun place blocks k s) same ∙ f in
      let is : x ≡ y = cc in
      one_exit y a b out new (subst (λ z. ExitsWith z a out) is p) q)
      (cases_lt n m))
      (cases_lt m n)

-- all tuples are kept at first: their numbers, from i on
abbrev pub count : ℕ → ℕ → List ℕ
count i zero = []
count i (suc n) = i ∷ count (suc i) n

count_length : (i n : ℕ) → length (count i n) ≡ n
count_length i zero = refl
count_length i (suc n) = ap suc (count_length (suc i) n)

count_at : (i n j : ℕ) → j < n → slice_index (count i n) j ≡ i + j
count_at i zero j lt = absurd (omega (arith, lt))
count_at i (suc n) zero lt = omega arith
count_at i (suc n) (suc j) lt = let e = count_at (suc i) n j (omega (arith, lt)) in e ∙ omega arith

module _ (h : EHeap) (inner : (i j : ℕ) (t : List EWord) (w : EWord) → slice_get h i ≡ Some t →
    slice_get t j ≡ Some w → WordBelow (length h) w) where
  word_same : (w : EWord) → WordBelow (length h) w → numbered (count 0 (length h)) w ≡ w
  word_same (EAddress i) lt = ap EAddress (count_at 0 (length h) i lt ∙ omega arith)
  word_same (EInt i) lt = refl
  word_same (ELabel l) lt = refl
  word_same EEmpty lt = refl

  words_same : (t : List EWord) → ((j : ℕ) (w : EWord) → slice_get t j ≡ Some w → WordBelow (length h) w) →
      map (numbered (count 0 (length h))) t ≡ t
  words_same [] in' = refl
  words_same (w ∷ t) in' = ap₂ (λ v u. v ∷ u) (word_same w (in' 0 w refl)) (words_same t (λ j. in' (suc j)))

  number_is : (i : ℕ) → i < length h → slice_index (count 0 (length h)) i ≡ i
  number_is i lt = count_at 0 (length h) i lt ∙ omega arith

  pub keeps_all : Keeps (count 0 (length h)) (length h) h no_ewords h no_ewords
  keeps_all =
      let n_is = count_length 0 (length h) in
      record {
        sized = sym n_is;
        below = λ i lt. let in' : i < length h = omega (arith, n_is, lt) in
            let e = number_is i in' in omega (arith, e, in');
        rising = λ i j lt in'.
            let j_in : j < length h = omega (arith, n_is, in') in
            let i_in : i < length h = omega (arith, lt, j_in) in
            let e = number_is i i_in in let f = number_is j j_in in
            omega (arith, e, f, lt);
        fixed = omega (arith, n_is);
        same = λ i lt. number_is i lt;
        tuples = λ i t e.
            ap (slice_get h) (number_is i (slice_get_within h i t e)) ∙ e
            ∙ ap Some (sym (words_same t (λ j w f. inner i j t w e f)));
        inside = λ i j t w e f. subst (λ n. WordBelow n w) (sym n_is) (inner i j t w e f);
        regs = λ q. refl;
        in_regs = λ q w e. cc;
      }

module _ (laws : ProgramLaws) (P : TProg) (whole : WellFormedProgram P) (accepted : Accepted P) (many : ℕ)
    (W : WProg) (is : IsTranslation P many W) (place : ℕ → ℕ) (apart : Places place W) (layout : Layout) (texts : Texts)
    (runtime : IsRuntime place layout many P W texts) (R : WRegs) (words : AreWords R) where
  abbrev Shown : ℕ → WState → Type 0
  Shown = Holds laws P whole accepted many W is place apart layout texts runtime

  -- m steps of the program are at least m of the word code, or it ends
  abbrev Far : WState → ℕ → Type 0
  Far s m = ((n : ℕ) × (y : WState) × (m ≤ n) × (wrun place W.blocks n s ≡ Some y) × Shown m y)
      ⊎ (((k : ℕ) × (i : ℤ) × (k < m) × HaltedAfter P k i × ReachesExit place layout many P W s 0 (texts.integer i))
      ⊎ ReachesExit place layout many P W s 7 texts.full)

  -- from where the program begins
  module _ (s : WState) (n : ℕ) (x : WState) (run : wrun place W.blocks n s ≡ Some x) (first : Shown 0 x) where
    later : (m : ℕ) (y : WState) (status : ℕ) (out : List Written) → wrun place W.blocks m s ≡ Some y →
        ReachesExit place layout many P W y status out → ReachesExit place layout many P W s status out
    later m y status out e k = (k.0, (m + k.1.0, run_join place W.blocks m k.1.0 s y (Some k.0) e k.1.1), k.2)

    far : (m : ℕ) → Far s m
    far zero = inl (n, x, (omega arith), run, first)
    far (suc m) = ⊎_elim
        (λ (p : (j : ℕ) × (y : WState) × (m ≤ j) × (wrun place W.blocks j s ≡ Some y) × Shown m y).
        let le = p.2 in
        ⊎_elim
        (λ (q : On laws P whole accepted many W is place apart layout texts runtime m p.1).
        inl (
          p.0 + suc q.0,
          q.1,
          (omega (arith, le)),
          run_join place W.blocks p.0 (suc q.0) s p.1 (Some q.1) p.3 q.2,
          q.3,
        ))
        (λ (q : Ended laws P whole accepted many W is place apart layout texts runtime m p.1). inr (⊎_elim
        (λ (z : (i : ℤ) × HaltedAfter P m i × ReachesExit place layout many P W p.1 0 (texts.integer i)).
        inl (m, z.0, (omega arith), z.1, later p.0 p.1 0 (texts.integer z.0) p.3 z.2))
        (λ (z : ReachesExit place layout many P W p.1 7 texts.full). inr (later p.0 p.1 7 texts.full p.3 z))
        q))
        (advance laws P whole accepted many W is place apart layout texts runtime m p.1 p.4))
        (λ (p : ((k : ℕ) × (i : ℤ) × (k < m) × HaltedAfter P k i
        × ReachesExit place layout many P W s 0 (texts.integer i))
        ⊎ ReachesExit place layout many P W s 7 texts.full). inr (⊎_elim
        (λ (z : (k : ℕ) × (i : ℤ) × (k < m) × HaltedAfter P k i
        × ReachesExit place layout many P W s 0 (texts.integer i)).
        let lt = z.2 in inl (z.0, z.1, (omega (arith, lt)), z.3, z.4))
        (λ (z : ReachesExit place layout many P W s 7 texts.full). inr z)
        p))
        (far m)

    exits : (status : ℕ) (out : List Written) → WStart place W R s → ReachesExit place layout many P W s status out →
        Exits place W R status out
    exits status out start k = (k.1.0, s, k.0, start, k.1.1, k.2)

    forth : WStart place W R s → (i : ℤ) → Halts P i → Exits place W R 0 (texts.integer i)
        ⊎ Exits place W R 7 texts.full
    forth start i h = ⊎_elim
        (λ (p : (j : ℕ) × (y : WState) × (suc h.1.0 ≤ j) × (wrun place W.blocks j s ≡ Some y) × Shown (suc h.1.0) y).
        let e = p.4.erased in
        let after = e.1.1 in
        let le : suc h.1.0 ≤ h.1.0 = laws.last P h.1.0 (suc h.1.0) i e.1.0 p.4.spot h.1.2 after in
        absurd (omega (arith, le)))
        (λ (p : ((k : ℕ) × (j : ℤ) × (k < suc h.1.0) × HaltedAfter P k j
        × ReachesExit place layout many P W s 0 (texts.integer j))
        ⊎ ReachesExit place layout many P W s 7 texts.full). ⊎_elim
        (λ (z : (k : ℕ) × (j : ℤ) × (k < suc h.1.0) × HaltedAfter P k j
        × ReachesExit place layout many P W s 0 (texts.integer j)).
        let same : z.1 ≡ i = laws.answer P z.0 h.1.0 z.1 i (z.0, (omega arith), z.3) (h.1.0, (omega arith), h.1.2) in
        inl (subst (λ j. Exits place W R 0 (texts.integer j)) same (exits 0 (texts.integer z.1) start z.4)))
        (λ (z : ReachesExit place layout many P W s 7 texts.full). inr (exits 7 texts.full start z))
        p)
        (far (suc h.1.0))

    goes_on : WStart place W R s → (m : ℕ) → ((t : WState) × (wrun place W.blocks m s ≡ Some t))
        ⊎ ((status : ℕ) × (out : List Written) × Exits place W R status out)
    goes_on start m = ⊎_elim
        (λ (p : (j : ℕ) × (y : WState) × (m ≤ j) × (wrun place W.blocks j s ≡ Some y) × Shown m y).
        let le = p.2 in
        let long : p.0 ≡ m + (p.0 - m) = omega (arith, le) in
        inl (before place W.blocks m (p.0 - m) s p.1 (ap (λ k. wrun place W.blocks k s) (sym long) ∙ p.3)))
        (λ (p : ((k : ℕ) × (i : ℤ) × (k < m) × HaltedAfter P k i
        × ReachesExit place layout many P W s 0 (texts.integer i))
        ⊎ ReachesExit place layout many P W s 7 texts.full). inr (⊎_elim
        (λ (z : (k : ℕ) × (i : ℤ) × (k < m) × HaltedAfter P k i
        × ReachesExit place layout many P W s 0 (texts.integer i)).
        (0, texts.integer z.1, exits 0 (texts.integer z.1) start z.4))
        (λ (z : ReachesExit place layout many P W s 7 texts.full). (7, texts.full, exits 7 texts.full start z))
        p))
        (far m)

    back : (status : ℕ) (out : List Written) (m : ℕ) (t : WState) → wrun place W.blocks m s ≡ Some t →
        ExitsWith t status out →
        ((i : ℤ) × Halts P i × (status ≡ 0) × (out ≡ texts.integer i)) ⊎ ((status ≡ 7) × (out ≡ texts.full))
    back status out m t e k = ⊎_elim
        (λ (p : (j : ℕ) × (y : WState) × (suc m ≤ j) × (wrun place W.blocks j s ≡ Some y) × Shown (suc m) y).
        let le = p.2 in
        let y = p.1 in
        let long : p.0 ≡ m + suc (p.0 - suc m) = omega (arith, le) in
        let none : None ≡ Some y = sym (no_longer place W.blocks m (p.0 - suc m) s t status out e k)
        ∙ ap (λ j. wrun place W.blocks j s) (sym long) ∙ p.3 in
        cc)
        (λ (p : ((j : ℕ) × (i : ℤ) × (j < suc m) × HaltedAfter P j i
        × ReachesExit place layout many P W s 0 (texts.integer i))
        ⊎ ReachesExit place layout many P W s 7 texts.full). ⊎_elim
        (λ (z : (j : ℕ) × (i : ℤ) × (j < suc m) × HaltedAfter P j i
        × ReachesExit place layout many P W s 0 (texts.integer i)).
        let x = z.4 in
        let same = same_exit place W.blocks m x.1.0 s t x.0 status 0 out (texts.integer z.1) e x.1.1 k x.2 in
        inl (z.1, (z.0, (z.0, (omega arith), z.3)), same.0, same.1))
        (λ (z : ReachesExit place layout many P W s 7 texts.full).
        inr (same_exit place W.blocks m z.1.0 s t z.0 status 7 out texts.full e z.1.1 k z.2))
        p)
        (far (suc m))

  -- where the program begins
  module _ (s : WState) (start : WStart place W R s) where
    first_block : (bs : List TBlock) → 1 ≤ length bs → (b : TBlock) × (slice_get bs 0 ≡ Some b)
    first_block [] le = absurd (omega (arith, le))
    first_block (b ∷ bs) le = (b, refl)

    begins : (n : ℕ) × (x : WState) × (wrun place W.blocks n s ≡ Some x) × Shown 0 x
    begins =
        let b = first_block P.blocks whole.0 in
        let in' : slice_get (erase_blocks P) 0 ≡ Some (erase_block b.0) =
        slice_get-map erase_block P.blocks 0 ∙ ap (option_map erase_block) b.1 in
        let c = is.blocks 0 (erase_block b.0) in' in
        let go = runtime.starts R s c.0 words start c.1 in
        let sized : length (erase_heap P) ≡ length P.heap = length-map P.heap (map erase_datum) in
        let shows = go.3 in (
          go.2.0,
          WAt go.0 go.1 [] c.0,
          go.2.1,
          record {
            heap = erase_heap P;
            regs = no_ewords;
            code = erase_block b.0;
            spot = Spot 0 0;
            erased = laws.starts P b.0 b.1;
            numbers = count 0 (length (erase_heap P));
            tuples = erase_heap P;
            words = no_ewords;
            keeps = subst (λ n. Keeps (count 0 (length (erase_heap P))) n (erase_heap P) no_ewords
                (erase_heap P) no_ewords)
                sized (keeps_all (erase_heap P) (λ i j t w e f. in_heap w (shows.represents.fields i j t w e f).0
                (shows.represents.fields i j t w e f).2));
            at = places P W many;
            wregs = go.0;
            memory = go.1;
            wcode = c.0;
            shows = shows;
            settled = λ d lt. refl;
            is_code = c.2;
            here = refl;
          },
        )
      where
        in_heap : (w : EWord) (n : ℕ) →
            IsWord place (zone_of place layout many P W) (places P W many) (length (erase_heap P)) w n →
            WordBelow (length (erase_heap P)) w
        in_heap (EAddress a) n k = k.0
        in_heap (EInt i) n k = tt
        in_heap (ELabel l) n k = tt
        in_heap EEmpty n k = tt

  -- the program has a start
  start_of : (s : WState) × WStart place W R s
  start_of = let b = runtime.begins in (WAt R (start_memory place W) [] b.0, (b.0, b.1, refl))

  pub same : MeansTheSame P place W texts R
  same =
      let s = start_of.0 in
      let start = start_of.1 in
      let b = begins s start in
      record {
        forth = λ i h. forth s b.0 b.1 b.2 b.3 start i h;
        back = λ status out k.
            let one : s ≡ k.1 = start.2 ∙ ap (λ c. WAt R (start_memory place W) [] c) (one_code start k.3)
            ∙ sym k.3.2 in
            back s b.0 b.1 b.2 b.3 status out k.0 k.2
            (ap (wrun place W.blocks k.0) one ∙ k.4) k.5;
        goes_on = λ n t k.
            let one : s ≡ t = start.2 ∙ ap (λ c. WAt R (start_memory place W) [] c) (one_code start k) ∙ sym k.2 in
            subst (λ z. ((u : WState) × (wrun place W.blocks n z ≡ Some u))
            ⊎ ((status : ℕ) × (out : List Written) × Exits place W R status out)) one
            (goes_on s b.0 b.1 b.2 b.3 start n);
      }
    where
      one_code : {s t : WState} (x : WStart place W R s) (y : WStart place W R t) → x.0 ≡ y.0
      one_code x y = let e : Some x.0 ≡ Some y.0 = sym x.1 ∙ y.1 in cc

pub meaning_is_kept : ProgramLaws → MeaningIsKept
meaning_is_kept laws P whole accepted many W is place apart layout texts runtime R words =
    same laws P whole accepted many W is place apart layout texts runtime R words
