-- Runs of an accepted program and of what is spilled of it.
use Rattle.std.proofs.Common.{◌≡◌, ℕ, zero, suc, ◌+◌, ◌-◌, ◌<◌, ◌≤◌, List, [], ◌∷◌, ◌++◌, length, map, Option, Some}
use Rattle.std.proofs.Common.{None, refl, sym, ap, ap₂, ◌∙◌, subst, arith, slice_get, ⊎_elim}
use Rattle.std.specs.Prelude.{ℤ, option_map}
use Rattle.std.proofs.lemmas.Option.{slice_get-map}
use Rattle.std.proofs.lemmas.List.{length-map}
use Rattle.t_types.specs.Tree.{NoRegs}
use Rattle.t_types.specs.Fits.{lookup}
use Rattle.t_terms.specs.Tree.{Reg, Int, Label, Data, TValue, Plain, Pack, TBlock, TData, TProg}
use Rattle.t_terms.specs.Whole.{WellFormedValue, WellFormedData, WellFormedHeap, WellFormedProgram}
use Rattle.t_rules.specs.Rules.{SeqAccepted, FirstTakesNothing, Accepted}
use Rattle.t_rules.specs.Machine.{State, At, Where, Next, Into, Step, HaltedWith, Place, Spot, moved, After}
use Rattle.t_rules.specs.Machine.{HaltsWithin, Halts, no_words, data_word, start_heap}
use Rattle.t_rules.specs.Times.{places}
use Rattle.t_rules.specs.LawsSound.{heap_of, regs_of, code_of}
use Rattle.t_rules.specs.HeapTypes.{HeapHas, start_types}
use Rattle.t_rules.specs.Erase.{EInt, EAddress, ESeq, EHalt, EHeap, ERegs, EState, EAt, EStep, EGoes, estep, erase}
use Rattle.t_rules.specs.Erase.{erase_seq, erase_block, erase_blocks, erase_heap, erase_datum, erase_value, field_word}
use Rattle.t_rules.specs.Erase.{base_word, no_ewords, EHaltedWith, Erased}
use Rattle.t_rules.proofs.Lock.{lockstep, erased_starts, erased_next, erased_halts_alike, halted_erased, halted_none}
use Rattle.t_rules.proofs.Erasing.{heap_erased}
use Rattle.t_rules.proofs.Words.{rises_same}
use Rattle.t_rules.proofs.OneStep.{step_one, halted_no_step, halted_one}
use Rattle.t_rules.proofs.Runs.{closed_labels, closed_data, blocks_typed, states_typed, runs_on, one_answer}
use Rattle.t_spill_rules.specs.Spill.{frame_reg, code, sizes, layout, sp_base, sp_blocks, sp_data, entry, spilled_above}
use Rattle.t_spill_laws.proofs.Files.{Ascends, look_same}
use Rattle.t_spill_laws.proofs.Typed.{at_map, labels_of, blocks_ascend, kept_types}
use Rattle.t_spill_laws.proofs.Walks.{walk, on_next, enter_step, get_end}
use Rattle.t_spill_laws.proofs.Erased.{erase_sp}
use Rattle.t_terms.specs.Registers.{with_reg}
use Rattle.t_spill_laws.proofs.Heaps.{image, Images, Heaps, FrameHas}
use Rattle.t_spill_laws.proofs.Frames.{Alike, framed}
use Rattle.t_spill_laws.proofs.Homes.{gathered_regular, regular_ready}
use Rattle.t_spill_laws.proofs.Erased.{highs, slots_left}
use Rattle.t_spill_laws.proofs.Matching.{ELabels, Matches, Seg, Sized, Ending, Follows, tail_sizes, tail_left}
use Rattle.t_spill_laws.proofs.Sim.{follows}
use Rattle.idx_core.proofs.Lists.{get_front}
use Rattle.t_rules.proofs.Settled.{there as get_there}

-- sums that compute
abbrev pub plus : ℕ → ℕ → ℕ
plus zero n = n
plus (suc m) n = suc (plus m n)

pub plus_is : (m n : ℕ) → plus m n ≡ m + n
plus_is zero n = omega arith
plus_is (suc m) n = let e = plus_is m n in omega (arith, e)

-- the erased machine with its place, and the places at which its steps start, the last one first
pub data PState : Type 0 where
  On : (e : EState) (p : Place) (log : List Place) → PState

abbrev pub went : Place → List Place → EStep → PState
went p log (EGoes k f) = On f (moved p k) (p ∷ log)

abbrev pub pstep : List ESeq → PState → Option PState
pstep B (On e p log) = option_map (went p log) (estep B e)

abbrev pub so : {A C : Type 0} → Option A → (A → Option C) → Option C
so None go = None
so (Some x) go = go x

abbrev pub after : List ESeq → ℕ → PState → Option PState
after B zero x = Some x
after B (suc m) x = so (pstep B x) (after B m)

pub after_on : (B : List ESeq) (m n : ℕ) (x y : PState) → after B m x ≡ Some y → after B (plus m n) x ≡ after B n y
after_on B zero n x y e = let s : x ≡ y = cc in ap (after B n) s
after_on B (suc m) n x y e = go (pstep B x) (λ z k. after_on B m n z y k) e
  where
    go : (o : Option PState) → ((z : PState) → after B m z ≡ Some y → after B (plus m n) z ≡ after B n y) →
        so o (after B m) ≡ Some y → so o (after B (plus m n)) ≡ after B n y
    go None f k = cc
    go (Some z) f k = f z k

-- a step at the end
pub after_snoc : (B : List ESeq) (m : ℕ) (x : PState) → after B (suc m) x ≡ so (after B m x) (pstep B)
after_snoc B zero x = go (pstep B x)
  where
    go : (o : Option PState) → so o (after B zero) ≡ o
    go None = refl
    go (Some y) = refl
after_snoc B (suc m) x = go (λ y. after_snoc B m y) (pstep B x)
  where
    go : ((y : PState) → after B (suc m) y ≡ so (after B m y) (pstep B)) → (o : Option PState) →
        so o (after B (suc m)) ≡ so (so o (after B m)) (pstep B)
    go f None = refl
    go f (Some y) = f y

-- places of steps to next instructions
abbrev pub ahead : Place → ℕ → Place
ahead p zero = p
ahead p (suc j) = ahead (moved p Next) j

abbrev pub trace : Place → ℕ → List Place → List Place
trace p zero log = log
trace p (suc j) log = trace (moved p Next) j (p ∷ log)

pub walk_runs : (B : List ESeq) (j : ℕ) (e g : EState) (p : Place) (log : List Place) → walk B j e ≡ Some g →
    after B j (On e p log) ≡ Some (On g (ahead p j) (trace p j log))
walk_runs B zero e g p log k = let s : e ≡ g = cc in ap (λ z. Some (On z p log)) s
walk_runs B (suc j) e g p log k = go (estep B e) (λ f z. walk_runs B j f g (moved p Next) (p ∷ log) z) k
  where
    go : (o : Option EStep) →
        ((f : EState) → walk B j f ≡ Some g →
        after B j (On f (moved p Next) (p ∷ log))
        ≡ Some (On g (ahead (moved p Next) j) (trace (moved p Next) j (p ∷ log)))) → on_next o (walk B j) ≡ Some g →
        so (option_map (went p log) o) (after B j)
        ≡ Some (On g (ahead (moved p Next) j) (trace (moved p Next) j (p ∷ log)))
    go None f z = cc
    go (Some (EGoes Next s)) f z = f s z
    go (Some (EGoes (Into l) s)) f z = cc

pub halts_last : (B : List ESeq) (m d : ℕ) (x : PState) (e : EState) (p : Place) (log : List Place) (i : ℤ) →
    after B m x ≡ Some (On e p log) → EHaltedWith e i → after B (plus m (suc d)) x ≡ None
halts_last B m d x e p log i k h = after_on B m (suc d) x (On e p log) k
    ∙ ap (λ o. so (option_map (went p log) o) (after B d)) (halted_none B e i h)

-- the erased start
abbrev pub start_of : TProg → TBlock → PState
start_of Q b = On (EAt (erase_heap Q) no_ewords (erase_block b)) (Spot 0 0) []

-- the typed and the erased machine of an accepted program
module _ (Q : TProg) (whole : WellFormedProgram Q) (acc : Accepted Q) (b : TBlock)
    (first : slice_get Q.blocks 0 ≡ Some b) where
  pub run_logged : (m : ℕ) (s : State) (p : Place) (run : After Q m s p) →
      after (erase_blocks Q) m (start_of Q b) ≡ Some (On (erase s) p (places Q m s p run))
  run_logged zero s p run =
      let k = run.0 in
      let e : Some k.0 ≡ Some b = sym k.1 ∙ first in
      let same : k.0 ≡ b = cc in
      ap (λ c. Some (start_of Q c)) (sym same)
      ∙ ap (λ h. Some (On (EAt h no_ewords (erase_seq k.0.code)) (Spot 0 0) [])) (sym (heap_erased Q.heap))
      ∙ ap₂ (λ t z. Some (On (erase t) z [])) (sym k.2) (sym run.1)
  run_logged (suc m) s p run =
      let r = run_logged m run.0 run.1 run.3 in
      let st = lockstep Q run.0 (whole, acc, (m, run.1, run.3)) run.2 s run.4 in
      after_snoc (erase_blocks Q) m (start_of Q b) ∙ ap (λ o. so o (pstep (erase_blocks Q))) r
      ∙ ap (option_map (went run.1 (places Q m run.0 run.1 run.3))) st
      ∙ ap (λ z. Some (On (erase s) z (run.1 ∷ places Q m run.0 run.1 run.3))) (sym run.5)

  pub logged_run : (m : ℕ) (e : EState) (p : Place) (log : List Place) →
      after (erase_blocks Q) m (start_of Q b) ≡ Some (On e p log) → Erased Q m (erase_blocks Q) e p
  logged_run zero e p log h =
      let x : Some (start_of Q b) ≡ Some (On e p log) = h in
      let same : EAt (erase_heap Q) no_ewords (erase_seq b.code) ≡ e = cc in
      let place : Spot 0 0 ≡ p = cc in
      subst (Erased Q 0 (erase_blocks Q) e) place
      (subst (λ z. Erased Q 0 (erase_blocks Q) z (Spot 0 0)) same (erased_starts Q b first))
  logged_run (suc m) e p log h =
      go (λ e0 p0 log0 y. logged_run m e0 p0 log0 y) (after (erase_blocks Q) m (start_of Q b)) refl
      (sym (after_snoc (erase_blocks Q) m (start_of Q b)) ∙ h)
    where
      step_of : (e0 : EState) (p0 : Place) (log0 : List Place) → Erased Q m (erase_blocks Q) e0 p0 →
          (o : Option EStep) → estep (erase_blocks Q) e0 ≡ o → option_map (went p0 log0) o ≡ Some (On e p log) →
          Erased Q (suc m) (erase_blocks Q) e p
      step_of e0 p0 log0 k None st x = cc
      step_of e0 p0 log0 k (Some (EGoes w f)) st x =
          let same : f ≡ e = cc in
          let place : moved p0 w ≡ p = cc in
          subst (Erased Q (suc m) (erase_blocks Q) e) place
          (subst (λ z. Erased Q (suc m) (erase_blocks Q) z (moved p0 w)) same
          (erased_next Q whole acc m (erase_blocks Q) e0 p0 k w f st))

      go : ((e0 : EState) (p0 : Place) (log0 : List Place) →
          after (erase_blocks Q) m (start_of Q b) ≡ Some (On e0 p0 log0) → Erased Q m (erase_blocks Q) e0 p0) →
          (o : Option PState) → after (erase_blocks Q) m (start_of Q b) ≡ o →
          so o (pstep (erase_blocks Q)) ≡ Some (On e p log) → Erased Q (suc m) (erase_blocks Q) e p
      go f None y x = cc
      go f (Some (On e0 p0 log0)) y x = step_of e0 p0 log0 (f e0 p0 log0 y) (estep (erase_blocks Q) e0) refl x

  pub halts_typed : (m : ℕ) (e : EState) (p : Place) (log : List Place) (i : ℤ) →
      after (erase_blocks Q) m (start_of Q b) ≡ Some (On e p log) → EHaltedWith e i → HaltsWithin Q m i
  halts_typed m e p log i h k =
      let r = logged_run m e p log h in
      let x = (erased_halts_alike Q whole acc m (erase_blocks Q) e p r i).0 k in
      (m, omega arith, x)

-- the places of data
abbrev pub row : {A : Type 0} → ℕ → List A → List ℕ
row k [] = []
row k (x ∷ xs) = k ∷ row (suc k) xs

row_at : {A : Type 0} (k : ℕ) (xs : List A) (d : ℕ) (x : A) → slice_get xs d ≡ Some x →
    slice_get (row k xs) d ≡ Some (k + d)
row_at k [] d x e = cc
row_at k (y ∷ xs) zero x e = let z : k ≡ k + 0 = omega arith in ap Some z
row_at k (y ∷ xs) (suc d) x e = let z : suc k + d ≡ k + suc d = omega arith in row_at (suc k) xs d x e ∙ ap Some z

row_here : {A : Type 0} (xs : List A) (d : ℕ) (x : A) → slice_get xs d ≡ Some x → slice_get (row 0 xs) d ≡ Some d
row_here xs d x e = let z : 0 + d ≡ d = omega arith in row_at 0 xs d x e ∙ ap Some z

row_only : {A : Type 0} (k : ℕ) (xs : List A) (d y : ℕ) → slice_get (row k xs) d ≡ Some y → (y ≡ k + d)
    × (d < length xs)
row_only k [] d y e = cc
row_only k (x ∷ xs) zero y e = let z : k ≡ y = cc in (omega (arith, z), omega arith)
row_only k (x ∷ xs) (suc d) y e = let r = row_only (suc k) xs d y e in (omega (arith, r.0), omega (arith, r.1))

row_length : {A : Type 0} (k : ℕ) (xs : List A) → length (row k xs) ≡ length xs
row_length k [] = refl
row_length k (x ∷ xs) = ap suc (row_length (suc k) xs)

map_at : {A C : Type 0} (f : A → C) (xs : List A) (i : ℕ) (y : C) → slice_get (map f xs) i ≡ Some y → (x : A)
    × (slice_get xs i ≡ Some x) × (y ≡ f x)
map_at f [] i y e = cc
map_at f (x ∷ xs) zero y e = let z : f x ≡ y = cc in (x, refl, sym z)
map_at f (x ∷ xs) (suc i) y e = map_at f xs i y e

-- what stands in data, spilled
module _ (top : ℕ) (P : TProg) where
  value_image : (p n : ℕ) (v : TValue) → WellFormedValue p (length P.heap) n v →
      image (row 0 P.heap) (data_word v) ≡ Some (field_word (base_word no_ewords (sp_base (λ r. 1) (erase_value v))))
  value_image p n (Plain (Reg r) ts) h = refl
  value_image p n (Plain (Int i) ts) h = refl
  value_image p n (Plain (Label l) ts) h = refl
  value_image p n (Plain (Data d) ts) h =
      let x = get_there P.heap d h.0 in ap (option_map EAddress) (row_here P.heap d x.0 x.1)
  value_image p n (Pack t v s) h = value_image p n v h.1

  data_images : (p : ℕ) (xs : TData) → WellFormedData p (length P.heap) xs →
      Images (row 0 P.heap) (map (λ x. data_word x.value) xs) (map erase_datum (sp_data top xs))
  data_images p [] h = tt
  data_images p (x ∷ xs) h = (
    value_image p 0 x.value h.0.0
        ∙ ap (λ b. Some (field_word (base_word no_ewords b))) (sym (erase_sp top (λ r. 1) x.value)),
    data_images p xs h.1,
  )

  heap_datum : (p q : ℕ) (hs : List TData) → WellFormedHeap p q hs → (d : ℕ) (x : TData) → slice_get hs d ≡ Some x →
      WellFormedData p q x
  heap_datum p q [] w d x e = cc
  heap_datum p q (y ∷ hs) w zero x e = let s : y ≡ x = cc in subst (WellFormedData p q) s w.0
  heap_datum p q (y ∷ hs) w (suc d) x e = heap_datum p q hs w.1 d x e

  data_length : length (erase_heap (spilled_above top P)) ≡ length P.heap
  data_length = length-map (map (sp_data top) P.heap) (map erase_datum) ∙ length-map P.heap (sp_data top)

  -- the heap of data, and an empty frame
  abbrev pub entered : EHeap
  entered = erase_heap (spilled_above top P) ++ ([] ∷ [])

  abbrev pub entered_regs : ERegs
  entered_regs = with_reg no_ewords (frame_reg top) (EAddress (length (erase_heap (spilled_above top P))))

  data_heaps : WellFormedProgram P → Heaps (row 0 P.heap) (start_heap P) (erase_heap (spilled_above top P) ++ ([] ∷ []))
  data_heaps w = record {
    same = λ a ws e.
        let x = map_at (map (λ x. data_word x.value)) P.heap a ws e in
        let there : slice_get (erase_heap (spilled_above top P)) a ≡ Some (map erase_datum (sp_data top x.0)) =
        at_map (map erase_datum) (map (sp_data top) P.heap) a (sp_data top x.0)
        (at_map (sp_data top) P.heap a x.0 x.1) in (
          a,
          map erase_datum (sp_data top x.0),
          row_here P.heap a x.0 x.1,
          get_front (erase_heap (spilled_above top P)) ([] ∷ []) a (map erase_datum (sp_data top x.0)) there,
          subst (λ z. Images (row 0 P.heap) z (map erase_datum (sp_data top x.0))) (sym x.2)
              (data_images (length P.blocks) x.0 (heap_datum (length P.blocks) (length P.heap) P.heap w.2 a x.0 x.1)),
        );
    size = row_length 0 P.heap ∙ sym (length-map P.heap (map (λ x. data_word x.value)));
    apart = λ a b x e k. let i = row_only 0 P.heap a x e in let j = row_only 0 P.heap b x k in omega (arith, i.0, j.0);
  }

pub elabels : (top : ℕ) (P : TProg) → ELabels top P (erase_blocks (spilled_above top P))
elabels top P l b e = slice_get-map erase_block (sp_blocks top P P.blocks) l
    ∙ ap (option_map erase_block) (labels_of top P l b e)

module _ (top : ℕ) (some : 1 ≤ top) (P : TProg) (whole : WellFormedProgram P) (acc : Accepted P) where
  abbrev B : List ESeq
  B = erase_blocks (spilled_above top P)

  pub follow : (s : State) (e : EState) (m : Matches top P s e) →
      Follows top P (erase_blocks (spilled_above top P)) (tail_sizes top P m.lay m.file (code_of s))
      (tail_left top P m.lay m.file (code_of s)) s e
  follow s e m = follows top some P (closed_labels P whole) (closed_data P whole) (blocks_typed P acc)
      (erase_blocks (spilled_above top P)) (elabels top P) (blocks_ascend P whole) s e m

  -- the start
  first_block : (bs : List TBlock) → FirstTakesNothing bs → (b : TBlock) → slice_get bs 0 ≡ Some b → (b.owes ≡ 0)
      × (b.file ≡ NoRegs)
  first_block [] a b e = cc
  first_block (x ∷ bs) a b e = let s : x ≡ b = cc in subst (λ y. (y.owes ≡ 0) × (y.file ≡ NoRegs)) s a

  pub starts : (s : State) (b : TBlock) → slice_get P.blocks 0 ≡ Some b → s ≡ At (start_heap P) no_words b.code →
      Matches top P s (EAt (entered top P) (entered_regs top P)
      (erase_seq (code top P (layout top b.file) b.file b.code)))
  starts s b e same =
      let f = first_block P.blocks acc.0 b e in
      let none = f.1 in
      let typed = states_typed P whole acc 0 (At (start_heap P) no_words b.code) (Spot 0 0) ((b, e, refl), refl) in
      record {
        types = start_types P;
        places = row 0 P.heap;
        file = b.file;
        eheap = entered top P;
        eregs = entered_regs top P;
        heap = subst (λ z. HeapHas P (start_types P) (heap_of z)) (sym same) typed.0;
        regs = λ q t k. let y : None ≡ Some t = sym (ap (λ x. lookup x q) none) ∙ k in cc;
        acc = subst (λ z. SeqAccepted P 0 (lookup b.file) (code_of z)) (sym same)
            (subst (λ n. SeqAccepted P n (lookup b.file) b.code) f.0 (blocks_typed P acc 0 b e).1);
        asc = subst Ascends (sym none) tt;
        up = rises_same (start_types P);
        still = λ d x k. row_here P.heap d x k;
        lay = layout top b.file;
        alike = subst (λ z. Alike top (row 0 P.heap) b.file (layout top b.file) (slots_left top 0 (code_of z))
            (heap_of z) (regs_of z) (entered top P) (entered_regs top P)) (sym same)
            (framed top (row 0 P.heap) b.file (slots_left top 0 b.code) (start_heap P) no_words (entered top P)
            (entered_regs top P) (length (erase_heap (spilled_above top P))) [] (data_heaps top P whole)
            (look_same no_ewords (frame_reg top) (EAddress (length (erase_heap (spilled_above top P)))))
            (get_end (erase_heap (spilled_above top P)) [] [])
            (λ a k. let r = row_only 0 P.heap a (length (erase_heap (spilled_above top P))) k in
            let l = data_length top P in absurd (omega (arith, r.0, r.1, l)))
            (subst (λ x. FrameHas (row 0 P.heap) no_words (highs top x) []) (sym none) tt)
            (λ q t le k. let y : None ≡ Some t = sym (ap (λ x. lookup x q) none) ∙ k in cc));
        ready = regular_ready top (layout top b.file) (code_of s) (gathered_regular top (highs top b.file));
        is = ap (λ z. EAt (entered top P) (entered_regs top P)
            (erase_seq (code top P (layout top b.file) b.file (code_of z)))) (sym same);
      }

  -- its file is the first block's
  pub start_file : (s : State) (b : TBlock) (e : slice_get P.blocks 0 ≡ Some b)
      (same : s ≡ At (start_heap P) no_words b.code) → (starts s b e same).file ≡ b.file
  unfolding starts
  start_file s b e same = refl

  -- and its layout
  pub start_lay : (s : State) (b : TBlock) (e : slice_get P.blocks 0 ≡ Some b)
      (same : s ≡ At (start_heap P) no_words b.code) → (starts s b e same).lay ≡ layout top b.file
  unfolding starts
  start_lay s b e same = refl

  -- the state after m steps has a state, after as many steps at least, that stands for it
  pub record Met (m : ℕ) (s : State) : Type 0 where
    pub j : ℕ
    pub more : m ≤ j
    pub e : EState
    pub p : Place
    pub log : List Place
    pub there : after (erase_blocks (spilled_above top P)) j (start_of (spilled_above top P) (entry top))
        ≡ Some (On e p log)
    pub matches : Matches top P s e

  seg_runs : (low : ℕ) (k : Where) (e f : EState) (p : Place) (log : List Place) →
      Seg (erase_blocks (spilled_above top P)) low e k f → (j : ℕ) × (q : Place) × (log2 : List Place) × (1 ≤ j)
      × (after (erase_blocks (spilled_above top P)) j (On e p log) ≡ Some (On f q log2))
  seg_runs low Next e f p log s =
      let x = s.0.by 0 in (
        x.0,
        ahead p x.0,
        trace p x.0 log,
        omega (arith, x.1),
        walk_runs (erase_blocks (spilled_above top P)) x.0 e f p log x.2,
      )
  seg_runs low (Into l) e f p log s =
      let w = s.1 in
      let x = w.by 0 in
      let a = walk_runs (erase_blocks (spilled_above top P)) x.0 e s.0 p log x.2 in
      let pl = plus_is x.0 1 in (
        plus x.0 1,
        moved (ahead p x.0) (Into (suc l)),
        ahead p x.0 ∷ trace p x.0 log,
        omega (arith, pl),
        after_on (erase_blocks (spilled_above top P)) x.0 1 (On e p log) (On s.0 (ahead p x.0) (trace p x.0 log)) a
            ∙ ap (λ o. so (option_map (went (ahead p x.0) (trace p x.0 log)) o)
            (after (erase_blocks (spilled_above top P)) 0)) s.2,
      )

  pub meets : (m : ℕ) (s : State) (p : Place) → After P m s p → Met m s
  meets zero s p run =
      let k = run.0 in
      let st = enter_step (erase_blocks (spilled_above top P)) (entered top P) (entered_regs top P) (Label 1) 1
      (erase_seq (code top P (layout top k.0.file) k.0.file k.0.code)) refl (elabels top P 0 k.0 k.1) in
      record {
        j = 2;
        more = omega arith;
        e = EAt (entered top P) (entered_regs top P) (erase_seq (code top P (layout top k.0.file) k.0.file k.0.code));
        p = Spot 1 0;
        log = Spot 0 1 ∷ Spot 0 0 ∷ [];
        there = ap (λ o. so (option_map (went (Spot 0 1) (Spot 0 0 ∷ [])) o)
            (after (erase_blocks (spilled_above top P)) 0)) st;
        matches = starts s k.0 k.1 k.2;
      }
  meets (suc m) s p run =
      let x = meets m run.0 run.1 run.3 in
      ⊎_elim
      (λ (y : (i : ℤ) × HaltedWith run.0 i × Ending (erase_blocks (spilled_above top P)) x.e i).
      absurd (halted_no_step P run.0 y.0 y.1 run.2 s run.4))
      (λ (y : (k : Where) × (t : State) × (f : EState) × Step P run.0 k t
      × Seg (erase_blocks (spilled_above top P)) (tail_left top P x.matches.lay x.matches.file (code_of run.0)) x.e
      k f × (m : Matches top P t f)
      × Sized top P (tail_sizes top P x.matches.lay x.matches.file (code_of run.0)) k
      (sizes top P m.lay m.file (code_of t))).
      let one = step_one P run.0 y.1 s y.0 run.2 y.3 run.4 in
      let z = seg_runs (tail_left top P x.matches.lay x.matches.file (code_of run.0)) y.0 x.e y.2 x.p x.log y.4 in
      let pl = plus_is x.j z.0 in
      record {
        j = plus x.j z.0;
        more = omega (arith, pl, x.more, z.3);
        e = y.2;
        p = z.1;
        log = z.2;
        there = after_on (erase_blocks (spilled_above top P)) x.j z.0 (start_of (spilled_above top P) (entry top))
            (On x.e x.p x.log) x.there ∙ z.4;
        matches = subst (λ t. Matches top P t y.2) one.1 y.5;
      })
      (follow run.0 x.e x.matches)

  -- forth: at the end of P's run
  ends : (m : ℕ) (s : State) (p : Place) → After P m s p → (i : ℤ) → HaltedWith s i → (j : ℕ) × (h : EHeap)
      × (r : ERegs) × (q : Place) × (log : List Place)
      × (after (erase_blocks (spilled_above top P)) j (start_of (spilled_above top P) (entry top))
      ≡ Some (On (EAt h r EHalt) q log)) × (r 1 ≡ Some (EInt i))
  ends m s p run i halted =
      let x = meets m s p run in
      ⊎_elim
      (λ (y : (i : ℤ) × HaltedWith s i × Ending (erase_blocks (spilled_above top P)) x.e i).
      let same = halted_one s y.0 i y.1 halted in
      let en = y.2 in
      let w = en.walks.by 0 in (
        plus x.j w.0,
        en.eheap,
        en.eregs,
        ahead x.p w.0,
        trace x.p w.0 x.log,
        after_on (erase_blocks (spilled_above top P)) x.j w.0 (start_of (spilled_above top P) (entry top))
            (On x.e x.p x.log) x.there ∙ walk_runs (erase_blocks (spilled_above top P)) w.0 x.e _ x.p x.log w.2,
        en.answer ∙ ap (λ z. Some (EInt z)) same,
      ))
      (λ (y : (k : Where) × (t : State) × (f : EState) × Step P s k t
      × Seg (erase_blocks (spilled_above top P)) (tail_left top P x.matches.lay x.matches.file (code_of s)) x.e k f
      × (m : Matches top P t f)
      × Sized top P (tail_sizes top P x.matches.lay x.matches.file (code_of s)) k
      (sizes top P m.lay m.file (code_of t))). absurd (halted_no_step P s i halted y.0 y.1 y.3))
      (follow s x.e x.matches)

  module _ (whole2 : WellFormedProgram (spilled_above top P)) where
    pub forth : (i : ℤ) → Halts P i → Halts (spilled_above top P) i
    forth i h =
        let x = h.1 in
        let y = ends x.0 x.2.0 x.2.1 x.2.2 i x.2.3 in (
          y.0,
          halts_typed (spilled_above top P) whole2 (kept_types top P some whole acc) (entry top) refl y.0
              (EAt y.1 y.2 EHalt) y.3 y.4 i y.5 y.6,
        )

    pub back : (n : ℕ) (i : ℤ) → HaltsWithin (spilled_above top P) n i → HaltsWithin P n i
    back n i h =
        let m = h.0 in
        let le = h.1 in
        let r = run_logged (spilled_above top P) whole2 (kept_types top P some whole acc) (entry top) refl h.0 h.2.0
        h.2.1 h.2.2 in
        ⊎_elim
        (λ (x : (s : State) × (p : Place) × After P (suc h.0) s p).
        let y = meets (suc h.0) x.0 x.1 x.2 in
        let d : ℕ = y.j - suc h.0 in
        let pl = plus_is h.0 (suc (y.j - suc h.0)) in
        let e : plus h.0 (suc (y.j - suc h.0)) ≡ y.j = omega (arith, pl, y.more) in
        let none = halts_last (erase_blocks (spilled_above top P)) h.0 (y.j - suc h.0)
        (start_of (spilled_above top P) (entry top)) (erase h.2.0) h.2.1
        (places (spilled_above top P) h.0 h.2.0 h.2.1 h.2.2) i r (halted_erased h.2.0 i h.2.3) in
        let z : None ≡ Some (On y.e y.p y.log) = sym none
        ∙ ap (λ k. after (erase_blocks (spilled_above top P)) k (start_of (spilled_above top P) (entry top))) e
        ∙ y.there in
        absurd (differ z))
        (λ (x : (k : ℕ) × (s : State) × (p : Place) × (j : ℤ) × (k < suc h.0) × After P k s p × HaltedWith s j).
        let lt = x.4 in
        let f = forth x.3 (x.0, (x.0, omega arith, (x.1, x.2, x.5, x.6))) in
        let same : x.3 ≡ i = one_answer (spilled_above top P) f.0 n x.3 i f.1 h in
        (x.0, omega (arith, lt, le), (x.1, x.2, x.5, subst (HaltedWith x.1) same x.6)))
        (runs_on P whole acc (suc h.0))
      where
        differ : {y : PState} → None ≡ Some y → ⊥
        differ z = cc
