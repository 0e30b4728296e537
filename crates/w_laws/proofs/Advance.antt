-- What word code does for a step of the program: it comes to a state that shows the next one, or it ends.
use Rattle.std.proofs.Common.{◌≡◌, ℕ, suc, ◌+◌, ◌<◌, ◌≤◌, ◌^◌, List, [], ◌∷◌, ◌++◌, length, Option}
use Rattle.std.proofs.Common.{Some, None, refl, sym, ap, ◌∙◌, subst, arith, replicate, ⊎_elim, inl, inr, ◌⊎◌}
use Rattle.std.specs.Prelude.{ℤ, option_map}
use Rattle.t_terms.specs.Tree.{TProg}
use Rattle.t_terms.specs.Tree as tree
use Rattle.t_terms.specs.Whole.{WellFormedProgram}
use Rattle.t_terms.specs.Registers.{with_reg}
use Rattle.t_rules.specs.Rules.{Accepted}
use Rattle.t_rules.specs.Machine.{Where, Next, Place, HaltedAfter}
use Rattle.t_rules.specs.Machine as machine
use Rattle.t_rules.specs.Erase.{EWord, EInt, EAddress, ELabel, EEmpty, EArith, EBnz, ELd, EMalloc, EMov, ESt, ESeq}
use Rattle.t_rules.specs.Erase.{EThen, EJmp, EHalt, EHeap, ERegs, EState, EAt, EStep, EGoes, estep, EHaltedWith, Erased}
use Rattle.t_rules.specs.Erase.{erase_blocks}
use Rattle.t_collect.specs.Kept.{Keeps, NextFixed, numbered}
use Rattle.t_collect.specs.Moves.{marked}
use Rattle.t_collect.specs.Dropped.{dropped_heap, dropped_regs}
use Rattle.w_terms.specs.Tree.{WSeq, WProg, WJump}
use Rattle.w_terms.specs.Machine.{WRegs, Memory, WState, WAt, wstep, wrun, with_word, Places}
use Rattle.w_rooms.specs.Numbers.{free_reg, limit_reg, halt_label, bytes}
use Rattle.w_laws.specs.Code.{taken, asked, room_for, IsSeq}
use Rattle.w_laws.specs.Code.{IsTranslation, places}
use Rattle.w_runtime.specs.Blocks.{Layout}
use Rattle.w_laws.specs.Shows.{Shows}
use Rattle.w_laws.specs.ProgramLaws.{ProgramLaws}
use Rattle.w_laws.specs.Runtime.{Texts, IsRuntime, Made, Settled, ReachesExit, zone_of}
use Rattle.w_terms.proofs.Machine.{written_apart, run_join}
use Rattle.w_laws.proofs.Steps.{Plain, run_step}
use Rattle.w_laws.proofs.Steps as steps
use Rattle.w_laws.proofs.Mallocs as mallocs

back_int : (ns : List ℕ) (o : Option EWord) (i : ℤ) → option_map (numbered ns) o ≡ Some (EInt i) → o ≡ Some (EInt i)
back_int ns (Some (EInt j)) i e = e
back_int ns (Some (EAddress a)) i e = cc
back_int ns (Some (ELabel l)) i e = cc
back_int ns (Some EEmpty) i e = cc
back_int ns None i e = cc

-- a state that is halted
pub at_end : (g : EHeap) (r : ERegs) (c : ESeq) (i : ℤ) → EHaltedWith (EAt g r c) i → (c ≡ EHalt)
    × (r 1 ≡ Some (EInt i))
at_end g r EHalt i e = (refl, e)
at_end g r (EThen j c) i e = absurd e
at_end g r (EJmp b) i e = absurd e

-- an address that is moved is that of a data tuple
fixed_next : (at : ℕ → ℕ) (fixed many : ℕ) (blocks : List WSeq) (e : ESeq) (c : WSeq) → IsSeq at fixed many blocks e c →
    NextFixed fixed e
fixed_next at fixed many blocks (EThen (EMov rd (tree.Data d)) e) c k = k.2.0
fixed_next at fixed many blocks (EThen (EMov rd (tree.Reg q)) e) c k = tt
fixed_next at fixed many blocks (EThen (EMov rd (tree.Int i)) e) c k = tt
fixed_next at fixed many blocks (EThen (EMov rd (tree.Label l)) e) c k = tt
fixed_next at fixed many blocks (EThen (EArith op rd rs b) e) c k = tt
fixed_next at fixed many blocks (EThen (EBnz q b) e) c k = tt
fixed_next at fixed many blocks (EThen (ELd rd rs i) e) c k = tt
fixed_next at fixed many blocks (EThen (EMalloc rd n) e) c k = tt
fixed_next at fixed many blocks (EThen (ESt rd i rs) e) c k = tt
fixed_next at fixed many blocks (EJmp b) c k = tt
fixed_next at fixed many blocks EHalt c k = tt

module _ (laws : ProgramLaws) (P : TProg) (whole : WellFormedProgram P) (accepted : Accepted P) (many : ℕ)
    (W : WProg) (is : IsTranslation P many W) (place : ℕ → ℕ) (apart : Places place W) (y : Layout) (texts : Texts)
    (runtime : IsRuntime place y many P W texts) where
  abbrev base : ℕ → ℕ
  base = places P W many

  abbrev fixed : ℕ
  fixed = length P.heap

  -- the state of word code shows what is kept of the program's state after m steps
  pub record Holds (m : ℕ) (x : WState) : Type 0 where
    pub heap : EHeap
    pub regs : ERegs
    pub code : ESeq
    pub spot : Place
    pub erased : Erased P m (erase_blocks P) (EAt heap regs code) spot
    pub numbers : List ℕ
    pub tuples : EHeap
    pub words : ERegs
    pub keeps : Keeps numbers fixed heap regs tuples words
    pub at : ℕ → ℕ
    pub wregs : WRegs
    pub memory : Memory
    pub wcode : WSeq
    pub shows : Shows place (zone_of place y many P W) at tuples words wregs memory
    pub settled : Settled place y many P W at
    pub is_code : IsSeq base fixed many W.blocks code wcode
    pub here : x ≡ WAt wregs memory [] wcode

  -- some steps later it shows the next state
  abbrev pub On : ℕ → WState → Type 0
  On m x = (n : ℕ) × (y : WState) × (wrun place W.blocks (suc n) x ≡ Some y) × Holds (suc m) y

  -- or it has ended
  abbrev pub Ended : ℕ → WState → Type 0
  Ended m x =
      ((i : ℤ) × HaltedAfter P m i × ReachesExit place y many P W x 0 (texts.integer i))
      ⊎ ReachesExit place y many P W x 7 texts.full

  plain : (m : ℕ) (x : WState) (h : Holds m x) → Plain h.code → (w : Where) (g : EHeap) (q : ERegs) (f : ESeq) →
      estep (erase_blocks P) (EAt h.heap h.regs h.code) ≡ Some (EGoes w (EAt g q f)) → On m x
  plain m x h p w g q f s =
      let k = laws.follows (erase_blocks P) h.numbers fixed h.heap h.regs h.tuples h.words h.code w g q f h.keeps
      (fixed_next base fixed many W.blocks h.code h.wcode h.is_code) s in
      let sized = h.keeps.sized in
      let low = h.keeps.fixed in
      let to = steps.moved place (zone_of place y many P W) W.blocks base fixed
      (erase_blocks P) is.blocks apart.1 h.at h.tuples h.words h.wregs
      h.memory [] h.shows h.settled (omega (arith, sized, low)) h.code p w k.heap k.regs f h.wcode h.is_code
      k.steps in (
        to.steps,
        WAt to.regs to.memory [] to.code,
        ap (wrun place W.blocks (suc to.steps)) h.here ∙ to.runs,
        record {
          heap = g;
          regs = q;
          code = f;
          spot = machine.moved h.spot w;
          erased = laws.next P whole accepted m (erase_blocks P) (EAt h.heap h.regs h.code) h.spot h.erased w
              (EAt g q f) s;
          numbers = _;
          tuples = k.heap;
          words = k.regs;
          keeps = k.keeps;
          at = h.at;
          wregs = to.regs;
          memory = to.memory;
          wcode = to.code;
          shows = to.shows;
          settled = h.settled;
          is_code = to.is_code;
          here = refl;
        },
      )

  -- A tuple is taken, whatever was dropped before.
  module _ (m : ℕ) (rd n : ℕ) (e : ESeq) (heap : EHeap) (regs : ERegs) (spot : Place)
      (erased : Erased P m (erase_blocks P) (EAt heap regs (EThen (EMalloc rd n) e)) spot) (small : n < 2 ^ 31)
      (named : rd < many) (c : WSeq) (is_code : IsSeq base fixed many W.blocks e c) where
    took : (numbers : List ℕ) (tuples : EHeap) (words : ERegs) (at : ℕ → ℕ) (R : WRegs) (memory : Memory) →
        Keeps numbers fixed heap regs tuples words → Shows place (zone_of place y many P W) at tuples words R memory →
        Settled place y many P W at →
        R free_reg + bytes (room_for n) ≤ R limit_reg →
        (y : WState) × (wrun place W.blocks 4 (WAt R memory [] (taken rd n c)) ≡ Some y)
        × Holds (suc m) y
    took numbers tuples words at R memory keeps shows settled room =
        let sized = keeps.sized in
        let low = keeps.fixed in
        let t = mallocs.takes place (zone_of place y many P W) W.blocks at tuples words R memory [] shows n small
        (omega (arith, sized, low)) rd c named room in
        let k = laws.follows (erase_blocks P) numbers fixed heap regs tuples words (EThen (EMalloc rd n) e) Next
        (heap ++ replicate n EEmpty ∷ []) (with_reg regs rd (EAddress (length heap))) e keeps tt refl in
        let step : ◌≡◌ {A = Option EStep}
        (Some (EGoes Next (EAt (tuples ++ replicate n EEmpty ∷ []) (with_reg words rd (EAddress (length tuples))) e)))
        (Some (EGoes Next (EAt k.heap k.regs e))) = k.steps in
        let e1 : tuples ++ replicate n EEmpty ∷ [] ≡ k.heap = cc in
        let e2 : with_reg words rd (EAddress (length tuples)) ≡ k.regs = cc in
        let new = with_word at (length tuples) (R free_reg + 8) in
        let after = with_word memory (R free_reg) (Some n) in (
          WAt t.regs after [] c,
          t.runs,
          record {
            heap = heap ++ replicate n EEmpty ∷ [];
            regs = with_reg regs rd (EAddress (length heap));
            code = e;
            spot = machine.moved spot Next;
            erased = laws.next P whole accepted m (erase_blocks P) (EAt heap regs (EThen (EMalloc rd n) e)) spot erased
                Next (EAt (heap ++ replicate n EEmpty ∷ []) (with_reg regs rd (EAddress (length heap))) e) refl;
            numbers = _;
            tuples = k.heap;
            words = k.regs;
            keeps = k.keeps;
            at = new;
            wregs = t.regs;
            memory = after;
            wcode = c;
            shows = subst (λ z. Shows place (zone_of place y many P W) new z k.regs t.regs after) e1
                (subst (λ z. Shows place (zone_of place y many P W) new
                (tuples ++ replicate n EEmpty ∷ []) z t.regs after) e2 t.shows);
            settled = λ d lt.
                written_apart at (length tuples) (R free_reg + 8) d (λ s. omega (arith, s, lt, sized, low))
                ∙ settled d lt;
            is_code = is_code;
            here = refl;
          },
        )

  malloc : (m : ℕ) (x : WState) (h : Holds m x) (rd n : ℕ) (e : ESeq) → h.code ≡ EThen (EMalloc rd n) e →
      On m x ⊎ Ended m x
  malloc m x h rd n e s =
      let k = subst (λ z. IsSeq base fixed many W.blocks z h.wcode) s h.is_code in
      let erased = subst (λ z. Erased P m (erase_blocks P) (EAt h.heap h.regs z) h.spot) s h.erased in
      let there = runtime.there in
      let sized = h.keeps.sized in
      let low = h.keeps.fixed in
      let start : x ≡ WAt h.wregs h.memory [] (asked k.1 n) =
      h.here ∙ ap (WAt h.wregs h.memory []) k.5 in
      ⊎_elim
      (λ (enough : mallocs.Enough place (zone_of place y many P W) W.blocks h.at h.tuples h.words h.wregs h.memory []
      h.shows n
      k.3 (omega (arith, sized, low)) k.1 (taken rd n k.0)).
      let t = took m rd n e h.heap h.regs h.spot erased k.3 k.6 k.0 k.2 h.numbers h.tuples h.words h.at enough.regs
      h.memory
      h.keeps enough.shows h.settled enough.room in
      inl (
        5,
        t.0,
        run_join place W.blocks 2 4 x _ (Some t.0) (ap (wrun place W.blocks 2) start
            ∙ enough.runs) t.1,
        t.2,
      ))
      (λ (wants : mallocs.Wants place (zone_of place y many P W) W.blocks h.at h.tuples h.words h.wregs h.memory []
      h.shows n k.3
      (omega (arith, sized, low)) k.1 there.0).
      let asks = ap (wrun place W.blocks 5) start ∙ wants.runs in
      ⊎_elim
      (λ (full : ReachesExit place y many P W (WAt wants.regs h.memory [] there.0) 7 texts.full).
      inr (inr (full.0, (5 + full.1.0, run_join place W.blocks 5 full.1.0 x _ (Some full.0) asks full.1.1), full.2)))
      (λ (made : Made place y many P W h.tuples h.words (WAt wants.regs h.memory [] there.0)
      (room_for n) (taken rd n k.0)).
      let keeps = laws.drops h.numbers fixed h.heap h.regs h.tuples h.words made.marks h.keeps made.closed in
      let t = took m rd n e h.heap h.regs h.spot erased k.3 k.6 k.0 k.2 (marked made.marks h.numbers)
      (dropped_heap made.marks h.tuples) (dropped_regs made.marks h.words) made.at made.regs made.memory
      keeps made.shows made.settled made.room in
      let long : suc (4 + made.reaches.0 + 4) ≡ 5 + (made.reaches.0 + 4) = omega arith in
      inl (
        4 + made.reaches.0 + 4,
        t.0,
        ap (λ j. wrun place W.blocks j x) long
            ∙ run_join place W.blocks 5 (made.reaches.0 + 4) x _ (Some t.0) asks
            (run_join place W.blocks made.reaches.0 4 _ _ (Some t.0) made.reaches.1 t.1),
        t.2,
      ))
      (runtime.rooms there.0 there.1 h.at h.tuples h.words wants.regs h.memory (room_for n) k.1 (taken rd n k.0)
      wants.shows h.settled (omega (arith, sized, low)) (mallocs.small_room n k.3) wants.need wants.back k.4))
      (mallocs.asks place (zone_of place y many P W) W.blocks h.at h.tuples h.words h.wregs h.memory [] h.shows n k.3
      (omega (arith, sized, low)) k.1 (taken rd n k.0) there.0 k.4 there.1)

  halted : (m : ℕ) (x : WState) (h : Holds m x) (i : ℤ) → h.code ≡ EHalt → h.regs 1 ≡ Some (EInt i) →
      HaltedAfter P m i → Ended m x
  halted m x h i s e a =
      let k = subst (λ z. IsSeq base fixed many W.blocks z h.wcode) s h.is_code in
      let one = back_int h.numbers (h.words 1) i (sym (h.keeps.regs 1) ∙ e) in
      let to = runtime.halts h.at h.tuples h.words h.wregs h.memory i h.shows one in
      let start : x ≡ WAt h.wregs h.memory [] (WJump halt_label) = h.here ∙ ap (WAt h.wregs h.memory []) k in
      let jump : wstep place W.blocks x ≡ Some (WAt h.wregs h.memory [] to.0) =
      ap (wstep place W.blocks) start ∙ ap (option_map (WAt h.wregs h.memory [])) to.1 in
      let exit = to.2 in
      inl (
        i,
        a,
        (
          exit.0,
          (
            suc exit.1.0,
            run_step place W.blocks exit.1.0 x (WAt h.wregs h.memory [] to.0) (Some exit.0) jump exit.1.1,
          ),
          exit.2,
        ),
      )

  -- one of the two
  pub advance : (m : ℕ) (x : WState) → Holds m x → On m x ⊎ Ended m x
  advance m x h = ⊎_elim
      (λ (e : (i : ℤ) × EHaltedWith (EAt h.heap h.regs h.code) i).
      let a = (laws.halts P whole accepted m (erase_blocks P) (EAt h.heap h.regs h.code) h.spot h.erased e.0).0 e.1 in
      let end = at_end h.heap h.regs h.code e.0 e.1 in
      inr (halted m x h e.0 end.0 end.1 a))
      (λ (e : (y : EStep) × (estep (erase_blocks P) (EAt h.heap h.regs h.code) ≡ Some y)). by_code h.code refl e.0 e.1)
      (laws.goes P whole accepted m (erase_blocks P) (EAt h.heap h.regs h.code) h.spot h.erased)
    where
      by_state : (p : Plain h.code) (w : Where) (f : EState) →
          estep (erase_blocks P) (EAt h.heap h.regs h.code) ≡ Some (EGoes w f) → On m x
      by_state p w (EAt g q f) s = plain m x h p w g q f s

      not_malloc : (y : EStep) → Plain h.code → estep (erase_blocks P) (EAt h.heap h.regs h.code) ≡ Some y → On m x
      not_malloc (EGoes w f) p s = by_state p w f s

      by_code : (c : ESeq) → h.code ≡ c → (y : EStep) → estep (erase_blocks P) (EAt h.heap h.regs h.code) ≡ Some y →
          On m x ⊎ Ended m x
      by_code (EThen (EMalloc rd n) e) s y t = malloc m x h rd n e s
      by_code (EThen (EArith op rd rs b) e) s y t = inl (not_malloc y (subst Plain (sym s) tt) t)
      by_code (EThen (EBnz q b) e) s y t = inl (not_malloc y (subst Plain (sym s) tt) t)
      by_code (EThen (ELd rd rs i) e) s y t = inl (not_malloc y (subst Plain (sym s) tt) t)
      by_code (EThen (EMov rd b) e) s y t = inl (not_malloc y (subst Plain (sym s) tt) t)
      by_code (EThen (ESt rd i rs) e) s y t = inl (not_malloc y (subst Plain (sym s) tt) t)
      by_code (EJmp b) s y t = inl (not_malloc y (subst Plain (sym s) tt) t)
      by_code EHalt s y t = inl (not_malloc y (subst Plain (sym s) tt) t)
