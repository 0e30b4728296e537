-- A program that makes few tuples never asks for memory: free memory is what was in use at first, less what was made.
use Rattle.std.proofs.Common.{◌≡◌, ℕ, zero, suc, ◌+◌, ◌<◌, ◌≤◌, List, [], ◌∷◌, ◌++◌, length, Option, Some, refl}
use Rattle.std.proofs.Common.{ap, ◌∙◌, subst, arith, slice_get, replicate, ⊎_elim, option_and_then}
use Rattle.std.specs.Prelude.{ℤ, option_map}
use Rattle.std.proofs.lemmas.List.{length_push}
use Rattle.std.proofs.lemmas.Option.{slice_get-map}
use Rattle.t_terms.specs.Tree.{TProg, TBlock}
use Rattle.t_terms.specs.Whole.{Whole}
use Rattle.t_terms.specs.Registers.{with_reg}
use Rattle.t_rules.specs.Rules.{Accepted}
use Rattle.t_rules.specs.Machine.{Where, Next, Place, Spot, HaltedAfter, moved}
use Rattle.t_rules.specs.Erase.{EAddress, EEmpty, EArith, EBnz, ELd, EMalloc, EMov, ESt, ESeq, EThen, EJmp, EHalt}
use Rattle.t_rules.specs.Erase.{EHeap, ERegs, EAt, EStep, EGoes, EHaltedWith, Erased, estep, erase_block, erase_blocks}
use Rattle.t_rules.specs.Erase.{erase_heap, no_ewords}
use Rattle.w_terms.specs.Tree.{WSeq, WProg, WJump}
use Rattle.w_terms.specs.Machine.{WRegs, Memory, WState, WAt, wstep, wrun, with_word, Places, Exits, start_memory}
use Rattle.w_terms.proofs.Machine.{written_apart, run_join}
use Rattle.w_print.specs.Prints.{PrintsInteger}
use Rattle.w_rooms.specs.Numbers.{free_reg, limit_reg, halt_label, bytes}
use Rattle.w_rooms.specs.Rooms.{room_code}
use Rattle.w_rooms.specs.Numbers.{slow_label}
use Rattle.w_laws.specs.Code.{room_for, taken, asked, places, IsSeq}
use Rattle.w_laws.specs.Shows.{Zone, Shows}
use Rattle.w_laws.specs.ProgramLaws.{ProgramLaws}
use Rattle.w_laws.specs.Runtime.{ReachesExit, zone_of}
use Rattle.w_laws.specs.Built.{IsBuilt, program_layout, first_use, line_texts, start_code}
use Rattle.w_laws.specs.Enough.{made_by, made_behind, bytes_made, EnoughAtFirst}
use Rattle.w_laws.proofs.Advance.{at_end}
use Rattle.w_laws.proofs.Steps.{Plain, run_step}
use Rattle.w_laws.proofs.Steps as steps
use Rattle.w_laws.proofs.Mallocs as mallocs
use Rattle.w_laws.proofs.Runtimes as runtimes

module _ (laws : ProgramLaws) (print : PrintsInteger) (P : TProg) (whole : Whole P) (accepted : Accepted P)
    (base heap : ℕ) (W : WProg) (is : IsBuilt P base heap W) (place : ℕ → ℕ) (apart : Places place W) where
  abbrev es : List ESeq
  es = erase_blocks P

  abbrev zone : Zone
  zone = zone_of place (program_layout base heap is.many P) is.many P W

  abbrev fixed : ℕ
  fixed = length P.heap

  abbrev data_at_first : ℕ → ℕ
  data_at_first = places P W is.many

  abbrev Says : WState → ℤ → Type 0
  Says x i = ReachesExit place (program_layout base heap is.many P) is.many P W x 0 (line_texts.integer i)

  -- the state of word code shows that of the program, and so many bytes are free
  record Fresh (h : EHeap) (r : ERegs) (e : ESeq) (left : ℕ) (x : WState) : Type 0 where
    pub at : ℕ → ℕ
    pub wregs : WRegs
    pub memory : Memory
    pub wcode : WSeq
    pub shows : Shows place zone at h r wregs memory
    pub settled : (d : ℕ) → d < fixed → at d ≡ data_at_first d
    pub sized : fixed ≤ length h
    pub window : wregs free_reg + left ≤ wregs limit_reg
    pub is_code : IsSeq data_at_first fixed is.many W.blocks e wcode
    pub here : x ≡ WAt wregs memory [] wcode

  -- some steps later it shows the next state
  abbrev On : EHeap → ERegs → ESeq → ℕ → WState → Type 0
  On h r e left x = (n : ℕ) × (z : WState) × (wrun place W.blocks (suc n) x ≡ Some z) × Fresh h r e left z

  plain : (h : EHeap) (r : ERegs) (e : ESeq) (left : ℕ) (x : WState) → Fresh h r e (0 + left) x → Plain e →
      (w : Where) (g : EHeap) (q : ERegs) (f : ESeq) → estep es (EAt h r e) ≡ Some (EGoes w (EAt g q f)) →
      On g q f left x
  plain h r e left x k p w g q f s =
      let to = steps.moved place zone W.blocks data_at_first fixed es is.translation.blocks apart.1 k.at h r k.wregs
      k.memory []
      k.shows k.settled k.sized e p w g q f k.wcode k.is_code s in
      let free = to.free in
      let limit = to.limit in
      let left' = k.window in (
        to.steps,
        WAt to.regs to.memory [] to.code,
        ap (wrun place W.blocks (suc to.steps)) k.here ∙ to.runs,
        record {
          at = k.at;
          wregs = to.regs;
          memory = to.memory;
          wcode = to.code;
          shows = to.shows;
          settled = k.settled;
          sized = to.sized;
          window = omega (arith, free, limit, left');
          is_code = to.is_code;
          here = refl;
        },
      )

  malloc : (h : EHeap) (r : ERegs) (rd n : ℕ) (e : ESeq) (left : ℕ) (x : WState) →
      Fresh h r (EThen (EMalloc rd n) e) (bytes (room_for n) + left) x →
      On (h ++ replicate n EEmpty ∷ []) (with_reg r rd (EAddress (length h))) e left x
  malloc h r rd n e left x k =
      let c = k.is_code in
      let low = k.sized in
      let left' = k.window in
      let room = room_code (program_layout base heap is.many P) is.many slow_label in
      let there : slice_get W.blocks 2 ≡ Some room = runtimes.block_at P whole base heap W is place 2 in
      let start : x ≡ WAt k.wregs k.memory [] (asked c.1 n) = k.here ∙ ap (WAt k.wregs k.memory []) c.5 in
      ⊎_elim
      (λ (p : mallocs.Enough place zone W.blocks k.at h r k.wregs k.memory [] k.shows n c.3 k.sized c.1 (taken rd n
      c.0)).
      let t = mallocs.takes place zone W.blocks k.at h r p.regs k.memory [] p.shows n c.3 k.sized rd c.0 c.6 p.room in
      let after = with_word k.memory (p.regs free_reg) (Some n) in
      let more = length_push h (replicate n EEmpty) in
      let f0 = p.free in
      let f1 = p.limit in
      let f2 = t.free in
      let f3 = t.limit in (
        5,
        WAt t.regs after [] c.0,
        run_join place W.blocks 2 4 x _ (Some (WAt t.regs after [] c.0)) (ap (wrun place W.blocks 2) start ∙ p.runs)
            t.runs,
        record {
          at = with_word k.at (length h) (p.regs free_reg + 8);
          wregs = t.regs;
          memory = after;
          wcode = c.0;
          shows = t.shows;
          settled = λ d lt. written_apart k.at (length h) (p.regs free_reg + 8) d (λ s. omega (arith, s, lt, low))
              ∙ k.settled d lt;
          sized = omega (arith, more, low);
          window = omega (arith, left', f0, f1, f2, f3);
          is_code = c.2;
          here = refl;
        },
      ))
      (λ (p : mallocs.Wants place zone W.blocks k.at h r k.wregs k.memory [] k.shows n c.3 k.sized c.1 room).
      let lacks = p.lacks in absurd (omega (arith, lacks, left')))
      (mallocs.asks place zone W.blocks k.at h r k.wregs k.memory [] k.shows n c.3 k.sized c.1 (taken rd n c.0) room c.4
      there)

  step : (e : ESeq) (h : EHeap) (r : ERegs) (left : ℕ) (x : WState) → Fresh h r e (made_by e + left) x → (w : Where)
      (g : EHeap) (q : ERegs) (f : ESeq) → estep es (EAt h r e) ≡ Some (EGoes w (EAt g q f)) → On g q f left x
  step (EThen (EMalloc rd n) e) h r left x k w g q f s =
      let t : ◌≡◌ {A = Option EStep}
      (Some (EGoes Next (EAt (h ++ replicate n EEmpty ∷ []) (with_reg r rd (EAddress (length h))) e)))
      (Some (EGoes w (EAt g q f))) = s in
      let e1 : h ++ replicate n EEmpty ∷ [] ≡ g = cc in
      let e2 : with_reg r rd (EAddress (length h)) ≡ q = cc in
      let e3 : e ≡ f = cc in
      subst (λ z. On g q z left x) e3 (subst (λ z. On g z e left x) e2
      (subst (λ z. On z (with_reg r rd (EAddress (length h))) e left x) e1 (malloc h r rd n e left x k)))
  step (EThen (EArith op rd rs b) e) h r left x k w g q f s = plain h r _ left x k tt w g q f s
  step (EThen (EBnz t b) e) h r left x k w g q f s = plain h r _ left x k tt w g q f s
  step (EThen (ELd rd rs i) e) h r left x k w g q f s = plain h r _ left x k tt w g q f s
  step (EThen (EMov rd b) e) h r left x k w g q f s = plain h r _ left x k tt w g q f s
  step (EThen (ESt rd i rs) e) h r left x k w g q f s = plain h r _ left x k tt w g q f s
  step (EJmp b) h r left x k w g q f s = plain h r _ left x k tt w g q f s
  step EHalt h r left x k w g q f s = plain h r _ left x k tt w g q f s

  halted : (h : EHeap) (r : ERegs) (e : ESeq) (left : ℕ) (x : WState) → Fresh h r e left x → (i : ℤ) →
      EHaltedWith (EAt h r e) i → Says x i
  halted h r e left x k i d =
      let z = at_end h r e i d in
      let c = subst (λ z. IsSeq data_at_first fixed is.many W.blocks z k.wcode) z.0 k.is_code in
      let to = runtimes.halted P whole base heap W is place print k.at h r k.wregs k.memory i k.shows z.1 in
      let start : x ≡ WAt k.wregs k.memory [] (WJump halt_label) = k.here ∙ ap (WAt k.wregs k.memory []) c in
      let jump : wstep place W.blocks x ≡ Some (WAt k.wregs k.memory [] to.0) =
      ap (wstep place W.blocks) start ∙ ap (option_map (WAt k.wregs k.memory [])) to.1 in
      let exit = to.2 in (
        exit.0,
        (
          suc exit.1.0,
          run_step place W.blocks exit.1.0 x (WAt k.wregs k.memory [] to.0) (Some exit.0) jump exit.1.1,
        ),
        exit.2,
      )

  -- the program goes on, and halts k steps later
  next : (k m : ℕ) (h : EHeap) (r : ERegs) (e : ESeq) (spot : Place) (x : WState) → Erased P m es (EAt h r e) spot →
      Fresh h r e (bytes_made es (suc k) (EAt h r e)) x → (i : ℤ) → HaltedAfter P (m + suc k) i →
      ((g : EHeap) (q : ERegs) (f : ESeq) (p : Place) (z : WState) → Erased P (suc m) es (EAt g q f) p →
      Fresh g q f (bytes_made es k (EAt g q f)) z → HaltedAfter P (suc m + k) i → Says z i) →
      (s : EStep) → estep es (EAt h r e) ≡ Some s → Says x i
  next k m h r e spot x erased fresh i halts go (EGoes w (EAt g q f)) s =
      let left = bytes_made es k (EAt g q f) in
      let more : bytes_made es (suc k) (EAt h r e) ≡ made_by e + left
      = ap (λ o. made_by e + made_behind (bytes_made es k) o) s in
      let on = step e h r left x (subst (λ n. Fresh h r e n x) more fresh) w g q f s in
      let after = laws.next P whole.0 accepted m es (EAt h r e) spot erased w (EAt g q f) s in
      let long : m + suc k ≡ suc m + k = omega arith in
      let exit = go g q f (moved spot w) on.1 after on.3 (subst (λ n. HaltedAfter P n i) long halts) in (
        exit.0,
        (
          suc on.0 + exit.1.0,
          run_join place W.blocks (suc on.0) exit.1.0 x on.1 (Some exit.0) on.2 exit.1.1,
        ),
        exit.2,
      )

  -- it does not go on where it has halted
  no_step : (m : ℕ) (h : EHeap) (r : ERegs) (e : ESeq) (spot : Place) (x : WState) → Erased P m es (EAt h r e) spot →
      (i : ℤ) → HaltedAfter P m i → (s : EStep) → estep es (EAt h r e) ≡ Some s → Says x i
  no_step m h r e spot x erased i halts (EGoes w f) s =
      let after = laws.next P whole.0 accepted m es (EAt h r e) spot erased w f s in
      let le : suc m ≤ m = laws.last P m (suc m) i after.1.0 (moved spot w) halts after.1.1 in
      absurd (omega (arith, le))

  stopped : (k m : ℕ) (h : EHeap) (r : ERegs) (e : ESeq) (spot : Place) (left : ℕ) (x : WState) →
      Erased P m es (EAt h r e) spot → Fresh h r e left x → (i j : ℤ) → HaltedAfter P (m + k) i →
      EHaltedWith (EAt h r e) j → Says x i
  stopped k m h r e spot left x erased fresh i j halts d =
      let a = (laws.halts P whole.0 accepted m es (EAt h r e) spot erased j).0 d in
      let same : j ≡ i = laws.answer P m (m + k) j i (m, (omega arith), a) (m + k, (omega arith), halts) in
      subst (Says x) same (halted h r e left x fresh j d)

  go : (k m : ℕ) (h : EHeap) (r : ERegs) (e : ESeq) (spot : Place) (x : WState) → Erased P m es (EAt h r e) spot →
      Fresh h r e (bytes_made es k (EAt h r e)) x → (i : ℤ) → HaltedAfter P (m + k) i → Says x i
  go zero m h r e spot x erased fresh i halts = ⊎_elim
      (λ (d : (j : ℤ) × EHaltedWith (EAt h r e) j). stopped 0 m h r e spot _ x erased fresh i d.0 halts d.1)
      (λ (d : (z : EStep) × (estep es (EAt h r e) ≡ Some z)).
      let none : m + 0 ≡ m = omega arith in
      no_step m h r e spot x erased i (subst (λ n. HaltedAfter P n i) none halts) d.0 d.1)
      (laws.goes P whole.0 accepted m es (EAt h r e) spot erased)
  go (suc k) m h r e spot x erased fresh i halts = ⊎_elim
      (λ (d : (j : ℤ) × EHaltedWith (EAt h r e) j). stopped (suc k) m h r e spot _ x erased fresh i d.0 halts d.1)
      (λ (d : (z : EStep) × (estep es (EAt h r e) ≡ Some z)).
      next k m h r e spot x erased fresh i halts (λ g q f p z er fr ha. go k (suc m) g q f p z er fr i ha) d.0 d.1)
      (laws.goes P whole.0 accepted m es (EAt h r e) spot erased)

  enough : (R : WRegs) (b : TBlock) → slice_get P.blocks 0 ≡ Some b → (n : ℕ) (i : ℤ) → HaltedAfter P n i →
      bytes_made es n (EAt (erase_heap P) no_ewords (erase_block b)) ≤ first_use heap →
      Exits place W R 0 (line_texts.integer i)
  enough R b first n i halts le =
      let y = program_layout base heap is.many P in
      let m = start_memory place W in
      let made = bytes_made es n (EAt (erase_heap P) no_ewords (erase_block b)) in
      let in' : slice_get es 0 ≡ Some (erase_block b) =
      slice_get-map erase_block P.blocks 0 ∙ ap (option_map erase_block) first in
      let c = is.translation.blocks 0 (erase_block b) in' in
      let code = start_code y.base (y.base + first_use heap) in
      let there : slice_get W.blocks 0 ≡ Some code = runtimes.block_at P whole base heap W is place 0 in
      let S = runtimes.S P whole base heap W is place R in
      let run : wrun place W.blocks 5 (WAt R m [] code) ≡ Some (WAt S m [] c.0)
      = ap (λ o. option_and_then (wrun place W.blocks 0) (option_map (WAt S m []) o)) c.1 in
      let long = runtimes.sized P whole base heap W is place in
      let window : y.base + made ≤ y.base + first_use heap = omega (arith, le) in
      let fresh : Fresh (erase_heap P) no_ewords (erase_block b) made (WAt S m [] c.0) = record {
        at = data_at_first;
        wregs = S;
        memory = m;
        wcode = c.0;
        shows = runtimes.shows P whole base heap W is place R;
        settled = λ d lt. refl;
        sized = omega (arith, long);
        window = window;
        is_code = c.2;
        here = refl;
      } in
      let none : n ≡ 0 + n = omega arith in
      let exit = go n 0 (erase_heap P) no_ewords (erase_block b) (Spot 0 0) (WAt S m [] c.0) (laws.starts P b first)
      fresh i (subst (λ k. HaltedAfter P k i) none halts) in (
        5 + exit.1.0,
        WAt R m [] code,
        exit.0,
        (code, there, refl),
        run_join place W.blocks 5 exit.1.0 (WAt R m [] code) (WAt S m [] c.0) (Some exit.0) run exit.1.1,
        exit.2,
      )

pub few_are_enough : ProgramLaws → PrintsInteger → EnoughAtFirst
few_are_enough laws print P whole accepted base heap W is place apart R words =
    enough laws print P whole accepted base heap W is place apart R
