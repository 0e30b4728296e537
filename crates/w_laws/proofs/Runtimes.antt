-- The blocks of the runtime do what a runtime has to do.
use Rattle.std.proofs.Common.{◌≡◌, ℕ, zero, suc, ◌+◌, ◌-◌, ◌*◌, ◌/◌, ◌%◌, ◌<◌, ◌≤◌, ◌^◌, List, [], ◌∷◌, ◌++◌, length}
use Rattle.std.proofs.Common.{map, Bool}
use Rattle.std.proofs.Common.{Some, refl, sym, ap, ◌∙◌, subst, arith, slice_get, inl, inr, ◌⊎◌, ⊎_elim, codes}
use Rattle.std.proofs.Common.{option_and_then}
use Rattle.std.specs.Prelude.{option_map}
use Rattle.std.proofs.lemmas.List.{length-map}
use Rattle.std.proofs.lemmas.Option.{slice_get-get_or}
use Rattle.t_terms.specs.Tree.{TProg}
use Rattle.t_terms.specs.Whole.{Whole}
use Rattle.t_rules.specs.Erase.{EWord, EInt, EAddress, ELabel, EEmpty, EHeap, ERegs, erase_datum, erase_heap, no_ewords}
use Rattle.t_collect.specs.Dropped.{dropped_regs}
use Rattle.w_terms.specs.Tree.{WSeq, WProg}
use Rattle.w_terms.specs.Machine.{WRegs, Memory, Put, WState, WAt, wrun, with_word, ExitsWith, Places}
use Rattle.w_terms.specs.Machine.{bytes_at, start_memory, image_word, datum_word}
use Rattle.w_terms.specs.declared.program.WDatum.{WDatum}
use Rattle.w_terms.specs.declared.program.WDatum.TheVariants as D
use Rattle.w_print.specs.Blocks.{print_code, integer_line, powers_from, zeros, HasBlocks, HasTable}
use Rattle.w_print.specs.Prints.{PrintsInteger}
use Rattle.w_print.specs.Words.{WordsSay}
use Rattle.w_runtime.specs.Blocks.{Layout, Stand}
use Rattle.w_runtime.specs.Room as room
use Rattle.w_rooms.specs.Numbers.{free_reg, limit_reg, need_reg, back_reg, end_reg, sweep_reg, reg, bytes}
use Rattle.w_rooms.specs.Numbers.{print_label, slow_label}
use Rattle.w_rooms.specs.Rooms.{Represents, Kept, RoomsEnd, room_code, text_code}
use Rattle.w_rooms.proofs.Lists.{reg_stays}
use Rattle.w_rooms.proofs.Starting.{begun}
use Rattle.w_laws.specs.Code.{own_words, places, datum, data_words}
use Rattle.w_laws.specs.Shows.{Zone, IsWord, Shows}
use Rattle.w_laws.specs.Runtime.{IsRuntime, zone_of, Halts, ReachesExit, Made, Settled}
use Rattle.w_laws.specs.Built.{IsBuilt, program_layout, first_use, full_line, line_texts, runtime_blocks, runtime_words}
use Rattle.w_laws.specs.Built.{start_code, collector_labels, EachBuiltMeansTheSame}
use Rattle.w_laws.specs.Laws.{MeaningIsKept}
use Rattle.w_laws.proofs.Words.{constant}
use Rattle.w_laws.proofs.Data.{heap_below, heap_fits}
use Rattle.w_laws.proofs.Layouts as layouts
use Rattle.w_laws.proofs.Starting.{Stand as Row, stand_split, data_field, data_apart, data_inside, from_start, word_at}
use Rattle.w_laws.proofs.Starting.{image_stands}

powers_at : (n k e : ℕ) (rest : List WDatum) → e < n →
    slice_get (powers_from k n ++ rest) e ≡ Some (D.Number (10 ^ (k + e)))
powers_at zero k e rest lt = absurd (omega (arith, lt))
powers_at (suc n) k zero rest lt = let none : k ≡ k + 0 = omega arith in ap (λ x. Some (D.Number (10 ^ x))) none
powers_at (suc n) k (suc e) rest lt =
    let next : suc k + e ≡ k + suc e = omega arith in
    powers_at n (suc k) e rest (omega (arith, lt)) ∙ ap (λ x. Some (D.Number (10 ^ x))) next

one : {A : Type 0} {x y : A} → Some x ≡ Some y → x ≡ y
one e = cc

module _ (P : TProg) (whole : Whole P) (base heap : ℕ) (W : WProg) (is : IsBuilt P base heap W) (place : ℕ → ℕ) where
  abbrev h : EHeap
  h = erase_heap P

  abbrev many : ℕ
  many = is.many

  abbrev at : ℕ → ℕ
  at = places P W is.many

  abbrev m : Memory
  m = start_memory place W

  abbrev y : Layout
  y = program_layout base heap is.many P

  abbrev zone : Zone
  zone = zone_of place (program_layout base heap is.many P) is.many P W

  -- where the data begin
  abbrev start : ℕ
  start = W.base + 8 * own_words is.many

  pub block_at : (n : ℕ) → slice_get W.blocks n ≡ slice_get (runtime_blocks y base heap is.many ++ is.rest) n
  block_at n = ap (λ (bs : List WSeq). slice_get bs n) is.blocks

  -- the first words
  word : (k : ℕ) → k < 32 →
      m (base + 8 * k) ≡ Some (image_word place (slice_get (runtime_words is.many ++ data_words at h) k))
  word k lt =
      let e = is.begins in
      let f = is.ends in
      let top = layouts.top_is P base heap W is place in
      let there : base + 8 * k ≡ W.base + 8 * k = omega (arith, e) in
      ap m there ∙ word_at place W k (omega (arith, lt, f, top))
      ∙ ap (λ (xs : List WDatum). Some (image_word place (slice_get xs k)))
      (is.translation.image ∙ ap (λ (o : List WDatum). o ++ data_words at h) is.own)

  power_at : (e : ℕ) → e < 19 →
      slice_get (runtime_words is.many ++ data_words at h) (8 + e) ≡ Some (D.Number (10 ^ e))
  power_at e lt =
      let eight : 8 + e ≡ suc (suc (suc (suc (suc (suc (suc (suc e))))))) = omega arith in
      let none : 0 + e ≡ e = omega arith in
      ap (slice_get (runtime_words is.many ++ data_words at h)) eight
      ∙ powers_at 19 0 e (zeros 4 ++ (zeros (suc is.many) ++ data_words at h)) lt
      ∙ ap (λ x. Some (D.Number (10 ^ x))) none

  -- The words that do not change: the text, and the table of powers.
  module _ (x : Memory) (still : (a : ℕ) → a < base + 248 → x a ≡ m a) where
    table : HasTable (base + 64) x
    table = record {
      powers = λ e lt.
          let there : base + 64 + 8 * e ≡ base + 8 * (8 + e) = omega arith in
          ap x there ∙ still (base + 8 * (8 + e)) (omega (arith, lt)) ∙ word (8 + e) (omega (arith, lt))
          ∙ ap (λ o. Some (image_word place o)) (power_at e lt);
      words = λ j lt.
          let there : base + 64 + 152 + 8 * j ≡ base + 8 * (27 + j) = omega arith in (
            image_word place (slice_get (runtime_words is.many ++ data_words at h) (27 + j)),
            ap x there ∙ still (base + 8 * (27 + j)) (omega (arith, lt)) ∙ word (27 + j) (omega (arith, lt)),
          );
    }

    text_there : WordsSay → bytes_at x base 14 ≡ Some full_line
    text_there say =
        let g = is.aligned in
        let eight : base ≡ 8 * (base / 8) = omega (arith, g) in
        let none : base ≡ base + 8 * 0 = omega arith in
        let next : base + 8 ≡ base + 8 * 1 = omega arith in
        say x base (base / 8) (codes "out of m") (codes "emory\n") eight (
          omega arith,
          (omega arith, (omega arith, (omega arith, (omega arith, (omega arith, (omega arith, (omega arith, tt))))))),
        )
        (omega arith, (omega arith, (omega arith, (omega arith, (omega arith, (omega arith, tt))))))
        refl (omega arith)
        (still base (omega arith) ∙ ap m none ∙ word 0 (omega arith))
        (still (base + 8) (omega arith) ∙ ap m next ∙ word 1 (omega arith))

  -- the words of the data, behind the runtime's own
  stands : Row place m start (data_words at h)
  stands =
      let f = is.ends in
      let e = is.begins in
      let top = layouts.top_is P base heap W is place in
      let long = layouts.image_long P base heap W is place in
      let holds : length W.image ≤ W.size = omega (arith, e, f, top, long) in
      let zero' : W.base + 8 * 0 ≡ W.base = omega arith in
      let all = image_stands place W holds W.image 0 (λ j x e.
      let none : 0 + j ≡ j = omega arith in ap (slice_get W.image) none ∙ e) in
      let from = subst (λ a. Row place m a W.image) zero' all in
      let parts = stand_split place m is.translation.own (data_words at h) W.base
      (subst (Row place m W.base) is.translation.image from) in
      let sized = is.translation.sized in
      let there : W.base + 8 * length is.translation.own ≡ start = omega (arith, sized) in
      subst (λ a. Row place m a (data_words at h)) there parts.1

  pub sized : length h ≡ length P.heap
  sized = length-map P.heap (map erase_datum)

  word_shown : (d i : ℕ) (t : List EWord) (w : EWord) → slice_get h d ≡ Some t → slice_get t i ≡ Some w →
      IsWord place zone at (length h) w (datum_word place (datum at w))
  word_shown d i t (EInt j) e f = constant j (heap_fits P.heap d i j t whole.1.1 e f)
  word_shown d i t (EAddress b) e f =
      let lt = heap_below (length P.blocks) (length P.heap) P.heap d i b t whole.0.2 e f in
      let s = sized in
      (omega (arith, lt, s), refl)
  word_shown d i t (ELabel l) e f = refl
  word_shown d i t EEmpty e f = tt

  -- a data tuple is among the roots, behind the saved registers
  among : (d i : ℕ) (t : List EWord) → slice_get h d ≡ Some t → i < length t →
      ((at d + 8 * i) % 8 ≡ 0) × (y.roots ≤ at d + 8 * i) × (at d + 8 * i < y.roots_end)
  among d i t e lt =
      let k = data_inside h start d i t e lt in
      let there = k.1 in
      let in' = k.2 in
      let b = is.begins in
      let g = is.aligned in
      let r0 = layouts.roots_is P base heap W is place in
      let r1 = layouts.end_is P base heap W is place in (
        (omega (arith, there, b, g)),
        (omega (arith, there, b, r0)),
        (omega (arith, there, in', b, r1)),
      )

  module _ (R : WRegs) where
    abbrev pub S : WRegs
    S = with_word (with_word (with_word (with_word R free_reg y.base) limit_reg (y.base + first_use heap)) end_reg
        (y.base + first_use heap)) sweep_reg (y.base + first_use heap)

    first : Represents place y (length h) at h no_ewords S m
    first = begun place y at h no_ewords S m (layouts.is_layout P base heap W is place)
        (layouts.is_use P base heap W is place) refl refl refl (layouts.no_marks P base heap W is place)
        (λ q w e. cc)
        (λ d i t w e f. (
          datum_word place (datum at w),
          data_field place m at h start d i t w stands e f,
          word_shown
              d i t w e f,
        ))
        (λ d e i j f g s. data_apart h start d e i j f.0 g.0 f.1 g.1 f.2 g.2 s)
        (λ d i f. among d i f.0 f.1 f.2)

    pub shows : Shows place zone at h no_ewords S m
    shows = record {
      represents = subst (λ n. Represents place y n at h no_ewords S m) sized first;
      named = λ q w e. cc;
      still = λ a lt. refl;
    }

  prints : HasBlocks (base + 64) print_label W.blocks
  prints = record {
    lead = block_at 3;
    digit = block_at 4;
    put = block_at 5;
    next = block_at 6;
    last = block_at 7;
  }

  collects : Stand y collector_labels W.blocks slow_label (text_code base 14)
  collects = record {
    slow_at = block_at 8;
    sweep_at = block_at 9;
    hit_at = block_at 10;
    tail_at = block_at 11;
    grow_at = block_at 12;
    claim_at = block_at 13;
    begin_at = block_at 14;
    take_at = block_at 16;
    scan_at = block_at 15;
    marked_at = block_at 17;
    full_at = block_at 18;
  }

  pub halted : PrintsInteger → Halts place y many P W line_texts
  halted print at' k s R x i shown one' =
      let word' = shown.represents.regs 1 (EInt i) one' in
      let g = is.aligned in
      let top = layouts.top_is P base heap W is place in
      let small = is.small in
      let eight : base + 64 ≡ 8 * (base / 8 + 8) = omega (arith, g) in
      let p = print place W.blocks (base + 64) print_label (base / 8 + 8) (reg 1) R x [] prints (table x shown.still)
      eight (omega (arith, top, small)) word'.0 in (
        print_code (base + 64) print_label (reg 1),
        block_at 1,
        subst (λ j. ReachesExit place y many P W (WAt R x [] (print_code (base + 64) print_label (reg 1))) 0
            (Put 1 (integer_line j) ∷ [])) word'.1 (p.1, (p.0, p.2), p.3),
      )

  -- where data tuples are settled their fields are behind the saved registers
  behind : (at' : ℕ → ℕ) → Settled place y many P W at' → (a i : ℕ) → a < length P.heap →
      y.roots + 8 * many ≤ at' a + 8 * i
  behind at' settled a i lt =
      let s = sized in
      let t = slice_get-get_or h a [] (omega (arith, lt, s)) in
      let low = from_start h start a _ t in
      let e = settled a lt in
      let b = is.begins in
      let r0 = layouts.roots_is P base heap W is place in
      omega (arith, low, e, b, r0)

  -- room is made for a tuple of n fields, or memory is wanted
  module _ (say : WordsSay) (ends : RoomsEnd) (apart : Places place W) (at' : ℕ → ℕ) (k : EHeap) (s : ERegs) (R : WRegs)
      (x : Memory) (n l : ℕ) (c : WSeq) (shown : Shows place zone at' k s R x) (settled : Settled place y many P W at')
      (some : length P.heap ≤ length k) (small : n < 2 ^ 31) (need : R need_reg ≡ bytes n) (back : R back_reg ≡ place l)
      (next : slice_get W.blocks l ≡ Some c) where
    abbrev from : WState
    from = WAt R x [] (room_code y is.many slow_label)

    kept_names : (marks : List Bool) (q : ℕ) (w : EWord) → dropped_regs marks s q ≡ Some w → q < many
    kept_names marks q w e = let v = reg_stays marks (s q) w e in shown.named q v.0 v.1

    made : Kept place W.blocks y (length P.heap) is.many at' k s R x [] from n c → Made place y many P W k s from n c
    made p =
        let o = p.represents.layout.roots_order in
        let b = p.represents.layout.base_order in
        let u = p.represents.layout.limit_order in
        record {
          marks = p.marks;
          closed = p.closed;
          at = p.at';
          regs = p.regs;
          memory = p.memory;
          reaches = p.reaches;
          shows = record {
            represents = p.represents;
            named = kept_names p.marks;
            still = λ a lt. p.same a (omega (arith, lt, o, b, u)) (inl lt) ∙ shown.still a lt;
          };
          settled = λ d lt. p.settled d lt ∙ settled d lt;
          room = p.room;
        }

    rooms : ReachesExit place y many P W from 7 line_texts.full ⊎ Made place y many P W k s from n c
    rooms =
        let r0 = layouts.roots_is P base heap W is place in
        let r1 = layouts.end_is P base heap W is place in
        ⊎_elim
        (λ (p : (z : WState) × room.Reaches place W.blocks from z × ExitsWith z 7 ([] ++ (Put 2 full_line ∷ []))).
        inl (p.0, p.1, p.2))
        (λ (p : Kept place W.blocks y (length P.heap) is.many at' k s R x [] from n c). inr (made p))
        (ends place W.blocks apart.1 y collector_labels slow_label base 14 full_line collects (omega (arith, r0))
        (length P.heap) at' k s R x [] n l c is.many shown.represents shown.named (omega (arith, r0, r1))
        (λ a i lt f. behind at' settled a i lt) some small (text_there x shown.still say) need back next)

  pub runtime : PrintsInteger → WordsSay → RoomsEnd → Places place W → IsRuntime place y many P W line_texts
  runtime print say ends apart = record {
    starts = λ R s c words start' next.
        let code : start'.0 ≡ start_code y.base (y.base + first_use heap) = one (sym start'.1 ∙ block_at 0) in
        let from : s ≡ WAt R m [] (start_code y.base (y.base + first_use heap)) = start'.2 ∙ ap (WAt R m []) code in (
          S R,
          m,
          (
            5,
            ap (wrun place W.blocks 5) from ∙ ap (λ o. option_and_then (wrun place W.blocks 0)
                (option_map (WAt (S R) m []) o)) next,
          ),
          shows R,
        );
    halts = halted print;
    begins = (start_code y.base (y.base + first_use heap), block_at 0);
    there = (room_code y is.many slow_label, block_at 2);
    rooms = λ code e at' k s R x n l c shown settled some small need back next.
        let same : room_code y is.many slow_label ≡ code = one (sym (block_at 2) ∙ e) in
        subst (λ z. ReachesExit place y many P W (WAt R x [] z) 7 line_texts.full
        ⊎ Made place y many P W k s (WAt R x [] z) n c) same
        (rooms say ends apart at' k s R x n l c shown settled some small need back next);
  }

pub each_built : MeaningIsKept → PrintsInteger → WordsSay → RoomsEnd → EachBuiltMeansTheSame
each_built kept print say ends P whole accepted base heap W is place places R words =
    kept P whole.0 accepted is.many W is.translation place places (program_layout base heap is.many P) line_texts
    (runtime P whole base heap W is place print say ends places) R words
