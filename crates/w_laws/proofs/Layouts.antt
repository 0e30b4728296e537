-- The memory of the start has the words that the runtime wants: those of its layout, with no mark.
use Rattle.std.proofs.Common.{◌≡◌, ℕ, ◌+◌, ◌-◌, ◌*◌, ◌/◌, ◌%◌, ◌<◌, ◌≤◌, ◌^◌, nat_lt, cond, true, false, List, length}
use Rattle.std.proofs.Common.{Some}
use Rattle.std.proofs.Common.{refl, ap, ◌∙◌, arith, slice_get, length-append, ⊎_elim}
use Rattle.std.proofs.lemmas.Bool.{cases_lt}
use Rattle.std.proofs.lemmas.Bool.Decides.{nat_tests}
use Rattle.std.proofs.lemmas.Option.{slice_get_past}
use Rattle.t_terms.specs.Tree.{TProg}
use Rattle.t_rules.specs.Erase.{erase_heap}
use Rattle.w_terms.specs.Tree.{WProg}
use Rattle.w_terms.specs.Machine.{Memory, start_memory, image_word}
use Rattle.w_terms.specs.declared.program.WDatum.{WDatum}
use Rattle.w_runtime.specs.Blocks.{Layout}
use Rattle.w_runtime.specs.Room.{Has, IsLayout, IsUse, Whole, words_of, word_in}
use Rattle.w_laws.specs.Code.{data_size, data_words, places}
use Rattle.w_laws.specs.Built.{IsBuilt, program_layout, first_use}
use Rattle.w_laws.proofs.Starting.{word_at, data_long}

-- the part of the heap that is in use at first
pub used_first : (heap : ℕ) → heap % 4096 ≡ 0 → 0 < heap →
    (0 < first_use heap) × (first_use heap ≤ heap) × (first_use heap % 8 ≡ 0)
used_first heap pages some = ⊎_elim
    (λ (lt : heap < 2 ^ 20).
    let e : nat_lt heap (2 ^ 20) ≡ true = grind (arith, nat_tests) in
    let is : first_use heap ≡ heap = ap (λ b. cond b heap (2 ^ 20)) e in
    ((omega (arith, is, some)), (omega (arith, is)), (omega (arith, is, pages))))
    (λ (le : 2 ^ 20 ≤ heap).
    let e : nat_lt heap (2 ^ 20) ≡ false = grind (arith, nat_tests) in
    let is : first_use heap ≡ 2 ^ 20 = ap (λ b. cond b heap (2 ^ 20)) e in
    ((omega (arith, is)), (omega (arith, is, le)), (omega (arith, is))))
    (cases_lt heap (2 ^ 20))

module _ (P : TProg) (base heap : ℕ) (W : WProg) (is : IsBuilt P base heap W) (place : ℕ → ℕ) where
  abbrev y : Layout
  y = program_layout base heap is.many P

  -- the bytes of the roots
  abbrev span : ℕ
  span = 8 * (is.many + 1 + data_size (erase_heap P))

  abbrev m : Memory
  m = start_memory place W

  pub roots_is : y.roots ≡ base + 248
  roots_is = refl

  pub end_is : y.roots_end ≡ base + 248 + span
  end_is = refl

  pub base_is : y.base ≡ base + 248 + span
  base_is = refl

  pub limit_is : y.limit ≡ base + 248 + span + heap
  limit_is = refl

  pub marks_is : y.marks ≡ span + heap
  marks_is = refl

  pub queue_is : y.queue ≡ base + 248 + span + heap + (span + heap)
  queue_is = refl

  pub top_is : y.top ≡ base + 248 + span + heap + (span + heap) + heap / 2
  top_is = refl

  pub image_long : length W.image ≡ 32 + is.many + data_size (erase_heap P)
  image_long =
      let e = ap (λ (x : List WDatum). length x) is.translation.image
      ∙ length-append is.translation.own (data_words (places P W is.many) (erase_heap P)) in
      let s = is.translation.sized in
      let d = data_long (places P W is.many) (erase_heap P) in
      omega (arith, e, s, d)

  -- the word at an address of the memory
  pub word_of : (a : ℕ) → a % 8 ≡ 0 → base ≤ a → a < y.top →
      m a ≡ Some (image_word place (slice_get W.image ((a - base) / 8)))
  word_of a w le lt =
      let e = is.begins in
      let f = is.ends in
      let g = is.aligned in
      let there : a ≡ W.base + 8 * ((a - base) / 8) = omega (arith, w, le, e, g) in
      let in' : (a - base) / 8 < W.size = omega (arith, w, le, lt, f, g) in
      ap m there ∙ word_at place W ((a - base) / 8) in'

  pub word_there : (a : ℕ) → a % 8 ≡ 0 → base ≤ a → a < y.top → Has m a
  word_there a w le lt = (image_word place (slice_get W.image ((a - base) / 8)), word_of a w le lt)

  -- behind the first words there are zeros
  pub zero_there : (a : ℕ) → a % 8 ≡ 0 → y.base ≤ a → a < y.top → words_of m a ≡ 0
  zero_there a w le lt =
      let b = base_is in
      let long = image_long in
      let low : base ≤ a = omega (arith, b, le) in
      let past : length W.image ≤ (a - base) / 8 = omega (arith, b, le, long, w) in
      ap word_in (word_of a w low lt ∙ ap (λ o. Some (image_word place o))
      (slice_get_past W.image ((a - base) / 8) past))

  pub is_layout : IsLayout y m
  is_layout =
      let g = is.aligned in
      let p = is.pages in
      let s = is.some in
      let e0 = roots_is in
      let e1 = end_is in
      let e2 = base_is in
      let e3 = limit_is in
      let e4 = marks_is in
      let e5 = queue_is in
      let e6 = top_is in
      record {
        roots_whole = let z : y.roots % 8 ≡ 0 = omega (arith, g, e0) in z;
        roots_end_whole = let z : y.roots_end % 8 ≡ 0 = omega (arith, g, e1) in z;
        base_whole = let z : y.base % 8 ≡ 0 = omega (arith, g, e2) in z;
        limit_whole = let z : y.limit % 8 ≡ 0 = omega (arith, g, p, e3) in z;
        marks_whole = let z : y.marks % 8 ≡ 0 = omega (arith, p, e4) in z;
        queue_whole = let z : y.queue % 8 ≡ 0 = omega (arith, g, p, e5) in z;
        top_whole = let z : y.top % 8 ≡ 0 = omega (arith, g, p, e6) in z;
        roots_low = omega (arith, e0);
        roots_order = omega (arith, e0, e1);
        base_order = omega (arith, e1, e2);
        limit_order = omega (arith, s, e2, e3);
        marks_order = omega (arith, e0, e3, e4);
        queue_order = omega (arith, e3, e4, e5);
        top_order = omega (arith, p, s, e5, e6);
        small = is.small;
        live_roots = λ a w ge lt. word_there a w (omega (arith, ge, e0)) (omega (arith, lt, e1, e6));
        live_heap = λ a w ge lt. word_there a w (omega (arith, ge, e2)) (omega (arith, lt, e3, e6));
        live_marks = λ a w ge lt.
            let ww : a % 8 ≡ 0 = w in
            word_there (a + y.marks) (omega (arith, ww, p, e4)) (omega (arith, ge, e2, e4))
            (omega (arith, lt, e3, e4, e6));
        live_root = word_there (y.roots + y.marks) (omega (arith, g, p, e0, e4)) (omega (arith, e0, e4))
            (omega (arith, p, s, e0, e4, e6));
        live_queue = λ a w ge lt. word_there a w (omega (arith, ge, e5)) lt;
      }

  -- no mark is there
  pub no_marks : (w : ℕ) → Whole w → y.base ≤ w → w < y.limit → words_of m (w + y.marks) ≡ 0
  no_marks w ww ge lt =
      let w' : w % 8 ≡ 0 = ww in
      let p = is.pages in
      let e3 = limit_is in
      let e4 = marks_is in
      let e6 = top_is in
      zero_there (w + y.marks) (omega (arith, w', p, e4)) (omega (arith, ge)) (omega (arith, lt, e3, e4, e6))

  pub is_use : IsUse y (y.base + first_use heap)
  is_use =
      let g = is.aligned in
      let u = used_first heap is.pages is.some in
      let u0 = u.0 in
      let u1 = u.1 in
      let u2 = u.2 in
      let e2 = base_is in
      let e3 = limit_is in
      record {
        low = omega (arith, u0);
        high = omega (arith, u1, e2, e3);
        whole = let z : (y.base + first_use heap) % 8 ≡ 0 = omega (arith, g, u2, e2) in z;
      }
