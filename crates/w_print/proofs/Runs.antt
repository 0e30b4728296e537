-- What the blocks do, one after the other.
use Rattle.std.proofs.Common.{◌≡◌, ◌≢◌, ℕ, zero, suc, ◌+◌, ◌-◌, ◌*◌, ◌/◌, ◌%◌, ◌<◌, ◌≤◌, ◌^◌, nat_eq, nat_lt, cond}
use Rattle.std.proofs.Common.{true, false, List, [], ◌∷◌, ◌++◌, length, Option, Some, refl, sym, ap, ap₂, ◌∙◌}
use Rattle.std.proofs.Common.{arith, subst, option_and_then, ⊎_elim, append_assoc, append-nil}
use Rattle.std.proofs.Common.{length-append}
use Rattle.std.specs.Prelude.{option_map, not, decimal, codes, pos, negsuc}
use Rattle.std.specs.Int.{cast_signed, w64}
use Rattle.std.proofs.lemmas.Int.{to_z-of_z, to_z_pos}
use Rattle.std.proofs.lemmas.Bool.{cases_lt}
use Rattle.std.proofs.lemmas.Bool.Decides.{nat_tests, eqb_tells}
use Rattle.std.proofs.Math.Nat.{mod-eq_of_lt, mod-lt, div-add-mod', mul-le-mul_right, suc-mul, zero-mul}
use Rattle.std.proofs.Math.Nat.{div-lt_iff_lt-mul, le-div_iff_mul-le, add-mul, mul_assoc, one-le-pow, mul_left_comm}
use Rattle.std.proofs.Math.Nat.{le-mul_of_pos_right}
use Rattle.w_terms.specs.Tree.{WConst, WArith, WLoad, WBranch, WWrite, WSeq, WThen, WJump, WExit}
use Rattle.w_terms.specs.Machine.{WRegs, Memory, Written, Put, WState, WAt, with_word, at_label, stored, wrun}
use Rattle.w_terms.specs.Machine.{bytes_at}
use Rattle.w_terms.specs.declared.instr.WOp.TheVariants as O
use Rattle.w_terms.specs.declared.instr.WCond.TheVariants as C
use Rattle.w_terms.specs.declared.instr.WOperand.TheVariants as V
use Rattle.w_print.specs.Blocks.{text_start, lead_code, digit_code, put_code, flush_code, next_code, last_code}
use Rattle.w_print.specs.Blocks.{negated, print_code, integer_line, HasBlocks, HasTable}
use Rattle.w_print.specs.Prints.{PrintsInteger}
use Rattle.w_print.proofs.Digits.{so_far, digit_more, so_far_some}
use Rattle.w_print.specs.Words.{pack, AreBytes}
use Rattle.w_print.proofs.Gather.{bytes_more, pack_more, pack_small, factor_next, factor_small}
use Rattle.w_terms.proofs.Machine.{written_here, written_apart, bytes_same, run_join, difference}
use Rattle.w_print.proofs.Gather.{bytes_join, whole_word}

power_some : (b k : ℕ) → 0 < b → 0 < b ^ k
power_some b k some = let le = one-le-pow k b some in omega (arith, le)

-- a digit's byte in its place
product_small : (c p : ℕ) → c < 256 → 256 * p ≤ 2 ^ 64 → 0 < p → c * p + p ≤ 2 ^ 64
product_small c p lt le some =
    let less : suc c ≤ 256 = omega (arith, lt) in
    let times = mul-le-mul_right p less in
    let sum = suc-mul c p in
    omega (arith, le, times, sum)

quotient_small : (n q : ℕ) → 0 < q → n < 10 * q → n / q < 10
quotient_small n q some lt = (div-lt_iff_lt-mul {k = q} {x = n} {y = 10} some).1 lt

quotient_some : (n q : ℕ) → 0 < q → q ≤ n → 0 < n / q
quotient_some n q some le = (le-div_iff_mul-le {k = q} {x = 1} {y = n} some).1 (omega (arith, le))

-- a digit n / q goes to what was read so far
places : (v n q p : ℕ) → p ≡ 10 * q → (10 * v + n / q) * q + n % q ≡ v * p + n
places v n q p e =
    let parts = div-add-mod' n q in
    let both = add-mul (10 * v) (n / q) q in
    let moved = mul_assoc 10 v q in
    let turned = mul_left_comm v 10 q in
    let power : v * p ≡ v * (10 * q) = ap (λ x. v * x) e in
    omega (arith, parts, both, moved, turned, power)

front_small : (u q r x : ℕ) → 0 < q → u * q + r ≡ x → x < 2 ^ 64 → u < 2 ^ 64
front_small u q r x some e lt =
    let le = le-mul_of_pos_right u some in
    omega (arith, e, lt, le)

module _ (place : ℕ → ℕ) (blocks : List WSeq) (table l : ℕ) (has : HasBlocks table l blocks) (log : List Written) where
  -- some steps lead from one state to another
  abbrev pub Comes : WState → WState → Type 0
  Comes x y = (n : ℕ) × (wrun place blocks n x ≡ Some y)

  onward : (x y z : WState) → Comes x y → Comes y z → Comes x z
  onward x y z a b = (a.0 + b.0, run_join place blocks a.0 b.0 x y (Some z) a.1 b.1)

  -- a digit d was counted, and r is left
  record Counted (R : WRegs) (m : Memory) (d r : ℕ) : Type 0 where
    S : WRegs
    comes : Comes (WAt R m log (digit_code table l)) (WAt S m log (put_code table l))
    left : S 5 ≡ r
    digit : S 8 ≡ R 8 + d
    at : S 6 ≡ R 6
    power : S 7 ≡ R 7
    word : S 9 ≡ R 9
    factor : S 10 ≡ R 10
    to : S 11 ≡ R 11
    count : S 12 ≡ R 12

  counts : (d r : ℕ) (R : WRegs) (m : Memory) → R 5 ≡ d * R 7 + r → r < R 7 → R 5 < 2 ^ 64 → R 8 + d < 2 ^ 64 →
      Counted R m d r
  counts zero r R m e lt small digit =
      let none = zero-mul (R 7) in
      let left : R 5 ≡ r = omega (arith, e, none) in
      let test : nat_lt (R 5) (R 7) ≡ true = grind (arith, nat_tests, left, lt) in record {
        S = R;
        comes = (
          1,
          ap (λ t. option_and_then (wrun place blocks 0) (cond t (at_label place blocks R m log (l + 2))
              (Some (WAt R m log (WThen (WArith O.Sub 5 5 (V.Reg 7))
              (WThen (WArith O.Add 8 8 (V.Num 1)) (WJump (l + 1)))))))) test
              ∙ ap (λ o. option_and_then (wrun place blocks 0) (option_map (WAt R m log) o)) has.put,
        );
        left = left;
        digit = omega arith;
        at = refl;
        power = refl;
        word = refl;
        factor = refl;
        to = refl;
        count = refl;
      }
  counts (suc d) r R m e lt small digit =
      let again : suc d * R 7 ≡ d * R 7 + R 7 = suc-mul d (R 7) in
      let ge : R 7 ≤ R 5 = omega (arith, e, again) in
      let test : nat_lt (R 5) (R 7) ≡ false = grind (arith, nat_tests, ge) in
      let minus = difference (R 7) (R 5) ge small in
      let one : (R 8 + 1) % 2 ^ 64 ≡ R 8 + 1 = mod-eq_of_lt (omega (arith, digit)) in
      let T = with_word (with_word R 5 ((R 5 + (2 ^ 64 - R 7)) % 2 ^ 64)) 8 ((R 8 + 1) % 2 ^ 64) in
      let left : (R 5 + (2 ^ 64 - R 7)) % 2 ^ 64 ≡ d * R 7 + r = minus ∙ omega (arith, e, again) in
      let rest = counts d r T m left lt (omega (arith, minus, small)) (omega (arith, one, digit)) in record {
        S = rest.S;
        comes = onward (WAt R m log (digit_code table l)) (WAt T m log (digit_code table l))
            (WAt rest.S m log (put_code table l)) (
              4,
              ap (λ t. option_and_then (wrun place blocks 3) (cond t (at_label place blocks R m log (l + 2))
                  (Some (WAt R m log (WThen (WArith O.Sub 5 5 (V.Reg 7))
                  (WThen (WArith O.Add 8 8 (V.Num 1)) (WJump (l + 1)))))))) test
                  ∙ ap (λ o. option_and_then (wrun place blocks 0) (option_map (WAt T m log) o)) has.digit,
            ) rest.comes;
        left = rest.left;
        digit = rest.digit ∙ omega (arith, one);
        at = rest.at;
        power = rest.power;
        word = rest.word;
        factor = rest.factor;
        to = rest.to;
        count = rest.count;
      }

  -- the text so far: words that are full, and the bytes that wait
  record Doing (R : WRegs) (m : Memory) (bs : List ℕ) : Type 0 where
    front : List ℕ
    cur : List ℕ
    j : ℕ
    whole : bs ≡ front ++ cur
    long : length front ≡ 8 * j
    reads : bytes_at m (text_start table) (8 * j) ≡ Some front
    bytes : AreBytes cur
    short : length cur < 8
    word : R 9 ≡ pack cur
    factor : R 10 ≡ 256 ^ length cur
    to : R 11 ≡ text_start table + 8 * j
    count : R 12 ≡ 8 * j + length cur
    has_table : HasTable table m

  text_long : (R : WRegs) (m : Memory) (bs : List ℕ) (is : Doing R m bs) → length bs ≡ 8 * is.j + length is.cur
  text_long R m bs is =
      let both = ap (λ (x : List ℕ). length x) is.whole ∙ length-append is.front is.cur in
      let front = is.long in
      omega (arith, both, front)

  -- registers that the text has no part in may change
  doing_kept : (R S : WRegs) (m : Memory) (bs : List ℕ) → S 9 ≡ R 9 → S 10 ≡ R 10 → S 11 ≡ R 11 → S 12 ≡ R 12 →
      Doing R m bs → Doing S m bs
  doing_kept R S m bs a b c d is = record {
    front = is.front;
    cur = is.cur;
    j = is.j;
    whole = is.whole;
    long = is.long;
    reads = is.reads;
    bytes = is.bytes;
    short = is.short;
    word = a ∙ is.word;
    factor = b ∙ is.factor;
    to = c ∙ is.to;
    count = d ∙ is.count;
    has_table = is.has_table;
  }

  -- a word of the text is written
  table_kept : (m : Memory) (a w : ℕ) → text_start table ≤ a → HasTable table m →
      HasTable table (with_word m a (Some w))
  table_kept m a w ge t = record {
    powers = λ e lt. written_apart m a (Some w) (table + 8 * e) (λ s. omega (arith, s, ge, lt)) ∙ t.powers e lt;
    words = λ j lt. ⊎_elim
        (λ (p : (nat_eq a (text_start table + 8 * j) ≡ true) × (a ≡ text_start table + 8 * j)).
        (w, written_here m a (Some w) (text_start table + 8 * j) p.1))
        (λ (p : (nat_eq a (text_start table + 8 * j) ≡ false) × (a ≢ text_start table + 8 * j)).
        let old = t.words j lt in
        (old.0, written_apart m a (Some w) (text_start table + 8 * j) p.1 ∙ old.1))
        (eqb_tells a (text_start table + 8 * j));
  }

  module _ (aligned : (x : ℕ) × (table ≡ 8 * x)) (fits : table + 184 < 2 ^ 64) where
    -- the byte c behind the bytes that wait
    byte_in : (cur : List ℕ) (c : ℕ) → AreBytes cur → length cur < 8 → c < 256 →
        (pack cur + (c * 256 ^ length cur) % 2 ^ 64) % 2 ^ 64 ≡ pack (cur ++ (c ∷ []))
    byte_in cur c all short lt =
        let small = pack_small cur all in
        let le = product_small c (256 ^ length cur) lt (factor_small (length cur) short) (omega (arith, small)) in
        let one : (c * 256 ^ length cur) % 2 ^ 64 ≡ c * 256 ^ length cur = mod-eq_of_lt (omega (arith, le, small)) in
        ap (λ y. (pack cur + y) % 2 ^ 64) one ∙ mod-eq_of_lt (omega (arith, le, small)) ∙ sym (pack_more cur c)

    -- the words that are full, and one more
    word_in : (m : Memory) (j w : ℕ) (front cur : List ℕ) → bytes_at m (text_start table) (8 * j) ≡ Some front →
        AreBytes cur → length cur ≤ 8 → w ≡ pack cur →
        bytes_at (with_word m (text_start table + 8 * j) (Some w)) (text_start table) (8 * j + length cur)
        ≡ Some (front ++ cur)
    word_in m j w front cur reads all le e =
        let a = text_start table + 8 * j in
        let n = with_word m a (Some w) in
        let x = aligned in
        let by_eight : text_start table + 8 * j ≡ 8 * (x.0 + 19 + j) = omega (arith, x.1) in
        bytes_join n (8 * j) (length cur) (text_start table) front cur
        (bytes_same n m (8 * j) (text_start table) (λ b lt. written_apart m a (Some w) b (λ s. omega (arith, s, lt)))
        ∙ reads)
        (whole_word n a (x.0 + 19 + j) w by_eight (written_here m a (Some w) a refl) cur all le e)

    -- a byte was put to the text
    record Done (R : WRegs) (m : Memory) (bs : List ℕ) : Type 0 where
      S : WRegs
      new : Memory
      comes : Comes (WAt R m log (put_code table l)) (WAt S new log (next_code table l))
      doing : Doing S new (bs ++ (R 8 ∷ []))
      left : S 5 ≡ R 5
      at : S 6 ≡ R 6
      power : S 7 ≡ R 7

    module _ (R : WRegs) (m : Memory) (bs : List ℕ) (lt : R 8 < 256) (room : length bs < 25) (is : Doing R m bs) where
      abbrev put_temp : ℕ
      put_temp = (R 8 * R 10) % 2 ^ 64

      abbrev put_word : ℕ
      put_word = (R 9 + (R 8 * R 10) % 2 ^ 64) % 2 ^ 64

      abbrev put_factor : ℕ
      put_factor = (R 10 * 256) % 2 ^ 64

      abbrev put_regs : WRegs
      put_regs = with_word (with_word (with_word (with_word R 4 put_temp) 9 put_word) 12
          ((R 12 + 1) % 2 ^ 64)) 10 put_factor

      put_long : length bs ≡ 8 * is.j + length is.cur
      put_long = text_long R m bs is

      put_counted : (R 12 + 1) % 2 ^ 64 ≡ R 12 + 1
      put_counted = let a = is.count in mod-eq_of_lt (omega (arith, a, put_long, room))

      put_packed : put_word ≡ pack (is.cur ++ (R 8 ∷ []))
      put_packed =
          ap₂ (λ x y. (x + (R 8 * y) % 2 ^ 64) % 2 ^ 64) is.word is.factor ∙ byte_in is.cur (R 8) is.bytes is.short lt

      put_longer : length (is.cur ++ (R 8 ∷ [])) ≡ suc (length is.cur)
      put_longer = let both = length-append is.cur (R 8 ∷ []) in omega (arith, both)

      put_short : length is.cur < 7 → Done R m bs
      put_short less =
          let next : put_factor ≡ 256 ^ suc (length is.cur) =
          ap (λ x. (x * 256) % 2 ^ 64) is.factor ∙ factor_next (length is.cur) less in
          let some : 0 < 256 ^ suc (length is.cur) = power_some 256 (suc (length is.cur)) (omega arith) in
          let test : nat_eq put_factor 0 ≡ false = grind (arith, nat_tests, next, some) in record {
            S = put_regs;
            new = m;
            comes = (
              5,
              ap (λ b. option_and_then (wrun place blocks 0)
                  (cond (not b) (at_label place blocks put_regs m log (l + 3))
                  (Some (WAt put_regs m log (flush_code table l))))) test
                  ∙ ap (λ o. option_and_then (wrun place blocks 0) (option_map (WAt put_regs m log) o)) has.next,
            );
            doing = record {
              front = is.front;
              cur = is.cur ++ (R 8 ∷ []);
              j = is.j;
              whole = ap (λ x. x ++ (R 8 ∷ [])) is.whole ∙ append_assoc is.front is.cur (R 8 ∷ []);
              long = is.long;
              reads = is.reads;
              bytes = bytes_more is.cur (R 8) is.bytes lt;
              short = omega (arith, put_longer, less);
              word = put_packed;
              factor = next ∙ ap (λ x. 256 ^ x) (sym put_longer);
              to = is.to;
              count = let a = is.count in put_counted ∙ omega (arith, a, put_longer);
              has_table = is.has_table;
            };
            left = refl;
            at = refl;
            power = refl;
          }

      put_full : 7 ≤ length is.cur → Done R m bs
      put_full ge =
          let less = is.short in
          let seven : length is.cur ≡ 7 = omega (arith, ge, less) in
          let zero' : put_factor ≡ 0 = ap (λ x. (x * 256) % 2 ^ 64) (is.factor ∙ ap (λ x. 256 ^ x) seven) in
          let test : nat_eq put_factor 0 ≡ true = grind (arith, nat_tests, zero') in
          let S = with_word (with_word (with_word put_regs 11 ((R 11 + 8) % 2 ^ 64)) 9 0) 10 1 in
          let new = with_word m (text_start table + 8 * is.j) (Some put_word) in
          let a = is.to in
          let plus : R 11 + 0 ≡ text_start table + 8 * is.j = omega (arith, a) in
          let eight : (R 11 + 8) % 2 ^ 64 ≡ R 11 + 8 = mod-eq_of_lt (omega (arith, a, put_long, room, fits)) in
          let old = is.has_table.words is.j (omega (arith, put_long, room, seven)) in
          let rest = WThen (WArith O.Add 11 11 (V.Num 8)) (WThen (WConst 9 0) (WThen (WConst 10 1) (WJump (l + 3)))) in
          let more : 8 * suc is.j ≡ 8 * is.j + length (is.cur ++ (R 8 ∷ [])) = omega (arith, put_longer, seven) in
          record {
            S = S;
            new = new;
            comes = (
              10,
              ap (λ b. option_and_then (wrun place blocks 5)
                  (cond (not b) (at_label place blocks put_regs m log (l + 3))
                  (Some (WAt put_regs m log (flush_code table l))))) test
                  ∙ ap (λ x. option_and_then (wrun place blocks 4) (option_map (λ y. WAt put_regs y log rest)
                  (stored m x put_word))) plus
                  ∙ ap (λ o. option_and_then (wrun place blocks 4) (option_map (λ y. WAt put_regs y log rest)
                  (option_map (λ z. new) o))) old.1
                  ∙ ap (λ o. option_and_then (wrun place blocks 0) (option_map (WAt S new log) o)) has.next,
            );
            doing = record {
              front = is.front ++ (is.cur ++ (R 8 ∷ []));
              cur = [];
              j = suc is.j;
              whole = ap (λ x. x ++ (R 8 ∷ [])) is.whole ∙ append_assoc is.front is.cur (R 8 ∷ [])
                  ∙ sym (append-nil (is.front ++ (is.cur ++ (R 8 ∷ []))));
              long = let front = is.long in let both = length-append is.front (is.cur ++ (R 8 ∷ [])) in
                  omega (arith, both, front, more);
              reads = ap (bytes_at new (text_start table)) more
                  ∙ word_in m is.j put_word is.front (is.cur ++ (R 8 ∷ [])) is.reads (bytes_more is.cur
                  (R 8) is.bytes lt)
                  (omega (arith, put_longer, seven)) put_packed;
              bytes = tt;
              short = omega arith;
              word = refl;
              factor = refl;
              to = eight ∙ omega (arith, a);
              count = let b = is.count in put_counted ∙ omega (arith, b, seven);
              has_table = table_kept m (text_start table + 8 * is.j) put_word (omega arith) is.has_table;
            };
            left = refl;
            at = refl;
            power = refl;
          }

    puts : (R : WRegs) (m : Memory) (bs : List ℕ) → R 8 < 256 → length bs < 25 → Doing R m bs → Done R m bs
    puts R m bs lt room is = ⊎_elim (put_short R m bs lt room is) (put_full R m bs lt room is) (cases_lt
        (length is.cur) 7)

    -- it exits with 0 when it has written the text
    record Ends (x : WState) (text : List ℕ) : Type 0 where
      pub S : WRegs
      pub new : Memory
      pub comes : Comes x (WAt S new (log ++ (Put 1 text ∷ [])) (WExit 0))

    ends_after : (x y : WState) (text : List ℕ) → Comes x y → Ends y text → Ends x text
    ends_after x y text c e = record {
      S = e.S;
      new = e.new;
      comes = onward x y (WAt e.S e.new (log ++ (Put 1 text ∷ [])) (WExit 0)) c e.comes;
    }

    module _ (R : WRegs) (m : Memory) (bs : List ℕ) (room : length bs < 25) (is : Doing R m bs) where
      abbrev end_temp : ℕ
      end_temp = (R 10 * 10) % 2 ^ 64

      abbrev end_word : ℕ
      end_word = (R 9 + (R 10 * 10) % 2 ^ 64) % 2 ^ 64

      abbrev end_regs : WRegs
      end_regs = with_word (with_word R 4 end_temp) 9 end_word

      abbrev end_last : WRegs
      end_last = with_word (with_word end_regs 12 ((R 12 + 1) % 2 ^ 64)) 11 (text_start table)

      abbrev end_memory : Memory
      end_memory = with_word m (text_start table + 8 * is.j) (Some end_word)

      abbrev end_rest : WSeq
      end_rest =
          WThen (WArith O.Add 12 12 (V.Num 1)) (WThen (WConst 11 (text_start table)) (WThen (WWrite 1 11 12) (WExit 0)))

      end_long : length bs ≡ 8 * is.j + length is.cur
      end_long = text_long R m bs is

      end_plus : R 11 + 0 ≡ text_start table + 8 * is.j
      end_plus = let a = is.to in omega (arith, a)

      end_old : (n : ℕ) × (m (text_start table + 8 * is.j) ≡ Some n)
      end_old = is.has_table.words is.j (omega (arith, end_long, room))

      end_longer : length (is.cur ++ (10 ∷ [])) ≡ suc (length is.cur)
      end_longer = let both = length-append is.cur (10 ∷ []) in omega (arith, both)

      end_sum : (R 12 + 1) % 2 ^ 64 ≡ 8 * is.j + length (is.cur ++ (10 ∷ []))
      end_sum = let a = is.count in mod-eq_of_lt (omega (arith, a, end_long, room)) ∙ omega (arith, a, end_longer)

      end_packed : end_word ≡ pack (is.cur ++ (10 ∷ []))
      end_packed =
          let turned : R 10 * 10 ≡ 10 * 256 ^ length is.cur = let a = is.factor in omega (arith, a) in
          ap₂ (λ x y. (x + y % 2 ^ 64) % 2 ^ 64) is.word turned
          ∙ byte_in is.cur 10 is.bytes is.short (omega arith)

      end_said : bytes_at end_memory (text_start table) (8 * is.j + length (is.cur ++ (10 ∷ []))) ≡ Some (bs ++
          (10 ∷ []))
      end_said =
          let less = is.short in
          word_in m is.j end_word is.front (is.cur ++ (10 ∷ [])) is.reads (bytes_more is.cur 10 is.bytes (omega arith))
          (omega (arith, end_longer, less)) end_packed
          ∙ ap Some (sym (append_assoc is.front is.cur (10 ∷ [])) ∙ ap (λ x. x ++ (10 ∷ [])) (sym is.whole))

      ends : Ends (WAt R m log (last_code table l)) (bs ++ (10 ∷ []))
      ends = record {
        S = end_last;
        new = end_memory;
        comes = (
          6,
          ap (λ x. option_and_then (wrun place blocks 3) (option_map (λ y. WAt end_regs y log end_rest)
              (stored m x end_word))) end_plus
              ∙ ap (λ o. option_and_then (wrun place blocks 3) (option_map (λ y. WAt end_regs y log end_rest)
              (option_map (λ z. end_memory) o))) end_old.1
              ∙ ap (λ x. option_and_then (wrun place blocks 0)
              (option_map (λ cs. WAt end_last end_memory (log ++ (Put 1 cs ∷ [])) (WExit 0))
              (bytes_at end_memory (text_start table) x))) end_sum
              ∙ ap (λ o. option_and_then (wrun place blocks 0)
              (option_map (λ cs. WAt end_last end_memory (log ++ (Put 1 cs ∷ [])) (WExit 0)) o)) end_said,
        );
      }

    -- one digit, where n is left and the power is q
    record Digit (R : WRegs) (m : Memory) (bs : List ℕ) (n q : ℕ) : Type 0 where
      S : WRegs
      new : Memory
      comes : Comes (WAt R m log (digit_code table l)) (WAt S new log (next_code table l))
      doing : Doing S new (bs ++ ((48 + n / q) ∷ []))
      left : S 5 ≡ n % q
      at : S 6 ≡ R 6
      power : S 7 ≡ R 7

    digit : (R : WRegs) (m : Memory) (bs : List ℕ) (n q : ℕ) → R 5 ≡ n → R 7 ≡ q → R 8 ≡ 48 → 0 < q → n < 10 * q →
        n < 2 ^ 64 → length bs < 25 → Doing R m bs → Digit R m bs n q
    digit R m bs n q left power ready some lt small room is =
        let ten : n / q < 10 = quotient_small n q some lt in
        let parts : R 5 ≡ (n / q) * R 7 + n % q =
        left ∙ sym (div-add-mod' n q) ∙ ap (λ x. (n / q) * x + n % q) (sym power) in
        let less : n % q < R 7 = let a = mod-lt n some in omega (arith, a, power) in
        let c = counts (n / q) (n % q) R m parts less (omega (arith, left, small)) (omega (arith, ready, ten)) in
        let shown : c.S 8 ≡ 48 + n / q = c.digit ∙ ap (λ x. x + n / q) ready in
        let d = puts c.S m bs (omega (arith, shown, ten)) room
        (doing_kept R c.S m bs c.word c.factor c.to c.count is) in record {
          S = d.S;
          new = d.new;
          comes = onward (WAt R m log (digit_code table l)) (WAt c.S m log (put_code table l))
              (WAt d.S d.new log (next_code table l)) c.comes d.comes;
          doing = subst (λ x. Doing d.S d.new (bs ++ (x ∷ []))) shown d.doing;
          left = d.left ∙ c.left;
          at = d.at ∙ c.at;
          power = d.power ∙ c.power;
        }

    longer_text : (bs : List ℕ) (c : ℕ) → length (bs ++ (c ∷ [])) ≡ suc (length bs)
    longer_text bs c = let both = length-append bs (c ∷ []) in omega (arith, both)

    -- all digits from the power e on, behind those of v
    digits : (e v n : ℕ) (pre bs : List ℕ) (R : WRegs) (m : Memory) → R 5 ≡ n → R 6 ≡ table + 8 * e → R 7 ≡ 10 ^ e →
        R 8 ≡ 48 → n < 10 ^ suc e → (0 < e → 0 < v + n / 10 ^ e) → v * 10 ^ suc e + n < 2 ^ 64 →
        length bs + e < 24 → e < 19 → bs ≡ pre ++ so_far v → Doing R m bs →
        Ends (WAt R m log (digit_code table l)) ((pre ++ decimal (v * 10 ^ suc e + n)) ++ (10 ∷ []))
    digits zero v n pre bs R m left at power ready lt some small room less text is =
        let d = digit R m bs n 1 left power ready (omega arith) (omega (arith, lt)) (omega (arith, small))
        (omega (arith, room)) is in
        let sum : 10 * v + n / 1 ≡ v * 10 ^ suc zero + n = omega arith in
        let now : bs ++ ((48 + n / 1) ∷ []) ≡ pre ++ decimal (v * 10 ^ suc zero + n) =
        ap (λ x. x ++ ((48 + n / 1) ∷ [])) text ∙ append_assoc pre (so_far v) ((48 + n / 1) ∷ [])
        ∙ ap (λ x. pre ++ x) (digit_more v (n / 1) (omega (arith, lt)) (omega (arith, small)))
        ∙ ap (λ x. pre ++ decimal x) sum in
        let one : d.S 7 ≡ 1 = d.power ∙ power in
        let test : nat_eq (d.S 7) 1 ≡ true = grind (arith, nat_tests, one) in
        let rest = WThen (WArith O.Sub 6 6 (V.Num 8)) (WThen (WLoad 7 6 0) (WThen (WConst 8 48) (WJump (l + 1)))) in
        let long = longer_text bs (48 + n / 1) in
        ends_after (WAt R m log (digit_code table l)) (WAt d.S d.new log (next_code table l))
        ((pre ++ decimal (v * 10 ^ suc zero + n)) ++ (10 ∷ [])) d.comes
        (ends_after (WAt d.S d.new log (next_code table l)) (WAt d.S d.new log (last_code table l))
        ((pre ++ decimal (v * 10 ^ suc zero + n)) ++ (10 ∷ [])) (
          1,
          ap (λ b. option_and_then (wrun place blocks 0) (cond b (at_label place blocks d.S d.new log (l + 4))
              (Some (WAt d.S d.new log rest)))) test
              ∙ ap (λ o. option_and_then (wrun place blocks 0) (option_map (WAt d.S d.new log) o)) has.last,
        )
        (subst (λ x. Ends (WAt d.S d.new log (last_code table l)) (x ++ (10 ∷ []))) now
        (ends d.S d.new (bs ++ ((48 + n / 1) ∷ [])) (omega (arith, long, room)) d.doing)))
    digits (suc e) v n pre bs R m left at power ready lt some small room less text is =
        let q = 10 ^ suc e in
        let pos' : 0 < 10 ^ suc e = power_some 10 (suc e) (omega arith) in
        let d = digit R m bs n (10 ^ suc e) left power ready pos' (omega (arith, lt)) (omega (arith, small))
        (omega (arith, room)) is in
        let u = 10 * v + n / 10 ^ suc e in
        let r = n % 10 ^ suc e in
        let sum : (10 * v + n / 10 ^ suc e) * 10 ^ suc e + n % 10 ^ suc e ≡ v * 10 ^ suc (suc e) + n =
        places v n (10 ^ suc e) (10 ^ suc (suc e)) (omega arith) in
        let upper : 10 * v + n / 10 ^ suc e < 2 ^ 64 = front_small (10 * v + n / 10 ^ suc e) (10 ^ suc e)
        (n % 10 ^ suc e)
        (v * 10 ^ suc (suc e) + n) pos' sum small in
        let ten : n / 10 ^ suc e < 10 = quotient_small n (10 ^ suc e) pos' (omega (arith, lt)) in
        let begun = some (omega arith) in
        let now : bs ++ ((48 + n / 10 ^ suc e) ∷ []) ≡ pre ++ so_far (10 * v + n / 10 ^ suc e) =
        ap (λ x. x ++ ((48 + n / 10 ^ suc e) ∷ [])) text ∙ append_assoc pre (so_far v) ((48 + n / 10 ^ suc e) ∷ [])
        ∙ ap (λ x. pre ++ x) (digit_more v (n / 10 ^ suc e) ten upper
        ∙ sym (so_far_some (10 * v + n / 10 ^ suc e) (omega (arith, begun)))) in
        let other : d.S 7 ≢ 1 = λ s. let p = d.power ∙ power in omega (arith, s, p) in
        let test : nat_eq (d.S 7) 1 ≡ false = grind (arith, nat_tests, other) in
        let rest = WThen (WArith O.Sub 6 6 (V.Num 8)) (WThen (WLoad 7 6 0) (WThen (WConst 8 48) (WJump (l + 1)))) in
        let long = longer_text bs (48 + n / 10 ^ suc e) in
        let place' : d.S 6 ≡ table + 8 * suc e = d.at ∙ at in
        let back : (d.S 6 + (2 ^ 64 - 8)) % 2 ^ 64 ≡ table + 8 * e =
        difference 8 (d.S 6) (omega (arith, place')) (omega (arith, place', less, fits)) ∙ omega (arith, place') in
        let from : (d.S 6 + (2 ^ 64 - 8)) % 2 ^ 64 + 0 ≡ table + 8 * e = omega (arith, back) in
        let T = with_word d.S 6 ((d.S 6 + (2 ^ 64 - 8)) % 2 ^ 64) in
        let U = with_word (with_word T 7 (10 ^ e)) 8 48 in
        let loaded : d.new (table + 8 * e) ≡ Some (10 ^ e) = d.doing.has_table.powers e (omega (arith, less)) in
        let code = WThen (WConst 8 48) (WJump (l + 1)) in
        let goes : Comes (WAt d.S d.new log (next_code table l)) (WAt U d.new log (digit_code table l)) = (
          5,
          ap (λ b. option_and_then (wrun place blocks 4) (cond b (at_label place blocks d.S d.new log (l + 4))
              (Some (WAt d.S d.new log rest)))) test
              ∙ ap (λ x. option_and_then (wrun place blocks 2) (option_map (λ y. WAt (with_word T 7 y) d.new log code)
              (d.new x))) from
              ∙ ap (λ o. option_and_then (wrun place blocks 2)
              (option_map (λ y. WAt (with_word T 7 y) d.new log code) o)) loaded
              ∙ ap (λ o. option_and_then (wrun place blocks 0) (option_map (WAt U d.new log) o)) has.digit,
        ) in
        let more = digits e (10 * v + n / 10 ^ suc e) (n % 10 ^ suc e) pre (bs ++ ((48 + n / 10 ^ suc e) ∷ [])) U d.new
        d.left back refl refl (mod-lt n pos') (λ z. omega (arith, begun)) (omega (arith, sum, small))
        (omega (arith, long, room)) (omega (arith, less)) now
        (doing_kept d.S U d.new (bs ++ ((48 + n / 10 ^ suc e) ∷ [])) refl refl refl refl d.doing) in
        ends_after (WAt R m log (digit_code table l)) (WAt d.S d.new log (next_code table l))
        ((pre ++ decimal (v * 10 ^ suc (suc e) + n)) ++ (10 ∷ [])) d.comes
        (ends_after (WAt d.S d.new log (next_code table l)) (WAt U d.new log (digit_code table l))
        ((pre ++ decimal (v * 10 ^ suc (suc e) + n)) ++ (10 ∷ [])) goes
        (subst (λ x. Ends (WAt U d.new log (digit_code table l)) ((pre ++ decimal x) ++ (10 ∷ []))) sum more))

    -- where the first digit is at hand
    first : (e n : ℕ) (bs : List ℕ) (R : WRegs) (m : Memory) → R 5 ≡ n → R 6 ≡ table + 8 * e → R 8 ≡ 48 →
        n < 10 ^ suc e → n < 2 ^ 64 → length bs + e < 24 → e < 19 → Doing R m bs → (0 < e → 0 < n / 10 ^ e) →
        Ends (WAt (with_word R 7 (10 ^ e)) m log (digit_code table l)) ((bs ++ decimal n) ++ (10 ∷ []))
    first e n bs R m left at ready lt small room less is some =
        let none = zero-mul (10 ^ suc e) in
        let same : 0 * 10 ^ suc e + n ≡ n = omega (arith, none) in
        subst (λ x. Ends (WAt (with_word R 7 (10 ^ e)) m log (digit_code table l))
        ((bs ++ decimal x) ++ (10 ∷ []))) same
        (digits e 0 n bs bs (with_word R 7 (10 ^ e)) m left at refl ready lt
        (λ z. let a = some z in omega (arith, a)) (omega (arith, same, small)) room less (sym (append-nil bs))
        (doing_kept R (with_word R 7 (10 ^ e)) m bs refl refl refl refl is))

    abbrev lower : WSeq
    lower = WThen (WArith O.Sub 6 6 (V.Num 8)) (WJump l)

    abbrev single : WSeq
    single = WThen (WBranch C.Equal 7 (V.Num 1) (l + 1)) lower

    abbrev test_code : WSeq
    test_code = WThen (WBranch C.AtLeast 5 (V.Reg 7) (l + 1)) single

    -- the power is loaded
    loads : (e k : ℕ) (R : WRegs) (m : Memory) (bs : List ℕ) (z : Option WState) → R 6 ≡ table + 8 * e → e < 19 →
        Doing R m bs → wrun place blocks k (WAt (with_word R 7 (10 ^ e)) m log test_code) ≡ z →
        wrun place blocks (suc k) (WAt R m log (lead_code table l)) ≡ z
    loads e k R m bs z at less is rest =
        let from : R 6 + 0 ≡ table + 8 * e = omega (arith, at) in
        ap (λ x. option_and_then (wrun place blocks k) (option_map (λ y. WAt (with_word R 7 y) m log test_code)
        (m x))) from
        ∙ ap (λ o. option_and_then (wrun place blocks k) (option_map (λ y. WAt (with_word R 7 y) m log test_code) o))
        (is.has_table.powers e less) ∙ rest

    -- it goes in
    at_once : (e n : ℕ) (bs : List ℕ) (R : WRegs) (m : Memory) → R 5 ≡ n → R 6 ≡ table + 8 * e → R 8 ≡ 48 →
        n < 10 ^ suc e → n < 2 ^ 64 → length bs + e < 24 → e < 19 → Doing R m bs → 10 ^ e ≤ n →
        Ends (WAt R m log (lead_code table l)) ((bs ++ decimal n) ++ (10 ∷ []))
    at_once e n bs R m left at ready lt small room less is ge =
        let T = with_word R 7 (10 ^ e) in
        let test : nat_lt (R 5) (10 ^ e) ≡ false = grind (arith, nat_tests, left, ge) in
        ends_after (WAt R m log (lead_code table l)) (WAt T m log (digit_code table l)) ((bs ++ decimal n) ++
        (10 ∷ [])) (
          2,
          loads e 1 R m bs (Some (WAt T m log (digit_code table l))) at less is
              (ap (λ b. option_and_then (wrun place blocks 0) (cond (not b) (at_label place blocks T m log (l + 1))
              (Some (WAt T m log single)))) test
              ∙ ap (λ o. option_and_then (wrun place blocks 0) (option_map (WAt T m log) o)) has.digit),
        )
        (first e n bs R m left at ready lt small room less is
        (λ z. quotient_some n (10 ^ e) (power_some 10 e (omega arith)) ge))

    -- down to the first digit
    leads : (e n : ℕ) (bs : List ℕ) (R : WRegs) (m : Memory) → R 5 ≡ n → R 6 ≡ table + 8 * e → R 8 ≡ 48 →
        n < 10 ^ suc e → n < 2 ^ 64 → length bs + e < 24 → e < 19 → Doing R m bs →
        Ends (WAt R m log (lead_code table l)) ((bs ++ decimal n) ++ (10 ∷ []))
    leads zero n bs R m left at ready lt small room less is = ⊎_elim
        (λ (under : n < 1).
        let T = with_word R 7 1 in
        let test : nat_lt (R 5) 1 ≡ true = grind (arith, nat_tests, left, under) in
        ends_after (WAt R m log (lead_code table l)) (WAt T m log (digit_code table l)) ((bs ++ decimal n) ++
        (10 ∷ [])) (
          3,
          loads 0 2 R m bs (Some (WAt T m log (digit_code table l))) at less is
              (ap (λ b. option_and_then (wrun place blocks 1) (cond (not b) (at_label place blocks T m log (l + 1))
              (Some (WAt T m log single)))) test
              ∙ ap (λ o. option_and_then (wrun place blocks 0) (option_map (WAt T m log) o)) has.digit),
        )
        (first 0 n bs R m left at ready lt small room less is (λ z. absurd (omega (arith, z)))))
        (at_once 0 n bs R m left at ready lt small room less is)
        (cases_lt n 1)
    leads (suc e) n bs R m left at ready lt small room less is = ⊎_elim
        (λ (under : n < 10 ^ suc e).
        let T = with_word R 7 (10 ^ suc e) in
        let U = with_word T 6 ((R 6 + (2 ^ 64 - 8)) % 2 ^ 64) in
        let test : nat_lt (R 5) (10 ^ suc e) ≡ true = grind (arith, nat_tests, left, under) in
        let other : 10 ^ suc e ≢ 1 = λ s. omega (arith, s) in
        let more : nat_eq (10 ^ suc e) 1 ≡ false = grind (arith, nat_tests, other) in
        let back : (R 6 + (2 ^ 64 - 8)) % 2 ^ 64 ≡ table + 8 * e =
        difference 8 (R 6) (omega (arith, at)) (omega (arith, at, less, fits)) ∙ omega (arith, at) in
        let x = WAt R m log (lead_code table l) in
        ends_after x (WAt U m log (lead_code table l)) ((bs ++ decimal n) ++ (10 ∷ [])) (
          5,
          loads (suc e) 4 R m bs (Some (WAt U m log (lead_code table l))) at less is
              (ap (λ b. option_and_then (wrun place blocks 3) (cond (not b) (at_label place blocks T m log (l + 1))
              (Some (WAt T m log single)))) test
              ∙ ap (λ b. option_and_then (wrun place blocks 2) (cond b (at_label place blocks T m log (l + 1))
              (Some (WAt T m log lower)))) more
              ∙ ap (λ o. option_and_then (wrun place blocks 0) (option_map (WAt U m log) o)) has.lead),
        )
        (leads e n bs U m left back ready under small (omega (arith, room)) (omega (arith, less))
        (doing_kept R U m bs refl refl refl refl is)))
        (at_once (suc e) n bs R m left at ready lt small room less is)
        (cases_lt n (10 ^ suc e))

    -- all of it
    module _ (q : ℕ) (R : WRegs) (m : Memory) (small : R q < 2 ^ 64) (t : HasTable table m) where
      abbrev begun : WRegs
      begun = with_word (with_word (with_word (with_word (with_word (with_word (with_word R 5 (R q)) 9 0x20746e69)
          10 (2 ^ 32)) 12 4) 11 (text_start table)) 6 (table + 144)) 8 48

      upright : R q < 2 ^ 63 → Ends (WAt R m log (print_code table l q)) (integer_line (cast_signed w64 (R q)))
      upright less =
          let i : cast_signed w64 (R q) ≡ pos (R q) = to_z_pos w64 (R q) less in
          let test : nat_lt (R q) (2 ^ 63) ≡ true = grind (arith, nat_tests, less) in
          let none : text_start table ≡ text_start table + 8 * 0 = omega arith in
          let is : Doing begun m (codes "int ") = record {
            front = [];
            cur = codes "int ";
            j = 0;
            whole = refl;
            long = refl;
            reads = refl;
            bytes = (omega arith, (omega arith, (omega arith, (omega arith, tt))));
            short = omega arith;
            word = refl;
            factor = refl;
            to = none;
            count = refl;
            has_table = t;
          } in
          let all = leads 18 (R q) (codes "int ") begun m refl (omega arith) refl (omega (arith, less)) small
          (omega arith)
          (omega arith) is in
          ends_after (WAt R m log (print_code table l q)) (WAt begun m log (lead_code table l))
          (integer_line (cast_signed w64 (R q))) (
            8,
            ap (λ b. option_and_then (wrun place blocks 0) (cond b (at_label place blocks begun m log l)
                (Some (WAt begun m log (negated table l))))) test
                ∙ ap (λ o. option_and_then (wrun place blocks 0) (option_map (WAt begun m log) o)) has.lead,
          )
          (subst (Ends (WAt begun m log (lead_code table l)))
          (append_assoc (codes "int ") (decimal (R q)) (10 ∷ []) ∙ ap integer_line (sym i)) all)

      negative : 2 ^ 63 ≤ R q → Ends (WAt R m log (print_code table l q)) (integer_line (cast_signed w64 (R q)))
      negative ge =
          let k = 2 ^ 64 - suc (R q) in
          let back : 2 ^ 64 - suc (2 ^ 64 - suc (R q)) ≡ R q = omega (arith, small) in
          let i : cast_signed w64 (R q) ≡ negsuc (2 ^ 64 - suc (R q)) =
          ap (cast_signed w64) (sym back)
          ∙ to_z-of_z w64 (negsuc (2 ^ 64 - suc (R q))) (record { sfits = omega (arith, ge, small) }) in
          let test : nat_lt (R q) (2 ^ 63) ≡ false = grind (arith, nat_tests, ge) in
          let U = with_word (with_word (with_word (with_word (with_word begun 9 0x7e20746e69) 10 (2 ^ 40)) 12 5) 4 0) 5
          ((0 + (2 ^ 64 - R q)) % 2 ^ 64) in
          let minus : (0 + (2 ^ 64 - R q)) % 2 ^ 64 ≡ suc (2 ^ 64 - suc (R q)) =
          mod-eq_of_lt (omega (arith, ge)) ∙ omega (arith, small) in
          let none : text_start table ≡ text_start table + 8 * 0 = omega arith in
          let is : Doing U m (codes "int ~") = record {
            front = [];
            cur = codes "int ~";
            j = 0;
            whole = refl;
            long = refl;
            reads = refl;
            bytes = (omega arith, (omega arith, (omega arith, (omega arith, (omega arith, tt)))));
            short = omega arith;
            word = refl;
            factor = refl;
            to = none;
            count = refl;
            has_table = t;
          } in
          let all = leads 18 (suc (2 ^ 64 - suc (R q))) (codes "int ~") U m minus (omega arith) refl
          (omega (arith, ge, small)) (omega (arith, ge, small)) (omega arith) (omega arith) is in
          ends_after (WAt R m log (print_code table l q)) (WAt U m log (lead_code table l))
          (integer_line (cast_signed w64 (R q))) (
            14,
            ap (λ b. option_and_then (wrun place blocks 6) (cond b (at_label place blocks begun m log l)
                (Some (WAt begun m log (negated table l))))) test
                ∙ ap (λ o. option_and_then (wrun place blocks 0) (option_map (WAt U m log) o)) has.lead,
          )
          (subst (Ends (WAt U m log (lead_code table l))) (ap integer_line (sym i)) all)

      prints : Ends (WAt R m log (print_code table l q)) (integer_line (cast_signed w64 (R q)))
      prints = ⊎_elim upright negative (cases_lt (R q) (2 ^ 63))

pub prints_integer : PrintsInteger
prints_integer place blocks table l x q R m log has t aligned fits small =
    let e = prints place blocks table l has log (x, aligned) fits q R m small t in (
      e.comes.0,
      WAt e.S e.new (log ++ (Put 1 (integer_line (cast_signed w64 (R q))) ∷ [])) (WExit 0),
      e.comes.1,
      (refl, refl),
    )
