-- The translation of a `malloc`: where enough is free it takes a tuple, and else it asks for memory.
use Rattle.std.proofs.Common.{◌≡◌, ◌≢◌, ℕ, zero, suc, ◌+◌, ◌-◌, ◌%◌, ◌<◌, ◌≤◌, ◌^◌, nat_lt, cond}
use Rattle.std.proofs.Common.{true, false, List, [], ◌∷◌, ◌++◌, length, Some, refl, sym, ap, ◌∙◌}
use Rattle.std.proofs.Common.{arith, slice_get, replicate, ⊎_elim, inl, inr, ◌⊎◌, option_and_then}
use Rattle.std.specs.Prelude.{option_map, not}
use Rattle.std.proofs.lemmas.Bool.{cases_lt}
use Rattle.std.proofs.lemmas.Bool.Decides.{nat_tests}
use Rattle.std.proofs.lemmas.List.{length_push}
use Rattle.std.proofs.Math.Nat.{mod-eq_of_lt}
use Rattle.t_terms.specs.Registers.{with_reg}
use Rattle.t_rules.specs.Erase.{EAddress, EEmpty, EHeap, ERegs}
use Rattle.w_terms.specs.Tree.{WConst, WPlace, WArith, WStore, WBranch, WSeq, WThen, WJump}
use Rattle.w_terms.specs.Machine.{WRegs, Memory, Written, WState, WAt, with_word, at_label, wrun, stored}
use Rattle.w_terms.specs.declared.instr.WOp.TheVariants as O
use Rattle.w_terms.specs.declared.instr.WCond.TheVariants as C
use Rattle.w_terms.specs.declared.instr.WOperand.TheVariants as V
use Rattle.w_rooms.specs.Numbers.{reg, free_reg, limit_reg, need_reg, back_reg, temp_reg, room_label, bytes}
use Rattle.w_laws.specs.Code.{taken, room_for}
use Rattle.w_laws.specs.Code.{asked}
use Rattle.w_laws.specs.Shows.{Zone, IsWord, Shows}
use Rattle.w_terms.proofs.Machine.{written_here, written_apart, written_cases, difference}
use Rattle.w_laws.proofs.Showing.{put, own_put, regs_alike, limit_small}
use Rattle.w_laws.proofs.Showing as showing
use Rattle.w_laws.proofs.Steps.{run_step}

-- there is room for the fields, and for one at least
pub some_room : (n : ℕ) → 1 ≤ room_for n
some_room zero = omega arith
some_room (suc n) = omega arith

pub enough_room : (n : ℕ) → n ≤ room_for n
enough_room zero = omega arith
enough_room (suc n) = omega arith

pub small_room : (n : ℕ) → n < 2 ^ 31 → room_for n < 2 ^ 31
small_room zero lt = omega arith
small_room (suc n) lt = lt

sum : (a b : ℕ) → a + b < 2 ^ 64 → (a + b) % 2 ^ 64 ≡ a + b
sum a b lt = mod-eq_of_lt lt

module _ (place : ℕ → ℕ) (zone : Zone) (blocks : List WSeq) (at : ℕ → ℕ) (h : EHeap) (r : ERegs)
    (R : WRegs) (m : Memory) (log : List Written) (is : Shows place zone at h r R m) (n : ℕ) (small : n < 2 ^ 31)
    (fit : zone.fixed ≤ length h) where
  -- enough is free
  pub record Enough (l : ℕ) (next : WSeq) : Type 0 where
    pub regs : WRegs
    pub runs : wrun place blocks 2 (WAt R m log (asked l n)) ≡ Some (WAt regs m log next)
    pub shows : Shows place zone at h r regs m
    pub room : regs free_reg + bytes (room_for n) ≤ regs limit_reg
    pub free : regs free_reg ≡ R free_reg
    pub limit : regs limit_reg ≡ R limit_reg

  -- memory is asked for
  pub record Wants (l : ℕ) (next : WSeq) : Type 0 where
    pub regs : WRegs
    pub runs : wrun place blocks 5 (WAt R m log (asked l n)) ≡ Some (WAt regs m log next)
    pub shows : Shows place zone at h r regs m
    pub need : regs need_reg ≡ bytes (room_for n)
    pub back : regs back_reg ≡ place l
    pub lacks : R limit_reg < R free_reg + bytes (room_for n)

  -- what is left of the code
  abbrev wants : ℕ → WSeq
  wants l = WThen (WConst need_reg (bytes (room_for n))) (WThen (WPlace back_reg l) (WJump room_label))

  abbrev tests : ℕ → WSeq
  tests l = WThen (WBranch C.AtLeast temp_reg (V.Num (bytes (room_for n))) l) (wants l)

  pub asks : (l : ℕ) (next room : WSeq) → slice_get blocks l ≡ Some next → slice_get blocks room_label ≡ Some room →
      Enough l next ⊎ Wants l room
  asks l next room here there = ⊎_elim
      (λ (lt : R limit_reg - R free_reg < bytes (room_for n)). inr (record {
        regs = T;
        runs = run_step place blocks 4 (WAt R m log (asked l n)) (WAt S m log (tests l)) (Some (WAt T m log room)) refl
            (run_step place blocks 3 (WAt S m log (tests l)) (WAt S m log (wants l)) (Some (WAt T m log room))
            (ap (λ b. cond (not b) (at_label place blocks S m log l) (Some (WAt S m log (wants l))))
            (ap (λ x. nat_lt x (bytes (room_for n))) free ∙ yes lt))
            (ap (λ o. option_and_then (wrun place blocks 0) (option_map (WAt T m log) o)) there));
        shows = own_put place zone at h r (with_word S need_reg (bytes (room_for n))) m
            (own_put place zone at h r S m shown need_reg (bytes (room_for n)) (omega arith) (omega arith)) back_reg
            (place l) (omega arith) (omega arith);
        need = refl;
        back = refl;
        lacks = let o = is.represents.ordered in omega (arith, lt, o);
      }))
      (λ (le : bytes (room_for n) ≤ R limit_reg - R free_reg). inl (record {
        regs = S;
        runs = run_step place blocks 1 (WAt R m log (asked l n)) (WAt S m log (tests l)) (Some (WAt S m log next)) refl
            (run_step place blocks 0 (WAt S m log (tests l)) (WAt S m log next) (Some (WAt S m log next))
            (ap (λ b. cond (not b) (at_label place blocks S m log l) (Some (WAt S m log (wants l))))
            (ap (λ x. nat_lt x (bytes (room_for n))) free ∙ no' le)
            ∙ ap (option_map (WAt S m log)) here) refl);
        shows = shown;
        room = let o = is.represents.ordered in omega (arith, le, o);
        free = refl;
        limit = refl;
      }))
      (cases_lt (R limit_reg - R free_reg) (bytes (room_for n)))
    where
      S : WRegs
      S = with_word R temp_reg ((R limit_reg + (2 ^ 64 - R free_reg)) % 2 ^ 64)

      T : WRegs
      T = with_word (with_word S need_reg (bytes (room_for n))) back_reg (place l)

      free : (R limit_reg + (2 ^ 64 - R free_reg)) % 2 ^ 64 ≡ R limit_reg - R free_reg
      free =
          let lt = limit_small place zone at h r R m is in
          difference (R free_reg) (R limit_reg) is.represents.ordered (omega (arith, lt))

      shown : Shows place zone at h r (with_word R temp_reg ((R limit_reg + (2 ^ 64 - R free_reg)) % 2 ^ 64)) m
      shown = own_put place zone at h r R m is temp_reg ((R limit_reg + (2 ^ 64 - R free_reg)) % 2 ^ 64) (omega arith)
          (omega arith)

      yes : {a b : ℕ} → a < b → nat_lt a b ≡ true
      yes lt = grind (arith, nat_tests)

      no' : {a b : ℕ} → b ≤ a → nat_lt a b ≡ false
      no' le = grind (arith, nat_tests)

  -- A tuple is taken.
  pub record Took (rd : ℕ) (next : WSeq) : Type 0 where
    pub regs : WRegs
    pub runs : wrun place blocks 4 (WAt R m log (taken rd n next))
        ≡ Some (WAt regs (with_word m (R free_reg) (Some n)) log next)
    pub shows : Shows place zone (with_word at (length h) (R free_reg + 8)) (h ++ replicate n EEmpty ∷ [])
        (with_reg r rd (EAddress (length h))) regs (with_word m (R free_reg) (Some n))
    pub free : regs free_reg ≡ R free_reg + bytes (room_for n)
    pub limit : regs limit_reg ≡ R limit_reg

  abbrev bumps : WSeq → WSeq
  bumps next = WThen (WArith O.Add free_reg free_reg (V.Num (bytes (room_for n)))) next

  abbrev sets : ℕ → WSeq → WSeq
  sets rd next = WThen (WArith O.Add (reg rd) free_reg (V.Num 8)) (bumps next)

  abbrev stores : ℕ → WSeq → WSeq
  stores rd next = WThen (WStore free_reg 0 temp_reg) (sets rd next)

  pub takes : (rd : ℕ) (next : WSeq) → rd < zone.many → R free_reg + bytes (room_for n) ≤ R limit_reg → Took rd next
  takes rd next lt room = record {
    regs = U;
    runs = run_step place blocks 3 (WAt R m log (taken rd n next)) (WAt R1 m log (stores rd next)) (Some last) refl
        (run_step place blocks 2 (WAt R1 m log (stores rd next)) (WAt R1 new log (sets rd next)) (Some last)
        (ap (λ a. option_map (λ x. WAt R1 x log (sets rd next)) (stored m a n)) plus
        ∙ ap (λ o. option_map (λ x. WAt R1 x log (sets rd next)) (option_map (λ z. new) o)) old.1)
        (run_step place blocks 1 (WAt R1 new log (sets rd next)) (WAt R2 new log (bumps next)) (Some last)
        (ap (λ x. Some (WAt (with_word R1 (reg rd) x) new log (bumps next))) first)
        (run_step place blocks 0 (WAt R2 new log (bumps next)) last (Some last)
        (ap (λ x. Some (WAt (with_word R2 0 x) new log next)) second) refl)));
    shows = regs_alike place zone to (h ++ replicate n EEmpty ∷ []) (with_reg r rd (EAddress (length h)))
        (with_word S (reg rd) (R free_reg + 8)) new
        (put place zone to (h ++ replicate n EEmpty ∷ []) r S new
        (showing.taken place zone at h r R m is n (room_for n) (some_room n) (enough_room n) room fit) rd
        (EAddress (length h)) (R free_reg + 8) lt word) U swapped free_same
        (same 1 (omega arith) (omega arith) (omega arith)) (same 5 (omega arith) (omega arith) (omega arith))
        (same 6 (omega arith) (omega arith) (omega arith));
    free = refl;
    limit = written_apart R1 (reg rd) (R free_reg + 8) 1 (λ e. omega (arith, e));
  }
    where
      new : Memory
      new = with_word m (R free_reg) (Some n)

      to : ℕ → ℕ
      to = with_word at (length h) (R free_reg + 8)

      R1 : WRegs
      R1 = with_word R temp_reg n

      R2 : WRegs
      R2 = with_word (with_word R temp_reg n) (reg rd) (R free_reg + 8)

      U : WRegs
      U = with_word (with_word (with_word R temp_reg n) (reg rd) (R free_reg + 8)) 0 (R free_reg + bytes (room_for n))

      last : WState
      last = WAt (with_word (with_word (with_word R temp_reg n) (reg rd) (R free_reg + 8)) 0 (R free_reg + bytes
          (room_for n)))
          (with_word m (R free_reg) (Some n)) log next

      S : WRegs
      S = with_word R 0 (R free_reg + bytes (room_for n))

      plus : R free_reg + 0 ≡ R free_reg
      plus = omega arith

      old : (x : ℕ) × (m (R free_reg) ≡ Some x)
      old =
          let low = is.represents.window_low in
          let high = is.represents.window_high in
          let end' = is.represents.used.high in
          is.represents.layout.live_heap (R free_reg) is.represents.low_whole low (omega (arith, room, high, end'))

      first : (R free_reg + 8) % 2 ^ 64 ≡ R free_reg + 8
      first = let f = limit_small place zone at h r R m is in sum (R free_reg) 8 (omega (arith, f, room))

      above : reg rd ≢ 0
      above e = omega (arith, e)

      second : (with_word (with_word R temp_reg n) (reg rd) (R free_reg + 8) 0 + bytes (room_for n)) % 2 ^ 64
          ≡ R free_reg + bytes (room_for n)
      second =
          let f = limit_small place zone at h r R m is in
          ap (λ x. (x + bytes (room_for n)) % 2 ^ 64) (written_apart (with_word R temp_reg n) (reg rd) (R free_reg +
          8) 0 above)
          ∙ sum (R free_reg) (bytes (room_for n)) (omega (arith, f, room))

      none : (k q : ℕ) → k < 16 → k ≢ q + 16
      none k q lt e = omega (arith, e, lt)

      own : (q : ℕ) → with_word R 0 (R free_reg + bytes (room_for n)) (reg q) ≡ R (reg q)
      own q = written_apart R 0 (R free_reg + bytes (room_for n)) (reg q) (none 0 q (omega arith))

      word : IsWord place zone (with_word at (length h) (R free_reg + 8)) (length (h ++ replicate n EEmpty ∷ []))
          (EAddress (length h)) (R free_reg + 8)
      word =
          let more = length_push h (replicate n EEmpty) in
          (omega (arith, more), sym (written_here at (length h) (R free_reg + 8) (length h) refl))

      swapped : (q : ℕ) → with_word (with_word (with_word R temp_reg n) (reg rd) (R free_reg + 8)) 0
          (R free_reg + bytes (room_for n)) (reg q)
          ≡ with_word (with_word R 0 (R free_reg + bytes (room_for n))) (reg rd) (R free_reg + 8) (reg q)
      swapped q =
          written_apart (with_word (with_word R temp_reg n) (reg rd) (R free_reg + 8)) 0 (R free_reg + bytes
          (room_for n)) (reg q)
          (none 0 q (omega arith))
          ∙ ⊎_elim
          (λ (p : (reg rd ≡ reg q) × (with_word (with_word R temp_reg n) (reg rd) (R free_reg + 8) (reg q)
          ≡ R free_reg + 8)).
          p.1 ∙ sym (written_here (with_word R 0 (R free_reg + bytes (room_for n))) (reg rd) (R free_reg + 8) (reg q)
          p.0))
          (λ (p : (reg rd ≢ reg q) × (with_word (with_word R temp_reg n) (reg rd) (R free_reg + 8) (reg q)
          ≡ with_word R temp_reg n (reg q))).
          p.1 ∙ written_apart R temp_reg n (reg q) (none 4 q (omega arith)) ∙ sym (own q)
          ∙ sym (written_apart (with_word R 0 (R free_reg + bytes (room_for n))) (reg rd) (R free_reg + 8) (reg q) p.0))
          (written_cases (with_word R temp_reg n) (reg rd) (R free_reg + 8) (reg q))

      free_same : R free_reg + bytes (room_for n) ≡ with_word (with_word R 0 (R free_reg + bytes (room_for n))) (reg
          rd) (R free_reg + 8) 0
      free_same = sym (written_apart (with_word R 0 (R free_reg + bytes (room_for n))) (reg rd) (R free_reg + 8) 0
          above)

      same : (k : ℕ) → k < 16 → 0 ≢ k → temp_reg ≢ k → U k ≡ with_word S (reg rd) (R free_reg + 8) k
      same k lt first moment =
          let ne : reg rd ≢ k = λ e. omega (arith, e, lt) in
          written_apart R2 0 (R free_reg + bytes (room_for n)) k first
          ∙ written_apart R1 (reg rd) (R free_reg + 8) k ne ∙ written_apart R temp_reg n k moment
          ∙ sym (written_apart R 0 (R free_reg + bytes (room_for n)) k first)
          ∙ sym (written_apart S (reg rd) (R free_reg + 8) k ne)
