-- The translation of an instruction does what the instruction does, but for `malloc`.
use Rattle.std.proofs.Common.{◌≡◌, ℕ, suc, ◌+◌, ◌*◌, ◌<◌, ◌≤◌, nat_eq, nat_lt, cond, Bool, true}
use Rattle.std.proofs.Common.{false, List, length, Option, Some, None, refl, sym, ap, ◌∙◌, subst, arith}
use Rattle.std.proofs.Common.{slice_get, slice_set, get_or, option_and_then}
use Rattle.std.specs.Prelude.{ℤ, option_map, not}
use Rattle.std.proofs.lemmas.Bool.Decides.{nat_tests}
use Rattle.std.proofs.lemmas.Option.{slice_get_within, slice_get-get_or}
use Rattle.idx_core.specs.declared.arith.Op.{Op}
use Rattle.idx_core.specs.Arith.{compute, is_zero}
use Rattle.t_terms.specs.Tree.{TBase}
use Rattle.t_terms.specs.Tree as tree
use Rattle.t_terms.specs.Registers.{with_reg}
use Rattle.t_rules.specs.Machine.{Where, Next, Into}
use Rattle.t_rules.specs.Erase.{EWord, EInt, EAddress, ELabel, EEmpty, EArith, EBnz, ELd, EMalloc, EMov, ESt}
use Rattle.t_rules.specs.Erase.{ESeq, EThen, EJmp, EHalt, EHeap, ERegs, EAt, EStep, EGoes, base_word, on_int}
use Rattle.t_rules.specs.Erase.{on_full, enter, estep}
use Rattle.t_collect.proofs.Inverses.{int_read, address_read, label_read, full_read, some_read, map_read, test_read}
use Rattle.std.specs.Int.{cast_unsigned, w64}
use Rattle.w_terms.specs.Tree.{WInstr, WLoad, WStore, WSeq, WThen, WJump, WGoto}
use Rattle.w_terms.specs.Machine.{WRegs, Memory, Written, WState, WAt, with_word, operand, word_op, label_at, at_label}
use Rattle.w_terms.specs.Machine.{wstep, wrun, stored}
use Rattle.w_terms.specs.declared.instr.WOperand.{WOperand}
use Rattle.w_rooms.specs.Numbers.{reg, entry, free_reg, limit_reg, temp_reg}
use Rattle.w_laws.specs.Code.{word_op_of, IsOperand, IsMove, IsJump, IsChoice, IsSeq, AreBlocks}
use Rattle.w_laws.specs.Shows.{Zone, IsWord, Shows}
use Rattle.w_terms.proofs.Machine.{found, written_apart}
use Rattle.std.proofs.lemmas.List.{length-set}
use Rattle.w_laws.proofs.Words.{Int64, computed, constant, zero_test}
use Rattle.w_laws.proofs.Showing.{put, own_put}
use Rattle.w_laws.proofs.Showing as showing

-- an instruction that is no `malloc`, and an end
abbrev pub Plain : ESeq → Type 0
Plain (EThen (EMalloc rd n) e) = ⊥
Plain _ = Unit {0}

-- one step, and then n
pub run_step : (place : ℕ → ℕ) (blocks : List WSeq) (n : ℕ) (x y : WState) (z : Option WState) →
    wstep place blocks x ≡ Some y → wrun place blocks n y ≡ z → wrun place blocks (suc n) x ≡ z
run_step place blocks n x y z e f = ap (option_and_then (wrun place blocks n)) e ∙ f

-- a register of the program is not one of the runtime
window : (R : WRegs) (rd n k : ℕ) → k < 16 → with_word R (reg rd) n k ≡ R k
window R rd n k lt = written_apart R (reg rd) n k (λ e. omega (arith, e, lt))

-- The word code has these blocks, at these places; they are those of an erased program with so many data tuples.
module _ (place : ℕ → ℕ) (zone : Zone) (blocks : List WSeq) (base : ℕ → ℕ) (fixed : ℕ) (es : List ESeq)
    (are : AreBlocks base fixed zone.many blocks es)
    (one : (l k : ℕ) → l < length blocks → k < length blocks → place l ≡ place k → l ≡ k) where
  -- from the registers R, the memory m and the code c some steps lead to what shows the state after a step
  pub record Moved (at : ℕ → ℕ) (R : WRegs) (m : Memory) (log : List Written) (c : WSeq) (h : EHeap) (r : ERegs)
      (e : ESeq) : Type 0 where
    pub steps : ℕ
    pub regs : WRegs
    pub memory : Memory
    pub code : WSeq
    pub runs : wrun place blocks (suc steps) (WAt R m log c) ≡ Some (WAt regs memory log code)
    pub shows : Shows place zone at h r regs memory
    pub free : regs free_reg ≡ R free_reg
    pub limit : regs limit_reg ≡ R limit_reg
    pub sized : fixed ≤ length h
    pub is_code : IsSeq base fixed zone.many blocks e code

  -- a step by what it is
  pub by_step : (at : ℕ → ℕ) (R : WRegs) (m : Memory) (log : List Written) (c : WSeq) (w v : Where) (h g : EHeap)
      (r q : ERegs) (e f : ESeq) → Moved at R m log c h r e →
      ◌≡◌ {A = Option EStep} (Some (EGoes w (EAt h r e))) (Some (EGoes v (EAt g q f))) → Moved at R m log c g q f
  by_step at R m log c w v h g r q e f is s =
      let e1 : h ≡ g = cc in
      let e2 : r ≡ q = cc in
      let e3 : e ≡ f = cc in
      subst (λ z. Moved at R m log c z q f) e1
      (subst (λ z. Moved at R m log c h z f) e2 (subst (λ z. Moved at R m log c h r z) e3 is))

  module _ (at : ℕ → ℕ) (h : EHeap) (r : ERegs) (R : WRegs) (m : Memory) (log : List Written)
      (is : Shows place zone at h r R m) (agree : (d : ℕ) → d < fixed → at d ≡ base d) (some : fixed ≤ length h) where
    -- the word of a register that has an integer, an address, a label
    int_reg : (q : ℕ) (i : ℤ) → r q ≡ Some (EInt i) → Int64 i (R (reg q))
    int_reg q i e = is.represents.regs q (EInt i) e

    int_operand : (b : TBase) (v : WOperand) (i : ℤ) → IsOperand b v → base_word r b ≡ Some (EInt i) →
        Int64 i (operand R v)
    int_operand (tree.Reg q) v i k e = subst (λ x. Int64 i (operand R x)) (sym k) (int_reg q i e)
    int_operand (tree.Int j) v i k e =
        let same : j ≡ i = cc in
        subst (λ x. Int64 i (operand R x)) (sym k.1) (subst (λ x. Int64 x (cast_unsigned w64 j)) same (constant j k.0))
    int_operand (tree.Label l) v i k e = cc
    int_operand (tree.Data d) v i k e = cc

    -- the code of a label
    at_code : (l : ℕ) (c : WSeq) → slice_get blocks l ≡ Some c →
        at_label place blocks R m log l ≡ Some (WAt R m log c)
    at_code l c e = ap (option_map (WAt R m log)) e

    goes : (l n : ℕ) (c : WSeq) → R n ≡ place l → slice_get blocks l ≡ Some c →
        wstep place blocks (WAt R m log (WGoto n)) ≡ Some (WAt R m log c)
    goes l n c e f =
        ap (λ a. option_and_then (at_label place blocks R m log) (label_at place (length blocks) a)) e
        ∙ ap (option_and_then (at_label place blocks R m log))
        (found place (length blocks) l (slice_get_within blocks l c f) one)
        ∙ at_code l c f

    -- a jump
    pub jumps : (b : TBase) (c : WSeq) (w : Where) (g : EHeap) (q : ERegs) (f : ESeq) → IsJump b c →
        enter es h r b ≡ Some (EGoes w (EAt g q f)) → Moved at R m log c g q f
    jumps b c w g q f k e =
        let to = λ (l : ℕ). option_map (λ (x : ESeq). EGoes (Into l) (EAt h r x)) (slice_get es l) in
        let lab = label_read (base_word r b) to (EGoes w (EAt g q f)) e in
        let got = map_read (slice_get es lab.0) (λ (x : ESeq). EGoes (Into lab.0) (EAt h r x)) (EGoes w (EAt g q f))
        lab.2 in
        let there = are lab.0 got.0 got.1 in
        by_step at R m log c (Into lab.0) w h g r q got.0 f (record {
          steps = 0;
          regs = R;
          memory = m;
          code = there.0;
          runs = run_step place blocks 0 (WAt R m log c) (WAt R m log there.0) _
              (go b lab.0 there.0 k lab.1 there.1) refl;
          shows = is;
          free = refl;
          limit = refl;
          sized = some;
          is_code = there.2;
        }) (sym (ap (option_map (λ (x : ESeq). EGoes (Into lab.0) (EAt h r x))) got.1) ∙ lab.2)
      where
        go : (b : TBase) (l : ℕ) (d : WSeq) → IsJump b c → base_word r b ≡ Some (ELabel l) →
            slice_get blocks (entry l) ≡ Some d → wstep place blocks (WAt R m log c) ≡ Some (WAt R m log d)
        go (tree.Reg n) l d k e f =
            ap (λ x. wstep place blocks (WAt R m log x)) k ∙ goes (entry l) (reg n) d (is.represents.regs n (ELabel
            l) e) f
        go (tree.Label n) l d k e f =
            let same : n ≡ l = cc in
            ap (λ x. wstep place blocks (WAt R m log x)) k
            ∙ at_code (entry n) d (ap (λ x. slice_get blocks (entry x)) same ∙ f)
        go (tree.Int i) l d k e f = cc
        go (tree.Data n) l d k e f = cc

    module _ (w : Where) (g : EHeap) (q : ERegs) (f : ESeq) (c : WSeq) (e : ESeq) where
      abbrev Goal : ESeq → Type 0
      Goal a = IsSeq base fixed zone.many blocks a c → estep es (EAt h r a) ≡ Some (EGoes w (EAt g q f)) →
          Moved at R m log c g q f

      abbrev st : EStep
      st = EGoes w (EAt g q f)

      abbrev puts : EHeap → ERegs → ℕ → EWord → Option EStep
      puts x y rd v = Some (EGoes Next (EAt x (with_reg y rd v) e))

      adds : (op : Op) (rd rs : ℕ) (b : TBase) → Goal (EThen (EArith op rd rs b) e)
      adds op rd rs b k s =
          let one' = int_read (r rs) (λ i. on_int (base_word r b) (λ j. puts h r rd (EInt (compute op i j)))) st s in
          let two = int_read (base_word r b) (λ j. puts h r rd (EInt (compute op one'.0 j))) st one'.2 in
          let word = computed op one'.0 two.0 (R (reg rs)) (operand R k.1) (int_reg rs one'.0 one'.1)
          (int_operand b k.1 two.0 k.2 two.1) in
          let n = word_op (word_op_of op) (R (reg rs)) (operand R k.1) in
          by_step at R m log c Next w h g (with_reg r rd (EInt (compute op one'.0 two.0))) q e f (record {
            steps = 0;
            regs = with_word R (reg rd) n;
            memory = m;
            code = k.0;
            runs = ap (λ x. wrun place blocks 1 (WAt R m log x)) k.4;
            shows = put place zone at h r R m is rd (EInt (compute op one'.0 two.0)) n k.5 word;
            free = window R rd n 0 (omega arith);
            limit = window R rd n 1 (omega arith);
            sized = some;
            is_code = k.3;
          }) two.2

      moves : (rd : ℕ) (b : TBase) → Goal (EThen (EMov rd b) e)
      moves rd b k s =
          let move = λ (v : EWord). EGoes Next (EAt h (with_reg r rd v) e) in
          let v = map_read (base_word r b) move st s in
          let n = go b k.1 v.0 k.2 v.1 in
          by_step at R m log c Next w h g (with_reg r rd v.0) q e f (record {
            steps = 0;
            regs = with_word R (reg rd) n.0;
            memory = m;
            code = k.0;
            runs = ap (λ x. wrun place blocks 1 (WAt R m log x)) k.4
                ∙ run_step place blocks 0 (WAt R m log (WThen k.1 k.0)) (WAt (with_word R (reg rd) n.0) m log k.0) _
                n.1 refl;
            shows = put place zone at h r R m is rd v.0 n.0 k.5 n.2;
            free = window R rd n.0 0 (omega arith);
            limit = window R rd n.0 1 (omega arith);
            sized = some;
            is_code = k.3;
          }) (sym (ap (option_map move) v.1) ∙ s)
        where
          go : (b : TBase) (i : WInstr) (v : EWord) → IsMove base fixed zone.many blocks rd b i →
              base_word r b ≡ Some v →
              (n : ℕ) × (wstep place blocks (WAt R m log (WThen i k.0)) ≡ Some (WAt (with_word R (reg rd) n) m log k.0))
              × IsWord place zone at (length h) v n
          go (tree.Reg t) i v k' s = (
            R (reg t),
            ap (λ x. wstep place blocks (WAt R m log
                (WThen x k.0))) k',
            is.represents.regs t v s,
          )
          go (tree.Int j) i v k' s =
              let same : EInt j ≡ v = cc in (
                cast_unsigned w64 j,
                ap (λ x. wstep place blocks (WAt R m log (WThen x k.0))) k'.1,
                subst (λ x. IsWord place zone at (length h) x (cast_unsigned w64 j)) same (constant j k'.0),
              )
          go (tree.Label l) i v k' s =
              let same : ELabel l ≡ v = cc in (
                place (entry l),
                ap (λ x. wstep place blocks (WAt R m log (WThen x k.0))) k',
                subst (λ x. IsWord place zone at (length h) x (place (entry l))) same refl,
              )
          go (tree.Data d) i v k' s =
              let same : EAddress d ≡ v = cc in let lt = k'.0 in (
                base d,
                ap (λ x. wstep place blocks (WAt R m log (WThen x k.0))) k'.1,
                subst (λ x. IsWord place zone at (length h) x (base d)) same (
                  omega (arith, lt, some),
                  sym
                      (agree d k'.0),
                ),
              )

      loads : (rd rs i : ℕ) → Goal (EThen (ELd rd rs i) e)
      loads rd rs i k s =
          let load = λ (t : List EWord). on_full (slice_get t i) (puts h r rd) in
          let a = address_read (r rs) (λ a. option_and_then load (slice_get h a)) st s in
          let t = some_read (slice_get h a.0) load st a.2 in
          let v = full_read (slice_get t.0 i) (puts h r rd) st t.2 in
          let n = is.represents.fields a.0 i t.0 v.0 t.1 v.1 in
          let address = (is.represents.regs rs (EAddress a.0) a.1).1 in
          by_step at R m log c Next w h g (with_reg r rd v.0) q e f (record {
            steps = 0;
            regs = with_word R (reg rd) n.0;
            memory = m;
            code = k.0;
            runs = ap (λ x. wrun place blocks 1 (WAt R m log x)) k.2
                ∙ run_step place blocks 0 (WAt R m log (WThen (WLoad (reg rd) (reg rs) (8 * i)) k.0))
                (WAt (with_word R (reg rd) n.0) m log k.0) (Some (WAt (with_word R (reg rd) n.0) m log k.0)) (ap
                (λ y. option_map (λ z. WAt (with_word R (reg rd) z) m log k.0) (m (y + 8 * i))) address
                ∙ ap (option_map (λ z. WAt (with_word R (reg rd) z) m log k.0)) n.1) refl;
            shows = put place zone at h r R m is rd v.0 n.0 k.3 n.2;
            free = window R rd n.0 0 (omega arith);
            limit = window R rd n.0 1 (omega arith);
            sized = some;
            is_code = k.1;
          }) v.2

      stores : (rd i rs : ℕ) → Goal (EThen (ESt rd i rs) e)
      stores rd i rs k s =
          let fills = λ (a : ℕ) (t : List EWord) (v : EWord). cond (nat_lt i (length t)) (Some (EGoes Next (EAt
          (slice_set h a (slice_set t i v)) r e))) None in
          let a = address_read (r rd) (λ a. option_and_then (λ t. option_and_then (fills a t) (r rs))
          (slice_get h a)) st s in
          let t = some_read (slice_get h a.0) (λ t. option_and_then (fills a.0 t) (r rs)) st a.2 in
          let v = some_read (r rs) (fills a.0 t.0) st t.2 in
          let test = test_read (nat_lt i (length t.0)) (EGoes Next (EAt (slice_set h a.0
          (slice_set t.0 i v.0)) r e)) st v.2 in
          let lt : i < length t.0 = grind (arith, nat_tests) in
          let old = is.represents.fields a.0 i t.0 (get_or t.0 i EEmpty) t.1 (slice_get-get_or t.0 i EEmpty lt) in
          let address = (is.represents.regs rd (EAddress a.0) a.1).1 in
          let new = with_word m (at a.0 + 8 * i) (Some (R (reg rs))) in
          by_step at R m log c Next w (slice_set h a.0 (slice_set t.0 i v.0)) g r q e f (record {
            steps = 0;
            regs = R;
            memory = new;
            code = k.0;
            runs = ap (λ x. wrun place blocks 1 (WAt R m log x)) k.2
                ∙ run_step place blocks 0 (WAt R m log (WThen (WStore (reg rd) (8 * i) (reg rs)) k.0))
                (WAt R new log k.0)
                (Some (WAt R new log k.0)) (ap (λ y. option_map (λ z. WAt R z log k.0) (stored m (y + 8 * i) (R
                (reg rs)))) address
                ∙ ap (λ o. option_map (λ z. WAt R z log k.0) (option_map (λ z. new) o)) old.1) refl;
            shows = showing.stored place zone at h r R m is a.0 i t.0 t.1 lt v.0 (R (reg rs)) (is.represents.regs rs
                v.0 v.1);
            free = refl;
            limit = refl;
            sized = let more = length-set h a.0 (slice_set t.0 i v.0) in omega (arith, more, some);
            is_code = k.1;
          }) (sym (ap (λ b. cond b (Some (EGoes Next (EAt (slice_set h a.0 (slice_set t.0 i v.0)) r e))) None) test)
          ∙ v.2)

      branches : (t : ℕ) (b : TBase) → Goal (EThen (EBnz t b) e)
      branches t b k s =
          let branch = λ (i : ℤ). cond (is_zero i) (Some (EGoes Next (EAt h r e))) (enter es h r b) in
          let i = int_read (r t) branch st s in
          let tells = zero_test i.0 (R (reg t)) (int_reg t i.0 i.1) in
          by_test b k.2 (nat_eq (R (reg t)) 0) refl
          (sym (ap (λ z. cond z (Some (EGoes Next (EAt h r e))) (enter es h r b)) tells) ∙ i.2)
        where
          onward : (S : WRegs) → wrun place blocks 1 (WAt R m log c) ≡ Some (WAt S m log k.0) →
              Shows place zone at h r S m → S free_reg ≡ R free_reg → S limit_reg ≡ R limit_reg →
              Some (EGoes Next (EAt h r e)) ≡ Some st → Moved at R m log c g q f
          onward S runs shows free limit s = by_step at R m log c Next w h g r q e f (record {
            steps = 0;
            regs = S;
            memory = m;
            code = k.0;
            runs = runs;
            shows = shows;
            free = free;
            limit = limit;
            sized = some;
            is_code = k.1;
          }) s

          by_test : (b : TBase) → IsChoice base fixed zone.many blocks t b k.0 c → (z : Bool) →
              nat_eq (R (reg t)) 0 ≡ z →
              cond z (Some (EGoes Next (EAt h r e))) (enter es h r b) ≡ Some st → Moved at R m log c g q f
          by_test (tree.Label l) d true z s =
              onward R (run_step place blocks 0 (WAt R m log c) (WAt R m log k.0) _
              (ap (λ x. wstep place blocks (WAt R m log x)) d
              ∙ ap (λ x. cond (not x) (at_label place blocks R m log (entry l)) (Some (WAt R m log k.0))) z) refl) is
              refl refl s
          by_test (tree.Reg n) d true z s =
              onward R (run_step place blocks 0 (WAt R m log c) (WAt R m log k.0) _
              (ap (λ x. wstep place blocks (WAt R m log x)) d.2
              ∙ ap (λ x. cond x (at_label place blocks R m log d.0) (Some (WAt R m log (WGoto (reg n))))) z
              ∙ at_code d.0 k.0 d.1) refl) is refl refl s
          by_test (tree.Int i) d true z s =
              onward (with_word R temp_reg 0) (ap (λ x. wrun place blocks 1 (WAt R m log x)) d)
              (own_put place zone at h r R m is temp_reg 0 (omega arith) (omega arith)) refl refl s
          by_test (tree.Data n) d true z s =
              onward (with_word R temp_reg 0) (ap (λ x. wrun place blocks 1 (WAt R m log x)) d)
              (own_put place zone at h r R m is temp_reg 0 (omega arith) (omega arith)) refl refl s
          by_test (tree.Label l) d false z s =
              let to = jumps (tree.Label l) (WJump (entry l)) w g q f refl s in record {
                steps = to.steps;
                regs = to.regs;
                memory = to.memory;
                code = to.code;
                runs = ap (λ x. wrun place blocks (suc to.steps) (WAt R m log x)) d
                    ∙ ap (λ x. option_and_then (wrun place blocks to.steps)
                    (cond (not x) (at_label place blocks R m log (entry l)) (Some (WAt R m log k.0)))) z ∙ to.runs;
                shows = to.shows;
                free = to.free;
                limit = to.limit;
                sized = to.sized;
                is_code = to.is_code;
              }
          by_test (tree.Reg n) d false z s =
              let to = jumps (tree.Reg n) (WGoto (reg n)) w g q f refl s in record {
                steps = suc to.steps;
                regs = to.regs;
                memory = to.memory;
                code = to.code;
                runs = run_step place blocks (suc to.steps) (WAt R m log c) (WAt R m log (WGoto (reg n))) _
                    (ap (λ x. wstep place blocks (WAt R m log x)) d.2
                    ∙ ap (λ x. cond x (at_label place blocks R m log d.0) (Some (WAt R m log (WGoto (reg n))))) z)
                    to.runs;
                shows = to.shows;
                free = to.free;
                limit = to.limit;
                sized = to.sized;
                is_code = to.is_code;
              }
          by_test (tree.Int i) d false z s = cc
          by_test (tree.Data n) d false z s = cc

    pub moved : (a : ESeq) → Plain a → (w : Where) (g : EHeap) (q : ERegs) (f : ESeq) (c : WSeq) →
        IsSeq base fixed zone.many blocks a c → estep es (EAt h r a) ≡ Some (EGoes w (EAt g q f)) →
        Moved at R m log c g q f
    moved (EThen (EArith op rd rs b) e) p w g q f c k s = adds w g q f c e op rd rs b k s
    moved (EThen (EBnz t b) e) p w g q f c k s = branches w g q f c e t b k s
    moved (EThen (ELd rd rs i) e) p w g q f c k s = loads w g q f c e rd rs i k s
    moved (EThen (EMalloc rd n) e) p w g q f c k s = absurd p
    moved (EThen (EMov rd b) e) p w g q f c k s = moves w g q f c e rd b k s
    moved (EThen (ESt rd i rs) e) p w g q f c k s = stores w g q f c e rd i rs k s
    moved (EJmp b) p w g q f c k s = jumps b c w g q f k s
    moved EHalt p w g q f c k s = cc
