-- Where the erased machine has a step, the instruction is ready, and what it does leads to the state after the step.
use Rattle.std.proofs.Common.{◌≡◌, ℕ, ◌+◌, ◌<◌, List, [], ◌∷◌, ◌++◌, length, Option, Some, None, refl, sym, ap, ap₂}
use Rattle.std.proofs.Common.{◌∙◌, subst, arith, cond, nat_lt, true, false, slice_get, slice_set, option_and_then}
use Rattle.std.proofs.Common.{replicate, get_or, ⊎_elim}
use Rattle.std.specs.Prelude.{ℤ, option_map, slice_index}
use Rattle.std.proofs.lemmas.Bool.Decides.{nat_tests}
use Rattle.std.proofs.lemmas.Option.{slice_get_within, slice_get-get_or, get_or_from_slice_get}
use Rattle.std.proofs.lemmas.List.Elements.{All-same, All-set, All-append, All-replicate, All-get_or}
use Rattle.idx_core.specs.declared.arith.Op.{Op}
use Rattle.idx_core.specs.Arith.{compute, is_zero}
use Rattle.t_terms.specs.Tree.{TBase}
use Rattle.t_terms.specs.Tree as tree
use Rattle.t_terms.specs.Registers.{with_reg}
use Rattle.t_rules.specs.Machine.{Where, Next, Into}
use Rattle.t_rules.specs.Erase.{EWord, EInt, EAddress, ELabel, EEmpty, EInstr, EArith, EBnz, ELd, EMalloc, EMov, ESt}
use Rattle.t_rules.specs.Erase.{ESeq, EThen, EHeap, ERegs, EAt, EStep, EGoes, base_word, on_int, on_address, on_label}
use Rattle.t_rules.specs.Erase.{on_full, enter, estep}
use Rattle.t_collect.specs.Kept.{next_numbers, next_made}
use Rattle.t_machine.specs.Numbers.{numbers, made}
use Rattle.t_machine.specs.Places.{PlaceList, register_place, ArePlaces}
use Rattle.t_collect.specs.Words.{address_of}
use Rattle.t_machine.specs.Words.{word, register_word, regs_of}
use Rattle.t_collect.specs.Cells.{cells_of}
use Rattle.t_collect.specs.Tuples.{starts_from}
use Rattle.t_machine.specs.Heap.{IsHeap, Started, AllStarted, HasField, cell_of, field_of}
use Rattle.t_machine.specs.Action.{Action, Arith, Bnz, Ld, Malloc, Mov, St, Jmp, Halt, data_word, moved_data}
use Rattle.t_machine.specs.Code.{IsBase, IsNumber, IsEntry, IsTarget, IsInstr, IsEnd, HoldsBlocks}
use Rattle.t_machine.specs.Steps.{at_place, value_of, number_of, EntersBlock, entry_of, TargetInRange, EntersTarget}
use Rattle.t_machine.specs.Steps.{target_of, tests_zero, computed, IsReady, Leads}
use Rattle.t_collect.specs.declared.word.Word.{Word}
use Rattle.t_collect.specs.declared.word.Word.TheVariants.{Int, Address, Empty}
use Rattle.t_machine.specs.declared.heap.Heap.{Heap}
use Rattle.t_machine.specs.declared.code.Operand.{Operand}
use Rattle.t_machine.specs.declared.code.Operand.TheVariants as operand_of
use Rattle.t_machine.specs.declared.code.Number.{Number}
use Rattle.t_machine.specs.declared.code.Target.{Target}
use Rattle.t_machine.specs.declared.code.Target.TheVariants as target
use Rattle.t_machine.specs.declared.code.Instruction.{Instruction}
use Rattle.t_machine.proofs.Loads.{at_entry}
use Rattle.t_machine.proofs.Tuples.{has_field, field_is, stored, grown}
use Rattle.t_machine.proofs.Addresses.{started_more, new_tuple, started_new, started_set, all_more}
use Rattle.t_machine.proofs.Registers.{held_int, held_address, held_label, held_word, held_full, is_integer, reads}
use Rattle.t_machine.proofs.Registers.{in_range, place_in_range, operand_in_range, placed, operand, number, writes}
use Rattle.t_machine.proofs.Registers.{set_count}
use Rattle.t_collect.proofs.Inverses.{int_read, address_read, label_read, full_read, some_read, map_read, test_read}

-- the place n is where the step leads from the place a
abbrev pub Leading : List ℕ → ℕ → ℕ → Where → Type 0
Leading es a n Next = n ≡ a + 1
Leading es a n (Into l) = slice_get es l ≡ Some n

-- the tuples of y are numbered as the next instruction numbers those of x
pub record Numbered (c : ESeq) (x y : Heap) : Type 0 where
  pub numbers : numbers y ≡ next_numbers c (numbers x) (made x)
  pub made : made y ≡ next_made c (made x)
  pub fixed : y.fixed ≡ x.fixed

-- the erased machine makes a step to what the heap y and the words us stand for
pub record Onward (blocks : List ESeq) (m : PlaceList) (es : List ℕ) (x : Heap) (h : EHeap) (ws : List Word) (c : ESeq)
    (y : Heap) (us : List Word) (a n : ℕ) : Type 0 where
  pub way : Where
  pub tuples : EHeap
  pub rest : ESeq
  pub steps : estep blocks (EAt h (regs_of m ws) c) ≡ Some (EGoes way (EAt tuples (regs_of m us) rest))
  pub has_heap : IsHeap y tuples
  pub numbered : Numbered c x y
  pub heap_started : AllStarted (starts_from 0 tuples) (cells_of y.cells)
  pub words_started : AllStarted (starts_from 0 tuples) us
  pub more : (w : Word) → Started (starts_from 0 h) w → Started (starts_from 0 tuples) w
  pub has_words : length us ≡ length m
  pub leading : Leading es a n way

-- the instruction can be executed before the code c, and leads on
abbrev pub Works : List ESeq → PlaceList → List ℕ → Heap → EHeap → List Word → Action → ESeq → Type 0
Works blocks m es x h ws o c =
    IsReady x ws es o × ((y : Heap) (us : List Word) (a n : ℕ) → Leads x ws es a o y us n →
    Onward blocks m es x h ws c y us a n)

-- where a jump leads
record Entered (blocks : List ESeq) (m : PlaceList) (es : List ℕ) (h : EHeap) (ws : List Word) (v : Target)
    (b : TBase) : Type 0 where
  label : ℕ
  code : ESeq
  enters : enter blocks h (regs_of m ws) b ≡ Some (EGoes (Into label) (EAt h (regs_of m ws) code))
  ready : EntersTarget ws es v
  at : slice_get es label ≡ Some (target_of ws es v)

-- the entry of a base that is a label
entry_is : (R : ERegs) (es : List ℕ) (n : ℕ) (b : TBase) (l start : ℕ) → IsEntry es n b →
    base_word R b ≡ Some (ELabel l) → slice_get es l ≡ Some start → n ≡ start
entry_is R es n (tree.Reg r) l start is e at = absurd is
entry_is R es n (tree.Int i) l start is e at = cc
entry_is R es n (tree.Label k) l start is e at = let same : k ≡ l = cc in is ∙ ap (λ j. slice_index es j) same
    ∙ get_or_from_slice_get es l start 0 at
entry_is R es n (tree.Data d) l start is e at = cc

module _ (blocks : List ESeq) (m : PlaceList) (os : List Instruction) (es : List ℕ)
    (code : HoldsBlocks m es os es blocks) (x : Heap) (h : EHeap) (is : IsHeap x h) (ws : List Word)
    (places : ArePlaces m) (count : length ws ≡ length m) (in_heap : AllStarted (starts_from 0 h) (cells_of x.cells))
    (in_words : AllStarted (starts_from 0 h) ws) where
  abbrev R : ERegs
  R = regs_of m ws

  abbrev S : List ℕ
  S = starts_from 0 h

  -- an instruction that makes no tuple
  numbered_alike : (c : ESeq) (y : Heap) → y ≡ x → next_numbers c (numbers x) (made x) ≡ numbers x →
      next_made c (made x) ≡ made x → Numbered c x y
  numbered_alike c y e f g = record {
    numbers = ap numbers e ∙ sym f;
    made = ap made e ∙ sym g;
    fixed = ap (λ z. z.fixed) e;
  }

  -- addresses tell where their tuples start
  same_started : (y : Heap) → y ≡ x → AllStarted S (cells_of y.cells)
  same_started y e = subst (λ z. AllStarted S (cells_of z.cells)) (sym e) in_heap

  kept_started : (us : List Word) → us ≡ ws → AllStarted S us
  kept_started us e = All-same (Started S) us ws e in_words

  put_started : (d : ℕ) (v : Word) (us : List Word) → us ≡ slice_set ws d v → Started S v → AllStarted S us
  put_started d v us e s = All-same (Started S) us (slice_set ws d v) e (All-set (Started S) ws d v s in_words)

  word_started : (k : ℕ) → k < length ws → Started S (at_place ws k)
  word_started k lt = All-get_or (Started S) ws k (Empty 0) lt in_words

  value_started : (v : Operand) (b : TBase) → IsBase m v b → Started S (data_word v) → Started S (value_of ws v)
  value_started (operand_of.Register k) b pb s = word_started k (place_in_range m ws places count k b pb)
  value_started (operand_of.Int i) b pb s = tt
  value_started (operand_of.Label l) b pb s = tt
  value_started (operand_of.Data a) b pb s = s

  address_started : (k a : ℕ) → k < length ws → at_place ws k ≡ Address a → Started S (Address a)
  address_started k a lt e = subst (Started S) e (word_started k lt)

  abbrev putting : ℕ → ESeq → EWord → Option EStep
  putting rd r w = Some (EGoes Next (EAt h (with_reg R rd w) r))

  target_in_range : (v : Target) (b : TBase) → IsTarget m es v b → TargetInRange (length ws) v
  target_in_range (target.Register k) b pb = place_in_range m ws places count k b pb
  target_in_range (target.Entry n) b pb = tt

  -- the target's place, where its base has a label
  target_is : (v : Target) (b : TBase) (l start : ℕ) → IsTarget m es v b → base_word R b ≡ Some (ELabel l) →
      slice_get es l ≡ Some start → EntersTarget ws es v × (target_of ws es v ≡ start)
  target_is (target.Register k) b l start pb e at =
      let is_label = held_label (at_place ws k) l (placed m ws places count k b (ELabel l) pb e) in (
        subst (EntersBlock es) (sym is_label) (slice_get_within es l start at),
        ap (entry_of es) is_label
            ∙ get_or_from_slice_get es l start 0 at,
      )
  target_is (target.Entry n) b l start pb e at = (tt, entry_is R es n b l start pb e at)

  entered : (v : Target) (b : TBase) → IsTarget m es v b → (st : EStep) → enter blocks h R b ≡ Some st →
      Entered blocks m es h ws v b
  entered v b pb st e =
      let lab = label_read (base_word R b) (λ l. option_map (λ (c : ESeq). EGoes (Into l) (EAt h R c))
      (slice_get blocks l)) st e in
      let got = map_read (slice_get blocks lab.0) (λ (c : ESeq). EGoes (Into lab.0) (EAt h R c)) st lab.2 in
      let ent = at_entry es m os es blocks code lab.0 got.0 got.1 in
      let to = target_is v b lab.0 ent.0 pb lab.1 ent.1 in
      record {
        label = lab.0;
        code = got.0;
        enters = ap (λ z. on_label z (λ l. option_map (λ (c : ESeq). EGoes (Into l) (EAt h R c))
            (slice_get blocks l))) lab.1 ∙ ap (option_map (λ (c : ESeq). EGoes (Into lab.0) (EAt h R c))) got.1;
        ready = to.0;
        at = ent.1 ∙ ap Some (sym to.1);
      }

  -- the register at d gets the word v
  put_in : (rd d : ℕ) (v : Word) (w : EWord) (us : List Word) → register_place m rd ≡ Some d → register_word v ≡ Some w
      →
      us ≡ slice_set ws d v → with_reg R rd w ≡ regs_of m us
  put_in rd d v w us pd hv e = writes m ws places count rd d v w pd hv ∙ ap (regs_of m) (sym e)

  counted : (d : ℕ) (v : Word) (us : List Word) → us ≡ slice_set ws d v → length us ≡ length m
  counted d v us e = ap (λ z. length z) e ∙ set_count ws d v ∙ count

  kept : (us : List Word) → us ≡ ws → length us ≡ length m
  kept us e = ap (λ z. length z) e ∙ count

  module _ (r : ESeq) (st : EStep) where
    adds : (op : Op) (d s : ℕ) (v : Number) (rd rs : ℕ) (b : TBase) → register_place m rd ≡ Some d →
        register_place m rs ≡ Some s → IsNumber m v b → estep blocks (EAt h R (EThen (EArith op rd rs b) r)) ≡ Some st →
        Works blocks m es x h ws (Arith op d s v) (EThen (EArith op rd rs b) r)
    adds op d s v rd rs b pd ps pb e =
        let one = int_read (R rs) (λ i. on_int (base_word R b) (λ j. putting rd r (EInt (compute op i j)))) st e in
        let two = int_read (base_word R b) (λ j. putting rd r (EInt (compute op one.0 j))) st one.2 in
        let left = reads m ws rs s (EInt one.0) one.1 ps in
        let left_is = held_int (at_place ws s) one.0 left.1 in
        let right = number m ws places count v b two.0 pb two.1 in
        let right_is = right.1 in
        let result : computed op (at_place ws s) (number_of ws v) ≡ Int (compute op one.0 two.0) = ap₂
        (computed op) left_is right_is in (
          (
            in_range m ws places count rd d pd,
            left.0,
            right.0,
            is_integer (at_place ws s) one.0 left_is,
            is_integer
                (number_of ws v) two.0 right_is,
          ),
          (λ y us a n leads.
              let same = leads.2 ∙ ap (slice_set ws d) result in
              record {
                way = Next;
                tuples = h;
                rest = r;
                steps = ap (λ z. on_int z (λ i. on_int (base_word R b) (λ j. putting rd r (EInt
                    (compute op i j))))) one.1
                    ∙ ap (λ z. on_int z (λ j. putting rd r (EInt (compute op one.0 j)))) two.1
                    ∙ ap (λ g. Some (EGoes Next (EAt h g r))) (put_in rd d (Int (compute op one.0 two.0)) (EInt
                    (compute op one.0 two.0)) us pd refl same);
                has_heap = subst (λ z. IsHeap z h) (sym leads.1) is;
                numbered = numbered_alike _ y leads.1 refl refl;
                heap_started = same_started y leads.1;
                words_started = put_started d (Int (compute op one.0 two.0)) us same tt;
                more = λ w z. z;
                has_words = counted d (Int (compute op one.0 two.0)) us same;
                leading = leads.0;
              }),
        )

    bnz : (s : ℕ) (v : Target) (q : ℕ) (b : TBase) → register_place m q ≡ Some s → IsTarget m es v b →
        estep blocks (EAt h R (EThen (EBnz q b) r)) ≡ Some st → Works blocks m es x h ws (Bnz s v) (EThen
        (EBnz q b) r)
    bnz s v q b ps pb e =
        let branch = λ (i : ℤ). cond (is_zero i) (Some (EGoes Next (EAt h R r))) (enter blocks h R b) in
        let one = int_read (R q) branch st e in
        let left = reads m ws q s (EInt one.0) one.1 ps in
        let left_is = held_int (at_place ws s) one.0 left.1 in
        let test : tests_zero (at_place ws s) ≡ is_zero one.0 = ap tests_zero left_is in
        let goes : tests_zero (at_place ws s) ≡ false → Entered blocks m es h ws v b =
        λ f. entered v b pb st (sym (ap (λ t. cond t (Some (EGoes Next (EAt h R r))) (enter blocks h R b))
        (sym test ∙ f)) ∙ one.2) in (
          (left.0, target_in_range v b pb, is_integer (at_place ws s) one.0 left_is, (λ f. (goes f).ready)),
          (λ y us a n leads. ⊎_elim
              (λ (z : (tests_zero (at_place ws s) ≡ true) × (n ≡ a + 1)). record {
                way = Next;
                tuples = h;
                rest = r;
                steps = ap (λ u. on_int u branch) one.1
                    ∙ ap (λ t. cond t (Some (EGoes Next (EAt h R r))) (enter blocks h R b)) (sym test ∙ z.0)
                    ∙ ap (λ g. Some (EGoes Next (EAt h g r))) (ap (regs_of m) (sym leads.1));
                has_heap = subst (λ z. IsHeap z h) (sym leads.0) is;
                numbered = numbered_alike _ y leads.0 refl refl;
                heap_started = same_started y leads.0;
                words_started = kept_started us leads.1;
                more = λ w t. t;
                has_words = kept us leads.1;
                leading = z.1;
              })
              (λ (z : (tests_zero (at_place ws s) ≡ false) × (n ≡ target_of ws es v)).
              let to = goes z.0 in
              record {
                way = Into to.label;
                tuples = h;
                rest = to.code;
                steps = ap (λ u. on_int u branch) one.1
                    ∙ ap (λ t. cond t (Some (EGoes Next (EAt h R r))) (enter blocks h R b)) (sym test ∙ z.0)
                    ∙ to.enters
                    ∙ ap (λ g. Some (EGoes (Into to.label) (EAt h g to.code))) (ap (regs_of m) (sym leads.1));
                has_heap = subst (λ z. IsHeap z h) (sym leads.0) is;
                numbered = numbered_alike _ y leads.0 refl refl;
                heap_started = same_started y leads.0;
                words_started = kept_started us leads.1;
                more = λ w t. t;
                has_words = kept us leads.1;
                leading = to.at ∙ ap Some (sym z.1);
              })
              leads.2),
        )

    ld : (d s i rd rs : ℕ) → register_place m rd ≡ Some d → register_place m rs ≡ Some s → estep blocks (EAt h R (EThen
        (ELd rd rs i) r)) ≡ Some st → Works blocks m es x h ws (Ld d s i) (EThen (ELd rd rs i) r)
    ld d s i rd rs pd ps e =
        let loads = λ (t : List EWord). on_full (slice_get t i) (putting rd r) in
        let one = address_read (R rs) (λ a. option_and_then loads (slice_get h a)) st e in
        let two = some_read (slice_get h one.0) loads st one.2 in
        let three = full_read (slice_get two.0 i) (putting rd r) st two.2 in
        let from = reads m ws rs s (EAddress one.0) one.1 ps in
        let from_is = held_address (at_place ws s) one.0 from.1 in
        let c = from_is.0 in
        let started = address_started s c from.0 from_is.1 in
        let there = ap (slice_get h) from_is.2 ∙ two.1 in
        let has = has_field x h is c i started two.0 there three.0 three.1 in
        let got = field_is x h is c i started two.0 there three.0 three.1 in
        let full = held_full (field_of x (Address c) i) three.0 three.3 got in (
          (
            in_range m ws places count rd d pd,
            from.0,
            subst (λ z. HasField x z i) (sym from_is.1) has,
          ),
          (λ y us a n leads.
              let same = leads.2 ∙ ap (λ z. slice_set ws d (field_of x z i)) from_is.1 in
              record {
                way = Next;
                tuples = h;
                rest = r;
                steps = ap (λ z. on_address z (λ a. option_and_then loads (slice_get h a))) one.1
                    ∙ ap (option_and_then loads) two.1
                    ∙ loaded (slice_get two.0 i) three.0 rd three.1 three.3
                    ∙ ap (λ g. Some (EGoes Next (EAt h g r))) (put_in rd d (field_of x
                    (Address c) i) three.0 us pd full same);
                has_heap = subst (λ z. IsHeap z h) (sym leads.1) is;
                numbered = numbered_alike _ y leads.1 refl refl;
                heap_started = same_started y leads.1;
                words_started = put_started d (field_of x (Address c) i) us same
                    (All-get_or (Started S) (cells_of x.cells) (cell_of (Address c) i) (Empty 0) has in_heap);
                more = λ w t. t;
                has_words = counted d (field_of x (Address c) i) us same;
                leading = leads.0;
              }),
        )
      where
        full_is : (w : EWord) (go : EWord → Option EStep) → (w ≡ EEmpty → ⊥) → on_full (Some w) go ≡ go w
        full_is (EInt i) go k = refl
        full_is (EAddress a) go k = refl
        full_is (ELabel l) go k = refl
        full_is EEmpty go k = absurd (k refl)

        loaded : (o : Option EWord) (w : EWord) (rd : ℕ) → o ≡ Some w → (w ≡ EEmpty → ⊥) →
            on_full o (putting rd r) ≡ putting rd r w
        loaded o w rd e k = ap (λ z. on_full z (putting rd r)) e ∙ full_is w (putting rd r) k

    malloc : (d k rd : ℕ) → register_place m rd ≡ Some d → Works blocks m es x h ws (Malloc d k)
        (EThen (EMalloc rd k) r)
    malloc d k rd pd = (
      in_range m ws places count rd d pd,
      (λ y us a n leads.
          let t = replicate k EEmpty in
          let new = address_of (length x.starts.items) (length (cells_of x.cells)) in
          let T = starts_from 0 (h ++ t ∷ []) in
          let more = started_more h t in
          record {
            way = Next;
            tuples = h ++ t ∷ [];
            rest = r;
            steps = ap (λ g. Some (EGoes Next (EAt (h ++ t ∷ []) g r))) (put_in rd d (Address new) (EAddress
                (length h)) us pd (ap (λ z. Some (EAddress z)) (new_tuple x h is)) leads.4);
            has_heap = grown x h is y k leads.1 leads.2;
            numbered = record { numbers = leads.3.numbers; made = leads.3.made; fixed = leads.3.fixed };
            heap_started = All-same (Started T) (cells_of y.cells) (cells_of x.cells ++ replicate k (Empty 0)) leads.1
                (All-append (Started T) (cells_of x.cells) (replicate k (Empty 0))
                (all_more S T more (cells_of x.cells) in_heap) (All-replicate (Started T) k (Empty 0) tt));
            words_started = All-same (Started T) us (slice_set ws d (Address new)) leads.4
                (All-set (Started T) ws d (Address new) (started_new x h is t) (all_more S T more ws in_words));
            more = more;
            has_words = counted d (Address new) us leads.4;
            leading = leads.0;
          }),
    )

    mov : (d : ℕ) (v : Operand) (rd : ℕ) (b : TBase) → register_place m rd ≡ Some d → IsBase m v b →
        Started S (data_word v) → estep blocks (EAt h R (EThen (EMov rd b) r)) ≡ Some st →
        Works blocks m es x h ws (Mov d v) (EThen (EMov rd b) r)
    mov d v rd b pd pb started e =
        let moves = λ (w : EWord). EGoes Next (EAt h (with_reg R rd w) r) in
        let one = map_read (base_word R b) moves st e in
        let from = operand m ws places count v b one.0 pb one.1 in (
          (in_range m ws places count rd d pd, operand_in_range m ws places count v b pb),
          (λ y us a n leads. record {
            way = Next;
            tuples = h;
            rest = r;
            steps = ap (option_map moves) one.1 ∙ ap (λ g. Some (EGoes Next (EAt h g r))) (put_in rd d
                (value_of ws v) one.0 us pd from leads.2);
            has_heap = subst (λ z. IsHeap z h) (sym leads.1) is;
            numbered = numbered_alike _ y leads.1 refl refl;
            heap_started = same_started y leads.1;
            words_started = put_started d (value_of ws v) us leads.2 (value_started v b pb started);
            more = λ w t. t;
            has_words = counted d (value_of ws v) us leads.2;
            leading = leads.0;
          }),
        )

    store : (d i s rd rs : ℕ) → register_place m rd ≡ Some d → register_place m rs ≡ Some s → estep blocks
        (EAt h R (EThen
        (ESt rd i rs) r)) ≡ Some st → Works blocks m es x h ws (St d i s) (EThen (ESt rd i rs) r)
    store d i s rd rs pd ps e =
        let fills = λ (a : ℕ) (t : List EWord) (w : EWord). cond (nat_lt i (length t)) (Some (EGoes Next (EAt
        (slice_set h a (slice_set t i w)) R r))) None in
        let one = address_read (R rd) (λ a. option_and_then (λ t. option_and_then (fills a t) (R rs))
        (slice_get h a)) st e in
        let two = some_read (slice_get h one.0) (λ t. option_and_then (fills one.0 t) (R rs)) st one.2 in
        let three = some_read (R rs) (fills one.0 two.0) st two.2 in
        let test = test_read (nat_lt i (length two.0)) (EGoes Next (EAt (slice_set h one.0
        (slice_set two.0 i three.0)) R r)) st three.2 in
        let lt : i < length two.0 = grind (arith, nat_tests) in
        let to = reads m ws rd d (EAddress one.0) one.1 pd in
        let to_is = held_address (at_place ws d) one.0 to.1 in
        let c = to_is.0 in
        let started = address_started d c to.0 to_is.1 in
        let tuple = ap (slice_get h) to_is.2 ∙ two.1 in
        let from = reads m ws rs s three.0 three.1 ps in
        let v = at_place ws s in
        let from_is = held_word v three.0 from.1 in
        let there = slice_get-get_or two.0 i EEmpty lt in (
          (
            to.0,
            from.0,
            subst (λ z. HasField x z i) (sym to_is.1) (has_field x h is c i started two.0 tuple
                (get_or two.0 i EEmpty) there),
          ),
          (λ y us a n leads.
              let cells = leads.1 ∙ ap (λ z. slice_set (cells_of x.cells) (cell_of z i) v) to_is.1 in
              let T = starts_from 0 (slice_set h one.0 (slice_set two.0 i (word v))) in
              let more = started_set h one.0 i two.0 (word v) two.1 in
              record {
                way = Next;
                tuples = slice_set h one.0 (slice_set two.0 i (word v));
                rest = r;
                steps = ap (λ z. on_address z (λ a. option_and_then (λ t. option_and_then (fills a t) (R rs))
                    (slice_get h a))) one.1
                    ∙ ap (option_and_then (λ t. option_and_then (fills one.0 t) (R rs))) two.1
                    ∙ ap (option_and_then (fills one.0 two.0)) three.1
                    ∙ ap (λ t. cond t (Some (EGoes Next (EAt (slice_set h one.0
                    (slice_set two.0 i three.0)) R r))) None) test
                    ∙ ap₂ (λ w g. Some (EGoes Next (EAt (slice_set h one.0 (slice_set two.0 i w)) g r)))
                    (sym from_is) (ap (regs_of m) (sym leads.4));
                has_heap = subst (λ z. IsHeap y (slice_set h z (slice_set two.0 i (word v)))) to_is.2
                    (stored x h is c i started two.0 tuple y v lt cells leads.2);
                numbered = record { numbers = leads.3.numbers; made = leads.3.made; fixed = leads.3.fixed };
                heap_started = All-same (Started T) (cells_of y.cells) (slice_set (cells_of x.cells)
                    (cell_of (Address c) i) v) cells
                    (All-set (Started T) (cells_of x.cells) (cell_of (Address c) i) v (more v (word_started s from.0))
                    (all_more S T more (cells_of x.cells) in_heap));
                words_started = All-same (Started T) us ws leads.4 (all_more S T more ws in_words);
                more = more;
                has_words = kept us leads.4;
                leading = leads.0;
              }),
        )

  pub works_instr : (o : Action) (i : EInstr) (r : ESeq) → IsInstr m es o i → Started S (moved_data o) →
      (st : EStep) → estep blocks (EAt h R (EThen i r)) ≡ Some st → Works blocks m es x h ws o (EThen i r)
  works_instr (Arith op d s v) i r p started st e =
      subst (λ j. Works blocks m es x h ws (Arith op d s v) (EThen j r)) (sym p.6)
      (adds r st op d s v p.0 p.1 p.2 p.3 p.4 p.5 (subst (λ j. estep blocks (EAt h R (EThen j r)) ≡ Some st) p.6 e))
  works_instr (Bnz s v) i r p started st e =
      subst (λ j. Works blocks m es x h ws (Bnz s v) (EThen j r)) (sym p.4) (bnz r st s v p.0 p.1 p.2 p.3 (subst
      (λ j. estep blocks (EAt h R (EThen j r)) ≡ Some st) p.4 e))
  works_instr (Ld d s f) i r p started st e =
      subst (λ j. Works blocks m es x h ws (Ld d s f) (EThen j r)) (sym p.4) (ld r st d s f p.0 p.1 p.2 p.3 (subst
      (λ j. estep blocks (EAt h R (EThen j r)) ≡ Some st) p.4 e))
  works_instr (Malloc d k) i r p started st e = subst (λ j. Works blocks m es x h ws (Malloc d k) (EThen j r)) (sym p.2)
      (malloc r st d k p.0 p.1)
  works_instr (Mov d v) i r p started st e =
      subst (λ j. Works blocks m es x h ws (Mov d v) (EThen j r)) (sym p.4) (mov r st d v p.0 p.1 p.2 p.3 started (subst
      (λ j. estep blocks (EAt h R (EThen j r)) ≡ Some st) p.4 e))
  works_instr (St d f s) i r p started st e =
      subst (λ j. Works blocks m es x h ws (St d f s) (EThen j r)) (sym p.4) (store r st d f s p.0 p.1 p.2 p.3
      (subst (λ j. estep blocks (EAt h R (EThen j r)) ≡ Some st) p.4 e))
  works_instr (Jmp v) i r p started st e = absurd p
  works_instr (Halt s) i r p started st e = absurd p

  pub works_jump : (v : Target) (c : ESeq) → IsEnd m es (Jmp v) c → (st : EStep) →
      estep blocks (EAt h R c) ≡ Some st → Works blocks m es x h ws (Jmp v) c
  works_jump v c p st e =
      let to = entered v p.0 p.1 st (subst (λ d. estep blocks (EAt h R d) ≡ Some st) p.2 e) in (
        (target_in_range v p.0 p.1, to.ready),
        (λ y us a n leads. record {
          way = Into to.label;
          tuples = h;
          rest = to.code;
          steps = ap (λ d. estep blocks (EAt h R d)) p.2 ∙ to.enters ∙ ap (λ g. Some (EGoes (Into to.label)
              (EAt h g to.code))) (ap (regs_of m) (sym leads.1));
          has_heap = subst (λ z. IsHeap z h) (sym leads.0) is;
          numbered = numbered_alike c y leads.0 (ap (λ d. next_numbers d (numbers x) (made x)) p.2)
              (ap (λ d. next_made d (made x)) p.2);
          heap_started = same_started y leads.0;
          words_started = kept_started us leads.1;
          more = λ w t. t;
          has_words = kept us leads.1;
          leading = to.at ∙ ap Some (sym leads.2);
        }),
      )
