-- A machine that was loaded stands for the start of its program.
use Rattle.std.proofs.Common.{None, ap₂, ◌<◌}
use Rattle.std.proofs.Common.{◌≡◌, ℕ, zero, suc, ◌-◌, ◌≤◌, List, [], ◌∷◌, ◌++◌, length, take, Some, refl, sym, ap}
use Rattle.std.proofs.Common.{◌∙◌, subst, arith, slice_get, get_or, replicate}
use Rattle.std.proofs.lemmas.Option.{slice_get_read, slice_get_within, slice_get-get_or, slice_get-map}
use Rattle.std.proofs.lemmas.List.Elements.{All-same, All-replicate, All-weaker, All-get_or}
use Rattle.std.specs.Prelude.{map}
use Rattle.t_terms.specs.Tree.{TBlock, TProg}
use Rattle.t_terms.specs.Read.{blocks_of, data_of}
use Rattle.t_terms.specs.ReadProgram.{program}
use Rattle.t_terms.specs.declared.program.TProgram.{TProgram}
use Rattle.t_terms.specs.declared.data.Data.{Data}
use Rattle.t_terms.specs.declared.block.Block.{Block}
use Rattle.t_rules.specs.Erase.{EWord, EInt, EAddress, ELabel, EEmpty, no_ewords}
use Rattle.t_rules.specs.Erase.{EHeap, ERegs, erase_block, erase_blocks, erase_datum, erase_heap}
use Rattle.t_machine.specs.ProgramLaws.{ProgramLaws}
use Rattle.t_machine.specs.Places.{ArePlaces}
use Rattle.t_machine.specs.Words.{word, regs_of}
use Rattle.t_collect.specs.Words.{tuple_of}
use Rattle.t_collect.specs.Kept.{numbered, WordBelow, Keeps}
use Rattle.std.specs.List.{All}
use Rattle.std.specs.Prelude.{option_map, slice_index}
use Rattle.std.proofs.lemmas.List.{length-map, length-replicate}
use Rattle.t_machine.proofs.Addresses.{started_below}
use Rattle.t_machine.proofs.Numbered.{numbers_length, numbers_new}
use Rattle.t_machine.proofs.Tuples.{field_found, starts_count, tuple_count}
use Rattle.t_collect.specs.Cells.{cells_of}
use Rattle.t_collect.specs.Tuples.{starts_from, PointsBelow}
use Rattle.t_machine.specs.Heap.{IsHeap, IsFresh, Started, AllStarted}
use Rattle.t_machine.specs.Numbers.{numbers}
use Rattle.t_machine.specs.Code.{IsCode, all_moved}
use Rattle.t_machine.specs.Pairs.{ArePairs}
use Rattle.t_machine.specs.Laid.{IsLaid}
use Rattle.t_machine.specs.State.{Represents}
use Rattle.t_collect.specs.declared.word.Word.{Word}
use Rattle.t_collect.specs.declared.word.Word.TheVariants.{Int, Address, Label, Empty}
use Rattle.t_machine.specs.declared.heap.Heap.{Heap}
use Rattle.t_machine.specs.declared.code.Code.{Code}
use Rattle.t_machine.proofs.Loads.{first_entry, erased_count}
use Rattle.t_machine.proofs.Registers.{no_words_yet}

take_none : (T : Type 0) (n : ℕ) → take {A = T} n [] ≡ []
take_none T zero = refl
take_none T (suc n) = refl

-- a vector that was empty, after it was filled up
pub filled_up : {T : Type 0} (w : T) (n k : ℕ) (xs ys : List T) → xs ≡ [] → k ≡ 0 →
    ys ≡ take n xs ++ replicate (n - k) w → ys ≡ replicate n w
filled_up {T} w n k xs ys e z is =
    let whole : n - k ≡ n = omega arith in
    is ∙ ap (λ us. take n us ++ replicate (n - k) w) e
    ∙ ap (λ us. us ++ replicate (n - k) w) (take_none T n)
    ∙ ap (λ j. replicate j w) whole

-- what is in range is there
first_there : (bs : List TBlock) → 1 ≤ length bs → (b : TBlock) × (slice_get bs 0 ≡ Some b)
first_there [] some = absurd (omega arith)
first_there (b ∷ bs) some = (b, refl)

-- where all tuples are kept, each has its index as its number
module _ (x : Heap) (h : EHeap) (is : IsHeap x h) (fresh : IsFresh x)
    (in_heap : AllStarted (starts_from 0 h) (cells_of x.cells)) where
  n_is : length (numbers x) ≡ length h
  n_is = numbers_length x.kept.items x.dropped (length x.starts.items) x.older ∙ tuple_count x h is

  number_is : (i : ℕ) → i < length h → slice_index (numbers x) i ≡ i
  number_is i lt =
      let count = tuple_count x h is in
      let none = ap (λ zs. length zs) fresh.kept in
      let zero = fresh.dropped in
      let e = numbers_new x.kept.items x.dropped (length x.starts.items) i (omega (arith, none))
      (omega (arith, count)) in
      e ∙ omega (arith, zero)

  below_is : (v : Word) → Started (starts_from 0 h) v → WordBelow (length h) (word v)
  below_is (Address a) e = subst (λ n. tuple_of a < n) (starts_count 0 h) (started_below (starts_from 0 h) (Address a)
      e)
  below_is (Int i) e = tt
  below_is (Label l) e = tt
  below_is (Empty n) e = tt

  inner : (i j : ℕ) (t : List EWord) (w : EWord) → slice_get h i ≡ Some t → slice_get t j ≡ Some w →
      WordBelow (length h) w
  inner i j t w e f =
      let found = field_found h i j t w e f in
      let there = ap (λ zs. slice_get zs found.0) is.0 ∙ found.1 in
      let lt = slice_get_within (map word (cells_of x.cells)) found.0 w there in
      let in' : found.0 < length (cells_of x.cells) = omega (arith, lt, length-map (cells_of x.cells) word) in
      let v = get_or (cells_of x.cells) found.0 (Empty 0) in
      let same : Some (word v) ≡ Some w = sym (ap (option_map word)
      (slice_get-get_or (cells_of x.cells) found.0 (Empty 0) in'))
      ∙ sym (slice_get-map word (cells_of x.cells) found.0) ∙ there in
      let e' : word v ≡ w = cc in
      subst (WordBelow (length h)) e' (below_is v (All-get_or (Started (starts_from 0 h)) (cells_of x.cells) found.0
      (Empty 0) in' in_heap))

  word_same : (w : EWord) → WordBelow (length h) w → numbered (numbers x) w ≡ w
  word_same (EAddress i) lt = ap EAddress (number_is i lt)
  word_same (EInt i) lt = refl
  word_same (ELabel l) lt = refl
  word_same EEmpty lt = refl

  words_same : (t : List EWord) → ((j : ℕ) (w : EWord) → slice_get t j ≡ Some w → WordBelow (length h) w) →
      map (numbered (numbers x)) t ≡ t
  words_same [] in' = refl
  words_same (w ∷ t) in' = ap₂ (λ v u. v ∷ u) (word_same w (in' 0 w refl)) (words_same t (λ j. in' (suc j)))

  pub keeps_all : (s : ERegs) → s ≡ no_ewords → Keeps (numbers x) x.fixed h no_ewords h s
  keeps_all s none =
      let fixed = fresh.fixed in
      let count = tuple_count x h is in
      record {
        sized = sym n_is;
        below = λ i lt.
            let in' : i < length h = omega (arith, n_is) in
            omega (arith, number_is i in');
        rising = λ i j lt in'.
            let j_in : j < length h = omega (arith, n_is) in
            let i_in : i < length h = omega arith in
            omega (arith, number_is i i_in, number_is j j_in);
        fixed = omega (arith, n_is);
        same = λ i lt. number_is i (omega arith);
        tuples = λ i t e.
            ap (slice_get h) (number_is i (slice_get_within h i t e)) ∙ e
            ∙ ap Some (sym (words_same t (λ j w f. inner i j t w e f)));
        inside = λ i j t w e f. subst (λ n. WordBelow n w) (sym n_is) (inner i j t w e f);
        regs = λ q. sym (ap (λ (g : ERegs). option_map (numbered (numbers x)) (g q)) none);
        in_regs = λ q w e.
            let no : None ≡ Some w = sym (ap (λ (g : ERegs). g q) none) ∙ e in
            cc;
      }

pub begins : ProgramLaws → (P : TProg) (x : Heap) (ws : List Word) (code : Code) (at : ℕ) → 1 ≤ length P.blocks →
    IsCode code (erase_blocks P) → IsLaid code (erase_blocks P) → ArePairs code.instructions.items →
    ArePlaces code.places → IsHeap x (erase_heap P) → IsFresh x →
    AllStarted (starts_from 0 (erase_heap P)) (cells_of x.cells) →
    AllStarted (starts_from 0 (erase_heap P)) (all_moved code.instructions.items) →
    ws ≡ replicate (length code.places) (Empty 0) → slice_get code.entries.items 0 ≡ Some at →
    Represents P 0 x ws code at
begins laws P x ws code at some is laid paired places heap fresh in_heap in_code words entry =
    let b = first_there P.blocks some in
    let S = starts_from 0 (erase_heap P) in
    let count : length (starts_from 0 (erase_heap P)) ≡ x.fixed = ap (λ ss. length ss) (sym heap.1) ∙ sym fresh.fixed in
    let zero = fresh.dropped in
    let tuples = tuple_count x (erase_heap P) heap in
    record {
      block = 0;
      index = 0;
      rest = erase_block b.0;
      tuples = erase_heap P;
      erased = record {
        heap = erase_heap P;
        regs = no_ewords;
        erased = laws.starts P b.0 b.1;
        keeps = keeps_all x (erase_heap P) heap fresh in_heap (regs_of code.places ws)
            (sym (no_words_yet code.places (length code.places) ∙ ap (regs_of code.places) (sym words)));
        counted = omega (arith, zero, tuples);
      };
      machine = record {
        has_code = is;
        laid = laid;
        paired = paired;
        start = at;
        entered = entry;
        placed = omega arith;
        has_places = places;
        has_words = ap (λ us. length us) words ∙ length-replicate (length code.places) (Empty 0);
        has_heap = heap;
        heap_started = in_heap;
        words_started = All-same (Started S) ws
            (replicate (length code.places) (Empty 0)) words
            (All-replicate (Started S) (length code.places) (Empty 0) tt);
        code_started = in_code;
        code_fixed = subst (λ d. All (PointsBelow d) (all_moved code.instructions.items)) count
            (All-weaker (Started S) (PointsBelow (length S)) (started_below S) (all_moved code.instructions.items)
            in_code);
      };
    }

-- what loading makes
abbrev pub tuples_of : List Data → EHeap
tuples_of tuples = map (map erase_datum) (data_of tuples)

pub starts : ProgramLaws → (p : TProgram) → 1 ≤ length (blocks_of p.blocks.items) → (lent : List Block) →
    lent ≡ p.blocks.items → (code : Code) → IsCode code (map erase_block (blocks_of lent)) →
    IsLaid code (map erase_block (blocks_of lent)) → ArePairs code.instructions.items →
    ArePlaces code.places → (n : ℕ) → n ≡ length code.places
    → (x : Heap) (tuples : List Data) → tuples ≡ p.heap.items → IsHeap x (tuples_of tuples) → IsFresh x
    → (ss : List ℕ) → ss ≡ starts_from 0 (tuples_of tuples) → AllStarted ss (cells_of x.cells) →
    AllStarted ss (all_moved code.instructions.items)
    → (xs : List Word) → xs ≡ [] → (k : ℕ) → k ≡ 0 → (ws : List Word) → ws ≡ take n xs ++ replicate (n - k) (Empty 0) →
    (at : ℕ) → at ≡ get_or code.entries.items 0 at → Represents (program p) 0 x ws code at
starts laws p some lent same code is laid paired places n count x tuples all heap fresh ss are in_heap in_code xs none k
    none_kept ws
    words at entry =
    let bs = p.blocks.items in
    let holds = subst (λ (cs : List Block). IsCode code (map erase_block (blocks_of cs))) same is in
    let lies = subst (λ (cs : List Block). IsLaid code (map erase_block (blocks_of cs))) same laid in
    let entries = first_entry code.places code.entries.items code.instructions.items code.entries.items
    (map erase_block (blocks_of bs)) holds (erased_count (blocks_of bs) some) in
    let begun : ss ≡ starts_from 0 (erase_heap (program p)) = are ∙ ap (λ ys. starts_from 0 (tuples_of ys)) all in
    begins laws (program p) x ws code at some holds lies paired places
    (subst (λ (ys : List Data). IsHeap x (tuples_of ys)) all heap) fresh
    (subst (λ zs. AllStarted zs (cells_of x.cells)) begun in_heap)
    (subst (λ zs. AllStarted zs (all_moved code.instructions.items)) begun in_code)
    (filled_up (Empty 0) n k xs ws none none_kept words ∙ ap (λ j. replicate j (Empty 0)) count)
    (slice_get_read code.entries.items (length code.entries.items) 0 at refl entries entry)
