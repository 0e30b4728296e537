-- From the parts of a file to what is said of it as a whole.
use Rattle.std.proofs.Common.{◌≡◌, ℕ, zero, suc, ◌+◌, ◌-◌, ◌*◌, ◌/◌, ◌%◌, ◌<◌, ◌≤◌, ◌^◌, ◌==◌, Bool, true, false, cond}
use Rattle.std.proofs.Common.{nat_lt, nat_le, nat_eq, List, [], ◌∷◌, length, map, replicate, get_or, Option, Some}
use Rattle.std.proofs.Common.{None, slice_get, slice_index_or, refl, ap, sym, ◌∙◌, subst, arith, length-append, pos}
use Rattle.std.proofs.Common.{ltb-true, ltb-false, lt-ltb, le-leb, eqb-true, eq-eqb}
use Rattle.std.proofs.lemmas.List.{length-replicate, get_or-append-add, length-map}
use Rattle.x_terms.specs.Numbers.{entry}
use Rattle.x_terms.specs.Machine.{Image, State, is_word}
use Rattle.x_terms.specs.Elf.{IsStart, image}
use Rattle.x_terms.specs.declared.register.Register.{Register}
use Rattle.x_terms.specs.declared.register.Register.TheVariants.{Rax}
use Rattle.x_laws.specs.Core.{core}
use Rattle.x_laws.specs.Homes.{InRegister, InSlot, held}
use Rattle.x_laws.specs.Layout.{place_from, program_code}
use Rattle.x_laws.specs.Laws.{IsCompiled, held_words}
use Rattle.x_file.specs.File.{Fits, code_address, data_address}
use Rattle.x_file.specs.Loaded.{IsLoaded, loaded_image, words_bytes, AreWords}
use Rattle.x_file.proofs.Words.{start_words}
use Rattle.x_pass.specs.Homes.{home, home_by, rows, slot, slots_at, most}
use Rattle.x_pass.specs.Layout.{starts, stop}
use Rattle.x_pass.specs.Short.{AreFine}
use Rattle.x_pass.proofs.Allowed.{each_fine, seqs_of}
use Rattle.x_pass.proofs.Measures.{places_are, each_fits, code_long}
use Rattle.x_pass.proofs.Places.{are_homes}
use Rattle.w_terms.specs.Tree.{WSeq, WProg}
use Rattle.w_terms.specs.Read.{block, program}
use Rattle.w_terms.specs.Machine.{AreWords as AllWords, datum_word, image_word, start_memory}
use Rattle.w_terms.specs.declared.program.WBlock.{WBlock}
use Rattle.w_terms.specs.declared.program.WDatum.{WDatum}
use Rattle.w_terms.specs.declared.program.WProgram.{WProgram}
use Rattle.x_program.specs.Made.{base_of, data_words, program_of, HasRoom, IsMade}

bytes_length : (ws : List ℕ) → length (words_bytes ws) ≡ 8 * length ws
bytes_length [] = refl
bytes_length (w ∷ ws) = omega (arith, bytes_length ws)

word_below : (ws : List ℕ) → AreWords ws → (k : ℕ) → get_or ws k 0 < 2 ^ 64
word_below [] h k = omega arith
word_below (w ∷ ws) h zero = h.0
word_below (w ∷ ws) h (suc k) = word_below ws h.1 k

datum_at : (place : ℕ → ℕ) (xs : List WDatum) (k : ℕ) →
    get_or (map (datum_word place) xs) k 0 ≡ image_word place (slice_get xs k)
datum_at place [] k = refl
datum_at place (x ∷ xs) zero = refl
datum_at place (x ∷ xs) (suc k) = datum_at place xs k

first_place : (a : ℕ) (blocks : List WSeq) → a ≡ place_from home a blocks 0
first_place a [] = refl
first_place a (c ∷ cs) = refl

no_word : (a : ℕ) → None ≡ Some a → ⊥
no_word a e = cc

some_word : (a b : ℕ) → Some a ≡ Some b → a ≡ b
some_word a b e = cc

-- the parts of a program are its own
abbrev of_parts : List WBlock → ℕ → List WDatum → ℕ → WProg
of_parts blocks base words size = record { blocks = map block blocks; base = base; image = words; size = size }

pub program_is : (p : WProgram) (n : ℕ) (blocks : List WBlock) (words : List WDatum) → p.base ≡ base_of n →
    blocks ≡ p.blocks.items → words ≡ p.image.items → program_of n blocks words p.size ≡ program p
program_is p n blocks words e f g =
    ap (λ b. of_parts blocks b words p.size) (sym e)
    ∙ ap (λ bs. of_parts bs p.base words p.size) f
    ∙ ap (λ ws. of_parts p.blocks.items p.base ws p.size) g

module _ (n : ℕ) (bs : List WBlock) (base : ℕ) (given : List WDatum) (size : ℕ) (begin : base ≡ base_of n) where
  abbrev prog : WProg
  prog = record { blocks = map block bs; base = base; image = given; size = size }

  -- no word of the program lies below its memory
  none_below : (place : ℕ → ℕ) (a : ℕ) → a < slots_at + 8 * n → start_memory place prog a ≡ None
  none_below place a f =
      let less : nat_lt a base ≡ true = lt-ltb a base (omega (arith, begin, f)) in
      rw less refl

  -- where a word is, and which one
  abbrev Given : (ℕ → ℕ) → ℕ → ℕ → Type 0
  Given place a w =
      (k : ℕ) × (a ≡ base + 8 * k) × (k < size) × (image_word place (slice_get given k) ≡ w)

  word_given : (place : ℕ → ℕ) (a w : ℕ) → (b c d : Bool) → nat_lt a base ≡ b → nat_eq ((a - base) % 8) 0 ≡ c →
      nat_lt ((a - base) / 8) size ≡ d →
      cond b None (cond c (cond d (Some (image_word place (slice_get given ((a - base) / 8)))) None) None) ≡ Some w →
      Given place a w
  word_given place a w true c d e f g h = absurd (no_word w h)
  word_given place a w false false d e f g h = absurd (no_word w h)
  word_given place a w false true false e f g h = absurd (no_word w h)
  word_given place a w false true true e f g h =
      let above : base ≤ a = ltb-false a base e in
      let even : (a - base) % 8 ≡ 0 = eqb-true ((a - base) % 8) 0 f in (
        (a - base) / 8,
        omega (arith, above, even),
        ltb-true ((a - base) / 8) size g,
        some_word _ w h,
      )

  -- where the program has room, its code ends low
  pub stop_low : HasRoom n prog → stop 0x400100 bs ≤ 0xFFFF000
  stop_low r = omega (arith, code_long (place_from home 0x400100 (map block bs)) 0x400100 bs, r.code)

  module _ (code : List ℕ) (heap : ℕ) (file : List ℕ) (places : List ℕ) (end : ℕ) where
    abbrev place_in : ℕ → ℕ
    place_in l = slice_index_or places l end

    abbrev ws : List ℕ
    ws = data_words place_in n given

    abbrev content : List ℕ
    content = words_bytes ws

    content_length : length content ≡ 8 * (n + length given)
    content_length =
        bytes_length ws
        ∙ ap (λ k. 8 * k)
        (length-append (replicate n 0) (map (datum_word place_in) given)
        ∙ ap (λ k. k + length (map (datum_word place_in) given)) (length-replicate n 0)
        ∙ ap (λ k. n + k) (length-map given (datum_word place_in)))

    -- and all has its place in the file
    pub all_fits : code ≡ program_code home 0x400100 (map block bs) → heap ≡ 8 * (size - length given) →
        HasRoom n prog → Fits (length code) (length content) heap
    all_fits e f r = record {
      code_fits = subst (λ x. code_address + length x + 0x1000 ≤ data_address) (sym e) r.code;
      memory_fits = omega (arith, begin, content_length, f, r.memory, r.image);
    }

    module _ (low : n ≤ most) (fine : AreFine n bs) (starts_are : places ≡ starts 0x400100 bs)
        (end_is : end ≡ stop 0x400100 bs) (near : stop 0x400100 bs ≤ 2 ^ 28)
        (code_is : code ≡ program_code home 0x400100 (map block bs)) (words : AreWords ws)
        (loaded : IsLoaded code content heap file) (fit : Fits (length code) (length content) heap)
        (heap_is : heap ≡ 8 * (size - length given)) where
      abbrev m : Image
      m = loaded_image code content heap

      abbrev place : ℕ → ℕ
      place = place_from home 0x400100 (map block bs)

      same_places : place_in ≡ place
      same_places = places_are 0x400100 bs places end starts_are end_is

      -- the word of the data that is a word of the program
      word_there : (k : ℕ) → get_or ws (n + k) 0 ≡ image_word place (slice_get given k)
      word_there k =
          let zeros : List ℕ = replicate n 0 in
          ap (λ j. get_or ws (j + k) 0) (sym (length-replicate n 0))
          ∙ get_or-append-add zeros (map (datum_word place_in) given) k 0
          ∙ datum_at place_in given k
          ∙ ap (λ p. image_word p (slice_get given k)) same_places

      is_there : (k : ℕ) → k < size → is_word m (base + 8 * k) ≡ true
      is_there k f =
          let a : ℕ = base + 8 * k in
          let even : (a % 8 == 0) ≡ true = eq-eqb (a % 8) 0 (omega (arith, begin)) in
          let above : nat_le data_address a ≡ true = le-leb data_address a (omega (arith, begin)) in
          let below : nat_le (a + 8) m.data_end ≡ true =
          le-leb (a + 8) m.data_end (omega (arith, begin, f, content_length, heap_is)) in
          rw (even, above, below) refl

      words_are : (s : State) → IsStart file s → (a w : ℕ) → start_memory place prog a ≡ Some w →
          (is_word m a ≡ true) × (a < 2 ^ 64) × (s.memory a ≡ w)
      words_are s g a w e =
          let x : Given place a w =
          word_given place a w (nat_lt a base) (nat_eq ((a - base) % 8) 0) (nat_lt ((a - base) / 8) size) refl refl refl
          e in
          let k : ℕ = x.0 in
          let there : a ≡ data_address + 8 * (n + k) = omega (arith, x.1, begin) in
          let bound : a < 2 ^ 64 = omega (arith, x.1, begin, x.2, content_length, heap_is, fit.memory_fits) in (
            subst (λ y. is_word m y ≡ true) (sym x.1) (is_there k x.2),
            bound,
            ap s.memory there ∙ start_words code ws heap file s loaded g words (n + k) ∙ word_there k ∙ x.3,
          )

      compiled_at : (s : State) → IsStart file s → IsCompiled m n home prog s
      compiled_at s g = record {
        code = code_is;
        small = omega (arith, fit.code_fits);
        low = omega (arith, fit.memory_fits);
        fit = λ l c e. each_fits n 0x400100 bs fine near l c e;
        fine = λ l c e. (each_fine n bs fine l c e).0;
        homes_are =
            are_homes m (start_memory place prog) n low refl (omega (arith, content_length)) (none_below place);
        words = words_are s g;
        here = loaded.begins s g ∙ first_place 0x400100 (map block bs);
        silent = g.2;
      }

      held_by : (s : State) → IsStart file s → (q : ℕ) (o : Option Register) → held (core s) (home_by q o) < 2 ^ 64
      held_by s g q (Some r) = g.3 r
      held_by s g q None = by_slot (nat_lt q most)
        where
          by_slot : (b : Bool) → held (core s) (cond b (InSlot (pos (slot q))) (InRegister Rax)) < 2 ^ 64
          by_slot true =
              let is : s.memory (slot q) ≡ get_or ws q 0 = start_words code ws heap file s loaded g words q in
              omega (arith, is, word_below ws words q)
          by_slot false = g.3 Rax

      held_words_are : (s : State) → IsStart file s → AllWords (held_words home s)
      unfolding home
      held_words_are s g q = held_by s g q (entry q rows)

      has_room : HasRoom n prog
      has_room = record {
        low = low;
        fine = seqs_of n bs fine;
        code = subst (λ x. code_address + length x + 0x1000 ≤ data_address) code_is fit.code_fits;
        memory = omega (arith, begin, content_length, heap_is, fit.memory_fits);
        image = omega (arith, begin, content_length, heap_is, fit.memory_fits);
      }

      pub is_made : IsMade n prog file
      is_made = record {
        fits = has_room;
        executable = loaded.executable;
        code_at = ap (λ (x : Image). x.code_at) loaded.image_is;
        code = ap (λ (x : Image). x.code) loaded.image_is ∙ code_is;
        compiled = λ s g. subst (λ y. IsCompiled y n home prog s) (sym loaded.image_is) (compiled_at s g);
        words = held_words_are;
      }
