-- A program in bounds has room: all its instructions have code.
use Rattle.std.proofs.Common.{◌≡◌, ℕ, zero, suc, ◌+◌, ◌-◌, ◌*◌, ◌/◌, ◌<◌, ◌≤◌, ◌^◌, List, [], ◌∷◌, length, map}
use Rattle.std.proofs.Common.{Bool, true, false, cond, nat_lt, refl, ap₂, ◌∙◌, arith, inl, inr, ⊎_elim, lit≤, ltb-true}
use Rattle.std.proofs.Common.{length-append}
use Rattle.std.proofs.lemmas.Bool.{cases_lt}
use Rattle.std.proofs.lemmas.List.{length-map}
use Rattle.std.specs.Prelude.{slice_index}
use Rattle.t_terms.specs.Tree.{TData, TProg}
use Rattle.t_terms.specs.Whole.{Whole}
use Rattle.t_rules.specs.Erase.{EWord, ESeq, erase_datum, erase_blocks, erase_heap}
use Rattle.w_runtime.specs.Blocks.{Layout}
use Rattle.w_rooms.specs.Numbers.{bytes}
use Rattle.w_laws.specs.Code.{datum, data_words, data_size, own_words}
use Rattle.w_laws.specs.Built.{runtime_blocks, runtime_words, program_layout, first_use}
use Rattle.w_laws.proofs.Fitting.{programs_are_fine}
use Rattle.w_gen.specs.Data.{addresses_of, word_code}
use Rattle.w_gen.specs.Limits.{highest_register, highest_field, registers_of}
use Rattle.w_gen.proofs.Bounds.{all_small}
use Rattle.w_gen.proofs.Rooms.{zeros_length}
use Rattle.x_pass.specs.Short.{AreSeqs}
use Rattle.x_program.specs.Made.{HasRoom}
use Rattle.native.specs.Native.{IsInBounds, native_registers, native_base}
use Rattle.native.proofs.Runtime.{Stand, runtime_fine}
use Rattle.native.proofs.Coded.{blocks_fine}

-- data tuples stand in the memory
address_below : (h : List TData) (a d top : ℕ) → a + 8 * data_size (map (map erase_datum) h) ≤ top →
    slice_index (addresses_of a h) d ≤ top
address_below [] a d top f = omega arith
address_below (t ∷ h) a zero top f =
    let g : a + 8 * (length (map erase_datum t) + 1 + data_size (map (map erase_datum) h)) ≤ top = f in
    omega (arith, g)
address_below (t ∷ h) a (suc d) top f =
    let g : a + 8 * (length (map erase_datum t) + 1 + data_size (map (map erase_datum) h)) ≤ top = f in
    let same = length-map t erase_datum in
    address_below h (a + bytes (length t)) d top (omega (arith, g, same))

-- the words that are given
own_length : (many : ℕ) → length (runtime_words many) ≡ own_words many
own_length many = let z = zeros_length many in omega (arith, z)

data_length : (at : ℕ → ℕ) (h : List (List EWord)) → length (data_words at h) ≡ data_size h
data_length at [] = refl
data_length at (t ∷ h) =
    let both = length-append (map (datum at) t) (data_words at h) in
    let one = length-map t (datum at) in
    let rest = data_length at h in omega (arith, both, one, rest)

first_small : (heap : ℕ) → first_use heap ≤ 2 ^ 20
first_small heap = by_test (nat_lt heap (2 ^ 20)) refl
  where
    by_test : (b : Bool) → nat_lt heap (2 ^ 20) ≡ b → cond b heap (2 ^ 20) ≤ 2 ^ 20
    by_test true e = let less = ltb-true heap (2 ^ 20) e in omega (arith, less)
    by_test false e = lit≤ tt

module _ (heap : ℕ) (P : TProg) (whole : Whole P) (bounds : IsInBounds heap P) where
  abbrev many : ℕ
  many = registers_of P

  abbrev base : ℕ
  base = native_base P

  abbrev y : Layout
  y = program_layout base heap many P

  abbrev start : ℕ
  start = base + 8 * own_words many

  abbrev at : ℕ → ℕ
  at = slice_index (addresses_of start P.heap)

  abbrev es : List ESeq
  es = erase_blocks P

  narrow : highest_register es < 2 ^ 20
  narrow = ⊎_elim (λ (h : highest_register es < 2 ^ 20). h)
      (λ (h : 2 ^ 20 ≤ highest_register es). absurd (bounds.small (inl h))) (cases_lt (highest_register es) (2 ^ 20))

  short : highest_field es < 2 ^ 28
  short = ⊎_elim (λ (h : highest_field es < 2 ^ 28). h)
      (λ (h : 2 ^ 28 ≤ highest_field es). absurd (bounds.small (inr (inl h)))) (cases_lt (highest_field es) (2 ^ 28))

  low : y.top < 2 ^ 47
  low = ⊎_elim (λ (h : y.top < 2 ^ 47). h)
      (λ (h : 2 ^ 47 ≤ y.top). absurd (bounds.small (inr (inr h)))) (cases_lt y.top (2 ^ 47))

  inside : start + 8 * data_size (erase_heap P) ≤ y.top
  inside = omega arith

  words : (d : ℕ) → at d < 2 ^ 64
  words d = let below = address_below P.heap start d y.top inside in omega (arith, below, low)

  stand : Stand y
  stand = record {
    roots = omega (arith, low);
    roots_end = omega (arith, low);
    base = omega (arith, low);
    limit = omega (arith, low);
    marks = omega (arith, low);
    queue = omega (arith, low);
    top = omega (arith, low);
  }

  used : y.base + first_use heap < 2 ^ 64
  used = let first = first_small heap in omega (arith, low, first)

  fine : AreSeqs (native_registers P) (word_code P base heap).blocks
  fine =
      blocks_fine at words many (length P.heap) (runtime_blocks y base heap many) es (omega arith) short
      (programs_are_fine P whole many (all_small many es (omega arith) (omega (arith, short))))
      (runtime_fine (native_registers P) (omega arith) y stand base heap many used (omega (arith, low)) (omega arith)
      (omega (arith, narrow)))

  given : length (word_code P base heap).image ≡ own_words many + data_size (erase_heap P)
  given =
      length-append (runtime_words many) (data_words at (erase_heap P))
      ∙ ap₂ (λ n k. n + k) (own_length many) (data_length at (erase_heap P))

  all_given : base + 8 * length (word_code P base heap).image ≤ 2 ^ 46
  all_given =
      let memory : base + 8 * ((y.top - base) / 8) ≤ 2 ^ 46 = bounds.memory in omega (arith, given, memory)

  pub has_room : HasRoom (native_registers P) (word_code P base heap)
  has_room = record {
    low = omega (arith, narrow);
    fine = fine;
    code = bounds.code;
    memory = bounds.memory;
    image = all_given;
  }
