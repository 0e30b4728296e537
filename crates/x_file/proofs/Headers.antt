-- The header and the program headers are read as they were written, whatever follows.
use Rattle.std.proofs.Common.{◌≡◌, ℕ, ◌+◌, ◌<◌, ◌^◌, List, ◌++◌, length, refl, ap, ◌∙◌}
use Rattle.std.proofs.Common.{length-append}
use Rattle.std.specs.Int.{w64, to_le_bytes}
use Rattle.x_terms.specs.Elf.{le, Segment, segment, HasHeader, field}
use Rattle.x_file.specs.File.{code_offset, code_address, data_address, data_offset, head_bytes}
use Rattle.x_file.proofs.Numbers.{le_back}

abbrev pub code_segment : ℕ → Segment
code_segment n = record {
  kind = 1;
  flags = 5;
  offset = code_offset;
  address = code_address;
  in_file = n;
  in_memory = n;
}

abbrev pub data_segment : ℕ → ℕ → ℕ → Segment
data_segment o l m = record {
  kind = 1;
  flags = 6;
  offset = o;
  address = data_address;
  in_file = l;
  in_memory = m;
}

abbrev pub stack_segment : Segment
stack_segment = record {
  kind = 0x6474E551;
  flags = 6;
  offset = 0;
  address = 0;
  in_file = 0;
  in_memory = 0;
}

module _ (n l heap : ℕ) (rest : List ℕ) where
  pub header_is : HasHeader (head_bytes n l heap ++ rest)
  header_is = (refl, refl, refl, refl, refl, refl)

  pub entry_is : field (head_bytes n l heap ++ rest) 24 8 ≡ code_address
  entry_is = refl

  pub head_length : length (head_bytes n l heap ++ rest) ≡ 256 + length rest
  head_length = length-append (head_bytes n l heap) rest

  pub code_is : n < 2 ^ 64 → segment (head_bytes n l heap ++ rest) 0 ≡ code_segment n
  code_is h = ap (λ k. code_segment k) (le_back n h)

  pub data_is : data_offset n < 2 ^ 64 → l < 2 ^ 64 → l + heap < 2 ^ 64 →
      segment (head_bytes n l heap ++ rest) 1 ≡ data_segment (data_offset n) l (l + heap)
  data_is ho hl hm =
      ap (λ o. data_segment o (le (to_le_bytes w64 l)) (le (to_le_bytes w64 (l + heap)))) (le_back (data_offset n) ho)
      ∙ ap (λ k. data_segment (data_offset n) k (le (to_le_bytes w64 (l + heap)))) (le_back l hl)
      ∙ ap (λ m. data_segment (data_offset n) l m) (le_back (l + heap) hm)

  pub stack_is : segment (head_bytes n l heap ++ rest) 2 ≡ stack_segment
  stack_is = refl
