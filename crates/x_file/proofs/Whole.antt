-- What Linux makes of the file.
use Rattle.std.proofs.Common.{◌≡◌, ℕ, ◌+◌, ◌-◌, ◌%◌, ◌<◌, ◌≤◌, ◌^◌, List, ◌++◌, length, take, drop, refl, ap}
use Rattle.std.proofs.Common.{◌∙◌, arith, sym, subst, length-append, append_assoc}
use Rattle.std.proofs.lemmas.List.{length-replicate, take_at, drop_at, drop-drop, take_all}
use Rattle.x_terms.specs.Machine.{Image, State}
use Rattle.x_terms.specs.Elf.{le, Segment, segment, Loads, IsExecutable, image, IsStart, start_word}
use Rattle.x_file.specs.File.{code_address, data_address, data_offset, gap, zeros, Fits}
use Rattle.x_file.specs.File.{head, head_bytes, file_bytes}
use Rattle.x_file.specs.Loaded.{loaded_image, content_word, IsLoaded}
use Rattle.x_file.proofs.Headers.{code_segment, data_segment, header_is, code_is, data_is}
use Rattle.x_file.proofs.Headers.{head_length}

-- where the data begin in the file: behind code and gap, on a page, below 2 ^ 64
offset_is : (n : ℕ) → data_offset n ≡ 0x100 + (n + gap n)
unfolding data_offset gap
offset_is n = omega arith

offset_page : (n : ℕ) → data_offset n % 4096 ≡ 0
unfolding data_offset
offset_page n = omega arith

offset_small : (n : ℕ) → n < 0x10000000 → data_offset n < 2 ^ 64
unfolding data_offset
offset_small n h = omega arith

module _ (code content : List ℕ) (heap : ℕ) (f : Fits (length code) (length content) heap) where
  abbrev n : ℕ
  n = length code

  abbrev l : ℕ
  l = length content

  abbrev tail : List ℕ
  tail = code ++ (zeros (gap n) ++ content)

  abbrev file : List ℕ
  file = file_bytes code content heap

  tail_length : length tail ≡ n + (gap n + l)
  tail_length =
      length-append code (zeros (gap n) ++ content)
      ∙ ap (λ k. n + k) (length-append (zeros (gap n)) content ∙ ap (λ k. k + l) (length-replicate (gap n) 0))

  file_length : length file ≡ 256 + (n + (gap n + l))
  file_length = head_length n l heap tail ∙ ap (λ k. 256 + k) tail_length

  first : segment file 0 ≡ code_segment n
  first = code_is n l heap tail (omega (arith, f.code_fits))

  second : segment file 1 ≡ data_segment (data_offset n) l (l + heap)
  second =
      data_is n l heap tail (offset_small n (omega (arith, f.code_fits))) (omega (arith, f.memory_fits))
      (omega (arith, f.memory_fits))

  code_loads : Loads file 5 (code_segment n)
  code_loads =
      (refl, refl, omega arith, omega (arith, file_length), refl, omega arith, omega (arith, f.code_fits))

  data_loads : Loads file 6 (data_segment (data_offset n) l (l + heap))
  data_loads = (
    refl,
    refl,
    omega arith,
    omega (arith, file_length, offset_is n),
    omega (arith, offset_page n),
    omega arith,
    omega (arith, f.memory_fits),
  )

  abbrev Apart : Segment → Segment → Type 0
  Apart s t = (s.in_memory ≡ s.in_file) × (t.address % 8 ≡ 0) × (s.address + s.in_memory + 4096 ≤ t.address)

  apart : Apart (code_segment n) (data_segment (data_offset n) l (l + heap))
  apart = (refl, refl, omega (arith, f.code_fits))

  executable : IsExecutable file
  executable =
      let a : Apart (segment file 0) (segment file 1) =
      subst (λ s. Apart s (segment file 1)) (sym first) (subst (λ t. Apart (code_segment n) t) (sym second) apart) in (
        header_is n l heap tail,
        subst (Loads file 5) (sym first) code_loads,
        subst (Loads file 6) (sym second) data_loads,
        (refl, refl),
        a.0,
        a.1,
        a.2,
      )

  code_there : take n (drop 256 file) ≡ code
  code_there = take_at code (zeros (gap n) ++ content) n refl

  drop_more : (k : ℕ) → drop (256 + k) file ≡ drop k tail
  drop_more k = sym (drop-drop k 256 file)

  content_there : drop (data_offset n) file ≡ content
  content_there =
      ap (λ o. drop o file) (offset_is n)
      ∙ drop_more (n + gap n)
      ∙ ap (drop (n + gap n)) (sym (append_assoc code (zeros (gap n)) content))
      ∙ drop_at (code ++ zeros (gap n)) content (n + gap n)
      (length-append code (zeros (gap n)) ∙ ap (λ k. n + k) (length-replicate (gap n) 0))

  abbrev image_of : Segment → Segment → Image
  image_of s t = record {
    code = take s.in_file (drop s.offset file);
    code_at = s.address;
    data_at = t.address;
    data_end = t.address + t.in_memory;
  }

  image_is : image file ≡ loaded_image code content heap
  image_is =
      ap (λ s. image_of s (segment file 1)) first
      ∙ ap (λ t. image_of (code_segment n) t) second
      ∙ ap (λ c. record {
        code = c;
        code_at = code_address;
        data_at = data_address;
        data_end = data_address + (l + heap);
      }) code_there

  word_is : (a : ℕ) → start_word file (segment file 1) a ≡ content_word content a
  word_is a =
      ap (λ t. start_word file t a) second
      ∙ ap (λ c. le (take 8 (drop (a - data_address) (take l c)))) content_there
      ∙ ap (λ c. le (take 8 (drop (a - data_address) c))) (take_all l content (omega arith))

  begin_words : (s : State) → IsStart file s → (a : ℕ) → data_address ≤ a → s.memory a ≡ content_word content a
  begin_words s g a h = g.4 a (subst (λ t. t.address ≤ a) (sym second) h) ∙ word_is a

  pub is_loaded : IsLoaded code content heap file
  is_loaded = record {
    executable = executable;
    image_is = image_is;
    begins = λ s g. g.0;
    words = begin_words;
  }

-- a list that is the file's bytes
pub loaded_as : (code content : List ℕ) (heap : ℕ) (bytes : List ℕ) → Fits (length code) (length content) heap →
    bytes ≡ file_bytes code content heap → IsLoaded code content heap bytes
loaded_as code content heap bytes f e =
    subst (λ x. IsLoaded code content heap x) (sym e) (is_loaded code content heap f)

-- the head and what follows, behind what there was
pub joined : (old begun made code content : List ℕ) (heap o : ℕ) → o ≡ data_offset (length code) →
    begun ≡ old ++ head (length code) o (length content) (length content + heap) →
    made ≡ begun ++ (code ++ (zeros (gap (length code)) ++ content)) → made ≡ old ++ file_bytes code content heap
joined old begun made code content heap o e f g =
    g
    ∙ ap (λ x. x ++ (code ++ (zeros (gap (length code)) ++ content)))
    (f ∙ ap (λ k. old ++ head (length code) k (length content) (length content + heap)) e)
    ∙ append_assoc old (head_bytes (length code) (length content) heap)
    (code ++ (zeros (gap (length code)) ++ content))
