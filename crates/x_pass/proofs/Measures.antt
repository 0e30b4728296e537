-- Sizes hang on no place.
use Rattle.std.proofs.Common.{◌≡◌, ℕ, ◌+◌, ◌≤◌, ◌<◌, ◌^◌, ◌∷◌, ◌++◌, List, [], zero, suc, length}
use Rattle.std.proofs.Common.{drop, append_assoc, get_or, ap, sym, ◌∙◌, arith, slice_index_or, refl, subst, drop-cons}
use Rattle.std.proofs.Common.{add-one}
use Rattle.x_laws.specs.Core.{bytes_all}
use Rattle.x_laws.specs.Code.{instr_code, seq_code}
use Rattle.x_laws.specs.Layout.{size, place_from}
use Rattle.x_laws.proofs.Laid.{length_both, same_size}
use Rattle.w_terms.specs.Tree.{WSeq, WThen}
use Rattle.w_terms.specs.Read.{instr, seq, block}
use Rattle.w_terms.specs.declared.instr.WInstr.{WInstr}
use Rattle.w_terms.specs.declared.instr.WEnd.{WEnd}
use Rattle.w_terms.specs.declared.program.WBlock.{WBlock}
use Rattle.x_pass.specs.Homes.{home}
use Rattle.x_pass.specs.Layout.{starts, stop, AreAllShort}
use Rattle.x_pass.specs.Short.{AreShort}
use Rattle.std.proofs.Common.{map, slice_get, Some, length-append}
use Rattle.std.proofs.Math.Path.{fun_ext}
use Rattle.std.proofs.lemmas.List.{drop-drop}
use Rattle.x_laws.specs.Layout.{code_from, program_code}
use Rattle.x_laws.specs.Going.{AllFit}
use Rattle.x_pass.specs.Short.{AreFine}
use Rattle.x_pass.proofs.Allowed.{each_fine}
use Rattle.x_pass.proofs.Fit.{fits_seq}
use Rattle.x_pass.proofs.Turns.{next_block}

-- without places all labels are at 0
pub at_zero : (places : List ℕ) (end : ℕ) → places ≡ [] → end ≡ 0 → (l : ℕ) → slice_index_or places l end ≤ 2 ^ 28
at_zero places end e f l = subst (λ xs. slice_index_or xs l end ≤ 2 ^ 28) (sym e) (omega (arith, f))

-- a block is as long as its first instruction and the rest
pub size_then : (i : WInstr) (c : WSeq) →
    size home (WThen (instr i) c) ≡ length (bytes_all (instr_code home (λ l. 0) 0 (instr i))) + size home c
size_then i c =
    let k : ℕ = length (bytes_all (instr_code home (λ l. 0) 0 (instr i))) in
    length_both (instr_code home (λ l. 0) 0 (instr i)) (seq_code home (λ l. 0) (0 + k) c)
    ∙ ap (λ n. k + n) (same_size home (λ l. 0) (λ l. 0) (0 + k) 0 c)

-- one instruction more is measured
pub size_more : (i : ℕ) (items : List WInstr) (end : WEnd) (d : WInstr) (all next whole k : ℕ) → i < length items →
    k ≡ length (bytes_all (instr_code home (λ l. 0) 0 (instr (get_or items i d)))) → next ≡ all + k →
    all + size home (seq (drop i items) end) ≡ whole → next + size home (seq (drop (i + 1) items) end) ≡ whole
size_more i items end d all next whole k lt e f h =
    let x : WInstr = get_or items i d in
    let front : drop i items ≡ x ∷ drop (i + 1) items =
    drop-cons items i d lt ∙ ap (λ j. x ∷ drop j items) (sym (add-one i)) in
    let both : size home (seq (drop i items) end)
    ≡ length (bytes_all (instr_code home (λ l. 0) 0 (instr x))) + size home (seq (drop (i + 1) items) end) =
    ap (λ xs. size home (seq xs end)) front ∙ size_then x (seq (drop (i + 1) items) end) in
    omega (arith, e, f, h, both)

-- what is short of the rest
short_tail : (items : List WInstr) → AreShort items → AreShort (drop 1 items)
short_tail [] h = tt
short_tail (x ∷ xs) h = h.1

pub short_next : (i : ℕ) (items : List WInstr) → AreShort (drop i items) → AreShort (drop (i + 1) items)
short_next i items h = subst AreShort (drop-drop 1 i items) (short_tail (drop i items) h)

-- one block more is measured
pub place_more : (i : ℕ) (items : List WBlock) (x : WBlock) (base end next : ℕ) (places more : List ℕ) →
    i < length items → x ≡ get_or items i x → next ≡ end + size home (block x) → more ≡ places ++ (end ∷ []) →
    places ++ starts end (drop i items) ≡ starts base items → stop end (drop i items) ≡ stop base items →
    (more ++ starts next (drop (i + 1) items) ≡ starts base items)
    × (stop next (drop (i + 1) items) ≡ stop base items)
place_more i items x base end next places more lt is e f h g =
    let front : drop i items ≡ x ∷ drop (i + 1) items = next_block i items x lt is in
    let rest : List WBlock = drop (i + 1) items in (
      ap (λ k. more ++ starts k rest) e
          ∙ ap (λ xs. xs ++ starts (end + size home (block x)) rest) f
          ∙ append_assoc places (end ∷ []) (starts (end + size home (block x)) rest)
          ∙ ap (λ xs. places ++ starts end xs) (sym front)
          ∙ h,
      ap (λ k. stop k rest) e ∙ ap (stop end) (sym front) ∙ g,
    )

-- and of blocks
pub all_short_now : (i : ℕ) (items : List WBlock) (x : WBlock) → i < length items → x ≡ get_or items i x →
    AreAllShort (drop i items) → AreShort x.body.items
all_short_now i items x lt is h = (subst AreAllShort (next_block i items x lt is) h).0

all_short_tail : (items : List WBlock) → AreAllShort items → AreAllShort (drop 1 items)
all_short_tail [] h = tt
all_short_tail (x ∷ xs) h = h.1

pub all_short_next : (i : ℕ) (items : List WBlock) → AreAllShort (drop i items) → AreAllShort (drop (i + 1) items)
all_short_next i items h = subst AreAllShort (drop-drop 1 i items) (all_short_tail (drop i items) h)

-- no label stands behind the end
end_above : (a : ℕ) (bs : List WBlock) → a ≤ stop a bs
end_above a [] = omega arith
end_above a (b ∷ bs) = omega (arith, end_above (a + size home (block b)) bs)

pub place_below : (a : ℕ) (bs : List WBlock) (l : ℕ) → slice_index_or (starts a bs) l (stop a bs) ≤ stop a bs
place_below a [] l = omega arith
place_below a (b ∷ bs) zero = end_above a (b ∷ bs)
place_below a (b ∷ bs) (suc l) = place_below (a + size home (block b)) bs l

-- the place of a label, in the list
pub place_is : (a : ℕ) (bs : List WBlock) (l : ℕ) →
    slice_index_or (starts a bs) l (stop a bs) ≡ place_from home a (map block bs) l
place_is a [] l = refl
place_is a (b ∷ bs) zero = refl
place_is a (b ∷ bs) (suc l) = place_is (a + size home (block b)) bs l

-- each block has room in front of the end
pub room_at : (place : ℕ → ℕ) (a : ℕ) (bs : List WBlock) (l : ℕ) (c : WSeq) → slice_get (map block bs) l ≡ Some c →
    place_from home a (map block bs) l
    + length (bytes_all (seq_code home place (place_from home a (map block bs) l) c)) ≤ stop a bs
room_at place a [] l c e = absurd (cc)
room_at place a (b ∷ bs) zero c e =
    let is : block b ≡ c = cc in
    subst (λ x. a + length (bytes_all (seq_code home place a x)) ≤ stop a (b ∷ bs)) is
    (omega (arith, same_size home place (λ l. 0) a 0 (block b), end_above (a + size home (block b)) bs))
room_at place a (b ∷ bs) (suc l) c e = room_at place (a + size home (block b)) bs l c e

-- the code is as long as its end is far
pub code_long : (place : ℕ → ℕ) (a : ℕ) (bs : List WBlock) →
    a + length (code_from home place a (map block bs)) ≡ stop a bs
code_long place a [] = omega arith
code_long place a (b ∷ bs) =
    let xs : List ℕ = bytes_all (seq_code home place a (block b)) in
    let ys : List ℕ = code_from home place (a + size home (block b)) (map block bs) in
    omega (
      arith,
      length-append xs ys,
      same_size home place (λ l. 0) a 0 (block b),
      code_long place (a + size home (block b)) bs,
    )

-- The labels give the places.
pub places_are : (a : ℕ) (bs : List WBlock) (places : List ℕ) (end : ℕ) → places ≡ starts a bs → end ≡ stop a bs →
    (λ l. slice_index_or places l end) ≡ place_from home a (map block bs)
places_are a bs places end e f =
    ap (λ xs l. slice_index_or xs l end) e
    ∙ ap (λ k l. slice_index_or (starts a bs) l k) f
    ∙ fun_ext (λ l. place_is a bs l)

-- what is wanted of the labels where the code is near
pub labels_near : (a : ℕ) (bs : List WBlock) (places : List ℕ) (end : ℕ) → places ≡ starts a bs → end ≡ stop a bs →
    stop a bs ≤ 2 ^ 28 → (l : ℕ) → slice_index_or places l end ≤ 2 ^ 28
labels_near a bs places end e f near l =
    let is : slice_index_or places l end ≡ slice_index_or (starts a bs) l (stop a bs) =
    ap (λ xs. slice_index_or xs l end) e ∙ ap (slice_index_or (starts a bs) l) f in
    omega (arith, is, place_below a bs l, near)

-- the code of blocks, put behind nothing, has room, and is a program's
pub room_of : (place : ℕ → ℕ) (a : ℕ) (bs : List WBlock) (none : List ℕ) → none ≡ [] → stop a bs ≤ 2 ^ 28 →
    a + length none + length (code_from home place (a + length none) (map block bs)) ≤ 2 ^ 28
room_of place a bs none e near =
    let at : a + length none ≡ a = omega (arith, ap length e) in
    subst (λ k. k + length (code_from home place k (map block bs)) ≤ 2 ^ 28) (sym at)
    (omega (arith, code_long place a bs, near))

pub code_as : (a : ℕ) (bs : List WBlock) (places : List ℕ) (end : ℕ) (none code : List ℕ) → places ≡ starts a bs →
    end ≡ stop a bs → none ≡ [] →
    code ≡ none ++ code_from home (λ l. slice_index_or places l end) (a + length none) (map block bs) →
    code ≡ program_code home a (map block bs)
code_as a bs places end none code e f n g =
    let place : ℕ → ℕ = λ l. slice_index_or places l end in
    let at : a + 0 ≡ a = omega arith in
    g
    ∙ ap (λ xs. xs ++ code_from home place (a + length xs) (map block bs)) n
    ∙ ap (λ k. code_from home place k (map block bs)) at
    ∙ ap (λ p. code_from home p a (map block bs)) (places_are a bs places end e f)

-- instructions and numbers of each block fit
pub each_fits : (n a : ℕ) (bs : List WBlock) → AreFine n bs → stop a bs ≤ 2 ^ 28 → (l : ℕ) (c : WSeq) →
    slice_get (map block bs) l ≡ Some c →
    AllFit (seq_code home (place_from home a (map block bs)) (place_from home a (map block bs) l) c)
each_fits n a bs f near l c e =
    let place : ℕ → ℕ = place_from home a (map block bs) in
    let low : (k : ℕ) → place k ≤ 2 ^ 28 = λ k. omega (arith, place_is a bs k, place_below a bs k, near) in
    let fine = each_fine n bs f l c e in
    fits_seq place low n (place l) c (omega (arith, room_at place a bs l c e, near)) fine.0 fine.1
