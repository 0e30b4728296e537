-- One turn of each loop more.
use Rattle.std.proofs.Common.{◌≡◌, ℕ, suc, ◌+◌, ◌<◌, List, [], ◌∷◌, ◌++◌, length, map, drop, replicate, get_or}
use Rattle.std.proofs.Common.{refl, ap, sym, ◌∙◌, arith, append_assoc, append-nil, length-append, add-one}
use Rattle.std.proofs.lemmas.List.{replicate-append-replicate, drop_more}
use Rattle.x_terms.specs.declared.instr.Instr.{Instr}
use Rattle.x_code.specs.Bytes.{bytes_of}
use Rattle.x_laws.specs.Core.{bytes_all}
use Rattle.x_laws.specs.Code.{instr_code}
use Rattle.x_pass.specs.Homes.{home}
use Rattle.x_listing.specs.Remarks.{Note}
use Rattle.x_listing.specs.Lines.{Line, Step, line_text, page_text, step_lines, instr_lines, last_lines, seq_lines}
use Rattle.x_listing.specs.Lines.{remark_at, block_lines, blocks_lines}
use Rattle.w_terms.specs.Read.{instr, seq, end_of, block}
use Rattle.w_terms.specs.declared.instr.WInstr.{WInstr}
use Rattle.w_terms.specs.declared.instr.WEnd.{WEnd}
use Rattle.w_terms.specs.declared.instr.WEnd.TheVariants as E
use Rattle.w_terms.specs.declared.program.WBlock.{WBlock}

pub one_sign : (old now next : List ℕ) (n sign : ℕ) → now ≡ old ++ replicate n sign → next ≡ now ++ sign ∷ [] →
    next ≡ old ++ replicate (n + 1) sign
one_sign old now next n sign e f =
    f ∙ ap (λ s. s ++ sign ∷ []) e ∙ append_assoc old (replicate n sign) (sign ∷ []) ∙ ap (λ s. old ++ s)
    (replicate-append-replicate n 1 sign)

-- lines one behind the other
pub page_both : (xs ys : List Line) → page_text (xs ++ ys) ≡ page_text xs ++ page_text ys
page_both [] ys = refl
page_both (x ∷ xs) ys =
    ap (λ s. line_text x ++ s) (page_both xs ys) ∙ sym (append_assoc (line_text x) (page_text xs) (page_text ys))

-- what is put next is the first part of what is left
pub put : (old new first rest all whole : List ℕ) → new ≡ old ++ first → all ≡ first ++ rest → old ++ all ≡ whole →
    new ++ rest ≡ whole
put old new first rest all whole e f h =
    ap (λ s. s ++ rest) e ∙ append_assoc old first rest ∙ ap (λ s. old ++ s) (sym f) ∙ h

-- three lines
pub three : (old a b new : List ℕ) (x y z : Line) → a ≡ old ++ line_text x → b ≡ a ++ line_text y →
    new ≡ b ++ line_text z → new ≡ old ++ page_text (x ∷ (y ∷ (z ∷ [])))
three old a b new x y z e f g =
    let last : List ℕ = line_text z ++ [] in
    let more : List ℕ = line_text y ++ last in
    g ∙ ap (λ s. b ++ s) (sym (append-nil (line_text z)))
    ∙ put a b (line_text y) last more (a ++ more) f refl refl
    ∙ put old a (line_text x) more (line_text x ++ more) (old ++ (line_text x ++ more)) e refl refl

-- instructions of the processor
module _ (k : ℕ) (all : List Instr) (d : Instr) (lt : k < length all) where
  abbrev x : Instr
  x = get_or all k d

  steps_left : drop k all ≡ x ∷ drop (k + 1) all
  steps_left = drop_more all k d lt

  pub more_steps : (old new whole : List ℕ) (a next : ℕ) → new ≡ old ++ line_text (Step a x) →
      next ≡ a + length (bytes_of x) → old ++ page_text (step_lines a (drop k all)) ≡ whole →
      new ++ page_text (step_lines next (drop (k + 1) all)) ≡ whole
  more_steps old new whole a next e f h =
      ap (λ b. new ++ page_text (step_lines b (drop (k + 1) all))) f
      ∙ put old new _ _ _ whole e (ap (λ xs. page_text (step_lines a xs)) steps_left) h

  pub more_bytes : (a next whole : ℕ) → next ≡ a + length (bytes_of x) → a + length (bytes_all (drop k all)) ≡ whole →
      next + length (bytes_all (drop (k + 1) all)) ≡ whole
  more_bytes a next whole f h =
      let is : a + length (bytes_of x ++ bytes_all (drop (k + 1) all)) ≡ whole =
      ap (λ xs. a + length (bytes_all xs)) (sym steps_left) ∙ h in
      omega (arith, f, length-append (bytes_of x) (bytes_all (drop (k + 1) all)), is)

module _ (place : ℕ → ℕ) (notes : List Note) where
  -- an instruction of word code: a remark and its lines
  module _ (before : List (List ℕ)) (k : ℕ) (all : List WInstr) (e : WEnd) (d : WInstr) (lt : k < length all) where
    abbrev w : WInstr
    w = get_or all k d

    words_left : drop k all ≡ w ∷ drop (k + 1) all
    words_left = drop_more all k d lt

    pub more_words : (old now new whole : List ℕ) (a next : ℕ) → now ≡ old ++ page_text (remark_at before k) →
        new ≡ now ++ page_text (instr_lines place notes a (instr w)) →
        next ≡ a + length (bytes_all (instr_code home place a (instr w))) →
        old ++ page_text (seq_lines place notes before k a (seq (drop k all) e)) ≡ whole →
        new ++ page_text (seq_lines place notes before (k + 1) next (seq (drop (k + 1) all) e)) ≡ whole
    more_words old now new whole a next f g n h =
        let rest : List Line = seq_lines place notes before (k + 1) next (seq (drop (k + 1) all) e) in
        let here : List Line = instr_lines place notes a (instr w) in
        let at : suc k ≡ k + 1 = sym (add-one k) in
        put now new _ _ _ whole g (page_both here rest)
        (put old now _ _ _ whole f (page_both (remark_at before k) (here ++ rest))
        (ap (λ b. old ++ page_text (remark_at before k ++ (here
        ++ seq_lines place notes before (k + 1) b (seq (drop (k + 1) all) e)))) n
        ∙ ap (λ j. old ++ page_text (remark_at before k ++ (here
        ++ seq_lines place notes before j (a + length (bytes_all (instr_code home place a (instr w))))
        (seq (drop (k + 1) all) e)))) (sym at)
        ∙ ap (λ xs. old ++ page_text (seq_lines place notes before k a (seq xs e))) (sym words_left)
        ∙ h))

  -- the end of a block
  at_end : (before : List (List ℕ)) (k a : ℕ) (e : WEnd) →
      seq_lines place notes before k a (end_of e) ≡ remark_at before k ++ last_lines place notes a (end_of e)
  at_end before k a (E.Jump l) = refl
  at_end before k a (E.Goto q) = refl
  at_end before k a (E.Exit status) = refl

  pub last_words : (before : List (List ℕ)) (k n a : ℕ) (left : List WInstr) (e : WEnd) (old now new whole : List ℕ) →
      left ≡ [] → n ≡ k → now ≡ old ++ page_text (remark_at before n) →
      new ≡ now ++ page_text (last_lines place notes a (end_of e)) →
      old ++ page_text (seq_lines place notes before k a (seq left e)) ≡ whole → new ≡ whole
  last_words before k n a left e old now new whole none here f g h =
      g
      ∙ ap (λ s. s ++ page_text (last_lines place notes a (end_of e))) f
      ∙ append_assoc old (page_text (remark_at before n)) (page_text (last_lines place notes a (end_of e)))
      ∙ ap (λ s. old ++ s) (sym (page_both (remark_at before n) (last_lines place notes a (end_of e))))
      ∙ ap (λ j. old ++ page_text (remark_at before j ++ last_lines place notes a (end_of e))) here
      ∙ ap (λ xs. old ++ page_text xs) (sym (at_end before k a e))
      ∙ ap (λ xs. old ++ page_text (seq_lines place notes before k a (seq xs e))) (sym none)
      ∙ h

  -- blocks
  module _ (l : ℕ) (all : List WBlock) (x : WBlock) (lt : l < length all) (is : x ≡ get_or all l x) where
    blocks_left : drop l all ≡ x ∷ drop (l + 1) all
    blocks_left = drop_more all l x lt ∙ ap (λ y. y ∷ drop (l + 1) all) (sym is)

    pub more_blocks : (old new whole : List ℕ) → new ≡ old ++ page_text (block_lines place notes l (block x)) →
        old ++ page_text (blocks_lines place notes l (map block (drop l all))) ≡ whole →
        new ++ page_text (blocks_lines place notes (l + 1) (map block (drop (l + 1) all))) ≡ whole
    more_blocks old new whole f h =
        let rest : List Line = blocks_lines place notes (l + 1) (map block (drop (l + 1) all)) in
        let here : List Line = block_lines place notes l (block x) in
        put old new _ _ _ whole f (page_both here rest)
        (ap (λ j. old ++ page_text (here ++ blocks_lines place notes j (map block (drop (l + 1) all)))) (add-one l)
        ∙ ap (λ xs. old ++ page_text (blocks_lines place notes l (map block xs))) (sym blocks_left)
        ∙ h)
