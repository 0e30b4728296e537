-- One instruction of a block after the other.
use Rattle.std.proofs.Common.{◌≡◌, ℕ, suc, ◌+◌, ◌<◌, List, ◌∷◌, ◌++◌, length, drop, get_or, ap, sym, ◌∙◌, arith}
use Rattle.std.proofs.Common.{length-append, append_assoc, drop-cons, add-one}
use Rattle.x_laws.specs.Core.{bytes_all}
use Rattle.x_laws.specs.Homes.{Home}
use Rattle.x_laws.specs.Code.{instr_code, seq_code}
use Rattle.x_laws.specs.Layout.{size, code_from}
use Rattle.x_laws.proofs.Laid.{same_size}
use Rattle.x_laws.proofs.Flow.{bytes_both}
use Rattle.w_terms.specs.Tree.{WSeq}
use Rattle.w_terms.specs.Read.{instr, seq, block}
use Rattle.w_terms.specs.declared.program.WBlock.{WBlock}
use Rattle.x_pass.specs.Homes.{home}
use Rattle.std.proofs.Common.{◌≤◌, ◌^◌, map}
use Rattle.w_terms.specs.declared.instr.WInstr.{WInstr}
use Rattle.w_terms.specs.declared.instr.WEnd.{WEnd}

pub one_more : (homes : ℕ → Home) (place : ℕ → ℕ) (base i : ℕ) (items : List WInstr) (end : WEnd) (d : WInstr)
    (old new whole : List ℕ) → i < length items →
    new ≡ old ++ bytes_all (instr_code homes place (base + length old) (instr (get_or items i d))) →
    old ++ bytes_all (seq_code homes place (base + length old) (seq (drop i items) end)) ≡ whole →
    new ++ bytes_all (seq_code homes place (base + length new) (seq (drop (i + 1) items) end)) ≡ whole
one_more homes place base i items end d old new whole lt e h =
    let x : WInstr = get_or items i d in
    let a : ℕ = base + length old in
    let b : List ℕ = bytes_all (instr_code homes place a (instr x)) in
    let c : WSeq = seq (drop (i + 1) items) end in
    let front : drop i items ≡ x ∷ drop (i + 1) items =
    drop-cons items i d lt ∙ ap (λ k. x ∷ drop k items) (sym (add-one i)) in
    let next : base + length new ≡ a + length b = omega (arith, ap length e, length-append old b) in
    ap (λ k. new ++ bytes_all (seq_code homes place k c)) next
    ∙ ap (λ s. s ++ bytes_all (seq_code homes place (a + length b) c)) e
    ∙ append_assoc old b (bytes_all (seq_code homes place (a + length b) c))
    ∙ ap (λ s. old ++ s)
    (sym (bytes_both (instr_code homes place a (instr x)) (seq_code homes place (a + length b) c)))
    ∙ ap (λ xs. old ++ bytes_all (seq_code homes place a (seq xs end))) (sym front)
    ∙ h

-- what is written of a block has room where the block has
pub within : (base : ℕ) (old rest begun whole : List ℕ) → old ++ rest ≡ begun ++ whole →
    base + length begun + length whole ≤ 2 ^ 28 → base + length old ≤ 2 ^ 28
within base old rest begun whole e f =
    omega (arith, ap length e, length-append old rest, length-append begun whole, f)

-- the next block of a program, and those behind it
pub next_block : (i : ℕ) (items : List WBlock) (x : WBlock) → i < length items → x ≡ get_or items i x →
    drop i items ≡ x ∷ drop (i + 1) items
next_block i items x lt is =
    drop-cons items i x lt
    ∙ ap (λ y. y ∷ drop (suc i) items) (sym is)
    ∙ ap (λ k. x ∷ drop k items) (sym (add-one i))

-- One block of a program after the other. It has room, and the rest stands behind it.
module _ (place : ℕ → ℕ) (base i : ℕ) (items : List WBlock) (x : WBlock) (lt : i < length items)
    (is : x ≡ get_or items i x) where
  front : drop i items ≡ x ∷ drop (i + 1) items
  front = next_block i items x lt is

  pub block_room : (old begun whole : List ℕ) →
      old ++ code_from home place (base + length old) (map block (drop i items)) ≡ begun ++ whole →
      base + length begun + length whole ≤ 2 ^ 28 →
      base + length old + length (bytes_all (seq_code home place (base + length old) (block x)))
      ≤ 2 ^ 28
  block_room old begun whole e f =
      let a : ℕ = base + length old in
      let c : WSeq = block x in
      let b : List ℕ = bytes_all (seq_code home place a c) in
      let rest : List ℕ = code_from home place (a + size home c) (map block (drop (i + 1) items)) in
      let g : old ++ (b ++ rest) ≡ begun ++ whole =
      ap (λ xs. old ++ code_from home place a (map block xs)) (sym front) ∙ e in
      omega (arith, ap length g, length-append old (b ++ rest), length-append b rest, length-append begun whole, f)

  pub one_block : (old new whole : List ℕ) →
      new ≡ old ++ bytes_all (seq_code home place (base + length old) (block x)) →
      old ++ code_from home place (base + length old) (map block (drop i items)) ≡ whole →
      new ++ code_from home place (base + length new) (map block (drop (i + 1) items)) ≡ whole
  one_block old new whole e h =
      let a : ℕ = base + length old in
      let c : WSeq = block x in
      let b : List ℕ = bytes_all (seq_code home place a c) in
      let cs : List WSeq = map block (drop (i + 1) items) in
      let next : base + length new ≡ a + size home c =
      omega (arith, ap length e, length-append old b, same_size home place (λ l. 0) a 0 c) in
      ap (λ k. new ++ code_from home place k cs) next
      ∙ ap (λ s. s ++ code_from home place (a + size home c) cs) e
      ∙ append_assoc old b (code_from home place (a + size home c) cs)
      ∙ ap (λ xs. old ++ code_from home place a (map block xs)) (sym front)
      ∙ h
