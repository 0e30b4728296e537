-- What the function gives is a translation by the rules.
use Rattle.std.proofs.Common.{◌≡◌, ℕ, zero, suc, ◌+◌, ◌*◌, List, [], ◌∷◌, ◌++◌, length, Some}
use Rattle.std.proofs.Common.{refl, sym, ap, ◌∙◌, subst, arith, slice_get}
use Rattle.t_terms.specs.Tree.{TBase, Reg, Int, Label, Data, TProg}
use Rattle.t_rules.specs.Erase.{EArith, EBnz, ELd, EMalloc, EMov, ESt, ESeq, EThen, EJmp, EHalt}
use Rattle.t_rules.specs.Erase.{erase_blocks, erase_heap}
use Rattle.w_terms.specs.Tree.{WSeq}
use Rattle.w_terms.specs.declared.program.WDatum.{WDatum}
use Rattle.w_rooms.specs.Numbers.{entry, runtime_labels}
use Rattle.w_laws.specs.Code.{own_words, IsOperand, IsMove, IsJump, IsSeq, AreBlocks, IsTranslation, data_at}
use Rattle.w_laws.specs.Translate.{code_of, codes_of, blocks_of, translated, BaseFine, Fine, AllFine, operand_of}
use Rattle.w_laws.specs.Translate.{move_of, jump_of}

-- items of lists put together
behind : {A : Type 0} (xs ys : List A) (i : ℕ) → slice_get (xs ++ ys) (length xs + i) ≡ slice_get ys i
behind [] ys i = let none : 0 + i ≡ i = omega arith in ap (slice_get ys) none
behind (x ∷ xs) ys i =
    let more : suc (length xs) + i ≡ suc (length xs + i) = omega arith in
    ap (slice_get (x ∷ (xs ++ ys))) more ∙ behind xs ys i

front : {A : Type 0} (xs ys : List A) (i : ℕ) (x : A) → slice_get xs i ≡ Some x → slice_get (xs ++ ys) i ≡ Some x
front [] ys i x e = cc
front (y ∷ xs) ys zero x e = e
front (y ∷ xs) ys (suc i) x e = front xs ys i x e

module _ (at : ℕ → ℕ) (fixed many : ℕ) (blocks : List WSeq) where
  -- the blocks that are made stand from this label on
  abbrev Stand : ℕ → List WSeq → Type 0
  Stand next xs = (j : ℕ) (x : WSeq) → slice_get xs j ≡ Some x → slice_get blocks (next + j) ≡ Some x

  first : (next : ℕ) (x : WSeq) (xs : List WSeq) → Stand next (x ∷ xs) → slice_get blocks next ≡ Some x
  first next x xs s = let none : next + 0 ≡ next = omega arith in ap (slice_get blocks) (sym none) ∙ s 0 x refl

  later : (next : ℕ) (x : WSeq) (xs : List WSeq) → Stand next (x ∷ xs) → Stand (suc next) xs
  later next x xs s j y e =
      let more : suc next + j ≡ next + suc j = omega arith in ap (slice_get blocks) more ∙ s (suc j) y e

  is_operand : (b : TBase) → BaseFine fixed b → IsOperand b (operand_of b)
  is_operand (Reg q) f = refl
  is_operand (Int i) f = (f, refl)
  is_operand (Label l) f = tt
  is_operand (Data d) f = tt

  is_move : (rd : ℕ) (b : TBase) → BaseFine fixed b → IsMove at fixed many blocks rd b (move_of at rd b)
  is_move rd (Reg q) f = refl
  is_move rd (Int i) f = (f, refl)
  is_move rd (Label l) f = refl
  is_move rd (Data d) f = (f, refl)

  is_jump : (b : TBase) → IsJump b (jump_of b)
  is_jump (Reg q) = refl
  is_jump (Int i) = tt
  is_jump (Label l) = refl
  is_jump (Data d) = tt

  pub is_seq : (next : ℕ) (e : ESeq) → Fine fixed many e → Stand next (code_of at next e).more →
      IsSeq at fixed many blocks e (code_of at next e).seq
  is_seq next (EThen (EArith op rd rs b) e) f s =
      ((code_of at next e).seq, operand_of b, is_operand b f.1, is_seq next e f.2 s, refl, f.0)
  is_seq next (EThen (EBnz q (Label l)) e) f s = ((code_of at next e).seq, is_seq next e f s, refl)
  is_seq next (EThen (EBnz q (Reg r)) e) f s =
      let c = code_of at (suc next) e in
      (c.seq, is_seq (suc next) e f (later next c.seq c.more s), (next, first next c.seq c.more s, refl))
  is_seq next (EThen (EBnz q (Int i)) e) f s = ((code_of at next e).seq, is_seq next e f s, refl)
  is_seq next (EThen (EBnz q (Data d)) e) f s = ((code_of at next e).seq, is_seq next e f s, refl)
  is_seq next (EThen (ELd rd rs i) e) f s = ((code_of at next e).seq, is_seq next e f.1 s, refl, f.0)
  is_seq next (EThen (EMalloc rd n) e) f s =
      let c = code_of at (suc next) e in
      (c.seq, next, is_seq (suc next) e f.2 (later next _ c.more s), f.1, first next _ c.more s, refl, f.0)
  is_seq next (EThen (EMov rd b) e) f s =
      ((code_of at next e).seq, move_of at rd b, is_move rd b f.1, is_seq next e f.2 s, refl, f.0)
  is_seq next (EThen (ESt rd i rs) e) f s = ((code_of at next e).seq, is_seq next e f s, refl)
  is_seq next (EJmp b) f s = is_jump b
  is_seq next EHalt f s = refl

  -- each block, where the first ones stand from one label on, and the others from another one
  pub are_codes : (es : List ESeq) (next from l : ℕ) (e : ESeq) → AllFine fixed many es →
      Stand from (codes_of at next es).firsts → Stand next (codes_of at next es).rest → slice_get es l ≡ Some e →
      (c : WSeq) × (slice_get blocks (from + l) ≡ Some c) × IsSeq at fixed many blocks e c
  are_codes [] next from l e f s t g = cc
  are_codes (d ∷ es) next from zero e f s t g =
      let c = code_of at next d in
      let o = codes_of at (next + length c.more) es in
      let same : d ≡ e = cc in (
        c.seq,
        s 0 c.seq refl,
        subst (λ x. IsSeq at fixed many blocks x c.seq) same
            (is_seq next d f.0 (λ j x k. t j x (front c.more o.rest j x k))),
      )
  are_codes (d ∷ es) next from (suc l) e f s t g =
      let c = code_of at next d in
      let o = codes_of at (next + length c.more) es in
      let k = are_codes es (next + length c.more) (suc from) l e f.1 (later from c.seq o.firsts s)
      (λ j x i. let there : next + length c.more + j ≡ next + (length c.more + j) = omega arith in
      ap (slice_get blocks) there ∙ t (length c.more + j) x (behind c.more o.rest j ∙ i)) g in
      let more : from + suc l ≡ suc from + l = omega arith in
      (k.0, ap (slice_get blocks) more ∙ k.1, k.2)

count_firsts : (at : ℕ → ℕ) (next : ℕ) (es : List ESeq) → length (codes_of at next es).firsts ≡ length es
count_firsts at next [] = refl
count_firsts at next (e ∷ es) = ap suc (count_firsts at (next + length (code_of at next e).more) es)

pub are_blocks : (at : ℕ → ℕ) (fixed many : ℕ) (runtime : List WSeq) (es : List ESeq) →
    length runtime ≡ runtime_labels →
    AllFine fixed many es → AreBlocks at fixed many (blocks_of at runtime es) es
are_blocks at fixed many runtime es count_runtime fine l e g =
    let o = codes_of at (entry (length es)) es in
    let all = runtime ++ (o.firsts ++ o.rest) in
    let count = count_firsts at (entry (length es)) es in
    let k = are_codes at fixed many all es (entry (length es)) runtime_labels l e fine
    (λ j x i. let there : runtime_labels + j ≡ length runtime + j = omega (arith, count_runtime) in
    ap (slice_get all) there ∙ behind runtime (o.firsts ++ o.rest) j ∙ front o.firsts o.rest j x i)
    (λ j x i. let there : entry (length es) + j ≡ length runtime + (length o.firsts + j) = omega
    (arith, count_runtime, count) in
    ap (slice_get all) there ∙ behind runtime (o.firsts ++ o.rest) (length o.firsts + j)
    ∙ behind o.firsts o.rest j ∙ i) g in
    let same : entry l ≡ runtime_labels + l = omega arith in
    (k.0, ap (slice_get all) same ∙ k.1, k.2)

pub is_translation : (base size many : ℕ) (runtime : List WSeq) (own : List WDatum) (P : TProg) →
    length runtime ≡ runtime_labels → length own ≡ own_words many → AllFine (length P.heap) many (erase_blocks P) →
    IsTranslation P many (translated base size many runtime own P)
is_translation base size many runtime own P count_runtime words fine = record {
  blocks = are_blocks (data_at (base + 8 * own_words many) (erase_heap P)) (length P.heap) many runtime
      (erase_blocks P) count_runtime fine;
  own = own;
  sized = words;
  image = refl;
}
