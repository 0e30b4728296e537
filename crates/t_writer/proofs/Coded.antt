-- What the loops over instructions and blocks keep, over plain lists.
use Rattle.std.proofs.Common.{◌≡◌, ◌≤◌, ◌<◌, ℕ, suc, ◌+◌, List, [], ◌∷◌, ◌++◌, length, drop, get_or, sym, ◌∙◌}
use Rattle.std.proofs.Common.{subst, append_assoc, add-one, codes, decimal}
use Rattle.std.proofs.Math.ListN.{drop_of_length-le}
use Rattle.idx_core.specs.declared.span.Span.{Span}
use Rattle.t_terms.specs.declared.instr.Instr.{Instr}
use Rattle.t_terms.specs.declared.block.Block.{Block}
use Rattle.t_terms.specs.Tree.{TEnd, TSeq, TBlock, names_after}
use Rattle.t_terms.specs.Spanned.{seq_of}
use Rattle.t_terms.specs.Read.{instr, body, block, blocks_of}
use Rattle.t_terms.specs.Whole.{WellFormedInstr, WellFormedEnd, WellFormedSeq, WellFormedBlocks}
use Rattle.t_writer.specs.Lexeme.{Lexeme, LabelName, Reserved, render}
use Rattle.t_writer.specs.Lexeme.{colon, dot}
use Rattle.t_writer.specs.Written.{space, line_end, binds_written, file_written, instr_written, end_written}
use Rattle.t_writer.specs.Written.{seq_written, block_written, blocks_written}
use Rattle.t_writer.proofs.Rendered.{render_append}
use Rattle.idx_core.proofs.Lists.{next_item as item_next}

-- the sequence of what is left of a body
abbrev pub left_code : List (Instr × Span) → ℕ → TEnd → TSeq
left_code xs i e = seq_of (body (drop i xs)) e

-- what the loop over instructions keeps
pub record Coding (xs : List (Instr × Span)) (e : TEnd) (i names : ℕ) (text whole : List ℕ) : Type 0 where
  pub fits : (p q : ℕ) × WellFormedSeq p q names (left_code xs i e)
  pub written : text ++ render (seq_written names (left_code xs i e)) ≡ whole

module _ (xs : List (Instr × Span)) (e : TEnd) (i names : ℕ) (text whole : List ℕ)
    (h : Coding xs e i names text whole) where
  module _ (x : Instr × Span) (is : x ≡ get_or xs i x) (lt : i < length xs) where
    -- what is known of the next instruction
    next_fits : (p q : ℕ) × WellFormedSeq p q names (seq_of (body (x ∷ drop (i + 1) xs)) e)
    next_fits = subst (λ (ys : List (Instr × Span)). (p q : ℕ) × WellFormedSeq p q names (seq_of (body ys) e))
        (item_next xs i x is lt) h.fits

    pub instr_fits : (p q : ℕ) × WellFormedInstr p q names (instr x.0)
    instr_fits = (next_fits.0, next_fits.1, next_fits.2.0)

    pub coding_more : (t1 t2 : List ℕ) (n : ℕ) → t1 ≡ text ++ render (instr_written names (instr x.0)) →
        t2 ≡ t1 ++ 10 ∷ [] → n ≡ names_after (instr x.0) names →
        Coding xs e (i + 1) n t2 whole
    coding_more t1 t2 n e1 e2 m =
        let d = item_next xs i x is lt in
        let w : text ++ render (seq_written names (seq_of (body (x ∷ drop (i + 1) xs)) e)) ≡ whole =
        subst (λ (ys : List (Instr × Span)). text ++ render (seq_written names (seq_of (body ys) e)) ≡ whole) d
        h.written in
        let j = rw (render_append (instr_written names (instr x.0))
        (line_end ∷ seq_written (names_after (instr x.0) names) (left_code xs (i + 1) e))) at w in
        record {
          fits = rw m (next_fits.0, next_fits.1, next_fits.2.2);
          written = rw (m, e2, e1) (simp append_assoc j);
        }

  module _ (le : length xs ≤ i) where
    last : drop i xs ≡ []
    last = drop_of_length-le xs le

    pub end_fits : (p q : ℕ) × WellFormedEnd p q names e
    end_fits =
        subst (λ (ys : List (Instr × Span)). (p q : ℕ) × WellFormedSeq p q names (seq_of (body ys) e)) last h.fits

    pub coding_end : (t1 t2 : List ℕ) → t1 ≡ text ++ render (end_written names e) → t2 ≡ t1 ++ 10 ∷ [] → t2 ≡ whole
    coding_end t1 t2 e1 e2 =
        let w : text ++ render (end_written names e ++ line_end ∷ []) ≡ whole =
        subst (λ (ys : List (Instr × Span)). text ++ render (seq_written names (seq_of (body ys) e)) ≡ whole) last
        h.written in
        let j = rw (render_append (end_written names e) (line_end ∷ [])) at w in
        rw (e2, e1) (simp append_assoc j)

-- what the loop over blocks keeps
pub record Blocking (bs : List Block) (i : ℕ) (text whole : List ℕ) : Type 0 where
  pub fits : (p q : ℕ) × WellFormedBlocks p q (blocks_of (drop i bs))
  pub written : text ++ render (blocks_written i (blocks_of (drop i bs))) ≡ whole

module _ (bs : List Block) (i : ℕ) (text whole : List ℕ) (h : Blocking bs i text whole) where
  module _ (b : Block) (is : b ≡ get_or bs i b) (lt : i < length bs) where
    next_blocks_fit : (p q : ℕ) × WellFormedBlocks p q (blocks_of (b ∷ drop (i + 1) bs))
    next_blocks_fit =
        subst (λ (ys : List Block). (p q : ℕ) × WellFormedBlocks p q (blocks_of ys)) (item_next bs i b is lt) h.fits

    pub blocking_more : (t1 : List ℕ) → t1 ≡ text ++ render (block_written i (block b)) →
        Blocking bs (i + 1) t1 whole
    blocking_more t1 e =
        let d = item_next bs i b is lt in
        let w : text ++ render (block_written i (block b) ++ blocks_written (suc i) (blocks_of (drop (i + 1) bs)))
        ≡ whole = subst (λ (ys : List Block). text ++ render (blocks_written i (blocks_of ys)) ≡ whole) d h.written in
        let j = rw (render_append (block_written i (block b)) (blocks_written (suc i) (blocks_of (drop (i + 1) bs))))
        at w in
        let k : (text ++ render (block_written i (block b)))
        ++ render (blocks_written (suc i) (blocks_of (drop (i + 1) bs))) ≡ whole = append_assoc text _ _ ∙ j in
        record {
          fits = (next_blocks_fit.0, next_blocks_fit.1, next_blocks_fit.2.1);
          written = rw e
              (subst (λ (n : ℕ). (text ++ render (block_written i (block b)))
              ++ render (blocks_written n (blocks_of (drop (i + 1) bs))) ≡ whole) (sym (add-one i)) k);
        }

regroup : (a b c d e f g : List ℕ) → a ++ b ++ c ++ d ++ e ++ f ++ g ≡ a ++ (b ++ (c ++ (d ++ (e ++ (f ++ g)))))
regroup a b c d e f g = simp append_assoc

-- a block, of its parts
block_parts : (n : ℕ) (bs fs cs : List Lexeme) (t0 t1 t2 t3 t4 t5 t6 : List ℕ) → t1 ≡ t0 ++ 76 ∷ decimal n →
    t2 ≡ t1 ++ codes ": code" → t3 ≡ t2 ++ render bs → t4 ≡ t3 ++ render fs → t5 ≡ t4 ++ codes ".\n" →
    t6 ≡ t5 ++ render cs →
    t6 ≡ t0 ++ render
    (LabelName n
    ∷ (colon
    ∷ (space ∷ (Reserved (codes "code") ∷ (bs ++ (fs ++ (dot ∷ (line_end ∷ cs))))))))
block_parts n bs fs cs t0 t1 t2 t3 t4 t5 t6 e1 e2 e3 e4 e5 e6 =
    rw (
      e6,
      e5,
      e4,
      e3,
      e2,
      e1,
      render_append bs (fs ++ (dot ∷ (line_end ∷ cs))),
      render_append fs (dot ∷ (line_end ∷ cs)),
    )
    (regroup t0 (76 ∷ decimal n) (codes ": code") (render bs) (render fs) (codes ".\n") (render cs))

pub block_done : (n : ℕ) (b : TBlock) (t0 t1 t2 t3 t4 t5 t6 : List ℕ) → t1 ≡ t0 ++ 76 ∷ decimal n →
    t2 ≡ t1 ++ codes ": code" → t3 ≡ t2 ++ render (binds_written 0 b.owes) →
    t4 ≡ t3 ++ render (file_written b.owes b.file) →
    t5 ≡ t4 ++ codes ".\n" → t6 ≡ t5 ++ render (seq_written b.owes b.code) → t6 ≡ t0 ++ render (block_written n b)
block_done n b t0 t1 t2 t3 t4 t5 t6 e1 e2 e3 e4 e5 e6 =
    block_parts n (binds_written 0 b.owes) (file_written b.owes b.file) (seq_written b.owes b.code) t0 t1 t2 t3 t4 t5
    t6 e1 e2 e3 e4 e5 e6
