-- Blocks that are cut, one after the other.
use Rattle.std.proofs.Common.{◌≡◌, ◌∙◌, ℕ, zero, suc, List, [], ◌∷◌, ◌++◌, take, refl, sym, ap, pos}
use Rattle.std.proofs.Common.{Bool, true, false, Some, None, append_assoc}
use Rattle.std.proofs.lemmas.List.{append-nil}
use Rattle.idx_core.specs.declared.span.Span.{Span}
use Rattle.t_terms.specs.declared.instr.Instr.{Instr}
use Rattle.t_terms.specs.declared.block.Block.{Block}
use Rattle.t_terms.specs.Read.{body, instr, spanned, spanned_blocks}
use Rattle.t_types.specs.Read.{file}
use Rattle.t_terms.specs.Tree.{TInstr, Int, Plain, Mov, Halt}
use Rattle.t_terms.specs.Spanned.{SBlock}
use Rattle.listing.specs.Cut.{cut_block, cut_blocks}
use Rattle.listing.specs.Steps.{IsCount, IsCountAt, left_of}

abbrev Steps : Type 0
Steps = List (Instr × Span)

body_taken : (n : ℕ) (xs : Steps) (y : Instr × Span) →
    body (take n xs ++ y ∷ []) ≡ take n (body xs) ++ (instr y.0, y.1) ∷ []
body_taken zero xs y = refl
body_taken (suc n) [] y = refl
body_taken (suc n) (x ∷ xs) y = ap (λ (zs : List (TInstr × Span)). (instr x.0, x.1) ∷ zs) (body_taken n xs y)

-- a block with other instructions, and no end
abbrev with_body : Block → List (TInstr × Span) → SBlock
with_body b xs = record {
  name = b.name;
  owes = b.owes;
  file = file b.regs.regs.items;
  body = xs;
  last = Halt;
  last_span = b.end_span;
}

-- a block that is cut behind so many instructions, of which it is made
pub block_cut : (b : Block) (n : ℕ) (place : Span) (ys zs : Steps) (i : Instr) → ys ≡ take n b.body.items →
    zs ≡ ys ++ (i, place) ∷ [] → instr i ≡ Mov 1 (Plain (Int (pos 0)) []) →
    with_body b (body zs) ≡ cut_block place (take n (body b.body.items)) (spanned b)
block_cut b n place ys zs i taken pushed is =
    ap (with_body b)
    (ap body (pushed ∙ ap (λ (xs : Steps). xs ++ (i, place) ∷ []) taken)
    ∙ body_taken n b.body.items (i, place)
    ∙ ap (λ (j : TInstr). take n (body b.body.items) ++ (j, place) ∷ []) is)

module _ (place : Span) where
  -- the block with the place, and one without it
  met : (b : SBlock) (n : ℕ) (out : SBlock) → IsCount place b (Some n) → out ≡ cut_block place (take n b.body) b →
      (bs : List SBlock) → left_of place false (b ∷ bs) ≡ out ∷ left_of place true bs
  met b n out h e bs =
      rw h.0 (ap (λ (c : SBlock). c ∷ left_of place true bs)
      (ap (λ (xs : List (TInstr × Span)). cut_block place xs b) h.2 ∙ sym e))

  passed : (b : SBlock) → IsCount place b None → (bs : List SBlock) →
      left_of place false (b ∷ bs) ≡ b ∷ left_of place false bs
  passed b h bs = rw h refl

  -- the same, where the place may have been met before
  pub met_next : (m : Bool) (b : SBlock) (n : ℕ) (out : SBlock) → IsCountAt place m b (Some n) →
      out ≡ cut_block place (take n b.body) b → (bs : List SBlock) →
      left_of place m (b ∷ bs) ≡ out ∷ left_of place true bs
  met_next true b n out h e bs =
      let none : n ≡ 0 = cc in
      ap (λ (c : SBlock). c ∷ left_of place true bs)
      (sym (e ∙ ap (λ k. cut_block place (take k b.body) b) none))
  met_next false b n out h e bs = met b n out h e bs

  pub passed_next : (m : Bool) (b : SBlock) → IsCountAt place m b None → (bs : List SBlock) →
      left_of place m (b ∷ bs) ≡ b ∷ left_of place false bs
  passed_next true b h bs = absurd (cc)
  passed_next false b h bs = passed b h bs

  -- the blocks that are made, with what becomes of those that are left
  pub record BlocksLeft (all : List Block) (left : List Block) (made : List Block) (m : Bool) : Type 0 where
    pub is : cut_blocks place (spanned_blocks all) ≡ spanned_blocks made ++ left_of place m (spanned_blocks left)

  pub blocks_start : (all : List Block) → BlocksLeft all all [] false
  blocks_start all = record { is = refl }

  blocks_append : (xs : List Block) (y : Block) → spanned_blocks (xs ++ y ∷ []) ≡ spanned_blocks xs ++ spanned y ∷ []
  blocks_append [] y = refl
  blocks_append (x ∷ xs) y = ap (λ (zs : List SBlock). spanned x ∷ zs) (blocks_append xs y)

  pub blocks_next : (all left : List Block) (x : Block) (rest made more : List Block) (m k : Bool) (out : Block) →
      BlocksLeft all left made m → left ≡ x ∷ rest →
      ((bs : List SBlock) → left_of place m (spanned x ∷ bs) ≡ spanned out ∷ left_of place k bs) →
      more ≡ made ++ out ∷ [] → BlocksLeft all rest more k
  blocks_next all left x rest made more m k out h e turn a =
      record {
        is =
            h.is
            ∙ ap (λ (ys : List Block). spanned_blocks made ++ left_of place m (spanned_blocks ys)) e
            ∙ ap (λ (zs : List SBlock). spanned_blocks made ++ zs) (turn (spanned_blocks rest))
            ∙ sym (rw (a, blocks_append made out) (append_assoc (spanned_blocks made) (spanned out ∷ []) _));
      }

  none_left : (m : Bool) → left_of place m [] ≡ []
  none_left true = refl
  none_left false = refl

  pub blocks_end : (all left made : List Block) (m : Bool) → BlocksLeft all left made m → left ≡ [] →
      spanned_blocks made ≡ cut_blocks place (spanned_blocks all)
  blocks_end all left made m h e =
      sym
      (h.is ∙ ap (λ (ys : List Block). spanned_blocks made ++ left_of place m (spanned_blocks ys)) e
      ∙ ap (λ (zs : List SBlock). spanned_blocks made ++ zs) (none_left m) ∙ append-nil (spanned_blocks made))
