-- A program that is cut keeps the bounds on programs.
use Rattle.std.proofs.Common.{◌≡◌, ◌≤◌, ℕ, List, [], ◌∷◌, ◌++◌, length, refl, Bool, true, false, arith}
use Rattle.std.proofs.Common.{if◌then◌else◌}
use Rattle.idx_core.specs.declared.span.Span.{Span}
use Rattle.t_types.specs.WellFormed.{max_names}
use Rattle.t_terms.specs.Tree.{TInstr, TEnd, Halt, names_after}
use Rattle.t_terms.specs.Spanned.{SBlock, SProg, seq_of, plain_blocks, plain_program}
use Rattle.t_terms.specs.Whole.{WellFormedProgram, WellFormedSeq, WellFormedBlocks}
use Rattle.listing.specs.Before.{is_at, in_block, steps_to}
use Rattle.listing.specs.Cut.{way_out, cut_block, way_outs, cut_blocks, cut}
use Rattle.listing.proofs.Moving.{Alike, alike_cut}

alike_length : (bs cs : List SBlock) → Alike bs cs → length (plain_blocks cs) ≡ length (plain_blocks bs)
alike_length [] [] h = refl
alike_length (b ∷ bs) (c ∷ cs) h = let l = alike_length bs cs h.1 in omega (arith, l)
alike_length [] (c ∷ cs) h = absurd h
alike_length (b ∷ bs) [] h = absurd h

module _ (p q : ℕ) (place : Span) where
  out_well : (n : ℕ) → n ≤ max_names → WellFormedSeq p q n (seq_of (way_out place) Halt)
  out_well n le = (((omega arith, omega arith), (tt, tt)), le, tt)

  cut_well : (n : ℕ) (xs : List (TInstr × Span)) (e : TEnd) → n ≤ max_names → WellFormedSeq p q n (seq_of xs e) →
      WellFormedSeq p q n (seq_of (steps_to place xs ++ way_out place) Halt)
  cut_well n [] e le h = out_well n le
  cut_well n (x ∷ xs) e le h = go (is_at place x.1) (cut_well (names_after x.0 n) xs e h.1 h.2)
    where
      go : (b : Bool) →
          WellFormedSeq p q (names_after x.0 n) (seq_of (steps_to place xs ++ way_out place) Halt) →
          WellFormedSeq p q n (seq_of ((if b then [] else x ∷ steps_to place xs) ++ way_out place) Halt)
      go true rest = out_well n le
      go false rest = (h.0, h.1, rest)

  outs_well : (bs : List SBlock) → WellFormedBlocks p q (plain_blocks bs) →
      WellFormedBlocks p q (plain_blocks (way_outs place bs))
  outs_well [] h = tt
  outs_well (b ∷ bs) h = ((h.0.0, h.0.1, out_well b.owes h.0.0), outs_well bs h.1)

  blocks_well : (bs : List SBlock) → WellFormedBlocks p q (plain_blocks bs) →
      WellFormedBlocks p q (plain_blocks (cut_blocks place bs))
  blocks_well [] h = tt
  blocks_well (b ∷ bs) h = go (in_block place b) (blocks_well bs h.1)
    where
      go : (x : Bool) → WellFormedBlocks p q (plain_blocks (cut_blocks place bs)) →
          WellFormedBlocks p q
          (plain_blocks
          (if x then cut_block place (steps_to place b.body) b ∷ way_outs place bs else b ∷ cut_blocks place bs))
      go true rest = ((h.0.0, h.0.1, cut_well b.owes b.body b.last h.0.0 h.0.2), outs_well bs h.1)
      go false rest = (h.0, rest)

pub cut_whole : (place : Span) (P : SProg) → WellFormedProgram (plain_program P) →
    WellFormedProgram (plain_program (cut place P))
cut_whole place P w =
    let l = alike_length P.blocks (cut_blocks place P.blocks) (alike_cut place P.blocks) in
    let some = w.0 in
    let blocks = blocks_well (length (plain_blocks P.blocks)) _ place P.blocks w.1 in
    (omega (arith, l, some), rw l blocks, rw l w.2)
