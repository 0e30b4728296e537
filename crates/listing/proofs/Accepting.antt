-- A program that is cut at the place of its first fault is accepted.
use Rattle.std.proofs.Common.{◌≡◌, ℕ, List, [], ◌∷◌, ◌++◌, inl, inr, refl, sym, subst, Bool, true, false}
use Rattle.std.proofs.Common.{◌||◌, if◌then◌else◌}
use Rattle.std.proofs.lemmas.Bool.{or_right, or_left}
use Rattle.idx_core.specs.declared.span.Span.{Span}
use Rattle.t_types.specs.Tree.{IntTy}
use Rattle.t_types.specs.Fits.{RegTypes, lookup}
use Rattle.t_types.proofs.Scope.{regs_below}
use Rattle.t_terms.specs.Tree.{TInstr, TEnd, Halt, TSeq, TProg, names_after}
use Rattle.t_terms.specs.Spanned.{SBlock, SProg, seq_of, plain, plain_blocks, plain_heap, plain_program}
use Rattle.t_terms.specs.Whole.{WellFormedBlocks, WellFormedProgram}
use Rattle.t_terms.specs.Registers.{with_reg}
use Rattle.t_rules.specs.Rules.{SeqAccepted, BlocksAccepted, FirstTakesNothing, Accepted}
use Rattle.t_rules.specs.Faults.{Note, BodyFaultWith, BlocksFaultWith, FirstBlockFaultWith, ProgramNoted}
use Rattle.listing.specs.Before.{is_at, in_first, in_body, in_block, is_before_blocks, steps_to}
use Rattle.listing.specs.Cut.{way_out, cut_block, way_outs, cut_blocks, cut}
use Rattle.listing.specs.CutLaws.{CutIsAccepted}
use Rattle.listing.proofs.Places.{at_instr, at_end, at_itself, in_tuples}
use Rattle.listing.proofs.Moving.{Labels, Tuples, instr_moved, block_moved, heap_moved, labels_alike, alike_cut}

-- the way out is typed whatever is known
out : (Q : TProg) (place : Span) (n : ℕ) (g : RegTypes) → SeqAccepted Q n g (seq_of (way_out place) Halt)
out Q place n g = (with_reg g 1 IntTy, (IntTy, refl, refl), refl)

-- a body that is cut
abbrev cut_seq : Span → List (TInstr × Span) → TSeq
cut_seq place xs = seq_of (xs ++ way_out place) Halt

module _ (P Q : TProg) (labels : Labels P Q) (tuples : Tuples P Q) (place : Span) where
  -- the instructions before the place, by whether the first one stands there
  abbrev CutBy : ℕ → RegTypes → TInstr × Span → List (TInstr × Span) → Bool → Type 0
  CutBy n g x xs b = SeqAccepted Q n g (cut_seq place (if b then [] else x ∷ steps_to place xs))

  cut_typed : (n : ℕ) (g : RegTypes) (xs : List (TInstr × Span)) (e : TEnd) → SeqAccepted P n g (seq_of xs e) →
      SeqAccepted Q n g (cut_seq place (steps_to place xs))
  cut_typed n g [] e h = out Q place n g
  cut_typed n g (x ∷ xs) e h = go (is_at place x.1) (cut_typed (names_after x.0 n) h.0 xs e h.2)
    where
      go : (b : Bool) → SeqAccepted Q (names_after x.0 n) h.0 (cut_seq place (steps_to place xs)) → CutBy n g x xs b
      go true rest = out Q place n g
      go false rest = (h.0, instr_moved P Q labels tuples n g x.0 h.0 h.1, rest)

  -- the block with the fault has the place, and what stands before it is typed
  cut_faulty : (n : ℕ) (g : RegTypes) (xs : List (TInstr × Span)) (e : TEnd) (s : Span) (c : Note) →
      BodyFaultWith P n g xs e s c place →
      ((in_body place xs || is_at place s) ≡ true) × SeqAccepted Q n g (cut_seq place (steps_to place xs))
  cut_faulty n g [] e s c h = (at_itself place s (at_end P n g s e c place h), out Q place n g)
  cut_faulty n g (x ∷ xs) e s c (inl h) =
      let at = at_itself place x.1 (at_instr P n g x.1 x.0 c place h) in (
        or_left _ _ (or_left _ _ at),
        subst (CutBy n g x xs) (sym at) (out Q place n g),
      )
  cut_faulty n g (x ∷ xs) e s c (inr h) =
      let rest = cut_faulty (names_after x.0 n) h.0 xs e s c h.2 in
      (more (is_at place x.1) (in_body place xs) (is_at place s) rest.0, go (is_at place x.1) rest.1)
    where
      more : (a b d : Bool) → (b || d) ≡ true → ((a || b) || d) ≡ true
      more true b d q = refl
      more false b d q = q

      go : (b : Bool) → SeqAccepted Q (names_after x.0 n) h.0 (cut_seq place (steps_to place xs)) → CutBy n g x xs b
      go true rest = out Q place n g
      go false rest = (h.0, instr_moved P Q labels tuples n g x.0 h.0 h.1, rest)

  outs_typed : (p q : ℕ) (bs : List SBlock) → WellFormedBlocks p q (plain_blocks bs) →
      BlocksAccepted Q (plain_blocks (way_outs place bs))
  outs_typed p q [] w = tt
  outs_typed p q (b ∷ bs) w =
      ((regs_below 0 b.owes b.file w.0.1, out Q place b.owes (lookup b.file)), outs_typed p q bs w.1)

  abbrev BlocksBy : SBlock → List SBlock → Bool → Type 0
  BlocksBy b bs x =
      BlocksAccepted Q
      (plain_blocks
      (if x then cut_block place (steps_to place b.body) b ∷ way_outs place bs else b ∷ cut_blocks place bs))

  cut_accepted : (p q : ℕ) (bs : List SBlock) (c : Note) → WellFormedBlocks p q (plain_blocks bs) →
      BlocksFaultWith P bs c place → BlocksAccepted Q (plain_blocks (cut_blocks place bs))
  cut_accepted p q [] c w h = absurd h
  cut_accepted p q (b ∷ bs) c w (inl h) =
      let f = cut_faulty b.owes (lookup b.file) b.body b.last b.last_span c h in
      subst (BlocksBy b bs) (sym f.0) ((regs_below 0 b.owes b.file w.0.1, f.1), outs_typed p q bs w.1)
  cut_accepted p q (b ∷ bs) c w (inr h) = go (in_block place b) (cut_accepted p q bs c w.1 h.2)
    where
      go : (x : Bool) → BlocksAccepted Q (plain_blocks (cut_blocks place bs)) → BlocksBy b bs x
      go true rest =
          ((h.1.0, cut_typed b.owes (lookup b.file) b.body b.last h.1.1), outs_typed p q bs w.1)
      go false rest = (block_moved P Q labels tuples (plain b) h.1, rest)

-- the first block takes nothing, also where it is cut
first_cut : (place : Span) (bs : List SBlock) → FirstTakesNothing (plain_blocks bs) →
    FirstTakesNothing (plain_blocks (cut_blocks place bs))
first_cut place [] h = absurd h
first_cut place (b ∷ bs) h = go (in_block place b)
  where
    go : (x : Bool) →
        FirstTakesNothing
        (plain_blocks
        (if x then cut_block place (steps_to place b.body) b ∷ way_outs place bs else b ∷ cut_blocks place bs))
    go true = h
    go false = h

label_at : (place : Span) (bs : List SBlock) (c : Note) → FirstBlockFaultWith bs c place → in_first place bs ≡ true
label_at place [] c h = absurd h
label_at place (b ∷ bs) c h = at_itself place b.name h.1

differ : (b : Bool) → b ≡ true → b ≡ false → ⊥
differ true x y = cc
differ false x y = cc

cut_at : (P : SProg) (c : Note) (place : Span) → WellFormedProgram (plain_program P) → ProgramNoted P c place →
    is_before_blocks place P ≡ false → Accepted (plain_program (cut place P))
cut_at P c place w (inl h) behind =
    absurd (differ _ (or_left _ _ (label_at place P.blocks c h.1)) behind)
cut_at P c place w (inr (first, inl h)) behind =
    absurd (differ _ (or_right (in_first place P.blocks) _ (in_tuples (plain_program P) P.heap c place h)) behind)
cut_at P c place w (inr (first, inr h)) behind =
    let labels = labels_alike P (cut place P) (alike_cut place P.blocks) in
    let tuples : Tuples (plain_program P) (plain_program (cut place P)) = λ d x e. e in (
      first_cut place P.blocks first,
      heap_moved (plain_program P) (plain_program (cut place P)) labels tuples (plain_heap P.heap) h.1,
      cut_accepted (plain_program P) (plain_program (cut place P)) labels tuples place _ _ P.blocks c w.1 h.2,
    )

pub cut_is_accepted : CutIsAccepted
cut_is_accepted P c place w h behind = cut_at P (c, h.0) place w h.1 behind
