-- A block instruction by instruction, and a program block by block: what is left to show, from what is left to check.
use Rattle.std.proofs.Common.{◌≡◌, ℕ, zero, suc, ◌+◌, ◌<◌, ◌≤◌, List, [], ◌∷◌, length, drop, None, refl, sym, ap, ◌∙◌}
use Rattle.std.proofs.Common.{get_or, subst, arith, inl, inr, Result, Ok, Err}
use Rattle.std.proofs.lemmas.List.{drop_more, drop_all}
use Rattle.idx_core.specs.declared.span.Span.{Span}
use Rattle.t_types.specs.Fits.{RegTypes, lookup}
use Rattle.t_types.specs.WellFormed.{max_names}
use Rattle.t_types.specs.Tree.{Ty, NoRegs, BelowFile}
use Rattle.t_types.specs.Read.{file}
use Rattle.t_terms.specs.Tree.{TEnd, TProg, names_after}
use Rattle.t_terms.specs.Spanned.{seq_of, plain_datum, plain_fields}
use Rattle.t_terms.specs.Read.{instr, end_of, body, block, spanned, spanned_blocks, blocks_of, datum, data_fields}
use Rattle.t_terms.specs.Read.{spanned_data, spanned_heap, data_of}
use Rattle.t_terms.specs.ReadProgram.{program, spanned_program}
use Rattle.t_terms.specs.Whole.{WellFormedInstr, WellFormedSeq, WellFormedEnd, WellFormedDatum, WellFormedData}
use Rattle.t_terms.specs.declared.block.Block.{Block}
use Rattle.t_terms.specs.declared.data.Data.{Data}
use Rattle.t_terms.specs.declared.program.TProgram.{TProgram}
use Rattle.t_terms.specs.declared.fault.TCode.TheVariants.{T20}
use Rattle.t_terms.specs.declared.instr.Instr.{Instr}
use Rattle.t_known.specs.declared.refusal.Refusal.{Refusal}
use Rattle.t_known.specs.Labels.{Field}
use Rattle.t_rules.specs.Rules.{Typed, EndTyped, SeqAccepted, BlockAccepted, BlocksAccepted, DatumAccepted}
use Rattle.t_rules.specs.Rules.{DataAccepted, HeapAccepted, FirstTakesNothing}
use Rattle.t_rules.specs.Faults.{Note, InstrFaultWith, EndFaultWith, BodyFaultWith, BlockFaultWith, BlocksFaultWith}
use Rattle.t_rules.specs.Faults.{DatumFaultWith, DataFaultWith, HeapFaultWith, FirstBlockFaultWith, ProgramNoted}
use Rattle.t_known.specs.Refusals.{SaysWith}
use Rattle.t_check.specs.Verdict.{IsEnd, IsBlock, AreBlocks, IsProgram}
use Rattle.t_check.proofs.Typing.{says_map}

-- the instructions from a place on
abbrev pub Rest : Type 0
Rest = List (Instr × Span)

module _ (P : TProg) (last : TEnd) (s : Span) where
  -- a block of which the instructions `left` are still to be checked, under m names where h is known: that they
  -- are accepted or faulty says the same of the whole block, which has the instructions xs, n names and knows g
  pub record IsLeft (n m : ℕ) (g h : RegTypes) (xs left : Rest) : Type 0 where
    pub accepted : SeqAccepted P m h (seq_of (body left) last) → SeqAccepted P n g (seq_of (body xs) last)
    pub fault : (c : Note) (p : Span) → BodyFaultWith P m h (body left) last s c p →
        BodyFaultWith P n g (body xs) last s c p

  pub left_all : (n m : ℕ) (g h : RegTypes) (xs : Rest) → m ≡ n → h ≡ g → IsLeft n m g h xs xs
  left_all n m g h xs e is = record {
    accepted = λ a. subst (λ z. SeqAccepted P z g (seq_of (body xs) last)) e
        (subst (λ k. SeqAccepted P m k (seq_of (body xs) last)) is a);
    fault = λ c p f. subst (λ z. BodyFaultWith P z g (body xs) last s c p) e
        (subst (λ k. BodyFaultWith P m k (body xs) last s c p) is f);
  }

  module _ (n m : ℕ) (g h : RegTypes) (xs : Rest) (i : ℕ) (x : Instr × Span) (lt : i < length xs)
      (is : x ≡ get_or xs i x) where
    next : drop i xs ≡ x ∷ drop (i + 1) xs
    next = drop_more xs i x lt ∙ ap (λ (y : Instr × Span). y ∷ drop (i + 1) xs) (sym is)

    pub left_fault : IsLeft n m g h xs (drop i xs) → (c : Note) (p : Span) → InstrFaultWith P m h x.1 (instr x.0) c p →
        BodyFaultWith P n g (body xs) last s c p
    left_fault left c p f = left.fault c p (subst (λ ys. BodyFaultWith P m h (body ys) last s c p) (sym next) (inl f))

    pub left_more : (k : RegTypes) (m1 : ℕ) → m1 ≡ names_after (instr x.0) m → Typed P m h (instr x.0) k →
        IsLeft n m g h xs (drop i xs) → IsLeft n m1 g k xs (drop (i + 1) xs)
    left_more k m1 e t left = record {
      accepted = λ a.
          left.accepted
          (subst (λ ys. SeqAccepted P m h (seq_of (body ys) last)) (sym next)
          (k, t, subst (λ z. SeqAccepted P z k (seq_of (body (drop (i + 1) xs)) last)) e a));
      fault = λ c p f.
          left.fault c p
          (subst (λ ys. BodyFaultWith P m h (body ys) last s c p) (sym next)
          (inr (k, t, subst (λ z. BodyFaultWith P z k (body (drop (i + 1) xs)) last s c p) e f)));
    }

    module _ (p q : ℕ) (formed : WellFormedSeq p q m (seq_of (body (drop i xs)) last)) where
      here : WellFormedSeq p q m (seq_of (body (x ∷ drop (i + 1) xs)) last)
      here = subst (λ ys. WellFormedSeq p q m (seq_of (body ys) last)) next formed

      pub formed_instr : WellFormedInstr p q m (instr x.0)
      formed_instr = here.0

      pub formed_names : names_after (instr x.0) m ≤ max_names
      formed_names = here.1

      pub formed_more : (m1 : ℕ) → m1 ≡ names_after (instr x.0) m →
          WellFormedSeq p q m1 (seq_of (body (drop (i + 1) xs)) last)
      formed_more m1 e = subst (λ z. WellFormedSeq p q z (seq_of (body (drop (i + 1) xs)) last)) (sym e) here.2

  -- the end of the block
  module _ (n m : ℕ) (g h : RegTypes) (xs : Rest) (i : ℕ) (le : length xs ≤ i) where
    ended : drop i xs ≡ []
    ended = drop_all i xs le

    pub end_accepted : IsLeft n m g h xs (drop i xs) → EndTyped P m h last → SeqAccepted P n g (seq_of (body xs) last)
    end_accepted left e = left.accepted (subst (λ ys. SeqAccepted P m h (seq_of (body ys) last)) (sym ended) e)

    pub end_fault : IsLeft n m g h xs (drop i xs) → (c : Note) (p : Span) → EndFaultWith P m h s last c p →
        BodyFaultWith P n g (body xs) last s c p
    end_fault left c p f = left.fault c p (subst (λ ys. BodyFaultWith P m h (body ys) last s c p) (sym ended) f)

    pub end_formed : (p q : ℕ) → WellFormedSeq p q m (seq_of (body (drop i xs)) last) → WellFormedEnd p q m last
    end_formed p q formed = subst (λ ys. WellFormedSeq p q m (seq_of (body ys) last)) ended formed

pub block_end : (P : TProg) (b : Block) (m : ℕ) (g : RegTypes) (i : ℕ) → length b.body.items ≤ i →
    BelowFile b.owes (file b.regs.regs.items) →
    IsLeft P (end_of b.«end») b.end_span b.owes m (lookup (file b.regs.regs.items)) g b.body.items
    (drop i b.body.items) →
    (us : List Ty) (r : Result (Unit {0}) Refusal) → IsEnd P us m g b.end_span (end_of b.«end») r →
    IsBlock P us (spanned b) r
block_end P b m g i le small left us (Ok u) e = (
  small,
  end_accepted P (end_of b.«end») b.end_span b.owes m (lookup (file b.regs.regs.items)) g b.body.items i le
      left e,
)
block_end P b m g i le small left us (Err f) e =
    says_map us f _ (BlockFaultWith P (spanned b))
    (end_fault P (end_of b.«end») b.end_span b.owes m (lookup (file b.regs.regs.items)) g b.body.items i le left) e

-- a program of which the blocks `left` are still to be checked
pub record AreLeft (P : TProg) (bs left : List Block) : Type 0 where
  pub accepted : BlocksAccepted P (blocks_of left) → BlocksAccepted P (blocks_of bs)
  pub fault : (c : Note) (p : Span) → BlocksFaultWith P (spanned_blocks left) c p →
      BlocksFaultWith P (spanned_blocks bs) c p

module _ (P : TProg) (bs : List Block) (i : ℕ) where
  module _ (x : Block) (lt : i < length bs) (is : x ≡ get_or bs i x) where
    next_block : drop i bs ≡ x ∷ drop (i + 1) bs
    next_block = drop_more bs i x lt ∙ ap (λ (y : Block). y ∷ drop (i + 1) bs) (sym is)

    pub block_fault : AreLeft P bs (drop i bs) → (c : Note) (p : Span) → BlockFaultWith P (spanned x) c p →
        BlocksFaultWith P (spanned_blocks bs) c p
    block_fault left c p f =
        left.fault c p (subst (λ ys. BlocksFaultWith P (spanned_blocks ys) c p) (sym next_block) (inl f))

    pub block_more : BlockAccepted P (block x) → AreLeft P bs (drop i bs) → AreLeft P bs (drop (i + 1) bs)
    block_more h left = record {
      accepted = λ a. left.accepted (subst (λ ys. BlocksAccepted P (blocks_of ys)) (sym next_block) (h, a));
      fault = λ c p f.
          left.fault c p (subst (λ ys. BlocksFaultWith P (spanned_blocks ys) c p) (sym next_block) (inr (tt, h, f)));
    }

  pub blocks_end : length bs ≤ i → AreLeft P bs (drop i bs) → BlocksAccepted P (blocks_of bs)
  blocks_end le left = left.accepted (subst (λ ys. BlocksAccepted P (blocks_of ys)) (sym (drop_all i bs le)) tt)

-- the data of which `left` are still to be checked, and the words of one of them
pub record DataLeft (P : TProg) (xs left : List Data) : Type 0 where
  pub accepted : HeapAccepted P (data_of left) → HeapAccepted P (data_of xs)
  pub fault : (c : Note) (p : Span) → HeapFaultWith P (spanned_heap left) c p → HeapFaultWith P (spanned_heap xs) c p

module _ (P : TProg) (xs : List Data) (i : ℕ) where
  module _ (x : Data) (lt : i < length xs) (is : x ≡ get_or xs i x) where
    next_data : drop i xs ≡ x ∷ drop (i + 1) xs
    next_data = drop_more xs i x lt ∙ ap (λ (y : Data). y ∷ drop (i + 1) xs) (sym is)

    pub data_fault : DataLeft P xs (drop i xs) → (c : Note) (p : Span) → DataFaultWith P (spanned_data x).fields c p →
        HeapFaultWith P (spanned_heap xs) c p
    data_fault left c p f = left.fault c p (subst (λ ys. HeapFaultWith P (spanned_heap ys) c p) (sym next_data) (inl f))

    pub data_more : DataAccepted P (plain_fields (spanned_data x).fields) → DataLeft P xs (drop i xs) →
        DataLeft P xs (drop (i + 1) xs)
    data_more h left = record {
      accepted = λ a. left.accepted (subst (λ ys. HeapAccepted P (data_of ys)) (sym next_data) (h, a));
      fault = λ c p f.
          left.fault c p (subst (λ ys. HeapFaultWith P (spanned_heap ys) c p) (sym next_data) (inr (tt, h, f)));
    }

  pub data_end : length xs ≤ i → DataLeft P xs (drop i xs) → HeapAccepted P (data_of xs)
  data_end le left = left.accepted (subst (λ ys. HeapAccepted P (data_of ys)) (sym (drop_all i xs le)) tt)

pub record WordsLeft (P : TProg) (xs left : List Field) : Type 0 where
  pub accepted : DataAccepted P (plain_fields (data_fields left)) → DataAccepted P (plain_fields (data_fields xs))
  pub fault : (c : Note) (p : Span) → DataFaultWith P (data_fields left) c p → DataFaultWith P (data_fields xs) c p

module _ (P : TProg) (xs : List Field) (i : ℕ) where
  module _ (x : Field) (lt : i < length xs) (is : x ≡ get_or xs i x) where
    next_word : drop i xs ≡ x ∷ drop (i + 1) xs
    next_word = drop_more xs i x lt ∙ ap (λ (y : Field). y ∷ drop (i + 1) xs) (sym is)

    pub word_fault : WordsLeft P xs (drop i xs) → (c : Note) (p : Span) → DatumFaultWith P (datum x) c p →
        DataFaultWith P (data_fields xs) c p
    word_fault left c p f = left.fault c p (subst (λ ys. DataFaultWith P (data_fields ys) c p) (sym next_word) (inl f))

    pub word_more : DatumAccepted P (plain_datum (datum x)) → WordsLeft P xs (drop i xs) →
        WordsLeft P xs (drop (i + 1) xs)
    word_more h left = record {
      accepted =
          λ a. left.accepted (subst (λ ys. DataAccepted P (plain_fields (data_fields ys))) (sym next_word) (h, a));
      fault = λ c p f.
          left.fault c p (subst (λ ys. DataFaultWith P (data_fields ys) c p) (sym next_word) (inr (tt, h, f)));
    }

  pub words_end : length xs ≤ i → WordsLeft P xs (drop i xs) → DataAccepted P (plain_fields (data_fields xs))
  words_end le left =
      left.accepted (subst (λ ys. DataAccepted P (plain_fields (data_fields ys))) (sym (drop_all i xs le)) tt)

pub formed_word : (p q : ℕ) (xs : List Field) (i : ℕ) (x : Field) → i < length xs → x ≡ get_or xs i x →
    WellFormedData p q (plain_fields (data_fields xs)) → WellFormedDatum p q (plain_datum (datum x))
formed_word p q [] i x lt is h = absurd (omega arith)
formed_word p q (y ∷ xs) zero x lt is h =
    subst (λ (z : Field). WellFormedDatum p q (plain_datum (datum z))) (sym is) h.0
formed_word p q (y ∷ xs) (suc i) x lt is h = formed_word p q xs i x (omega arith) is h.1

-- the whole program, by its first block, its data and its blocks
pub first_takes : (bs : List Block) (b : Block) → 0 < length bs → b ≡ get_or bs 0 b →
    ((block b).owes ≡ 0) × ((block b).file ≡ NoRegs) → FirstTakesNothing (blocks_of bs)
first_takes [] b some is first = absurd (omega arith)
first_takes (x ∷ bs) b some is first = subst (λ (y : Block). ((block y).owes ≡ 0) × ((block y).file ≡ NoRegs)) is first

pub first_fault : (p : TProgram) (b : Block) → 0 < length p.blocks.items → b ≡ get_or p.blocks.items 0 b →
    (((block b).owes ≡ 0) × ((block b).file ≡ NoRegs) → ⊥) → ProgramNoted (spanned_program p) (T20, None) b.name
first_fault p b some is taken = inl (at p.blocks.items some is)
  where
    at : (bs : List Block) → 0 < length bs → b ≡ get_or bs 0 b → (FirstTakesNothing (blocks_of bs) → ⊥)
        × FirstBlockFaultWith (spanned_blocks bs) (T20, None) b.name
    at [] l e = absurd (omega arith)
    at (x ∷ bs) l e = (
      (λ h. taken (subst (λ (y : Block). ((block y).owes ≡ 0) × ((block y).file ≡ NoRegs)) (sym e) h)),
      (refl, ap (λ (y : Block). y.name) e),
    )

module _ (p : TProgram) (first : FirstTakesNothing (blocks_of p.blocks.items)) where
  pub heap_fault : (us : List Ty) (f : Refusal) →
      SaysWith us f (HeapFaultWith (program p) (spanned_heap p.heap.items)) →
      SaysWith us f (ProgramNoted (spanned_program p))
  heap_fault us f h =
      says_map us f (HeapFaultWith (program p) (spanned_heap p.heap.items)) (ProgramNoted (spanned_program p))
      (λ c s k. inr (first, inl k)) h

  pub program_is : HeapAccepted (program p) (data_of p.heap.items) → (us : List Ty) (r : Result (Unit {0}) Refusal) →
      AreBlocks (program p) us (spanned_blocks p.blocks.items) r → IsProgram (spanned_program p) us r
  program_is heap us (Ok u) h = (first, heap, h)
  program_is heap us (Err f) h =
      says_map us f (BlocksFaultWith (program p) (spanned_blocks p.blocks.items)) (ProgramNoted (spanned_program p))
      (λ c s k. inr (first, inr (tt, heap, k))) h
