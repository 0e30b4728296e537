-- Code that holds blocks, while it is loaded and after it.
use Rattle.std.proofs.Common.{◌≡◌, ℕ, zero, suc, ◌+◌, ◌<◌, ◌≤◌, List, [], ◌∷◌, ◌++◌, length, map, take, drop, get_or}
use Rattle.std.proofs.Common.{Some, refl, sym, ap, ◌∙◌, subst, arith, inl, inr, ◌⊎◌, ⊎_elim, slice_get, append_assoc}
use Rattle.std.proofs.lemmas.Bool.{cases_lt}
use Rattle.std.proofs.lemmas.List.{drop-append-le, drop_all}
use Rattle.std.proofs.Math.Seq.{drop-append_seam}
use Rattle.t_terms.specs.Tree.{TBase, TBlock}
use Rattle.t_terms.specs.Read.{block, blocks_of, datum, data_fields, data_of, spanned_data}
use Rattle.t_terms.specs.declared.block.Block.{Block}
use Rattle.t_terms.specs.declared.data.Data.{Data as DataItem}
use Rattle.t_terms.specs.declared.value.Value.{Value}
use Rattle.t_types.specs.declared.types.TType.{TType}
use Rattle.idx_core.specs.declared.span.Span.{Span}
use Rattle.t_terms.specs.Spanned.{plain_datum, plain_fields}
use Rattle.t_rules.specs.Erase.{EInstr, ESeq, EThen, EJmp, EHalt, erase_block, erase_datum, drop_seq}
use Rattle.t_machine.specs.Places.{PlaceList, Extends}
use Rattle.t_machine.specs.Action.{Action, action, Arith, Bnz, Ld, Malloc, Mov, St, Jmp, Halt}
use Rattle.t_machine.specs.Code.{IsRegisterAt, IsBase, IsNumber, IsTarget, IsInstr, IsEnd, Holds, HoldsBlocks}
use Rattle.t_machine.specs.Laid.{size, sizes, begins}
use Rattle.t_machine.specs.Lowering.{IsLoaded}
use Rattle.t_machine.specs.declared.code.Operand.{Operand}
use Rattle.t_machine.specs.declared.code.Operand.TheVariants as operand
use Rattle.t_machine.specs.declared.code.Number.{Number}
use Rattle.t_machine.specs.declared.code.Number.TheVariants as number
use Rattle.t_machine.specs.declared.code.Target.{Target}
use Rattle.t_machine.specs.declared.code.Target.TheVariants as target
use Rattle.t_machine.specs.declared.code.Instruction.{Instruction}
use Rattle.t_machine.proofs.Laying.{begins_more, sizes_more}

module _ (m n : PlaceList) (es : List ℕ) (e : Extends m n) where
  place_extends : (k : ℕ) (b : TBase) → IsRegisterAt m k b → IsRegisterAt n k b
  place_extends k b h = (h.0, e h.0 k h.1, h.2)

  base_extends : (v : Operand) (b : TBase) → IsBase m v b → IsBase n v b
  base_extends (operand.Register k) b h = place_extends k b h
  base_extends (operand.Int i) b h = h
  base_extends (operand.Label l) b h = h
  base_extends (operand.Data d) b h = h

  pub number_extends : (v : Number) (b : TBase) → IsNumber m v b → IsNumber n v b
  number_extends (number.Register k) b h = place_extends k b h
  number_extends (number.Int i) b h = h

  pub target_extends : (v : Target) (b : TBase) → IsTarget m es v b → IsTarget n es v b
  target_extends (target.Register k) b h = place_extends k b h
  target_extends (target.Entry to) b h = h

  instr_extends : (o : Action) (i : EInstr) → IsInstr m es o i → IsInstr n es o i
  instr_extends (Arith op d s v) i h = (h.0, h.1, h.2, e h.0 d h.3, e h.1 s h.4, number_extends v h.2 h.5, h.6)
  instr_extends (Bnz s v) i h = (h.0, h.1, e h.0 s h.2, target_extends v h.1 h.3, h.4)
  instr_extends (Ld d s f) i h = (h.0, h.1, e h.0 d h.2, e h.1 s h.3, h.4)
  instr_extends (Malloc d k) i h = (h.0, e h.0 d h.1, h.2)
  instr_extends (Mov d v) i h = (h.0, h.1, e h.0 d h.2, base_extends v h.1 h.3, h.4)
  instr_extends (St d f s) i h = (h.0, h.1, e h.0 d h.2, e h.1 s h.3, h.4)
  instr_extends (Jmp v) i h = absurd h
  instr_extends (Halt s) i h = absurd h

  end_extends : (o : Action) (c : ESeq) → IsEnd m es o c → IsEnd n es o c
  end_extends (Jmp v) c h = (h.0, target_extends v h.0 h.1, h.2)
  end_extends (Halt s) c h = (e 1 s h.0, h.1)
  end_extends (Arith op d s v) c h = absurd h
  end_extends (Bnz s v) c h = absurd h
  end_extends (Ld d s f) c h = absurd h
  end_extends (Malloc d k) c h = absurd h
  end_extends (Mov d v) c h = absurd h
  end_extends (St d f s) c h = absurd h

  holds_extends : (os more : List Instruction) (c : ESeq) → Holds m es os c → Holds n es (os ++ more) c
  holds_extends [] more c h = absurd h
  holds_extends (o ∷ os) more c h = ⊎_elim
      (λ (x : (i : EInstr) × (rest : ESeq) × IsInstr m es (action o) i ×
      (c ≡ EThen i rest) × Holds m es os rest). inl (
        x.0,
        x.1,
        instr_extends
            (action o) x.0 x.2,
        x.3,
        holds_extends os more x.1 x.4,
      ))
      (λ (x : IsEnd m es (action o) c). inr (end_extends (action o) c x))
      h

  from_extends : (k : ℕ) (os more : List Instruction) (c : ESeq) → Holds m es (drop k os) c →
      Holds n es (drop k (os ++ more)) c
  from_extends k os more c h = ⊎_elim
      (λ (lt : length os < k). absurd (subst (λ xs. Holds m es xs c) (drop_all k os (omega arith)) h))
      (λ (le : k ≤ length os). subst (λ xs. Holds n es xs c) (sym (drop-append-le k os more le)) (holds_extends
      (drop k os) more c h))
      (cases_lt (length os) k)

  -- one more block
  pub block_added : (os low : List Instruction) (ks : List ℕ) (cs : List ESeq) (c : ESeq) →
      HoldsBlocks m es os ks cs → Holds n es low c → HoldsBlocks n es (os ++ low) (ks ++ length os ∷ [])
      (cs ++ c ∷ [])
  block_added os low [] [] c h last = (subst (λ xs. Holds n es xs c) (sym (drop-append_seam os low)) last, tt)
  block_added os low (k ∷ ks) (b ∷ cs) c h last = (from_extends k os low b h.0, block_added os low ks cs c h.1 last)
  block_added os low [] (b ∷ cs) c h last = absurd h
  block_added os low (k ∷ ks) [] c h last = absurd h

-- the blocks that stand in the code, and one more
pub filled_more : (m n : PlaceList) (es : List ℕ) → Extends m n → (os low now : List Instruction) (cs : List ESeq)
    (c : ESeq) → HoldsBlocks m es os (begins 0 cs) cs → length os ≡ sizes cs → now ≡ os ++ low → Holds n es low c →
    size c ≡ length low →
    HoldsBlocks n es now (begins 0 (cs ++ c ∷ [])) (cs ++ c ∷ []) × (length now ≡ sizes (cs ++ c ∷ []))
filled_more m n es e os low now cs c holds count all last one = (
  subst (λ xs. HoldsBlocks n es xs (begins 0 (cs ++ c ∷ [])) (cs ++ c ∷ [])) (sym all)
      (subst (λ ks. HoldsBlocks n es (os ++ low) ks (cs ++ c ∷ []))
      (begins_more (begins 0 cs) (length os) cs c refl count)
      (block_added m n es e os low (begins 0 cs) cs c holds last)),
  sizes_more os low now cs c all count one,
)

pub extends_same : (m : PlaceList) → Extends m m
extends_same m r k h = h

pub extends_both : (m n p : PlaceList) → Extends m n → Extends n p → Extends m p
extends_both m n p e f r k h = f r k (e r k h)

module _ (es : List ℕ) where
  -- a block from its first instruction on
  pub loaded_none : (m : PlaceList) (c : ESeq) → IsLoaded m es [] c c
  loaded_none m c n e more h = h

  -- one instruction more
  pub loaded_more : (m p : PlaceList) → Extends m p → (done : List Instruction) (o : Instruction) (i : EInstr)
      (left all : ESeq) → IsInstr p es (action o) i → IsLoaded m es done (EThen i left) all →
      IsLoaded p es (done ++ o ∷ []) left all
  loaded_more m p e done o i left all is h n f more k =
      subst (λ xs. Holds n es xs all) (sym (append_assoc done (o ∷ []) more)) (h n (extends_both m p n e f)
      (o ∷ more) (inl (i, left, instr_extends p n es f (action o) i is, refl, k)))

  -- and the end
  pub loaded_all : (m p : PlaceList) → Extends m p → (done : List Instruction) (o : Instruction) (left all : ESeq) →
      IsEnd p es (action o) left → IsLoaded m es done left all → Holds p es (done ++ o ∷ []) all
  loaded_all m p e done o left all is h = h p e (o ∷ []) (inr is)

  -- where a block is entered
  pub at_entry : (m : PlaceList) (os : List Instruction) (ks : List ℕ) (cs : List ESeq) → HoldsBlocks m es os ks cs →
      (l : ℕ) (c : ESeq) → slice_get cs l ≡ Some c → (k : ℕ) × (slice_get ks l ≡ Some k) × Holds m es (drop k os) c
  at_entry m os [] [] h l c e = cc
  at_entry m os (k ∷ ks) (b ∷ cs) h zero c e = let same : b ≡ c = cc in (
    k,
    refl,
    subst (Holds m es
        (drop k os)) same h.0,
  )
  at_entry m os (k ∷ ks) (b ∷ cs) h (suc l) c e = at_entry m os ks cs h.1 l c e
  at_entry m os [] (b ∷ cs) h l c e = absurd h
  at_entry m os (k ∷ ks) [] h l c e = absurd h

  no_end : (m : PlaceList) (p : Action) (k : EInstr) (d : ESeq) → IsEnd m es p (EThen k d) → ⊥
  no_end m (Jmp v) k d x = let y = x.2 in cc
  no_end m (Halt s) k d x = let y = x.1 in cc
  no_end m (Arith op d s v) k b x = x
  no_end m (Bnz s v) k b x = x
  no_end m (Ld d s f) k b x = x
  no_end m (Malloc d t) k b x = x
  no_end m (Mov d v) k b x = x
  no_end m (St d f s) k b x = x

  -- further on in a block
  pub holds_on : (m : PlaceList) (os : List Instruction) (c : ESeq) (i : ℕ) (rest : ESeq) → Holds m es os c →
      drop_seq i c ≡ Some rest → Holds m es (drop i os) rest
  holds_on m os c zero rest h e = let same : c ≡ rest = cc in subst (Holds m es os) same h
  holds_on m [] c (suc i) rest h e = absurd h
  holds_on m (o ∷ os) (EThen j c) (suc i) rest h e = ⊎_elim
      (λ (x : (k : EInstr) × (tail : ESeq) × IsInstr m es (action o) k ×
      (EThen j c ≡ EThen k tail) × Holds m es os tail). let eq = x.3 in let same : x.1 ≡ c = cc in
      holds_on m os c i rest (subst (Holds m es os) same x.4) e)
      (λ (x : IsEnd m es (action o) (EThen j c)). absurd (no_end m (action o) j c x))
      h
  holds_on m (o ∷ os) (EJmp b) (suc i) rest h e = cc
  holds_on m (o ∷ os) EHalt (suc i) rest h e = cc

abbrev no_code : List Instruction
no_code = []

drop_none : (k : ℕ) → drop k (no_code) ≡ no_code
drop_none zero = refl
drop_none (suc k) = refl

-- the instruction at a place
pub instruction_at : (os : List Instruction) (k : ℕ) → (drop k os ≡ []) ⊎ ((o : Instruction) ×
    (slice_get os k ≡ Some o) × (drop k os ≡ o ∷ drop (suc k) os))
instruction_at [] k = inl (drop_none k)
instruction_at (o ∷ os) zero = inr (o, refl, refl)
instruction_at (o ∷ os) (suc k) = instruction_at os k

-- the blocks up to a place
taken_one : (bs : List Block) (i : ℕ) (x : Block) → i < length bs → x ≡ get_or bs i x → map erase_block (blocks_of
    (take (suc i) bs)) ≡ map erase_block (blocks_of (take i bs)) ++ erase_block (block x) ∷ []
taken_one [] i x lt is = absurd (omega arith)
taken_one (b ∷ bs) zero x lt is = ap (λ (y : Block). erase_block (block y) ∷ []) (sym is)
taken_one (b ∷ bs) (suc i) x lt is = ap (λ z. erase_block (block b) ∷ z) (taken_one bs i x (omega arith) is)

pub blocks_taken : (bs : List Block) (i : ℕ) (x : Block) → i < length bs → x ≡ get_or bs i x →
    map erase_block (blocks_of (take (i + 1) bs)) ≡ map erase_block (blocks_of (take i bs)) ++ erase_block
    (block x) ∷ []
blocks_taken bs i x lt is = let more : i + 1 ≡ suc i = omega arith in ap (λ k. map erase_block (blocks_of
    (take k bs))) more ∙ taken_one bs i x lt is

-- the first block's entry
pub first_entry : (m : PlaceList) (es : List ℕ) (os : List Instruction) (ks : List ℕ) (cs : List ESeq) →
    HoldsBlocks m es os ks cs → 0 < length cs → 0 < length ks
first_entry m es os [] [] h lt = lt
first_entry m es os (k ∷ ks) (c ∷ cs) h lt = omega arith
first_entry m es os [] (c ∷ cs) h lt = absurd h
first_entry m es os (k ∷ ks) [] h lt = absurd h

pub erased_count : (bs : List TBlock) → 1 ≤ length bs → 0 < length (map erase_block bs)
erased_count [] some = omega arith
erased_count (b ∷ bs) some = omega arith

-- the data up to a place
taken_data : (xs : List DataItem) (i : ℕ) (x : DataItem) → i < length xs → x ≡ get_or xs i x →
    map (map erase_datum) (data_of (take (suc i) xs)) ≡ map (map erase_datum) (data_of
    (take i xs)) ++ map erase_datum (plain_fields (spanned_data x).fields) ∷ []
taken_data [] i x lt is = absurd (omega arith)
taken_data (y ∷ xs) zero x lt is = ap (λ (z : DataItem). map erase_datum (plain_fields
    (spanned_data z).fields) ∷ []) (sym is)
taken_data (y ∷ xs) (suc i) x lt is = ap (λ z. map erase_datum (plain_fields (spanned_data y).fields) ∷ z)
    (taken_data xs i x (omega arith) is)

pub data_taken : (xs : List DataItem) (i : ℕ) (x : DataItem) → i < length xs → x ≡ get_or xs i x →
    map (map erase_datum) (data_of (take (i + 1) xs)) ≡ map (map erase_datum) (data_of
    (take i xs)) ++ map erase_datum (plain_fields (spanned_data x).fields) ∷ []
data_taken xs i x lt is = let more : i + 1 ≡ suc i = omega arith in ap (λ k. map (map erase_datum) (data_of
    (take k xs))) more ∙ taken_data xs i x lt is

-- the words of a data tuple up to a place
taken_words : (xs : List (Value × TType × Span)) (i : ℕ) (x : Value × TType × Span) → i < length xs →
    x ≡ get_or xs i x →
    map erase_datum (plain_fields (data_fields (take (suc i) xs))) ≡ map erase_datum (plain_fields (data_fields
    (take i xs))) ++ erase_datum (plain_datum (datum x)) ∷ []
taken_words [] i x lt is = absurd (omega arith)
taken_words (y ∷ xs) zero x lt is = ap (λ (z : Value × TType × Span). erase_datum (plain_datum (datum z)) ∷ []) (sym is)
taken_words (y ∷ xs) (suc i) x lt is = ap (λ z. erase_datum (plain_datum (datum y)) ∷ z) (taken_words xs i x
    (omega arith) is)

pub words_taken : (xs : List (Value × TType × Span)) (i : ℕ) (x : Value × TType × Span) → i < length xs →
    x ≡ get_or xs i x →
    map erase_datum (plain_fields (data_fields (take (i + 1) xs))) ≡ map erase_datum (plain_fields (data_fields
    (take i xs))) ++ erase_datum (plain_datum (datum x)) ∷ []
words_taken xs i x lt is = let more : i + 1 ≡ suc i = omega arith in ap (λ k. map erase_datum (plain_fields
    (data_fields (take k xs)))) more ∙ taken_words xs i x lt is

-- a data tuple has as many words as fields
pub words_count : (xs : List (Value × TType × Span)) → length (map erase_datum (plain_fields (data_fields xs))) ≡
    length xs
words_count [] = refl
words_count (x ∷ xs) = ap suc (words_count xs)
