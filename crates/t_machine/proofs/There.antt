-- In a whole program each data tuple that a value names is there, also in the parts of its blocks and of its data.
use Rattle.std.proofs.Common.{◌≡◌, ℕ, zero, suc, ◌<◌, List, [], ◌∷◌, length, get_or, refl, sym, ap, ◌∙◌}
use Rattle.std.proofs.Common.{subst, arith}
use Rattle.idx_core.specs.declared.span.Span.{Span}
use Rattle.t_types.specs.declared.types.TType.{TType}
use Rattle.t_terms.specs.Tree.{Data, TValue, Plain, Pack, TEnd, names_after}
use Rattle.t_terms.specs.Whole.{WellFormedBase, WellFormedValue, WellFormedInstr, WellFormedSeq, WellFormedBlock}
use Rattle.t_terms.specs.Whole.{WellFormedBlocks, WellFormedDatum, WellFormedData, WellFormedHeap}
use Rattle.t_terms.specs.Spanned.{seq_of, plain_datum, plain_fields}
use Rattle.t_terms.specs.Read.{instr, body, block, blocks_of, datum, data_fields, data_of}
use Rattle.t_terms.specs.declared.value.Value.{Value}
use Rattle.t_terms.specs.declared.instr.Instr.{Instr}
use Rattle.t_terms.specs.declared.block.Block.{Block}
use Rattle.t_terms.specs.declared.data.Data.{Data as DataItem}
use Rattle.t_rules.specs.Erase.{erase_value}
use Rattle.t_collect.specs.Tuples.{starts_from}
use Rattle.t_machine.proofs.Starting.{tuples_of}
use Rattle.t_machine.proofs.Tuples.{starts_count}

module _ (p q : ℕ) where
  pub value_there : (n : ℕ) (v : TValue) (d : ℕ) → WellFormedValue p q n v → erase_value v ≡ Data d → d < q
  value_there n (Plain b ts) d w e = subst (WellFormedBase p q) e w.0
  value_there n (Pack t v s) d w e = value_there n v d w.1 e

  -- an instruction of a body
  pub instr_there : (n : ℕ) (xs : List (Instr × Span)) (e : TEnd) (i : ℕ) (x : Instr × Span) → i < length xs →
      x ≡ get_or xs i x → WellFormedSeq p q n (seq_of (body xs) e) → (k : ℕ) × WellFormedInstr p q k (instr x.0)
  instr_there n [] e i x lt is w = absurd (omega arith)
  instr_there n (y ∷ xs) e zero x lt is w =
      (n, subst (λ (z : Instr × Span). WellFormedInstr p q n (instr z.0)) (sym is) w.0)
  instr_there n (y ∷ xs) e (suc i) x lt is w =
      instr_there (names_after (instr y.0) n) xs e i x (omega arith) is w.2

  pub block_there : (bs : List Block) (i : ℕ) (b : Block) → i < length bs → b ≡ get_or bs i b →
      WellFormedBlocks p q (blocks_of bs) → WellFormedBlock p q (block b)
  block_there [] i b lt is w = absurd (omega arith)
  block_there (y ∷ bs) zero b lt is w = subst (λ (z : Block). WellFormedBlock p q (block z)) (sym is) w.0
  block_there (y ∷ bs) (suc i) b lt is w = block_there bs i b (omega arith) is w.1

  -- a field of a data tuple
  pub field_there : (xs : List (Value × TType × Span)) (i : ℕ) (x : Value × TType × Span) → i < length xs →
      x ≡ get_or xs i x → WellFormedData p q (plain_fields (data_fields xs)) →
      WellFormedDatum p q (plain_datum (datum x))
  field_there [] i x lt is w = absurd (omega arith)
  field_there (y ∷ xs) zero x lt is w =
      subst (λ (z : Value × TType × Span). WellFormedDatum p q (plain_datum (datum z))) (sym is) w.0
  field_there (y ∷ xs) (suc i) x lt is w = field_there xs i x (omega arith) is w.1

  pub tuple_there : (xs : List DataItem) (i : ℕ) (x : DataItem) → i < length xs → x ≡ get_or xs i x →
      WellFormedHeap p q (data_of xs) → WellFormedData p q (plain_fields (data_fields x.fields.items))
  tuple_there [] i x lt is w = absurd (omega arith)
  tuple_there (y ∷ xs) zero x lt is w =
      subst (λ (z : DataItem). WellFormedData p q (plain_fields (data_fields z.fields.items))) (sym is) w.0
  tuple_there (y ∷ xs) (suc i) x lt is w = tuple_there xs i x (omega arith) is w.1

counted : (xs : List DataItem) → length (data_of xs) ≡ length (tuples_of xs)
counted [] = refl
counted (x ∷ xs) = ap suc (counted xs)

-- there are as many starts as data tuples
pub data_count : (xs : List DataItem) (ss : List ℕ) → ss ≡ starts_from 0 (tuples_of xs) →
    length (data_of xs) ≡ length ss
data_count xs ss is =
    counted xs ∙ sym (starts_count 0 (tuples_of xs)) ∙ ap (λ (zs : List ℕ). length zs) (sym is)
