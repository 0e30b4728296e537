-- What a text stands for depends on what its labels name alone.
use Rattle.std.proofs.Common.{◌≡◌, ℕ, List, [], ◌∷◌, ◌++◌, map, refl, ap, ap₂}
use Rattle.std.specs.Prelude.{is_none, Option}
use Rattle.idx_core.specs.declared.span.Span.{Span}
use Rattle.idx_core.specs.Names.{Name}
use Rattle.t_terms.specs.declared.fault.TCode.{TCode}
use Rattle.t_terms.specs.declared.fault.TCode.TheVariants.{T05}
use Rattle.t_terms.specs.Tree.{TBase, TValue, Plain, Pack, TInstr, Arith, Bnz, Mov, Unpack, Jmp}
use Rattle.t_terms.specs.Spanned.{SDatum}
use Rattle.t_text.specs.Raw.{RawBase, RReg, RNum, RLabel, RawValue, RPlain, RPack, RawInstr, RArith, RBnz, RLd, RMalloc}
use Rattle.t_text.specs.Raw.{RMov, RSt, RUnpack, RawEnd, RJmp, RHalt, RawBlock, RawDatum, RawData, RawItem, BlockItem}
use Rattle.t_text.specs.Raw.{DataItem, item_name}
use Rattle.t_text.specs.Names.{Labels, spelled, or_first, bind, type_of, types_of, base_of, value_of, instr_of, body_of}
use Rattle.t_text.specs.Names.{end_of, scope_after, scope_after_all, block_of, datum_of, data_of}
use Rattle.t_text.specs.NameFaults.{only_if, type_faults, types_faults, base_faults, value_faults, instr_faults}
use Rattle.t_text.specs.NameFaults.{body_faults, end_faults, block_faults, data_faults, item_faults}
use Rattle.t_reader.specs.Labelled.{NameTheSame}
use Rattle.t_reader.specs.Resolve.{numbered_faults}

module _ (text : List ℕ) (ls ms : Labels) (same : NameTheSame ls ms) where
  base_same : (b : RawBase) → base_of text ls b ≡ base_of text ms b
  base_same (RReg r) = refl
  base_same (RNum z) = refl
  base_same (RLabel s) = ap or_first (same (spelled text s))

  value_same : (a : List Name) (v : RawValue) → value_of text ls a v ≡ value_of text ms a v
  value_same a (RPlain b ts) = ap (λ (x : TBase). Plain x (types_of text a ts)) (base_same b)
  value_same a (RPack t v s) = ap (λ (x : TValue). Pack (type_of text a t) x (type_of text a s)) (value_same a v)

  instr_same : (a : List Name) (i : RawInstr) → instr_of text ls a i ≡ instr_of text ms a i
  instr_same a (RArith op rd rs v) = ap (Arith op rd rs) (value_same a v)
  instr_same a (RBnz r v) = ap (Bnz r) (value_same a v)
  instr_same a (RLd rd rs i) = refl
  instr_same a (RMalloc rd ts) = refl
  instr_same a (RMov rd v) = ap (Mov rd) (value_same a v)
  instr_same a (RSt rd i rs) = refl
  instr_same a (RUnpack n rd v) = ap (Unpack rd) (value_same a v)

  body_same : (a : List Name) (is : List (RawInstr × Span)) → body_of text ls a is ≡ body_of text ms a is
  body_same a [] = refl
  body_same a (i ∷ is) =
      ap₂ (λ (x : TInstr) (xs : List (TInstr × Span)). (x, i.1) ∷ xs) (instr_same a i.0)
      (body_same (scope_after text i.0 a) is)

  end_same : (a : List Name) (e : RawEnd) → end_of text ls a e ≡ end_of text ms a e
  end_same a (RJmp v) = ap Jmp (value_same a v)
  end_same a RHalt = refl

  pub block_same : (b : RawBlock) → block_of text ls b ≡ block_of text ms b
  block_same b =
      rw (
        body_same (bind text b.names []) b.body,
        end_same (scope_after_all text b.body (bind text b.names [])) b.last.0,
      ) refl

  -- and its faults
  base_faults_same : (b : RawBase) → base_faults text ls b ≡ base_faults text ms b
  base_faults_same (RReg r) = refl
  base_faults_same (RNum z) = refl
  base_faults_same (RLabel s) = ap (λ (o : Option TBase). only_if (is_none o) T05 s) (same (spelled text s))

  value_faults_same : (a : List Name) (v : RawValue) → value_faults text ls a v ≡ value_faults text ms a v
  value_faults_same a (RPlain b ts) = ap (λ (x : List (TCode × Span)). x ++ types_faults text a ts) (base_faults_same b)
  value_faults_same a (RPack t v s) =
      ap (λ (x : List (TCode × Span)). type_faults text a t ++ (x ++ type_faults text a s)) (value_faults_same a v)

  instr_faults_same : (a : List Name) (i : RawInstr) → instr_faults text ls a i ≡ instr_faults text ms a i
  instr_faults_same a (RArith op rd rs v) = value_faults_same a v
  instr_faults_same a (RBnz r v) = value_faults_same a v
  instr_faults_same a (RLd rd rs i) = refl
  instr_faults_same a (RMalloc rd ts) = refl
  instr_faults_same a (RMov rd v) = value_faults_same a v
  instr_faults_same a (RSt rd i rs) = refl
  instr_faults_same a (RUnpack n rd v) = value_faults_same a v

  body_faults_same : (a : List Name) (is : List (RawInstr × Span)) → body_faults text ls a is ≡ body_faults text ms a is
  body_faults_same a [] = refl
  body_faults_same a (i ∷ is) =
      ap₂ (λ (x y : List (TCode × Span)). x ++ y) (instr_faults_same a i.0)
      (body_faults_same (scope_after text i.0 a) is)

  end_faults_same : (a : List Name) (e : RawEnd) → end_faults text ls a e ≡ end_faults text ms a e
  end_faults_same a (RJmp v) = value_faults_same a v
  end_faults_same a RHalt = refl

  block_faults_same : (b : RawBlock) → block_faults text ls b ≡ block_faults text ms b
  block_faults_same b =
      rw (
        body_faults_same (bind text b.names []) b.body,
        end_faults_same (scope_after_all text b.body (bind text b.names [])) b.last.0,
      ) refl

  -- data tuples
  datum_same : (x : RawDatum) → datum_of text ls x ≡ datum_of text ms x
  datum_same x = rw (value_same [] x.value) refl

  data_fields_same : (xs : List RawDatum) → map (datum_of text ls) xs ≡ map (datum_of text ms) xs
  data_fields_same [] = refl
  data_fields_same (x ∷ xs) = ap₂ (λ (y : SDatum) (ys : List SDatum). y ∷ ys) (datum_same x) (data_fields_same xs)

  pub data_same : (x : RawData) → data_of text ls x ≡ data_of text ms x
  data_same x = rw (data_fields_same x.fields) refl

  data_faults_same : (xs : List RawDatum) → data_faults text ls xs ≡ data_faults text ms xs
  data_faults_same [] = refl
  data_faults_same (x ∷ xs) = rw (value_faults_same [] x.value, data_faults_same xs) refl

  item_faults_same : (x : RawItem) → item_faults text ls x ≡ item_faults text ms x
  item_faults_same (BlockItem b) = block_faults_same b
  item_faults_same (DataItem x) = data_faults_same x.fields

  pub numbered_same : (t : TBase) (x : RawItem) → numbered_faults text ls t x ≡ numbered_faults text ms t x
  numbered_same t x = rw (same (spelled text (item_name x)), item_faults_same x) refl
