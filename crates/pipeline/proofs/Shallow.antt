-- The text of a program nests as deep as its types, and two or three constructs more.
use Rattle.std.proofs.Common.{◌≡◌, ℕ, ◌+◌, ◌≤◌, List, [], ◌∷◌, ap, sym, arith}
use Rattle.t_types.specs.Tree.{Ty, IntTy, VarTy, CodeTy, ExistsTy, TupleTy, TFile, NoRegs, MoreRegs, TFields, NoFields}
use Rattle.t_types.specs.Tree.{MoreFields}
use Rattle.t_types.specs.Fits.{RegTypes, lookup}
use Rattle.t_terms.specs.Tree.{TValue, Plain, Pack, TInstr, Arith, Bnz, Ld, Malloc, Mov, St, Unpack, TEnd, Jmp, Halt}
use Rattle.t_terms.specs.Tree.{TSeq, Then, Ends, TBlock, TData, TProg, names_after}
use Rattle.t_terms.specs.Nesting.{type_nesting, regs_nesting, fields_nesting, types_nesting, value_nesting}
use Rattle.t_terms.specs.Nesting.{instr_nesting, end_nesting, seq_nesting, blocks_nesting, data_nesting, heap_nesting}
use Rattle.t_terms.specs.Nesting.{nesting}
use Rattle.t_terms.specs.Values.{InstrValues, EndValues, SeqValues, BlocksValues, DataValues, HeapValues}
use Rattle.t_terms.specs.Flat.{NoPack, FlatValue, Flat}
use Rattle.t_terms.specs.Reach.{type_reach, regs_reach, fields_reach}
use Rattle.t_gen_laws.specs.TypesEach.{TWithin, AllTypes, FileTypes, HasEach, InstrEach, EndEach, SeqEach, BlocksEach}
use Rattle.t_gen_laws.specs.TypesEach.{DataEach, HeapEach, TypesEach}

mutual
  of_type : (t : Ty) → type_nesting t ≤ type_reach t
  of_type IntTy = omega arith
  of_type (VarTy i) = omega arith
  of_type (CodeTy n f) = let x = of_file f in omega (arith, x)
  of_type (ExistsTy t) = let x = of_type t in omega (arith, x)
  of_type (TupleTy fs) = let x = of_fields fs in omega (arith, x)

  of_file : (f : TFile) → regs_nesting f ≤ regs_reach f
  of_file NoRegs = omega arith
  of_file (MoreRegs r t f) = let x = of_type t in let y = of_file f in omega (arith, x, y)

  of_fields : (fs : TFields) → fields_nesting fs ≤ fields_reach fs
  of_fields NoFields = omega arith
  of_fields (MoreFields t f fs) = let x = of_type t in let y = of_fields fs in omega (arith, x, y)

module _ (N R B : ℕ) where
  of_types : (n : ℕ) (ts : List Ty) → AllTypes (TWithin N R B) n ts → types_nesting ts ≤ R
  of_types n [] h = omega arith
  of_types n (t ∷ ts) h = let x = of_type t in let y = of_types n ts h.1 in omega (arith, x, y, h.0.1)

  of_regs : (n : ℕ) (f : TFile) → FileTypes (TWithin N R B) n f → regs_nesting f ≤ R
  of_regs n NoRegs h = omega arith
  of_regs n (MoreRegs r t f) h = let x = of_type t in let y = of_regs n f h.1 in omega (arith, x, y, h.0.1)

  module _ (P : TProg) where
    of_plain : (n : ℕ) (g : RegTypes) (v : TValue) (t : Ty) → NoPack v → HasEach (TWithin N R B) P n g v t →
        value_nesting v ≤ R + 1
    of_plain n g (Plain b []) t f h = omega arith
    of_plain n g (Plain b (u ∷ us)) t f h = let x = of_types n (u ∷ us) h.1.4 in omega (arith, x)
    of_plain n g (Pack h v s) t f e = absurd f

    of_value : (n : ℕ) (g : RegTypes) (v : TValue) (t : Ty) → FlatValue v → HasEach (TWithin N R B) P n g v t →
        value_nesting v ≤ R + 2
    of_value n g (Plain b ts) t f h = let x = of_plain n g (Plain b ts) t tt h in omega (arith, x)
    of_value n g (Pack u v s) t f h =
        let x = of_plain n g v h.1.0 f h.1.1 in
        let y = of_type u in
        let z = of_type t in
        let same : type_nesting s ≡ type_nesting t = ap type_nesting (sym h.0.5) in
        omega (arith, x, y, z, same, h.1.2.1, h.1.3.1)

    of_instr : (n : ℕ) (g : RegTypes) (i : TInstr) → InstrValues FlatValue i → InstrEach (TWithin N R B) P n g i →
        instr_nesting i ≤ R + 2
    of_instr n g (Arith op rd rs v) f h = of_value n g v IntTy f h
    of_instr n g (Bnz r v) f h = of_value n g v (CodeTy 0 h.0) f h.1
    of_instr n g (Ld rd rs i) f h = omega arith
    of_instr n g (Malloc rd ts) f h = let x = of_types n ts h.0 in omega (arith, x)
    of_instr n g (Mov rd v) f h = of_value n g v h.0 f h.1
    of_instr n g (St rd i rs) f h = omega arith
    of_instr n g (Unpack rd v) f h = let x = of_value n g v (ExistsTy h.0) f h.1 in omega (arith, x)

    of_end : (n : ℕ) (g : RegTypes) (e : TEnd) → EndValues FlatValue e → EndEach (TWithin N R B) P n g e →
        end_nesting e ≤ R + 2
    of_end n g (Jmp v) f h = of_value n g v (CodeTy 0 h.0) f h.1
    of_end n g Halt f h = omega arith

    of_seq : (c : TSeq) (n : ℕ) (g : RegTypes) → SeqValues FlatValue c → SeqEach (TWithin N R B) P n g c →
        seq_nesting c ≤ R + 2
    of_seq (Then i rest) n g f h =
        let x = of_instr n g i f.0 h.2 in let y = of_seq rest (names_after i n) h.0 f.1 h.3 in omega (arith, x, y)
    of_seq (Ends e) n g f h = of_end n g e f h.1

    of_blocks : (bs : List TBlock) → BlocksValues FlatValue bs → BlocksEach (TWithin N R B) P bs →
        blocks_nesting bs ≤ R + 2
    of_blocks [] f h = omega arith
    of_blocks (b ∷ bs) f h =
        let x = of_regs b.owes b.file h.0.0 in
        let y = of_seq b.code b.owes (lookup b.file) f.0 h.0.1 in
        let z = of_blocks bs f.1 h.1 in
        omega (arith, x, y, z)

    of_data : (xs : TData) → DataValues FlatValue xs → DataEach (TWithin N R B) P xs → data_nesting xs ≤ R + 2
    of_data [] f h = omega arith
    of_data (x ∷ xs) f h =
        let a = of_value 0 _ x.value h.0.1.0 f.0 h.0.1.1 in
        let b = of_type x.ty in
        let c = of_data xs f.1 h.1 in
        omega (arith, a, b, c, h.0.0.1)

    of_heap : (xs : List TData) → HeapValues FlatValue xs → HeapEach (TWithin N R B) P xs → heap_nesting xs ≤ R + 3
    of_heap [] f h = omega arith
    of_heap (x ∷ xs) f h = let a = of_data x f.0 h.0 in let b = of_heap xs f.1 h.1 in omega (arith, a, b)

    -- where no package holds a package
    pub shallow : Flat P → TypesEach (TWithin N R B) P → nesting P ≤ R + 3
    shallow f h = let x = of_blocks P.blocks f.0 h.0 in let y = of_heap P.heap f.1 h.1 in omega (arith, x, y)
