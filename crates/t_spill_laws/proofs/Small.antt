-- Programs with few registers, as they are; and the whole theorem.
use Rattle.std.proofs.Common.{ℕ, ◌+◌, ◌≤◌, List, [], ◌∷◌, arith}
use Rattle.t_types.specs.Tree.{Ty, IntTy, VarTy, CodeTy, ExistsTy, TupleTy, TFile, NoRegs, MoreRegs, TFields, NoFields}
use Rattle.t_types.specs.Tree.{MoreFields}
use Rattle.t_terms.specs.Tree.{TBase, TValue, Plain, Pack, TInstr, Arith, Bnz, Ld, Malloc, Mov, St, Unpack, Jmp, Halt}
use Rattle.t_terms.specs.Tree.{TSeq, Then, Ends, TBlock, TData, TProg}
use Rattle.t_terms.specs.Whole.{WellFormedProgram}
use Rattle.t_rules.specs.Rules.{Accepted}
use Rattle.t_rules.specs.Machine.{State, Place, Spot, After}
use Rattle.t_rules.specs.Times.{places, Times, Entries}
use Rattle.t_terms.specs.Nesting.{type_nesting, regs_nesting, fields_nesting, types_nesting, value_nesting}
use Rattle.t_terms.specs.Nesting.{instr_nesting, seq_nesting, blocks_nesting, data_nesting, heap_nesting, nesting}
use Rattle.t_spill_rules.specs.Spill.{next, lows, spilled, TypesFew}
use Rattle.t_spill_laws.specs.Bound.{RegistersUpTo}
use Rattle.t_spill_laws.specs.Bounded.{Spills}
use Rattle.t_spill_laws.specs.Correct.{times_in, CountsKept, origin}
use Rattle.t_terms.specs.Values.{InstrValues, SeqValues, BlocksValues, DataValues, HeapValues}
use Rattle.t_terms.specs.Flat.{FlatValue, Flat}
use Rattle.t_terms.specs.Reach.{type_reach, regs_reach, fields_reach, types_reach}
use Rattle.t_spill_laws.specs.Reach.{value_reach, instr_reach, seq_reach, blocks_reach, data_reach, heap_reach, reach}
use Rattle.t_spill_laws.proofs.Standing.{standing_within_entries}
use Rattle.t_spill_laws.proofs.Typed.{kept_types}
use Rattle.t_spill_laws.proofs.Lows.{one_low, six_more, six_fit}
use Rattle.t_spill_laws.proofs.Wholes.{whole}
use Rattle.t_spill_laws.proofs.Few.{few_registers}
use Rattle.t_spill_laws.proofs.Meaning.{forth, back}
use Rattle.t_spill_laws.proofs.Visits.{cnt_is, counts_kept}
use Rattle.t_spill_laws.proofs.Reached.{within_twenty}

-- nesting within reach
mutual
  type_most : (t : Ty) → type_nesting t ≤ type_reach t
  type_most IntTy = omega arith
  type_most (VarTy i) = omega arith
  type_most (CodeTy owes file) = let a = regs_most file in omega (arith, a)
  type_most (ExistsTy t) = let a = type_most t in omega (arith, a)
  type_most (TupleTy fields) = let a = fields_most fields in omega (arith, a)

  regs_most : (x : TFile) → regs_nesting x ≤ regs_reach x
  regs_most NoRegs = omega arith
  regs_most (MoreRegs r t x) = let a = type_most t in let b = regs_most x in omega (arith, a, b)

  fields_most : (x : TFields) → fields_nesting x ≤ fields_reach x
  fields_most NoFields = omega arith
  fields_most (MoreFields t flag x) = let a = type_most t in let b = fields_most x in omega (arith, a, b)

types_most : (ts : List Ty) → types_nesting ts ≤ types_reach ts
types_most [] = omega arith
types_most (t ∷ ts) = let a = type_most t in let b = types_most ts in omega (arith, a, b)

plain_most : (b : TBase) (ts : List Ty) → value_nesting (Plain b ts) ≤ 1 + types_reach ts
plain_most b [] = omega arith
plain_most b (t ∷ ts) = let a = types_most (t ∷ ts) in omega (arith, a)

value_most : (v : TValue) → FlatValue v → value_nesting v ≤ value_reach v + 2
value_most (Plain b ts) h = let a = plain_most b ts in omega (arith, a)
value_most (Pack t (Plain b ts) s) h = let a = type_most t in let c = plain_most b ts in let d = type_most s in
    omega (arith, a, c, d)
value_most (Pack t (Pack u v w) s) h = absurd h

instr_most : (P : TProg) (x : TFile) (i : TInstr) → InstrValues FlatValue i → instr_nesting i ≤ instr_reach P x i + 2
instr_most P x (Arith op rd rs v) f = let a = value_most v f in omega (arith, a)
instr_most P x (Bnz r v) f = let a = value_most v f in omega (arith, a)
instr_most P x (Ld rd rs i) f = omega arith
instr_most P x (Malloc rd ts) f = let a = types_most ts in omega (arith, a)
instr_most P x (Mov rd v) f = let a = value_most v f in omega (arith, a)
instr_most P x (St rd i rs) f = omega arith
instr_most P x (Unpack rd v) f = let a = value_most v f in omega (arith, a)

seq_most : (P : TProg) (c : TSeq) (x : TFile) → SeqValues FlatValue c → seq_nesting c ≤ seq_reach P x c + 2
seq_most P (Then i c) x f = let a = instr_most P x i f.0 in let b = seq_most P c (next P x i) f.1 in
    omega (arith, a, b)
seq_most P (Ends (Jmp v)) x f = let a = value_most v f in omega (arith, a)
seq_most P (Ends Halt) x f = omega arith

blocks_most : (P : TProg) (bs : List TBlock) → BlocksValues FlatValue bs → blocks_nesting bs ≤ blocks_reach P bs + 2
blocks_most P [] f = omega arith
blocks_most P (b ∷ bs) f =
    let a = regs_most b.file in let c = seq_most P b.code b.file f.0 in let d = blocks_most P bs f.1 in
    omega (arith, a, c, d)

data_most : (P : TProg) (xs : TData) → DataValues FlatValue xs → data_nesting xs ≤ data_reach P xs + 2
data_most P [] f = omega arith
data_most P (x ∷ xs) f =
    let a = value_most x.value f.0 in let b = type_most x.ty in let c = data_most P xs f.1 in omega (arith, a, b, c)

heap_most : (P : TProg) (hs : List TData) → HeapValues FlatValue hs → heap_nesting hs ≤ heap_reach P hs + 3
heap_most P [] f = omega arith
heap_most P (x ∷ hs) f = let a = data_most P x f.0 in let b = heap_most P hs f.1 in omega (arith, a, b)

whole_most : (P : TProg) → Flat P → nesting P ≤ reach P + 3
whole_most P f = let a = blocks_most P P.blocks f.0 in let b = heap_most P P.heap f.1 in omega (arith, a, b)

-- as it is
same_counts : (P : TProg) → CountsKept P P (λ p. p)
same_counts P = record {
  from_place = λ p h. h;
  counts = λ m s p run. (
    m,
    s,
    p,
    run,
    λ b i. let x = cnt_is b i (places P m s p run) in
        let y = cnt_is b i (p ∷ places P m s p run) in omega (arith, x, y),
  );
}

pub same : (k : ℕ) (P : TProg) → WellFormedProgram P → Accepted P → RegistersUpTo k P → Spills k P P (λ p. p)
same k P w a few = record {
  accepted = a;
  whole = w;
  few = few;
  alike = record { forth = λ i h. h; back = λ n i h. h };
  counts = same_counts P;
  shallow = λ f. let x = whole_most P f in omega (arith, x);
}

pub framed : (k : ℕ) (P : TProg) → 8 ≤ k → WellFormedProgram P → Accepted P → TypesFew P →
    Spills k P (spilled k P) (origin k P)
framed k P most w a f =
    record {
      accepted = kept_types (lows k) P (one_low k most) w a;
      whole = whole (lows k) P (six_fit k most) w a f;
      few = few_registers k (lows k) (six_more k most) P;
      alike = record {
        forth = forth (lows k) (one_low k most) P w a (whole (lows k) P (six_fit k most) w a f);
        back = back (lows k) (one_low k most) P w a (whole (lows k) P (six_fit k most) w a f);
      };
      counts = counts_kept (lows k) (one_low k most) P w a (whole (lows k) P (six_fit k most) w a f);
      shallow = within_twenty (lows k) P w a;
    }

-- where no block of the program is entered more than n times, no place is executed more than n times
pub within_entries : (P Q : TProg) (from : Place → Place) → CountsKept P Q from → (n : ℕ) →
    ((m : ℕ) (s : State) (p : Place) (run : After P m s p) (b : ℕ) → Entries P m s p run b ≤ n) →
    (m2 : ℕ) (s2 : State) (p2 : Place) (run2 : After Q m2 s2 p2) (b i : ℕ) → Times Q m2 s2 p2 run2 b i ≤ n
within_entries P Q from k n h m2 s2 p2 run2 b i =
    let c = k.counts m2 s2 p2 run2 in
    let x = c.4 b i in
    let y = at (from (Spot b i)) c.0 c.1 c.2 c.3 in
    omega (arith, x, y)
  where
    at : (q : Place) (m : ℕ) (s : State) (p : Place) (run : After P m s p) → times_in q (p ∷ places P m s p run) ≤ n
    at (Spot c j) m s p run = let x = standing_within_entries P m s p run c j in let y = h m s p run c in
        omega (arith, x, y)
