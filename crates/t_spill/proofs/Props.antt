-- That a program's places are ready is a proposition.
use Rattle.std.specs.Prelude.{ℕ, List, [], ◌∷◌, length}
use Rattle.std.specs.Coded.{le_prop, Unit-prop}
use Rattle.t_types.specs.Tree.{Ty, IntTy, VarTy, CodeTy, ExistsTy, TupleTy, TFile}
use Rattle.t_types.specs.WellFormed.{well_formed_prop, regs_above_prop, types_prop}
use Rattle.t_terms.specs.Tree.{TBase, Reg, Int, Label, Data, TValue, Plain, Pack, TInstr, Arith, Bnz, Ld, Malloc}
use Rattle.t_terms.specs.Tree.{Mov, St, Unpack, TEnd, Jmp, Halt, TSeq, Then, Ends, TBlock, TProg, names_after}
use Rattle.t_terms.specs.Whole.{WellFormedBase, WellFormedValue, WellFormedInstr}
use Rattle.t_spill_rules.specs.Spill.{base_type, next}
use Rattle.t_spill.specs.Ready.{Enough, Applies, InstrApplies, ReadyInstr, ReadyEnd, Ready, BlocksReady}

base_prop : (p q : ℕ) (b : TBase) → IsProp (WellFormedBase p q b)
base_prop p q (Reg r) = hlevel le_prop
base_prop p q (Int i) = Unit-prop
base_prop p q (Label l) = le_prop
base_prop p q (Data d) = le_prop

value_prop : (p q n : ℕ) (v : TValue) → IsProp (WellFormedValue p q n v)
value_prop p q n (Plain b ts) = let x = base_prop p q b in let y = types_prop n ts in hlevel (x, y)
value_prop p q n (Pack t v s) = let x = well_formed_prop n t in let y = value_prop p q n v in let z =
    well_formed_prop n s in hlevel (x, y, z)

instr_prop : (p q n : ℕ) (i : TInstr) → IsProp (WellFormedInstr p q n i)
instr_prop p q n (Arith op rd rs v) = let x = value_prop p q n v in hlevel (le_prop, x)
instr_prop p q n (Bnz r v) = let x = value_prop p q n v in hlevel (le_prop, x)
instr_prop p q n (Ld rd rs i) = hlevel le_prop
instr_prop p q n (Malloc rd ts) = let x = types_prop n ts in hlevel (le_prop, x)
instr_prop p q n (Mov rd v) = let x = value_prop p q n v in hlevel (le_prop, x)
instr_prop p q n (St rd i rs) = hlevel le_prop
instr_prop p q n (Unpack rd v) = let x = value_prop p q n v in hlevel (le_prop, x)

enough_prop : (t : Ty) (ts : List Ty) → IsProp (Enough t ts)
enough_prop (CodeTy owes file) ts = le_prop
enough_prop IntTy ts = Unit-prop
enough_prop (VarTy i) ts = Unit-prop
enough_prop (ExistsTy t) ts = Unit-prop
enough_prop (TupleTy fs) ts = Unit-prop

applies_prop : (P : TProg) (x : TFile) (v : TValue) → IsProp (Applies P x v)
applies_prop P x (Plain b []) = Unit-prop
applies_prop P x (Plain b (u ∷ us)) = enough_prop (base_type P x b) (u ∷ us)
applies_prop P x (Pack t v s) = Unit-prop

instr_applies_prop : (P : TProg) (x : TFile) (i : TInstr) → IsProp (InstrApplies P x i)
instr_applies_prop P x (Arith op rd rs v) = applies_prop P x v
instr_applies_prop P x (Bnz r v) = applies_prop P x v
instr_applies_prop P x (Mov rd v) = applies_prop P x v
instr_applies_prop P x (Unpack rd v) = applies_prop P x v
instr_applies_prop P x _ = Unit-prop

ready_instr_prop : (P : TProg) (n : ℕ) (x : TFile) (i : TInstr) → IsProp (ReadyInstr P n x i)
ready_instr_prop P n x i =
    let a = regs_above_prop 0 n x in let b = instr_prop (length P.blocks)
    (length P.heap) n i in let c = instr_applies_prop P x i in hlevel (le_prop, a, b, c)

ready_end_prop : (P : TProg) (n : ℕ) (x : TFile) (e : TEnd) → IsProp (ReadyEnd P n x e)
ready_end_prop P n x (Jmp v) =
    let a = regs_above_prop 0 n x in let b = value_prop (length P.blocks)
    (length P.heap) n v in let c = applies_prop P x v in hlevel (le_prop, a, b, c)
ready_end_prop P n x Halt = let a = regs_above_prop 0 n x in hlevel (le_prop, a)

ready_prop : (P : TProg) (c : TSeq) (n : ℕ) (x : TFile) → IsProp (Ready P n x c)
ready_prop P (Then i c) n x = let a = ready_instr_prop P n x i in let b = ready_prop P c (names_after i n)
    (next P x i) in hlevel (a, b)
ready_prop P (Ends e) n x = ready_end_prop P n x e

pub blocks_prop : (P : TProg) (bs : List TBlock) → IsProp (BlocksReady P bs)
blocks_prop P [] = Unit-prop
blocks_prop P (b ∷ bs) =
    let a = ready_prop P b.code b.owes b.file in let d = blocks_prop P bs in hlevel (a, d)
