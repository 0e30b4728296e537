-- The text of what is spilled has at most three constructs more open than the program's types reach.
use Rattle.std.proofs.Common.{ℕ, zero, suc, ◌+◌, ◌≤◌, nat_eq, nat_lt, cond, Bool, true, false, List, [], ◌∷◌, length}
use Rattle.std.proofs.Common.{map}
use Rattle.std.proofs.Common.{Some, arith, sym, ap, subst}
use Rattle.std.specs.Prelude.{max}
use Rattle.t_types.specs.Tree.{Ty, IntTy, VarTy, CodeTy, ExistsTy, TupleTy, TFile, NoRegs, MoreRegs, TFields, NoFields}
use Rattle.t_types.specs.Tree.{MoreFields}
use Rattle.t_types.specs.Fits.{lookup}
use Rattle.t_terms.specs.Tree.{TBase, Reg, Int, Label, Data, TValue, Plain, Pack, TInstr, Arith, Bnz, Ld, Malloc, Mov}
use Rattle.t_terms.specs.Tree.{St, Unpack, Jmp, Halt, TSeq, Then, Ends, TBlock, TData, TProg}
use Rattle.t_terms.specs.Nesting.{type_nesting, regs_nesting, fields_nesting, types_nesting, value_nesting}
use Rattle.t_terms.specs.Nesting.{seq_nesting, blocks_nesting, data_nesting, heap_nesting, nesting}
use Rattle.t_terms.specs.Whole.{WellFormedBlocks, WellFormedProgram}
use Rattle.t_rules.specs.Rules.{BlocksAccepted, Accepted}
use Rattle.t_spill_rules.specs.Spill.{frame_reg, first_reg, second_reg, with_if, without_if}
use Rattle.t_spill_rules.specs.Spill.{high_part, low_part, frame, cells, split, sp, sp_regs, sp_fields, sp_value}
use Rattle.t_spill_rules.specs.Spill.{type_of}
use Rattle.t_spill_rules.specs.Spill.{target_file, next, numbers, kept, or_int, Home, Held, InFrame, InSlot, Layout}
use Rattle.t_spill_rules.specs.Spill.{homed}
use Rattle.t_spill_rules.specs.Spill.{layout, load, load_value, second_at, fill, build, defines, into, Way, Stays}
use Rattle.t_spill_rules.specs.Spill.{Holds, Fills, Gathers, way, after, slots_by, used_by, slots, fill_slot, finish}
use Rattle.t_spill_rules.specs.Spill.{target, before, does}
use Rattle.t_spill_rules.specs.Spill.{code, sp_blocks, sp_data, spilled_above}
use Rattle.t_spill_rules.proofs.HighParts.{high_regs}
use Rattle.t_spill_rules.proofs.Parts.{joined, loading, step_is}
use Rattle.t_terms.specs.Values.{InstrValues, SeqValues, BlocksValues, DataValues, HeapValues}
use Rattle.t_terms.specs.Flat.{FlatValue, Flat}
use Rattle.t_terms.specs.Reach.{type_reach, regs_reach, fields_reach, types_reach}
use Rattle.t_spill_laws.specs.Reach.{value_reach, instr_reach, seq_reach, blocks_reach, data_reach, heap_reach, reach}
use Rattle.t_spill_laws.proofs.Scopes.{scoped_regs, scoped_ascends}
use Rattle.t_spill_laws.proofs.Kept.{KeptReach, kept_reach, knows_first}

-- parts of files
high_most : (m : ℕ) (x : TFile) → regs_nesting (high_part m x) ≤ regs_nesting x
high_most m NoRegs = omega arith
high_most m (MoreRegs r t x) = go (nat_lt m r) (high_most m x)
  where
    go : (b : Bool) → regs_nesting (high_part m x) ≤ regs_nesting x →
        regs_nesting (with_if b r t (high_part m x)) ≤ regs_nesting (MoreRegs r t x)
    go true h = omega (arith, h)
    go false h = omega (arith, h)

frame_most : (x : TFile) → fields_nesting (frame x) ≤ regs_nesting x
frame_most NoRegs = omega arith
frame_most (MoreRegs r t x) = let a = frame_most x in omega (arith, a)

cells_most : (x : TFile) → types_nesting (cells x) ≤ regs_nesting x
cells_most NoRegs = omega arith
cells_most (MoreRegs r t x) = let a = cells_most x in omega (arith, a)

low_most : (m : ℕ) (x y : TFile) → regs_nesting (low_part m x y) ≤ max (regs_nesting x) (regs_nesting y)
low_most m NoRegs y = omega arith
low_most m (MoreRegs r t x) y = go (nat_lt m r) (low_most m x y)
  where
    go : (b : Bool) → regs_nesting (low_part m x y) ≤ max (regs_nesting x) (regs_nesting y) →
        regs_nesting (without_if b r t (low_part m x y)) ≤ max (regs_nesting (MoreRegs r t x)) (regs_nesting y)
    go true h = omega (arith, h)
    go false h = omega (arith, h)

split_most : (m : ℕ) (x : TFile) → regs_nesting (split m x) ≤ 1 + regs_nesting x
split_most m x =
    let a = low_most m x (MoreRegs (frame_reg m) (TupleTy (frame (high_part m x))) NoRegs) in
    let b = frame_most (high_part m x) in
    let c = high_most m x in
    omega (arith, a, b, c)

mutual
  type_most : (m : ℕ) (t : Ty) → type_nesting (sp m t) ≤ type_reach t
  type_most m IntTy = omega arith
  type_most m (VarTy i) = omega arith
  type_most m (CodeTy owes file) = let a = split_most m (sp_regs m file) in let b = regs_most m file in
      omega (arith, a, b)
  type_most m (ExistsTy t) = let a = type_most m t in omega (arith, a)
  type_most m (TupleTy fields) = let a = fields_most m fields in omega (arith, a)

  regs_most : (m : ℕ) (x : TFile) → regs_nesting (sp_regs m x) ≤ regs_reach x
  regs_most m NoRegs = omega arith
  regs_most m (MoreRegs r t x) = let a = type_most m t in let b = regs_most m x in omega (arith, a, b)

  fields_most : (m : ℕ) (x : TFields) → fields_nesting (sp_fields m x) ≤ fields_reach x
  fields_most m NoFields = omega arith
  fields_most m (MoreFields t flag x) = let a = type_most m t in let b = fields_most m x in omega (arith, a, b)

types_most : (m : ℕ) (ts : List Ty) → types_nesting (map (sp m) ts) ≤ types_reach ts
types_most m [] = omega arith
types_most m (t ∷ ts) = let a = type_most m t in let b = types_most m ts in omega (arith, a, b)

high_cells : (m : ℕ) (x : TFile) → types_nesting (cells (sp_regs m (high_part m x))) ≤ regs_reach x
high_cells m x =
    let a = cells_most (sp_regs m (high_part m x)) in
    let b = high_most m (sp_regs m x) in
    let c = regs_most m x in
    let e = ap regs_nesting (high_regs m m x) in
    omega (arith, a, b, c, e)

plain_most : (m : ℕ) (at : ℕ → ℕ) (b : TBase) (ts : List Ty) →
    value_nesting (sp_value m at (Plain b ts)) ≤ 1 + types_reach ts
plain_most m at b [] = omega arith
plain_most m at b (t ∷ ts) = let a = types_most m (t ∷ ts) in omega (arith, a)

value_most : (m : ℕ) (at : ℕ → ℕ) (v : TValue) → FlatValue v → value_nesting (sp_value m at v) ≤ value_reach v + 2
value_most m at (Plain b ts) h = let a = plain_most m at b ts in omega (arith, a)
value_most m at (Pack t (Plain b ts) s) h =
    let a = type_most m t in let c = plain_most m at b ts in let d = type_most m s in omega (arith, a, c, d)
value_most m at (Pack t (Pack u v w) s) h = absurd h

target_most : (t : Ty) → regs_reach (target_file t) ≤ type_reach t
target_most IntTy = omega arith
target_most (VarTy i) = omega arith
target_most (CodeTy owes file) = omega arith
target_most (ExistsTy t) = omega arith
target_most (TupleTy fs) = omega arith

reach_target : (P : TProg) (x : TFile) (i : TInstr) → regs_reach (target P x i) ≤ instr_reach P x i
reach_target P x (Bnz r v) = let t = target_most (type_of P x v) in omega (arith, t)
reach_target P x _ = omega arith

-- the types of slots
look_most : (x : TFile) (r : ℕ) → type_reach (or_int (lookup x r)) ≤ regs_reach x
look_most NoRegs r = omega arith
look_most (MoreRegs q t x) r = go (nat_eq q r) (look_most x r)
  where
    go : (b : Bool) → type_reach (or_int (lookup x r)) ≤ regs_reach x →
        type_reach (or_int (cond b (Some t) (lookup x r))) ≤ regs_reach (MoreRegs q t x)
    go true h = omega arith
    go false h = omega (arith, h)

by_most : (n : ℕ) (w : Way) (t : Ty) (ts : List Ty) → type_nesting t ≤ n → types_nesting ts ≤ n →
    types_nesting (slots_by w t ts) ≤ n
by_most n Stays t ts h l = l
by_most n Holds t ts h l = l
by_most n Fills t ts h l = omega (arith, h, l)
by_most n Gathers t ts h l = omega arith

slots_most : (m k : ℕ) (P : TProg) (c : TSeq) (used : ℕ) (x : TFile) → KeptReach P k x c →
    types_nesting (slots m P used x c) ≤ k
slots_most m k P (Then i c) used x h =
    let t : Ty = or_int (lookup (next P x i) (defines i)) in
    let a = type_most m (or_int (lookup (next P x i) (defines i))) in
    let b = look_most (next P x i) (defines i) in
    let rest = slots_most m k P c (used_by (way m used i c) used) (kept P x i c) h.3 in
    by_most k (way m used i c) (sp m (or_int (lookup (next P x i) (defines i)))) _ (omega (arith, a, b, h.2)) rest
slots_most m k P (Ends e) used x h = omega arith

module _ (n : ℕ) (some : 2 ≤ n) (m : ℕ) where
  load_most : (t : ℕ) (x : Home) (rest : TSeq) → seq_nesting rest ≤ n → seq_nesting (before (load m t x) rest) ≤ n
  load_most t (Held q) rest h = h
  load_most t (InFrame i) rest h = omega (arith, h, some)
  load_most t (InSlot i) rest h = omega (arith, h, some)

  load_value_most : (homes : ℕ → Home) (v : TValue) (rest : TSeq) → seq_nesting rest ≤ n →
      seq_nesting (before (load_value m homes v) rest) ≤ n
  load_value_most homes (Plain (Reg r) ts) rest h = load_most (second_reg m) (homes r) rest h
  load_value_most homes (Plain (Int i) ts) rest h = h
  load_value_most homes (Plain (Label l) ts) rest h = h
  load_value_most homes (Plain (Data d) ts) rest h = h
  load_value_most homes (Pack t v s) rest h = load_value_most homes v rest h

  fill_most : (homes : ℕ → Home) (qs : List ℕ) (j : ℕ) (rest : TSeq) → seq_nesting rest ≤ n →
      seq_nesting (before (fill m homes qs j) rest) ≤ n
  fill_most homes [] j rest h = h
  fill_most homes (q ∷ qs) j rest h =
      let b = fill_most homes qs (suc j) rest h in
      joined (λ c. seq_nesting c ≤ n) (load m (second_reg m) (homes q)) _ rest
      (load_most (second_reg m) (homes q) _ (omega (arith, b, some)))

  build_most : (homes : ℕ → Home) (to : TFile) (rest : TSeq) → regs_reach to + 1 ≤ n → seq_nesting rest ≤ n →
      seq_nesting (before (build m homes (high_part m to)) rest) ≤ n
  build_most homes to rest le h =
      let a = high_cells m to in let b = fill_most homes (numbers (high_part m to)) 0 rest h in omega (arith, a, b, le)

  slot_most : (used : ℕ) (ts : List Ty) (rest : TSeq) → types_nesting ts + 1 ≤ n → seq_nesting rest ≤ n →
      seq_nesting (before (fill_slot m used ts) rest) ≤ n
  slot_most zero ts rest le h = omega (arith, le, h, some)
  slot_most (suc j) ts rest le h = omega (arith, h, some)

  finish_most : (L : Layout) (rd : ℕ) (ts : List Ty) (to : TFile) (w : Way) (rest : TSeq) → types_nesting ts + 1 ≤ n →
      regs_reach to + 1 ≤ n → seq_nesting rest ≤ n → seq_nesting (before (finish m L rd ts to w) rest) ≤ n
  finish_most L rd ts to Stays rest ht nx h = h
  finish_most L rd ts to Holds rest ht nx h = h
  finish_most L rd ts to Fills rest ht nx h = slot_most L.used ts rest ht h
  finish_most L rd ts to Gathers rest ht nx h =
      let homes = homed L.homes rd (Held (into m rd)) in
      joined (λ c. seq_nesting c ≤ n) (build m homes (high_part m to)) _ rest
      (build_most homes to _ nx (omega (arith, h)))

  loading_most : (homes : ℕ → Home) (to : TFile) (i : TInstr) (rest : TSeq) → regs_reach to + 1 ≤ n →
      seq_nesting rest ≤ n → seq_nesting (loading m homes (high_part m to) i rest) ≤ n
  loading_most homes to (Arith op rd rs v) rest le h =
      load_most (first_reg m) (homes rs) _ (load_value_most homes v rest h)
  loading_most homes to (Bnz r v) rest le h =
      build_most homes to _ le (load_most (first_reg m) (homes r) _ (load_value_most homes v rest h))
  loading_most homes to (Ld rd rs i) rest le h = load_most (first_reg m) (homes rs) rest h
  loading_most homes to (Malloc rd us) rest le h = h
  loading_most homes to (Mov rd v) rest le h = load_value_most homes v rest h
  loading_most homes to (St rd i rs) rest le h =
      load_most (first_reg m) (homes rd) _ (load_most (second_reg m) (homes rs) rest h)
  loading_most homes to (Unpack rd v) rest le h = load_value_most homes v rest h

  does_most : (P : TProg) (x : TFile) (homes : ℕ → Home) (i : TInstr) (rest : TSeq) → InstrValues FlatValue i →
      instr_reach P x i + 2 ≤ n → seq_nesting rest ≤ n → seq_nesting (before (does m homes i) rest) ≤ n
  does_most P x homes (Arith op rd rs v) rest f le h =
      let a = value_most m (second_at m homes) v f in omega (arith, a, h, le)
  does_most P x homes (Bnz r v) rest f le h =
      let a = value_most m (second_at m homes) v f in omega (arith, a, h, le)
  does_most P x homes (Ld rd rs i) rest f le h = omega (arith, h, some)
  does_most P x homes (Malloc rd us) rest f le h = let a = types_most m us in omega (arith, a, h, le)
  does_most P x homes (Mov rd v) rest f le h =
      let a = value_most m (second_at m homes) v f in omega (arith, a, h, le)
  does_most P x homes (St rd i rs) rest f le h = omega (arith, h, some)
  does_most P x homes (Unpack rd v) rest f le h =
      let a = value_most m (second_at m homes) v f in omega (arith, a, h, le, some)

  code_most : (P : TProg) (k : ℕ) (c : TSeq) (L : Layout) (x : TFile) → k + 2 ≤ n → SeqValues FlatValue c →
      KeptReach P k x c →
      seq_nesting (code m P L x c) ≤ n
  code_most P k (Then i c) L x le f h =
      let s = slots_most m k P (Then i c) L.used x h in
      let t = reach_target P x i in
      subst (λ d. seq_nesting d ≤ n) (sym (step_is m P L x i c _))
      (loading_most L.homes (target P x i) i _ (omega (arith, t, h.0, le))
      (does_most P x L.homes i _ f.0 (omega (arith, h.0, le))
      (finish_most L (defines i) (slots m P L.used x (Then i c)) (kept P x i c) (way m L.used i c) _
      (omega (arith, s, le)) (omega (arith, h.1, le))
      (code_most P k c (after m L i c (kept P x i c)) (kept P x i c) le f.1 h.3))))
  code_most P k (Ends (Jmp v)) L x le f h =
      let a = value_most m (second_at m L.homes) v f in
      let t = target_most (type_of P x v) in
      build_most L.homes (target_file (type_of P x v)) _ (omega (arith, t, le, h))
      (load_value_most L.homes v _ (omega (arith, a, le, h)))
  code_most P k (Ends Halt) L x le f h = omega (arith, some)

  blocks_most : (P : TProg) (p q : ℕ) (bs : List TBlock) → WellFormedBlocks p q bs → BlocksAccepted P bs →
      BlocksValues FlatValue bs → blocks_reach P bs + 2 ≤ n → blocks_nesting (sp_blocks m P bs) ≤ n
  blocks_most P p q [] w k f le = omega arith
  blocks_most P p q (b ∷ bs) w k f le =
      let a = split_most m (sp_regs m b.file) in
      let a2 = regs_most m b.file in
      let knows = knows_first P b.owes b.file b.code (scoped_ascends b.owes b.file (scoped_regs 0 b.owes b.file w.0.1))
      k.0.1 in
      let h = kept_reach P (seq_reach P b.file b.code) b.code b.owes b.file b.file knows (omega arith) in
      let c = code_most P (seq_reach P b.file b.code) b.code (layout m b.file) b.file (omega (arith, le)) f.0 h in
      let d = blocks_most P p q bs w.1 k.1 f.1 (omega (arith, le)) in
      omega (arith, a, a2, c, d, le)

  data_most : (P : TProg) (xs : TData) → DataValues FlatValue xs → data_reach P xs + 2 ≤ n →
      data_nesting (sp_data m xs) ≤ n
  data_most P [] f le = omega arith
  data_most P (x ∷ xs) f le =
      let a = value_most m (λ r. 1) x.value f.0 in
      let b = type_most m x.ty in
      let c = data_most P xs f.1 (omega (arith, le)) in
      omega (arith, a, b, c, le)

heap_most : (n m : ℕ) (P : TProg) (hs : List TData) → HeapValues FlatValue hs → heap_reach P hs + 3 ≤ n →
    heap_nesting (map (sp_data m) hs) ≤ n
heap_most n m P [] f le = omega arith
heap_most n m P (x ∷ hs) f le =
    let a = data_most (data_reach P x + 2) (omega arith) m P x f.0 (omega arith) in
    let b = heap_most n m P hs f.1 (omega (arith, le)) in
    omega (arith, a, b)

pub reached : (m : ℕ) (P : TProg) → WellFormedProgram P → Accepted P → Flat P →
    nesting (spilled_above m P) ≤ reach P + 3
reached m P w k f =
    let a = blocks_most (reach P + 2) (omega arith) m P (length P.blocks) (length P.heap) P.blocks w.1 k.2 f.0
    (omega arith) in
    let b = heap_most (reach P + 3) m P P.heap f.1 (omega arith) in
    omega (arith, a, b)

pub within_twenty : (m : ℕ) (P : TProg) → WellFormedProgram P → Accepted P → Flat P →
    nesting (spilled_above m P) ≤ reach P + 20
within_twenty m P w k f = let a = reached m P w k f in omega (arith, a)
