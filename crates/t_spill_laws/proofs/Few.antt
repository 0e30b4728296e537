-- No register of what is spilled is above the bound.
use Rattle.std.proofs.Common.{◌≡◌, ℕ, zero, suc, ◌+◌, ◌<◌, ◌≤◌, nat_lt, Bool, true, false, List, [], ◌∷◌, map, refl}
use Rattle.std.proofs.Common.{sym, subst}
use Rattle.std.proofs.Common.{◌∙◌, arith, inl, inr, ◌⊎◌}
use Rattle.std.proofs.lemmas.Bool.{cases_lt, lt-ltb}
use Rattle.t_types.specs.Tree.{Ty, IntTy, VarTy, CodeTy, ExistsTy, TupleTy, TFile, NoRegs, MoreRegs, TFields, NoFields}
use Rattle.t_types.specs.Tree.{MoreFields}
use Rattle.t_types.specs.Fits.{lookup}
use Rattle.t_terms.specs.Tree.{Reg, Int, Label, Data, TValue, Plain, Pack, TInstr, Arith, Bnz, Ld, Malloc, Mov, St}
use Rattle.t_terms.specs.Tree.{Unpack}
use Rattle.t_terms.specs.Tree.{Jmp, Halt, TSeq, Then, Ends, TBlock, TData, TProg}
use Rattle.t_spill_rules.specs.Spill.{frame_reg, first_reg, second_reg, with_if, without_if}
use Rattle.t_spill_rules.specs.Spill.{high_part, low_part, frame, cells, split, sp, sp_regs, sp_fields, sp_value}
use Rattle.t_spill_rules.specs.Spill.{type_of}
use Rattle.t_spill_rules.specs.Spill.{target_file, next, numbers, kept, or_int, Home, Held, InFrame, InSlot, Layout}
use Rattle.t_spill_rules.specs.Spill.{homed}
use Rattle.t_spill_rules.specs.Spill.{layout}
use Rattle.t_spill_rules.specs.Spill.{at_home, load, load_value, second_at, fill, build, defines, into, Way, Stays}
use Rattle.t_spill_rules.specs.Spill.{Holds, Fills}
use Rattle.t_spill_rules.specs.Spill.{Gathers, way, after, slots_by, used_by, slots, fill_slot, finish}
use Rattle.t_spill_rules.specs.Spill.{target, before, does, code}
use Rattle.t_spill_rules.specs.Spill.{sp_blocks, sp_data, spilled_above}
use Rattle.t_spill_rules.proofs.Parts.{joined, loading, step_is}
use Rattle.t_spill_laws.specs.Bound.{InType, InFile, InFields, InTypes, InValue, InSeq, InBlocks, InData, InHeap}
use Rattle.t_spill_laws.specs.Bound.{RegistersUpTo}
use Rattle.t_spill_laws.proofs.Homes.{Loose, UpTo, regular_loose, loose_up, homed_loose, into_most}
use Rattle.t_spill_laws.proofs.Homes.{gathered_regular, way_loose}
use Rattle.t_spill_laws.proofs.Erased.{highs}

module _ (k m : ℕ) (most : m + 6 ≤ k) where
  -- each type of a file
  abbrev Each : TFile → Type 0
  Each NoRegs = Unit {0}
  Each (MoreRegs r t x) = InType k t × Each x

  each_high : (x : TFile) → Each x → Each (high_part m x)
  each_high NoRegs h = tt
  each_high (MoreRegs r t x) h = go (nat_lt m r) (each_high x h.1)
    where
      go : (b : Bool) → Each (high_part m x) → Each (with_if b r t (high_part m x))
      go true z = (h.0, z)
      go false z = z

  in_frame : (x : TFile) → Each x → InFields k (frame x)
  in_frame NoRegs h = tt
  in_frame (MoreRegs r t x) h = (h.0, in_frame x h.1)

  in_cells : (x : TFile) → Each x → InTypes k (cells x)
  in_cells NoRegs h = tt
  in_cells (MoreRegs r t x) h = (h.0, in_cells x h.1)

  in_low : (x y : TFile) → Each x → InFile k y → InFile k (low_part m x y)
  in_low NoRegs y h l = l
  in_low (MoreRegs r t x) y h l = go (nat_lt m r) refl (in_low x y h.1 l)
    where
      go : (b : Bool) → nat_lt m r ≡ b → InFile k (low_part m x y) → InFile k (without_if b r t (low_part m x y))
      go true e z = z
      go false e z = (below (cases_lt m r), h.0, z)
        where
          below : (m < r) ⊎ (r ≤ m) → r ≤ k
          below (inl a) = let w : false ≡ true = sym e ∙ lt-ltb m r a in cc
          below (inr a) = omega (arith, most)

  in_split : (x : TFile) → Each x → InFile k (split m x)
  in_split x h =
      in_low x (MoreRegs (frame_reg m) (TupleTy (frame (high_part m x))) NoRegs) h
      (omega (arith, most), in_frame (high_part m x) (each_high x h), tt)

  mutual
    in_type : (t : Ty) → InType k (sp m t)
    in_type IntTy = tt
    in_type (VarTy i) = tt
    in_type (CodeTy owes file) = in_split (sp_regs m file) (in_regs file)
    in_type (ExistsTy t) = in_type t
    in_type (TupleTy fields) = in_fields fields

    in_regs : (x : TFile) → Each (sp_regs m x)
    in_regs NoRegs = tt
    in_regs (MoreRegs r t x) = (in_type t, in_regs x)

    in_fields : (x : TFields) → InFields k (sp_fields m x)
    in_fields NoFields = tt
    in_fields (MoreFields t flag x) = (in_type t, in_fields x)

  in_types : (ts : List Ty) → InTypes k (map (sp m) ts)
  in_types [] = tt
  in_types (t ∷ ts) = (in_type t, in_types ts)

  -- values, where the registers in which words stand are known
  in_value : (at : ℕ → ℕ) (v : TValue) → ((r : ℕ) → at r ≤ k) → InValue k (sp_value m at v)
  in_value at (Plain (Reg r) ts) h = (h r, in_types ts)
  in_value at (Plain (Int i) ts) h = (tt, in_types ts)
  in_value at (Plain (Label l) ts) h = (tt, in_types ts)
  in_value at (Plain (Data d) ts) h = (tt, in_types ts)
  in_value at (Pack t v s) h = (in_type t, in_value at v h, in_type s)

  at_most : (t : ℕ) (x : Home) → t ≤ m + 6 → UpTo (m + 3) x → at_home t x ≤ k
  at_most t (Held q) le h = omega (arith, most, h)
  at_most t (InFrame i) le h = omega (arith, most, le)
  at_most t (InSlot i) le h = omega (arith, most, le)

  in_load : (t : ℕ) (x : Home) (rest : TSeq) → t ≤ m + 6 → InSeq k rest → InSeq k (before (load m t x) rest)
  in_load t (Held q) rest le h = h
  in_load t (InFrame i) rest le h = ((omega (arith, most, le), omega (arith, most)), h)
  in_load t (InSlot i) rest le h = ((omega (arith, most, le), omega (arith, most)), h)

  in_load_value : (homes : ℕ → Home) (v : TValue) (rest : TSeq) → InSeq k rest →
      InSeq k (before (load_value m homes v) rest)
  in_load_value homes (Plain (Reg r) ts) rest h = in_load (second_reg m) (homes r) rest (omega arith) h
  in_load_value homes (Plain (Int i) ts) rest h = h
  in_load_value homes (Plain (Label l) ts) rest h = h
  in_load_value homes (Plain (Data d) ts) rest h = h
  in_load_value homes (Pack t v s) rest h = in_load_value homes v rest h

  in_fill : (homes : ℕ → Home) (qs : List ℕ) (j : ℕ) (rest : TSeq) → ((r : ℕ) → UpTo (m + 3) (homes r)) →
      InSeq k rest → InSeq k (before (fill m homes qs j) rest)
  in_fill homes [] j rest up h = h
  in_fill homes (q ∷ qs) j rest up h =
      joined (InSeq k) (load m (second_reg m) (homes q)) _ rest (in_load (second_reg m) (homes q) _ (omega arith) (
        (omega (arith, most), at_most (second_reg m) (homes q) (omega arith) (up q)),
        in_fill homes qs (suc j) rest up h,
      ))

  in_build : (homes : ℕ → Home) (high : TFile) (rest : TSeq) → ((r : ℕ) → UpTo (m + 3) (homes r)) → InSeq k rest →
      InSeq k (before (build m homes high) rest)
  in_build homes high rest up h =
      ((omega (arith, most), in_cells (sp_regs m high) (in_regs high)), in_fill homes (numbers high) 0 rest up h)

  in_slot : (used : ℕ) (ts : List Ty) (rest : TSeq) → InTypes k ts → InSeq k rest →
      InSeq k (before (fill_slot m used ts) rest)
  in_slot zero ts rest ht h = ((omega (arith, most), ht), ((omega (arith, most), omega (arith, most)), h))
  in_slot (suc j) ts rest ht h = ((omega (arith, most), omega (arith, most)), h)

  in_finish : (L : Layout) (rd : ℕ) (ts : List Ty) (to : TFile) (w : Way) (rest : TSeq) → Loose m L → InTypes k ts →
      InSeq k rest → InSeq k (before (finish m L rd ts to w) rest)
  in_finish L rd ts to Stays rest reg ht h = h
  in_finish L rd ts to Holds rest reg ht h = h
  in_finish L rd ts to Fills rest reg ht h = in_slot L.used ts rest ht h
  in_finish L rd ts to Gathers rest reg ht h =
      let homes = homed L.homes rd (Held (into m rd)) in
      joined (InSeq k) (build m homes (high_part m to)) _ rest
      (in_build homes (high_part m to) _ (λ r. homed_loose m L rd r reg)
      ((omega (arith, most), (omega (arith, most), tt)), h))

  by_in : (w : Way) (t : Ty) (ts : List Ty) → InType k t → InTypes k ts → InTypes k (slots_by w t ts)
  by_in Stays t ts h l = l
  by_in Holds t ts h l = l
  by_in Fills t ts h l = (h, l)
  by_in Gathers t ts h l = tt

  in_slots : (P : TProg) (c : TSeq) (used : ℕ) (x : TFile) → InTypes k (slots m P used x c)
  in_slots P (Then i c) used x =
      by_in (way m used i c) _ _ (in_type (or_int (lookup (next P x i) (defines i))))
      (in_slots P c (used_by (way m used i c) used) (kept P x i c))
  in_slots P (Ends e) used x = tt

  module _ (L : Layout) (reg : Loose m L) where
    up : (r : ℕ) → UpTo (m + 3) (L.homes r)
    up r = loose_up m L r reg

    first : (r : ℕ) → at_home (first_reg m) (L.homes r) ≤ k
    first r = at_most (first_reg m) (L.homes r) (omega arith) (up r)

    second : (r : ℕ) → second_at m L.homes r ≤ k
    second r = at_most (second_reg m) (L.homes r) (omega arith) (up r)

    here : (rd : ℕ) → into m rd ≤ k
    here rd = let a = into_most m rd in omega (arith, a, most)

    value : (v : TValue) → InValue k (sp_value m (second_at m L.homes) v)
    value v = in_value (second_at m L.homes) v second

    in_loading : (high : TFile) (i : TInstr) (rest : TSeq) → InSeq k rest → InSeq k (loading m L.homes high i rest)
    in_loading high (Arith op rd rs v) rest h =
        in_load (first_reg m) (L.homes rs) _ (omega arith) (in_load_value L.homes v rest h)
    in_loading high (Bnz r v) rest h =
        in_build L.homes high _ up (in_load (first_reg m) (L.homes r) _ (omega arith) (in_load_value L.homes v rest h))
    in_loading high (Ld rd rs i) rest h = in_load (first_reg m) (L.homes rs) rest (omega arith) h
    in_loading high (Malloc rd us) rest h = h
    in_loading high (Mov rd v) rest h = in_load_value L.homes v rest h
    in_loading high (St rd i rs) rest h =
        in_load (first_reg m) (L.homes rd) _ (omega arith) (in_load (second_reg m) (L.homes rs) rest (omega arith) h)
    in_loading high (Unpack rd v) rest h = in_load_value L.homes v rest h

    in_does : (i : TInstr) (rest : TSeq) → InSeq k rest → InSeq k (before (does m L.homes i) rest)
    in_does (Arith op rd rs v) rest h = ((here rd, first rs, value v), h)
    in_does (Bnz r v) rest h = (
      (omega (arith, most), (omega (arith, most), tt)),
      (
        (omega (arith, most), (omega (arith, most), tt)),
        ((first r, value v), ((omega (arith, most), (omega (arith, most), tt)), h)),
      ),
    )
    in_does (Ld rd rs i) rest h = ((here rd, first rs), h)
    in_does (Malloc rd us) rest h = ((here rd, in_types us), h)
    in_does (Mov rd v) rest h = ((here rd, value v), h)
    in_does (St rd i rs) rest h = ((here rd, second rs), h)
    in_does (Unpack rd v) rest h = ((here rd, value v), h)

  in_code : (P : TProg) (c : TSeq) (L : Layout) (x : TFile) → Loose m L → InSeq k (code m P L x c)
  in_code P (Then i c) L x reg =
      subst (InSeq k) (sym (step_is m P L x i c _))
      (in_loading L reg (high_part m (target P x i)) i _ (in_does L reg i _
      (in_finish L (defines i) (slots m P L.used x (Then i c)) (kept P x i c) (way m L.used i c) _ reg
      (in_slots P (Then i c) L.used x)
      (in_code P c (after m L i c (kept P x i c)) (kept P x i c) (way_loose m L i c (kept P x i c) reg)))))
  in_code P (Ends (Jmp v)) L x reg =
      in_build L.homes (high_part m (target_file (type_of P x v))) _ (up L reg) (in_load_value L.homes v _
      ((omega (arith, most), (omega (arith, most), tt)), value L reg v))
  in_code P (Ends Halt) L x reg = tt

  in_blocks : (P : TProg) (bs : List TBlock) → InBlocks k (sp_blocks m P bs)
  in_blocks P [] = tt
  in_blocks P (b ∷ bs) = (
    in_split (sp_regs m b.file) (in_regs b.file),
    in_code P b.code (layout m b.file) b.file
        (regular_loose m (layout m b.file) (gathered_regular m (highs m b.file))),
    in_blocks P bs,
  )

  in_data : (xs : TData) → InData k (sp_data m xs)
  in_data [] = tt
  in_data (x ∷ xs) = (in_value (λ r. 1) x.value (λ r. omega (arith, most)), in_type x.ty, in_data xs)

  in_heap : (hs : List TData) → InHeap k (map (sp_data m) hs)
  in_heap [] = tt
  in_heap (x ∷ hs) = (in_data x, in_heap hs)

  pub few_registers : (P : TProg) → RegistersUpTo k (spilled_above m P)
  few_registers P = ((tt, ((omega (arith, most), tt), (tt, tt)), in_blocks P P.blocks), in_heap P.heap)
