-- What is spilled of a whole program is whole, and has no register above the bound.
use Rattle.std.proofs.Common.{◌≡◌, ℕ, zero, suc, ◌+◌, ◌<◌, ◌≤◌, nat_eq, nat_lt, cond, Bool, true, false, List, [], ◌∷◌}
use Rattle.std.proofs.Common.{length, map, Some, refl, sym, ◌∙◌, subst, arith, inl, inr, ◌⊎◌, ⊎_elim}
use Rattle.std.proofs.lemmas.Bool.{cases_lt, lt-ltb}
use Rattle.std.proofs.lemmas.List.{length-map}
use Rattle.t_types.specs.Tree.{Ty, IntTy, VarTy, CodeTy, ExistsTy, TupleTy, TFile, NoRegs, MoreRegs, TFields, NoFields}
use Rattle.t_types.specs.Tree.{MoreFields}
use Rattle.t_types.specs.WellFormed.{max_number, max_names, IsRegister, WellFormed, WellFormedFields, WellFormedTypes}
use Rattle.t_types.specs.WellFormed.{RegsAbove}
use Rattle.t_types.specs.Fits.{RegTypes, lookup}
use Rattle.t_terms.specs.Tree.{Reg, Int, Label, Data, TValue, Plain, Pack, TInstr, Arith, Bnz, Ld, Malloc, Mov, St}
use Rattle.t_terms.specs.Tree.{Unpack}
use Rattle.t_terms.specs.Tree.{Jmp, Halt, TSeq, Then, Ends, TBlock, TData, TProg, names_after}
use Rattle.t_terms.specs.Whole.{WellFormedValue, WellFormedInstr, WellFormedSeq, WellFormedBlock, WellFormedBlocks}
use Rattle.t_terms.specs.Whole.{HasNoRegister, WellFormedData, WellFormedHeap, WellFormedProgram}
use Rattle.t_rules.specs.Rules.{Enters, Typed, SeqAccepted, BlocksAccepted, Accepted}
use Rattle.t_spill_rules.specs.Spill.{frame_reg, first_reg, second_reg, made_reg, with_if, without_if}
use Rattle.t_spill_rules.specs.Spill.{high_part, low_part, frame, cells, split, sp, sp_regs, sp_fields, sp_value}
use Rattle.t_spill_rules.specs.Spill.{type_of}
use Rattle.t_spill_rules.specs.Spill.{target_file, or_int, next, numbers, kept, Home, Held, InFrame, InSlot, Layout}
use Rattle.t_spill_rules.specs.Spill.{homed, target, before, does}
use Rattle.t_spill_rules.proofs.Parts.{joined, loading, step_is}
use Rattle.t_spill_rules.specs.Spill.{position, gathered, layout, at_home, load, load_value, second_at, fill, build}
use Rattle.t_spill_rules.specs.Spill.{defines, into, Way, Stays, Holds, Fills, Gathers, most_slots, way_of, way}
use Rattle.t_spill_rules.specs.Spill.{after_way}
use Rattle.t_spill_rules.specs.Spill.{after}
use Rattle.t_spill_rules.specs.Spill.{slots_by, used_by, slots, fill_slot, finish, code, sp_block, sp_blocks}
use Rattle.t_spill_rules.specs.Spill.{sp_data}
use Rattle.t_spill_rules.specs.Spill.{entry, spilled_above, FewNames, values_of, ValuesFew, BlocksFew, TypesFew}
use Rattle.t_spill_laws.proofs.Computed.{value_is, next_is}
use Rattle.t_spill_laws.proofs.Live.{kept_accepted}
use Rattle.t_spill_laws.proofs.Kept.{KeptFew, kept_few, knows_first}
use Rattle.t_spill_laws.proofs.Scopes.{Scoped, scoped_regs, well_formed, regs_above, LabelsScoped, DataScoped}
use Rattle.t_spill_laws.proofs.Scopes.{scoped_ascends, scoped_value, scoped_next, scoped_kept, labels_scoped}
use Rattle.t_spill_laws.proofs.Scopes.{data_scoped}
use Rattle.t_spill_laws.proofs.Homes.{Sound, Loose, into_case, homed_both, WayFits, way_fits, gathered_regular}
use Rattle.t_spill_laws.proofs.Homes.{regular_loose, way_loose}
use Rattle.t_spill_laws.proofs.Erased.{highs}

-- parts of files
lower : (low r n : ℕ) (x : TFile) → low < r → RegsAbove r n x → RegsAbove low n x
lower low r n NoRegs lt h = tt
lower low r n (MoreRegs q t x) lt h = (omega (arith, lt, h.0), h.1, h.2, h.3)

high_above : (k low n : ℕ) (x : TFile) → RegsAbove low n x → RegsAbove low n (high_part k x)
high_above k low n NoRegs h = tt
high_above k low n (MoreRegs r t x) h = go (nat_lt k r) (high_above k r n x h.3)
  where
    go : (b : Bool) → RegsAbove r n (high_part k x) → RegsAbove low n (with_if b r t (high_part k x))
    go true z = (h.0, h.1, h.2, z)
    go false z = lower low r n (high_part k x) h.0 z

frame_well : (low n : ℕ) (x : TFile) → RegsAbove low n x → WellFormedFields n (frame x)
frame_well low n NoRegs h = tt
frame_well low n (MoreRegs r t x) h = (h.2, frame_well r n x h.3)

cells_well : (low n : ℕ) (x : TFile) → RegsAbove low n x → WellFormedTypes n (cells x)
cells_well low n NoRegs h = tt
cells_well low n (MoreRegs r t x) h = (h.2, cells_well r n x h.3)

-- places in frames
small : (low n : ℕ) (x : TFile) → low ≤ max_number → RegsAbove low n x → low + length (numbers x) ≤ max_number
small low n NoRegs le h = omega arith
small low n (MoreRegs r t x) le h =
    let a = small r n x h.1 h.3 in let lt = h.0 in omega (arith, a, lt)

position_most : (qs : List ℕ) (r : ℕ) → position qs r ≤ length qs
position_most [] r = omega arith
position_most (q ∷ qs) r = go (nat_eq q r) (position_most qs r)
  where
    go : (b : Bool) → position qs r ≤ length qs → cond b 0 (suc (position qs r)) ≤ suc (length qs)
    go true h = omega arith
    go false h = omega arith

target_above : (n : ℕ) (t : Ty) (file : TFile) → t ≡ CodeTy 0 file → WellFormed n t → RegsAbove 0 n (target_file t)
target_above n t file e h =
    let k : WellFormed n (CodeTy 0 file) = subst (WellFormed n) e h in
    let z : n + 0 ≡ n = omega arith in
    subst (λ (u : Ty). RegsAbove 0 n (target_file u)) (sym e) (subst (λ m. RegsAbove 0 m file) z k.1)

type_well : (n low r : ℕ) (x : TFile) → RegsAbove low n x → WellFormed n (or_int (lookup x r))
type_well n low r NoRegs h = tt
type_well n low r (MoreRegs q t x) h = go (nat_eq q r) (type_well n q r x h.3)
  where
    go : (b : Bool) → WellFormed n (or_int (lookup x r)) → WellFormed n (or_int (cond b (Some t) (lookup x r)))
    go true z = h.2
    go false z = z

-- numbers of fields
abbrev Near : Home → Type 0
Near (Held q) = Unit {0}
Near (InFrame i) = i ≤ max_number
Near (InSlot i) = i ≤ max_number

abbrev NearLayout : Layout → Type 0
NearLayout L = ((r : ℕ) → Near (L.homes r)) × (L.used ≤ most_slots)

near_gathered : (m : ℕ) (qs : List ℕ) → length qs ≤ max_number → NearLayout (gathered m qs)
near_gathered m qs le = ((λ r. go r (nat_lt m r)), omega arith)
  where
    go : (r : ℕ) (b : Bool) → Near (cond b (InFrame (position qs r)) (Held r))
    go r true = let a = position_most qs r in omega (arith, a, le)
    go r false = tt

highs_few : (m n : ℕ) (to : TFile) → RegsAbove 0 n to → length (highs m to) ≤ max_number
highs_few m n to h = let a = small 0 n (high_part m to) (omega arith) (high_above m 0 n to h) in omega (arith, a)

near_way : (m n : ℕ) (L : Layout) (rd : ℕ) (c : TSeq) (to : TFile) (w : Way) → WayFits m L.used rd c w →
    RegsAbove 0 n to →
    NearLayout L → NearLayout (after_way m L rd to w)
near_way m n L rd c to Stays k h l = l
near_way m n L rd c to Holds k h l =
    ((λ r. homed_both L.homes rd r (Held (into m rd)) Near (λ e. tt) (λ ne. l.0 r)), l.1)
near_way m n L rd c to Fills k h l =
    let lt = k.1 in
    ((λ r. homed_both L.homes rd r (InSlot L.used) Near (λ e. omega (arith, lt)) (λ ne. l.0 r)), omega (arith, lt))
near_way m n L rd c to Gathers k h l = near_gathered m (highs m to) (highs_few m n to h)

near_after : (m n : ℕ) (L : Layout) (i : TInstr) (c : TSeq) (to : TFile) → RegsAbove 0 n to → NearLayout L →
    NearLayout (after m L i c to)
near_after m n L (Bnz r v) c to h l = l
near_after m n L (Unpack rd v) c to h l = near_way m n L rd c to Gathers tt h l
near_after m n L i c to h l =
    near_way m n L (defines i) c to (way_of m L.used (defines i) c) (way_fits m L.used (defines i) c) h l

module _ (m : ℕ) (fit : m + 6 ≤ max_number) where
  -- types
  low_above : (low n : ℕ) (x : TFile) (f : TFields) → low ≤ m → RegsAbove low n x → WellFormedFields n f →
      RegsAbove low n (low_part m x (MoreRegs (frame_reg m) (TupleTy f) NoRegs))
  low_above low n NoRegs f le h k = (omega (arith, le), omega (arith, fit), k, tt)
  low_above low n (MoreRegs r t x) f le h k =
      go (nat_lt m r) refl (low_above low n x f le (lower low r n x h.0 h.3) k) (λ lo. low_above r n x f lo h.3 k)
    where
      go : (b : Bool) → nat_lt m r ≡ b → RegsAbove low n (low_part m x (MoreRegs (frame_reg m) (TupleTy f) NoRegs)) →
          (r ≤ m → RegsAbove r n (low_part m x (MoreRegs (frame_reg m) (TupleTy f) NoRegs))) →
          RegsAbove low n (without_if b r t (low_part m x (MoreRegs (frame_reg m) (TupleTy f) NoRegs)))
      go true e z y = z
      go false e z y = (h.0, h.1, h.2, y (below (cases_lt m r)))
        where
          below : (m < r) ⊎ (r ≤ m) → r ≤ m
          below (inl a) = let w : false ≡ true = sym e ∙ lt-ltb m r a in cc
          below (inr a) = a

  split_well : (n : ℕ) (x : TFile) → RegsAbove 0 n x → RegsAbove 0 n (split m x)
  split_well n x h = low_above 0 n x (frame (high_part m x)) (omega arith) h
      (frame_well 0 n (high_part m x) (high_above m 0 n x h))

  mutual
    sp_well : (n : ℕ) (t : Ty) → WellFormed n t → WellFormed n (sp m t)
    sp_well n IntTy h = tt
    sp_well n (VarTy i) h = h
    sp_well n (CodeTy owes file) h = (h.0, split_well (n + owes) (sp_regs m file) (regs_well 0 (n + owes) file h.1))
    sp_well n (ExistsTy t) h = (h.0, sp_well (n + 1) t h.1)
    sp_well n (TupleTy fields) h = fields_well n fields h

    regs_well : (low n : ℕ) (x : TFile) → RegsAbove low n x → RegsAbove low n (sp_regs m x)
    regs_well low n NoRegs h = tt
    regs_well low n (MoreRegs r t x) h = (h.0, h.1, sp_well n t h.2, regs_well r n x h.3)

    fields_well : (n : ℕ) (x : TFields) → WellFormedFields n x → WellFormedFields n (sp_fields m x)
    fields_well n NoFields h = tt
    fields_well n (MoreFields t flag x) h = (sp_well n t h.0, fields_well n x h.1)

  types_well : (n : ℕ) (ts : List Ty) → WellFormedTypes n ts → WellFormedTypes n (map (sp m) ts)
  types_well n [] h = tt
  types_well n (t ∷ ts) h = (sp_well n t h.0, types_well n ts h.1)

  -- registers
  own : (i : ℕ) → 1 ≤ i → i ≤ 6 → IsRegister (m + i)
  own i lo hi = (omega arith, omega (arith, fit))

  one_own : IsRegister (frame_reg m)
  one_own = (omega arith, omega (arith, fit))

  into_own : (rd : ℕ) → IsRegister rd → IsRegister (into m rd)
  into_own rd h = ⊎_elim
      (λ (k : (m < rd) × (into m rd ≡ m + 3)). subst IsRegister (sym k.1) (own 3 (omega arith) (omega arith)))
      (λ (k : (rd ≤ m) × (into m rd ≡ rd)). subst IsRegister (sym k.1) h)
      (into_case m rd)

  at_own : (used t r : ℕ) (x : Home) → Sound m used r x → IsRegister t → IsRegister r → IsRegister (at_home t x)
  at_own used t r (Held q) s h k = subst IsRegister (sym s.0) k
  at_own used t r (InFrame i) s h k = h
  at_own used t r (InSlot i) s h k = h

  kept_own : (L : Layout) (t r : ℕ) → Loose m L → IsRegister t → IsRegister r → IsRegister (at_home t (L.homes r))
  kept_own L t r reg h k = ⊎_elim
      (λ (s : Sound m L.used r (L.homes r)). at_own L.used t r (L.homes r) s h k)
      (λ (e : L.homes r ≡ Held (into m r)). subst (λ x. IsRegister (at_home t x)) (sym e) (into_own r k))
      (reg r)

  second_own : (L : Layout) (r : ℕ) → Loose m L → IsRegister r → IsRegister (second_at m L.homes r)
  second_own L r reg h = kept_own L (second_reg m) r reg (own 4 (omega arith) (omega arith)) h

  homed_own : (L : Layout) (rd r : ℕ) → Loose m L → IsRegister rd → IsRegister r →
      IsRegister (second_at m (homed L.homes rd (Held (into m rd))) r)
  homed_own L rd r reg hd h =
      homed_both L.homes rd r (Held (into m rd)) (λ x. IsRegister (at_home (second_reg m) x)) (λ e. into_own rd hd)
      (λ ne. second_own L r reg h)

  homed_near : (L : Layout) (rd r : ℕ) → NearLayout L → Near (homed L.homes rd (Held (into m rd)) r)
  homed_near L rd r l = homed_both L.homes rd r (Held (into m rd)) Near (λ e. tt) (λ ne. l.0 r)

  module _ (p p2 q : ℕ) (further : (l : ℕ) → l < p → suc l < p2) where
    value_well : (n : ℕ) (at : ℕ → ℕ) (v : TValue) → ((r : ℕ) → IsRegister r → IsRegister (at r)) →
        WellFormedValue p q n v → WellFormedValue p2 q n (sp_value m at v)
    value_well n at (Plain (Reg r) ts) ok h = (ok r h.0, types_well n ts h.1)
    value_well n at (Plain (Int i) ts) ok h = (tt, types_well n ts h.1)
    value_well n at (Plain (Label l) ts) ok h = (further l h.0, types_well n ts h.1)
    value_well n at (Plain (Data d) ts) ok h = (h.0, types_well n ts h.1)
    value_well n at (Pack t v s) ok h = (sp_well n t h.0, value_well n at v ok h.1, sp_well n s h.2)

    module _ (n : ℕ) (few : n ≤ max_names) where
      load_well : (t : ℕ) (x : Home) (rest : TSeq) → IsRegister t → Near x → WellFormedSeq p2 q n rest →
          WellFormedSeq p2 q n (before (load m t x) rest)
      load_well t (Held r) rest h l k = k
      load_well t (InFrame i) rest h l k = ((h, one_own, l), few, k)
      load_well t (InSlot i) rest h l k = ((h, own 2 (omega arith) (omega arith), l), few, k)

      load_value_well : (homes : ℕ → Home) (v : TValue) (rest : TSeq) → ((r : ℕ) → Near (homes r)) →
          WellFormedSeq p2 q n rest → WellFormedSeq p2 q n (before (load_value m homes v) rest)
      load_value_well homes (Plain (Reg r) ts) rest l k =
          load_well (second_reg m) (homes r) rest (own 4 (omega arith) (omega arith)) (l r) k
      load_value_well homes (Plain (Int i) ts) rest l k = k
      load_value_well homes (Plain (Label i) ts) rest l k = k
      load_value_well homes (Plain (Data d) ts) rest l k = k
      load_value_well homes (Pack t v s) rest l k = load_value_well homes v rest l k

      mov_well : (rd rs : ℕ) (rest : TSeq) → IsRegister rd → IsRegister rs → WellFormedSeq p2 q n rest →
          WellFormedSeq p2 q n (Then (Mov rd (Plain (Reg rs) [])) rest)
      mov_well rd rs rest h l k = ((h, (l, tt)), few, k)

      fill_well : (homes : ℕ → Home) (low : ℕ) (to : TFile) (j : ℕ) (rest : TSeq) → ((r : ℕ) → Near (homes r)) →
          ((r : ℕ) → IsRegister r → IsRegister (second_at m homes r)) →
          RegsAbove low n to → j + length (numbers to) ≤ max_number → WellFormedSeq p2 q n rest →
          WellFormedSeq p2 q n (before (fill m homes (numbers to) j) rest)
      fill_well homes low NoRegs j rest l ok h le k = k
      fill_well homes low (MoreRegs r t to) j rest l ok h le k =
          let lt = h.0 in
          joined (WellFormedSeq p2 q n) (load m (second_reg m) (homes r)) _ rest
          (load_well (second_reg m) (homes r) _ (own 4 (omega arith) (omega arith)) (l r) (
            (own 5 (omega arith) (omega arith), omega (arith, le), ok r (omega (arith, lt), h.1)),
            few,
            fill_well homes r to (suc j) rest l ok h.3 (omega (arith, le)) k,
          ))

      build_well : (homes : ℕ → Home) (to : TFile) (rest : TSeq) → ((r : ℕ) → Near (homes r)) →
          ((r : ℕ) → IsRegister r → IsRegister (second_at m homes r)) →
          RegsAbove 0 n to → WellFormedSeq p2 q n rest →
          WellFormedSeq p2 q n (before (build m homes (high_part m to)) rest)
      build_well homes to rest l ok h k =
          let a = highs_few m n to h in
          let high = high_above m 0 n to h in (
            (
              own 5 (omega arith) (omega arith),
              cells_well 0 n (sp_regs m (high_part m to)) (regs_well 0 n (high_part m to) high),
            ),
            few,
            fill_well homes 0 (high_part m to) 0 rest l ok high (omega (arith, a)) k,
          )

      slot_well : (used : ℕ) (ts : List Ty) (rest : TSeq) → used ≤ most_slots → WellFormedTypes n ts →
          WellFormedSeq p2 q n rest → WellFormedSeq p2 q n (before (fill_slot m used ts) rest)
      slot_well zero ts rest le h k = (
        (own 2 (omega arith) (omega arith), h),
        few,
        ((own 2 (omega arith) (omega arith), omega arith, own 3 (omega arith) (omega arith)), few, k),
      )
      slot_well (suc j) ts rest le h k =
          ((own 2 (omega arith) (omega arith), omega (arith, le), own 3 (omega arith) (omega arith)), few, k)

      finish_well : (L : Layout) (rd : ℕ) (ts : List Ty) (to : TFile) (w : Way) (rest : TSeq) → Loose m L →
          NearLayout L → IsRegister rd → RegsAbove 0 n to → WellFormedTypes n ts → WellFormedSeq p2 q n rest →
          WellFormedSeq p2 q n (before (finish m L rd ts to w) rest)
      finish_well L rd ts to Stays rest reg l hd h ht k = k
      finish_well L rd ts to Holds rest reg l hd h ht k = k
      finish_well L rd ts to Fills rest reg l hd h ht k = slot_well L.used ts rest l.1 ht k
      finish_well L rd ts to Gathers rest reg l hd h ht k =
          let homes = homed L.homes rd (Held (into m rd)) in
          joined (WellFormedSeq p2 q n) (build m homes (high_part m to)) _ rest
          (build_well homes to _ (λ r. homed_near L rd r l) (λ r z. homed_own L rd r reg hd z) h
          (mov_well (frame_reg m) (made_reg m) rest one_own (own 5 (omega arith) (omega arith)) k))

    module _ (L : Layout) (reg : Loose m L) (near : NearLayout L) where
      first_own : (r : ℕ) → IsRegister r → IsRegister (at_home (first_reg m) (L.homes r))
      first_own r h = kept_own L (first_reg m) r reg (own 3 (omega arith) (omega arith)) h

      value_here : (n : ℕ) (v : TValue) → WellFormedValue p q n v →
          WellFormedValue p2 q n (sp_value m (second_at m L.homes) v)
      value_here n v w = value_well n (second_at m L.homes) v (λ r h. second_own L r reg h) w

      first_well : (n r : ℕ) (rest : TSeq) → n ≤ max_names → WellFormedSeq p2 q n rest →
          WellFormedSeq p2 q n (before (load m (first_reg m) (L.homes r)) rest)
      first_well n r rest few k =
          load_well n few (first_reg m) (L.homes r) rest (own 3 (omega arith) (omega arith)) (near.0 r) k

      loading_well : (i : TInstr) (n : ℕ) (to : TFile) (rest : TSeq) → n ≤ max_names → RegsAbove 0 n to →
          WellFormedSeq p2 q n rest → WellFormedSeq p2 q n (loading m L.homes (high_part m to) i rest)
      loading_well (Arith op rd rs v) n to rest few tg k =
          first_well n rs _ few (load_value_well n few L.homes v rest near.0 k)
      loading_well (Bnz r v) n to rest few tg k =
          build_well n few L.homes to _ near.0 (λ s h. second_own L s reg h) tg
          (first_well n r _ few (load_value_well n few L.homes v rest near.0 k))
      loading_well (Ld rd rs i) n to rest few tg k = first_well n rs rest few k
      loading_well (Malloc rd us) n to rest few tg k = k
      loading_well (Mov rd v) n to rest few tg k = load_value_well n few L.homes v rest near.0 k
      loading_well (St rd i rs) n to rest few tg k =
          first_well n rd _ few
          (load_well n few (second_reg m) (L.homes rs) rest (own 4 (omega arith) (omega arith)) (near.0 rs) k)
      loading_well (Unpack rd v) n to rest few tg k = load_value_well n few L.homes v rest near.0 k

      does_well : (i : TInstr) (n : ℕ) (rest : TSeq) → names_after i n ≤ max_names → WellFormedInstr p q n i →
          WellFormedSeq p2 q (names_after i n) rest → WellFormedSeq p2 q n (before (does m L.homes i) rest)
      does_well (Arith op rd rs v) n rest few w k =
          ((into_own rd w.0, first_own rs w.1, value_here n v w.2), few, k)
      does_well (Bnz r v) n rest few w k =
          let made = own 5 (omega arith) (omega arith) in
          let saved = own 6 (omega arith) (omega arith) in (
            (saved, (one_own, tt)),
            few,
            (
              (one_own, (made, tt)),
              few,
              ((first_own r w.0, value_here n v w.1), few, ((one_own, (saved, tt)), few, k)),
            ),
          )
      does_well (Ld rd rs i) n rest few w k = ((into_own rd w.0, first_own rs w.1, w.2), few, k)
      does_well (Malloc rd us) n rest few w k = ((into_own rd w.0, types_well n us w.1), few, k)
      does_well (Mov rd v) n rest few w k = ((into_own rd w.0, value_here n v w.1), few, k)
      does_well (St rd i rs) n rest few w k = ((into_own rd w.0, w.1, second_own L rs reg w.2), few, k)
      does_well (Unpack rd v) n rest few w k = ((into_own rd w.0, value_here n v w.1), few, k)

      word_well : (i : TInstr) (c : TSeq) (n : ℕ) (ts : List Ty) (to : TFile) (rest : TSeq) →
          names_after i n ≤ max_names →
          RegsAbove 0 (names_after i n) to → WellFormedTypes (names_after i n) ts → WellFormedInstr p q n i →
          WellFormedSeq p2 q (names_after i n) rest →
          WellFormedSeq p2 q (names_after i n) (before (finish m L (defines i) ts to (way m L.used i c)) rest)
      word_well (Bnz r v) c n ts to rest few nx ht w k = k
      word_well i c n ts to rest few nx ht w k =
          finish_well (names_after i n) few L (defines i) ts to (way m L.used i c) rest reg near w.0 nx ht k

    module _ (P : TProg) (labels : LabelsScoped P) (tuples : DataScoped P) where
      enters_above : (n : ℕ) (x : TFile) (v : TValue) → RegsAbove 0 n x → WellFormedValue p q n v →
          Enters P n (lookup x) v → FewNames n (type_of P x v) → RegsAbove 0 n (target_file (type_of P x v))
      enters_above n x v h w k f =
          let good : WellFormed n (type_of P x v) =
          well_formed n (type_of P x v)
          (subst (Scoped n) (sym (value_is P n x v (CodeTy 0 k.0) k.1))
          (scoped_value P p q labels tuples n x v (CodeTy 0 k.0) (scoped_regs 0 n x h) w k.1)) f in
          target_above n (type_of P x v) k.0 (value_is P n x v (CodeTy 0 k.0) k.1) good

      instr_above : (i : TInstr) (n : ℕ) (x : TFile) (g : RegTypes) → RegsAbove 0 n x → WellFormedInstr p q n i →
          Typed P n (lookup x) i g → ValuesFew P n x (values_of i) → RegsAbove 0 n (target P x i)
      instr_above (Bnz r v) n x g h w k f = enters_above n x v h w.1 k.1 f.0
      instr_above _ n x g h w k f = tt

      -- the types of slots
      by_well : (n : ℕ) (w : Way) (t : Ty) (ts : List Ty) → WellFormed n t → WellFormedTypes n ts →
          WellFormedTypes n (slots_by w t ts)
      by_well n Stays t ts h k = k
      by_well n Holds t ts h k = k
      by_well n Fills t ts h k = (h, k)
      by_well n Gathers t ts h k = tt

      -- there are none before an unpack
      back_well : (i : TInstr) (c : TSeq) (used n : ℕ) (t : Ty) (ts : List Ty) →
          WellFormedTypes (names_after i n) (slots_by (way m used i c) t ts) →
          WellFormedTypes n (slots_by (way m used i c) t ts)
      back_well (Unpack rd v) c used n t ts h = tt
      back_well _ c used n t ts h = h

      next_above : (i : TInstr) (c : TSeq) (n : ℕ) (x : TFile) → RegsAbove 0 n x → WellFormedSeq p q n (Then i c) →
          (k : SeqAccepted P n (lookup x) (Then i c)) → KeptFew P n x (Then i c) →
          RegsAbove 0 (names_after i n) (next P x i) × RegsAbove 0 (names_after i n) (kept P x i c)
      next_above i c n x h w k f =
          let nx = scoped_next P p q labels tuples i n x k.0 (scoped_regs 0 n x h) w.0 k.1 in (
            regs_above 0 (names_after i n) (next P x i) nx f.2,
            regs_above 0 (names_after i n) (kept P x i c)
                (scoped_kept P p q labels tuples i (names_after i n) x c nx) f.1,
          )

      rest_accepted : (i : TInstr) (c : TSeq) (n : ℕ) (x : TFile) → (k : SeqAccepted P n (lookup x) (Then i c)) →
          SeqAccepted P (names_after i n) (lookup (kept P x i c)) c
      rest_accepted i c n x k =
          kept_accepted P i (names_after i n) x c
          (subst (λ g. SeqAccepted P (names_after i n) g c) (next_is P n x i k.0 k.1) k.2)

      slots_well : (c : TSeq) (used n : ℕ) (x : TFile) → RegsAbove 0 n x → WellFormedSeq p q n c →
          SeqAccepted P n (lookup x) c → KeptFew P n x c → WellFormedTypes n (slots m P used x c)
      slots_well (Then i c) used n x h w k f =
          let nx = next_above i c n x h w k f in
          let rest = slots_well c (used_by (way m used i c) used) (names_after i n) (kept P x i c) nx.1 w.2
          (rest_accepted i c n x k) f.3 in
          back_well i c used n _ _
          (by_well (names_after i n) (way m used i c) _ _
          (sp_well (names_after i n) _ (type_well (names_after i n) 0 (defines i) (next P x i) nx.0)) rest)
      slots_well (Ends e) used n x h w k f = tt

      -- and where they are made, behind the instruction
      types_after : (i : TInstr) (c : TSeq) (used n : ℕ) (x : TFile) → RegsAbove 0 n x →
          WellFormedSeq p q n (Then i c) → SeqAccepted P n (lookup x) (Then i c) → KeptFew P n x (Then i c) →
          WellFormedTypes (names_after i n) (slots m P used x (Then i c))
      types_after i c used n x h w k f =
          let nx = next_above i c n x h w k f in
          let rest = slots_well c (used_by (way m used i c) used) (names_after i n) (kept P x i c) nx.1 w.2
          (rest_accepted i c n x k) f.3 in
          by_well (names_after i n) (way m used i c) _ _
          (sp_well (names_after i n) _ (type_well (names_after i n) 0 (defines i) (next P x i) nx.0)) rest

      pub code_well : (c : TSeq) (L : Layout) (n : ℕ) (x : TFile) → Loose m L → NearLayout L → n ≤ max_names →
          RegsAbove 0 n x → WellFormedSeq p q n c → SeqAccepted P n (lookup x) c → KeptFew P n x c →
          WellFormedSeq p2 q n (code m P L x c)
      code_well (Then i c) L n x reg near few h w k f =
          let nx = next_above i c n x h w k f in
          subst (WellFormedSeq p2 q n) (sym (step_is m P L x i c _))
          (loading_well L reg near i n (target P x i) _ few (instr_above i n x k.0 h w.0 k.1 f.0)
          (does_well L reg near i n _ w.1 w.0
          (word_well L reg near i c n (slots m P L.used x (Then i c)) (kept P x i c) _ w.1 nx.1
          (types_after i c L.used n x h w k f) w.0
          (code_well c (after m L i c (kept P x i c)) (names_after i n) (kept P x i c)
          (way_loose m L i c (kept P x i c) reg) (near_after m (names_after i n) L i c (kept P x i c) nx.1 near) w.1
          nx.1 w.2 (rest_accepted i c n x k) f.3))))
      code_well (Ends (Jmp v)) L n x reg near few h w k f =
          build_well n few L.homes (target_file (type_of P x v)) _ near.0 (λ s z. second_own L s reg z)
          (enters_above n x v h w k f)
          (load_value_well n few L.homes v _ near.0
          (mov_well n few (frame_reg m) (made_reg m) (Ends (Jmp (sp_value m (second_at m L.homes) v))) one_own
          (own 5 (omega arith) (omega arith))
          (value_well n (second_at m L.homes) v (λ s z. second_own L s reg z) w)))
      code_well (Ends Halt) L n x reg near few h w k f = tt

      blocks_well : (bs : List TBlock) → WellFormedBlocks p q bs → BlocksAccepted P bs → BlocksFew P bs →
          WellFormedBlocks p2 q (sp_blocks m P bs)
      blocks_well [] w k f = tt
      blocks_well (b ∷ bs) w k f =
          let knows = knows_first P b.owes b.file b.code
          (scoped_ascends b.owes b.file (scoped_regs 0 b.owes b.file w.0.1)) k.0.1 in (
            (
              w.0.0,
              split_well b.owes (sp_regs m b.file) (regs_well 0 b.owes b.file w.0.1),
              code_well b.code (layout m b.file) b.owes b.file
                  (regular_loose m (layout m b.file) (gathered_regular m (highs m b.file)))
                  (near_gathered m (highs m b.file) (highs_few m b.owes b.file w.0.1)) w.0.0 w.0.1 w.0.2 k.0.1
                  (kept_few P b.code b.owes b.file b.file knows f.0),
            ),
            blocks_well bs w.1 k.1 f.1,
          )

    -- data
    no_register : (at : ℕ → ℕ) (v : TValue) → HasNoRegister v → HasNoRegister (sp_value m at v)
    no_register at (Plain (Reg r) ts) h = h
    no_register at (Plain (Int i) ts) h = h
    no_register at (Plain (Label l) ts) h = h
    no_register at (Plain (Data d) ts) h = h
    no_register at (Pack t v s) h = no_register at v h

    data_well : (xs : TData) → WellFormedData p q xs → WellFormedData p2 q (sp_data m xs)
    data_well [] h = tt
    data_well (x ∷ xs) h = (
      (
        value_well 0 (λ r. 1) x.value (λ r z. (omega arith, omega arith)) h.0.0,
        no_register (λ r. 1) x.value h.0.1,
        sp_well 0 x.ty h.0.2,
      ),
      data_well xs h.1,
    )

    heap_well : (hs : List TData) → WellFormedHeap p q hs → WellFormedHeap p2 q (map (sp_data m) hs)
    heap_well [] h = tt
    heap_well (x ∷ hs) h = (data_well x h.0, heap_well hs h.1)

pub whole : (m : ℕ) (P : TProg) → m + 6 ≤ max_number → WellFormedProgram P → Accepted P → TypesFew P →
    WellFormedProgram (spilled_above m P)
whole m P fit w k f =
    let n : length (sp_blocks m P P.blocks) ≡ length P.blocks = length-map P.blocks (sp_block m P) in
    let same : length P.heap ≡ length (map (sp_data m) P.heap) = sym (length-map P.heap (sp_data m)) in
    let size = w.0 in
    let p2 = suc (length (sp_blocks m P P.blocks)) in
    let further : (l : ℕ) → l < length P.blocks → suc l < suc (length (sp_blocks m P P.blocks)) =
    λ l lt. omega (arith, lt, n) in
    let first : WellFormedBlock (suc (length (sp_blocks m P P.blocks))) (length P.heap) (entry m) =
    (omega arith, tt, ((one_own m fit, tt), omega arith, (omega (arith, size, n), tt))) in
    let blocks = blocks_well m fit (length P.blocks) (suc (length (sp_blocks m P P.blocks))) (length P.heap) further P
    (labels_scoped P w) (data_scoped P w) P.blocks w.1 k.2 f in
    let heap = heap_well m fit (length P.blocks) (suc (length (sp_blocks m P P.blocks))) (length P.heap) further P.heap
    w.2 in
    subst (λ q. (1 ≤ suc (length (sp_blocks m P P.blocks)))
    × WellFormedBlocks (suc (length (sp_blocks m P P.blocks))) q (entry m ∷ sp_blocks m P P.blocks)
    × WellFormedHeap (suc (length (sp_blocks m P P.blocks))) q (map (sp_data m) P.heap)) same
    (omega arith, (first, blocks), heap)
