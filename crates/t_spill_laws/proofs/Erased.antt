-- What is spilled of a sequence, erased: it depends on the registers of files alone, and so stays the same where
-- types are put for type variables.
use Rattle.std.proofs.Common.{◌≡◌, ℕ, zero, suc, ◌+◌, ◌-◌, ◌≤◌, nat_eq, nat_lt, cond, Bool, true, false, List, [], ◌∷◌}
use Rattle.std.proofs.Common.{◌++◌, length, map, Some, refl, sym, ap, ap₂, ◌∙◌, subst, arith}
use Rattle.std.specs.Prelude.{option_map}
use Rattle.std.proofs.Math.Path.{fun_ext}
use Rattle.idx_core.specs.Over.{At, putted}
use Rattle.t_types.specs.Tree.{Ty, IntTy, VarTy, CodeTy, ExistsTy, TupleTy, TFile, NoRegs, MoreRegs, over, over_file}
use Rattle.t_types.specs.Tree.{shift}
use Rattle.t_types.specs.Tree.{shift_file, put_from, put_file_from, put_file, Below, BelowTypes}
use Rattle.t_types.specs.TreeLaws.{file_over}
use Rattle.t_types.proofs.PutLaws.{put_shifted}
use Rattle.t_types.specs.Fields.{filled, empty_fields}
use Rattle.t_types.specs.Fits.{RegTypes, lookup}
use Rattle.t_types.proofs.FitsLaws.{field_over, filled_over, empty_over}
use Rattle.t_terms.specs.Tree.{TBase, Reg, Int, Label, Data, TValue, Plain, Pack, TInstr, Arith, Bnz, Ld, Malloc, Mov}
use Rattle.t_terms.specs.Tree.{St, Unpack, TEnd, Jmp, Halt, TSeq, Then, Ends, TProg, names_after, over_value}
use Rattle.t_terms.specs.Tree.{over_instr, over_end, over_seq, put_seq}
use Rattle.t_terms.specs.Registers.{with_reg, inst_file, inst_seq}
use Rattle.t_rules.specs.Rules.{Has, Enters, Typed, EndTyped, SeqAccepted}
use Rattle.t_rules.specs.Erase.{EArith, EBnz, ELd, EMalloc, EMov, ESt, ESeq, EThen, EJmp, EHalt, erase_value}
use Rattle.t_rules.specs.Erase.{erase_seq}
use Rattle.t_rules.proofs.Puts.{ClosedLabels, ClosedData, put_known, at_reg, names_more, typed_put, seq_put, below_any}
use Rattle.t_rules.proofs.Puts.{over_length}
use Rattle.t_spill_rules.specs.Spill.{frame_reg, slot_reg, first_reg, second_reg, made_reg, saved_reg, high_part}
use Rattle.t_spill_rules.specs.Spill.{cells, sp, sp_regs, sp_base, sp_value, ins, or_int, type_of, type_in, field_type}
use Rattle.t_spill_rules.specs.Spill.{filled_type, hidden_type, target_file, next, reg, numbers, target, end_target}
use Rattle.t_spill_rules.specs.Spill.{value_reads}
use Rattle.t_spill_rules.specs.Spill.{reads, end_reads, live, keep, kept, Home, Held, InFrame, InSlot, Layout, homed}
use Rattle.t_spill_rules.specs.Spill.{gathered}
use Rattle.t_spill_rules.specs.Spill.{before, at_home, load, load_value, second_at, fill, build, defines, into}
use Rattle.t_spill_rules.specs.Spill.{Way, Stays, Holds, Fills, Gathers, way, way_of, after_way, after, slots_by}
use Rattle.t_spill_rules.specs.Spill.{used_by}
use Rattle.t_spill_rules.specs.Spill.{stores, stores_by, most_slots}
use Rattle.t_spill_rules.specs.Spill.{slots}
use Rattle.t_spill_rules.specs.Spill.{fill_slot, finish, does, step, code, sizes}
use Rattle.t_spill_laws.proofs.TypeLaws.{high_over}
use Rattle.t_spill_laws.proofs.Files.{numbers_regs}
use Rattle.t_spill_rules.proofs.Parts.{before_both, loading, step_is}
use Rattle.t_spill_laws.proofs.Computed.{value_is, next_is}
use Rattle.t_spill_laws.proofs.Live.{keep_over, kept_accepted}
use Rattle.t_rules.proofs.Erasing.{value_over as erase_over}

-- loads, frames and slots
abbrev pub eload : ℕ → ℕ → Home → ESeq → ESeq
eload m t (Held q) k = k
eload m t (InFrame i) k = EThen (ELd t (frame_reg m) i) k
eload m t (InSlot i) k = EThen (ELd t (slot_reg m) i) k

abbrev pub ebase : ℕ → (ℕ → Home) → TBase → ESeq → ESeq
ebase m homes (Reg r) k = eload m (second_reg m) (homes r) k
ebase m homes (Int i) k = k
ebase m homes (Label l) k = k
ebase m homes (Data d) k = k

abbrev pub efill : ℕ → (ℕ → Home) → List ℕ → ℕ → ESeq → ESeq
efill m homes [] j k = k
efill m homes (q ∷ qs) j k =
    eload m (second_reg m) (homes q) (EThen (ESt (made_reg m) j (second_at m homes q)) (efill m homes qs (suc j) k))

abbrev pub ebuild : ℕ → (ℕ → Home) → List ℕ → ESeq → ESeq
ebuild m homes qs k = EThen (EMalloc (made_reg m) (length qs)) (efill m homes qs 0 k)

abbrev pub egather : ℕ → (ℕ → Home) → List ℕ → ESeq → ESeq
egather m homes qs k = ebuild m homes qs (EThen (EMov (frame_reg m) (Reg (made_reg m))) k)

abbrev pub eslot : ℕ → ℕ → ℕ → ESeq → ESeq
eslot m zero n k = EThen (EMalloc (slot_reg m) n) (EThen (ESt (slot_reg m) 0 (first_reg m)) k)
eslot m (suc j) n k = EThen (ESt (slot_reg m) (suc j) (first_reg m)) k

-- by the number of slots and the registers of the new frame
abbrev pub efinish : ℕ → Layout → ℕ → ℕ → List ℕ → Way → ESeq → ESeq
efinish m L rd n nx Stays k = k
efinish m L rd n nx Holds k = k
efinish m L rd n nx Fills k = eslot m L.used n k
efinish m L rd n nx Gathers k = egather m (homed L.homes rd (Held (into m rd))) nx k

-- an instruction's code in front of that, by the registers of its target
abbrev pub ehead : ℕ → Layout → List ℕ → TInstr → ESeq → ESeq
ehead m L tg (Arith op rd rs v) k =
    eload m (first_reg m) (L.homes rs) (ebase m L.homes (erase_value v)
    (EThen (EArith op (into m rd) (at_home (first_reg m) (L.homes rs)) (sp_base (second_at m L.homes) (erase_value v)))
    k))
ehead m L tg (Bnz r v) k =
    ebuild m L.homes tg (eload m (first_reg m) (L.homes r) (ebase m L.homes (erase_value v)
    (EThen (EMov (saved_reg m) (Reg (frame_reg m))) (EThen (EMov (frame_reg m) (Reg (made_reg m)))
    (EThen (EBnz (at_home (first_reg m) (L.homes r)) (sp_base (second_at m L.homes) (erase_value v)))
    (EThen (EMov (frame_reg m) (Reg (saved_reg m))) k))))))
ehead m L tg (Ld rd rs i) k =
    eload m (first_reg m) (L.homes rs) (EThen (ELd (into m rd) (at_home (first_reg m) (L.homes rs)) i) k)
ehead m L tg (Malloc rd ts) k = EThen (EMalloc (into m rd) (length ts)) k
ehead m L tg (Mov rd v) k =
    ebase m L.homes (erase_value v) (EThen (EMov (into m rd) (sp_base (second_at m L.homes) (erase_value v))) k)
ehead m L tg (St rd i rs) k =
    eload m (first_reg m) (L.homes rd) (eload m (second_reg m) (L.homes rs)
    (EThen (ESt (into m rd) i (second_at m L.homes rs)) k))
ehead m L tg (Unpack rd v) k =
    ebase m L.homes (erase_value v) (EThen (EMov (into m rd) (sp_base (second_at m L.homes) (erase_value v))) k)

-- where the sequence c follows
abbrev pub ecode : ℕ → Layout → ℕ → List ℕ → List ℕ → TInstr → TSeq → ESeq → ESeq
ecode m L n nx tg i c k = ehead m L tg i (efinish m L (defines i) n nx (way m L.used i c) k)

abbrev pub eend : ℕ → Layout → List ℕ → TEnd → ESeq
eend m L tg (Jmp v) =
    ebuild m L.homes tg (ebase m L.homes (erase_value v)
    (EThen (EMov (frame_reg m) (Reg (made_reg m))) (EJmp (sp_base (second_at m L.homes) (erase_value v)))))
eend m L tg Halt = EHalt

-- the number of slots
abbrev pub count_by : Way → ℕ → ℕ
count_by Stays n = n
count_by Holds n = n
count_by Fills n = suc n
count_by Gathers n = 0

abbrev pub slots_left : ℕ → ℕ → TSeq → ℕ
slots_left m used (Then i c) = count_by (way m used i c) (slots_left m (used_by (way m used i c) used) c)
slots_left m used (Ends e) = 0

by_length : (w : Way) (t : Ty) (ts : List Ty) → length (slots_by w t ts) ≡ count_by w (length ts)
by_length Stays t ts = refl
by_length Holds t ts = refl
by_length Fills t ts = refl
by_length Gathers t ts = refl

pub slots_length : (m : ℕ) (P : TProg) (c : TSeq) (used : ℕ) (x : TFile) →
    length (slots m P used x c) ≡ slots_left m used c
slots_length m P (Ends e) used x = refl
slots_length m P (Then i c) used x =
    by_length (way m used i c) _ (slots m P (used_by (way m used i c) used) (kept P x i c) c)
    ∙ ap (count_by (way m used i c)) (slots_length m P c (used_by (way m used i c) used) (kept P x i c))

-- the registers of a frame
abbrev pub highs : ℕ → TFile → List ℕ
highs m x = numbers (high_part m x)

pub erase_sp : (m : ℕ) (at : ℕ → ℕ) (v : TValue) → erase_value (sp_value m at v) ≡ sp_base at (erase_value v)
erase_sp m at (Plain b ts) = refl
erase_sp m at (Pack t v s) = erase_sp m at v

cells_length : (x : TFile) → length (cells x) ≡ length (numbers x)
cells_length NoRegs = refl
cells_length (MoreRegs r t x) = ap suc (cells_length x)

types_length : (m : ℕ) (ts : List Ty) → length (map (sp m) ts) ≡ length ts
types_length m [] = refl
types_length m (t ∷ ts) = ap suc (types_length m ts)

erase_load : (m t : ℕ) (x : Home) (rest : TSeq) → erase_seq (before (load m t x) rest) ≡ eload m t x (erase_seq rest)
erase_load m t (Held q) rest = refl
erase_load m t (InFrame i) rest = refl
erase_load m t (InSlot i) rest = refl

erase_load_value : (m : ℕ) (homes : ℕ → Home) (v : TValue) (rest : TSeq) →
    erase_seq (before (load_value m homes v) rest) ≡ ebase m homes (erase_value v) (erase_seq rest)
erase_load_value m homes (Plain (Reg r) ts) rest = erase_load m (second_reg m) (homes r) rest
erase_load_value m homes (Plain (Int i) ts) rest = refl
erase_load_value m homes (Plain (Label l) ts) rest = refl
erase_load_value m homes (Plain (Data d) ts) rest = refl
erase_load_value m homes (Pack t v s) rest = erase_load_value m homes v rest

erase_fill : (m : ℕ) (homes : ℕ → Home) (qs : List ℕ) (j : ℕ) (rest : TSeq) →
    erase_seq (before (fill m homes qs j) rest) ≡ efill m homes qs j (erase_seq rest)
erase_fill m homes [] j rest = refl
erase_fill m homes (q ∷ qs) j rest =
    ap erase_seq (before_both (load m (second_reg m) (homes q)) _ rest)
    ∙ erase_load m (second_reg m) (homes q) _
    ∙ ap (λ k. eload m (second_reg m) (homes q) (EThen (ESt (made_reg m) j (second_at m homes q)) k))
    (erase_fill m homes qs (suc j) rest)

erase_build : (m : ℕ) (homes : ℕ → Home) (high : TFile) (rest : TSeq) →
    erase_seq (before (build m homes high) rest) ≡ ebuild m homes (numbers high) (erase_seq rest)
erase_build m homes high rest =
    ap₂ (λ n k. EThen (EMalloc (made_reg m) n) k)
    (cells_length (sp_regs m high) ∙ ap (λ (qs : List ℕ). length qs) (numbers_regs m high))
    (erase_fill m homes (numbers high) 0 rest)

erase_finish : (m : ℕ) (L : Layout) (rd : ℕ) (ts : List Ty) (to : TFile) (w : Way) (rest : TSeq) →
    erase_seq (before (finish m L rd ts to w) rest) ≡ efinish m L rd (length ts) (highs m to) w (erase_seq rest)
erase_finish m L rd ts to Stays rest = refl
erase_finish m L rd ts to Holds rest = refl
erase_finish m L rd ts to Fills rest = go L.used
  where
    go : (j : ℕ) → erase_seq (before (fill_slot m j ts) rest) ≡ eslot m j (length ts) (erase_seq rest)
    go zero = refl
    go (suc j) = refl
erase_finish m L rd ts to Gathers rest =
    let homes = homed L.homes rd (Held (into m rd)) in
    ap erase_seq (before_both (build m homes (high_part m to)) _ rest)
    ∙ erase_build m homes (high_part m to) (Then (Mov (frame_reg m) (reg (made_reg m))) rest)

-- the parts put together
erase_head : (m : ℕ) (L : Layout) (high : TFile) (i : TInstr) (rest : TSeq) →
    erase_seq (loading m L.homes high i (before (does m L.homes i) rest)) ≡ ehead m L (numbers high) i (erase_seq rest)
erase_head m L high (Arith op rd rs v) rest =
    erase_load m (first_reg m) (L.homes rs) _
    ∙ ap (eload m (first_reg m) (L.homes rs)) (erase_load_value m L.homes v _
    ∙ ap (λ b. ebase m L.homes (erase_value v)
    (EThen (EArith op (into m rd) (at_home (first_reg m) (L.homes rs)) b) (erase_seq rest)))
    (erase_sp m (second_at m L.homes) v))
erase_head m L high (Bnz r v) rest =
    erase_build m L.homes high _
    ∙ ap (ebuild m L.homes (numbers high)) (erase_load m (first_reg m) (L.homes r) _
    ∙ ap (eload m (first_reg m) (L.homes r)) (erase_load_value m L.homes v _
    ∙ ap (λ b. ebase m L.homes (erase_value v)
    (EThen (EMov (saved_reg m) (Reg (frame_reg m))) (EThen (EMov (frame_reg m) (Reg (made_reg m)))
    (EThen (EBnz (at_home (first_reg m) (L.homes r)) b)
    (EThen (EMov (frame_reg m) (Reg (saved_reg m))) (erase_seq rest)))))) (erase_sp m (second_at m L.homes) v)))
erase_head m L high (Ld rd rs i) rest = erase_load m (first_reg m) (L.homes rs) _
erase_head m L high (Malloc rd ts) rest = ap (λ n. EThen (EMalloc (into m rd) n) (erase_seq rest)) (types_length m ts)
erase_head m L high (Mov rd v) rest =
    erase_load_value m L.homes v _
    ∙ ap (λ b. ebase m L.homes (erase_value v) (EThen (EMov (into m rd) b) (erase_seq rest)))
    (erase_sp m (second_at m L.homes) v)
erase_head m L high (St rd i rs) rest =
    erase_load m (first_reg m) (L.homes rd) _
    ∙ ap (eload m (first_reg m) (L.homes rd)) (erase_load m (second_reg m) (L.homes rs) _)
erase_head m L high (Unpack rd v) rest =
    erase_load_value m L.homes v _
    ∙ ap (λ b. ebase m L.homes (erase_value v) (EThen (EMov (into m rd) b) (erase_seq rest)))
    (erase_sp m (second_at m L.homes) v)

erase_step : (m : ℕ) (P : TProg) (L : Layout) (x : TFile) (i : TInstr) (c rest : TSeq) →
    erase_seq (before (step m P L x i c) rest)
    ≡ ecode m L (slots_left m L.used (Then i c)) (highs m (kept P x i c)) (highs m (target P x i)) i c
    (erase_seq rest)
erase_step m P L x i c rest =
    ap erase_seq (step_is m P L x i c rest)
    ∙ erase_head m L (high_part m (target P x i)) i _
    ∙ ap (ehead m L (highs m (target P x i)) i)
    (erase_finish m L (defines i) (slots m P L.used x (Then i c)) (kept P x i c) (way m L.used i c) rest
    ∙ ap (λ n. efinish m L (defines i) n (highs m (kept P x i c)) (way m L.used i c) (erase_seq rest))
    (slots_length m P (Then i c) L.used x))

-- an instruction in front of its rest
pub erase_then : (m : ℕ) (P : TProg) (L : Layout) (x : TFile) (i : TInstr) (c : TSeq) →
    erase_seq (code m P L x (Then i c))
    ≡ ecode m L (slots_left m L.used (Then i c)) (highs m (kept P x i c)) (highs m (target P x i)) i c
    (erase_seq (code m P (after m L i c (kept P x i c)) (kept P x i c) c))
erase_then m P L x i c = erase_step m P L x i c (code m P (after m L i c (kept P x i c)) (kept P x i c) c)

pub erase_end_code : (m : ℕ) (P : TProg) (L : Layout) (x : TFile) (e : TEnd) →
    erase_seq (code m P L x (Ends e)) ≡ eend m L (highs m (end_target P x e)) e
erase_end_code m P L x (Jmp v) =
    erase_build m L.homes (high_part m (target_file (type_of P x v))) _
    ∙ ap (ebuild m L.homes (highs m (target_file (type_of P x v)))) (erase_load_value m L.homes v _
    ∙ ap (λ b. ebase m L.homes (erase_value v) (EThen (EMov (frame_reg m) (Reg (made_reg m))) (EJmp b)))
    (erase_sp m (second_at m L.homes) v))
erase_end_code m P L x Halt = refl

-- numbers of instructions
abbrev pub esize : ESeq → ℕ
esize (EThen i k) = suc (esize k)
esize (EJmp b) = 0
esize EHalt = 0

size_before : (xs : List TInstr) (rest : TSeq) → esize (erase_seq (before xs rest)) ≡ length xs + esize (erase_seq rest)
size_before [] rest = omega arith
size_before (i ∷ xs) rest = let e = size_before xs rest in omega (arith, e)

pub then_size : (m : ℕ) (P : TProg) (L : Layout) (x : TFile) (i : TInstr) (c : TSeq) →
    esize (erase_seq (code m P L x (Then i c)))
    ≡ length (step m P L x i c) + esize (erase_seq (code m P (after m L i c (kept P x i c)) (kept P x i c) c))
then_size m P L x i c =
    size_before (step m P L x i c) (code m P (after m L i c (kept P x i c)) (kept P x i c) c)

-- walks don't change what is erased
stores_by_over : (f : At Ty) (d rd : ℕ) (i : TInstr) → stores_by rd (over_instr f d i) ≡ stores_by rd i
stores_by_over f d rd (St r i rs) = refl
stores_by_over f d rd _ = refl

stores_over : (f : At Ty) (d rd : ℕ) (c : TSeq) → stores rd (over_seq f d c) ≡ stores rd c
stores_over f d rd (Then i c) = stores_by_over f d rd i
stores_over f d rd (Ends e) = refl

way_of_over : (f : At Ty) (d m used rd : ℕ) (c : TSeq) → way_of m used rd (over_seq f d c) ≡ way_of m used rd c
way_of_over f d m used rd c =
    ap (λ b. cond (nat_lt m rd) (cond (nat_lt used most_slots) (cond b Holds Fills) Gathers) Stays)
    (stores_over f d rd c)

way_over : (f : At Ty) (d n m used : ℕ) (i : TInstr) (c : TSeq) →
    way m used (over_instr f d i) (over_seq f n c) ≡ way m used i c
way_over f d n m used (Bnz r v) c = refl
way_over f d n m used (Unpack rd v) c = refl
way_over f d n m used (Arith op rd rs v) c = way_of_over f n m used rd c
way_over f d n m used (Ld rd rs i) c = way_of_over f n m used rd c
way_over f d n m used (Malloc rd ts) c = way_of_over f n m used rd c
way_over f d n m used (Mov rd v) c = way_of_over f n m used rd c
way_over f d n m used (St rd i rs) c = way_of_over f n m used rd c

defines_over : (f : At Ty) (d : ℕ) (i : TInstr) → defines (over_instr f d i) ≡ defines i
defines_over f d (Arith op rd rs v) = refl
defines_over f d _ = refl

pub left_over : (f : At Ty) (m : ℕ) (c : TSeq) (used d : ℕ) → slots_left m used (over_seq f d c) ≡ slots_left m used c
left_over f m (Ends e) used d = refl
left_over f m (Then i c) used d =
    ap (λ w. count_by w (slots_left m (used_by w used) (over_seq f (names_after i d) c)))
    (way_over f d (names_after i d) m used i c)
    ∙ ap (count_by (way m used i c)) (left_over f m c (used_by (way m used i c) used) (names_after i d))

ehead_over : (f : At Ty) (d m : ℕ) (L : Layout) (tg : List ℕ) (i : TInstr) (k : ESeq) →
    ehead m L tg (over_instr f d i) k ≡ ehead m L tg i k
ehead_over f d m L tg (Arith op rd rs v) k =
    ap (λ b. eload m (first_reg m) (L.homes rs)
    (ebase m L.homes b (EThen
    (EArith op (into m rd) (at_home (first_reg m) (L.homes rs)) (sp_base (second_at m L.homes) b)) k)))
    (erase_over f d v)
ehead_over f d m L tg (Bnz r v) k =
    ap (λ b. ebuild m L.homes tg
    (eload m (first_reg m) (L.homes r)
    (ebase m L.homes b (EThen (EMov (saved_reg m) (Reg (frame_reg m)))
    (EThen (EMov (frame_reg m) (Reg (made_reg m)))
    (EThen (EBnz (at_home (first_reg m) (L.homes r)) (sp_base (second_at m L.homes) b))
    (EThen (EMov (frame_reg m) (Reg (saved_reg m))) k))))))) (erase_over f d v)
ehead_over f d m L tg (Ld rd rs i) k = refl
ehead_over f d m L tg (Malloc rd ts) k = ap (λ n. EThen (EMalloc (into m rd) n) k) (over_length f d ts)
ehead_over f d m L tg (Mov rd v) k =
    ap (λ b. ebase m L.homes b (EThen (EMov (into m rd) (sp_base (second_at m L.homes) b)) k)) (erase_over f d v)
ehead_over f d m L tg (St rd i rs) k = refl
ehead_over f d m L tg (Unpack rd v) k =
    ap (λ b. ebase m L.homes b (EThen (EMov (into m rd) (sp_base (second_at m L.homes) b)) k)) (erase_over f d v)

pub ecode_over : (f : At Ty) (d e m : ℕ) (L : Layout) (n : ℕ) (nx tg : List ℕ) (i : TInstr) (c : TSeq) (k : ESeq) →
    ecode m L n nx tg (over_instr f d i) (over_seq f e c) k ≡ ecode m L n nx tg i c k
ecode_over f d e m L n nx tg i c k =
    ap₂ (λ rd w. ehead m L tg (over_instr f d i) (efinish m L rd n nx w k)) (defines_over f d i)
    (way_over f d e m L.used i c)
    ∙ ehead_over f d m L tg i (efinish m L (defines i) n nx (way m L.used i c) k)

eend_over : (f : At Ty) (d m : ℕ) (L : Layout) (tg : List ℕ) (e : TEnd) → eend m L tg (over_end f d e) ≡ eend m L tg e
eend_over f d m L tg (Jmp v) =
    ap (λ b. ebuild m L.homes tg
    (ebase m L.homes b (EThen (EMov (frame_reg m) (Reg (made_reg m))) (EJmp (sp_base (second_at m L.homes) b)))))
    (erase_over f d v)
eend_over f d m L tg Halt = refl

-- layouts depend on the registers of files alone
way_numbers : (m : ℕ) (L : Layout) (rd : ℕ) (y x : TFile) (w : Way) → highs m y ≡ highs m x →
    after_way m L rd y w ≡ after_way m L rd x w
way_numbers m L rd y x Stays e = refl
way_numbers m L rd y x Holds e = refl
way_numbers m L rd y x Fills e = refl
way_numbers m L rd y x Gathers e = ap (gathered m) e

pub after_over : (f : At Ty) (d n m : ℕ) (L : Layout) (i : TInstr) (c : TSeq) (y x : TFile) → highs m y ≡ highs m x →
    after m L (over_instr f d i) (over_seq f n c) y ≡ after m L i c x
after_over f d n m L i c y x e =
    ap₂ (λ rd w. after_way m L rd y w) (defines_over f d i) (way_over f d n m L.used i c)
    ∙ way_numbers m L (defines i) y x (way m L.used i c) e

pub numbers_over : (f : At Ty) (d : ℕ) (x : TFile) → numbers (over_file f d x) ≡ numbers x
numbers_over f d NoRegs = refl
numbers_over f d (MoreRegs r t x) = ap (λ (qs : List ℕ). r ∷ qs) (numbers_over f d x)

pub highs_over : (f : At Ty) (d m : ℕ) (x : TFile) → highs m (over_file f d x) ≡ highs m x
highs_over f d m x = ap numbers (high_over f d m x) ∙ numbers_over f d (high_part m x)

-- a type put in, through a walk
pub ins_over : (f : At Ty) (d r : ℕ) (t : Ty) (x : TFile) →
    ins r (over f d t) (over_file f d x) ≡ over_file f d (ins r t x)
ins_over f d r t NoRegs = refl
ins_over f d r t (MoreRegs q u x) = both (nat_lt r q) (nat_eq r q) (ins_over f d r t x)
  where
    both : (a b : Bool) → ins r (over f d t) (over_file f d x) ≡ over_file f d (ins r t x) →
        cond a (MoreRegs r (over f d t) (MoreRegs q (over f d u) (over_file f d x)))
        (cond b (MoreRegs r (over f d t) (over_file f d x))
        (MoreRegs q (over f d u) (ins r (over f d t) (over_file f d x))))
        ≡ over_file f d (cond a (MoreRegs r t (MoreRegs q u x)) (cond b (MoreRegs r t x) (MoreRegs q u (ins r t x))))
    both true b e = refl
    both false true e = refl
    both false false e = ap (MoreRegs q (over f d u)) e

-- what is read stays the same
value_reads_over : (f : At Ty) (d : ℕ) (v : TValue) → value_reads (over_value f d v) ≡ value_reads v
value_reads_over f d (Plain b ts) = refl
value_reads_over f d (Pack t v s) = value_reads_over f d v

reads_over : (f : At Ty) (d : ℕ) (i : TInstr) → reads (over_instr f d i) ≡ reads i
reads_over f d (Arith op rd rs v) = ap (λ (qs : List ℕ). rs ∷ qs) (value_reads_over f d v)
reads_over f d (Bnz r v) = ap (λ (qs : List ℕ). r ∷ qs) (value_reads_over f d v)
reads_over f d (Mov rd v) = value_reads_over f d v
reads_over f d (Unpack rd v) = value_reads_over f d v
reads_over f d _ = refl

end_reads_over : (f : At Ty) (d : ℕ) (e : TEnd) → end_reads (over_end f d e) ≡ end_reads e
end_reads_over f d (Jmp v) = value_reads_over f d v
end_reads_over f d Halt = refl

module _ (c : ℕ) (s : Ty) (P : TProg) (closed : ClosedLabels P) (tuples : ClosedData P) (small : Below c s) where
  lookup_at : (d : ℕ) (x : TFile) (q : ℕ) → put_known c s d (lookup x) q ≡ lookup (put_file_from c s d x) q
  lookup_at d NoRegs q = refl
  lookup_at d (MoreRegs r t x) q = at_reg (put_from c s d) (nat_eq r q) t (lookup x q)
      ∙ ap (cond (nat_eq r q) (Some (put_from c s d t))) (lookup_at d x q)

  pub known : (d : ℕ) (x : TFile) → put_known c s d (lookup x) ≡ lookup (put_file_from c s d x)
  known d x = fun_ext (λ q. lookup_at d x q)

  look_put : (d : ℕ) (x : TFile) (r : ℕ) (t : Ty) → lookup x r ≡ Some t →
      lookup (put_file_from c s d x) r ≡ Some (put_from c s d t)
  look_put d x r t e = sym (ap (λ g. g r) (known d x)) ∙ ap (option_map (put_from c s d)) e

  -- a value's type goes with the put, as that of a register that it is moved to
  has_put : (d : ℕ) (g : RegTypes) (v : TValue) (t : Ty) → c ≤ d → Has P (d + 1) g v t →
      Has P d (put_known c s d g) (over_value (putted VarTy over c s) d v) (put_from c s d t)
  has_put d g v t le h =
      let k = typed_put c s P closed tuples small (Mov 1 v) d g (with_reg g 1 t) le (t, h, refl) in
      let e : Some (put_from c s d t) ≡ Some k.0 = ap (λ f. f 1) k.2 in
      let same : put_from c s d t ≡ k.0 = cc in
      subst (Has P d (put_known c s d g) (over_value (putted VarTy over c s) d v)) (sym same) k.1

  type_put : (d : ℕ) (x : TFile) (v : TValue) (t : Ty) → c ≤ d → Has P (d + 1) (lookup x) v t →
      type_of P (put_file_from c s d x) (over_value (putted VarTy over c s) d v) ≡ put_from c s d t
  type_put d x v t le h =
      value_is P d (put_file_from c s d x) (over_value (putted VarTy over c s) d v) (put_from c s d t)
      (subst (λ g. Has P d g (over_value (putted VarTy over c s) d v) (put_from c s d t)) (known d x)
      (has_put d (lookup x) v t le h))

  ins_put : (d r : ℕ) (x : TFile) (u w t : Ty) → u ≡ put_from c s d t → w ≡ t →
      ins r u (put_file_from c s d x) ≡ put_file_from c s d (ins r w x)
  ins_put d r x u w t e k = ap (λ y. ins r y (put_file_from c s d x)) e ∙ ins_over (putted VarTy over c s) d r t x
      ∙ ap (λ y. put_file_from c s d (ins r y x)) (sym k)

  next_put : (i : TInstr) (d : ℕ) (x : TFile) (h : RegTypes) → c ≤ d → Typed P (d + 1) (lookup x) i h →
      next P (put_file_from c s d x) (over_instr (putted VarTy over c s) d i)
      ≡ put_file_from c s (names_after i d) (next P x i)
  next_put (Arith op rd rs v) d x h le k = ins_put d rd x IntTy IntTy IntTy refl refl
  next_put (Bnz r v) d x h le k = refl
  next_put (Ld rd rs i) d x h le k =
      ins_put d rd x (field_type (or_int (lookup (put_file_from c s d x) rs)) i) (field_type (or_int (lookup x rs)) i)
      k.1
      (ap (λ o. field_type (or_int o) i) (look_put d x rs (TupleTy k.0) k.2)
      ∙ ap type_in (field_over (putted VarTy over c s) d k.0 i k.1 true k.3))
      (ap (λ o. field_type (or_int o) i) k.2 ∙ ap type_in k.3)
  next_put (Malloc rd ts) d x h le k =
      ins_put d rd x (TupleTy (empty_fields (map (put_from c s d) ts))) (TupleTy (empty_fields ts))
      (TupleTy (empty_fields ts)) (ap TupleTy (sym (empty_over (putted VarTy over c s) d ts))) refl
  next_put (Mov rd v) d x h le k =
      ins_put d rd x (type_of P (put_file_from c s d x) (over_value (putted VarTy over c s) d v)) (type_of P x v) k.0
      (type_put d x v k.0 le k.1) (value_is P (d + 1) x v k.0 k.1)
  next_put (St rd i rs) d x h le k =
      ins_put d rd x (filled_type (or_int (lookup (put_file_from c s d x) rd)) i)
      (filled_type (or_int (lookup x rd)) i) (TupleTy (filled k.0 i))
      (ap (λ o. filled_type (or_int o) i) (look_put d x rd (TupleTy k.0) k.4)
      ∙ ap TupleTy (sym (filled_over (putted VarTy over c s) d k.0 i)))
      (ap (λ o. filled_type (or_int o) i) k.4)
  next_put (Unpack rd v) d x h le k =
      ap (ins rd (hidden_type (type_of P (put_file_from c s d x) (over_value (putted VarTy over c s) d v))))
      (sym (put_shifted file_over c d 1 s x le))
      ∙ ins_put (d + 1) rd (shift_file 1 0 x)
      (hidden_type (type_of P (put_file_from c s d x) (over_value (putted VarTy over c s) d v)))
      (hidden_type (type_of P x v)) k.0
      (ap hidden_type (type_put d x v (ExistsTy k.0) le k.1))
      (ap hidden_type (value_is P (d + 1) x v (ExistsTy k.0) k.1))

  -- the registers of a target
  target_put : (d : ℕ) (x : TFile) (v : TValue) → c ≤ d → Enters P (d + 1) (lookup x) v →
      numbers (target_file (type_of P (put_file_from c s d x) (over_value (putted VarTy over c s) d v)))
      ≡ numbers (target_file (type_of P x v))
  target_put d x v le k =
      ap (λ t. numbers (target_file t)) (type_put d x v (CodeTy 0 k.0) le k.1)
      ∙ numbers_over (putted VarTy over c s) (d + 0) k.0
      ∙ sym (ap (λ t. numbers (target_file t)) (value_is P (d + 1) x v (CodeTy 0 k.0) k.1))

  high_target : (m d : ℕ) (x : TFile) (v : TValue) → c ≤ d → Enters P (d + 1) (lookup x) v →
      highs m (target_file (type_of P (put_file_from c s d x) (over_value (putted VarTy over c s) d v)))
      ≡ highs m (target_file (type_of P x v))
  high_target m d x v le k =
      ap (λ t. highs m (target_file t)) (type_put d x v (CodeTy 0 k.0) le k.1)
      ∙ highs_over (putted VarTy over c s) (d + 0) m k.0
      ∙ sym (ap (λ t. highs m (target_file t)) (value_is P (d + 1) x v (CodeTy 0 k.0) k.1))

  high_same : (i : TInstr) (m d : ℕ) (x : TFile) (h : RegTypes) → c ≤ d → Typed P (d + 1) (lookup x) i h →
      highs m (target P (put_file_from c s d x) (over_instr (putted VarTy over c s) d i)) ≡ highs m (target P x i)
  high_same (Bnz r v) m d x h le k = high_target m d x v le k.1
  high_same _ m d x h le k = refl

  high_end : (e : TEnd) (m d : ℕ) (x : TFile) → c ≤ d → EndTyped P (d + 1) (lookup x) e →
      highs m (end_target P (put_file_from c s d x) (over_end (putted VarTy over c s) d e))
      ≡ highs m (end_target P x e)
  high_end (Jmp v) m d x le k = high_target m d x v le k
  high_end Halt m d x le k = refl

  target_same : (i : TInstr) (d : ℕ) (x : TFile) (h : RegTypes) → c ≤ d → Typed P (d + 1) (lookup x) i h →
      numbers (target P (put_file_from c s d x) (over_instr (putted VarTy over c s) d i)) ≡ numbers (target P x i)
  target_same (Bnz r v) d x h le k = target_put d x v le k.1
  target_same _ d x h le k = refl

  end_same : (e : TEnd) (d : ℕ) (x : TFile) → c ≤ d → EndTyped P (d + 1) (lookup x) e →
      numbers (end_target P (put_file_from c s d x) (over_end (putted VarTy over c s) d e))
      ≡ numbers (end_target P x e)
  end_same (Jmp v) d x le k = target_put d x v le k
  end_same Halt d x le k = refl

  larger : (i : TInstr) (d : ℕ) → c ≤ d → c ≤ names_after i d
  larger (Unpack rd v) d le = omega arith
  larger _ d le = le

  names_up : (i : TInstr) (d : ℕ) → names_after i (d + 1) ≡ names_after i d + 1
  names_up i d = omega (arith, names_more i d, names_more i (d + 1))

  -- a rest is accepted with what stays known
  rest_accepted : (i : TInstr) (d : ℕ) (x : TFile) (rest : TSeq) →
      (k : SeqAccepted P (d + 1) (lookup x) (Then i rest)) →
      SeqAccepted P (names_after i d + 1) (lookup (next P x i)) rest
  rest_accepted i d x rest k =
      subst (λ m. SeqAccepted P m (lookup (next P x i)) rest) (names_up i d)
      (subst (λ g. SeqAccepted P (names_after i (d + 1)) g rest) (next_is P (d + 1) x i k.0 k.1) k.2)

  -- the same registers are wanted
  live_put : (code0 : TSeq) (d : ℕ) (x : TFile) → c ≤ d → SeqAccepted P (d + 1) (lookup x) code0 →
      live P (put_file_from c s d x) (over_seq (putted VarTy over c s) d code0) ≡ live P x code0
  live_put (Then i rest) d x le k =
      let f = putted VarTy over c s in
      let m = names_after i d in
      let tail : live P (next P (put_file_from c s d x) (over_instr (putted VarTy over c s) d i))
      (over_seq (putted VarTy over c s) (names_after i d) rest) ≡ live P (next P x i) rest =
      ap (λ z. live P z (over_seq (putted VarTy over c s) (names_after i d) rest)) (next_put i d x k.0 le k.1)
      ∙ live_put rest (names_after i d) (next P x i) (larger i d le) (rest_accepted i d x rest k) in
      ap₂ (λ a b. a ++ b) (ap₂ (λ a b. a ++ b) (reads_over (putted VarTy over c s) d i) (target_same i d x k.0 le k.1))
      tail
  live_put (Ends e) d x le k = ap₂ (λ a b. a ++ b) (end_reads_over (putted VarTy over c s) d e) (end_same e d x le k)

  keep_put : (i : TInstr) (d : ℕ) (x : TFile) (rest : TSeq) → c ≤ d → SeqAccepted P (d + 1) (lookup x) (Then i rest) →
      keep (live P (next P (put_file_from c s d x) (over_instr (putted VarTy over c s) d i))
      (over_seq (putted VarTy over c s) (names_after i d) rest))
      (next P (put_file_from c s d x) (over_instr (putted VarTy over c s) d i))
      ≡ put_file_from c s (names_after i d) (keep (live P (next P x i) rest) (next P x i))
  keep_put i d x rest le k =
      let nx = next_put i d x k.0 le k.1 in
      let c2 = over_seq (putted VarTy over c s) (names_after i d) rest in
      ap (λ z. keep (live P z c2) z) nx
      ∙ ap (λ l. keep l (put_file_from c s (names_after i d) (next P x i)))
      (live_put rest (names_after i d) (next P x i) (larger i d le) (rest_accepted i d x rest k))
      ∙ keep_over (putted VarTy over c s) (names_after i d) (live P (next P x i) rest) (next P x i)

  kept_put : (i : TInstr) (d : ℕ) (x : TFile) (rest : TSeq) → c ≤ d → SeqAccepted P (d + 1) (lookup x) (Then i rest) →
      kept P (put_file_from c s d x) (over_instr (putted VarTy over c s) d i)
      (over_seq (putted VarTy over c s) (names_after i d) rest)
      ≡ put_file_from c s (names_after i d) (kept P x i rest)
  kept_put (Bnz r v) d x rest le k = refl
  kept_put i d x rest le k = keep_put i d x rest le k

  kept_highs : (m : ℕ) (i : TInstr) (d : ℕ) (x : TFile) (rest : TSeq) → c ≤ d →
      SeqAccepted P (d + 1) (lookup x) (Then i rest) →
      highs m (kept P (put_file_from c s d x) (over_instr (putted VarTy over c s) d i)
      (over_seq (putted VarTy over c s) (names_after i d) rest))
      ≡ highs m (kept P x i rest)
  kept_highs m i d x rest le k =
      ap (highs m) (kept_put i d x rest le k)
      ∙ highs_over (putted VarTy over c s) (names_after i d) m (kept P x i rest)

  kept_rest : (i : TInstr) (d : ℕ) (x : TFile) (rest : TSeq) → SeqAccepted P (d + 1) (lookup x) (Then i rest) →
      SeqAccepted P (names_after i d + 1) (lookup (kept P x i rest)) rest
  kept_rest i d x rest k = kept_accepted P i (names_after i d + 1) x rest (rest_accepted i d x rest k)

  -- what is spilled, erased, stays the same under a put
  step_put : (m : ℕ) (i : TInstr) (rest : TSeq) (L : Layout) (d : ℕ) (x : TFile) → c ≤ d →
      SeqAccepted P (d + 1) (lookup x) (Then i rest) → (t u : TSeq) → erase_seq t ≡ erase_seq u →
      erase_seq (before (step m P L (put_file_from c s d x) (over_instr (putted VarTy over c s) d i)
      (over_seq (putted VarTy over c s) (names_after i d) rest)) t)
      ≡ erase_seq (before (step m P L x i rest) u)
  step_put m i rest L d x le k t u e =
      let f = putted VarTy over c s in
      let y = put_file_from c s d x in
      let j = over_instr (putted VarTy over c s) d i in
      let r2 = over_seq (putted VarTy over c s) (names_after i d) rest in
      erase_step m P L y j r2 t
      ∙ ap₂ (λ n z. ecode m L n (highs m (kept P y j r2)) (highs m (target P y j)) j r2 z)
      (left_over f m (Then i rest) L.used d) e
      ∙ ap₂ (λ nx tg. ecode m L (slots_left m L.used (Then i rest)) nx tg j r2 (erase_seq u))
      (kept_highs m i d x rest le k) (high_same i m d x k.0 le k.1)
      ∙ ecode_over f d (names_after i d) m L (slots_left m L.used (Then i rest)) (highs m (kept P x i rest))
      (highs m (target P x i)) i rest (erase_seq u)
      ∙ sym (erase_step m P L x i rest u)

  after_put : (m : ℕ) (i : TInstr) (rest : TSeq) (L : Layout) (d : ℕ) (x : TFile) → c ≤ d →
      SeqAccepted P (d + 1) (lookup x) (Then i rest) →
      after m L (over_instr (putted VarTy over c s) d i) (over_seq (putted VarTy over c s) (names_after i d) rest)
      (kept P (put_file_from c s d x) (over_instr (putted VarTy over c s) d i) (over_seq (putted VarTy over c s)
      (names_after i d) rest))
      ≡ after m L i rest (kept P x i rest)
  after_put m i rest L d x le k =
      after_over (putted VarTy over c s) d (names_after i d) m L i rest _ (kept P x i rest)
      (kept_highs m i d x rest le k)

  pub erased_put : (m : ℕ) (code0 : TSeq) (L : Layout) (d : ℕ) (x : TFile) → c ≤ d →
      SeqAccepted P (d + 1) (lookup x) code0 →
      erase_seq (code m P L (put_file_from c s d x) (over_seq (putted VarTy over c s) d code0))
      ≡ erase_seq (code m P L x code0)
  erased_put m (Then i rest) L d x le k =
      let r2 = over_seq (putted VarTy over c s) (names_after i d) rest in
      let to = kept P x i rest in
      step_put m i rest L d x le k _ (code m P (after m L i rest to) to rest)
      (ap₂ (λ z l. erase_seq (code m P l z r2)) (kept_put i d x rest le k) (after_put m i rest L d x le k)
      ∙ erased_put m rest (after m L i rest to) (names_after i d) to (larger i d le) (kept_rest i d x rest k))
  erased_put m (Ends e) L d x le k =
      let f = putted VarTy over c s in
      let y = put_file_from c s d x in
      erase_end_code m P L y (over_end f d e)
      ∙ ap (λ tg. eend m L tg (over_end (putted VarTy over c s) d e)) (high_end e m d x le k)
      ∙ eend_over f d m L (highs m (end_target P x e)) e
      ∙ sym (erase_end_code m P L x e)

  pub sizes_put : (m : ℕ) (code0 : TSeq) (L : Layout) (d : ℕ) (x : TFile) → c ≤ d →
      SeqAccepted P (d + 1) (lookup x) code0 →
      sizes m P L (put_file_from c s d x) (over_seq (putted VarTy over c s) d code0) ≡ sizes m P L x code0
  sizes_put m (Then i rest) L d x le k =
      let y = put_file_from c s d x in
      let j = over_instr (putted VarTy over c s) d i in
      let r2 = over_seq (putted VarTy over c s) (names_after i d) rest in
      let to = kept P x i rest in
      let same = ap esize (step_put m i rest L d x le k (Ends Halt) (Ends Halt) refl) in
      let a = size_before (step m P L y j r2) (Ends Halt) in
      let b = size_before (step m P L x i rest) (Ends Halt) in
      let here : length (step m P L y j r2) ≡ length (step m P L x i rest) = omega (arith, same, a, b) in
      ap₂ (λ (n : ℕ) (ns : List ℕ). n ∷ ns) here
      (ap₂ (λ z l. sizes m P l z r2) (kept_put i d x rest le k) (after_put m i rest L d x le k)
      ∙ sizes_put m rest (after m L i rest to) (names_after i d) to (larger i d le) (kept_rest i d x rest k))
  sizes_put m (Ends e) L d x le k = refl

-- and where a block is entered with its types
module _ (P : TProg) (closed : ClosedLabels P) (tuples : ClosedData P) where
  down : (n : ℕ) (t : Ty) (x : TFile) (c : TSeq) → SeqAccepted P (n + 1) (lookup x) c → Below 0 t →
      SeqAccepted P n (lookup (put_file n (shift n 0 t) x)) (put_seq n (shift n 0 t) c)
  down n t x c h b =
      subst (λ g. SeqAccepted P n g (put_seq n (shift n 0 t) c))
      (known n (shift n 0 t) P closed tuples (below_any n t b) n x)
      (seq_put n (shift n 0 t) P closed tuples (below_any n t b) c n (lookup x) (omega arith) h)

  pub sizes_inst : (m : ℕ) (L : Layout) (ts : List Ty) (n : ℕ) (x : TFile) (c : TSeq) → length ts ≡ n →
      BelowTypes 0 ts → SeqAccepted P n (lookup x) c →
      sizes m P L (inst_file ts n x) (inst_seq ts n c) ≡ sizes m P L x c
  sizes_inst m L [] n x c len b h = refl
  sizes_inst m L (t ∷ ts) n x c len b h =
      let e : n ≡ n - 1 + 1 = omega (arith, len) in
      let h2 = subst (λ i. SeqAccepted P i (lookup x) c) e h in
      sizes_inst m L ts (n - 1) (put_file (n - 1) (shift (n - 1) 0 t) x) (put_seq (n - 1) (shift (n - 1) 0 t) c)
      (omega (arith, len)) b.1 (down (n - 1) t x c h2 b.0)
      ∙ sizes_put (n - 1) (shift (n - 1) 0 t) P closed tuples (below_any (n - 1) t b.0) m c L (n - 1) x (omega arith)
      h2

  pub erased_inst : (m : ℕ) (L : Layout) (ts : List Ty) (n : ℕ) (x : TFile) (c : TSeq) → length ts ≡ n →
      BelowTypes 0 ts → SeqAccepted P n (lookup x) c →
      erase_seq (code m P L (inst_file ts n x) (inst_seq ts n c)) ≡ erase_seq (code m P L x c)
  erased_inst m L [] n x c len b h = refl
  erased_inst m L (t ∷ ts) n x c len b h =
      let e : n ≡ n - 1 + 1 = omega (arith, len) in
      let h2 = subst (λ i. SeqAccepted P i (lookup x) c) e h in
      erased_inst m L ts (n - 1) (put_file (n - 1) (shift (n - 1) 0 t) x) (put_seq (n - 1) (shift (n - 1) 0 t) c)
      (omega (arith, len)) b.1 (down (n - 1) t x c h2 b.0)
      ∙ erased_put (n - 1) (shift (n - 1) 0 t) P closed tuples (below_any (n - 1) t b.0) m c L (n - 1) x (omega arith)
      h2

pub inst_highs : (m : ℕ) (ts : List Ty) (n : ℕ) (x : TFile) → highs m (inst_file ts n x) ≡ highs m x
inst_highs m [] n x = refl
inst_highs m (t ∷ ts) n x =
    inst_highs m ts (n - 1) (put_file (n - 1) (shift (n - 1) 0 t) x)
    ∙ highs_over (putted VarTy over (n - 1) (shift (n - 1) 0 t)) (n - 1) m x
