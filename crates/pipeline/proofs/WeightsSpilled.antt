-- Frames and slots keep the weight; the block that makes the first frame jumps.
use Rattle.std.proofs.Common.{◌≡◌, ℕ, zero, suc, ◌+◌, List, [], ◌∷◌, length, refl, ap, ◌∙◌, arith}
use Rattle.t_types.specs.Tree.{Ty, TFile}
use Rattle.t_terms.specs.Tree.{Reg, Int, Label, Data, TValue, Plain, Pack, TInstr, Arith, Bnz, Ld, Malloc, Mov}
use Rattle.t_terms.specs.Tree.{St, Unpack, Jmp, Halt, TSeq, Then, Ends, TBlock, TProg}
use Rattle.t_spill_rules.specs.Spill.{first_reg, second_reg, made_reg, frame_reg, high_part, numbers, reg}
use Rattle.t_spill_rules.specs.Spill.{Home}
use Rattle.t_spill_rules.specs.Spill.{Held, InFrame, InSlot, Layout, homed, layout, load, load_value}
use Rattle.t_spill_rules.specs.Spill.{second_at}
use Rattle.t_spill_rules.specs.Spill.{before, fill, build, into, Way, Stays, Holds, Fills, Gathers, way, after, slots}
use Rattle.t_spill_rules.specs.Spill.{fill_slot}
use Rattle.t_spill_rules.specs.Spill.{finish, does, target, defines, step, code, kept, sp_value, sp_blocks}
use Rattle.t_spill_rules.specs.Spill.{target_file, type_of, lows, spilled}
use Rattle.t_spill_rules.proofs.Parts.{before_both, loading, step_is}
use Rattle.pipeline.specs.Weights.{Weights, instr_weight, seq_weight, blocks_weight}

module _ (w : Weights) (m : ℕ) where
  of_load : (t : ℕ) (x : Home) (rest : TSeq) → seq_weight w (before (load m t x) rest) ≡ seq_weight w rest
  of_load t (Held q) rest = refl
  of_load t (InFrame i) rest = omega arith
  of_load t (InSlot i) rest = omega arith

  of_value : (homes : ℕ → Home) (v : TValue) (rest : TSeq) →
      seq_weight w (before (load_value m homes v) rest) ≡ seq_weight w rest
  of_value homes (Plain (Reg r) ts) rest = of_load (second_reg m) (homes r) rest
  of_value homes (Plain (Int i) ts) rest = refl
  of_value homes (Plain (Label l) ts) rest = refl
  of_value homes (Plain (Data d) ts) rest = refl
  of_value homes (Pack t v s) rest = of_value homes v rest

  of_fill : (homes : ℕ → Home) (qs : List ℕ) (j : ℕ) (rest : TSeq) →
      seq_weight w (before (fill m homes qs j) rest) ≡ seq_weight w rest
  of_fill homes [] j rest = refl
  of_fill homes (q ∷ qs) j rest =
      let next = before (fill m homes qs (suc j)) rest in
      let s = ap (seq_weight w) (before_both (load m (second_reg m) (homes q))
      (St (made_reg m) j (second_at m homes q) ∷ fill m homes qs (suc j)) rest) in
      let x = of_load (second_reg m) (homes q) (Then (St (made_reg m) j (second_at m homes q)) next) in
      let r = of_fill homes qs (suc j) rest in
      omega (arith, s, x, r)

  of_build : (homes : ℕ → Home) (high : TFile) (rest : TSeq) →
      seq_weight w (before (build m homes high) rest) ≡ seq_weight w rest
  of_build homes high rest = let x = of_fill homes (numbers high) 0 rest in omega (arith, x)

  of_slot : (used : ℕ) (ts : List Ty) (rest : TSeq) →
      seq_weight w (before (fill_slot m used ts) rest) ≡ seq_weight w rest
  of_slot zero ts rest = omega arith
  of_slot (suc j) ts rest = omega arith

  of_finish : (L : Layout) (rd : ℕ) (ts : List Ty) (to : TFile) (a : Way) (rest : TSeq) →
      seq_weight w (before (finish m L rd ts to a) rest) ≡ seq_weight w rest
  of_finish L rd ts to Stays rest = refl
  of_finish L rd ts to Holds rest = refl
  of_finish L rd ts to Fills rest = of_slot L.used ts rest
  of_finish L rd ts to Gathers rest =
      let homes : ℕ → Home = homed L.homes rd (Held (into m rd)) in
      let s = ap (seq_weight w) (before_both (build m (homed L.homes rd (Held (into m rd))) (high_part m to))
      (Mov (frame_reg m) (reg (made_reg m)) ∷ []) rest) in
      let x = of_build homes (high_part m to) (Then (Mov (frame_reg m) (reg (made_reg m))) rest) in
      omega (arith, s, x)

  -- operands are loaded in front of an instruction
  of_loading : (homes : ℕ → Home) (high : TFile) (i : TInstr) (rest : TSeq) →
      seq_weight w (loading m homes high i rest) ≡ seq_weight w rest
  of_loading homes high (Arith op rd rs v) rest = of_load (first_reg m) (homes rs) _ ∙ of_value homes v rest
  of_loading homes high (Bnz r v) rest =
      of_build homes high _ ∙ of_load (first_reg m) (homes r) _ ∙ of_value homes v rest
  of_loading homes high (Ld rd rs i) rest = of_load (first_reg m) (homes rs) rest
  of_loading homes high (Malloc rd ts) rest = refl
  of_loading homes high (Mov rd v) rest = of_value homes v rest
  of_loading homes high (St rd i rs) rest = of_load (first_reg m) (homes rd) _ ∙ of_load (second_reg m) (homes rs) rest
  of_loading homes high (Unpack rd v) rest = of_value homes v rest

  of_does : (homes : ℕ → Home) (i : TInstr) (rest : TSeq) →
      seq_weight w (before (does m homes i) rest) ≡ instr_weight w i + seq_weight w rest
  of_does homes (Bnz r v) rest = omega arith
  of_does homes i rest = omega arith

  of_step : (i : TInstr) (P : TProg) (L : Layout) (file : TFile) (c rest : TSeq) →
      seq_weight w (before (step m P L file i c) rest) ≡ instr_weight w i + seq_weight w rest
  of_step i P L file c rest =
      let high = high_part m (target P file i) in
      let ts = slots m P L.used file (Then i c) in
      let s = ap (seq_weight w) (step_is m P L file i c rest) in
      let last = before (finish m L (defines i) ts (kept P file i c) (way m L.used i c)) rest in
      let x = of_loading L.homes high i (before (does m L.homes i) last) in
      let y = of_does L.homes i last in
      let z = of_finish L (defines i) ts (kept P file i c) (way m L.used i c) rest in
      omega (arith, s, x, y, z)

  of_code : (c : TSeq) (P : TProg) (L : Layout) (file : TFile) → seq_weight w (code m P L file c) ≡ seq_weight w c
  of_code (Then i rest) P L file =
      let to = kept P file i rest in
      let x = of_step i P L file rest (code m P (after m L i rest to) to rest) in
      let y = of_code rest P (after m L i rest to) to in
      omega (arith, x, y)
  of_code (Ends (Jmp v)) P L file =
      let last : TSeq = Then (Mov (frame_reg m) (reg (made_reg m)))
      (Ends (Jmp (sp_value m (second_at m L.homes) v))) in
      let x = of_build L.homes (high_part m (target_file (type_of P file v))) (before (load_value m L.homes v) last) in
      let y = of_value L.homes v last in
      omega (arith, x, y)
  of_code (Ends Halt) P L file = refl

  of_blocks : (bs : List TBlock) (P : TProg) → blocks_weight w (sp_blocks m P bs) ≡ blocks_weight w bs
  of_blocks [] P = refl
  of_blocks (b ∷ bs) P =
      let x = of_code b.code P (layout m b.file) b.file in let r = of_blocks bs P in omega (arith, x, r)

pub spilled_weight : (w : Weights) (k : ℕ) (P : TProg) →
    blocks_weight w (spilled k P).blocks ≡ w.jump + blocks_weight w P.blocks
spilled_weight w k P = let x = of_blocks w (lows k) P.blocks P in omega (arith, x)

same_length : (m : ℕ) (bs : List TBlock) (P : TProg) → length (sp_blocks m P bs) ≡ length bs
same_length m [] P = refl
same_length m (b ∷ bs) P = ap suc (same_length m bs P)

pub one_more : (k : ℕ) (P : TProg) → length (spilled k P).blocks ≡ suc (length P.blocks)
one_more k P = ap suc (same_length (lows k) P.blocks P)
