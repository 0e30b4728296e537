-- Values of the spilled program, and where its jumps lead.
use Rattle.std.proofs.Common.{◌≡◌, ℕ, suc, ◌-◌, ◌<◌, ◌≤◌, List, [], ◌∷◌, ◌++◌, length}
use Rattle.std.proofs.Common.{Some, refl, sym, ap, ◌∙◌, subst, arith, slice_get, inl, inr, ◌⊎◌}
use Rattle.std.specs.Prelude.{◌≢◌, option_map}
use Rattle.idx_core.specs.Over.{putted}
use Rattle.t_types.specs.Tree.{Ty, VarTy, CodeTy, TFile, over, shift, put_file}
use Rattle.t_types.specs.Fits.{FitsFile, lookup}
use Rattle.t_terms.specs.Tree.{TBase, Reg, Int, Label, Data, TValue, Plain, Pack}
use Rattle.t_terms.specs.Tree.{TSeq, TBlock, TProg}
use Rattle.t_terms.specs.Registers.{inst_file, inst_seq}
use Rattle.t_rules.specs.Rules.{Has, SeqAccepted, BlockAccepted}
use Rattle.t_rules.specs.Machine.{Word, IntWord, AddressWord, LabelWord, EmptyWord, PackWord, Heap, RegWords, At}
use Rattle.t_rules.specs.Machine.{applied, Means, Entry}
use Rattle.t_rules.specs.HeapTypes.{HeapTypes, WordHas, HeapHas, RegsHave, Rises, start_types}
use Rattle.t_rules.specs.Erase.{EWord, EInt, EAddress, ELabel, ESeq}
use Rattle.t_rules.specs.Erase.{EHeap, ERegs, EAt, erase_value, erase_seq}
use Rattle.t_rules.specs.Erase.{base_word}
use Rattle.t_rules.proofs.Puts.{ClosedLabels, ClosedData, seq_inst, file_inst}
use Rattle.t_rules.proofs.Words.{regs_fit}
use Rattle.t_spill_rules.specs.Spill.{second_reg, sp_base}
use Rattle.t_spill_rules.specs.Spill.{Home, gathered, layout, second_at}
use Rattle.t_spill_rules.specs.Spill.{code, sizes}
use Rattle.t_spill_laws.proofs.Files.{Ascends, ascends_over}
use Rattle.t_spill_laws.proofs.Homes.{UpTo, at_case, gathered_regular, regular_ready}
use Rattle.t_spill_laws.proofs.Erased.{highs}
use Rattle.t_spill_laws.proofs.Erased.{erased_inst, sizes_inst}
use Rattle.t_spill_laws.proofs.Erased.{slots_left, inst_highs}
use Rattle.t_spill_laws.proofs.Walks.{BaseAt}
use Rattle.t_spill_laws.proofs.Heaps.{image}
use Rattle.t_spill_laws.proofs.Frames.{WordAt, Alike}
use Rattle.t_spill_laws.proofs.Matching.{ELabels, Still, BlocksAscend, Matches}

image_applied : (p : List ℕ) (x w : Word) (ts : List Ty) → applied x ts ≡ Some w → image p w ≡ image p x
image_applied p x w [] e = let s : x ≡ w = cc in ap (image p) (sym s)
image_applied p (LabelWord l us) w (t ∷ ts) e = let s : LabelWord l (us ++ (t ∷ ts)) ≡ w = cc in ap (image p) (sym s)
image_applied p (IntWord i) w (t ∷ ts) e = cc
image_applied p (AddressWord a) w (t ∷ ts) e = cc
image_applied p (EmptyWord u) w (t ∷ ts) e = cc
image_applied p (PackWord u x s) w (t ∷ ts) e = cc

ascends_inst : (ts : List Ty) (n : ℕ) (x : TFile) → Ascends x → Ascends (inst_file ts n x)
ascends_inst [] n x h = h
ascends_inst (t ∷ ts) n x h =
    ascends_inst ts (n - 1) (put_file (n - 1) (shift (n - 1) 0 t) x)
    (ascends_over (putted VarTy over (n - 1) (shift (n - 1) 0 t)) (n - 1) x h)

module _ (m : ℕ) (some : 1 ≤ m) (P : TProg) (closed : ClosedLabels P) (tuples : ClosedData P)
    (blocks : (l : ℕ) (b : TBlock) → slice_get P.blocks l ≡ Some b →
    BlockAccepted P b) (B : List ESeq) (labels : ELabels m P B) (ascend : BlocksAscend P) where
  -- a value's word, spilled
  pub value_in : (p : List ℕ) (r : RegWords) (K : EHeap) (ρ : ERegs) (homes : ℕ → Home) (x : TFile) → Still P p →
      ((q : ℕ) (t : Ty) → lookup x q ≡ Some t → WordAt m p r K ρ q (homes q)) →
      (v : TValue) (t : Ty) (w : Word) → Has P 0 (lookup x) v t → Means r v w → (e : EWord)
      × BaseAt m K ρ homes (erase_value v) e × (image p w ≡ Some e)
  value_in p r K ρ homes x still has (Plain (Reg q) []) t w h a =
      let y = has q t h in
      let z : Some a.0 ≡ Some y.word = sym a.1 ∙ y.known in
      let same : a.0 ≡ y.word = cc in
      (y.eword, (y.full, y.home), image_applied p a.0 w [] a.2 ∙ ap (image p) same ∙ y.stands)
  value_in p r K ρ homes x still has (Plain (Reg q) (u ∷ us)) t w h a =
      let y = has q (CodeTy h.0 h.1) h.2 in
      let z : Some a.0 ≡ Some y.word = sym a.1 ∙ y.known in
      let same : a.0 ≡ y.word = cc in
      (y.eword, (y.full, y.home), image_applied p a.0 w (u ∷ us) a.2 ∙ ap (image p) same ∙ y.stands)
  value_in p r K ρ homes x still has (Plain (Int i) ts) t w h a = (EInt i, refl, image_applied p (IntWord i) w ts a)
  value_in p r K ρ homes x still has (Plain (Label l) ts) t w h a = (ELabel (suc l), refl, ap (image p) a)
  value_in p r K ρ homes x still has (Plain (Data d) []) t w h a =
      (EAddress d, refl, image_applied p (AddressWord d) w [] a ∙ ap (option_map EAddress) (still d h.0 h.1))
  value_in p r K ρ homes x still has (Plain (Data d) (u ∷ us)) t w h a = let e = h.2.2 in cc
  value_in p r K ρ homes x still has (Pack u v s) t w h a =
      let y = value_in p r K ρ homes x still has v h.1 a.0 h.2 a.1 in
      (y.0, y.1, ap (image p) a.2 ∙ y.2)

  pub base_kept : (σ τ : ERegs) (homes : ℕ → Home) (b : TBase) (w : EWord) → ((q : ℕ) → UpTo m (homes q)) →
      ((q : ℕ) → (q ≡ second_reg m) ⊎ (q ≤ m) → τ q ≡ σ q) →
      base_word σ (sp_base (second_at m homes) b) ≡ Some w → base_word τ (sp_base (second_at m homes) b) ≡ Some w
  base_kept σ τ homes (Reg r) w up s h = s (second_at m homes r) (at_case (second_reg m) m (homes r) (up r)) ∙ h
  base_kept σ τ homes (Int i) w up s h = h
  base_kept σ τ homes (Label l) w up s h = h
  base_kept σ τ homes (Data d) w up s h = h

  pub far_from : (y x : ℕ) → m < y → y ≢ second_reg m → (x ≡ second_reg m) ⊎ (x ≤ m) → x ≢ y
  far_from y x lt ne (inl e) z = ne (sym z ∙ e)
  far_from y x lt ne (inr le) z = absurd (omega (arith, le, lt, z))

  -- where a jump leads
  pub record Arrives (p : List ℕ) (h : Heap) (r : RegWords) (K : EHeap) (σ : ERegs) (w : Word) : Type 0 where
    pub l : ℕ
    pub c : TSeq
    pub ec : ESeq
    pub entry : Entry P w l c
    pub label : image p w ≡ Some (ELabel (suc l))
    pub block : slice_get B (suc l) ≡ Some ec
    pub there : Matches m P (At h r c) (EAt K σ ec)
    pub sized : (b : TBlock) × (slice_get P.blocks l ≡ Some b)
        × (sizes m P there.lay there.file c ≡ sizes m P (layout m b.file) b.file b.code)

  pub arrives : (q : HeapTypes) (p : List ℕ) (x file : TFile) (h : Heap) (r : RegWords) (K : EHeap) (σ : ERegs)
      (w : Word) → HeapHas P q h → RegsHave P q (lookup x) r → Rises (start_types P) q → Still P p →
      FitsFile (lookup x) file → WordHas P q w (CodeTy 0 file) → ((n : ℕ) → Alike m p file (layout m file) n h r K σ) →
      Arrives p h r K σ w
  arrives q p x file h r K σ (IntWord i) heap regs up still fits hw sim = cc
  arrives q p x file h r K σ (AddressWord a) heap regs up still fits hw sim = let e = hw.3 in cc
  arrives q p x file h r K σ (EmptyWord u) heap regs up still fits hw sim = absurd hw
  arrives q p x file h r K σ (PackWord u w s) heap regs up still fits hw sim = let e = hw.2 in let e2 = hw.3 in cc
  arrives q p x file h r K σ (LabelWord l ts) heap regs up still fits hw sim =
      let e = hw.3 in
      let le = hw.2 in
      let z : 0 ≡ hw.0.owes - length ts = cc in
      let same : file ≡ inst_file ts hw.0.owes hw.0.file = cc in
      let all : length ts ≡ hw.0.owes = omega (arith, z, le) in
      let c = inst_seq ts hw.0.owes hw.0.code in
      let L = layout m hw.0.file in
      let n = slots_left m 0 (inst_seq ts hw.0.owes hw.0.code) in
      let e2 = erased_inst P closed tuples m (layout m hw.0.file) ts hw.0.owes hw.0.file hw.0.code all hw.4
      (blocks l hw.0 hw.1).1 in
      let lays : layout m file ≡ layout m hw.0.file =
      ap (gathered m) (ap (highs m) same ∙ inst_highs m ts hw.0.owes hw.0.file) in
      record {
        l = l;
        c = c;
        ec = erase_seq (code m P (layout m hw.0.file) hw.0.file hw.0.code);
        entry = (ts, hw.0, refl, hw.1, all, refl);
        label = refl;
        block = labels l hw.0 hw.1;
        there = record {
          types = q;
          places = p;
          file = inst_file ts hw.0.owes hw.0.file;
          lay = layout m hw.0.file;
          eheap = K;
          eregs = σ;
          heap = heap;
          regs = subst (λ y. RegsHave P q (lookup y) r) same (regs_fit P q (lookup x) file r regs fits);
          acc = subst (λ g. SeqAccepted P 0 g (inst_seq ts hw.0.owes hw.0.code)) (file_inst ts hw.0.owes hw.0.file)
              (seq_inst P closed tuples ts hw.0.owes (lookup hw.0.file) hw.0.code all hw.4 (blocks l hw.0 hw.1).1);
          up = up;
          still = still;
          asc = ascends_inst ts hw.0.owes hw.0.file (ascend l hw.0 hw.1);
          alike = subst (λ y. Alike m p y (layout m hw.0.file) n h r K σ) same
              (subst (λ k. Alike m p file k n h r K σ) lays (sim n));
          ready = regular_ready m (layout m hw.0.file) (inst_seq ts hw.0.owes hw.0.code)
              (gathered_regular m (highs m hw.0.file));
          is = ap (EAt K σ) (sym e2);
        };
        sized = (
          hw.0,
          hw.1,
          sizes_inst P closed tuples m (layout m hw.0.file) ts hw.0.owes hw.0.file hw.0.code all hw.4
              (blocks l hw.0 hw.1).1,
        );
      }
