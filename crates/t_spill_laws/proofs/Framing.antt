-- Frames and slots in the typing of the spilled program: operands are read, frames are made, words are put away.
use Rattle.std.proofs.Common.{◌≡◌, ℕ, zero, suc, ◌+◌, ◌-◌, ◌≤◌, true, false, List, [], ◌∷◌, ◌++◌, length}
use Rattle.std.proofs.Common.{map, Some, refl, sym, ap, ap₂, ◌∙◌, subst, arith, ⊎_elim, slice_get}
use Rattle.std.specs.Prelude.{◌≢◌, option_map}
use Rattle.std.proofs.lemmas.Bool.{cases_eq}
use Rattle.std.proofs.lemmas.List.{length-map, length-append}
use Rattle.t_types.specs.Tree.{Ty, CodeTy, TupleTy, TFile, NoRegs, MoreRegs, TFields}
use Rattle.t_types.specs.Tree.{MoreFields, put, BelowFile, BelowTypes}
use Rattle.t_types.specs.Fields.{AField, field, filled, empty_fields}
use Rattle.t_types.specs.Fits.{Fits, FitsFile, RegTypes, lookup}
use Rattle.t_types.proofs.FitsLaws.{filled_field, fits_same}
use Rattle.t_terms.specs.Tree.{TBase, Reg, Int, Label, Data, TValue, Plain, Pack, Mov}
use Rattle.t_terms.specs.Tree.{TSeq, Then, TBlock, TData, TProg}
use Rattle.t_terms.specs.Registers.{with_reg}
use Rattle.t_rules.specs.Rules.{BaseHas, Has, SeqAccepted}
use Rattle.t_spill_rules.specs.Spill.{high_part, frame, cells, frame_reg, slot_reg, first_reg, second_reg, made_reg}
use Rattle.t_spill_rules.specs.Spill.{sp, sp_regs, sp_file, sp_base, sp_value}
use Rattle.t_spill_rules.specs.Spill.{reg, numbers, before}
use Rattle.t_spill_rules.specs.Spill.{Home, Held, InFrame, InSlot, Layout, homed, layout, at_home, load, load_value}
use Rattle.t_spill_rules.specs.Spill.{second_at, fill, build, gather, into, Way, Stays, Holds, Fills, Gathers}
use Rattle.t_spill_rules.specs.Spill.{after_way, slots_by, used_by, fill_slot, finish, sp_block}
use Rattle.t_spill_rules.specs.Spill.{sp_data}
use Rattle.t_spill_laws.proofs.TypeLaws.{sp_put, sp_inst, fits_sp, below_high}
use Rattle.t_spill_laws.proofs.TypeLaws.{below_cells, below_sp, below_regs, below_types, data_sp}
use Rattle.t_spill_laws.proofs.Files.{look_same, look_other}
use Rattle.t_spill_laws.proofs.Files.{fits_high, prefix, prefix_more, field_prefix}
use Rattle.t_spill_rules.proofs.HighParts.{high_regs}
use Rattle.t_spill_rules.proofs.Parts.{joined}
use Rattle.t_spill_laws.proofs.Files.{filled_prefix}
use Rattle.t_spill_laws.proofs.Homes.{Sound, Others, Nearly, nearly_held, UpTo, into_high, into_low}
use Rattle.t_spill_laws.proofs.Homes.{homed_up, WayFits}
use Rattle.t_spill_laws.proofs.Located.{HomeHas, Located, located_same, entered_at, Room, open_more, open_empty}
use Rattle.t_spill_laws.proofs.Located.{field_true, open_filled, Loaded, Defined, defined_at}

-- each block of P is one further on in Q, spilled
abbrev pub Labels : ℕ → TProg → TProg → Type 0
Labels m P Q = (l : ℕ) (b : TBlock) → slice_get P.blocks l ≡ Some b →
    slice_get Q.blocks (suc l) ≡ Some (sp_block m P b)

-- and each data tuple stands where it stood
abbrev pub Tuples : ℕ → TProg → TProg → Type 0
Tuples m P Q = (d : ℕ) (x : TData) → slice_get P.heap d ≡ Some x → slice_get Q.heap d ≡ Some (sp_data m x)

module _ (m : ℕ) (P Q : TProg) (labels : Labels m P Q) (tuples : Tuples m P Q) where
  pub base_sp : (file : TFile) (g : RegTypes) (at : ℕ → ℕ) (b : TBase) (t : Ty) (ts : List Ty) →
      Loaded m file g at (Plain b ts) →
      BaseHas P (lookup file) b t → BaseHas Q g (sp_base at b) (sp m t)
  base_sp file g at (Reg r) t ts k h = k t h
  base_sp file g at (Int i) t ts k h = ap (sp m) h
  base_sp file g at (Label l) t ts k h = (sp_block m P h.0, labels l h.0 h.1, ap (sp m) h.2)
  base_sp file g at (Data d) t ts k h = (sp_data m h.0, tuples d h.0 h.1, ap (sp m) h.2 ∙ ap TupleTy (data_sp m h.0))

  pub value_sp : (n : ℕ) (file : TFile) (g : RegTypes) (at : ℕ → ℕ) (v : TValue) (t : Ty) → Loaded m file g at v →
      Has P n (lookup file) v t → Has Q n g (sp_value m at v) (sp m t)
  value_sp n file g at (Plain b []) t k h = base_sp file g at b t [] k h
  value_sp n file g at (Plain b (u ∷ us)) t k h =
      let len : length (map (sp m) us) ≡ length us = length-map us (sp m) in
      let most : suc (length us) ≤ h.0 = h.3 in
      let left : h.0 - suc (length us) ≡ h.0 - suc (length (map (sp m) us)) = omega arith in (
        h.0,
        sp_file m h.1,
        base_sp file g at b (CodeTy h.0 h.1) (u ∷ us) k h.2,
        omega arith,
        ap (sp m) h.4 ∙ ap₂ CodeTy left (sp_inst m (u ∷ us) h.0 h.1),
        below_types m n (u ∷ us) h.5,
      )
  value_sp n file g at (Pack hidden v shape) t k h = (
    sp m h.0,
    sp m h.1,
    value_sp n file g at v h.1 k h.2,
    ap (sp m) h.3,
    subst (Fits (sp m h.1)) (sp_put m 0 hidden h.0) (fits_sp m h.1 (put 0 hidden h.0) h.4),
    ap (sp m) h.5,
    below_sp m n hidden h.6,
    below_sp m n shape h.7,
  )

  -- an operand is read
  pub load_ok : (n t : ℕ) (g : RegTypes) (x : Home) (u : Ty) (rest : TSeq) → HomeHas m g x u →
      ((h : RegTypes) → h (at_home t x) ≡ Some u → ((q : ℕ) → q ≢ t → h q ≡ g q) → SeqAccepted Q n h rest) →
      SeqAccepted Q n g (before (load m t x) rest)
  load_ok n t g (Held q) u rest e go = go g e (λ p ne. refl)
  load_ok n t g (InFrame i) u rest e go =
      (with_reg g t u, (e.0, u, e.1, e.2, refl), go (with_reg g t u) (look_same g t u) (λ q ne. look_other g t q u ne))
  load_ok n t g (InSlot i) u rest e go =
      (with_reg g t u, (e.0, u, e.1, e.2, refl), go (with_reg g t u) (look_same g t u) (λ q ne. look_other g t q u ne))

  pub load_value_ok : (file : TFile) (homes : ℕ → Home) (g : RegTypes) (v : TValue) (t : Ty) (n : ℕ) (rest : TSeq) →
      Has P n (lookup file) v t → Located m homes (lookup file) g →
      ((h : RegTypes) → Loaded m file h (second_at m homes) v → ((q : ℕ) → q ≢ second_reg m → h q ≡ g q) →
      SeqAccepted Q n h rest) →
      SeqAccepted Q n g (before (load_value m homes v) rest)
  load_value_ok file homes g (Plain (Reg r) []) t n rest h l go =
      load_ok n (second_reg m) g (homes r) (sp m t) rest (l r t h)
      (λ k e o. go k (λ u x. let s : Some t ≡ Some u = sym h ∙ x in e ∙ ap (option_map (sp m)) s) o)
  load_value_ok file homes g (Plain (Reg r) (u ∷ us)) t n rest h l go =
      let c = CodeTy h.0 h.1 in
      load_ok n (second_reg m) g (homes r) (sp m (CodeTy h.0 h.1)) rest (l r (CodeTy h.0 h.1) h.2)
      (λ k e o. go k (λ w x. let s : Some (CodeTy h.0 h.1) ≡ Some w = sym h.2 ∙ x in e ∙ ap (option_map (sp m)) s) o)
  load_value_ok file homes g (Plain (Int i) ts) t n rest h l go = go g tt (λ q ne. refl)
  load_value_ok file homes g (Plain (Label l2) ts) t n rest h l go = go g tt (λ q ne. refl)
  load_value_ok file homes g (Plain (Data d) ts) t n rest h l go = go g tt (λ q ne. refl)
  load_value_ok file homes g (Pack hidden v shape) t n rest h l go = load_value_ok file homes g v h.1 n rest h.2 l go

  -- a frame is filled
  pub fill_ok : (homes : ℕ → Home) (k : RegTypes) (to : TFile) (g : RegTypes) (done : List Ty) (j n : ℕ)
      (rest : TSeq) →
      ((r : ℕ) → UpTo (m + 3) (homes r)) → Located m homes k g → FitsFile k to → j ≡ length done →
      g (made_reg m) ≡ Some (TupleTy (prefix done (empty_fields (cells (sp_regs m to))))) →
      ((h : RegTypes) → h (made_reg m) ≡ Some (TupleTy (prefix done (frame (sp_regs m to)))) →
      ((q : ℕ) → q ≢ second_reg m → q ≢ made_reg m → h q ≡ g q) → SeqAccepted Q n h rest) →
      SeqAccepted Q n g (before (fill m homes (numbers to) j) rest)
  fill_ok homes k NoRegs g done j n rest up l fits len five go = go g five (λ q a b. refl)
  fill_ok homes k (MoreRegs q u to) g done j n rest up l fits len five go =
      let w = fits.0.0 in
      joined (SeqAccepted Q n g) (load m (second_reg m) (homes q)) _ rest
      (load_ok n (second_reg m) g (homes q) (sp m fits.0.0) _ (l q fits.0.0 fits.0.1) (λ g1 at o.
      let fs = prefix done (MoreFields (sp m u) false (empty_fields (cells (sp_regs m to)))) in
      let fs2 = prefix (done ++ (sp m u ∷ [])) (empty_fields (cells (sp_regs m to))) in
      let g2 : RegTypes = with_reg g1 (made_reg m)
      (TupleTy (prefix (done ++ (sp m u ∷ [])) (empty_fields (cells (sp_regs m to))))) in
      let five1 : g1 (made_reg m) ≡ Some (TupleTy fs) = o (made_reg m) (λ x. absurd (omega arith)) ∙ five in
      let here : field fs j ≡ Some (AField (sp m u) false) =
      subst (λ i. field fs i ≡ Some (AField (sp m u) false)) (sym len)
      (field_prefix done (sp m u) false (empty_fields (cells (sp_regs m to)))) in
      let more : fs2 ≡ filled fs j =
      prefix_more done (sp m u) (empty_fields (cells (sp_regs m to)))
      ∙ sym (filled_prefix done (sp m u) false (empty_fields (cells (sp_regs m to)))) ∙ ap (filled fs) (sym len) in
      let same : (p : ℕ) → p ≢ second_reg m → p ≢ made_reg m →
      g2 p ≡ g p = λ p a b. look_other g1 (made_reg m) p (TupleTy fs2) b ∙ o p a in
      let len2 : suc j ≡ length (done ++ (sp m u ∷ [])) = omega (arith, len, length-append done (sp m u ∷ [])) in (
        g2,
        (
          fs,
          sp m u,
          false,
          sp m fits.0.0,
          five1,
          here,
          at,
          fits_sp m fits.0.0 u fits.0.2,
          ap (λ z. with_reg g1 (made_reg m) (TupleTy z)) more,
        ),
        fill_ok homes k to g2 (done ++ (sp m u ∷ [])) (suc j) n rest up
            (located_same m (m + 3) homes k g g2 (omega arith) up
            (λ p le. same p (λ x. absurd (omega arith)) (λ x. absurd (omega arith))) l) fits.1 len2
            (look_same g1 (made_reg m) (TupleTy fs2))
            (λ h x z. go h (x ∙ ap (λ y. Some (TupleTy y)) (prefix_more done (sp m u) (frame (sp_regs m to))))
            (λ p a b. z p a b ∙ same p a b)),
      )))

  -- and made
  pub build_ok : (homes : ℕ → Home) (k : RegTypes) (to : TFile) (g : RegTypes) (n : ℕ) (rest : TSeq) →
      ((r : ℕ) → UpTo (m + 3) (homes r)) →
      Located m homes k g → FitsFile k to → BelowFile n to →
      ((h : RegTypes) → h (made_reg m) ≡ Some (TupleTy (frame (high_part m (sp_regs m to)))) →
      ((q : ℕ) → q ≢ second_reg m → q ≢ made_reg m → h q ≡ g q) → SeqAccepted Q n h rest) →
      SeqAccepted Q n g (before (build m homes (high_part m to)) rest)
  build_ok homes k to g n rest up l fits small go =
      let high = high_part m to in
      let t = TupleTy (empty_fields (cells (sp_regs m (high_part m to)))) in
      let g1 : RegTypes = with_reg g (made_reg m) (TupleTy (empty_fields (cells (sp_regs m (high_part m to))))) in
      let same : (p : ℕ) → p ≢ made_reg m → g1 p ≡ g p = λ p a. look_other g (made_reg m) p t a in (
        g1,
        (refl, below_cells n (sp_regs m high) (below_regs m n high (below_high n m to small))),
        fill_ok homes k high g1 [] 0 n rest up
            (located_same m (m + 3) homes k g g1 (omega arith) up (λ p le. same p (λ x. absurd (omega arith))) l)
            (fits_high k m to fits) refl (look_same g (made_reg m) t)
            (λ h x o. go h (x ∙ ap (λ y. Some (TupleTy (frame y))) (sym (high_regs m m to)))
            (λ p a b. o p a b ∙ same p b)),
      )

  -- a frame in the place of the old one
  pub gather_ok : (homes : ℕ → Home) (k : RegTypes) (to : TFile) (g : RegTypes) (n : ℕ) (rest : TSeq) →
      ((r : ℕ) → UpTo (m + 3) (homes r)) →
      ((r : ℕ) (t : Ty) → r ≤ m → k r ≡ Some t → g r ≡ Some (sp m t)) → Located m homes k g → FitsFile k to →
      BelowFile n to →
      ((r : ℕ) (t : Ty) → lookup to r ≡ Some t → k r ≡ Some t) →
      ((h : RegTypes) → Located m (layout m to).homes (lookup to) h → (t : Ty) × (h (frame_reg m) ≡ Some t) →
      SeqAccepted Q n h rest) →
      SeqAccepted Q n g (before (gather m homes (high_part m to)) rest)
  gather_ok homes k to g n rest up low l fits small sub go =
      joined (SeqAccepted Q n g) (build m homes (high_part m to)) _ rest
      (build_ok homes k to g n (Then (Mov (frame_reg m) (reg (made_reg m))) rest) up l fits small (λ h e o.
      let t = TupleTy (frame (high_part m (sp_regs m to))) in
      let h2 : RegTypes = with_reg h (frame_reg m) t in
      let one : h2 (frame_reg m) ≡ Some t = look_same h (frame_reg m) t in (
        h2,
        (t, e, refl),
        go h2
            (entered_at m to k h2 sub (λ r u le z. look_other h (frame_reg m) r t (λ x. absurd (omega arith))
            ∙ o r (λ x. absurd (omega arith)) (λ x. absurd (omega arith)) ∙ low r u le z) one)
            (t, one),
      )))

  -- a word goes into the next slot
  pub slot_home : (used rd r : ℕ) (g : RegTypes) (fs : TFields) (x : Home) (t : Ty) → Sound m (suc used) r x →
      g (slot_reg m) ≡ Some (TupleTy fs) →
      HomeHas m g x t → HomeHas m (with_reg g (slot_reg m) (TupleTy (filled fs (suc used)))) x t
  slot_home used rd r g fs (Held q) t s f e = let same = s.0 in
      look_other g (slot_reg m) q _ (λ z. absurd (omega (arith, same, z, s.1))) ∙ e
  slot_home used rd r g fs (InFrame i) t s f e =
      (e.0, look_other g (slot_reg m) (frame_reg m) _ (λ z. absurd (omega arith)) ∙ e.1, e.2)
  slot_home used rd r g fs (InSlot i) t s f e =
      let a : Some (TupleTy e.0) ≡ Some (TupleTy fs) = sym e.1 ∙ f in
      let b : e.0 ≡ fs = cc in (
        filled fs (suc used),
        look_same g (slot_reg m) _,
        field_true m fs i (suc used) t (subst (λ z. field z i ≡ Some (AField t true)) b e.2),
      )

  pub first_home : (r : ℕ) (g : RegTypes) (w : Ty) (x : Home) (t : Ty) → Sound m 0 r x → HomeHas m g x t →
      HomeHas m (with_reg g (slot_reg m) w) x t
  first_home r g w (Held q) t s e = let same = s.0 in
      look_other g (slot_reg m) q w (λ z. absurd (omega (arith, same, z, s.1))) ∙ e
  first_home r g w (InFrame i) t s e =
      (e.0, look_other g (slot_reg m) (frame_reg m) w (λ z. absurd (omega arith)) ∙ e.1, e.2)
  first_home r g w (InSlot i) t s e = let lt = s.1 in absurd (omega (arith, lt))

  abbrev pub Goes : ℕ → Layout → ℕ → RegTypes → List Ty → TSeq → Type 0
  Goes n L rd k ts rest = (h : RegTypes) → Located m (homed L.homes rd (InSlot L.used)) k h →
      Room m (suc L.used) h ts → (t : Ty) × (h (frame_reg m) ≡ Some t) → SeqAccepted Q n h rest

  pub slot_ok : (homes : ℕ → Home) (used rd : ℕ) (u : Ty) (k k2 : RegTypes) (ts : List Ty) (g : RegTypes) (n : ℕ)
      (rest : TSeq) →
      Others m (record { homes = homes; used = used }) rd → g (first_reg m) ≡ Some (sp m u) →
      ((r : ℕ) (t : Ty) → r ≢ rd → k r ≡ Some t → HomeHas m g (homes r) (sp m t)) → k2 ≡ with_reg k rd u →
      Room m used g (sp m u ∷ ts) → BelowTypes n (sp m u ∷ ts) →
      (t : Ty) × (g (frame_reg m) ≡ Some t) → Goes n (record { homes = homes; used = used }) rd k2 ts rest →
      SeqAccepted Q n g (before (fill_slot m used (sp m u ∷ ts)) rest)
  slot_ok homes zero rd u k k2 ts g n rest reg t1 old same room small fr go =
      let fs = MoreFields (sp m u) false (empty_fields ts) in
      let w = TupleTy (MoreFields (sp m u) false (empty_fields ts)) in
      let w2 = TupleTy (MoreFields (sp m u) true (empty_fields ts)) in
      let g1 : RegTypes = with_reg g (slot_reg m) (TupleTy (MoreFields (sp m u) false (empty_fields ts))) in
      let g2 : RegTypes = with_reg g1 (slot_reg m) (TupleTy (MoreFields (sp m u) true (empty_fields ts))) in
      let two : g2 (slot_reg m) ≡ Some w2 = look_same g1 (slot_reg m) w2 in
      let fr2 : g2 (frame_reg m) ≡ Some fr.0 = look_other g1 (slot_reg m) (frame_reg m) w2 (λ z. absurd (omega arith))
      ∙ look_other g (slot_reg m) (frame_reg m) w (λ z. absurd (omega arith)) ∙ fr.1 in (
        g1,
        (refl, small),
        (
          g2,
          (
            fs,
            sp m u,
            false,
            sp m u,
            look_same g (slot_reg m) w,
            refl,
            look_other g (slot_reg m) (first_reg m) w (λ z. absurd (omega arith)) ∙ t1,
            fits_same (sp m u),
            refl,
          ),
          go g2
              (defined_at m (record { homes = homes; used = 0 }) rd u k k2 g2 (InSlot 0)
              (MoreFields (sp m u) true (empty_fields ts), two, refl)
              (λ r t ne e. first_home r g1 w2 (homes r) (sp m t) (reg r ne)
              (first_home r g w (homes r) (sp m t) (reg r ne) (old r t ne e))) same) (
                MoreFields (sp m u) true (empty_fields ts),
                two,
                open_more m (sp m u) true (empty_fields ts) 0 ts (open_empty m ts),
              )
              (fr.0, fr2),
        ),
      )
  slot_ok homes (suc j) rd u k k2 ts g n rest reg t1 old same room small fr go =
      let fs = room.0 in
      let o = room.2 in
      let w = TupleTy (filled room.0 (suc j)) in
      let g2 : RegTypes = with_reg g (slot_reg m) (TupleTy (filled room.0 (suc j))) in
      let two : g2 (slot_reg m) ≡ Some w = look_same g (slot_reg m) w in (
        g2,
        (fs, sp m u, room.2.0.0, sp m u, room.1, room.2.0.1, t1, fits_same (sp m u), refl),
        go g2
            (defined_at m (record { homes = homes; used = suc j }) rd u k k2 g2 (InSlot (suc j))
            (filled room.0 (suc j), two, filled_field room.0 (suc j) (sp m u) room.2.0.0 room.2.0.1)
            (λ r t ne e. slot_home j rd r g room.0 (homes r) (sp m t) (reg r ne) room.1 (old r t ne e)) same)
            (filled room.0 (suc j), two, open_filled m room.0 (suc j) (suc (suc j)) ts room.2.1)
            (fr.0, look_other g (slot_reg m) (frame_reg m) w (λ z. absurd (omega arith)) ∙ fr.1),
      )

  -- what becomes of the word
  pub finish_ok : (L : Layout) (rd : ℕ) (u v : Ty) (k k2 : RegTypes) (ts : List Ty) (to : TFile) (c : TSeq) (w : Way)
      (g : RegTypes) (n : ℕ) (rest : TSeq) →
      Nearly m L rd → WayFits m L.used rd c w → Defined m L rd u k g → k2 ≡ with_reg k rd u → v ≡ sp m u → FitsFile
      k2 to →
      ((r : ℕ) (t : Ty) → lookup to r ≡ Some t → k2 r ≡ Some t) →
      BelowFile n to → Room m L.used g (slots_by w v ts) → BelowTypes n (slots_by w v ts) → (t : Ty)
      × (g (frame_reg m) ≡ Some t) →
      ((h : RegTypes) → Located m (after_way m L rd to w).homes (lookup to) h → Room m (used_by w L.used) h ts →
      (t : Ty) × (h (frame_reg m) ≡ Some t) → SeqAccepted Q n h rest) →
      SeqAccepted Q n g (before (finish m L rd (slots_by w v ts) to w) rest)
  finish_ok L rd u v k k2 ts to c Stays g n rest reg wf def same e fits sub small room below fr go =
      go g (λ r t z. stays r t (sub r t z)) room fr
    where
      stays : (r : ℕ) (t : Ty) → k2 r ≡ Some t → HomeHas m g (L.homes r) (sp m t)
      stays r t z = ⊎_elim
          (λ (q : r ≡ rd).
          let a : Some u ≡ Some t = sym (look_same k rd u) ∙ ap (with_reg k rd u) (sym q) ∙ sym (ap (λ f. f r) same)
          ∙ z in
          let s : u ≡ t = cc in
          let low : r ≤ m = omega (arith, wf, q) in
          subst (λ x. HomeHas m g x (sp m t)) (sym (nearly_held m L rd r reg low))
          (ap g (q ∙ sym (into_low m rd wf)) ∙ def.0 ∙ ap (λ y. Some (sp m y)) s))
          (λ (ne : r ≢ rd). def.1 r t ne (sym (look_other k rd r u ne) ∙ sym (ap (λ f. f r) same) ∙ z))
          (cases_eq r rd)
  finish_ok L rd u v k k2 ts to c Holds g n rest reg wf def same e fits sub small room below fr go =
      let l : Located m (homed L.homes rd (Held (into m rd))) k2 g =
      defined_at m L rd u k k2 g (Held (into m rd)) def.0 def.1 same in
      go g (λ r t z. l r t (sub r t z)) room fr
  finish_ok L rd u v k k2 ts to c Fills g n rest reg wf def same e fits sub small room below fr go =
      subst (λ y. Room m L.used g (y ∷ ts) → BelowTypes n (y ∷ ts) →
      SeqAccepted Q n g (before (fill_slot m L.used (y ∷ ts)) rest)) (sym e)
      (λ room2 below2. slot_ok L.homes L.used rd u k k2 ts g n rest reg.0 (ap g (sym (into_high m rd wf.0))
      ∙ def.0) def.1 same room2 below2 fr
      (λ h l r f. go h (λ q t z. l q t (sub q t z)) r f)) room below
  finish_ok L rd u v k k2 ts to c Gathers g n rest reg wf def same e fits sub small room below fr go =
      let homes = homed L.homes rd (Held (into m rd)) in
      let l : Located m homes k2 g = defined_at m L rd u k k2 g (Held (into m rd)) def.0 def.1 same in
      gather_ok homes k2 to g n rest (λ r. homed_up m L rd r reg.0) low l fits small sub (λ h x f. go h x tt f)
    where
      low : (r : ℕ) (t : Ty) → r ≤ m → k2 r ≡ Some t → g r ≡ Some (sp m t)
      low r t le z = ⊎_elim
          (λ (q : r ≡ rd).
          let a : Some u ≡ Some t = sym (look_same k rd u) ∙ ap (with_reg k rd u) (sym q) ∙ sym (ap (λ f. f r) same)
          ∙ z in
          let s : u ≡ t = cc in
          let lo : rd ≤ m = omega (arith, le, q) in
          ap g (q ∙ sym (into_low m rd lo)) ∙ def.0 ∙ ap (λ y. Some (sp m y)) s)
          (λ (ne : r ≢ rd).
          subst (λ x. HomeHas m g x (sp m t)) (nearly_held m L rd r reg le)
          (def.1 r t ne (sym (look_other k rd r u ne) ∙ sym (ap (λ f. f r) same) ∙ z)))
          (cases_eq r rd)
