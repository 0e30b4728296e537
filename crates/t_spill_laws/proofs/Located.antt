-- What typing knows of words at their homes, of slots that are left, and of what an instruction leaves.
use Rattle.std.proofs.Common.{◌≡◌, ℕ, zero, suc, ◌+◌, ◌<◌, ◌≤◌, cond, Bool, true, false, List, [], ◌∷◌}
use Rattle.std.proofs.Common.{Option, Some, None, refl, sym, ap, ◌∙◌, subst, arith, ◌⊎◌, ⊎_elim}
use Rattle.std.specs.Prelude.{◌≢◌, option_map}
use Rattle.std.proofs.lemmas.Bool.{cases_lt, lt-ltb, le-ltb}
use Rattle.idx_core.specs.Over.{shifted}
use Rattle.t_types.specs.Tree.{Ty, VarTy, TupleTy, TFile, TFields, NoFields}
use Rattle.t_types.specs.Tree.{MoreFields, shift}
use Rattle.t_types.specs.Fields.{AField, field, filled, empty_fields}
use Rattle.t_types.specs.Fits.{RegTypes, lookup}
use Rattle.t_types.proofs.FitsLaws.{field_over}
use Rattle.t_terms.specs.Tree.{Reg, Int, Label, Data, TValue, Plain, Pack}
use Rattle.t_terms.specs.Registers.{with_reg, raised}
use Rattle.t_spill_rules.specs.Spill.{high_part, frame, frame_reg, slot_reg, second_reg}
use Rattle.t_spill_rules.specs.Spill.{sp, sp_regs}
use Rattle.t_spill_rules.specs.Spill.{reg, numbers}
use Rattle.t_spill_rules.specs.Spill.{Home, Held, InFrame, InSlot, Layout, homed, position, layout}
use Rattle.t_spill_rules.specs.Spill.{second_at, into}
use Rattle.t_spill_laws.proofs.TypeLaws.{sp_shift}
use Rattle.t_spill_laws.proofs.Files.{look_same, look_other, frame_at, high_look, look_sp}
use Rattle.t_spill_laws.proofs.Files.{numbers_regs}
use Rattle.t_spill_rules.proofs.HighParts.{high_regs}
use Rattle.t_spill_laws.proofs.Homes.{Sound, Regular, Others, UpTo, sound_up, sound_held, at_case}
use Rattle.t_spill_laws.proofs.Homes.{into_far, into_other, homed_both}

module _ (m : ℕ) where
  -- a word of the type is at home
  abbrev pub HomeHas : RegTypes → Home → Ty → Type 0
  HomeHas g (Held q) t = g q ≡ Some t
  HomeHas g (InFrame i) t =
      (fs : TFields) × (g (frame_reg m) ≡ Some (TupleTy fs)) × (field fs i ≡ Some (AField t true))
  HomeHas g (InSlot i) t =
      (fs : TFields) × (g (slot_reg m) ≡ Some (TupleTy fs)) × (field fs i ≡ Some (AField t true))

  pub home_same : (b : ℕ) (g h : RegTypes) (x : Home) (t : Ty) → m + 2 ≤ b → UpTo b x → ((q : ℕ) → q ≤ b → h q ≡ g q) →
      HomeHas g x t → HomeHas h x t
  home_same b g h (Held q) t le up s e = s q up ∙ e
  home_same b g h (InFrame i) t le up s e = (e.0, s (frame_reg m) (omega (arith, le)) ∙ e.1, e.2)
  home_same b g h (InSlot i) t le up s e = (e.0, s (slot_reg m) (omega (arith, le)) ∙ e.1, e.2)

  pub home_raised : (g : RegTypes) (x : Home) (t : Ty) → HomeHas g x t → HomeHas (raised g) x (shift 1 0 t)
  home_raised g (Held q) t e = ap (option_map (shift 1 0)) e
  home_raised g (InFrame i) t e = (_, ap (option_map (shift 1 0)) e.1, field_over (shifted VarTy 1) 0 e.0 i t true e.2)
  home_raised g (InSlot i) t e = (_, ap (option_map (shift 1 0)) e.1, field_over (shifted VarTy 1) 0 e.0 i t true e.2)

  -- each register that is known has its word at home
  abbrev pub Located : (ℕ → Home) → RegTypes → RegTypes → Type 0
  Located homes k g = (r : ℕ) (t : Ty) → k r ≡ Some t → HomeHas g (homes r) (sp m t)

  pub located_same : (b : ℕ) (homes : ℕ → Home) (k g h : RegTypes) → m + 2 ≤ b → ((r : ℕ) → UpTo b (homes r)) →
      ((q : ℕ) → q ≤ b → h q ≡ g q) → Located homes k g → Located homes k h
  located_same b homes k g h le up s l r t e = home_same b g h (homes r) (sp m t) le (up r) s (l r t e)

  pub located_raised : (homes : ℕ → Home) (k g : RegTypes) → Located homes k g → Located homes (raised k) (raised g)
  located_raised homes k g l r t e = go (k r) refl e
    where
      go : (o : Option Ty) → k r ≡ o → option_map (shift 1 0) o ≡ Some t → HomeHas (raised g) (homes r) (sp m t)
      go None z y = cc
      go (Some u) z y =
          let s : shift 1 0 u ≡ t = cc in
          subst (HomeHas (raised g) (homes r)) (sym (sp_shift m 1 0 u)
          ∙ ap (sp m) s) (home_raised g (homes r) (sp m u) (l r u z))

  -- one up to m is in its place
  pub low_known : (L : Layout) (k g : RegTypes) → Regular m L → Located L.homes k g → (r : ℕ) (t : Ty) → r ≤ m →
      k r ≡ Some t →
      g r ≡ Some (sp m t)
  low_known L k g reg l r t le e =
      subst (λ x. HomeHas g x (sp m t)) (sound_held m L.used r (L.homes r) le (reg r)) (l r t e)

  -- the registers of code that takes a file
  pub entered_at : (to : TFile) (k g : RegTypes) → ((r : ℕ) (t : Ty) → lookup to r ≡ Some t → k r ≡ Some t) →
      ((r : ℕ) (t : Ty) → r ≤ m → k r ≡ Some t → g r ≡ Some (sp m t)) →
      g (frame_reg m) ≡ Some (TupleTy (frame (high_part m (sp_regs m to)))) → Located (layout m to).homes (lookup to) g
  entered_at to k g sub low e r t z = ⊎_elim
      (λ (h : m < r). subst (λ x. HomeHas g x (sp m t))
      (sym (ap (λ b. cond b (InFrame (position (numbers (high_part m to)) r)) (Held r)) (lt-ltb m r h)))
      (frame (high_part m (sp_regs m to)), e, at h))
      (λ (h : r ≤ m). subst (λ x. HomeHas g x (sp m t))
      (sym (ap (λ b. cond b (InFrame (position (numbers (high_part m to)) r)) (Held r)) (le-ltb m r h)))
      (low r t h (sub r t z)))
      (cases_lt m r)
    where
      at : m < r → field (frame (high_part m (sp_regs m to))) (position (numbers (high_part m to)) r)
          ≡ Some (AField (sp m t) true)
      at h =
          let look : lookup (high_part m (sp_regs m to)) r ≡ Some (sp m t) = high_look m (sp_regs m to) r h
          ∙ look_sp m to r t z in
          let same : numbers (high_part m (sp_regs m to)) ≡ numbers (high_part m to) = ap numbers (high_regs m m to)
          ∙ numbers_regs m (high_part m to) in
          subst (λ (qs : List ℕ). field (frame (high_part m (sp_regs m to))) (position qs r)
          ≡ Some (AField (sp m t) true)) same
          (frame_at (high_part m (sp_regs m to)) r (sp m t) look)

  -- slots that are left
  abbrev pub Open : TFields → ℕ → List Ty → Type 0
  Open fs j [] = Unit {0}
  Open fs j (t ∷ ts) = ((flag : Bool) × (field fs j ≡ Some (AField t flag))) × Open fs (suc j) ts

  abbrev pub Room : ℕ → RegTypes → List Ty → Type 0
  Room zero g ts = Unit {0}
  Room (suc j) g ts = (fs : TFields) × (g (slot_reg m) ≡ Some (TupleTy fs)) × Open fs (suc j) ts

  pub room_same : (used : ℕ) (g h : RegTypes) (ts : List Ty) → h (slot_reg m) ≡ g (slot_reg m) → Room used g ts →
      Room used h ts
  room_same zero g h ts e r = tt
  room_same (suc j) g h ts e r = (r.0, e ∙ r.1, r.2)

  pub room_raised : (used : ℕ) (g h : RegTypes) → h (slot_reg m) ≡ g (slot_reg m) → Room used g [] →
      Room used (raised h) []
  room_raised zero g h e r = tt
  room_raised (suc j) g h e r = (_, ap (option_map (shift 1 0)) (e ∙ r.1), tt)

  pub open_more : (u : Ty) (b : Bool) (fs : TFields) (j : ℕ) (ts : List Ty) → Open fs j ts →
      Open (MoreFields u b fs) (suc j) ts
  open_more u b fs j [] h = tt
  open_more u b fs j (t ∷ ts) h = (h.0, open_more u b fs (suc j) ts h.1)

  pub open_empty : (ts : List Ty) → Open (empty_fields ts) 0 ts
  open_empty [] = tt
  open_empty (t ∷ ts) = ((false, refl), open_more t false (empty_fields ts) 0 ts (open_empty ts))

  pub field_kept : (fs : TFields) (i j : ℕ) (t : Ty) (flag : Bool) → field fs i ≡ Some (AField t flag) →
      (b : Bool) × (field (filled fs j) i ≡ Some (AField t b)) × (flag ≡ true → b ≡ true)
  field_kept NoFields i j t flag e = cc
  field_kept (MoreFields u x fs) zero zero t flag e = let s : u ≡ t = cc in
      (true, ap (λ y. Some (AField y true)) s, λ z. refl)
  field_kept (MoreFields u x fs) zero (suc j) t flag e = (flag, e, λ z. z)
  field_kept (MoreFields u x fs) (suc i) zero t flag e = (flag, e, λ z. z)
  field_kept (MoreFields u x fs) (suc i) (suc j) t flag e = field_kept fs i j t flag e

  pub field_true : (fs : TFields) (i j : ℕ) (t : Ty) → field fs i ≡ Some (AField t true) →
      field (filled fs j) i ≡ Some (AField t true)
  field_true fs i j t e = let k = field_kept fs i j t true e in k.1 ∙ ap (λ b. Some (AField t b)) (k.2 refl)

  pub open_filled : (fs : TFields) (i j : ℕ) (ts : List Ty) → Open fs j ts → Open (filled fs i) j ts
  open_filled fs i j [] h = tt
  open_filled fs i j (t ∷ ts) h = let k = field_kept fs j i t h.0.0 h.0.1 in
      ((k.0, k.1), open_filled fs i (suc j) ts h.1)

  -- a register's word is at hand for a value's base
  abbrev pub Loaded : TFile → RegTypes → (ℕ → ℕ) → TValue → Type 0
  Loaded file g at (Plain (Reg r) ts) = (t : Ty) → lookup file r ≡ Some t → g (at r) ≡ Some (sp m t)
  Loaded file g at (Plain (Int i) ts) = Unit {0}
  Loaded file g at (Plain (Label l) ts) = Unit {0}
  Loaded file g at (Plain (Data d) ts) = Unit {0}
  Loaded file g at (Pack t v s) = Loaded file g at v

  pub loaded_same : (file : TFile) (g h : RegTypes) (homes : ℕ → Home) (v : TValue) → ((r : ℕ) → UpTo m (homes r)) →
      ((q : ℕ) → (q ≡ second_reg m) ⊎ (q ≤ m) → h q ≡ g q) →
      Loaded file g (second_at m homes) v → Loaded file h (second_at m homes) v
  loaded_same file g h homes (Plain (Reg r) ts) up s k =
      λ t x. s (second_at m homes r) (at_case (second_reg m) m (homes r) (up r)) ∙ k t x
  loaded_same file g h homes (Plain (Int i) ts) up s k = tt
  loaded_same file g h homes (Plain (Label l) ts) up s k = tt
  loaded_same file g h homes (Plain (Data d) ts) up s k = tt
  loaded_same file g h homes (Pack t v s) up e k = loaded_same file g h homes v up e k

  -- what an instruction leaves: the word that it computes, and the others at home
  abbrev pub Defined : Layout → ℕ → Ty → RegTypes → RegTypes → Type 0
  Defined L rd u k g =
      (g (into m rd) ≡ Some (sp m u)) × ((r : ℕ) (t : Ty) → r ≢ rd → k r ≡ Some t → HomeHas g (L.homes r) (sp m t))

  pub home_set : (used rd r : ℕ) (g : RegTypes) (w : Ty) (x : Home) (t : Ty) → r ≢ rd → Sound m used r x →
      HomeHas g x t →
      HomeHas (with_reg g (into m rd) w) x t
  home_set used rd r g w (Held q) t ne s e =
      let same = s.0 in
      look_other g (into m rd) q w (λ z. into_other m rd r s.1 ne (sym same ∙ z)) ∙ e
  home_set used rd r g w (InFrame i) t ne s e = (
    e.0,
    look_other g (into m rd) (frame_reg m) w (into_far m rd (frame_reg m) (omega arith) (omega arith))
        ∙ e.1,
    e.2,
  )
  home_set used rd r g w (InSlot i) t ne s e = (
    e.0,
    look_other g (into m rd) (slot_reg m) w (into_far m rd (slot_reg m) (omega arith) (omega arith))
        ∙ e.1,
    e.2,
  )

  -- the others at home
  abbrev pub OldAt : Layout → ℕ → RegTypes → RegTypes → Type 0
  OldAt L rd k g = (r : ℕ) (t : Ty) → r ≢ rd → k r ≡ Some t → HomeHas g (L.homes r) (sp m t)

  pub old_same : (L : Layout) (rd : ℕ) (k g h : RegTypes) → Others m L rd → ((q : ℕ) → q ≤ m + 2 → h q ≡ g q) →
      Located L.homes k g → OldAt L rd k h
  old_same L rd k g h reg s l r t ne e =
      home_same (m + 2) g h (L.homes r) (sp m t) (omega arith)
      (sound_up m L.used r (m + 2) (L.homes r) (omega arith) (reg r ne)) s (l r t e)

  pub defined : (L : Layout) (rd : ℕ) (u : Ty) (k g : RegTypes) → Others m L rd → OldAt L rd k g →
      Defined L rd u k (with_reg g (into m rd) (sp m u))
  defined L rd u k g reg l = (
    look_same g (into m rd) (sp m u),
    λ r t ne e. home_set L.used rd r g (sp m u) (L.homes r) (sp m t) ne (reg r ne) (l r t ne e),
  )

  -- so with the register's home set
  pub defined_at : (L : Layout) (rd : ℕ) (u : Ty) (k k2 g : RegTypes) (x : Home) → HomeHas g x (sp m u) →
      ((r : ℕ) (t : Ty) → r ≢ rd → k r ≡ Some t → HomeHas g (L.homes r) (sp m t)) → k2 ≡ with_reg k rd u →
      Located (homed L.homes rd x) k2 g
  defined_at L rd u k k2 g x here old same r t e =
      homed_both L.homes rd r x (λ y. HomeHas g y (sp m t))
      (λ q.
      let a : Some u ≡ Some t = sym (look_same k rd u) ∙ ap (with_reg k rd u) (sym q) ∙ sym (ap (λ f. f r) same) ∙ e in
      let s : u ≡ t = cc in subst (λ y. HomeHas g x (sp m y)) s here)
      (λ ne. old r t ne (sym (look_other k rd r u ne) ∙ sym (ap (λ f. f r) same) ∙ e))
