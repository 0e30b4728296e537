-- The erased machine of what is spilled: steps that lead to the next instruction, one after the other.
use Rattle.std.proofs.Common.{◌≡◌, ℕ, zero, suc, ◌+◌, ◌<◌, ◌≤◌, nat_lt, cond, true, false, List, [], ◌∷◌, ◌++◌, length}
use Rattle.std.proofs.Common.{Option, Some, None, refl, sym, ap, ◌∙◌, subst, arith, slice_get, slice_set}
use Rattle.std.specs.Prelude.{◌≢◌, option_map, option_and_then, replicate, ℤ}
use Rattle.std.proofs.lemmas.Bool.{lt-ltb}
use Rattle.std.proofs.lemmas.List.{length-append}
use Rattle.idx_core.specs.Arith.{compute, is_zero}
use Rattle.t_terms.specs.Tree.{TBase, Reg, Int, Label, Data}
use Rattle.t_terms.specs.Registers.{with_reg}
use Rattle.t_rules.specs.Machine.{Next, Into}
use Rattle.t_rules.specs.Erase.{EWord, EInt, EAddress, ELabel, EEmpty, EArith, EBnz, ELd, EMov, ESt, ESeq, EThen}
use Rattle.t_rules.specs.Erase.{EHeap, ERegs, EState, EAt, EStep, EGoes, estep, enter, base_word, on_int, on_address}
use Rattle.t_rules.specs.Erase.{on_label, on_full}
use Rattle.t_spill_rules.specs.Spill.{frame_reg, slot_reg, second_reg, made_reg, sp_base, Home, Held, InFrame, InSlot}
use Rattle.t_spill_rules.specs.Spill.{at_home, second_at}
use Rattle.t_spill_laws.proofs.Files.{look_same, look_other}
use Rattle.t_spill_laws.proofs.Homes.{UpTo}
use Rattle.t_spill_laws.proofs.Erased.{eload, ebase, efill, ebuild}
use Rattle.idx_core.proofs.Lists.{get_front}

-- a step to the next instruction goes on
abbrev pub on_next : Option EStep → (EState → Option EState) → Option EState
on_next None go = None
on_next (Some (EGoes Next f)) go = go f
on_next (Some (EGoes (Into l) f)) go = None

-- the state after j steps, each to the next instruction
abbrev pub walk : List ESeq → ℕ → EState → Option EState
walk B zero e = Some e
walk B (suc j) e = on_next (estep B e) (walk B j)

-- steps to next instructions lead from e to g
pub record Walks (B : List ESeq) (e g : EState) : Type 0 where
  pub by : (m : ℕ) → (j : ℕ) × (m ≤ j) × (walk B j e ≡ walk B m g)

pub walks_none : (B : List ESeq) (e : EState) → Walks B e e
walks_none B e = record { by = λ m. (m, omega arith, refl) }

pub walks_on : (B : List ESeq) (e f g : EState) → Walks B e f → Walks B f g → Walks B e g
walks_on B e f g a b =
    record { by = λ m. let y = b.by m in let x = a.by y.0 in (x.0, omega (arith, x.1, y.1), x.2 ∙ y.2) }

pub walks_step : (B : List ESeq) (e f : EState) → estep B e ≡ Some (EGoes Next f) → Walks B e f
walks_step B e f h = record { by = λ m. (suc m, omega arith, ap (λ o. on_next o (walk B m)) h) }

-- the same, and at least one step is made
pub record Moves (B : List ESeq) (e g : EState) : Type 0 where
  pub by : (m : ℕ) → (j : ℕ) × (m < j) × (walk B j e ≡ walk B m g)

pub moves_step : (B : List ESeq) (e f : EState) → estep B e ≡ Some (EGoes Next f) → Moves B e f
moves_step B e f h = record { by = λ m. (suc m, omega arith, ap (λ o. on_next o (walk B m)) h) }

pub moves_walk : (B : List ESeq) (e f g : EState) → Moves B e f → Walks B f g → Moves B e g
moves_walk B e f g a b =
    record { by = λ m. let y = b.by m in let x = a.by y.0 in (x.0, omega (arith, x.1, y.1), x.2 ∙ y.2) }

pub walk_moves : (B : List ESeq) (e f g : EState) → Walks B e f → Moves B f g → Moves B e g
walk_moves B e f g a b =
    record { by = λ m. let y = b.by m in let x = a.by y.0 in (x.0, omega (arith, x.1, y.1), x.2 ∙ y.2) }

pub moves_walks : (B : List ESeq) (e f : EState) → Moves B e f → Walks B e f
moves_walks B e f a = record { by = λ m. let x = a.by m in (x.0, omega (arith, x.1), x.2) }

-- words that a load gives
abbrev pub Full : EWord → Type 0
Full (EInt i) = Unit {0}
Full (EAddress a) = Unit {0}
Full (ELabel l) = Unit {0}
Full EEmpty = ⊥

full_on : {A : Type 0} (w : EWord) (go : EWord → Option A) → Full w → on_full (Some w) go ≡ go w
full_on (EInt i) go h = refl
full_on (EAddress a) go h = refl
full_on (ELabel l) go h = refl
full_on EEmpty go h = absurd h

-- lists
pub get_end : {A : Type 0} (xs : List A) (y : A) (ys : List A) → slice_get (xs ++ (y ∷ ys)) (length xs) ≡ Some y
get_end [] y ys = refl
get_end (x ∷ xs) y ys = get_end xs y ys

pub set_end : {A : Type 0} (xs : List A) (y z : A) (ys : List A) →
    slice_set (xs ++ (y ∷ ys)) (length xs) z ≡ xs ++ (z ∷ ys)
set_end [] y z ys = refl
set_end (x ∷ xs) y z ys = ap (λ (zs : List _). x ∷ zs) (set_end xs y z ys)

append_assoc : {A : Type 0} (xs : List A) (y : A) (ys : List A) → (xs ++ (y ∷ [])) ++ ys ≡ xs ++ (y ∷ ys)
append_assoc [] y ys = refl
append_assoc (x ∷ xs) y ys = ap (λ (zs : List _). x ∷ zs) (append_assoc xs y ys)

module _ (m : ℕ) where
  -- the word at home
  abbrev pub HomeAt : EHeap → ERegs → Home → EWord → Type 0
  HomeAt K ρ (Held q) e = ρ q ≡ Some e
  HomeAt K ρ (InFrame i) e =
      (f : ℕ) × (fw : List EWord) × (ρ (frame_reg m) ≡ Some (EAddress f)) × (slice_get K f ≡ Some fw)
      × (slice_get fw i ≡ Some e)
  HomeAt K ρ (InSlot i) e =
      (f : ℕ) × (fw : List EWord) × (ρ (slot_reg m) ≡ Some (EAddress f)) × (slice_get K f ≡ Some fw)
      × (slice_get fw i ≡ Some e)

  pub home_regs : (K : EHeap) (ρ σ : ERegs) (b : ℕ) (x : Home) (e : EWord) → m + 2 ≤ b → UpTo b x →
      ((q : ℕ) → q ≤ b → σ q ≡ ρ q) →
      HomeAt K ρ x e → HomeAt K σ x e
  home_regs K ρ σ b (Held q) e le up s h = s q up ∙ h
  home_regs K ρ σ b (InFrame i) e le up s h = (h.0, h.1, s (frame_reg m) (omega (arith, le)) ∙ h.2, h.3, h.4)
  home_regs K ρ σ b (InSlot i) e le up s h = (h.0, h.1, s (slot_reg m) (omega (arith, le)) ∙ h.2, h.3, h.4)

  -- in a larger heap
  pub home_heap : (K X : EHeap) (ρ : ERegs) (x : Home) (e : EWord) → HomeAt K ρ x e → HomeAt (K ++ X) ρ x e
  home_heap K X ρ (Held q) e h = h
  home_heap K X ρ (InFrame i) e h = (h.0, h.1, h.2, get_front K X h.0 h.1 h.3, h.4)
  home_heap K X ρ (InSlot i) e h = (h.0, h.1, h.2, get_front K X h.0 h.1 h.3, h.4)

  -- what a value's base is
  abbrev pub BaseAt : EHeap → ERegs → (ℕ → Home) → TBase → EWord → Type 0
  BaseAt K ρ homes (Reg r) e = Full e × HomeAt K ρ (homes r) e
  BaseAt K ρ homes (Int i) e = e ≡ EInt i
  BaseAt K ρ homes (Label l) e = e ≡ ELabel (suc l)
  BaseAt K ρ homes (Data d) e = e ≡ EAddress d

  pub base_regs : (K : EHeap) (ρ σ : ERegs) (homes : ℕ → Home) (b : TBase) (e : EWord) →
      ((r : ℕ) → UpTo (m + 2) (homes r)) →
      ((q : ℕ) → q ≤ m + 2 → σ q ≡ ρ q) → BaseAt K ρ homes b e → BaseAt K σ homes b e
  base_regs K ρ σ homes (Reg r) e up s h = (h.0, home_regs K ρ σ (m + 2) (homes r) e (omega arith) (up r) s h.1)
  base_regs K ρ σ homes (Int i) e up s h = h
  base_regs K ρ σ homes (Label l) e up s h = h
  base_regs K ρ σ homes (Data d) e up s h = h

  pub base_heap : (K X : EHeap) (ρ : ERegs) (homes : ℕ → Home) (b : TBase) (e : EWord) → BaseAt K ρ homes b e →
      BaseAt (K ++ X) ρ homes b e
  base_heap K X ρ homes (Reg r) e h = (h.0, home_heap K X ρ (homes r) e h.1)
  base_heap K X ρ homes (Int i) e h = h
  base_heap K X ρ homes (Label l) e h = h
  base_heap K X ρ homes (Data d) e h = h

module _ (B : List ESeq) where
  -- steps
  pub ld_step : (h : EHeap) (r : ERegs) (rd rs i : ℕ) (c : ESeq) (a : ℕ) (ws : List EWord) (w : EWord) →
      r rs ≡ Some (EAddress a) → slice_get h a ≡ Some ws → slice_get ws i ≡ Some w → Full w →
      estep B (EAt h r (EThen (ELd rd rs i) c)) ≡ Some (EGoes Next (EAt h (with_reg r rd w) c))
  ld_step h r rd rs i c a ws w e1 e2 e3 full =
      ap (λ o. on_address o
      (λ a. option_and_then (λ ws. on_full (slice_get ws i) (λ w. Some (EGoes Next (EAt h (with_reg r rd w) c))))
      (slice_get h a))) e1
      ∙ ap (option_and_then (λ ws. on_full (slice_get ws i) (λ w. Some (EGoes Next (EAt h (with_reg r rd w) c))))) e2
      ∙ ap (λ o. on_full o (λ w. Some (EGoes Next (EAt h (with_reg r rd w) c)))) e3
      ∙ full_on w (λ w. Some (EGoes Next (EAt h (with_reg r rd w) c))) full

  pub mov_step : (h : EHeap) (r : ERegs) (rd : ℕ) (b : TBase) (c : ESeq) (w : EWord) → base_word r b ≡ Some w →
      estep B (EAt h r (EThen (EMov rd b) c)) ≡ Some (EGoes Next (EAt h (with_reg r rd w) c))
  mov_step h r rd b c w e = ap (option_map (λ w. EGoes Next (EAt h (with_reg r rd w) c))) e

  pub st_step : (h : EHeap) (r : ERegs) (rd i rs : ℕ) (c : ESeq) (a : ℕ) (ws : List EWord) (w : EWord) →
      r rd ≡ Some (EAddress a) → slice_get h a ≡ Some ws → r rs ≡ Some w → i < length ws →
      estep B (EAt h r (EThen (ESt rd i rs) c)) ≡ Some (EGoes Next (EAt (slice_set h a (slice_set ws i w)) r c))
  st_step h r rd i rs c a ws w e1 e2 e3 lt =
      ap (λ o. on_address o
      (λ a. option_and_then
      (λ ws. option_and_then
      (λ w. cond (nat_lt i (length ws)) (Some (EGoes Next (EAt (slice_set h a (slice_set ws i w)) r c))) None)
      (r rs)) (slice_get h a))) e1
      ∙ ap (option_and_then
      (λ ws. option_and_then
      (λ w. cond (nat_lt i (length ws)) (Some (EGoes Next (EAt (slice_set h a (slice_set ws i w)) r c))) None)
      (r rs))) e2
      ∙ ap (option_and_then
      (λ w. cond (nat_lt i (length ws)) (Some (EGoes Next (EAt (slice_set h a (slice_set ws i w)) r c))) None)) e3
      ∙ ap (λ b. cond b (Some (EGoes Next (EAt (slice_set h a (slice_set ws i w)) r c))) None)
      (lt-ltb i (length ws) lt)

  pub arith_step : (h : EHeap) (r : ERegs) (op : _) (rd rs : ℕ) (b : TBase) (c : ESeq) (x y : ℤ) →
      r rs ≡ Some (EInt x) → base_word r b ≡ Some (EInt y) →
      estep B (EAt h r (EThen (EArith op rd rs b) c))
      ≡ Some (EGoes Next (EAt h (with_reg r rd (EInt (compute op x y))) c))
  arith_step h r op rd rs b c x y e1 e2 =
      ap (λ o. on_int o (λ x.
      on_int (base_word r b) (λ y. Some (EGoes Next (EAt h (with_reg r rd (EInt (compute op x y))) c))))) e1
      ∙ ap (λ o. on_int o (λ y. Some (EGoes Next (EAt h (with_reg r rd (EInt (compute op x y))) c)))) e2

  pub enter_step : (h : EHeap) (r : ERegs) (b : TBase) (l : ℕ) (c : ESeq) → base_word r b ≡ Some (ELabel l) →
      slice_get B l ≡ Some c → enter B h r b ≡ Some (EGoes (Into l) (EAt h r c))
  enter_step h r b l c e1 e2 =
      ap (λ o. on_label o (λ l. option_map (λ c. EGoes (Into l) (EAt h r c)) (slice_get B l))) e1
      ∙ ap (option_map (λ c. EGoes (Into l) (EAt h r c))) e2

  pub stay_step : (h : EHeap) (r : ERegs) (q : ℕ) (b : TBase) (c : ESeq) (i : ℤ) → r q ≡ Some (EInt i) →
      is_zero i ≡ true → estep B (EAt h r (EThen (EBnz q b) c)) ≡ Some (EGoes Next (EAt h r c))
  stay_step h r q b c i e1 e2 =
      ap (λ o. on_int o (λ i. cond (is_zero i) (Some (EGoes Next (EAt h r c))) (enter B h r b))) e1
      ∙ ap (λ z. cond z (Some (EGoes Next (EAt h r c))) (enter B h r b)) e2

  pub leave_step : (h : EHeap) (r : ERegs) (q : ℕ) (b : TBase) (c : ESeq) (i : ℤ) → r q ≡ Some (EInt i) →
      is_zero i ≡ false → estep B (EAt h r (EThen (EBnz q b) c)) ≡ enter B h r b
  leave_step h r q b c i e1 e2 =
      ap (λ o. on_int o (λ i. cond (is_zero i) (Some (EGoes Next (EAt h r c))) (enter B h r b))) e1
      ∙ ap (λ z. cond z (Some (EGoes Next (EAt h r c))) (enter B h r b)) e2

  module _ (m : ℕ) where
    pub record Loads (K : EHeap) (ρ : ERegs) (t : ℕ) (x : Home) (k : ESeq) (e : EWord) : Type 0 where
      pub regs : ERegs
      pub walks : Walks B (EAt K ρ (eload m t x k)) (EAt K regs k)
      pub here : regs (at_home t x) ≡ Some e
      pub others : (q : ℕ) → q ≢ t → regs q ≡ ρ q

    -- an operand is read
    pub loads : (K : EHeap) (ρ : ERegs) (t : ℕ) (x : Home) (k : ESeq) (e : EWord) → HomeAt m K ρ x e → Full e →
        Loads K ρ t x k e
    loads K ρ t (Held q) k e h full = record { regs = ρ; walks = walks_none B _; here = h; others = λ p ne. refl }
    loads K ρ t (InFrame i) k e h full = record {
      regs = with_reg ρ t e;
      walks = walks_step B _ _ (ld_step K ρ t (frame_reg m) i k h.0 h.1 e h.2 h.3 h.4 full);
      here = look_same ρ t e;
      others = λ q ne. look_other ρ t q e ne;
    }
    loads K ρ t (InSlot i) k e h full = record {
      regs = with_reg ρ t e;
      walks = walks_step B _ _ (ld_step K ρ t (slot_reg m) i k h.0 h.1 e h.2 h.3 h.4 full);
      here = look_same ρ t e;
      others = λ q ne. look_other ρ t q e ne;
    }

    pub record Fetched (K : EHeap) (ρ : ERegs) (homes : ℕ → Home) (b : TBase) (k : ESeq) (e : EWord) : Type 0 where
      pub regs : ERegs
      pub walks : Walks B (EAt K ρ (ebase m homes b k)) (EAt K regs k)
      pub here : base_word regs (sp_base (second_at m homes) b) ≡ Some e
      pub others : (q : ℕ) → q ≢ second_reg m → regs q ≡ ρ q

    pub fetches : (K : EHeap) (ρ : ERegs) (homes : ℕ → Home) (b : TBase) (k : ESeq) (e : EWord) →
        BaseAt m K ρ homes b e → Fetched K ρ homes b k e
    fetches K ρ homes (Reg r) k e h =
        let l = loads K ρ (second_reg m) (homes r) k e h.1 h.0 in
        record { regs = l.regs; walks = l.walks; here = l.here; others = l.others }
    fetches K ρ homes (Int i) k e h =
        record { regs = ρ; walks = walks_none B _; here = ap Some (sym h); others = λ q ne. refl }
    fetches K ρ homes (Label l) k e h =
        record { regs = ρ; walks = walks_none B _; here = ap Some (sym h); others = λ q ne. refl }
    fetches K ρ homes (Data d) k e h =
        record { regs = ρ; walks = walks_none B _; here = ap Some (sym h); others = λ q ne. refl }

    module _ (K : EHeap) (ρ0 : ERegs) (homes : ℕ → Home) (up : (r : ℕ) → UpTo (m + 3) (homes r)) where
      -- what the fields of a new frame are filled with
      abbrev pub Sources : List ℕ → List EWord → Type 0
      Sources [] [] = Unit {0}
      Sources (q ∷ qs) (w ∷ ws) = (Full w × HomeAt m K ρ0 (homes q) w) × Sources qs ws
      Sources [] (w ∷ ws) = ⊥
      Sources (q ∷ qs) [] = ⊥

      record Filled (ρ : ERegs) (e : EState) (ws : List EWord) (k : ESeq) : Type 0 where
        regs : ERegs
        walks : Walks B e (EAt (K ++ (ws ∷ [])) regs k)
        others : (q : ℕ) → q ≢ second_reg m → regs q ≡ ρ q

      fills : (qs : List ℕ) (ws done : List EWord) (j : ℕ) (ρ : ERegs) (k : ESeq) → j ≡ length done →
          ((q : ℕ) → q ≤ m + 3 → ρ q ≡ ρ0 q) →
          ρ (made_reg m) ≡ Some (EAddress (length K)) → Sources qs ws →
          Filled ρ (EAt (K ++ ((done ++ replicate (length qs) EEmpty) ∷ [])) ρ (efill m homes qs j k)) (done ++ ws) k
      fills [] [] done j ρ k len s0 e4 s = record { regs = ρ; walks = walks_none B _; others = λ q ne. refl }
      fills [] (w ∷ ws) done j ρ k len s0 e4 s = absurd s
      fills (q ∷ qs) [] done j ρ k len s0 e4 s = absurd s
      fills (q ∷ qs) (w ∷ ws) done j ρ k len s0 e4 s =
          let R : List EWord = replicate (length qs) EEmpty in
          let X : List EWord = done ++ (EEmpty ∷ R) in
          let rest = efill m homes qs (suc j) k in
          let home = home_heap m K (X ∷ []) ρ (homes q) w
          (home_regs m K ρ0 ρ (m + 3) (homes q) w (omega arith) (up q) s0 s.0.1) in
          let l = loads (K ++ (X ∷ [])) ρ (second_reg m) (homes q)
          (EThen (ESt (made_reg m) j (second_at m homes q)) rest) w home s.0.0 in
          let four : l.regs (made_reg m) ≡ Some (EAddress (length K)) =
          l.others (made_reg m) (λ x. absurd (omega arith)) ∙ e4 in
          let lt : j < length (done ++ (EEmpty ∷ R)) = omega (arith, len, length-append done (EEmpty ∷ R)) in
          let b = st_step (K ++ (X ∷ [])) l.regs (made_reg m) j (second_at m homes q) rest (length K) X w four
          (get_end K X []) l.here lt in
          let inner : slice_set X j w ≡ (done ++ (w ∷ [])) ++ R =
          ap (λ n. slice_set (done ++ (EEmpty ∷ R)) n w) len ∙ set_end done EEmpty w R ∙ sym (append_assoc done w R) in
          let heap : slice_set (K ++ (X ∷ [])) (length K) (slice_set X j w) ≡ K ++ (((done ++ (w ∷ [])) ++ R) ∷ []) =
          set_end K X (slice_set X j w) [] ∙ ap (λ y. K ++ (y ∷ [])) inner in
          let len2 : suc j ≡ length (done ++ (w ∷ [])) = omega (arith, len, length-append done (w ∷ [])) in
          let c = fills qs ws (done ++ (w ∷ [])) (suc j) l.regs k len2 (λ p le. l.others p (λ x. absurd (omega arith))
          ∙ s0 p le) four s.1 in
          let two = walks_step B (EAt (K ++ (X ∷ [])) l.regs (EThen (ESt (made_reg m) j (second_at m homes q)) rest))
          (EAt (K ++ (((done ++ (w ∷ [])) ++ R) ∷ [])) l.regs rest) (b
          ∙ ap (λ y. Some (EGoes Next (EAt y l.regs rest))) heap) in
          record {
            regs = c.regs;
            walks = subst (λ z. Walks B (EAt (K ++ (X ∷ [])) ρ (efill m homes (q ∷ qs) j k))
                (EAt (K ++ (z ∷ [])) c.regs k)) (append_assoc done w ws)
                (walks_on B _ _ _ l.walks (walks_on B _ _ _ two c.walks));
            others = λ p ne. c.others p ne ∙ l.others p ne;
          }

      pub record Built (ρ : ERegs) (e : EState) (ws : List EWord) (k : ESeq) : Type 0 where
        pub regs : ERegs
        pub moves : Moves B e (EAt (K ++ (ws ∷ [])) regs k)
        pub made : regs (made_reg m) ≡ Some (EAddress (length K))
        pub others : (q : ℕ) → q ≢ second_reg m → q ≢ made_reg m → regs q ≡ ρ q

      -- a frame is made
      pub builds : (qs : List ℕ) (ws : List EWord) (k : ESeq) → Sources qs ws →
          Built ρ0 (EAt K ρ0 (ebuild m homes qs k)) ws k
      builds qs ws k s =
          let n : EWord = EAddress (length K) in
          let ρ1 : ERegs = with_reg ρ0 (made_reg m) (EAddress (length K)) in
          let o : (p : ℕ) → p ≢ made_reg m → ρ1 p ≡ ρ0 p = λ p ne. look_other ρ0 (made_reg m) p n ne in
          let a = moves_step B (EAt K ρ0 (ebuild m homes qs k))
          (EAt (K ++ (replicate (length qs) EEmpty ∷ [])) ρ1 (efill m homes qs 0 k)) refl in
          let c = fills qs ws [] 0 ρ1 k refl (λ p le. o p (λ x. absurd (omega arith))) (look_same ρ0 (made_reg m) n)
          s in
          record {
            regs = c.regs;
            moves = moves_walk B _ _ _ a c.walks;
            made = c.others (made_reg m) (λ x. absurd (omega arith)) ∙ look_same ρ0 (made_reg m) n;
            others = λ q x y. c.others q x ∙ o q y;
          }
