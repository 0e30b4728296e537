-- Frames and slots of the second machine, and what they hold of the first one's registers.
use Rattle.std.proofs.Common.{◌≡◌, ℕ, zero, suc, ◌+◌, ◌<◌, ◌≤◌, cond, List, [], ◌∷◌}
use Rattle.std.proofs.Common.{◌++◌, length, Some, refl, sym, ap, ◌∙◌, subst, arith, slice_get, slice_set, inl, inr}
use Rattle.std.proofs.Common.{◌⊎◌, ⊎_elim}
use Rattle.std.specs.Prelude.{◌≢◌, replicate}
use Rattle.std.proofs.lemmas.Bool.{cases_lt, cases_eq, lt-ltb, le-ltb}
use Rattle.std.proofs.lemmas.Option.{slice_get_within, same_Some}
use Rattle.std.proofs.lemmas.List.{length-replicate}
use Rattle.t_types.specs.Tree.{Ty, TFile, NoRegs, MoreRegs}
use Rattle.t_types.specs.Fits.{FitsFile, RegTypes, lookup}
use Rattle.t_terms.specs.Tree.{Reg, TSeq}
use Rattle.t_terms.specs.Registers.{with_reg}
use Rattle.t_rules.specs.Machine.{Word, Heap, RegWords, Next}
use Rattle.t_rules.specs.Erase.{EWord, EAddress, EEmpty, ESeq, EThen, EMov, ESt, EHeap, ERegs, EState, EAt}
use Rattle.t_rules.specs.Erase.{EGoes}
use Rattle.t_spill_rules.specs.Spill.{frame_reg, slot_reg, first_reg, made_reg, high_part, numbers, position, Home}
use Rattle.t_spill_rules.specs.Spill.{Held, InFrame, InSlot, Layout, homed, layout, into, Way, Stays, Holds, Fills}
use Rattle.t_spill_rules.specs.Spill.{Gathers}
use Rattle.t_spill_rules.specs.Spill.{after_way}
use Rattle.t_spill_laws.proofs.Files.{look_same, look_other, high_look, fits_high}
use Rattle.t_spill_laws.proofs.Homes.{regular_up, sound_up, Sound, Regular, UpTo, Kept, Others, into_high, into_low}
use Rattle.t_spill_laws.proofs.Homes.{into_far, nearly_held}
use Rattle.t_spill_laws.proofs.Homes.{into_other, homed_both, homed_up, WayFits}
use Rattle.t_spill_laws.proofs.Erased.{egather, eslot, efinish, count_by, highs}
use Rattle.t_spill_laws.proofs.Walks.{Walks, walks_on, walks_none, walks_step, moves_walk, moves_walks, Full, get_end}
use Rattle.t_spill_laws.proofs.Walks.{set_end, st_step, mov_step, HomeAt, home_regs, home_heap, Sources, builds}
use Rattle.t_spill_laws.proofs.Heaps.{image, image_more, Heaps, heaps_frame, place_below, set_other, get_cases}
use Rattle.t_spill_laws.proofs.Heaps.{FrameHas}
use Rattle.t_spill_laws.proofs.Heaps.{word_in}
use Rattle.idx_core.proofs.Lists.{get_front, set_same, set_length}
use Rattle.t_rules.proofs.Settled.{there as get_there}

pub fits_at : (g : RegTypes) (y : TFile) (q : ℕ) (t : Ty) → FitsFile g y → lookup y q ≡ Some t → (u : Ty)
    × (g q ≡ Some u)
fits_at g NoRegs q t h e = cc
fits_at g (MoreRegs r u y) q t h e = go (cases_eq r q) (λ k. fits_at g y q t h.1 k)
  where
    go : (r ≡ q) ⊎ (r ≢ q) → (lookup y q ≡ Some t → (w : Ty) × (g q ≡ Some w)) → (w : Ty) × (g q ≡ Some w)
    go (inl same) f = (h.0.0, ap g (sym same) ∙ h.0.1)
    go (inr ne) f = f (sym (look_other (lookup y) r q u (λ z. ne (sym z))) ∙ e)

-- a tuple that stands for none of the program's is written
pub heaps_beside : (p : List ℕ) (h : Heap) (K : EHeap) (g : ℕ) (ws : List EWord) → Heaps p h K →
    ((a : ℕ) → slice_get p a ≡ Some g → ⊥) → Heaps p h (slice_set K g ws)
heaps_beside p h K g ws s out = record {
  same = λ a us e.
      let y = s.same a us e in
      let far : y.0 ≢ g = λ z. out a (y.2 ∙ ap Some z) in
      (y.0, y.1, y.2, set_other K g y.0 ws far ∙ y.3, y.4);
  size = s.size;
  apart = s.apart;
}

same_address : {a b : ℕ} → Some (EAddress a) ≡ Some (EAddress b) → a ≡ b
same_address e = cc

module _ (m : ℕ) where
  -- a register's word, and its image at a home
  pub record WordAt (p : List ℕ) (r : RegWords) (K : EHeap) (ρ : ERegs) (q : ℕ) (x : Home) : Type 0 where
    pub word : Word
    pub eword : EWord
    pub known : r q ≡ Some word
    pub stands : image p word ≡ Some eword
    pub full : Full eword
    pub home : HomeAt m K ρ x eword

  -- where another home has it
  moved : {p p2 : List ℕ} {r r2 : RegWords} {K K2 : EHeap} {ρ ρ2 : ERegs} {q : ℕ} {x y : Home}
      (w : WordAt p r K ρ q x) → r2 q ≡ r q →
      ((v : Word) (e : EWord) → image p v ≡ Some e → image p2 v ≡ Some e) → HomeAt m K2 ρ2 y w.eword →
      WordAt p2 r2 K2 ρ2 q y
  moved w e f h = record {
    word = w.word;
    eword = w.eword;
    known = e
        ∙ w.known;
    stands = f w.word w.eword w.stands;
    full = w.full;
    home = h;
  }

  -- slots that are used, and n that are left
  abbrev pub Slots : List ℕ → EHeap → ERegs → ℕ → ℕ → ℕ → Type 0
  Slots p K ρ f zero n = Unit {0}
  Slots p K ρ f (suc j) n =
      (g : ℕ) × (gw : List EWord) × (ρ (slot_reg m) ≡ Some (EAddress g)) × (slice_get K g ≡ Some gw) × (g ≢ f)
      × ((a : ℕ) → slice_get p a ≡ Some g → ⊥) × (suc j + n ≤ length gw)

  -- the spilled program's heap and registers stand for the program's
  pub record Alike (p : List ℕ) (x : TFile) (L : Layout) (n : ℕ) (h : Heap) (r : RegWords) (K : EHeap)
      (ρ : ERegs) : Type 0 where
    pub heaps : Heaps p h K
    pub f : ℕ
    pub fw : List EWord
    pub one : ρ (frame_reg m) ≡ Some (EAddress f)
    pub at : slice_get K f ≡ Some fw
    pub out : (a : ℕ) → slice_get p a ≡ Some f → ⊥
    pub room : Slots p K ρ f L.used n
    pub has : (q : ℕ) (t : Ty) → lookup x q ≡ Some t → WordAt p r K ρ q (L.homes q)

  slots_regs : (p : List ℕ) (K : EHeap) (ρ σ : ERegs) (f used n : ℕ) → σ (slot_reg m) ≡ ρ (slot_reg m) →
      Slots p K ρ f used n → Slots p K σ f used n
  slots_regs p K ρ σ f zero n e s = tt
  slots_regs p K ρ σ f (suc j) n e s = (s.0, s.1, e ∙ s.2, s.3, s.4, s.5, s.6)

  slots_heap : (p : List ℕ) (K X : EHeap) (ρ : ERegs) (f used n : ℕ) → Slots p K ρ f used n →
      Slots p (K ++ X) ρ f used n
  slots_heap p K X ρ f zero n s = tt
  slots_heap p K X ρ f (suc j) n s = (s.0, s.1, s.2, get_front K X s.0 s.1 s.3, s.4, s.5, s.6)

  -- with other registers above m + 2
  pub alike_regs : (p : List ℕ) (x : TFile) (L : Layout) (n : ℕ) (h : Heap) (r : RegWords) (K : EHeap) (ρ σ : ERegs) →
      Regular m L → ((q : ℕ) → q ≤ m + 2 → σ q ≡ ρ q) →
      Alike p x L n h r K ρ → Alike p x L n h r K σ
  alike_regs p x L n h r K ρ σ reg s a = record {
    heaps = a.heaps;
    f = a.f;
    fw = a.fw;
    one = s (frame_reg m) (omega arith) ∙ a.one;
    at = a.at;
    out = a.out;
    room = slots_regs p K ρ σ a.f L.used n (s (slot_reg m) (omega arith)) a.room;
    has = λ q t e. let w = a.has q t e in
        moved w refl (λ v y z. z)
        (home_regs m K ρ σ (m + 2) (L.homes q) w.eword (omega arith)
        (regular_up m (m + 2) L (omega arith) reg q) s w.home);
  }

  -- with another frame
  pub alike_frame : (p : List ℕ) (x : TFile) (L : Layout) (n : ℕ) (h : Heap) (r : RegWords) (K : EHeap) (ρ : ERegs)
      (ws : List EWord) →
      Alike p x L n h r K ρ → Alike p x L n h r (K ++ (ws ∷ [])) ρ
  alike_frame p x L n h r K ρ ws a = record {
    heaps = heaps_frame p h K ws a.heaps;
    f = a.f;
    fw = a.fw;
    one = a.one;
    at = get_front K (ws ∷ []) a.f a.fw a.at;
    out = a.out;
    room = slots_heap p K (ws ∷ []) ρ a.f L.used n a.room;
    has = λ q t e. let w = a.has q t e in
        moved w refl (λ v y z. z) (home_heap m K (ws ∷ []) ρ (L.homes q) w.eword w.home);
  }

  -- with another tuple
  apart_more : (p : List ℕ) (K : EHeap) (f : ℕ) → f < length K → ((a : ℕ) → slice_get p a ≡ Some f → ⊥) → (a : ℕ) →
      slice_get (p ++ (length K ∷ [])) a ≡ Some f → ⊥
  apart_more p K f lt out a z = ⊎_elim
      (λ (y : slice_get p a ≡ Some f). out a y)
      (λ (y : (a ≡ length p) × (f ≡ length K)). let e = y.1 in absurd (omega (arith, e, lt)))
      (get_cases p (length K) a f z)

  slots_tuple : (p : List ℕ) (K : EHeap) (ρ : ERegs) (f used n : ℕ) (es : List EWord) → Slots p K ρ f used n →
      Slots (p ++ (length K ∷ [])) (K ++ (es ∷ [])) ρ f used n
  slots_tuple p K ρ f zero n es s = tt
  slots_tuple p K ρ f (suc j) n es s = (
    s.0,
    s.1,
    s.2,
    get_front K (es ∷ []) s.0 s.1 s.3,
    s.4,
    apart_more p K s.0 (slice_get_within K s.0 s.1 s.3) s.5,
    s.6,
  )

  pub alike_tuple : (p : List ℕ) (x : TFile) (L : Layout) (n : ℕ) (h : Heap) (r : RegWords) (K : EHeap) (ρ : ERegs)
      (us : List Word) (es : List EWord) →
      Heaps (p ++ (length K ∷ [])) (h ++ (us ∷ [])) (K ++ (es ∷ [])) → Alike p x L n h r K ρ →
      Alike (p ++ (length K ∷ [])) x L n (h ++ (us ∷ [])) r (K ++ (es ∷ [])) ρ
  alike_tuple p x L n h r K ρ us es hs a = record {
    heaps = hs;
    f = a.f;
    fw = a.fw;
    one = a.one;
    at = get_front K (es ∷ []) a.f a.fw a.at;
    out = apart_more p K a.f (slice_get_within K a.f a.fw a.at) a.out;
    room = slots_tuple p K ρ a.f L.used n es a.room;
    has = λ q t e. let w = a.has q t e in
        moved w refl (λ v y z. image_more p (length K) v y z) (home_heap m K (es ∷ []) ρ (L.homes q) w.eword w.home);
  }

  -- with a tuple of the program written
  home_written : (p : List ℕ) (K : EHeap) (ρ : ERegs) (f used n d a q : ℕ) (ws : List EWord) (x : Home) (e : EWord) →
      ρ (frame_reg m) ≡ Some (EAddress f) → f ≢ d →
      Slots p K ρ f used n → slice_get p a ≡ Some d → Sound m used q x → HomeAt m K ρ x e →
      HomeAt m (slice_set K d ws) ρ x e
  home_written p K ρ f used n d a q ws (Held s) e one far room pl so h = h
  home_written p K ρ f used n d a q ws (InFrame i) e one far room pl so h =
      let same : h.0 ≡ f = same_address (sym h.2 ∙ one) in
      (h.0, h.1, h.2, set_other K d h.0 ws (λ z. far (sym same ∙ z)) ∙ h.3, h.4)
  home_written p K ρ f zero n d a q ws (InSlot i) e one far room pl so h = let lt = so.1 in absurd (omega (arith, lt))
  home_written p K ρ f (suc j) n d a q ws (InSlot i) e one far room pl so h =
      let same : h.0 ≡ room.0 = same_address (sym h.2 ∙ room.2) in
      (h.0, h.1, h.2, set_other K d h.0 ws (λ z. room.5 a (pl ∙ ap Some (sym z ∙ same))) ∙ h.3, h.4)

  slots_written : (p : List ℕ) (K : EHeap) (ρ : ERegs) (f used n d a : ℕ) (ws : List EWord) → slice_get p a ≡ Some d →
      Slots p K ρ f used n → Slots p (slice_set K d ws) ρ f used n
  slots_written p K ρ f zero n d a ws pl s = tt
  slots_written p K ρ f (suc j) n d a ws pl s =
      (s.0, s.1, s.2, set_other K d s.0 ws (λ z. s.5 a (pl ∙ ap Some (sym z))) ∙ s.3, s.4, s.5, s.6)

  -- a word is computed, and the others are at home
  pub record Mid (p : List ℕ) (x : TFile) (L : Layout) (n : ℕ) (h : Heap) (r : RegWords) (K : EHeap) (ρ : ERegs)
      (rd : ℕ) : Type 0 where
    pub heaps : Heaps p h K
    pub f : ℕ
    pub fw : List EWord
    pub one : ρ (frame_reg m) ≡ Some (EAddress f)
    pub at : slice_get K f ≡ Some fw
    pub out : (a : ℕ) → slice_get p a ≡ Some f → ⊥
    pub room : Slots p K ρ f L.used n
    pub others : Others m L rd
    pub mine : WordAt p r K ρ rd (Held (into m rd))
    pub old : (q : ℕ) (t : Ty) → q ≢ rd → lookup x q ≡ Some t → WordAt p r K ρ q (L.homes q)

  -- and where a tuple of the program is written then
  pub mid_written : (p : List ℕ) (x : TFile) (L : Layout) (n : ℕ) (h h1 : Heap) (r : RegWords) (K : EHeap)
      (ρ : ERegs) (rd d a : ℕ) (ws : List EWord) → slice_get p a ≡ Some d →
      Heaps p h1 (slice_set K d ws) → Mid p x L n h r K ρ rd → Mid p x L n h1 r (slice_set K d ws) ρ rd
  mid_written p x L n h h1 r K ρ rd d a ws pl hs s =
      let far : s.f ≢ d = λ z. s.out a (pl ∙ ap Some (sym z)) in
      record {
        heaps = hs;
        f = s.f;
        fw = s.fw;
        one = s.one;
        at = set_other K d s.f ws far ∙ s.at;
        out = s.out;
        room = slots_written p K ρ s.f L.used n d a ws pl s.room;
        others = s.others;
        mine = moved s.mine refl (λ v y z. z) s.mine.home;
        old = λ q t ne e. let w = s.old q t ne e in
            moved w refl (λ v y z. z)
            (home_written p K ρ s.f L.used n d a q ws (L.homes q) w.eword s.one far s.room pl (s.others q ne)
            w.home);
      }

  home_set : (K : EHeap) (ρ : ERegs) (used rd q : ℕ) (v e : EWord) (x : Home) → q ≢ rd → Sound m used q x →
      HomeAt m K ρ x e → HomeAt m K (with_reg ρ (into m rd) v) x e
  home_set K ρ used rd q v e (Held s) ne so h =
      let same = so.0 in look_other ρ (into m rd) s v (λ z. into_other m rd q so.1 ne (sym same ∙ z)) ∙ h
  home_set K ρ used rd q v e (InFrame i) ne so h = (
    h.0,
    h.1,
    look_other ρ (into m rd) (frame_reg m) v (into_far m rd (frame_reg m) (omega arith) (omega arith))
        ∙ h.2,
    h.3,
    h.4,
  )
  home_set K ρ used rd q v e (InSlot i) ne so h = (
    h.0,
    h.1,
    look_other ρ (into m rd) (slot_reg m) v (into_far m rd (slot_reg m) (omega arith) (omega arith))
        ∙ h.2,
    h.3,
    h.4,
  )

  pub mid_of : (p : List ℕ) (x : TFile) (L : Layout) (n : ℕ) (h : Heap) (r r2 : RegWords) (K : EHeap) (ρ : ERegs)
      (rd : ℕ) (w : Word) (e : EWord) → Others m L rd →
      Alike p x L n h r K ρ → image p w ≡ Some e → Full e → r2 rd ≡ Some w → ((q : ℕ) → q ≢ rd → r2 q ≡ r q) →
      Mid p x L n h r2 K (with_reg ρ (into m rd) e) rd
  mid_of p x L n h r r2 K ρ rd w e reg a im full here same =
      let σ : ERegs = with_reg ρ (into m rd) e in
      let far : (q : ℕ) → m < q → q ≤ m + 2 →
      σ q ≡ ρ q = λ q lt le. look_other ρ (into m rd) q e (into_far m rd q lt le) in
      record {
        heaps = a.heaps;
        f = a.f;
        fw = a.fw;
        one = far (frame_reg m) (omega arith) (omega arith) ∙ a.one;
        at = a.at;
        out = a.out;
        room = slots_regs p K ρ σ a.f L.used n (far (slot_reg m) (omega arith) (omega arith)) a.room;
        others = reg;
        mine = record {
          word = w;
          eword = e;
          known = here;
          stands = im;
          full = full;
          home =
              look_same ρ (into m rd) e;
        };
        old = λ q t ne k. let y = a.has q t k in
            moved y (same q ne) (λ v z u. u) (home_set K ρ L.used rd q e y.eword (L.homes q) ne (reg q ne) y.home);
      }

  -- the word is there already, where registers up to m + 2 are the same
  pub mid_here : (p : List ℕ) (x : TFile) (L : Layout) (n : ℕ) (h : Heap) (r : RegWords) (K : EHeap) (ρ σ : ERegs)
      (rd : ℕ) (w : Word) (e : EWord) → Others m L rd → ((q : ℕ) → q ≤ m + 2 → σ q ≡ ρ q) →
      Alike p x L n h r K ρ → image p w ≡ Some e → Full e → r rd ≡ Some w → σ (into m rd) ≡ Some e →
      Mid p x L n h r K σ rd
  mid_here p x L n h r K ρ σ rd w e reg s a im full here there = record {
    heaps = a.heaps;
    f = a.f;
    fw = a.fw;
    one = s (frame_reg m) (omega arith) ∙ a.one;
    at = a.at;
    out = a.out;
    room = slots_regs p K ρ σ a.f L.used n (s (slot_reg m) (omega arith)) a.room;
    others = reg;
    mine = record { word = w; eword = e; known = here; stands = im; full = full; home = there };
    old = λ q t ne k. let y = a.has q t k in
        moved y refl (λ v z u. u)
        (home_regs m K ρ σ (m + 2) (L.homes q) y.eword (omega arith)
        (sound_up m L.used q (m + 2) (L.homes q) (omega arith) (reg q ne)) s y.home);
  }

  -- so with the home of that word
  pub homed_word : (p : List ℕ) (x : TFile) (L : Layout) (n : ℕ) (h : Heap) (r : RegWords) (K : EHeap) (ρ : ERegs)
      (rd : ℕ) (u : Ty) → Mid p x L n h r K ρ rd →
      (q : ℕ) (t : Ty) → with_reg (lookup x) rd u q ≡ Some t → WordAt p r K ρ q (homed L.homes rd (Held (into m rd)) q)
  homed_word p x L n h r K ρ rd u a q t e =
      homed_both L.homes rd q (Held (into m rd)) (WordAt p r K ρ q)
      (λ s. subst (λ z. WordAt p r K ρ z (Held (into m rd))) (sym s) a.mine)
      (λ ne. a.old q t ne (sym (look_other (lookup x) rd q u ne) ∙ e))

  -- with a frame that holds the higher registers
  pub framed : (p : List ℕ) (to : TFile) (n : ℕ) (h : Heap) (r : RegWords) (K : EHeap) (ρ : ERegs) (f : ℕ)
      (ws : List EWord) → Heaps p h K → ρ (frame_reg m) ≡ Some (EAddress f) →
      slice_get K f ≡ Some ws → ((a : ℕ) → slice_get p a ≡ Some f → ⊥) → FrameHas p r (highs m to) ws →
      ((q : ℕ) (t : Ty) → q ≤ m → lookup to q ≡ Some t → WordAt p r K ρ q (Held q)) →
      Alike p to (layout m to) n h r K ρ
  framed p to n h r K ρ f ws hs one at out fh low = record {
    heaps = hs;
    f = f;
    fw = ws;
    one = one;
    at = at;
    out = out;
    room = tt;
    has = λ q t e. ⊎_elim
        (λ (lt : m < q).
        let y = word_in p r (high_part m to) ws q t fh (high_look m to q lt ∙ e) in
        subst (WordAt p r K ρ q) (sym (ap (λ b. cond b (InFrame (position (highs m to) q)) (Held q)) (lt-ltb m q lt)))
        (record { word = y.0; eword = y.1; known = y.2; stands = y.3; full = y.5; home = (f, ws, one, at, y.4) }))
        (λ (le : q ≤ m). subst (WordAt p r K ρ q)
        (sym (ap (λ b. cond b (InFrame (position (highs m to) q)) (Held q)) (le-ltb m q le))) (low q t le e))
        (cases_lt m q);
  }

  module _ (B : List ESeq) where
    -- the words of a new frame
    pub frame_words : (p : List ℕ) (r : RegWords) (K : EHeap) (ρ : ERegs) (homes : ℕ → Home) (up : (q : ℕ) →
        UpTo (m + 3) (homes q)) (k : RegTypes) →
        ((q : ℕ) (t : Ty) → k q ≡ Some t → WordAt p r K ρ q (homes q)) → (to : TFile) → FitsFile k to →
        (ws : List EWord) × Sources B m K ρ homes up (numbers to) ws × FrameHas p r (numbers to) ws
    frame_words p r K ρ homes up k words NoRegs h = ([], tt, tt)
    frame_words p r K ρ homes up k words (MoreRegs q t to) h =
        let rest = frame_words p r K ρ homes up k words to h.1 in
        let y = words q h.0.0 h.0.1 in
        (y.eword ∷ rest.0, ((y.full, y.home), rest.1), ((y.word, y.known, y.stands, y.full), rest.2))

    pub record Finished (e : EState) (p : List ℕ) (to : TFile) (L : Layout) (n : ℕ) (h : Heap) (r : RegWords)
        (k : ESeq) : Type 0 where
      pub heap : EHeap
      pub regs : ERegs
      pub walks : Walks B e (EAt heap regs k)
      pub alike : Alike p to L n h r heap regs

    -- a word goes into the first slot of new ones
    home_first : (K X : EHeap) (ρ : ERegs) (q : ℕ) (v e : EWord) (x : Home) → Sound m 0 q x → HomeAt m K ρ x e →
        HomeAt m (K ++ X) (with_reg ρ (slot_reg m) v) x e
    home_first K X ρ q v e (Held s) so h = let same = so.0 in
        look_other ρ (slot_reg m) s v (λ z. absurd (omega (arith, same, z, so.1))) ∙ h
    home_first K X ρ q v e (InFrame i) so h = (
      h.0,
      h.1,
      look_other ρ (slot_reg m) (frame_reg m) v (λ z. absurd (omega arith))
          ∙ h.2,
      get_front K X h.0 h.1 h.3,
      h.4,
    )
    home_first K X ρ q v e (InSlot i) so h = let lt = so.1 in absurd (omega (arith, lt))

    first_slot : (p : List ℕ) (x to : TFile) (homes : ℕ →
        Home) (n : ℕ) (h : Heap) (r : RegWords) (K : EHeap) (ρ : ERegs) (rd : ℕ) (u : Ty) (k : ESeq) → m < rd →
        Mid p x (record { homes = homes; used = 0 }) (suc n) h r K ρ rd → FitsFile (with_reg (lookup x) rd u) to →
        Finished (EAt K ρ (eslot m 0 (suc n) k)) p to (record { homes = homed homes rd (InSlot 0); used = 1 }) n h r k
    first_slot p x to homes n h r K ρ rd u k lt a fits =
        let e = a.mine.eword in
        let g = length K in
        let R : List EWord = replicate n EEmpty in
        let gw : List EWord = a.mine.eword ∷ replicate n EEmpty in
        let σ : ERegs = with_reg ρ (slot_reg m) (EAddress (length K)) in
        let three : σ (first_reg m) ≡ Some e =
        look_other ρ (slot_reg m) (first_reg m) (EAddress (length K)) (λ z. absurd (omega arith))
        ∙ ap ρ (sym (into_high m rd lt)) ∙ a.mine.home in
        let s1 = walks_step B (EAt K ρ (eslot m 0 (suc n) k))
        (EAt (K ++ ((EEmpty ∷ replicate n EEmpty) ∷ [])) σ (EThen (ESt (slot_reg m) 0 (first_reg m)) k)) refl in
        let s2 = st_step B (K ++ ((EEmpty ∷ R) ∷ [])) σ (slot_reg m) 0 (first_reg m) k g (EEmpty ∷ R) e
        (look_same ρ (slot_reg m) (EAddress (length K))) (get_end K (EEmpty ∷ R) []) three (omega arith)
        ∙ ap (λ z. Some (EGoes Next (EAt z σ k))) (set_end K (EEmpty ∷ R) gw []) in
        let below = slice_get_within K a.f a.fw a.at in
        let len = length-replicate n EEmpty in
        record {
          heap = K ++ ((a.mine.eword ∷ replicate n EEmpty) ∷ []);
          regs = σ;
          walks = walks_on B _ _ _ s1 (walks_step B _ _ s2);
          alike = record {
            heaps = heaps_frame p h K gw a.heaps;
            f = a.f;
            fw = a.fw;
            one = look_other ρ (slot_reg m) (frame_reg m) (EAddress (length K)) (λ z. absurd (omega arith)) ∙ a.one;
            at = get_front K (gw ∷ []) a.f a.fw a.at;
            out = a.out;
            room = (
              length K,
              a.mine.eword ∷ replicate n EEmpty,
              look_same ρ (slot_reg m) (EAddress (length K)),
              get_end K gw [],
              (λ z. absurd (omega (arith, z, below))),
              (λ b z. let lo = place_below p h K a.heaps b (length K) z in absurd (omega (arith, lo))),
              omega (arith, len),
            );
            has = λ q t z.
                let v = fits_at (with_reg (lookup x) rd u) to q t fits z in
                homed_both homes rd q (InSlot 0) (WordAt p r (K ++ ((a.mine.eword ∷ replicate n EEmpty) ∷ [])) σ q)
                (λ s. subst (λ i. WordAt p r (K ++ ((a.mine.eword ∷ replicate n EEmpty) ∷ [])) σ i (InSlot 0)) (sym s)
                (moved a.mine refl (λ w y i. i) (
                  length K,
                  a.mine.eword ∷ replicate n EEmpty,
                  look_same ρ (slot_reg m) (EAddress (length K)),
                  get_end K gw [],
                  refl,
                )))
                (λ ne. let y = a.old q v.0 ne (sym (look_other (lookup x) rd q u ne) ∙ v.1) in
                moved y refl (λ w z i. i)
                (home_first K (gw ∷ []) ρ q (EAddress (length K)) y.eword (homes q) (a.others q ne) y.home));
          };
        }

    -- or into the next one
    home_next : (p : List ℕ) (K : EHeap) (ρ : ERegs) (f j g q : ℕ) (gw : List EWord) (v e : EWord) (x : Home) →
        ρ (frame_reg m) ≡ Some (EAddress f) → ρ (slot_reg m) ≡ Some (EAddress g) →
        slice_get K g ≡ Some gw → g ≢ f → Sound m (suc j) q x → HomeAt m K ρ x e →
        HomeAt m (slice_set K g (slice_set gw (suc j) v)) ρ x e
    home_next p K ρ f j g q gw v e (Held s) one two at far so h = h
    home_next p K ρ f j g q gw v e (InFrame i) one two at far so h =
        let same : h.0 ≡ f = same_address (sym h.2 ∙ one) in
        (h.0, h.1, h.2, set_other K g h.0 (slice_set gw (suc j) v) (λ z. far (sym z ∙ same)) ∙ h.3, h.4)
    home_next p K ρ f j g q gw v e (InSlot i) one two at far so h =
        let same : h.0 ≡ g = same_address (sym h.2 ∙ two) in
        let words : h.1 ≡ gw = same_Some _ _ (sym h.3 ∙ ap (slice_get K) same ∙ at) in
        let lt = so.1 in (
          g,
          slice_set gw (suc j) v,
          two,
          set_same K g gw (slice_set gw (suc j) v) at,
          set_other gw (suc j) i v (λ z. absurd (omega (arith, z, lt))) ∙ ap (λ y. slice_get y i) (sym words) ∙ h.4,
        )

    next_slot : (p : List ℕ) (x to : TFile) (homes : ℕ →
        Home) (j n : ℕ) (h : Heap) (r : RegWords) (K : EHeap) (ρ : ERegs) (rd : ℕ) (u : Ty) (k : ESeq) → (m < rd)
        × (suc j < 1000) →
        Mid p x (record { homes = homes; used = suc j }) (suc n) h r K ρ rd → FitsFile (with_reg (lookup x) rd u) to →
        Finished (EAt K ρ (eslot m (suc j) (suc n) k)) p to
        (record { homes = homed homes rd (InSlot (suc j)); used = suc (suc j) }) n h r k
    next_slot p x to homes j n h r K ρ rd u k lt a fits =
        let e = a.mine.eword in
        let g = a.room.0 in
        let gw = a.room.1 in
        let two = a.room.2 in
        let gw2 : List EWord = slice_set a.room.1 (suc j) a.mine.eword in
        let K2 : EHeap = slice_set K a.room.0 (slice_set a.room.1 (suc j) a.mine.eword) in
        let three : ρ (first_reg m) ≡ Some e = ap ρ (sym (into_high m rd lt.0)) ∙ a.mine.home in
        let more = a.room.6 in
        let within : suc j < length a.room.1 = omega (arith, more) in
        let s1 = st_step B K ρ (slot_reg m) (suc j) (first_reg m) k g gw e two a.room.3 three within in
        let size = set_length a.room.1 (suc j) a.mine.eword in
        let there = get_there a.room.1 (suc j) within in
        record {
          heap = slice_set K a.room.0 (slice_set a.room.1 (suc j) a.mine.eword);
          regs = ρ;
          walks = walks_step B _ _ s1;
          alike = record {
            heaps = heaps_beside p h K g gw2 a.heaps a.room.5;
            f = a.f;
            fw = a.fw;
            one = a.one;
            at = set_other K g a.f gw2 (λ z. a.room.4 (sym z)) ∙ a.at;
            out = a.out;
            room = (
              a.room.0,
              slice_set a.room.1 (suc j) a.mine.eword,
              a.room.2,
              set_same K g gw gw2 a.room.3,
              a.room.4,
              a.room.5,
              omega (arith, more, size),
            );
            has = λ q t z.
                let v = fits_at (with_reg (lookup x) rd u) to q t fits z in
                homed_both homes rd q (InSlot (suc j))
                (WordAt p r (slice_set K a.room.0 (slice_set a.room.1 (suc j) a.mine.eword)) ρ q)
                (λ s. subst (λ i. WordAt p r (slice_set K a.room.0 (slice_set a.room.1 (suc j) a.mine.eword)) ρ i
                (InSlot (suc j))) (sym s)
                (moved a.mine refl (λ w y i. i) (
                  a.room.0,
                  slice_set a.room.1 (suc j) a.mine.eword,
                  a.room.2,
                  set_same K g gw gw2 a.room.3,
                  set_same a.room.1 (suc j) there.0 a.mine.eword there.1,
                )))
                (λ ne. let y = a.old q v.0 ne (sym (look_other (lookup x) rd q u ne) ∙ v.1) in
                moved y refl (λ w z i. i)
                (home_next p K ρ a.f j g q gw e y.eword (homes q) a.one two a.room.3 a.room.4 (a.others q ne)
                y.home));
          };
        }

    slot_at : (p : List ℕ) (x to : TFile) (homes : ℕ →
        Home) (used n : ℕ) (h : Heap) (r : RegWords) (K : EHeap) (ρ : ERegs) (rd : ℕ) (u : Ty) (k : ESeq) → (m < rd)
        × (used < 1000) →
        Mid p x (record { homes = homes; used = used }) (suc n) h r K ρ rd → FitsFile (with_reg (lookup x) rd u) to →
        Finished (EAt K ρ (eslot m used (suc n) k)) p to
        (record { homes = homed homes rd (InSlot used); used = suc used }) n h r k
    slot_at p x to homes zero n h r K ρ rd u k lt a fits = first_slot p x to homes n h r K ρ rd u k lt.0 a fits
    slot_at p x to homes (suc j) n h r K ρ rd u k lt a fits = next_slot p x to homes j n h r K ρ rd u k lt a fits

    -- what becomes of the word
    pub finish_at : (p : List ℕ) (x to : TFile) (L : Layout) (c : TSeq) (w : Way) (n : ℕ) (nx : List ℕ) (h : Heap)
        (r : RegWords) (K : EHeap) (ρ : ERegs) (rd : ℕ) (u : Ty) (k : ESeq) → WayFits m L.used rd c w → Kept m L rd →
        Mid p x L (count_by w n) h r K ρ rd → FitsFile (with_reg (lookup x) rd u) to → nx ≡ highs m to →
        Finished (EAt K ρ (efinish m L rd (count_by w n) nx w k)) p to (after_way m L rd to w) n h r k
    finish_at p x to L c Stays n nx h r K ρ rd u k wf kp a fits same = record {
      heap = K;
      regs = ρ;
      walks = walks_none B _;
      alike = record {
        heaps = a.heaps;
        f = a.f;
        fw = a.fw;
        one = a.one;
        at = a.at;
        out = a.out;
        room = a.room;
        has = λ q t z.
            let v = fits_at (with_reg (lookup x) rd u) to q t fits z in
            ⊎_elim
            (λ (s : q ≡ rd).
            let home : L.homes q ≡ Held (into m rd) = ap L.homes s
            ∙ nearly_held m L rd rd (a.others, kp) wf ∙ ap Held (sym (into_low m rd wf)) in
            subst (WordAt p r K ρ q) (sym home) (subst (λ i. WordAt p r K ρ i (Held (into m rd))) (sym s) a.mine))
            (λ (ne : q ≢ rd). a.old q v.0 ne (sym (look_other (lookup x) rd q u ne) ∙ v.1))
            (cases_eq q rd);
      };
    }
    finish_at p x to L c Holds n nx h r K ρ rd u k wf kp a fits same = record {
      heap = K;
      regs = ρ;
      walks = walks_none B _;
      alike = record {
        heaps = a.heaps;
        f = a.f;
        fw = a.fw;
        one = a.one;
        at = a.at;
        out = a.out;
        room = a.room;
        has = λ q t z. let v = fits_at (with_reg (lookup x) rd u) to q t fits z in
            (homed_word p x L n h r K ρ rd u a q v.0 v.1);
      };
    }
    finish_at p x to L c Fills n nx h r K ρ rd u k wf kp a fits same =
        slot_at p x to L.homes L.used n h r K ρ rd u k wf a fits
    finish_at p x to L c Gathers n nx h r K ρ rd u k wf kp a fits same =
        let homes : ℕ → Home = homed L.homes rd (Held (into m rd)) in
        let up : (q : ℕ) → UpTo (m + 3) (homed L.homes rd (Held (into m rd)) q) = λ q. homed_up m L rd q a.others in
        let words = homed_word p x L 0 h r K ρ rd u a in
        let y = frame_words p r K ρ homes up (with_reg (lookup x) rd u) words (high_part m to)
        (fits_high (with_reg (lookup x) rd u) m to fits) in
        let k1 = EThen (EMov (frame_reg m) (Reg (made_reg m))) k in
        let b = builds B m K ρ homes up (highs m to) y.0 k1 y.1 in
        let σ : ERegs = with_reg b.regs (frame_reg m) (EAddress (length K)) in
        let s2 = mov_step B (K ++ (y.0 ∷ [])) b.regs (frame_reg m) (Reg (made_reg m)) k (EAddress (length K)) b.made in
        let one : σ (frame_reg m) ≡ Some (EAddress (length K)) =
        look_same b.regs (frame_reg m) (EAddress (length K)) in
        let low : (q : ℕ) (t : Ty) → q ≤ m → lookup to q ≡ Some t → WordAt p r (K ++ (y.0 ∷ [])) σ q (Held q) =
        λ q t le z.
        let v = fits_at (with_reg (lookup x) rd u) to q t fits z in
        let same_reg : σ q ≡ ρ q = look_other b.regs (frame_reg m) q (EAddress (length K)) (λ i. absurd (omega arith))
        ∙ b.others q (λ i. absurd (omega arith)) (λ i. absurd (omega arith)) in
        ⊎_elim
        (λ (s : q ≡ rd).
        let lo : rd ≤ m = omega (arith, le, s) in
        let w = a.mine in
        record {
          word = w.word;
          eword = w.eword;
          known = ap r s ∙ w.known;
          stands = w.stands;
          full = w.full;
          home =
              same_reg ∙ ap ρ (s ∙ sym (into_low m rd lo)) ∙ w.home;
        })
        (λ (ne : q ≢ rd).
        let w = subst (WordAt p r K ρ q) (nearly_held m L rd q (a.others, kp) le)
        (a.old q v.0 ne (sym (look_other (lookup x) rd q u ne) ∙ v.1)) in
        record {
          word = w.word;
          eword = w.eword;
          known = w.known;
          stands = w.stands;
          full = w.full;
          home = same_reg
              ∙ w.home;
        })
        (cases_eq q rd) in
        subst (λ z. Finished (EAt K ρ (egather m (homed L.homes rd (Held (into m rd))) z k)) p to (layout m to) n h r
        k) (sym same)
        (record {
          heap = K ++ (y.0 ∷ []);
          regs = σ;
          walks = moves_walks B _ _ (moves_walk B _ _ _ b.moves (walks_step B _ _ s2));
          alike = framed p to n h r (K ++ (y.0 ∷ [])) σ (length K) y.0 (heaps_frame p h K y.0 a.heaps) one
              (get_end K y.0 [])
              (λ b2 z. let lo = place_below p h K a.heaps b2 (length K) z in absurd (omega (arith, lo))) y.2 low;
        })
