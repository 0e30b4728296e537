-- Where words stand: homes of a layout, the way of a definition, and the registers that instructions use.
use Rattle.std.proofs.Common.{◌≡◌, ℕ, suc, ◌+◌, ◌<◌, ◌≤◌, nat_lt, cond, Bool, true, false, List, refl, sym, ap, ◌∙◌}
use Rattle.std.proofs.Common.{subst, arith, inl, inr, ◌⊎◌, ⊎_elim}
use Rattle.std.specs.Prelude.{◌≢◌}
use Rattle.std.proofs.lemmas.Bool.{eq-eqb, ne_eqb, cases_lt, cases_eq, lt-ltb, le-ltb}
use Rattle.t_types.specs.Tree.{TFile}
use Rattle.t_terms.specs.Tree.{TInstr, Bnz, St, Unpack, TSeq, Then, Ends}
use Rattle.t_spill_rules.specs.Spill.{Home, Held, InFrame, InSlot, Layout, homed, position, gathered, layout, at_home}
use Rattle.t_spill_rules.specs.Spill.{into}
use Rattle.t_spill_rules.specs.Spill.{first_reg, defines}
use Rattle.t_spill_rules.specs.Spill.{Way, Stays, Holds, Fills, Gathers, most_slots, way_of, after_way, after, used_by}
use Rattle.t_spill_rules.specs.Spill.{stores, stores_by}

-- the home of r is its own register, up to m, or in a tuple, in a slot that is used
abbrev pub Sound : ℕ → ℕ → ℕ → Home → Type 0
Sound m used r (Held q) = (q ≡ r) × (r ≤ m)
Sound m used r (InFrame i) = m < r
Sound m used r (InSlot i) = (m < r) × (i < used)

abbrev pub Regular : ℕ → Layout → Type 0
Regular m L = (r : ℕ) → Sound m L.used r (L.homes r)

-- a word in a register is in one up to b
abbrev pub UpTo : ℕ → Home → Type 0
UpTo b (Held q) = q ≤ b
UpTo b (InFrame i) = Unit {0}
UpTo b (InSlot i) = Unit {0}

pub sound_up : (m used r b : ℕ) (x : Home) → m ≤ b → Sound m used r x → UpTo b x
sound_up m used r b (Held q) le h = let e = h.0 in omega (arith, e, h.1)
sound_up m used r b (InFrame i) le h = tt
sound_up m used r b (InSlot i) le h = tt

pub regular_up : (m b : ℕ) (L : Layout) → m ≤ b → Regular m L → (r : ℕ) → UpTo b (L.homes r)
regular_up m b L le reg r = sound_up m L.used r b (L.homes r) le (reg r)

pub sound_held : (m used r : ℕ) (x : Home) → r ≤ m → Sound m used r x → x ≡ Held r
sound_held m used r (Held q) le h = ap Held h.0
sound_held m used r (InFrame i) le h = absurd (omega arith)
sound_held m used r (InSlot i) le h = let lt = h.0 in absurd (omega (arith, lt))

-- where a word is for an instruction
pub at_case : (t b : ℕ) (x : Home) → UpTo b x → (at_home t x ≡ t) ⊎ (at_home t x ≤ b)
at_case t b (Held q) h = inr h
at_case t b (InFrame i) h = inl refl
at_case t b (InSlot i) h = inl refl

-- so a register between is another one
pub at_far : (t b q : ℕ) (x : Home) → UpTo b x → q ≢ t → b < q → at_home t x ≢ q
at_far t b q x h ne lt e = ⊎_elim
    (λ (k : at_home t x ≡ t). ne (sym e ∙ k))
    (λ (k : at_home t x ≤ b). absurd (omega (arith, k, e, lt)))
    (at_case t b x h)

-- where an instruction computes
pub into_high : (m rd : ℕ) → m < rd → into m rd ≡ first_reg m
into_high m rd lt = ap (λ b. cond b (first_reg m) rd) (lt-ltb m rd lt)

pub into_low : (m rd : ℕ) → rd ≤ m → into m rd ≡ rd
into_low m rd le = ap (λ b. cond b (first_reg m) rd) (le-ltb m rd le)

pub into_case : (m rd : ℕ) → ((m < rd) × (into m rd ≡ m + 3)) ⊎ ((rd ≤ m) × (into m rd ≡ rd))
into_case m rd = ⊎_elim (λ (lt : m < rd). inl (lt, into_high m rd lt)) (λ (le : rd ≤ m). inr (le, into_low m rd le))
    (cases_lt m rd)

pub into_most : (m rd : ℕ) → into m rd ≤ m + 3
into_most m rd = ⊎_elim
    (λ (k : (m < rd) × (into m rd ≡ m + 3)). let e = k.1 in omega (arith, e))
    (λ (k : (rd ≤ m) × (into m rd ≡ rd)). let e = k.1 in omega (arith, e, k.0))
    (into_case m rd)

-- neither the frame nor the slots
pub into_far : (m rd q : ℕ) → m < q → q ≤ m + 2 → q ≢ into m rd
into_far m rd q lt le z = ⊎_elim
    (λ (k : (m < rd) × (into m rd ≡ m + 3)). let e = k.1 in absurd (omega (arith, e, z, le)))
    (λ (k : (rd ≤ m) × (into m rd ≡ rd)). let e = k.1 in absurd (omega (arith, e, z, k.0, lt)))
    (into_case m rd)

-- nor another register up to m
pub into_other : (m rd r : ℕ) → r ≤ m → r ≢ rd → r ≢ into m rd
into_other m rd r le ne z = ⊎_elim
    (λ (k : (m < rd) × (into m rd ≡ m + 3)). let e = k.1 in absurd (omega (arith, e, z, le)))
    (λ (k : (rd ≤ m) × (into m rd ≡ rd)). let e = k.1 in ne (z ∙ e))
    (into_case m rd)

-- the same but for one register, whose word may be held where it was computed
abbrev pub Kept : ℕ → Layout → ℕ → Type 0
Kept m L rd = Sound m L.used rd (L.homes rd) ⊎ (L.homes rd ≡ Held (into m rd))

abbrev pub Others : ℕ → Layout → ℕ → Type 0
Others m L rd = (q : ℕ) → q ≢ rd → Sound m L.used q (L.homes q)

abbrev pub Nearly : ℕ → Layout → ℕ → Type 0
Nearly m L rd = Others m L rd × Kept m L rd

pub regular_nearly : (m : ℕ) (L : Layout) (rd : ℕ) → Regular m L → Nearly m L rd
regular_nearly m L rd h = (λ q ne. h q, inl (h rd))

-- a home that is set
pub homed_same : (homes : ℕ → Home) (r : ℕ) (x : Home) → homed homes r x r ≡ x
homed_same homes r x = ap (λ b. cond b x (homes r)) (eq-eqb r r refl)

pub homed_other : (homes : ℕ → Home) (r q : ℕ) (x : Home) → q ≢ r → homed homes r x q ≡ homes q
homed_other homes r q x ne = ap (λ b. cond b x (homes q)) (ne_eqb r q (λ e. ne (sym e)))

pub homed_both : (homes : ℕ → Home) (r q : ℕ) (x : Home) (G : Home → Type 0) → (q ≡ r → G x) → (q ≢ r → G (homes q)) →
    G (homed homes r x q)
homed_both homes r q x G a b = ⊎_elim
    (λ (e : q ≡ r). subst G (sym (ap (homed homes r x) e ∙ homed_same homes r x)) (a e))
    (λ (ne : q ≢ r). subst G (sym (homed_other homes r q x ne)) (b ne))
    (cases_eq q r)

pub homed_up : (m : ℕ) (L : Layout) (rd r : ℕ) → Others m L rd → UpTo (m + 3) (homed L.homes rd (Held (into m rd)) r)
homed_up m L rd r reg =
    homed_both L.homes rd r (Held (into m rd)) (UpTo (m + 3)) (λ e. into_most m rd)
    (λ ne. sound_up m L.used r (m + 3) (L.homes r) (omega arith) (reg r ne))

-- a layout in front of an instruction: the word of a register may be held for a store into its tuple
abbrev pub ReadyFor : ℕ → Layout → TInstr → Type 0
ReadyFor m L (St rd i rs) = Nearly m L rd
ReadyFor m L _ = Regular m L

abbrev pub Ready : ℕ → Layout → TSeq → Type 0
Ready m L (Then i c) = ReadyFor m L i
Ready m L (Ends e) = Regular m L

ready_for : (m : ℕ) (L : Layout) (i : TInstr) → Regular m L → ReadyFor m L i
ready_for m L (St rd i rs) h = regular_nearly m L rd h
ready_for m L _ h = h

pub regular_ready : (m : ℕ) (L : Layout) (c : TSeq) → Regular m L → Ready m L c
regular_ready m L (Then i c) h = ready_for m L i h
regular_ready m L (Ends e) h = h

pub ready_nearly : (m : ℕ) (L : Layout) (i : TInstr) → ReadyFor m L i → Nearly m L (defines i)
ready_nearly m L (St rd i rs) h = h
ready_nearly m L i h = regular_nearly m L (defines i) h

nearly_for : (m : ℕ) (L : Layout) (rd : ℕ) (i : TInstr) → stores_by rd i ≡ true → Nearly m L rd → ReadyFor m L i
nearly_for m L rd (St r i rs) e h = ⊎_elim
    (λ (z : r ≡ rd). subst (Nearly m L) (sym z) h)
    (λ (ne : r ≢ rd). let z : false ≡ true = sym (ne_eqb r rd ne) ∙ e in cc)
    (cases_eq r rd)
nearly_for m L rd _ e h = cc

pub nearly_ready : (m : ℕ) (L : Layout) (rd : ℕ) (c : TSeq) → stores rd c ≡ true → Nearly m L rd → Ready m L c
nearly_ready m L rd (Then i c) e h = nearly_for m L rd i e h
nearly_ready m L rd (Ends x) e h = cc

-- the register of a tuple that is stored into
pub stored_at : (m : ℕ) (L : Layout) (rd : ℕ) → Kept m L rd → at_home (first_reg m) (L.homes rd) ≡ into m rd
stored_at m L rd (inr e) = ap (at_home (first_reg m)) e
stored_at m L rd (inl s) = ⊎_elim
    (λ (lt : m < rd). far lt (L.homes rd) s ∙ sym (into_high m rd lt))
    (λ (le : rd ≤ m). ap (at_home (first_reg m)) (sound_held m L.used rd (L.homes rd) le s)
    ∙ sym (into_low m rd le))
    (cases_lt m rd)
  where
    far : m < rd → (x : Home) → Sound m L.used rd x → at_home (first_reg m) x ≡ first_reg m
    far lt (Held q) s = let le = s.1 in absurd (omega (arith, le, lt))
    far lt (InFrame i) s = refl
    far lt (InSlot i) s = refl

-- and no other one
pub stored_far : (m : ℕ) (L : Layout) (rd q : ℕ) → Kept m L rd → m + 3 < q → at_home (first_reg m) (L.homes rd) ≢ q
stored_far m L rd q k lt e =
    let most = into_most m rd in
    let same = stored_at m L rd k in absurd (omega (arith, most, same, e, lt))

-- a register up to m is in its place
pub nearly_held : (m : ℕ) (L : Layout) (rd q : ℕ) → Nearly m L rd → q ≤ m → L.homes q ≡ Held q
nearly_held m L rd q h le = ⊎_elim
    (λ (e : q ≡ rd). subst (λ z. L.homes z ≡ Held z) (sym e) (here (subst (λ z. z ≤ m) e le) h.1))
    (λ (ne : q ≢ rd). sound_held m L.used q (L.homes q) le (h.0 q ne))
    (cases_eq q rd)
  where
    here : rd ≤ m → Kept m L rd → L.homes rd ≡ Held rd
    here le (inl s) = sound_held m L.used rd (L.homes rd) le s
    here le (inr e) = e ∙ ap Held (into_low m rd le)

-- ways
abbrev pub WayFits : ℕ → ℕ → ℕ → TSeq → Way → Type 0
WayFits m used rd c Stays = rd ≤ m
WayFits m used rd c Holds = (m < rd) × (stores rd c ≡ true)
WayFits m used rd c Fills = (m < rd) × (used < most_slots)
WayFits m used rd c Gathers = Unit {0}

pub way_fits : (m used rd : ℕ) (c : TSeq) → WayFits m used rd c (way_of m used rd c)
way_fits m used rd c = go (nat_lt m rd) (nat_lt used most_slots) (stores rd c) refl refl refl
  where
    less : (x y : ℕ) → nat_lt x y ≡ true → x < y
    less x y k = ⊎_elim (λ (h : x < y). h) (λ (h : y ≤ x). let z : false ≡ true = sym (le-ltb x y h) ∙ k in
        cc) (cases_lt x y)

    go : (a b d : Bool) → nat_lt m rd ≡ a → nat_lt used most_slots ≡ b → stores rd c ≡ d →
        WayFits m used rd c (cond a (cond b (cond d Holds Fills) Gathers) Stays)
    go true true true e f g = (less m rd e, g)
    go true true false e f g = (less m rd e, less used most_slots f)
    go true false d e f g = tt
    go false b d e f g = ⊎_elim (λ (h : m < rd). let z : true ≡ false = sym (lt-ltb m rd h) ∙ e in
        cc) (λ (h : rd ≤ m). h) (cases_lt m rd)

-- layouts are regular
pub gathered_regular : (m : ℕ) (qs : List ℕ) → Regular m (gathered m qs)
gathered_regular m qs r = ⊎_elim
    (λ (h : m < r). subst (Sound m 0 r) (sym (ap (λ b. cond b (InFrame (position qs r)) (Held r)) (lt-ltb m r h))) h)
    (λ (h : r ≤ m). subst (Sound m 0 r) (sym (ap (λ b. cond b (InFrame (position qs r)) (Held r)) (le-ltb m r h)))
    (refl, h))
    (cases_lt m r)

pub sound_more : (m used r : ℕ) (x : Home) → Sound m used r x → Sound m (suc used) r x
sound_more m used r (Held q) h = h
sound_more m used r (InFrame i) h = h
sound_more m used r (InSlot i) h = let lt = h.1 in (h.0, omega (arith, lt))

pub slot_regular : (m : ℕ) (homes : ℕ → Home) (used rd : ℕ) → m < rd →
    Others m (record { homes = homes; used = used }) rd →
    Regular m (record { homes = homed homes rd (InSlot used); used = suc used })
slot_regular m homes used rd lt h r =
    homed_both homes rd r (InSlot used) (Sound m (suc used) r)
    (λ e. (omega (arith, lt, e), omega arith)) (λ ne. sound_more m used r (homes r) (h r ne))

stays_regular : (m : ℕ) (L : Layout) (rd : ℕ) → rd ≤ m → Nearly m L rd → Regular m L
stays_regular m L rd le h r = ⊎_elim
    (λ (e : r ≡ rd). let low : r ≤ m = omega (arith, le, e) in
    subst (Sound m L.used r) (sym (nearly_held m L rd r h low)) (refl, low))
    (λ (ne : r ≢ rd). h.0 r ne)
    (cases_eq r rd)

holds_nearly : (m : ℕ) (L : Layout) (rd : ℕ) → Nearly m L rd →
    Nearly m (record { homes = homed L.homes rd (Held (into m rd)); used = L.used }) rd
holds_nearly m L rd h = (
  λ q ne. subst (Sound m L.used q) (sym (homed_other L.homes rd q (Held (into m rd)) ne)) (h.0 q ne),
  inr (homed_same L.homes rd (Held (into m rd))),
)

after_ready : (m : ℕ) (L : Layout) (rd : ℕ) (c : TSeq) (to : TFile) (w : Way) → WayFits m L.used rd c w →
    Nearly m L rd → Ready m (after_way m L rd to w) c
after_ready m L rd c to Stays k h = regular_ready m L c (stays_regular m L rd k h)
after_ready m L rd c to Holds k h =
    nearly_ready m (record { homes = homed L.homes rd (Held (into m rd)); used = L.used }) rd c k.1
    (holds_nearly m L rd h)
after_ready m L rd c to Fills k h =
    regular_ready m (record { homes = homed L.homes rd (InSlot L.used); used = suc L.used }) c
    (slot_regular m L.homes L.used rd k.0 h.0)
after_ready m L rd c to Gathers k h = regular_ready m (layout m to) c (gathered_regular m _)

-- of each instruction
pub way_ready : (m : ℕ) (L : Layout) (i : TInstr) (c : TSeq) (to : TFile) → ReadyFor m L i →
    Ready m (after m L i c to) c
way_ready m L (Bnz r v) c to h = regular_ready m L c h
way_ready m L (Unpack rd v) c to h = regular_ready m (layout m to) c (gathered_regular m _)
way_ready m L i c to h =
    after_ready m L (defines i) c to (way_of m L.used (defines i) c) (way_fits m L.used (defines i) c)
    (ready_nearly m L i h)

-- Of any sequence that follows: the word of each register may be held.
abbrev pub Loose : ℕ → Layout → Type 0
Loose m L = (r : ℕ) → Kept m L r

pub regular_loose : (m : ℕ) (L : Layout) → Regular m L → Loose m L
regular_loose m L h r = inl (h r)

pub loose_up : (m : ℕ) (L : Layout) (r : ℕ) → Loose m L → UpTo (m + 3) (L.homes r)
loose_up m L r h = ⊎_elim
    (λ (s : Sound m L.used r (L.homes r)). sound_up m L.used r (m + 3) (L.homes r) (omega arith) s)
    (λ (e : L.homes r ≡ Held (into m r)). subst (UpTo (m + 3)) (sym e) (into_most m r))
    (h r)

pub homed_loose : (m : ℕ) (L : Layout) (rd r : ℕ) → Loose m L → UpTo (m + 3) (homed L.homes rd (Held (into m rd)) r)
homed_loose m L rd r h =
    homed_both L.homes rd r (Held (into m rd)) (UpTo (m + 3)) (λ e. into_most m rd) (λ ne. loose_up m L r h)

after_loose : (m : ℕ) (L : Layout) (rd : ℕ) (c : TSeq) (to : TFile) (w : Way) → WayFits m L.used rd c w → Loose m L →
    Loose m (after_way m L rd to w)
after_loose m L rd c to Stays k h r = h r
after_loose m L rd c to Holds k h r =
    homed_both L.homes rd r (Held (into m rd)) (λ x. Sound m L.used r x ⊎ (x ≡ Held (into m r)))
    (λ e. inr (ap (λ z. Held (into m z)) (sym e))) (λ ne. h r)
after_loose m L rd c to Fills k h r =
    homed_both L.homes rd r (InSlot L.used) (λ x. Sound m (suc L.used) r x ⊎ (x ≡ Held (into m r)))
    (λ e. let lt = k.0 in inl (omega (arith, lt, e), omega arith))
    (λ ne. ⊎_elim (λ (s : Sound m L.used r (L.homes r)). inl (sound_more m L.used r (L.homes r) s))
    (λ (z : L.homes r ≡ Held (into m r)). inr z) (h r))
after_loose m L rd c to Gathers k h r = inl (gathered_regular m _ r)

pub way_loose : (m : ℕ) (L : Layout) (i : TInstr) (c : TSeq) (to : TFile) → Loose m L → Loose m (after m L i c to)
way_loose m L (Bnz r v) c to h = h
way_loose m L (Unpack rd v) c to h = λ r. inl (gathered_regular m _ r)
way_loose m L i c to h =
    after_loose m L (defines i) c to (way_of m L.used (defines i) c) (way_fits m L.used (defines i) c) h

-- how many slots are used
pub used_is : (m : ℕ) (L : Layout) (rd : ℕ) (to : TFile) (w : Way) → (after_way m L rd to w).used ≡ used_by w L.used
used_is m L rd to Stays = refl
used_is m L rd to Holds = refl
used_is m L rd to Fills = refl
used_is m L rd to Gathers = refl
