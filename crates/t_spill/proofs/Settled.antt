-- The word that was computed stays, is put into a slot, or into a new frame.
use Rattle.std.proofs.Common.{◌≡◌, ℕ, suc, ◌<◌, ◌≤◌, cond, Bool, true, false, [], ◌∷◌, refl, sym, ap, ap₂, ◌∙◌}
use Rattle.std.proofs.Common.{subst, arith, nat_lt, Some}
use Rattle.std.proofs.Math.Path.{fun_ext}
use Rattle.std.proofs.Math.Logic.{⊎_elim}
use Rattle.std.proofs.lemmas.Bool.{cases_lt, lt-ltb, le-ltb, ne_eqb}
use Rattle.t_types.specs.Tree.{Ty, TFile, shift_file}
use Rattle.t_types.specs.Fits.{lookup}
use Rattle.t_terms.specs.Tree.{TInstr, Bnz, Unpack, TSeq, TProg, names_after}
use Rattle.t_spill_rules.specs.Spill.{Held, Layout, Way, Stays, Holds, Fills, Gathers, homed, into, sp, or_int, ins}
use Rattle.t_spill_rules.specs.Spill.{next}
use Rattle.t_spill_rules.specs.Spill.{kept}
use Rattle.t_spill_rules.specs.Spill.{keep, live, among, numbers, high_part, layout, gather, defines, way, way_of}
use Rattle.t_spill_rules.specs.Spill.{after_way}
use Rattle.t_spill_rules.specs.Spill.{slots_by, used_by, slots, before, finish, fill_slot, code, most_slots, stores}
use Rattle.t_spill_laws.proofs.Files.{lookup_ins, look_same}
use Rattle.t_spill_laws.proofs.Live.{kept_wants, kept_agrees, kept_sub, kept_ascends}
use Rattle.t_spill_laws.proofs.Computed.{ascends_next}
use Rattle.t_spill_code.specs.Homes.{home_in, has_in, Sets, layout_of, text}
use Rattle.t_spill_code.specs.declared.homes.Homes.{Homes}
use Rattle.t_spill.specs.Finishing.{used, Filled, Frames, Gathered}
use Rattle.t_spill.specs.Known.{Knows, given}
use Rattle.t_spill.specs.Moving.{Before, Between, Settles, low, finished}
use Rattle.t_spill.specs.Picking.{Homed}
use Rattle.t_spill.specs.Wants.{Tells}
use Rattle.t_spill.specs.Ways.{way_by, way_when}
use Rattle.t_spill.specs.declared.stepping.Walk.{Walk}
use Rattle.t_spill.proofs.Picked.{high_listed}

-- what becomes of a word
abbrev kind : Way → ℕ
kind Stays = 0
kind Fills = 1
kind Gathers = 2
kind Holds = 3

-- told by whether the next instruction stores into its tuple
way_is : (m u : ℕ) (i : TInstr) (c : TSeq) (b : Bool) → b ≡ stores (defines i) c → way m u i c ≡ way_when m u i b
way_is m u (Bnz r v) c b e = refl
way_is m u (Unpack rd v) c b e = refl
way_is m u i c b e = ap (way_by m u (defines i)) (sym e)

pub way_told : (m u v : ℕ) (i : TInstr) (c : TSeq) (b : Bool) (w : Way) → u ≡ v → b ≡ stores (defines i) c →
    way_when m v i b ≡ w → way m u i c ≡ w
way_told m u v i c b w same e is = way_is m u i c b e ∙ ap (λ n. way_when m n i b) same ∙ is

stays_low : (m u rd : ℕ) (c : TSeq) → way_of m u rd c ≡ Stays → rd ≤ m
stays_low m u rd c e =
    ⊎_elim
    (λ (lt : m < rd).
    let one = sym (ap (λ b. kind (cond b (cond (nat_lt u most_slots) (cond (stores rd c) Holds Fills) Gathers) Stays))
    (lt-ltb m rd lt)) ∙ ap kind e in
    absurd (go (nat_lt u most_slots) (stores rd c) one))
    (λ (le : rd ≤ m). le)
    (cases_lt m rd)
  where
    go : (b d : Bool) → kind (cond b (cond d Holds Fills) Gathers) ≡ 0 → ⊥
    go true true h = absurd (omega (arith, h))
    go true false h = absurd (omega (arith, h))
    go false d h = absurd (omega (arith, h))

pub stays_defines : (m u : ℕ) (i : TInstr) (c : TSeq) → way m u i c ≡ Stays → defines i ≤ m
stays_defines m u (Bnz r v) c e = omega arith
stays_defines m u (Unpack rd v) c e = let no : 2 ≡ 0 = ap kind e in absurd (omega (arith, no))
stays_defines m u i c e = stays_low m u (defines i) c e

-- one that does not stay is of a register above m
leaves_high : (m u rd : ℕ) (c : TSeq) → (way_of m u rd c ≡ Stays → ⊥) → m < rd
leaves_high m u rd c moves =
    ⊎_elim
    (λ (lt : m < rd). lt)
    (λ (le : rd ≤ m).
    absurd (moves (ap (λ b. cond b (cond (nat_lt u most_slots) (cond (stores rd c) Holds Fills) Gathers) Stays)
    (le-ltb m rd le))))
    (cases_lt m rd)

pub fills_defines : (m u : ℕ) (i : TInstr) (c : TSeq) → way m u i c ≡ Fills → m < defines i
fills_defines m u (Bnz r v) c e = let no : 0 ≡ 1 = ap kind e in absurd (omega (arith, no))
fills_defines m u (Unpack rd v) c e = let no : 2 ≡ 1 = ap kind e in absurd (omega (arith, no))
fills_defines m u i c e =
    leaves_high m u (defines i) c (λ s. let no : 0 ≡ 1 = sym (ap kind s) ∙ ap kind e in absurd (omega (arith, no)))

-- the type that a definition gives is that of its register afterwards
ins_gives : (rd : ℕ) (t : Ty) (x : TFile) → or_int (lookup (ins rd t x) rd) ≡ t
ins_gives rd t x = ap or_int (ap (λ g. g rd) (lookup_ins rd t x) ∙ look_same (lookup x) rd t)

pub fills_type : (P : TProg) (x : TFile) (m u : ℕ) (i : TInstr) (c : TSeq) → way m u i c ≡ Fills →
    or_int (lookup (next P x i) (defines i)) ≡ given P x i
fills_type P x m u (Bnz r v) c e = let no : 0 ≡ 1 = ap kind e in absurd (omega (arith, no))
fills_type P x m u (Unpack rd v) c e = ins_gives rd _ (shift_file 1 0 x)
fills_type P x m u i c e = ins_gives (defines i) _ x

-- where a frame is made, what is kept is what the rest wants
pub gathers_kept : (P : TProg) (x : TFile) (m u : ℕ) (i : TInstr) (c : TSeq) → way m u i c ≡ Gathers →
    kept P x i c ≡ keep (live P (next P x i) c) (next P x i)
gathers_kept P x m u (Bnz r v) c e = let no : 0 ≡ 2 = ap kind e in absurd (omega (arith, no))
gathers_kept P x m u _ c e = refl

-- what is left of the code, by what becomes of the word
module _ (P : TProg) (x : TFile) (w : Walk) (i : TInstr) (c : TSeq) where
  abbrev by_way : Way → TSeq
  by_way v =
      let ts = slots_by v (sp (low w) (or_int (lookup (next P x i) (defines i))))
      (slots (low w) P (used_by v (used w.code)) (kept P x i c) c) in
      text (low w) w.code.body ts
      (before (finish (low w) (layout_of w.code.homes w.code.body) (defines i) ts (kept P x i c) v)
      (code (low w) P (after_way (low w) (layout_of w.code.homes w.code.body) (defines i) (kept P x i c) v)
      (kept P x i c) c))

  finished_is : (v : Way) → way (low w) (used w.code) i c ≡ v → finished P x w i c ≡ by_way v
  finished_is v e = ap by_way e

-- the walk behind the instruction, but for the homes of its registers
before_next : (P : TProg) (n : ℕ) (y x : TFile) (old new : Walk) (i : TInstr) (c : TSeq) → Between P n y x old i c →
    new.known ≡ old.known → new.ahead ≡ old.ahead → Homed (low new) (live P (kept P x i c) c)
    (kept P x i c) new.code.homes →
    Before P (names_after i n) (next P y i) (kept P x i c) new c
before_next P n y x old new i c b k a h =
    let wants = kept_wants P i x c in
    record {
      knows = subst (λ z. Knows (names_after i n) z (next P y i)) (sym k) b.knows;
      ready = b.ready;
      told = subst (λ z. Tells z (live P (kept P x i c) c)) (sym a) (subst (Tells old.ahead) (sym wants) b.told);
      rises = kept_ascends P i x c b.rises;
      agrees = λ r e.
          let e2 = subst (λ qs. among r qs ≡ true) wants e in
          b.agrees r e2 ∙ sym (kept_agrees P i x c r e2);
      homed = h;
    }

-- a register that stays known was known, and is wanted as before
module _ (P : TProg) (x : TFile) (i : TInstr) (c : TSeq) (r : ℕ) (t : Ty) where
  still_wanted : among r (live P (kept P x i c) c) ≡ true → among r (live P (next P x i) c) ≡ true
  still_wanted e = subst (λ qs. among r qs ≡ true) (kept_wants P i x c) e

  was_known : lookup (kept P x i c) r ≡ Some t → lookup (next P x i) r ≡ Some t
  was_known e = kept_sub P i x c r t e

same_layout : (L M : Layout) → ((r : ℕ) → L.homes r ≡ M.homes r) → L.used ≡ M.used → L ≡ M
same_layout L M h u = ap₂ (λ f n. (let K : Layout = record { homes = f; used = n } in K)) (fun_ext h) u

-- it stays
pub settle_stays : (P : TProg) (n : ℕ) (y x : TFile) (w : Walk) (i : TInstr) (c : TSeq) → Between P n y x w i c →
    way (low w) (used w.code) i c ≡ Stays → Settles P n y x w w i c
settle_stays P n y x w i c b e = (
  refl,
  before_next P n y x w w i c b refl refl
      (λ r t lt is k.
      let old = b.homed r t lt (still_wanted P x i c r t is) (was_known P x i c r t k) in
      let le = stays_defines (low w) (used w.code) i c e in
      sym (ap (λ d. cond d true (has_in w.code.homes r))
      (ne_eqb (defines i) r (λ z. absurd (omega (arith, z, lt, le))))) ∙ old),
  sym (finished_is P x w i c Stays e),
)

-- it is held
pub settle_holds : (P : TProg) (n : ℕ) (y x : TFile) (old : Walk) (hs : Homes) (i : TInstr) (c : TSeq) →
    Between P n y x old i c → way (low old) (used old.code) i c ≡ Holds →
    Sets old.code.homes hs (defines i) (Held (into (low old) (defines i))) →
    Settles P n y x old (record old { code = record old.code { homes = hs } }) i c
settle_holds P n y x old hs i c b e s =
    let m = low old in
    let body = old.code.body in (
      s.0,
      before_next P n y x old (record old { code = record old.code { homes = hs } }) i c b refl refl
          (λ r u lt is z.
          let lt2 : low old < r = subst (λ m. m < r) s.0 lt in
          s.2 r lt2 ∙ b.homed r u lt2 (still_wanted P x i c r u is) (was_known P x i c r u z)),
      ap (λ q. text q old.code.body (slots q P (used old.code) (kept P x i c) c)
          (code q P (layout_of hs old.code.body) (kept P x i c) c)) s.0
          ∙ ap (λ L. text m old.code.body (slots m P (used old.code) (kept P x i c) c) (code m P L (kept P x i c) c))
          (same_layout (layout_of hs old.code.body)
          (after_way m (layout_of old.code.homes old.code.body) (defines i) (kept P x i c) Holds) s.1 refl)
          ∙ sym (finished_is P x old i c Holds e),
    )

-- it is put into a slot
pub settle_fills : (P : TProg) (n : ℕ) (y x : TFile) (old new : Walk) (i : TInstr) (c : TSeq) (t : Ty) →
    Between P n y x old i c → way (low old) (used old.code) i c ≡ Fills → new.known ≡ old.known → new.ahead ≡
    old.ahead →
    t ≡ sp (low old) (given P x i) → Filled old.code new.code (defines i) t → Settles P n y x old new i c
settle_fills P n y x old new i c t b e k a same f =
    let m = low old in
    let T = sp (low old) (or_int (lookup (next P x i) (defines i))) in (
      f.0.0,
      before_next P n y x old new i c b k a
          (λ r u lt is z.
          let lt2 : low old < r = subst (λ m. m < r) f.0.0 lt in
          f.0.2 r lt2 ∙ b.homed r u lt2 (still_wanted P x i c r u is) (was_known P x i c r u z)),
      ap (λ q. text q new.code.body (slots q P (used new.code) (kept P x i c) c)
          (code q P (layout_of new.code.homes new.code.body) (kept P x i c) c)) f.0.0
          ∙ f.2 (slots m P (used new.code) (kept P x i c) c)
          (code m P (layout_of new.code.homes new.code.body) (kept P x i c) c)
          ∙ ap (λ z. text m old.code.body (z ∷ slots m P (used new.code) (kept P x i c) c)
          (before (fill_slot m (used old.code) (z ∷ slots m P (used new.code) (kept P x i c) c))
          (code m P (layout_of new.code.homes new.code.body) (kept P x i c) c)))
          (same ∙ ap (sp m) (sym (fills_type P x m (used old.code) i c e)))
          ∙ ap (λ z. text m old.code.body (T ∷ slots m P z (kept P x i c) c)
          (before (fill_slot m (used old.code) (T ∷ slots m P z (kept P x i c) c))
          (code m P (layout_of new.code.homes new.code.body) (kept P x i c) c))) f.1
          ∙ ap (λ L. text m old.code.body (T ∷ slots m P (suc (used old.code)) (kept P x i c) c)
          (before (fill_slot m (used old.code) (T ∷ slots m P (suc (used old.code)) (kept P x i c) c))
          (code m P L (kept P x i c) c)))
          (same_layout (layout_of new.code.homes new.code.body)
          (after_way m (layout_of old.code.homes old.code.body) (defines i) (kept P x i c) Fills) f.0.1 f.1)
          ∙ sym (finished_is P x old i c Fills e),
    )

-- it is put into a new frame
pub frames : (P : TProg) (n : ℕ) (y x : TFile) (w : Walk) (i : TInstr) (c : TSeq) → Between P n y x w i c →
    Frames w.code.homes (defines i) (live P (next P x i) c) (next P y i) (next P x i)
frames P n y x w i c b = (ascends_next P x i b.rises, b.agrees, b.homed)

pub settle_gathers : (P : TProg) (n : ℕ) (y x : TFile) (old new : Walk) (i : TInstr) (c : TSeq) →
    Between P n y x old i c → way (low old) (used old.code) i c ≡ Gathers → new.known ≡ old.known → new.ahead
    ≡ old.ahead →
    Gathered old.code new.code (defines i) (live P (next P x i) c) (next P x i) → Settles P n y x old new i c
settle_gathers P n y x old new i c b e k a g =
    let m = low old in
    let to : kept P x i c ≡ keep (live P (next P x i) c) (next P x i) = gathers_kept P x (low old)
    (used old.code) i c e in (
      g.0,
      before_next P n y x old new i c b k a
          (λ r u lt is z.
          let lt2 : low old < r = subst (λ q. q < r) g.0 lt in
          g.3 r ∙ ap (λ f. among r (numbers (high_part m f))) (sym to) ∙ high_listed m (kept P x i c) r u lt2 z),
      ap (λ q. text q new.code.body (slots q P (used new.code) (kept P x i c) c)
          (code q P (layout_of new.code.homes new.code.body) (kept P x i c) c)) g.0
          ∙ g.4 (slots m P (used new.code) (kept P x i c) c)
          (code m P (layout_of new.code.homes new.code.body) (kept P x i c) c)
          ∙ ap (λ f. text m old.code.body []
          (before (gather m (homed (home_in old.code.homes) (defines i) (Held (into m (defines i)))) (high_part m f))
          (code m P (layout_of new.code.homes new.code.body) (kept P x i c) c))) (sym to)
          ∙ ap (λ L. text m old.code.body []
          (before (gather m (homed (home_in old.code.homes) (defines i) (Held (into m (defines i))))
          (high_part m (kept P x i c))) (code m P L (kept P x i c) c)))
          (same_layout (layout_of new.code.homes new.code.body) (layout m (kept P x i c))
          (λ r. g.2 r ∙ ap (λ f. (layout m f).homes r) (sym to)) g.1)
          ∙ sym (finished_is P x old i c Gathers e),
    )
