-- Along a block: where a walk stands, and what an instruction makes of it.
use Rattle.std.specs.Prelude.{◌≡◌, ℕ, ◌<◌, true, cond, nat_eq, List, Some}
use Rattle.t_types.specs.Tree.{Ty, TFile}
use Rattle.t_types.specs.Fits.{lookup}
use Rattle.t_terms.specs.Tree.{TInstr, TSeq, Then, TProg, names_after}
use Rattle.t_spill_rules.specs.Spill.{live, numbers, next, kept, defines, way, after, before, finish, slots, code}
use Rattle.t_spill_rules.specs.Spill.{layout, high_part, among}
use Rattle.t_spill_laws.proofs.Files.{Ascends}
use Rattle.t_spill_laws.proofs.Live.{Agree}
use Rattle.t_spill_code.specs.Homes.{home_in, has_in, layout_of, text}
use Rattle.t_spill.specs.Finishing.{used}
use Rattle.t_spill.specs.Known.{Knows, given}
use Rattle.t_spill.specs.Picking.{Homed}
use Rattle.t_spill.specs.Ready.{Ready}
use Rattle.t_spill.specs.Wants.{Tells}
use Rattle.t_spill.specs.declared.stepping.Walk.{Walk}

abbrev pub low : Walk → ℕ
low w = w.code.homes.split.low

-- The rest s follows. Under n type names y is all that is known there, and x is what stays known: the same of all
-- registers that the rest wants.
pub record Before (P : TProg) (n : ℕ) (y x : TFile) (w : Walk) (s : TSeq) : Type 0 where
  pub knows : Knows n w.known y
  pub ready : Ready P n y s
  pub told : Tells w.ahead (live P x s)
  pub rises : Ascends x
  pub agrees : Agree (live P x s) x y
  pub homed : Homed (low w) (live P x s) x w.code.homes

-- the code of the block so far, with that of the rest
abbrev pub whole : TProg → TFile → Walk → TSeq → TSeq
whole P x w s =
    text (low w) w.code.body (slots (low w) P (used w.code) x s)
    (code (low w) P (layout_of w.code.homes w.code.body) x s)

-- The word of instruction i was computed, and the rest c follows it.
pub record Between (P : TProg) (n : ℕ) (y x : TFile) (w : Walk) (i : TInstr) (c : TSeq) : Type 0 where
  pub knows : Knows (names_after i n) w.known (next P y i)
  pub ready : Ready P (names_after i n) (next P y i) c
  pub told : Tells w.ahead (live P (next P x i) c)
  pub rises : Ascends x
  pub agrees : Agree (live P (next P x i) c) (next P x i) (next P y i)
  pub typed : given P y i ≡ given P x i
  pub homed : (r : ℕ) (t : Ty) → low w < r → among r (live P (next P x i) c) ≡ true → lookup (next P x i) r ≡ Some t →
      cond (nat_eq (defines i) r) true (has_in w.code.homes r) ≡ true

-- the code so far, with what is left of that of the instruction, and with that of the rest
abbrev pub finished : TProg → TFile → Walk → TInstr → TSeq → TSeq
finished P x w i c =
    text (low w) w.code.body (slots (low w) P (used w.code) x (Then i c))
    (before (finish (low w) (layout_of w.code.homes w.code.body) (defines i)
    (slots (low w) P (used w.code) x (Then i c)) (kept P x i c) (way (low w) (used w.code) i c))
    (code (low w) P (after (low w) (layout_of w.code.homes w.code.body) i c (kept P x i c)) (kept P x i c) c))

-- from the first walk to the second the word of an instruction is computed
abbrev pub Computes : TProg → ℕ → TFile → TFile → Walk → Walk → TInstr → TSeq → Type 0
Computes P n y x old new i c =
    (low new ≡ low old) × Between P n y x new i c × (finished P x new i c ≡ whole P x old (Then i c))

-- and it is put where it stays
abbrev pub Settles : TProg → ℕ → TFile → TFile → Walk → Walk → TInstr → TSeq → Type 0
Settles P n y x old new i c =
    (low new ≡ low old) × Before P (names_after i n) (next P y i) (kept P x i c) new c
    × (whole P (kept P x i c) new c ≡ finished P x old i c)

-- the whole instruction
abbrev pub Moves : TProg → ℕ → TFile → TFile → Walk → Walk → TInstr → TSeq → Type 0
Moves P n y x old new i c =
    (low new ≡ low old) × Before P (names_after i n) (next P y i) (kept P x i c) new c
    × (whole P (kept P x i c) new c ≡ whole P x old (Then i c))

-- a walk at the start of a block with this file, which wants these registers
abbrev pub Starts : ℕ → TFile → List ℕ → Walk → Type 0
Starts m x ws w =
    ((n : ℕ) → Knows n w.known x) × Tells w.ahead ws × (low w ≡ m) × (used w.code ≡ 0)
    × ((r : ℕ) → home_in w.code.homes r ≡ (layout m x).homes r)
    × ((r : ℕ) → has_in w.code.homes r ≡ among r (numbers (high_part m x)))
    × ((more : List Ty) (rest : TSeq) → text m w.code.body more rest ≡ rest)

-- wherever the first walk stands before s, the second stands before t, and the code is that of s
abbrev pub Reaches : TProg → Walk → TSeq → Walk → TSeq → Type 0
Reaches P old s new t =
    (n : ℕ) (y x : TFile) → Before P n y x old s → (k : ℕ) × (u : TFile) × (z : TFile) × Before P k u z new t
    × (low new ≡ low old) × (whole P z new t ≡ whole P x old s)
