-- The word of an instruction is computed.
use Rattle.std.proofs.Common.{◌≡◌, ℕ, zero, suc, ◌<◌, ◌≤◌, ◌^◌, List, [], ◌∷◌, ◌++◌, refl, sym, ap, ◌∙◌, drop}
use Rattle.std.proofs.Common.{length, arith, cond, Bool, true, false, nat_eq, Option, Some, None}
use Rattle.std.specs.Prelude.{option_map}
use Rattle.idx_core.specs.declared.span.Span.{Span}
use Rattle.t_types.specs.declared.types.TType.{TType}
use Rattle.t_types.specs.Tree.{Ty, TFile, shift, shift_file}
use Rattle.t_types.specs.Fits.{lookup}
use Rattle.t_types.specs.Read.{file, types}
use Rattle.t_terms.specs.Tree.{Reg, Int, Label, Data, TValue, Plain, Pack, TInstr, Arith, Bnz, Ld, Mov, St}
use Rattle.t_terms.specs.Tree.{Unpack, TEnd, Jmp, Halt, TSeq, Then, TProg}
use Rattle.t_terms.specs.Whole.{WellFormedValue, WellFormedInstr}
use Rattle.t_terms.specs.declared.instr.Instr.{Instr}
use Rattle.t_spill_rules.specs.Spill.{or_int, field_type, filled_type, hidden_type, ins, live, numbers, target, reads}
use Rattle.t_spill_rules.specs.Spill.{next, kept, among, slots, before, loads, does, finish, after, way, defines}
use Rattle.t_spill_rules.specs.Spill.{step, code, high_part, Layout}
use Rattle.t_spill_rules.proofs.Parts.{step_parts}
use Rattle.t_spill_laws.proofs.Files.{lookup_ins, raised_lookup}
use Rattle.t_spill_laws.proofs.Live.{Agree, among_left, among_right, among_first, value_same, next_alike, target_alike}
use Rattle.t_terms.specs.Values.{InstrValues, EndValues}
use Rattle.t_spill_code.specs.Onto.{onto, HasNext}
use Rattle.t_spill_code.specs.Homes.{home_in, has_in, with_slots}
use Rattle.t_spill_code.specs.declared.homes.Homes.{Homes}
use Rattle.t_spill.specs.Known.{given}
use Rattle.t_spill.specs.Picking.{Homed}
use Rattle.t_spill.specs.Ready.{ReadyInstr, ReadyEnd}

-- registers that are passed
pub drop_front : (xs ys : List ℕ) (n : ℕ) → n ≡ length xs → drop n (xs ++ ys) ≡ ys
drop_front [] ys zero e = refl
drop_front [] ys (suc n) e = absurd (omega (arith, e))
drop_front (x ∷ xs) ys zero e = absurd (omega (arith, e))
drop_front (x ∷ xs) ys (suc n) e = drop_front xs ys n (omega (arith, e))

pub length_front : (xs ys : List ℕ) → length xs ≤ length (xs ++ ys)
length_front [] ys = omega arith
length_front (x ∷ xs) ys = let a = length_front xs ys in omega (arith, a)

-- labels have a next
value_fits : (p q n : ℕ) (v : TValue) → p < 2 ^ 64 → WellFormedValue p q n v → HasNext v
value_fits p q n (Plain (Reg r) ts) few h = tt
value_fits p q n (Plain (Int i) ts) few h = tt
value_fits p q n (Plain (Label l) ts) few h = omega (arith, h.0)
value_fits p q n (Plain (Data d) ts) few h = tt
value_fits p q n (Pack t v s) few h = value_fits p q n v few h.1

pub some_value_fits : (p q n : ℕ) (v : TValue) → p < 2 ^ 64 → WellFormedValue p q n v → HasNext v
some_value_fits = value_fits

instr_fits : (p q n : ℕ) (i : TInstr) → p < 2 ^ 64 → WellFormedInstr p q n i → InstrValues HasNext i
instr_fits p q n (Arith op rd rs v) few h = value_fits p q n v few h.2
instr_fits p q n (Bnz r v) few h = value_fits p q n v few h.1
instr_fits p q n (Mov rd v) few h = value_fits p q n v few h.1
instr_fits p q n (Unpack rd v) few h = value_fits p q n v few h.1
instr_fits p q n _ few h = tt

pub fits_here : (P : TProg) (n : ℕ) (y : TFile) (i : TInstr) → length P.blocks < 2 ^ 64 → ReadyInstr P n y i →
    InstrValues HasNext i
fits_here P n y i few h = instr_fits (length P.blocks) (length P.heap) n i few h.3

pub end_fits : (P : TProg) (n : ℕ) (x : TFile) (e : TEnd) → length P.blocks < 2 ^ 64 → ReadyEnd P n x e →
    EndValues HasNext e
end_fits P n x (Jmp v) few h = value_fits (length P.blocks) (length P.heap) n v few h.2
end_fits P n x Halt few h = tt

-- what an instruction reads and enters is wanted in front of it
module _ (P : TProg) (x y : TFile) (i : TInstr) (c : TSeq) (agrees : Agree (live P x (Then i c)) x y) where
  pub reads_agree : Agree (reads i) x y
  reads_agree r e =
      agrees r (among_left r (reads i ++ numbers (target P x i)) (live P (next P x i) c)
      (among_left r (reads i) (numbers (target P x i)) e))

  pub targets_agree : target P y i ≡ target P x i
  targets_agree = target_alike P x y i reads_agree

  pub next_agrees : Agree (live P (next P x i) c) (next P x i) (next P y i)
  next_agrees r e =
      next_alike P x y i reads_agree r
      (agrees r (among_right r (reads i ++ numbers (target P x i)) (live P (next P x i) c) e))

-- the type that an instruction gives
pub given_alike : (P : TProg) (x y : TFile) (i : TInstr) → Agree (reads i) x y → given P y i ≡ given P x i
given_alike P x y (Ld rd rs i) ag = ap (λ o. field_type (or_int o) i) (ag rs (among_first rs []))
given_alike P x y (Mov rd v) ag = value_same P x y v ag
given_alike P x y (St rd i rs) ag = ap (λ o. filled_type (or_int o) i) (ag rd (among_first rd (rs ∷ [])))
given_alike P x y (Unpack rd v) ag = ap hidden_type (value_same P x y v ag)
given_alike P x y _ ag = refl

-- a register that is known behind an instruction was known before, unless the instruction gives it a word
abbrev KnownTo : TFile → ℕ → Type 0
KnownTo x r = (u : Ty) × (lookup x r ≡ Some u)

ins_known : (x : TFile) (rd r : ℕ) (t u : Ty) → nat_eq rd r ≡ false → lookup (ins rd u x) r ≡ Some t → KnownTo x r
ins_known x rd r t u ne e =
    (t, sym (ap (λ g. g r) (lookup_ins rd u x) ∙ ap (λ b. cond b (Some u) (lookup x r)) ne) ∙ e)

raised_known : (x : TFile) (r : ℕ) (t : Ty) → lookup (shift_file 1 0 x) r ≡ Some t → KnownTo x r
raised_known x r t e = go (lookup x r) refl
  where
    go : (o : Option Ty) → lookup x r ≡ o → KnownTo x r
    go None is =
        let no : None ≡ Some t =
        sym (ap (option_map (shift 1 0)) is) ∙ ap (λ g. g r) (raised_lookup x) ∙ e in cc
    go (Some u) is = (u, is)

known_before : (P : TProg) (x : TFile) (i : TInstr) (r : ℕ) (t : Ty) → nat_eq (defines i) r ≡ false →
    lookup (next P x i) r ≡ Some t → KnownTo x r
known_before P x (Bnz q v) r t ne e = (t, e)
known_before P x (Unpack rd v) r t ne e =
    let k = ins_known (shift_file 1 0 x) rd r t _ ne e in raised_known x r k.0 k.1
known_before P x i r t ne e = ins_known x (defines i) r t _ ne e

pub homed_next : (P : TProg) (m : ℕ) (x : TFile) (i : TInstr) (c : TSeq) (hs : Homes) →
    Homed m (live P x (Then i c)) x hs → (r : ℕ) (t : Ty) → m < r → among r (live P (next P x i) c) ≡ true →
    lookup (next P x i) r ≡ Some t → cond (nat_eq (defines i) r) true (has_in hs r) ≡ true
homed_next P m x i c hs h r t lt is e = go (nat_eq (defines i) r) refl
  where
    go : (b : Bool) → nat_eq (defines i) r ≡ b → cond b true (has_in hs r) ≡ true
    go true k = refl
    go false k =
        let old = known_before P x i r t k e in
        h r old.0 lt (among_right r (reads i ++ numbers (target P x i)) (live P (next P x i) c) is) old.1

-- the code of an instruction, up to where its word is computed, and what follows it
module _ (P : TProg) (x : TFile) (i : TInstr) (c : TSeq) (hs : Homes) (ts : List TType) where
  abbrev lay : Layout
  lay = record { homes = home_in hs; used = length ts }

  abbrev behind : List (Instr × Span) → TSeq → TSeq
  behind done s = onto done (with_slots hs.split.low (types ts) (slots hs.split.low P (length ts) x (Then i c)) s)

  abbrev follows : TSeq
  follows = code hs.split.low P (after hs.split.low lay i c (kept P x i c)) (kept P x i c) c

  abbrev ends_with : List TInstr
  ends_with =
      finish hs.split.low lay (defines i) (slots hs.split.low P (length ts) x (Then i c)) (kept P x i c)
      (way hs.split.low (length ts) i c)

  pub text_computed : (done tail tail2 : List (Instr × Span)) (high : TFile) →
      high ≡ high_part hs.split.low (target P x i) →
      ((rest : TSeq) → onto tail2 rest ≡ onto tail (before (loads hs.split.low (home_in hs) high i)
      (before (does hs.split.low (home_in hs) i) rest))) →
      behind done (onto tail2 (before ends_with follows))
      ≡ behind done (onto tail (before (step hs.split.low P lay x i c) follows))
  text_computed done tail tail2 high is h =
      ap (behind done) (h (before ends_with follows)
      ∙ ap (λ z. onto tail (before (loads hs.split.low (home_in hs) z i)
      (before (does hs.split.low (home_in hs) i) (before ends_with follows)))) is
      ∙ ap (onto tail) (sym (step_parts hs.split.low P lay x i c follows)))

-- what an instruction reads and enters, in front of what the rest wants
pub wants_here : (P : TProg) (x y : TFile) (i : TInstr) (c : TSeq) (entered : List (ℕ × TType)) →
    Agree (live P x (Then i c)) x y → file entered ≡ target P y i →
    live P x (Then i c) ≡ reads i ++ numbers (file entered) ++ live P (next P x i) c
wants_here P x y i c entered ag e =
    ap (λ z. reads i ++ numbers z ++ live P (next P x i) c) (sym (e ∙ targets_agree P x y i c ag))
