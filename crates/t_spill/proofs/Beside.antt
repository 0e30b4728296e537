-- Facts that hold along a block: where a walk stands behind an instruction, and at the start.
use Rattle.std.proofs.Common.{◌≡◌, ℕ, ◌≤◌, ◌<◌, List, ◌++◌, refl, sym, ap, ap₂, ◌∙◌, subst, drop, length, true, arith}
use Rattle.std.proofs.Common.{cond, nat_eq}
use Rattle.std.proofs.Math.Path.{fun_ext}
use Rattle.std.proofs.lemmas.List.{append_assoc}
use Rattle.t_types.specs.Tree.{TFile}
use Rattle.t_types.specs.Read.{file}
use Rattle.t_types.specs.declared.types.TType.{TType}
use Rattle.t_types.specs.WellFormed.{max_names, RegsAbove, WellFormedFile}
use Rattle.t_types.specs.Tree.{NoRegs, MoreRegs}
use Rattle.t_terms.specs.Tree.{TInstr, TEnd, Jmp, Halt, TSeq, Then, Ends, TProg, names_after}
use Rattle.t_spill_rules.specs.Spill.{Layout, live, next, numbers, layout, slots, code, target, end_target, end_reads}
use Rattle.t_spill_rules.specs.Spill.{defines}
use Rattle.t_spill_laws.proofs.Files.{RisesFrom, Ascends}
use Rattle.t_spill_laws.proofs.Live.{Agree, among_left, end_alike}
use Rattle.t_spill_code.specs.Homes.{has_in, layout_of, text}
use Rattle.t_spill.specs.Finishing.{used}
use Rattle.t_spill.specs.Known.{Knows, alone, subject}
use Rattle.t_spill.specs.Moving.{Before, Between, Moves, Reaches, Starts, low, whole}
use Rattle.t_spill.specs.Ready.{Ready}
use Rattle.t_spill.specs.Wants.{Tells}
use Rattle.t_spill.specs.declared.stepping.Walk.{Walk}
use Rattle.t_spill.proofs.Knowing.{target_alone}
use Rattle.t_spill.proofs.Onward.{drop_front, length_front, reads_agree, next_agrees, given_alike, homed_next}
use Rattle.t_spill.proofs.Picked.{high_listed}

-- registers that are passed
pub passed_front : (rs ns ws : List ℕ) (n : ℕ) → n ≡ length rs → drop n (rs ++ ns ++ ws) ≡ ns ++ ws
passed_front rs ns ws n e = ap (drop n) (append_assoc rs ns ws) ∙ drop_front rs (ns ++ ws) n e

pub front_within : (rs ns ws : List ℕ) (n : ℕ) → n ≡ length rs → n ≤ length (rs ++ ns ++ ws)
front_within rs ns ws n e =
    let a = length_front rs (ns ++ ws) in
    let g = ap (λ (zs : List ℕ). length zs) (append_assoc rs ns ws) in
    omega (arith, a, g, e)

-- what is ready is well formed
pub formed : (P : TProg) (n : ℕ) (y : TFile) (s : TSeq) → Ready P n y s → (n ≤ max_names) × WellFormedFile n y
formed P n y (Then i c) h = (h.0.0, h.0.2)
formed P n y (Ends (Jmp v)) h = (h.0, h.1)
formed P n y (Ends Halt) h = h

rises_above : (r n : ℕ) (x : TFile) → RegsAbove r n x → RisesFrom r x
rises_above r n NoRegs h = tt
rises_above r n (MoreRegs q t x) h = (h.0, rises_above q n x h.3)

ascends_formed : (n : ℕ) (x : TFile) → WellFormedFile n x → Ascends x
ascends_formed n NoRegs h = tt
ascends_formed n (MoreRegs r t x) h = rises_above r n x h.3

-- what an instruction enters, by what is known of the register that tells it
pub entered_is : (P : TProg) (y : TFile) (regs read : List (ℕ × TType)) (i : TInstr) (entered : List (ℕ × TType)) →
    file entered ≡ target P (file read) i → read ≡ regs → file regs ≡ alone (subject i) y → file entered ≡ target P y i
entered_is P y regs read i entered e same is =
    e ∙ ap (λ (xs : List (ℕ × TType)). target P (file xs) i) same ∙ ap (λ z. target P z i) is ∙ target_alone P y i

-- behind an instruction whose word was computed
pub between : (P : TProg) (n : ℕ) (y x : TFile) (old new : Walk) (i : TInstr) (c : TSeq) →
    Before P n y x old (Then i c) →
    Knows (names_after i n) new.known (next P y i) → Tells new.ahead (live P (next P x i) c) →
    new.code.homes ≡ old.code.homes → Between P n y x new i c
between P n y x old new i c b knows told same =
    record {
      knows = knows;
      ready = b.ready.1;
      told = told;
      rises = b.rises;
      agrees = next_agrees P x y i c b.agrees;
      typed = given_alike P x y i (reads_agree P x y i c b.agrees);
      homed = λ r t lt is e.
          ap (λ h. cond (nat_eq (defines i) r) true (has_in h r)) same
          ∙ homed_next P (low old) x i c old.code.homes b.homed r t (subst (λ h. h.split.low < r) same lt) is e;
    }

-- at the start
pub at_start : (P : TProg) (n : ℕ) (x : TFile) (s : TSeq) (w : Walk) (m : ℕ) (ws : List ℕ) → ws ≡ live P x s →
    Ready P n x s → Starts m x ws w → Before P n x x w s
at_start P n x s w m ws wants ready h =
    record {
      knows = h.0 n;
      ready = ready;
      told = subst (Tells w.ahead) wants h.1;
      rises = ascends_formed n x (formed P n x s ready).1;
      agrees = λ r e. refl;
      homed = λ r t lt is e. h.5 r ∙ high_listed m x r t (subst (λ q. q < r) h.2 lt) e;
    }

pub whole_start : (P : TProg) (x : TFile) (s : TSeq) (w : Walk) (m : ℕ) (ws : List ℕ) → Starts m x ws w →
    whole P x w s ≡ code m P (layout m x) x s
whole_start P x s w m ws h =
    ap (λ q. text q w.code.body (slots q P (used w.code) x s) (code q P (layout_of w.code.homes w.code.body) x s)) h.2
    ∙ h.6 (slots m P (used w.code) x s) (code m P (layout_of w.code.homes w.code.body) x s)
    ∙ ap (λ L. code m P L x s)
    (ap₂ (λ f u. (let K : Layout = record { homes = f; used = u } in K)) (fun_ext h.4) h.3)

-- one instruction more
pub reach_more : (P : TProg) (old mid new : Walk) (s t : TSeq) (i : TInstr) (c : TSeq) → t ≡ Then i c →
    Reaches P old s mid t →
    ((n : ℕ) (y x : TFile) → Before P n y x mid (Then i c) → Moves P n y x mid new i c) → Reaches P old s new c
reach_more P old mid new s t i c is h f n y x b =
    let k = h n y x b in
    let here = subst (Before P k.0 k.1 k.2 mid) is k.3 in
    let g = f k.0 k.1 k.2 here in (
      names_after i k.0,
      next P k.1 i,
      _,
      g.1,
      g.0 ∙ k.4,
      g.2 ∙ ap (whole P k.2 mid) (sym is) ∙ k.5,
    )

-- what an end enters
pub ends_agree : (P : TProg) (x y : TFile) (e : TEnd) → Agree (live P x (Ends e)) x y → end_target P y e
    ≡ end_target P x e
ends_agree P x y e ag =
    end_alike P x y e (λ r h. ag r (among_left r (end_reads e) (numbers (end_target P x e)) h))
