-- What is asked of the types of a program holds of those that stay known.
use Rattle.std.proofs.Common.{◌≡◌, ℕ, ◌<◌, ◌≤◌, nat_eq, cond, Bool, true, false, [], ◌++◌, Option, Some, refl, sym, ap}
use Rattle.std.proofs.Common.{◌∙◌, subst, arith}
use Rattle.std.specs.Prelude.{max}
use Rattle.std.proofs.lemmas.Bool.{ne_eqb, eqb-true}
use Rattle.t_types.specs.Tree.{Ty, IntTy, CodeTy, ExistsTy, TFile, NoRegs, MoreRegs}
use Rattle.t_types.specs.Fits.{lookup}
use Rattle.t_terms.specs.Tree.{TValue, TInstr, Arith, Bnz, Mov, Unpack, Jmp, Halt, TSeq, Then, Ends}
use Rattle.t_terms.specs.Tree.{TProg, names_after}
use Rattle.t_rules.specs.Rules.{Has, SeqAccepted}
use Rattle.t_spill_rules.specs.Spill.{type_of, next, numbers, target, value_reads, reads, live, among, kept, FewNames}
use Rattle.t_spill_rules.specs.Spill.{FewNamesFile, values_of, ValuesFew, SeqFew}
use Rattle.t_terms.specs.Reach.{type_reach, regs_reach}
use Rattle.t_spill_laws.specs.Reach.{value_reach, instr_reach, seq_reach}
use Rattle.t_spill_laws.proofs.Files.{look_same, RisesFrom, Ascends, rises_ascends}
use Rattle.t_spill_laws.proofs.Computed.{value_is, next_is, ascends_next}
use Rattle.t_spill_laws.proofs.Live.{among_left, among_right, among_next, Sub, Agree, instr_agrees, value_agrees}
use Rattle.t_spill_laws.proofs.Live.{next_agrees, next_sub, seq_agrees, kept_agrees, kept_sub, kept_ascends}

-- each type of a file
abbrev pub AllIn : (Ty → Type 0) → TFile → Type 0
AllIn Q NoRegs = Unit {0}
AllIn Q (MoreRegs r t x) = Q t × AllIn Q x

all_case : (Q : Ty → Type 0) (b : Bool) (u t : Ty) (o : Option Ty) → Q u → (o ≡ Some t → Q t) →
    cond b (Some u) o ≡ Some t → Q t
all_case Q true u t o h k e = let s : u ≡ t = cc in subst Q s h
all_case Q false u t o h k e = k e

pub all_at : (Q : Ty → Type 0) (x : TFile) (r : ℕ) (t : Ty) → AllIn Q x → lookup x r ≡ Some t → Q t
all_at Q NoRegs r t h e = cc
all_at Q (MoreRegs q u x) r t h e = all_case Q (nat_eq q r) u t (lookup x r) h.0 (λ k. all_at Q x r t h.1 k) e

rises_at : (low : ℕ) (x : TFile) (r : ℕ) (t : Ty) → RisesFrom low x → lookup x r ≡ Some t → low < r
rises_at low NoRegs r t h e = cc
rises_at low (MoreRegs q u x) r t h e = go (nat_eq q r) refl e (λ z. rises_at q x r t h.1 z)
  where
    go : (b : Bool) → nat_eq q r ≡ b → cond b (Some u) (lookup x r) ≡ Some t → (lookup x r ≡ Some t → q < r) → low < r
    go true k z f = let same : q ≡ r = eqb-true q r k in omega (arith, same, h.0)
    go false k z f = let up = f z in omega (arith, up, h.0)

pub all_file : (Q : Ty → Type 0) (x : TFile) → Ascends x → ((r : ℕ) (t : Ty) → lookup x r ≡ Some t → Q t) → AllIn Q x
all_file Q NoRegs asc h = tt
all_file Q (MoreRegs r t x) asc h = (
  h r t (look_same (lookup x) r t),
  all_file Q x (rises_ascends r x asc) (λ q u e.
      let up = rises_at r x q u asc e in
      h q u (ap (λ b. cond b (Some t) (lookup x q)) (ne_eqb r q (λ s. absurd (omega (arith, s, up)))) ∙ e)),
)

few_all : (n : ℕ) (x : TFile) → FewNamesFile n x → AllIn (FewNames n) x
few_all n NoRegs h = tt
few_all n (MoreRegs r t x) h = (h.0, few_all n x h.1)

all_few : (n : ℕ) (x : TFile) → AllIn (FewNames n) x → FewNamesFile n x
all_few n NoRegs h = tt
all_few n (MoreRegs r t x) h = (h.0, all_few n x h.1)

abbrev Within : ℕ → Ty → Type 0
Within k t = type_reach t ≤ k

reach_all : (k : ℕ) (x : TFile) → regs_reach x ≤ k → AllIn (Within k) x
reach_all k NoRegs h = tt
reach_all k (MoreRegs r t x) h = (omega (arith, h), reach_all k x (omega (arith, h)))

all_reach : (k : ℕ) (x : TFile) → AllIn (Within k) x → regs_reach x ≤ k
all_reach k NoRegs h = omega arith
all_reach k (MoreRegs r t x) h = let a = all_reach k x h.1 in omega (arith, a, h.0)

-- the same of what stays known along a sequence
abbrev pub KeptFew : TProg → ℕ → TFile → TSeq → Type 0
KeptFew P n x (Then i c) =
    ValuesFew P n x (values_of i) × FewNamesFile (names_after i n) (kept P x i c)
    × FewNamesFile (names_after i n) (next P x i) × KeptFew P (names_after i n) (kept P x i c) c
KeptFew P n x (Ends (Jmp v)) = FewNames n (type_of P x v)
KeptFew P n x (Ends Halt) = Unit {0}

abbrev pub KeptReach : TProg → ℕ → TFile → TSeq → Type 0
KeptReach P k x (Then i c) =
    (instr_reach P x i ≤ k) × (regs_reach (kept P x i c) ≤ k) × (regs_reach (next P x i) ≤ k)
    × KeptReach P k (kept P x i c) c
KeptReach P k x (Ends (Jmp v)) = max (value_reach v) (type_reach (type_of P x v)) ≤ k
KeptReach P k x (Ends Halt) = Unit {0}

module _ (P : TProg) where
  -- x knows what the sequence wants of what y knows
  pub record Knows (n : ℕ) (y x : TFile) (c : TSeq) : Type 0 where
    pub agree : Agree (live P y c) y x
    pub sub : Sub y x
    pub asc : Ascends x
    pub acc : SeqAccepted P n (lookup y) c

  abbrev front : (n : ℕ) (y x : TFile) (i : TInstr) (c : TSeq) → Knows n y x (Then i c) →
      Agree (reads i ++ numbers (target P y i)) y x
  front n y x i c k r e = k.agree r (among_left r (reads i ++ numbers (target P y i)) (live P (next P y i) c) e)

  -- what is known after an instruction, before it is kept
  knows_sub : (n : ℕ) (y x : TFile) (i : TInstr) (c : TSeq) → Knows n y x (Then i c) → Sub (next P y i) (next P x i)
  knows_sub n y x i c k =
      let a = k.acc in next_sub P n y x i a.0 a.1 (instr_agrees P n y x i a.0 (front n y x i c k) a.1) k.sub

  -- and after an instruction
  pub knows_next : (n : ℕ) (y x : TFile) (i : TInstr) (c : TSeq) → Knows n y x (Then i c) →
      Knows (names_after i n) (next P y i) (kept P x i c) c
  knows_next n y x i c k =
      let a = k.acc in
      let g = instr_agrees P n y x i a.0 (front n y x i c k) a.1 in
      let rest : Agree (live P (next P y i) c) y x =
      λ r e. k.agree r (among_right r (reads i ++ numbers (target P y i)) (live P (next P y i) c) e) in
      let acc = subst (λ f. SeqAccepted P (names_after i n) f c) (next_is P n y i a.0 a.1) a.2 in
      let after = next_agrees P n y x i a.0 (live P (next P y i) c) a.1 g rest in
      let same = (seq_agrees P c (names_after i n) (next P y i) (next P x i) after acc).1 in
      let sub = next_sub P n y x i a.0 a.1 g k.sub in
      record {
        agree = λ r e. kept_agrees P i x c r (ap (among r) same ∙ e) ∙ after r e;
        sub = λ r t e. sub r t (kept_sub P i x c r t e);
        asc = kept_ascends P i x c k.asc;
        acc = acc;
      }

  -- types of values are the same
  type_same : (n : ℕ) (y x : TFile) (v : TValue) (t : Ty) → Agree (value_reads v) y x → Has P n (lookup y) v t →
      type_of P y v ≡ type_of P x v
  type_same n y x v t ag h = value_is P n y v t h ∙ sym (value_is P n x v t (value_agrees P n y x v t ag h))

  -- that of an instruction, for each property of types
  value_kept : (Q : Ty → Type 0) (n : ℕ) (y x : TFile) (v : TValue) (t : Ty) → Agree (value_reads v) y x →
      Has P n (lookup y) v t → Q (type_of P y v) → Q (type_of P x v)
  value_kept Q n y x v t ag h q = subst Q (type_same n y x v t ag h) q

  values_few : (n : ℕ) (y x : TFile) (i : TInstr) (c : TSeq) (k : Knows n y x (Then i c)) →
      ValuesFew P n y (values_of i) → ValuesFew P n x (values_of i)
  values_few n y x (Arith op rd rs v) c k f = (
    value_kept (FewNames n) n y x v IntTy
        (λ r e. front n y x (Arith op rd rs v) c k r
        (among_next r rs (value_reads v ++ []) (among_left r (value_reads v) [] e))) k.acc.1.1 f.0,
    tt,
  )
  values_few n y x (Bnz s v) c k f =
      let a = k.acc.1.1 in (
        value_kept (FewNames n) n y x v (CodeTy 0 a.0)
            (λ r e. front n y x (Bnz s v) c k r (among_next r s _ (among_left r (value_reads v) _ e))) a.1 f.0,
        tt,
      )
  values_few n y x (Mov rd v) c k f = (
    value_kept (FewNames n) n y x v k.acc.1.0
        (λ r e. front n y x (Mov rd v) c k r (among_left r (value_reads v) [] e)) k.acc.1.1 f.0,
    tt,
  )
  values_few n y x (Unpack rd v) c k f = (
    value_kept (FewNames n) n y x v (ExistsTy k.acc.1.0)
        (λ r e. front n y x (Unpack rd v) c k r (among_left r (value_reads v) [] e)) k.acc.1.1 f.0,
    tt,
  )
  values_few n y x _ c k f = tt

  pub kept_few : (c : TSeq) (n : ℕ) (y x : TFile) → Knows n y x c → SeqFew P n y c → KeptFew P n x c
  kept_few (Then i c) n y x k f =
      let next = knows_next n y x i c k in (
        values_few n y x i c k f.0,
        all_few (names_after i n) (kept P x i c)
            (all_file (FewNames (names_after i n)) (kept P x i c) next.asc
            (λ r t e. all_at (FewNames (names_after i n)) _ r t (few_all (names_after i n) _ f.1) (next.sub r t e))),
        all_few (names_after i n) _
            (all_file (FewNames (names_after i n)) _ (ascends_next P x i k.asc)
            (λ r t e. all_at (FewNames (names_after i n)) _ r t (few_all (names_after i n) _ f.1)
            (knows_sub n y x i c k r t e))),
        kept_few c (names_after i n) _ (kept P x i c) next f.2,
      )
  kept_few (Ends (Jmp v)) n y x k f =
      let a = k.acc in value_kept (FewNames n) n y x v (CodeTy 0 a.0)
      (λ r e. k.agree r (among_left r (value_reads v) _ e)) a.1 f
  kept_few (Ends Halt) n y x k f = tt

  reach_same : (m n : ℕ) (y x : TFile) (i : TInstr) (c : TSeq) (k : Knows n y x (Then i c)) → instr_reach P y i ≤ m →
      instr_reach P x i ≤ m
  reach_same m n y x (Arith op rd rs v) c k f =
      let h = value_kept (Within m) n y x v IntTy
      (λ r e. front n y x (Arith op rd rs v) c k r
      (among_next r rs (value_reads v ++ []) (among_left r (value_reads v) [] e))) k.acc.1.1 (omega (arith, f)) in
      omega (arith, f, h)
  reach_same m n y x (Bnz s v) c k f =
      let a = k.acc.1.1 in
      let h = value_kept (Within m) n y x v (CodeTy 0 a.0)
      (λ r e. front n y x (Bnz s v) c k r (among_next r s _ (among_left r (value_reads v) _ e))) a.1
      (omega (arith, f)) in omega (arith, f, h)
  reach_same m n y x (Mov rd v) c k f =
      let h = value_kept (Within m) n y x v k.acc.1.0
      (λ r e. front n y x (Mov rd v) c k r (among_left r (value_reads v) [] e)) k.acc.1.1 (omega (arith, f)) in
      omega (arith, f, h)
  reach_same m n y x (Unpack rd v) c k f =
      let h = value_kept (Within m) n y x v (ExistsTy k.acc.1.0)
      (λ r e. front n y x (Unpack rd v) c k r (among_left r (value_reads v) [] e)) k.acc.1.1 (omega (arith, f)) in
      omega (arith, f, h)
  reach_same m n y x _ c k f = f

  pub kept_reach : (m : ℕ) (c : TSeq) (n : ℕ) (y x : TFile) → Knows n y x c → seq_reach P y c ≤ m → KeptReach P m x c
  kept_reach m (Then i c) n y x k f =
      let next = knows_next n y x i c k in (
        reach_same m n y x i c k (omega (arith, f)),
        all_reach m (kept P x i c)
            (all_file (Within m) (kept P x i c) next.asc
            (λ r t e. all_at (Within m) _ r t (reach_all m _ (omega (arith, f))) (next.sub r t e))),
        all_reach m _ (all_file (Within m) _ (ascends_next P x i k.asc)
            (λ r t e. all_at (Within m) _ r t (reach_all m _ (omega (arith, f))) (knows_sub n y x i c k r t e))),
        kept_reach m c (names_after i n) _ (kept P x i c) next (omega (arith, f)),
      )
  kept_reach m (Ends (Jmp v)) n y x k f =
      let a = k.acc in
      let h = value_kept (Within m) n y x v (CodeTy 0 a.0) (λ r e. k.agree r (among_left r (value_reads v) _ e)) a.1
      (omega (arith, f)) in
      omega (arith, f, h)
  kept_reach m (Ends Halt) n y x k f = tt

  -- at the beginning all is known
  pub knows_first : (n : ℕ) (x : TFile) (c : TSeq) → Ascends x → SeqAccepted P n (lookup x) c → Knows n x x c
  knows_first n x c asc acc = record { agree = λ r e. refl; sub = λ r t e. e; asc = asc; acc = acc }
