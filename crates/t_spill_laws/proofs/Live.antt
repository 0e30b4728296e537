-- Registers that a sequence wants: what is known of the others may be forgotten.
use Rattle.std.proofs.Common.{◌≡◌, ℕ, ◌<◌, nat_eq, cond, Bool, true, false, List, [], ◌∷◌, ◌++◌, Option, Some, None}
use Rattle.std.proofs.Common.{refl, sym, ap, ap₂, ◌∙◌, subst, arith, inl, inr, ◌⊎◌, ⊎_elim}
use Rattle.std.specs.Prelude.{option_map}
use Rattle.std.proofs.lemmas.Bool.{eqb-true, eq-eqb}
use Rattle.idx_core.specs.Over.{At}
use Rattle.t_types.specs.Tree.{Ty, IntTy, CodeTy, ExistsTy, TupleTy, TFile, NoRegs, MoreRegs, over, over_file, shift}
use Rattle.t_types.specs.Tree.{shift_file}
use Rattle.t_types.specs.Fields.{empty_fields, filled}
use Rattle.t_types.specs.Fits.{FitsFile, RegTypes, lookup}
use Rattle.t_terms.specs.Tree.{TBase, Reg, Int, Label, Data, TValue, Plain, Pack, TInstr, Arith, Bnz, Ld, Malloc, Mov}
use Rattle.t_terms.specs.Tree.{St, Unpack, TEnd, Jmp, Halt, TSeq, Then, Ends, TProg, names_after}
use Rattle.t_terms.specs.Registers.{with_reg, raised}
use Rattle.t_rules.specs.Rules.{BaseHas, Has, Enters, Typed, EndTyped, SeqAccepted}
use Rattle.t_spill_rules.specs.Spill.{ins, or_int, base_type, applied_type, type_of, field_type, filled_type}
use Rattle.t_spill_rules.specs.Spill.{hidden_type}
use Rattle.t_spill_rules.specs.Spill.{target_file, next, numbers, target, end_target, base_reads, value_reads, reads}
use Rattle.t_spill_rules.specs.Spill.{end_reads, live, among, keep, kept}
use Rattle.t_spill_laws.proofs.Files.{lookup_ins, raised_lookup, RisesFrom, Ascends, rises_ascends}
use Rattle.t_spill_laws.proofs.Computed.{value_is, next_is, ascends_next}

-- lists
pub among_left : (r : ℕ) (a b : List ℕ) → among r a ≡ true → among r (a ++ b) ≡ true
among_left r [] b h = cc
among_left r (q ∷ a) b h = go (nat_eq q r) h (λ k. among_left r a b k)
  where
    go : (x : Bool) → cond x true (among r a) ≡ true → (among r a ≡ true → among r (a ++ b) ≡ true) →
        cond x true (among r (a ++ b)) ≡ true
    go true k f = refl
    go false k f = f k

pub among_right : (r : ℕ) (a b : List ℕ) → among r b ≡ true → among r (a ++ b) ≡ true
among_right r [] b h = h
among_right r (q ∷ a) b h = go (nat_eq q r) (among_right r a b h)
  where
    go : (x : Bool) → among r (a ++ b) ≡ true → cond x true (among r (a ++ b)) ≡ true
    go true k = refl
    go false k = k

pub among_first : (r : ℕ) (qs : List ℕ) → among r (r ∷ qs) ≡ true
among_first r qs = ap (λ b. cond b true (among r qs)) (eq-eqb r r refl)

pub among_next : (r q : ℕ) (qs : List ℕ) → among r qs ≡ true → among r (q ∷ qs) ≡ true
among_next r q qs h = among_right r (q ∷ []) qs h

-- a file without some registers
look_cond : (b : Bool) (x y : TFile) (r : ℕ) → lookup (cond b x y) r ≡ cond b (lookup x r) (lookup y r)
look_cond true x y r = refl
look_cond false x y r = refl

keep_both : (t : Ty) (b c d : Bool) (y z : Option Ty) → (c ≡ true → b ≡ d) → z ≡ cond d y None →
    cond b (cond c (Some t) z) z ≡ cond d (cond c (Some t) y) None
keep_both t true true true y z h e = refl
keep_both t true true false y z h e = let k : true ≡ false = h refl in cc
keep_both t false true true y z h e = let k : false ≡ true = h refl in cc
keep_both t false true false y z h e = e
keep_both t true false d y z h e = e
keep_both t false false d y z h e = e

pub nothing : (b : Bool) (o : Option Ty) → o ≡ None → None ≡ cond b o None
nothing true o e = sym e
nothing false o e = refl

pub keep_at : (qs : List ℕ) (x : TFile) (r : ℕ) → lookup (keep qs x) r ≡ cond (among r qs) (lookup x r) None
keep_at qs NoRegs r = nothing (among r qs) None refl
keep_at qs (MoreRegs q t x) r =
    look_cond (among q qs) (MoreRegs q t (keep qs x)) (keep qs x) r
    ∙ keep_both t (among q qs) (nat_eq q r) (among r qs) (lookup x r) (lookup (keep qs x) r)
    (λ e. ap (λ z. among z qs) (eqb-true q r e)) (keep_at qs x r)

-- those that are among the others are as they were
pub keep_same : (qs : List ℕ) (x : TFile) (r : ℕ) → among r qs ≡ true → lookup (keep qs x) r ≡ lookup x r
keep_same qs x r h = keep_at qs x r ∙ ap (λ b. cond b (lookup x r) None) h

-- z knows no more than y
abbrev pub Sub : TFile → TFile → Type 0
Sub y z = (r : ℕ) (t : Ty) → lookup z r ≡ Some t → lookup y r ≡ Some t

pub keep_sub : (qs : List ℕ) (x : TFile) → Sub x (keep qs x)
keep_sub qs x r t e = go (among r qs) (sym (keep_at qs x r) ∙ e)
  where
    go : (b : Bool) → cond b (lookup x r) None ≡ Some t → lookup x r ≡ Some t
    go true k = k
    go false k = cc

pub fits_keep : (g : RegTypes) (qs : List ℕ) (x : TFile) → FitsFile g x → FitsFile g (keep qs x)
fits_keep g qs NoRegs h = tt
fits_keep g qs (MoreRegs r t x) h = go (among r qs) (fits_keep g qs x h.1)
  where
    go : (b : Bool) → FitsFile g (keep qs x) → FitsFile g (cond b (MoreRegs r t (keep qs x)) (keep qs x))
    go true k = (h.0, k)
    go false k = k

pub rises_less : (low r : ℕ) (x : TFile) → low < r → RisesFrom r x → RisesFrom low x
rises_less low r NoRegs lt h = tt
rises_less low r (MoreRegs q t x) lt h = (omega (arith, lt, h.0), h.1)

pub rises_keep : (low : ℕ) (qs : List ℕ) (x : TFile) → RisesFrom low x → RisesFrom low (keep qs x)
rises_keep low qs NoRegs h = tt
rises_keep low qs (MoreRegs r t x) h = go (among r qs) (rises_keep r qs x h.1)
  where
    go : (b : Bool) → RisesFrom r (keep qs x) → RisesFrom low (cond b (MoreRegs r t (keep qs x)) (keep qs x))
    go true k = (h.0, k)
    go false k = rises_less low r (keep qs x) h.0 k

pub ascends_keep : (qs : List ℕ) (x : TFile) → Ascends x → Ascends (keep qs x)
ascends_keep qs NoRegs h = tt
ascends_keep qs (MoreRegs r t x) h = go (among r qs) (rises_keep r qs x h)
  where
    go : (b : Bool) → RisesFrom r (keep qs x) → Ascends (cond b (MoreRegs r t (keep qs x)) (keep qs x))
    go true k = k
    go false k = rises_ascends r (keep qs x) k

pub keep_over : (f : At Ty) (d : ℕ) (qs : List ℕ) (x : TFile) → keep qs (over_file f d x) ≡ over_file f d (keep qs x)
keep_over f d qs NoRegs = refl
keep_over f d qs (MoreRegs r t x) = go (among r qs) (keep_over f d qs x)
  where
    go : (b : Bool) → keep qs (over_file f d x) ≡ over_file f d (keep qs x) →
        cond b (MoreRegs r (over f d t) (keep qs (over_file f d x))) (keep qs (over_file f d x))
        ≡ over_file f d (cond b (MoreRegs r t (keep qs x)) (keep qs x))
    go true e = ap (MoreRegs r (over f d t)) e
    go false e = e

-- z knows of each of the registers what y knows
abbrev pub Agree : List ℕ → TFile → TFile → Type 0
Agree qs y z = (r : ℕ) → among r qs ≡ true → lookup z r ≡ lookup y r

pub agree_keep : (qs : List ℕ) (x : TFile) → Agree qs x (keep qs x)
agree_keep qs x r h = keep_same qs x r h

agree_left : (a b : List ℕ) (y z : TFile) → Agree (a ++ b) y z → Agree a y z
agree_left a b y z h r k = h r (among_left r a b k)

agree_right : (a b : List ℕ) (y z : TFile) → Agree (a ++ b) y z → Agree b y z
agree_right a b y z h r k = h r (among_right r a b k)

module _ (P : TProg) (n : ℕ) (y z : TFile) where
  base_agrees : (b : TBase) (t : Ty) → Agree (base_reads b) y z → BaseHas P (lookup y) b t → BaseHas P (lookup z) b t
  base_agrees (Reg r) t ag h = ag r (among_first r []) ∙ h
  base_agrees (Int i) t ag h = h
  base_agrees (Label l) t ag h = h
  base_agrees (Data d) t ag h = h

  pub value_agrees : (v : TValue) (t : Ty) → Agree (value_reads v) y z → Has P n (lookup y) v t →
      Has P n (lookup z) v t
  value_agrees (Plain b []) t ag h = base_agrees b t ag h
  value_agrees (Plain b (u ∷ us)) t ag h = (h.0, h.1, base_agrees b (CodeTy h.0 h.1) ag h.2, h.3, h.4, h.5)
  value_agrees (Pack hid v s) t ag h = (h.0, h.1, value_agrees v h.1 ag h.2, h.3, h.4, h.5, h.6, h.7)

  fits_agrees : (x : TFile) → Agree (numbers x) y z → FitsFile (lookup y) x → FitsFile (lookup z) x
  fits_agrees NoRegs ag h = tt
  fits_agrees (MoreRegs r t x) ag h = (
    (h.0.0, ag r (among_first r (numbers x)) ∙ h.0.1, h.0.2),
    fits_agrees x (λ q k. ag q (among_next q r (numbers x) k)) h.1,
  )

  target_is : (v : TValue) (x : TFile) → Has P n (lookup y) v (CodeTy 0 x) → target_file (type_of P y v) ≡ x
  target_is v x h = ap target_file (value_is P n y v (CodeTy 0 x) h)

  enters_agrees : (v : TValue) → Agree (value_reads v ++ numbers (target_file (type_of P y v))) y z →
      Enters P n (lookup y) v → Enters P n (lookup z) v
  enters_agrees v ag h = (
    h.0,
    value_agrees v (CodeTy 0 h.0) (agree_left (value_reads v) (numbers (target_file (type_of P y v))) y z ag) h.1,
    fits_agrees h.0 (subst (λ x. Agree (numbers x) y z) (target_is v h.0 h.1)
        (agree_right (value_reads v) (numbers (target_file (type_of P y v))) y z ag)) h.2,
  )

  -- what a value enters is the same
  same_target : (v : TValue) → Agree (value_reads v) y z → Enters P n (lookup y) v →
      target_file (type_of P z v) ≡ target_file (type_of P y v)
  same_target v ag h =
      ap target_file (value_is P n z v (CodeTy 0 h.0) (value_agrees v (CodeTy 0 h.0) ag h.1))
      ∙ sym (target_is v h.0 h.1)

  -- an instruction is typed where z knows what it wants, and z then knows what it knew before
  pub record Goes (i : TInstr) (h : RegTypes) : Type 0 where
    pub known : RegTypes
    pub typed : Typed P n (lookup z) i known
    pub same : (r : ℕ) → lookup z r ≡ lookup y r → known r ≡ h r
    pub sub : Sub y z → (r : ℕ) (t : Ty) → known r ≡ Some t → h r ≡ Some t
    pub target : target P z i ≡ target P y i

  set_sub : (rd : ℕ) (u : Ty) → Sub y z → (r : ℕ) (t : Ty) → with_reg (lookup z) rd u r ≡ Some t →
      with_reg (lookup y) rd u r ≡ Some t
  set_sub rd u s r t e = go (nat_eq rd r) e
    where
      go : (b : Bool) → cond b (Some u) (lookup z r) ≡ Some t → cond b (Some u) (lookup y r) ≡ Some t
      go true k = k
      go false k = s r t k

  raised_sub : (rd : ℕ) (u : Ty) → Sub y z → (r : ℕ) (t : Ty) → with_reg (raised (lookup z)) rd u r ≡ Some t →
      with_reg (raised (lookup y)) rd u r ≡ Some t
  raised_sub rd u s r t e = go (nat_eq rd r) e
    where
      up : (o : Option Ty) → ((w : Ty) → o ≡ Some w → lookup y r ≡ Some w) → option_map (shift 1 0) o ≡ Some t →
          option_map (shift 1 0) (lookup y r) ≡ Some t
      up None f k = cc
      up (Some w) f k = ap (option_map (shift 1 0)) (f w refl) ∙ k

      go : (b : Bool) → cond b (Some u) (raised (lookup z) r) ≡ Some t → cond b (Some u) (raised (lookup y) r) ≡ Some t
      go true k = k
      go false k = up (lookup z r) (λ w j. s r w j) k

  -- a register is set
  set : (i : TInstr) (h : RegTypes) (rd : ℕ) (u : Ty) → h ≡ with_reg (lookup y) rd u →
      Typed P n (lookup z) i (with_reg (lookup z) rd u) → target P z i ≡ target P y i → Goes i h
  set i h rd u e k t = record {
    known = with_reg (lookup z) rd u;
    typed = k;
    same = λ r a. ap (cond (nat_eq rd r) (Some u)) a ∙ sym (ap (λ g. g r) e);
    sub = λ s r w a. ap (λ g. g r) e ∙ set_sub rd u s r w a;
    target = t;
  }

  pub instr_agrees : (i : TInstr) (h : RegTypes) → Agree (reads i ++ numbers (target P y i)) y z →
      Typed P n (lookup y) i h → Goes i h
  instr_agrees (Arith op rd rs v) h ag k =
      set (Arith op rd rs v) h rd IntTy k.2 (
        ag rs (among_first rs (value_reads v ++ []))
            ∙ k.0,
        value_agrees v IntTy
            (λ r e. ag r (among_next r rs (value_reads v ++ []) (among_left r (value_reads v) [] e))) k.1,
        refl,
      ) refl
  instr_agrees (Bnz r v) h ag k =
      let agv : Agree (value_reads v ++ numbers (target_file (type_of P y v))) y z =
      λ q e. ag q (among_next q r (value_reads v ++ numbers (target_file (type_of P y v))) e) in
      record {
        known = lookup z;
        typed = (
          ag r (among_first r (value_reads v ++ numbers (target_file (type_of P y v))))
              ∙ k.0,
          enters_agrees v agv k.1,
          refl,
        );
        same = λ q a. a ∙ sym (ap (λ g. g q) k.2);
        sub = λ s q w a. ap (λ g. g q) k.2 ∙ s q w a;
        target = same_target v (agree_left (value_reads v) (numbers (target_file (type_of P y v))) y z agv) k.1;
      }
  instr_agrees (Ld rd rs i) h ag k =
      set (Ld rd rs i) h rd k.1 k.4 (k.0, k.1, ag rs (among_first rs []) ∙ k.2, k.3, refl) refl
  instr_agrees (Malloc rd ts) h ag k = set (Malloc rd ts) h rd (TupleTy (empty_fields ts)) k.0 (refl, k.1) refl
  instr_agrees (Mov rd v) h ag k =
      set (Mov rd v) h rd k.0 k.2 (k.0, value_agrees v k.0 (agree_left (value_reads v) [] y z ag) k.1, refl) refl
  instr_agrees (St rd i rs) h ag k =
      set (St rd i rs) h rd (TupleTy (filled k.0 i)) k.8 (
        k.0,
        k.1,
        k.2,
        k.3,
        ag rd (among_first rd (rs ∷ []))
            ∙ k.4,
        k.5,
        ag rs (among_next rs rd (rs ∷ []) (among_first rs [])) ∙ k.6,
        k.7,
        refl,
      ) refl
  instr_agrees (Unpack rd v) h ag k =
      record {
        known = with_reg (raised (lookup z)) rd k.0;
        typed = (k.0, value_agrees v (ExistsTy k.0) (agree_left (value_reads v) [] y z ag) k.1, refl);
        same = λ r a. ap (λ o. cond (nat_eq rd r) (Some k.0) (option_map (shift 1 0) o)) a ∙ sym (ap (λ g. g r) k.2);
        sub = λ s r w a. ap (λ g. g r) k.2 ∙ raised_sub rd k.0 s r w a;
        target = refl;
      }

  pub end_agrees : (e : TEnd) → Agree (end_reads e ++ numbers (end_target P y e)) y z → EndTyped P n (lookup y) e →
      EndTyped P n (lookup z) e × (end_target P z e ≡ end_target P y e)
  end_agrees (Jmp v) ag h = (
    enters_agrees v ag h,
    same_target v (agree_left (value_reads v) (numbers (target_file (type_of P y v))) y z ag) h,
  )
  end_agrees Halt ag h = (ag 1 (among_first 1 []) ∙ h, refl)

-- files by what they know
at_once : (x : TFile) (g : RegTypes) (r : ℕ) → g ≡ lookup x → g r ≡ lookup x r
at_once x g r e = ap (λ k. k r) e

module _ (P : TProg) where
  -- after an instruction z still knows what y knows of the registers that the rest wants
  pub next_agrees : (n : ℕ) (y z : TFile) (i : TInstr) (h : RegTypes) (qs : List ℕ) → Typed P n (lookup y) i h →
      (g : Goes P n y z i h) → Agree qs y z → Agree qs (next P y i) (next P z i)
  next_agrees n y z i h qs k g ag r e =
      sym (at_once (next P z i) g.known r (next_is P n z i g.known g.typed)) ∙ g.same r (ag r e)
      ∙ at_once (next P y i) h r (next_is P n y i h k)

  pub next_sub : (n : ℕ) (y z : TFile) (i : TInstr) (h : RegTypes) → Typed P n (lookup y) i h →
      (g : Goes P n y z i h) → Sub y z → Sub (next P y i) (next P z i)
  next_sub n y z i h k g s r t e =
      sym (at_once (next P y i) h r (next_is P n y i h k))
      ∙ g.sub s r t (at_once (next P z i) g.known r (next_is P n z i g.known g.typed) ∙ e)

  pub seq_agrees : (c : TSeq) (n : ℕ) (y z : TFile) → Agree (live P y c) y z → SeqAccepted P n (lookup y) c →
      SeqAccepted P n (lookup z) c × (live P z c ≡ live P y c)
  seq_agrees (Then i c) n y z ag k =
      let rest = live P (next P y i) c in
      let here : Agree (reads i ++ numbers (target P y i)) y z =
      λ r e. ag r (among_left r (reads i ++ numbers (target P y i)) rest e) in
      let g = instr_agrees P n y z i k.0 here k.1 in
      let there : Agree (live P (next P y i) c) y z =
      λ r e. ag r (among_right r (reads i ++ numbers (target P y i)) rest e) in
      let after = next_agrees n y z i k.0 (live P (next P y i) c) k.1 g there in
      let tail = seq_agrees c (names_after i n) (next P y i) (next P z i) after
      (subst (λ f. SeqAccepted P (names_after i n) f c) (next_is P n y i k.0 k.1) k.2) in (
        (
          g.known,
          g.typed,
          subst (λ f. SeqAccepted P (names_after i n) f c) (sym (next_is P n z i g.known g.typed))
              tail.0,
        ),
        ap₂ (λ x l. reads i ++ numbers x ++ l) g.target tail.1,
      )
  seq_agrees (Ends e) n y z ag k =
      let g = end_agrees P n y z e ag k in (g.0, ap (λ x. end_reads e ++ numbers x) g.1)

  -- what stays known: an instruction's rest is accepted with it, and wants no more
  pub kept_case : (i : TInstr) (x : TFile) (c : TSeq) → (kept P x i c ≡ keep (live P (next P x i) c) (next P x i))
      ⊎ (kept P x i c ≡ next P x i)
  kept_case (Bnz r v) x c = inr refl
  kept_case _ x c = inl refl

  -- so each property of files that keeping and staying keep
  pub by_cases : (i : TInstr) (x : TFile) (c : TSeq) (Q : TFile → Type 0) →
      Q (keep (live P (next P x i) c) (next P x i)) → Q (next P x i) → Q (kept P x i c)
  by_cases i x c Q a b = ⊎_elim (λ e. subst Q (sym e) a) (λ e. subst Q (sym e) b) (kept_case i x c)

  pub kept_accepted : (i : TInstr) (n : ℕ) (x : TFile) (c : TSeq) → SeqAccepted P n (lookup (next P x i)) c →
      SeqAccepted P n (lookup (kept P x i c)) c
  kept_accepted i n x c h =
      by_cases i x c (λ z. SeqAccepted P n (lookup z) c)
      (seq_agrees c n (next P x i) (keep (live P (next P x i) c) (next P x i))
      (agree_keep (live P (next P x i) c) (next P x i)) h).0 h

  pub kept_agrees : (i : TInstr) (x : TFile) (c : TSeq) → Agree (live P (next P x i) c) (next P x i) (kept P x i c)
  kept_agrees i x c = by_cases i x c (λ z. Agree (live P (next P x i) c) (next P x i) z)
      (agree_keep (live P (next P x i) c) (next P x i)) (λ r e. refl)

  pub kept_sub : (i : TInstr) (x : TFile) (c : TSeq) → Sub (next P x i) (kept P x i c)
  kept_sub i x c = by_cases i x c (Sub (next P x i)) (keep_sub (live P (next P x i) c) (next P x i)) (λ r t e. e)

  pub kept_fits : (i : TInstr) (g : RegTypes) (x : TFile) (c : TSeq) → FitsFile g (next P x i) →
      FitsFile g (kept P x i c)
  kept_fits i g x c h = by_cases i x c (FitsFile g) (fits_keep g (live P (next P x i) c) (next P x i) h) h

  pub kept_ascends : (i : TInstr) (x : TFile) (c : TSeq) → Ascends x → Ascends (kept P x i c)
  kept_ascends i x c h =
      let h2 = ascends_next P x i h in by_cases i x c Ascends (ascends_keep (live P (next P x i) c) (next P x i) h2) h2

  -- The same without typing: the types of values, and what is wanted, depend on nothing but what is known of the
  -- registers that are wanted.
  base_same : (y z : TFile) (b : TBase) → Agree (base_reads b) y z → base_type P z b ≡ base_type P y b
  base_same y z (Reg r) ag = ap or_int (ag r (among_first r []))
  base_same y z (Int i) ag = refl
  base_same y z (Label l) ag = refl
  base_same y z (Data d) ag = refl

  pub value_same : (y z : TFile) (v : TValue) → Agree (value_reads v) y z → type_of P z v ≡ type_of P y v
  value_same y z (Plain b []) ag = base_same y z b ag
  value_same y z (Plain b (u ∷ us)) ag = ap (λ t. applied_type t (u ∷ us)) (base_same y z b ag)
  value_same y z (Pack t v s) ag = refl

  ins_alike : (y z : TFile) (rd : ℕ) (t u : Ty) (r : ℕ) → t ≡ u → lookup z r ≡ lookup y r →
      lookup (ins rd t z) r ≡ lookup (ins rd u y) r
  ins_alike y z rd t u r e a =
      ap (λ g. g r) (lookup_ins rd t z) ∙ ap₂ (λ w o. cond (nat_eq rd r) (Some w) o) e a
      ∙ sym (ap (λ g. g r) (lookup_ins rd u y))

  shifted_alike : (y z : TFile) (r : ℕ) → lookup z r ≡ lookup y r →
      lookup (shift_file 1 0 z) r ≡ lookup (shift_file 1 0 y) r
  shifted_alike y z r a = sym (ap (λ g. g r) (raised_lookup z)) ∙ ap (option_map (shift 1 0)) a
      ∙ ap (λ g. g r) (raised_lookup y)

  pub next_alike : (y z : TFile) (i : TInstr) → Agree (reads i) y z → (r : ℕ) → lookup z r ≡ lookup y r →
      lookup (next P z i) r ≡ lookup (next P y i) r
  next_alike y z (Arith op rd rs v) ag r a = ins_alike y z rd IntTy IntTy r refl a
  next_alike y z (Bnz q v) ag r a = a
  next_alike y z (Ld rd rs i) ag r a =
      ins_alike y z rd _ _ r (ap (λ o. field_type (or_int o) i) (ag rs (among_first rs []))) a
  next_alike y z (Malloc rd ts) ag r a = ins_alike y z rd _ _ r refl a
  next_alike y z (Mov rd v) ag r a = ins_alike y z rd _ _ r (value_same y z v ag) a
  next_alike y z (St rd i rs) ag r a =
      ins_alike y z rd _ _ r (ap (λ o. filled_type (or_int o) i) (ag rd (among_first rd (rs ∷ [])))) a
  next_alike y z (Unpack rd v) ag r a =
      ins_alike (shift_file 1 0 y) (shift_file 1 0 z) rd _ _ r (ap hidden_type (value_same y z v ag))
      (shifted_alike y z r a)

  pub target_alike : (y z : TFile) (i : TInstr) → Agree (reads i) y z → target P z i ≡ target P y i
  target_alike y z (Bnz r v) ag = ap target_file (value_same y z v (λ q e. ag q (among_next q r (value_reads v) e)))
  target_alike y z _ ag = refl

  pub end_alike : (y z : TFile) (e : TEnd) → Agree (end_reads e) y z → end_target P z e ≡ end_target P y e
  end_alike y z (Jmp v) ag = ap target_file (value_same y z v ag)
  end_alike y z Halt ag = refl

  pub live_alike : (c : TSeq) (y z : TFile) → Agree (live P y c) y z → live P z c ≡ live P y c
  live_alike (Then i c) y z ag =
      let rest = live P (next P y i) c in
      let here : Agree (reads i) y z =
      agree_left (reads i) (numbers (target P y i)) y z
      (agree_left (reads i ++ numbers (target P y i)) rest y z ag) in
      let there : Agree rest (next P y i) (next P z i) =
      λ r e. next_alike y z i here r (ag r (among_right r (reads i ++ numbers (target P y i)) rest e)) in
      ap₂ (λ x l. reads i ++ numbers x ++ l) (target_alike y z i here) (live_alike c (next P y i) (next P z i) there)
  live_alike (Ends e) y z ag =
      ap (λ x. end_reads e ++ numbers x)
      (end_alike y z e (agree_left (end_reads e) (numbers (end_target P y e)) y z ag))

  -- what stays known wants the same
  pub kept_wants : (i : TInstr) (x : TFile) (c : TSeq) → live P (kept P x i c) c ≡ live P (next P x i) c
  kept_wants i x c = by_cases i x c (λ z. live P z c ≡ live P (next P x i) c)
      (live_alike c (next P x i) (keep (live P (next P x i) c) (next P x i))
      (agree_keep (live P (next P x i) c) (next P x i))) refl
