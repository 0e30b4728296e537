-- How often places are executed.
use Rattle.std.proofs.Common.{◌≡◌, ℕ, zero, suc, ◌+◌, ◌-◌, ◌<◌, ◌≤◌, nat_lt, cond, Bool, true, false, List, [], ◌∷◌}
use Rattle.std.proofs.Common.{length, Option, Some, None, refl, sym, ap, ap₂, ◌∙◌, subst, arith, slice_get, inl, inr}
use Rattle.std.proofs.Common.{◌⊎◌, ⊎_elim}
use Rattle.std.specs.Prelude.{◌≢◌, ℤ, count_by, option_map, option_and_then, slice_set}
use Rattle.std.proofs.lemmas.List.Sums.{sum_by-cons}
use Rattle.std.proofs.lemmas.Bool.{cases_lt, cases_eq, lt-ltb, le-ltb}
use Rattle.std.proofs.lemmas.Bool.Decides.{nat_tests}
use Rattle.std.proofs.lemmas.Option.{slice_get-map}
use Rattle.t_types.specs.Tree.{TFile}
use Rattle.t_terms.specs.Tree.{TBase, Label, TSeq, Then, Ends, Jmp, Halt, TBlock, TProg}
use Rattle.t_terms.specs.Whole.{WellFormedProgram}
use Rattle.t_rules.specs.Rules.{FirstTakesNothing, Accepted}
use Rattle.t_rules.specs.Machine.{State, At, Where, Next, Into, Step, HaltedWith, Place, Spot, moved, After}
use Rattle.t_rules.specs.Times.{places, is_spot, Times}
use Rattle.t_rules.specs.LawsSound.{code_of}
use Rattle.t_rules.specs.LawsErased.{seq_of}
use Rattle.t_rules.specs.Erase.{EWord, EInt, EAddress, ELabel, EEmpty, EHeap, ERegs, EArith, EBnz, ELd, EMalloc, EMov}
use Rattle.t_rules.specs.Erase.{ESt, ESeq, EThen, EJmp, EHalt, EInstr, EState, EAt, EStep, EGoes, estep, erase}
use Rattle.t_rules.specs.Erase.{erase_seq, erase_blocks, enter, base_word, on_int, on_address, on_label, on_full}
use Rattle.idx_core.specs.Arith.{is_zero}
use Rattle.t_terms.specs.Registers.{with_reg}
use Rattle.t_rules.proofs.OneStep.{step_one, halted_no_step}
use Rattle.t_rules.proofs.Runs.{runs_on}
use Rattle.t_spill_rules.specs.Spill.{Layout, layout, after as laid, kept, step, sizes, code, entry}
use Rattle.t_spill_rules.specs.Spill.{spilled_above, sp_block}
use Rattle.t_spill_laws.specs.Correct.{thens, origin_in, sizes_of, origin_above, IsPlaceOf, times_in, CountsKept}
use Rattle.t_spill_laws.proofs.Typed.{kept_types}
use Rattle.t_spill_laws.proofs.Erased.{esize, then_size}
use Rattle.t_spill_laws.proofs.Walks.{walk, on_next, enter_step}
use Rattle.t_spill_laws.proofs.Matching.{Matches, Seg, Sized, Ending, tail_sizes, tail_left}
use Rattle.t_spill_laws.proofs.Meaning.{plus, plus_is, PState, On, went, so, after, after_on, ahead, trace, walk_runs}
use Rattle.t_spill_laws.proofs.Meaning.{halts_last, start_of, run_logged, follow, entered, entered_regs, starts}
use Rattle.t_spill_laws.proofs.Meaning.{start_file, start_lay, elabels}

-- how often a place is in a list
abbrev pub here : ℕ → ℕ → Place → ℕ
here b i q = cond (is_spot b i q) 1 0

abbrev pub cnt : ℕ → ℕ → List Place → ℕ
cnt b i [] = 0
cnt b i (q ∷ log) = here b i q + cnt b i log

pub cnt_is : (b i : ℕ) (log : List Place) → count_by (is_spot b i) log ≡ cnt b i log
cnt_is b i [] = refl
cnt_is b i (q ∷ log) = sum_by-cons (λ y. cond (is_spot b i y) 1 0) q log ∙ ap (λ n. here b i q + n) (cnt_is b i log)

here_most : (b i : ℕ) (q : Place) → here b i q ≤ 1
here_most b i q = go (is_spot b i q)
  where
    go : (x : Bool) → cond x 1 0 ≤ 1
    go true = omega arith
    go false = omega arith

here_block : (b i c k : ℕ) → c ≢ b → here b i (Spot c k) ≡ 0
here_block b i c k ne = grind (arith, nat_tests)

here_index : (b i c k : ℕ) → k ≢ i → here b i (Spot c k) ≡ 0
here_index b i c k ne = grind (arith, nat_tests)

here_same : (b i : ℕ) → here b i (Spot b i) ≡ 1
here_same b i = grind (arith, nat_tests)

-- in a row of places
off_block : (b i c k j : ℕ) (log : List Place) → c ≢ b → cnt b i (trace (Spot c k) j log) ≡ cnt b i log
off_block b i c k zero log ne = refl
off_block b i c k (suc j) log ne = let x = off_block b i c (k + 1) j (Spot c k ∷ log) ne in
    let y = here_block b i c k ne in omega (arith, x, y)

behind : (b i c k j : ℕ) (log : List Place) → i < k → cnt b i (trace (Spot c k) j log) ≡ cnt b i log
behind b i c k zero log lt = refl
behind b i c k (suc j) log lt =
    let x = behind b i c (k + 1) j (Spot c k ∷ log) (omega arith) in
    let y = here_index b i c k (λ e. absurd (omega arith)) in omega (arith, x, y)

beyond : (b i c k j : ℕ) (log : List Place) → k + j ≤ i → cnt b i (trace (Spot c k) j log) ≡ cnt b i log
beyond b i c k zero log le = refl
beyond b i c k (suc j) log le =
    let x = beyond b i c (k + 1) j (Spot c k ∷ log) (omega arith) in
    let y = here_index b i c k (λ e. absurd (omega arith)) in omega (arith, x, y)

once : (b i c k j : ℕ) (log : List Place) → cnt b i (trace (Spot c k) j log) ≤ cnt b i log + 1
once b i c k zero log = omega arith
once b i c k (suc j) log = ⊎_elim
    (λ (e : k ≡ i). let x = behind b i c (k + 1) j (Spot c k ∷ log) (omega arith) in
    let y = here_most b i (Spot c k) in omega (arith, x, y))
    (λ (ne : k ≢ i). let x = once b i c (k + 1) j (Spot c k ∷ log) in let y = here_index b i c k ne in
    omega (arith, x, y))
    (cases_eq k i)

-- places ahead
ahead_is : (b o j : ℕ) → ahead (Spot b o) j ≡ Spot b (o + j)
ahead_is b o zero = let e : o ≡ o + 0 = omega arith in ap (Spot b) e
ahead_is b o (suc j) = let e : o + 1 + j ≡ o + suc j = omega arith in ahead_is b (o + 1) j ∙ ap (Spot b) e

trace_snoc : (p : Place) (j : ℕ) (log : List Place) → trace p (suc j) log ≡ ahead p j ∷ trace p j log
trace_snoc p zero log = refl
trace_snoc p (suc j) log = trace_snoc (moved p Next) j (p ∷ log)

-- origins
origin_first : (n : ℕ) (ns : List ℕ) (k : ℕ) → k < n → origin_in (n ∷ ns) k ≡ 0
origin_first n ns k lt = ap (λ b. cond b 0 (suc (origin_in ns (k - n)))) (lt-ltb k n lt)

origin_next : (n : ℕ) (ns : List ℕ) (k : ℕ) → origin_in (n ∷ ns) (n + k) ≡ suc (origin_in ns k)
origin_next n ns k =
    let e : n + k - n ≡ k = omega arith in
    ap (λ b. cond b 0 (suc (origin_in ns (n + k - n)))) (le-ltb (n + k) n (omega arith))
    ∙ ap (λ m. suc (origin_in ns m)) e

origin_most : (ns : List ℕ) (k : ℕ) → origin_in ns k ≤ length ns
origin_most [] k = omega arith
origin_most (n ∷ ns) k = go (nat_lt k n) (origin_most ns (k - n))
  where
    go : (b : Bool) → origin_in ns (k - n) ≤ length ns → cond b 0 (suc (origin_in ns (k - n))) ≤ suc (length ns)
    go true h = omega arith
    go false h = omega arith

sizes_length : (top : ℕ) (P : TProg) (c : TSeq) (L : Layout) (x : TFile) → length (sizes top P L x c) ≡ thens c
sizes_length top P (Then i c) L x = ap suc (sizes_length top P c (laid top L i c (kept P x i c)) (kept P x i c))
sizes_length top P (Ends e) L x = refl

-- a step to the next instruction leaves one instruction less
int_some : {A : Type 0} {x : A} (o : Option EWord) (go : ℤ → Option A) → on_int o go ≡ Some x → (i : ℤ)
    × (go i ≡ Some x)
int_some (Some (EInt i)) go h = (i, h)
int_some (Some (EAddress a)) go h = cc
int_some (Some (ELabel l)) go h = cc
int_some (Some EEmpty) go h = cc
int_some None go h = cc

address_some : {A : Type 0} {x : A} (o : Option EWord) (go : ℕ → Option A) → on_address o go ≡ Some x → (a : ℕ)
    × (go a ≡ Some x)
address_some (Some (EAddress a)) go h = (a, h)
address_some (Some (EInt i)) go h = cc
address_some (Some (ELabel l)) go h = cc
address_some (Some EEmpty) go h = cc
address_some None go h = cc

label_some : {A : Type 0} {x : A} (o : Option EWord) (go : ℕ → Option A) → on_label o go ≡ Some x → (l : ℕ)
    × (go l ≡ Some x)
label_some (Some (ELabel l)) go h = (l, h)
label_some (Some (EInt i)) go h = cc
label_some (Some (EAddress a)) go h = cc
label_some (Some EEmpty) go h = cc
label_some None go h = cc

full_some : {A : Type 0} {x : A} (o : Option EWord) (go : EWord → Option A) → on_full o go ≡ Some x → (w : EWord)
    × (go w ≡ Some x)
full_some (Some (EInt i)) go h = (EInt i, h)
full_some (Some (EAddress a)) go h = (EAddress a, h)
full_some (Some (ELabel l)) go h = (ELabel l, h)
full_some (Some EEmpty) go h = cc
full_some None go h = cc

and_some : {A C : Type 0} {x : C} (o : Option A) (go : A → Option C) → option_and_then go o ≡ Some x → (a : A)
    × (go a ≡ Some x)
and_some None go h = cc
and_some (Some a) go h = (a, h)

map_some : {A C : Type 0} {x : C} (o : Option A) (f : A → C) → option_map f o ≡ Some x → (a : A) × (f a ≡ x)
map_some None f h = cc
map_some (Some a) f h = let e : f a ≡ _ = some_is h in (a, e)
  where
    some_is : {C : Type 0} {y z : C} → Some y ≡ Some z → y ≡ z
    some_is e = cc

goes_is : (k : Where) (e s : EState) → Some (EGoes k e) ≡ Some (EGoes Next s) → e ≡ s
goes_is k e s h = cc

enters_not : (B : List ESeq) (h : EHeap) (r : ERegs) (b : TBase) (s : EState) → enter B h r b ≡ Some (EGoes Next s) → ⊥
enters_not B h r b s e =
    let x = label_some (base_word r b) (λ l. option_map (λ c. EGoes (Into l) (EAt h r c)) (slice_get B l)) e in
    let y = map_some (slice_get B x.0) (λ c. EGoes (Into x.0) (EAt h r c)) x.1 in
    let z = y.1 in cc

cond_some : {A : Type 0} {x : A} (b : Bool) (y z : Option A) → cond b y z ≡ Some x → (y ≡ Some x) ⊎ (z ≡ Some x)
cond_some true y z e = inl e
cond_some false y z e = inr e

code_next : (B : List ESeq) (h : EHeap) (r : ERegs) (i : EInstr) (c : ESeq) (s : EState) →
    estep B (EAt h r (EThen i c)) ≡ Some (EGoes Next s) → seq_of s ≡ c
code_next B h r (EArith op rd rs b) c s e =
    let x = int_some (r rs) _ e in
    let y = int_some (base_word r b) _ x.1 in
    sym (ap seq_of (goes_is Next _ s y.1))
code_next B h r (EBnz q b) c s e =
    let x = int_some (r q) _ e in
    ⊎_elim
    (λ (y : Some (EGoes Next (EAt h r c)) ≡ Some (EGoes Next s)). sym (ap seq_of (goes_is Next (EAt h r c) s y)))
    (λ (y : enter B h r b ≡ Some (EGoes Next s)). absurd (enters_not B h r b s y))
    (cond_some (is_zero x.0) (Some (EGoes Next (EAt h r c))) (enter B h r b) x.1)
code_next B h r (ELd rd rs i) c s e =
    let x = address_some (r rs) _ e in
    let y = and_some (slice_get h x.0) _ x.1 in
    let z = full_some (slice_get y.0 i) _ y.1 in
    sym (ap seq_of (goes_is Next _ s z.1))
code_next B h r (EMalloc rd n) c s e = sym (ap seq_of (goes_is Next _ s e))
code_next B h r (EMov rd b) c s e =
    let x = map_some (base_word r b) (λ w. EGoes Next (EAt h (with_reg r rd w) c)) e in
    sym (ap seq_of (goes_is Next _ s (ap Some x.1)))
code_next B h r (ESt rd i rs) c s e =
    let x = address_some (r rd) _ e in
    let y = and_some (slice_get h x.0) _ x.1 in
    let z = and_some (r rs) _ y.1 in
    ⊎_elim
    (λ (w : Some (EGoes Next (EAt (slice_set h x.0 (slice_set y.0 i z.0)) r c)) ≡ Some (EGoes Next s)).
    sym (ap seq_of (goes_is Next _ s w)))
    (λ (w : None ≡ Some (EGoes Next s)). cc)
    (cond_some (nat_lt i (length y.0)) (Some (EGoes Next (EAt (slice_set h x.0 (slice_set y.0 i z.0)) r c))) None z.1)

next_size : (B : List ESeq) (e s : EState) → estep B e ≡ Some (EGoes Next s) →
    esize (seq_of e) ≡ suc (esize (seq_of s))
next_size B (EAt h r (EThen i c)) s k = ap (λ z. suc (esize z)) (sym (code_next B h r i c s k))
next_size B (EAt h r (EJmp b)) s k = absurd (enters_not B h r b s k)
next_size B (EAt h r EHalt) s k = cc

-- walks
walk_size : (B : List ESeq) (j : ℕ) (e g : EState) → walk B j e ≡ Some g → esize (seq_of e) ≡ j + esize (seq_of g)
walk_size B zero e g h = let s : e ≡ g = cc in let n = ap (λ z. esize (seq_of z)) s in omega (arith, n)
walk_size B (suc j) e g h = go (estep B e) refl h (λ f k. walk_size B j f g k)
  where
    go : (o : Option EStep) → estep B e ≡ o → on_next o (walk B j) ≡ Some g →
        ((f : EState) → walk B j f ≡ Some g → esize (seq_of f) ≡ j + esize (seq_of g)) →
        esize (seq_of e) ≡ suc j + esize (seq_of g)
    go None st k f = cc
    go (Some (EGoes (Into l) s)) st k f = cc
    go (Some (EGoes Next s)) st k f = let x = f s k in let y = next_size B e s st in omega (arith, x, y)

walk_part : (B : List ESeq) (j x : ℕ) (e g : EState) → x ≤ j → walk B j e ≡ Some g → (f : EState)
    × (walk B x e ≡ Some f)
walk_part B j zero e g le h = (e, refl)
walk_part B zero (suc x) e g le h = absurd (omega arith)
walk_part B (suc j) (suc x) e g le h = go (estep B e) h (λ s k. walk_part B j x s g (omega arith) k)
  where
    go : (o : Option EStep) → on_next o (walk B j) ≡ Some g →
        ((s : EState) → walk B j s ≡ Some g → (f : EState) × (walk B x s ≡ Some f)) → (f : EState)
        × (on_next o (walk B x) ≡ Some f)
    go None k f = cc
    go (Some (EGoes (Into l) s)) k f = cc
    go (Some (EGoes Next s)) k f = f s k

-- the size of the code in front of what is left behind an instruction
head_size : (top : ℕ) (P : TProg) (L : Layout) (x : TFile) (c : TSeq) (z : ℕ) → tail_left top P L x c ≡ suc z →
    (n : ℕ) × (sizes top P L x c ≡ n ∷ tail_sizes top P L x c) × (esize (erase_seq (code top P L x c)) ≡ n + z)
head_size top P L x (Then i c) z e =
    let a = then_size top P L x i c in (length (step top P L x i c), refl, omega (arith, a, e))
head_size top P L x (Ends t) z e = cc

-- with j steps, of which the last may lead away, an instruction's code isn't left behind
within : (top : ℕ) (P : TProg) (L : Layout) (x : TFile) (c : TSeq) (j left k : ℕ) →
    esize (erase_seq (code top P L x c)) ≡ j + left →
    tail_left top P L x c ≤ left → k ≤ j → origin_in (sizes top P L x c) k ≡ 0
within top P L x (Then i c) j left k e low le =
    let to = kept P x i c in
    let a = then_size top P L x i c in
    origin_first (length (step top P L x i c)) (sizes top P (laid top L i c to) to c) k (omega (arith, a, e, low, le))
within top P L x (Ends t) j left k e low le = refl

module _ (top : ℕ) (some : 1 ≤ top) (P : TProg) (whole : WellFormedProgram P) (acc : Accepted P) where
  B : List ESeq
  B = erase_blocks (spilled_above top P)

  abbrev from : ℕ → ℕ → ℕ
  from d k = origin_in (sizes_of top P (slice_get P.blocks d)) k

  -- the places so far are covered
  record Covered (log : List Place) : Type 0 where
    m : ℕ
    s : State
    p : Place
    run : After P m s p
    counts : (d k : ℕ) →
        cnt (suc d) k log ≤ cnt d (origin_in (sizes_of top P (slice_get P.blocks d)) k) (p ∷ places P m s p run)
    first : (k : ℕ) → cnt 0 k log ≤ 1

  -- the second machine stands at the beginning of an instruction's code
  record Bound (m : ℕ) (s : State) (p : Place) (run : After P m s p) : Type 0 where
    j : ℕ
    more : m ≤ j
    e : EState
    b : ℕ
    i : ℕ
    o : ℕ
    log : List Place
    there : after (erase_blocks (spilled_above top P)) j (start_of (spilled_above top P) (entry top))
        ≡ Some (On e (Spot (suc b) o) log)
    matches : Matches top P s e
    at : p ≡ Spot b i
    rel : (k : ℕ) → origin_in (sizes_of top P (slice_get P.blocks b)) (o + k)
        ≡ i + origin_in (sizes top P matches.lay matches.file (code_of s)) k
    counts : (d k : ℕ) →
        cnt (suc d) k log ≤ cnt d (origin_in (sizes_of top P (slice_get P.blocks d)) k) (places P m s p run)
    first : (k : ℕ) → cnt 0 k log ≤ 1
    earlier : (m2 : ℕ) → m2 < j → (e2 : EState) (p2 : Place) (log2 : List Place) →
        after (erase_blocks (spilled_above top P)) m2 (start_of (spilled_above top P) (entry top))
        ≡ Some (On e2 p2 log2) → Covered log2

  -- j steps within the code of the instruction at the place
  seg_counts : (b i o j : ℕ) (left : List ℕ) (log : List Place) →
      ((k : ℕ) → origin_in (sizes_of top P (slice_get P.blocks b)) (o + k) ≡ i + origin_in left k) →
      ((k : ℕ) → k < j → origin_in left k ≡ 0) →
      (d k : ℕ) → cnt (suc d) k (trace (Spot (suc b) o) j log) ≤ cnt (suc d) k log + here d
      (origin_in (sizes_of top P (slice_get P.blocks d)) k) (Spot b i)
  seg_counts b i o j left log rel zeros d k = ⊎_elim
      (λ (same : d ≡ b). subst
      (λ z. cnt (suc z) k (trace (Spot (suc b) o) j log) ≤ cnt (suc z) k log + here z
      (origin_in (sizes_of top P (slice_get P.blocks z)) k) (Spot b i)) (sym same) own)
      (λ (ne : d ≢ b). let x = off_block (suc d) k (suc b) o j log (λ y. absurd (ne (omega arith))) in
      omega (arith, x))
      (cases_eq d b)
    where
      own : cnt (suc b) k (trace (Spot (suc b) o) j log) ≤ cnt (suc b) k log + here b
          (origin_in (sizes_of top P (slice_get P.blocks b)) k) (Spot b i)
      own = ⊎_elim
          (λ (lt : k < o). let x = behind (suc b) k (suc b) o j log lt in omega (arith, x))
          (λ (ge : o ≤ k). ⊎_elim
          (λ (lt : k < o + j).
          let e : o + (k - o) ≡ k = omega arith in
          let z = zeros (k - o) (omega arith) in
          let r = rel (k - o) in
          let is : origin_in (sizes_of top P (slice_get P.blocks b)) k ≡ i =
          ap (origin_in (sizes_of top P (slice_get P.blocks b))) (sym e) ∙ r ∙ omega (arith, z) in
          let one : here b (origin_in (sizes_of top P (slice_get P.blocks b)) k) (Spot b i) ≡ 1 =
          ap (λ q. here b q (Spot b i)) is ∙ here_same b i in
          let x = once (suc b) k (suc b) o j log in omega (arith, x, one))
          (λ (past : o + j ≤ k). let x = beyond (suc b) k (suc b) o j log past in omega (arith, x))
          (cases_lt k (o + j)))
          (cases_lt k o)

  -- a part of the steps
  part : (m : ℕ) (s : State) (p : Place) (run : After P m s p) (x : Bound m s p run) (j x2 : ℕ) (g : EState) →
      walk (erase_blocks (spilled_above top P)) j x.e ≡ Some g → x2 ≤ j →
      ((k : ℕ) → k < x2 → origin_in (sizes top P x.matches.lay x.matches.file (code_of s)) k ≡ 0) →
      (e2 : EState) (p2 : Place) (log2 : List Place) →
      after (erase_blocks (spilled_above top P)) (plus x.j x2) (start_of (spilled_above top P) (entry top))
      ≡ Some (On e2 p2 log2) → Covered log2
  part m s p run x j x2 g w le zeros e2 p2 log2 h =
      let f = walk_part (erase_blocks (spilled_above top P)) j x2 x.e g le w in
      let a = walk_runs (erase_blocks (spilled_above top P)) x2 x.e f.0 (Spot (suc x.b) x.o) x.log f.1 in
      let c : Some (On e2 p2 log2)
      ≡ Some (On f.0 (ahead (Spot (suc x.b) x.o) x2) (trace (Spot (suc x.b) x.o) x2 x.log)) = sym h
      ∙ after_on (erase_blocks (spilled_above top P)) x.j x2 (start_of (spilled_above top P) (entry top))
      (On x.e (Spot (suc x.b) x.o) x.log) x.there ∙ a in
      let same : log2 ≡ trace (Spot (suc x.b) x.o) x2 x.log = cc in
      subst Covered (sym same) (record {
        m = m;
        s = s;
        p = p;
        run = run;
        counts = λ d k.
            let y = seg_counts x.b x.i x.o x2 (sizes top P x.matches.lay x.matches.file (code_of s)) x.log x.rel zeros
            d k in
            let z = x.counts d k in
            let at = ap (here d (origin_in (sizes_of top P (slice_get P.blocks d)) k)) x.at in
            omega (arith, y, z, at);
        first = λ k. let y = off_block 0 k (suc x.b) x.o x2 x.log (λ z. absurd (omega arith)) in let z = x.first k in
            omega (arith, y, z);
      })

  -- the next instruction's beginning
  onward : (m : ℕ) (s : State) (p : Place) (run : After P (suc m) s p) (x : Bound m run.0 run.1 run.3) (tot : ℕ)
      (f : EState) (b2 i2 o2 : ℕ) (m2 : Matches top P s f) → 1 ≤ tot →
      after (erase_blocks (spilled_above top P)) tot (On x.e (Spot (suc x.b) x.o) x.log)
      ≡ Some (On f (Spot (suc b2) o2) (trace (Spot (suc x.b) x.o) tot x.log)) → p ≡ Spot b2 i2 →
      ((k : ℕ) → k < tot → origin_in (sizes top P x.matches.lay x.matches.file (code_of run.0)) k ≡ 0) →
      ((k : ℕ) → origin_in (sizes_of top P (slice_get P.blocks b2)) (o2 + k)
      ≡ i2 + origin_in (sizes top P m2.lay m2.file (code_of s)) k) →
      ((x2 : ℕ) → x2 < tot → (e2 : EState) (p2 : Place) (log2 : List Place) →
      after (erase_blocks (spilled_above top P)) (plus x.j x2) (start_of (spilled_above top P) (entry top))
      ≡ Some (On e2 p2 log2) → Covered log2) → Bound (suc m) s p run
  onward m s p run x tot f b2 i2 o2 m2 some runs at zeros rel parts =
      let pl = plus_is x.j tot in
      record {
        j = plus x.j tot;
        more = omega (arith, pl, some, x.more);
        e = f;
        b = b2;
        i = i2;
        o = o2;
        log = trace (Spot (suc x.b) x.o) tot x.log;
        there = after_on (erase_blocks (spilled_above top P)) x.j tot (start_of (spilled_above top P) (entry top))
            (On x.e (Spot (suc x.b) x.o) x.log) x.there ∙ runs;
        matches = m2;
        at = at;
        rel = rel;
        counts = λ d k.
            let y = seg_counts x.b x.i x.o tot (sizes top P x.matches.lay x.matches.file (code_of run.0)) x.log x.rel
            zeros d k in
            let z = x.counts d k in
            let at = ap (here d (origin_in (sizes_of top P (slice_get P.blocks d)) k)) x.at in
            omega (arith, y, z, at);
        first = λ k. let y = off_block 0 k (suc x.b) x.o tot x.log (λ z. absurd (omega arith)) in let z = x.first k in
            omega (arith, y, z);
        earlier = λ m3 lt e2 p2 log2 h. ⊎_elim
            (λ (before : m3 < x.j). x.earlier m3 before e2 p2 log2 h)
            (λ (later : x.j ≤ m3).
            let pl3 = plus_is x.j (m3 - x.j) in
            let same : m3 ≡ plus x.j (m3 - x.j) = omega (arith, pl3) in
            parts (m3 - x.j) (omega (arith, pl)) e2 p2 log2
            (ap (λ n. after (erase_blocks (spilled_above top P)) n (start_of (spilled_above top P) (entry top)))
            (sym same) ∙ h))
            (cases_lt m3 x.j);
      }

  bound_next : (m : ℕ) (s : State) (p : Place) (run : After P (suc m) s p) (x : Bound m run.0 run.1 run.3) (k : Where)
      (f : EState) → p ≡ moved run.1 k →
      Seg (erase_blocks (spilled_above top P)) (tail_left top P x.matches.lay x.matches.file (code_of run.0)) x.e k f →
      (m2 : Matches top P s f) →
      Sized top P (tail_sizes top P x.matches.lay x.matches.file (code_of run.0)) k
      (sizes top P m2.lay m2.file (code_of s)) → Bound (suc m) s p run
  bound_next m s p run x Next f at seg m2 sized =
      let w = seg.0.by 0 in
      let n = w.0 in
      let hd = head_size top P x.matches.lay x.matches.file (code_of run.0) (esize (seq_of f)) seg.1 in
      let size = walk_size (erase_blocks (spilled_above top P)) w.0 x.e f w.2 in
      let code_is = ap (λ z. esize (seq_of z)) x.matches.is in
      let same : hd.0 ≡ w.0 = omega (arith, size, code_is, hd.2) in
      let zeros : (k : ℕ) → k < w.0 → origin_in (sizes top P x.matches.lay x.matches.file (code_of run.0)) k ≡ 0 =
      λ k lt. ap (λ z. origin_in z k) hd.1
      ∙ origin_first hd.0 (tail_sizes top P x.matches.lay x.matches.file (code_of run.0)) k
      (omega (arith, same, lt)) in
      onward m s p run x w.0 f x.b (x.i + 1) (x.o + w.0) m2 (omega (arith, w.1))
      (walk_runs (erase_blocks (spilled_above top P)) w.0 x.e f (Spot (suc x.b) x.o) x.log w.2
      ∙ ap (λ z. Some (On f z (trace (Spot (suc x.b) x.o) w.0 x.log))) (ahead_is (suc x.b) x.o w.0))
      (at ∙ ap (λ z. moved z Next) x.at) zeros
      (λ k.
      let e1 : x.o + w.0 + k ≡ x.o + (w.0 + k) = omega arith in
      let r = x.rel (w.0 + k) in
      let q : origin_in (sizes top P x.matches.lay x.matches.file (code_of run.0)) (w.0 + k)
      ≡ suc (origin_in (sizes top P m2.lay m2.file (code_of s)) k) =
      ap (λ z. origin_in z (w.0 + k)) hd.1
      ∙ ap (λ z. origin_in (z ∷ tail_sizes top P x.matches.lay x.matches.file (code_of run.0)) (w.0 + k)) same
      ∙ origin_next w.0 (tail_sizes top P x.matches.lay x.matches.file (code_of run.0)) k
      ∙ ap (λ z. suc (origin_in z k)) (sym sized) in
      ap (origin_in (sizes_of top P (slice_get P.blocks x.b))) e1 ∙ r ∙ omega (arith, q))
      (λ x2 lt e2 p2 log2 h. part m run.0 run.1 run.3 x w.0 x2 f w.2 (omega (arith, lt))
      (λ k l. zeros k (omega (arith, l, lt))) e2 p2 log2 h)
  bound_next m s p run x (Into l) f at seg m2 sized =
      let g = seg.0 in
      let w = seg.1.by 0 in
      let size = walk_size (erase_blocks (spilled_above top P)) w.0 x.e seg.0 w.2 in
      let code_is = ap (λ z. esize (seq_of z)) x.matches.is in
      let zeros : (k : ℕ) → k < suc w.0 → origin_in (sizes top P x.matches.lay x.matches.file (code_of run.0)) k ≡ 0 =
      λ k lt. within top P x.matches.lay x.matches.file (code_of run.0) w.0 (esize (seq_of seg.0)) k
      (omega (arith, size, code_is)) seg.3 (omega (arith, lt)) in
      let a = walk_runs (erase_blocks (spilled_above top P)) w.0 x.e seg.0 (Spot (suc x.b) x.o) x.log w.2 in
      let pl = plus_is w.0 1 in
      let n1 : plus w.0 1 ≡ suc w.0 = omega (arith, pl) in
      let q : Place = ahead (Spot (suc x.b) x.o) w.0 in
      let runs : after (erase_blocks (spilled_above top P)) (suc w.0) (On x.e (Spot (suc x.b) x.o) x.log)
      ≡ Some (On f (Spot (suc l) 0) (trace (Spot (suc x.b) x.o) (suc w.0) x.log)) =
      ap (λ n. after (erase_blocks (spilled_above top P)) n (On x.e (Spot (suc x.b) x.o) x.log)) (sym n1)
      ∙ after_on (erase_blocks (spilled_above top P)) w.0 1 (On x.e (Spot (suc x.b) x.o) x.log)
      (On seg.0 q (trace (Spot (suc x.b) x.o) w.0 x.log)) a
      ∙ ap (λ o. so (option_map (went q (trace (Spot (suc x.b) x.o) w.0 x.log)) o)
      (after (erase_blocks (spilled_above top P)) 0)) seg.2
      ∙ ap₂ (λ y z. Some (On f y z)) (into_is q (suc l)) (sym (trace_snoc (Spot (suc x.b) x.o) w.0 x.log)) in
      onward m s p run x (suc w.0) f l 0 0 m2 (omega arith) runs (at ∙ into_is run.1 l) zeros
      (λ k.
      let e1 : 0 + k ≡ k = omega arith in
      let blk : sizes_of top P (slice_get P.blocks l)
      ≡ sizes top P (layout top sized.0.file) sized.0.file sized.0.code = ap (sizes_of top P) sized.1 in
      let now : origin_in (sizes_of top P (slice_get P.blocks l)) k
      ≡ origin_in (sizes top P m2.lay m2.file (code_of s)) k = ap (λ z. origin_in z k) (blk ∙ sym sized.2) in
      ap (origin_in (sizes_of top P (slice_get P.blocks l))) e1 ∙ now ∙ omega arith)
      (λ x2 lt e2 p2 log2 h. part m run.0 run.1 run.3 x w.0 x2 seg.0 w.2 (omega (arith, lt))
      (λ k y. zeros k (omega (arith, y, lt))) e2 p2 log2 h)
    where
      into_is : (q : Place) (l : ℕ) → moved q (Into l) ≡ Spot l 0
      into_is (Spot b i) l = refl

  -- before the first block is entered
  early : (m2 : ℕ) → m2 < 2 → (s : State) (p : Place) (run : After P 0 s p) →
      (e2 : EState) (p2 : Place) (log2 : List Place) →
      after (erase_blocks (spilled_above top P)) m2 (start_of (spilled_above top P) (entry top))
      ≡ Some (On e2 p2 log2) → Covered log2
  early zero lt s p run e2 p2 log2 h =
      let same : [] ≡ log2 = cc in
      subst Covered same (record {
        m = 0;
        s = s;
        p = p;
        run = run;
        counts = λ d k. omega arith;
        first =
            λ k. omega arith;
      })
  early (suc zero) lt s p run e2 p2 log2 h =
      let same : Spot 0 0 ∷ [] ≡ log2 = cc in
      subst Covered same (record {
        m = 0;
        s = s;
        p = p;
        run = run;
        counts = λ d k. let x = here_block (suc d) k 0 0 (λ z. absurd (omega arith)) in omega (arith, x);
        first = λ k. let x = here_most 0 k (Spot 0 0) in omega (arith, x);
      })
  early (suc (suc m2)) lt s p run e2 p2 log2 h = absurd (omega arith)

  two_once : (k : ℕ) → cnt 0 k (Spot 0 1 ∷ Spot 0 0 ∷ []) ≤ 1
  two_once k = once_of (cases_eq 0 k)
    where
      once_of : (0 ≡ k) ⊎ (0 ≢ k) → cnt 0 k (Spot 0 1 ∷ Spot 0 0 ∷ []) ≤ 1
      once_of (inl e) = let x = here_index 0 k 0 1 (λ z. absurd (omega arith)) in let y = here_most 0 k (Spot 0 0) in
          omega (arith, x, y)
      once_of (inr ne) = let x = here_index 0 k 0 0 ne in let y = here_most 0 k (Spot 0 1) in omega (arith, x, y)

  bounds : (m : ℕ) (s : State) (p : Place) (run : After P m s p) → Bound m s p run
  bounds zero s p run =
      let k = run.0 in
      let st = enter_step (erase_blocks (spilled_above top P)) (entered top P) (entered_regs top P) (Label 1) 1
      (erase_seq (code top P (layout top k.0.file) k.0.file k.0.code)) refl (elabels top P 0 k.0 k.1) in
      record {
        j = 2;
        more = omega arith;
        e = EAt (entered top P) (entered_regs top P) (erase_seq (code top P (layout top k.0.file) k.0.file k.0.code));
        b = 0;
        i = 0;
        o = 0;
        log = Spot 0 1 ∷ Spot 0 0 ∷ [];
        there = ap (λ o. so (option_map (went (Spot 0 1) (Spot 0 0 ∷ [])) o)
            (after (erase_blocks (spilled_above top P)) 0)) st;
        matches = starts top some P whole acc s k.0 k.1 k.2;
        at = run.1;
        rel = λ n.
            let e1 : 0 + n ≡ n = omega arith in
            let now = start_file top some P whole acc s k.0 k.1 k.2 in
            let lays = start_lay top some P whole acc s k.0 k.1 k.2 in
            ap (origin_in (sizes_of top P (slice_get P.blocks 0))) e1
            ∙ ap (λ z. origin_in (sizes_of top P z) n) k.1
            ∙ ap (λ l. origin_in (sizes top P l k.0.file k.0.code) n) (sym lays)
            ∙ ap₂ (λ x c. origin_in (sizes top P (starts top some P whole acc s k.0 k.1 k.2).lay x c) n) (sym now)
            (sym (ap code_of k.2))
            ∙ omega arith;
        counts = λ d n. let x = here_block (suc d) n 0 0 (λ z. absurd (omega arith)) in
            let y = here_block (suc d) n 0 1 (λ z. absurd (omega arith)) in omega (arith, x, y);
        first = two_once;
        earlier = λ m2 lt e2 p2 log2 h. early m2 lt s p run e2 p2 log2 h;
      }
  bounds (suc m) s p run =
      let x = bounds m run.0 run.1 run.3 in
      ⊎_elim
      (λ (y : (i : ℤ) × HaltedWith run.0 i × Ending (erase_blocks (spilled_above top P)) x.e i).
      absurd (halted_no_step P run.0 y.0 y.1 run.2 s run.4))
      (λ (y : (k : Where) × (t : State) × (f : EState) × Step P run.0 k t
      × Seg (erase_blocks (spilled_above top P)) (tail_left top P x.matches.lay x.matches.file (code_of run.0)) x.e
      k f × (m : Matches top P t f)
      × Sized top P (tail_sizes top P x.matches.lay x.matches.file (code_of run.0)) k
      (sizes top P m.lay m.file (code_of t))).
      let one = step_one P run.0 y.1 s y.0 run.2 y.3 run.4 in
      stepped m s p run x y.0 y.1 y.2 (run.5 ∙ ap (moved run.1) (sym one.0)) y.4 y.5 y.6 one.1)
      (follow top some P whole acc run.0 x.e x.matches)
    where
      stepped : (m : ℕ) (s : State) (p : Place) (run : After P (suc m) s p) (x : Bound m run.0 run.1 run.3) (k : Where)
          (t : State) (f : EState) → p ≡ moved run.1 k →
          Seg (erase_blocks (spilled_above top P)) (tail_left top P x.matches.lay x.matches.file (code_of run.0)) x.e k
          f → (m2 : Matches top P t f) →
          Sized top P (tail_sizes top P x.matches.lay x.matches.file (code_of run.0)) k
          (sizes top P m2.lay m2.file (code_of t)) → t ≡ s → Bound (suc m) s p run
      stepped m s p run x k t f at seg m2 sized same =
          subst (λ z. (m2 : Matches top P z f) →
          Sized top P (tail_sizes top P x.matches.lay x.matches.file (code_of run.0)) k
          (sizes top P m2.lay m2.file (code_of z)) →
          Bound (suc m) s p run) (sym same) (λ m3 sized3. bound_next m s p run x k f at seg m3 sized3) m2 sized

  -- the first place is among those of each run
  first_there : (m : ℕ) (s : State) (p : Place) (run : After P m s p) → 1 ≤ cnt 0 0 (p ∷ places P m s p run)
  first_there zero s p run = let x = ap (here 0 0) run.1 in let y = here_same 0 0 in omega (arith, x, y)
  first_there (suc m) s p run = let x = first_there m run.0 run.1 run.3 in omega (arith, x)

  halted_ends : (L : Layout) (x : TFile) (s : State) (i : ℤ) → HaltedWith s i → (k : ℕ) →
      origin_in (sizes top P L x (code_of s)) k ≡ 0
  halted_ends L x (At h r (Ends Halt)) i a k = refl
  halted_ends L x (At h r (Ends (Jmp v))) i a k = absurd a
  halted_ends L x (At h r (Then j c)) i a k = absurd a

  module _ (whole2 : WellFormedProgram (spilled_above top P)) where
    covered : (m2 : ℕ) (s2 : State) (p2 : Place) (run2 : After (spilled_above top P) m2 s2 p2) →
        Covered (places (spilled_above top P) m2 s2 p2 run2)
    covered m2 s2 p2 run2 =
        let r = run_logged (spilled_above top P) whole2 (kept_types top P some whole acc) (entry top) refl m2 s2 p2
        run2 in
        ⊎_elim
        (λ (x : (s : State) × (p : Place) × After P (suc m2) s p).
        let y = bounds (suc m2) x.0 x.1 x.2 in
        y.earlier m2 (omega (arith, y.more)) (erase s2) p2 (places (spilled_above top P) m2 s2 p2 run2) r)
        (λ (x : (k : ℕ) × (s : State) × (p : Place) × (j : ℤ) × (k < suc m2) × After P k s p × HaltedWith s j).
        let y = bounds x.0 x.1 x.2 x.5 in
        ⊎_elim
        (λ (before : m2 < y.j). y.earlier m2 before (erase s2) p2 (places (spilled_above top P) m2 s2 p2 run2) r)
        (λ (later : y.j ≤ m2).
        ⊎_elim
        (λ (z : (i : ℤ) × HaltedWith x.1 i × Ending (erase_blocks (spilled_above top P)) y.e i).
        let en = z.2 in
        let w = en.walks.by 0 in
        let a = walk_runs (erase_blocks (spilled_above top P)) w.0 y.e _ (Spot (suc y.b) y.o) y.log w.2 in
        let last = after_on (erase_blocks (spilled_above top P)) y.j w.0 (start_of (spilled_above top P) (entry top))
        (On y.e (Spot (suc y.b) y.o) y.log) y.there ∙ a in
        ⊎_elim
        (λ (past : plus y.j w.0 < m2).
        let d : ℕ = m2 - suc (plus y.j w.0) in
        let pl = plus_is (plus y.j w.0) (suc (m2 - suc (plus y.j w.0))) in
        let same : plus (plus y.j w.0) (suc (m2 - suc (plus y.j w.0))) ≡ m2 = omega (arith, pl, past) in
        let none = halts_last (erase_blocks (spilled_above top P)) (plus y.j w.0) (m2 - suc (plus y.j w.0))
        (start_of (spilled_above top P) (entry top)) (EAt en.eheap en.eregs EHalt) _ _ z.0 last en.answer in
        let no : None ≡ Some (On (erase s2) p2 (places (spilled_above top P) m2 s2 p2 run2)) = sym none
        ∙ ap (λ k. after (erase_blocks (spilled_above top P)) k (start_of (spilled_above top P) (entry top))) same
        ∙ r in
        absurd (differ no))
        (λ (le : m2 ≤ plus y.j w.0).
        let pl = plus_is y.j w.0 in
        let pl2 = plus_is y.j (m2 - y.j) in
        let same : m2 ≡ plus y.j (m2 - y.j) = omega (arith, pl2, later) in
        part x.0 x.1 x.2 x.5 y w.0 (m2 - y.j) _ w.2 (omega (arith, pl, le, later))
        (λ k l. halted_ends y.matches.lay y.matches.file x.1 x.3 x.6 k) (erase s2) p2
        (places (spilled_above top P) m2 s2 p2 run2)
        (ap (λ n. after (erase_blocks (spilled_above top P)) n (start_of (spilled_above top P) (entry top))) (sym same)
        ∙ r))
        (cases_lt (plus y.j w.0) m2))
        (λ (z : (k : Where) × (t : State) × (f : EState) × Step P x.1 k t
        × Seg (erase_blocks (spilled_above top P)) (tail_left top P y.matches.lay y.matches.file (code_of x.1)) y.e
        k f × (m : Matches top P t f)
        × Sized top P (tail_sizes top P y.matches.lay y.matches.file (code_of x.1)) k
        (sizes top P m.lay m.file (code_of t))). absurd (halted_no_step P x.1 x.3 x.6 z.0 z.1 z.3))
        (follow top some P whole acc x.1 y.e y.matches))
        (cases_lt m2 y.j))
        (runs_on P whole acc (suc m2))
      where
        differ : {y : PState} → None ≡ Some y → ⊥
        differ z = cc

    counts_at : (m2 : ℕ) (s2 : State) (p2 : Place) (run2 : After (spilled_above top P) m2 s2 p2) →
        (m : ℕ) × (s : State) × (p : Place) × (run : After P m s p)
        × ((b i : ℕ) → Times (spilled_above top P) m2 s2 p2 run2 b i ≤ times_in (origin_above top P (Spot b i))
        (p ∷ places P m s p run))
    counts_at m2 s2 p2 run2 =
        let c = covered m2 s2 p2 run2 in (
          c.m,
          c.s,
          c.p,
          c.run,
          λ b i. each_place c.p (places P c.m c.s c.p c.run) (places (spilled_above top P) m2 s2 p2 run2) c.counts
              c.first (first_there c.m c.s c.p c.run) b i,
        )
      where
        each_place : (p : Place) (ps log : List Place) →
            ((d k : ℕ) → cnt (suc d) k log ≤ cnt d (origin_in (sizes_of top P (slice_get P.blocks d)) k) (p ∷ ps)) →
            ((k : ℕ) → cnt 0 k log ≤ 1) → 1 ≤ cnt 0 0 (p ∷ ps) → (b i : ℕ) →
            count_by (is_spot b i) log ≤ times_in (origin_above top P (Spot b i)) (p ∷ ps)
        each_place p ps log h f one zero i = let x = cnt_is 0 i log in let y = cnt_is 0 0 (p ∷ ps) in let z = f i in
            omega (arith, x, y, z, one)
        each_place p ps log h f one (suc d) i =
            let x = cnt_is (suc d) i log in
            let y = cnt_is d (origin_in (sizes_of top P (slice_get P.blocks d)) i) (p ∷ ps) in let z = h d i in
            omega (arith, x, y, z)

    from_places : (p : Place) → IsPlaceOf (spilled_above top P) p → IsPlaceOf P (origin_above top P p)
    from_places (Spot zero i) h = first_at P.blocks acc.0
      where
        first_at : (bs : List TBlock) → FirstTakesNothing bs → (x : TBlock) × (slice_get bs 0 ≡ Some x)
            × (0 ≤ thens x.code)
        first_at [] a = absurd a
        first_at (b ∷ bs) a = (b, refl, omega arith)
    from_places (Spot (suc b) i) h = go (slice_get P.blocks b) refl
      where
        found : Option TBlock → Option TBlock → Type 0
        found o q = q ≡ option_map (sp_block top P) o

        go : (o : Option TBlock) → slice_get P.blocks b ≡ o → (x : TBlock) × (slice_get P.blocks b ≡ Some x)
            × (origin_in (sizes_of top P (slice_get P.blocks b)) i ≤ thens x.code)
        go (Some x) e =
            let a = origin_most (sizes top P (layout top x.file) x.file x.code) i in
            let n = sizes_length top P x.code (layout top x.file) x.file in
            let same = ap (λ o. origin_in (sizes_of top P o) i) e in
            (x, e, omega (arith, a, n, same))
        go None e =
            let y : Some h.0 ≡ None = sym h.1 ∙ slice_get-map (sp_block top P) P.blocks b
            ∙ ap (option_map (sp_block top P)) e in cc

    pub counts_kept : CountsKept P (spilled_above top P) (origin_above top P)
    counts_kept = record { from_place = from_places; counts = counts_at }
