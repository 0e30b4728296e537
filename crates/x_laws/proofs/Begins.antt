-- From the start on: the process does what word code does, and nothing else.
use Rattle.std.proofs.Common.{◌≡◌, ℕ, zero, suc, ◌+◌, ◌-◌, ◌<◌, ◌≤◌, Bool, true, false, List, [], Option, Some, None}
use Rattle.std.proofs.Common.{refl}
use Rattle.std.proofs.Common.{sym, ◌∙◌, subst, ap, arith, inl, inr, ◌⊎◌, option_and_then, slice_get, nat_le, leb-true}
use Rattle.std.proofs.Common.{leb-false}
use Rattle.x_terms.specs.Machine.{Image, State, Answer, Call, Outcome, Next, Exits as Ended, Stuck, run, after}
use Rattle.x_laws.specs.Homes.{Home}
use Rattle.x_laws.specs.Going.{IsLaid, Sim, Comes}
use Rattle.x_laws.specs.Laws.{places, held_words, IsCompiled, EndsLike, IsAllowed, BehavesAs, CompiledCodeBehaves}
use Rattle.x_laws.specs.Laws.{CompiledCodeHasPlaces}
use Rattle.x_laws.proofs.Laid.{is_laid, are_places}
use Rattle.x_laws.proofs.Steps.{C, onwards, chained}
use Rattle.x_laws.proofs.Going.{goes, exits, ends_so}
use Rattle.x_laws.proofs.Told.{Continues, continues, run_on, nothing_before, told_before}
use Rattle.w_terms.specs.Tree.{WSeq, WProg}
use Rattle.w_terms.specs.Machine.{WRegs, WState, WAt, Written, WStart, Exits, ExitsWith, NeverSticks, wstep, wrun}
use Rattle.w_terms.specs.Machine.{start_memory}
use Rattle.w_terms.proofs.Machine.{exit_last, run_join}

-- ---- what word code says of a program from its start, said of each state

some_state : (x y : WState) → Some x ≡ Some y → x ≡ y
some_state x y e = cc

no_state : (x : WState) → None ≡ Some x → ⊥
no_state x e = cc

module _ (place : ℕ → ℕ) (blocks : List WSeq) where
  -- a state without a step is the only one that a run ends in
  last : (j k : ℕ) (x y t : WState) → wrun place blocks j x ≡ Some y → wstep place blocks y ≡ None →
      wrun place blocks k x ≡ Some t → wstep place blocks t ≡ None → y ≡ t
  last zero zero x y t e n f m = some_state y t (sym e ∙ f)
  last zero (suc k) x y t e n f m =
      let is : x ≡ y = some_state x y e in
      let none : wstep place blocks x ≡ None = subst (λ z. wstep place blocks z ≡ None) (sym is) n in
      absurd (no_state t (ap (λ o. option_and_then (wrun place blocks k) o) (sym none) ∙ f))
  last (suc j) zero x y t e n f m =
      let is : x ≡ t = some_state x t f in
      let none : wstep place blocks x ≡ None = subst (λ z. wstep place blocks z ≡ None) (sym is) m in
      absurd (no_state y (ap (λ o. option_and_then (wrun place blocks j) o) (sym none) ∙ e))
  last (suc j) (suc k) x y t e n f m =
      let a = chained (wrun place blocks j) (wstep place blocks x) y e in
      let g : wrun place blocks k a.0 ≡ Some t = ap (λ o. option_and_then (wrun place blocks k) o) (sym a.1) ∙ f in
      last j k a.0 y t a.2 n g m

  more_run : (j : ℕ) (x y : WState) → wrun place blocks j x ≡ Some y → wstep place blocks y ≡ None →
      wrun place blocks (suc j) x ≡ None
  more_run zero x y e n =
      let is : x ≡ y = some_state x y e in
      ap (λ z. option_and_then (wrun place blocks zero) (wstep place blocks z)) is
      ∙ ap (λ o. option_and_then (wrun place blocks zero) o) n
  more_run (suc j) x y e n =
      let a = chained (wrun place blocks j) (wstep place blocks x) y e in
      ap (λ o. option_and_then (wrun place blocks (suc j)) o) a.1 ∙ more_run j a.0 y a.2 n

start_is : (place : ℕ → ℕ) (p : WProg) (r : WRegs) (s x : WState) → WStart place p r s → WStart place p r x → s ≡ x
start_is place p r s x f g =
    let c : Some f.0 ≡ Some g.0 = sym f.1 ∙ g.1 in
    let same : f.0 ≡ g.0 = cc in
    f.2 ∙ ap (WAt r (start_memory place p) []) same ∙ sym g.2

module _ (m : Image) (n : ℕ) (homes : ℕ → Home) (place : ℕ → ℕ) (p : WProg) (laid : IsLaid m n homes place p.blocks)
    (world : ℕ → Answer) (r : WRegs) (x : WState) (start : WStart place p r x) (never : NeverSticks place p r) where
  -- ---- word code from its start on

  -- a state of word code goes on or is at an exit
  abbrev Onward : WState → Type 0
  Onward y =
      ((z : WState) × (wstep place p.blocks y ≡ Some z))
      ⊎ ((status : ℕ) × (out : List Written) × ExitsWith y status out)

  by_step : (j : ℕ) (y : WState) → wrun place p.blocks j x ≡ Some y → (o : Option WState) →
      wstep place p.blocks y ≡ o → Onward y
  by_step j y e (Some z) q = inl (z, q)
  by_step j y e None q = by_end (never (suc j) x start)
    where
      by_end : ((t : WState) × (wrun place p.blocks (suc j) x ≡ Some t))
          ⊎ ((status : ℕ) × (out : List Written) × Exits place p r status out) → Onward y
      by_end (inl t) = absurd (no_state t.0 (sym (more_run place p.blocks j x y e q) ∙ t.1))
      by_end (inr g) =
          let status : ℕ = g.0 in
          let out : List Written = g.1 in
          let k : ℕ = g.2.0 in
          let t : WState = g.2.2 in
          let begin : WStart place p r g.2.1 = g.2.3 in
          let run : wrun place p.blocks k x ≡ Some t =
          subst (λ s. wrun place p.blocks k s ≡ Some t) (start_is place p r g.2.1 x begin start) g.2.4 in
          let is : y ≡ t =
          last place p.blocks j k x y t e q run (exit_last place p.blocks t status out g.2.5) in
          inr (status, out, subst (λ s. ExitsWith s status out) (sym is) g.2.5)

  onward : (j : ℕ) (y : WState) → wrun place p.blocks j x ≡ Some y → Onward y
  onward j y e = by_step j y e (wstep place p.blocks y) refl

  one_more : (j : ℕ) (y z : WState) → wrun place p.blocks j x ≡ Some y → wstep place p.blocks y ≡ Some z →
      wrun place p.blocks (j + 1) x ≡ Some z
  one_more j y z e f =
      run_join place p.blocks j 1 x y (Some z) e (ap (λ o. option_and_then (wrun place p.blocks zero) o) f)

  -- ---- the process beside it

  abbrev Allowed : Outcome → Type 0
  Allowed = IsAllowed place p r

  -- a state that comes before one in which nothing is written
  silent_before : (j : ℕ) (o : Outcome) (t : State) → after o (run m world j) ≡ Next t → t.calls ≡ [] → Allowed o
  silent_before j (Next u) t e h =
      let g : Continues u.calls (Next t) = subst (Continues u.calls) e (continues m world j u) in
      inl (nothing_before g h)
  silent_before j (Ended k calls) t e h = absurd (cc)
  silent_before j Stuck t e h = absurd (cc)

  -- and one that comes before an end
  before_end : (j : ℕ) (o : Outcome) (k : ℕ) (calls : List Call) (status : ℕ) (out : List Written) →
      after o (run m world j) ≡ Ended k calls → Exits place p r status out → EndsLike status out k calls → Allowed o
  before_end j (Next u) k calls status out e g h =
      let more : Continues u.calls (Ended k calls) = subst (Continues u.calls) e (continues m world j u) in
      inr (status, out, g, told_before status out k u.calls calls more h)
  before_end j (Ended i c) k calls status out e g h = subst Allowed (sym e) (status, out, g, h)
  before_end j Stuck k calls status out e g h = absurd (cc)

  -- what is allowed after fewer steps
  abbrev Sooner : ℕ → Type 0
  Sooner fuel = (k j : ℕ) (y : WState) (s : State) → k ≤ fuel → wrun place p.blocks j x ≡ Some y →
      Sim m n homes place y s → Allowed (run m world k s)

  state_by : (fuel k i j : ℕ) (z : WState) (s t : State) → k ≤ suc fuel → Sooner fuel →
      wrun place p.blocks j x ≡ Some z → run m world (suc i) s ≡ Next t → Sim m n homes place z t → t.calls ≡ [] →
      (b : Bool) → nat_le (suc i) k ≡ b → Allowed (run m world k s)
  state_by fuel k i j z s t le rec e f sim none true q =
      let d : ℕ = k - suc i in
      let within : suc i ≤ k = leb-true (suc i) k q in
      let whole : k ≡ suc i + d = omega (arith, within) in
      let is : run m world k s ≡ run m world d t =
      ap (λ a. run m world a s) whole ∙ run_on m world (suc i) d s ∙ ap (λ o. after o (run m world d)) f in
      subst Allowed (sym is) (rec d j z t (omega (arith, whole, le)) e sim)
  state_by fuel k i j z s t le rec e f sim none false q =
      let d : ℕ = suc i - k in
      let above : k < suc i = leb-false (suc i) k q in
      let whole : suc i ≡ k + d = omega (arith, above) in
      silent_before d (run m world k s) t
      (sym (run_on m world k d s) ∙ ap (λ a. run m world a s) (sym whole) ∙ f) none

  end_by : (k i c : ℕ) (calls : List Call) (s : State) (status : ℕ) (out : List Written) →
      run m world (suc i) s ≡ Ended c calls → Exits place p r status out → EndsLike status out c calls →
      (b : Bool) → nat_le (suc i) k ≡ b → Allowed (run m world k s)
  end_by k i c calls s status out f g h true q =
      let d : ℕ = k - suc i in
      let within : suc i ≤ k = leb-true (suc i) k q in
      let whole : k ≡ suc i + d = omega (arith, within) in
      let is : run m world k s ≡ Ended c calls =
      ap (λ a. run m world a s) whole ∙ run_on m world (suc i) d s ∙ ap (λ o. after o (run m world d)) f in
      subst Allowed (sym is) (status, out, g, h)
  end_by k i c calls s status out f g h false q =
      let d : ℕ = suc i - k in
      let above : k < suc i = leb-false (suc i) k q in
      let whole : suc i ≡ k + d = omega (arith, above) in
      before_end d (run m world k s) c calls status out
      (sym (run_on m world k d s) ∙ ap (λ a. run m world a s) (sym whole) ∙ f) g h

  no_calls : (y : WState) (s : State) → Sim m n homes place y s → s.calls ≡ []
  no_calls (WAt g mem log c) s h = h.silent.1

  on_by : (fuel k j : ℕ) (y z : WState) (s : State) → k ≤ suc fuel → Sooner fuel → wrun place p.blocks j x ≡ Some y →
      wstep place p.blocks y ≡ Some z → C m n homes place p.blocks laid world z s → Allowed (run m world k s)
  on_by fuel k j y z s le rec e f (inl g) =
      state_by fuel k g.0 (j + 1) z s g.1 le rec (one_more j y z e f) g.2 g.3 (no_calls z g.1 g.3)
      (nat_le (suc g.0) k) refl
  on_by fuel k j y z s le rec e f (inr g) =
      let over = g.4 in
      end_by k g.0 g.1 g.2 s over.0 over.1 g.3 (j + 1, x, z, start, one_more j y z e f, over.2) over.3
      (nat_le (suc g.0) k) refl

  exit_by : (k j : ℕ) (y : WState) (s : State) (status : ℕ) (out : List Written) → wrun place p.blocks j x ≡ Some y →
      ExitsWith y status out → Comes m world (λ t. ⊥) (EndsLike status out) s → Allowed (run m world k s)
  exit_by k j y s status out e f (inl g) = absurd g.3
  exit_by k j y s status out e f (inr g) =
      end_by k g.0 g.1 g.2 s status out g.3 (j, x, y, start, e, f) g.4 (nat_le (suc g.0) k) refl

  allowed_by : (fuel k j : ℕ) (y : WState) (s : State) → k ≤ suc fuel → Sooner fuel → wrun place p.blocks j x ≡ Some y →
      Sim m n homes place y s → Onward y → Allowed (run m world k s)
  allowed_by fuel k j y s le rec e h (inl z) =
      on_by fuel k j y z.0 s le rec e z.1 (goes m n homes place p.blocks laid world y z.0 s h z.1)
  allowed_by fuel k j y s le rec e h (inr g) =
      exit_by k j y s g.0 g.1 e g.2 (exits m n homes place p.blocks laid world y s g.0 g.1 h g.2)

  pub allowed : (fuel : ℕ) → Sooner fuel
  allowed zero k j y s le e h =
      let is : k ≡ 0 = omega (arith, le) in
      subst (λ i. Allowed (run m world i s)) (sym is) (inl (no_calls y s h))
  allowed (suc fuel) k j y s le e h = allowed_by fuel k j y s le (allowed fuel) e h (onward j y e)

module _ (m : Image) (n : ℕ) (homes : ℕ → Home) (p : WProg) (s : State) (h : IsCompiled m n homes p s) where
  abbrev Place : ℕ → ℕ
  Place = places m homes p

  abbrev Regs : WRegs
  Regs = held_words homes s

  abbrev laid : IsLaid m n homes Place p.blocks
  laid = is_laid m n homes p.blocks h.code h.small h.low h.fit h.fine

  begins : (c : WSeq) → slice_get p.blocks 0 ≡ Some c →
      Sim m n homes Place (WAt Regs (start_memory Place p) [] c) s
  begins c first =
      onwards m n homes Place p.blocks laid (λ k. record { result = 0; r11 = 0 }) Regs (start_memory Place p) [] c
      (Place 0) s h.here h.homes_are (record { registers = λ q lq. refl; words = h.words }) (laid.standing 0 c first)
      (laid.fits 0 c first) (laid.fine 0 c first) (refl, h.silent)

  sim_from : (x : WState) → WStart Place p Regs x → Sim m n homes Place x s
  sim_from x g = subst (λ z. Sim m n homes Place z s) (sym g.2) (begins g.0 g.1)

  behaves : (c : WSeq) → slice_get p.blocks 0 ≡ Some c → NeverSticks Place p Regs → BehavesAs Place p Regs m s
  behaves c first never =
      let x : WState = WAt Regs (start_memory Place p) [] c in
      record {
        back = λ world k.
            allowed m n homes Place p laid world Regs x (c, first, refl) never k k 0 x s (omega arith) refl
            (begins c first);
        forth = λ world status out g.
            ends_so m n homes Place p.blocks laid world g.0 g.1 g.2 s status out (sim_from g.1 g.3) g.4 g.5;
      }

pub compiled_behaves : CompiledCodeBehaves
compiled_behaves m n homes p s h c first never = behaves m n homes p s h c first never

pub compiled_has_places : CompiledCodeHasPlaces
compiled_has_places m n homes p s h = are_places m homes p h.code h.small
