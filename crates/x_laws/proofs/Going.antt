-- The machine goes as word code goes, and ends as it ends.
use Rattle.std.proofs.Common.{◌≡◌, ℕ, zero, suc, ◌%◌, List, [], length, Some, None}
use Rattle.std.proofs.Common.{ap, sym, ◌∙◌, subst, inl, inr, option_and_then}
use Rattle.x_terms.specs.Machine.{Image, State, Answer, Next, Exits, Call, step, run, after}
use Rattle.x_laws.specs.Homes.{Home}
use Rattle.x_laws.specs.Going.{IsLaid, Sim, Comes}
use Rattle.x_laws.specs.Laws.{EndsLike}
use Rattle.x_terms.specs.Process.{Ends}
use Rattle.x_laws.proofs.Flow.{after_next}
use Rattle.x_laws.proofs.Steps.{chained, C, straight_comes, place_comes, branch_comes, jump_comes, goto_comes, leaves}
use Rattle.x_laws.proofs.Writes.{write_comes}
use Rattle.w_terms.specs.Tree.{WConst, WMove, WPlace, WArith, WLoad, WStore, WBranch, WWrite, WSeq}
use Rattle.w_terms.specs.Tree.{WThen, WJump, WGoto, WExit}
use Rattle.w_terms.specs.Machine.{WState, WAt, Written, wstep, wrun, ExitsWith}
use Rattle.w_terms.proofs.Machine.{exit_last}

module _ (m : Image) (n : ℕ) (homes : ℕ → Home) (place : ℕ → ℕ) (blocks : List WSeq)
    (laid : IsLaid m n homes place blocks) (world : ℕ → Answer) where
  -- One step of word code: the machine comes to the next state. Where that is an exit behind a write, the process ends.
  pub goes : (x y : WState) (s : State) → Sim m n homes place x s → wstep place blocks x ≡ Some y →
      C m n homes place blocks laid world y s
  goes (WAt r mem log (WThen (WConst rd k) c)) y s h e =
      straight_comes m n homes place blocks laid world (WConst rd k) c r mem log y s h.fine.0 h.homes_are h.agrees
      h.silent h.fine.1 h.standing h.fits e
  goes (WAt r mem log (WThen (WMove rd rs) c)) y s h e =
      straight_comes m n homes place blocks laid world (WMove rd rs) c r mem log y s h.fine.0 h.homes_are h.agrees
      h.silent h.fine.1 h.standing h.fits e
  goes (WAt r mem log (WThen (WArith o rd rs v) c)) y s h e =
      straight_comes m n homes place blocks laid world (WArith o rd rs v) c r mem log y s h.fine.0 h.homes_are h.agrees
      h.silent h.fine.1 h.standing h.fits e
  goes (WAt r mem log (WThen (WLoad rd ra off) c)) y s h e =
      straight_comes m n homes place blocks laid world (WLoad rd ra off) c r mem log y s h.fine.0 h.homes_are h.agrees
      h.silent h.fine.1 h.standing h.fits e
  goes (WAt r mem log (WThen (WStore ra off rs) c)) y s h e =
      straight_comes m n homes place blocks laid world (WStore ra off rs) c r mem log y s h.fine.0 h.homes_are h.agrees
      h.silent h.fine.1 h.standing h.fits e
  goes (WAt r mem log (WThen (WPlace rd l) c)) y s h e =
      place_comes m n homes place blocks laid world rd l c r mem log y s h e
  goes (WAt r mem log (WThen (WBranch t rs v l) c)) y s h e =
      branch_comes m n homes place blocks laid world t rs v l c r mem log y s h e
  goes (WAt r mem log (WThen (WWrite to ra rn) c)) y s h e =
      write_comes m n homes place blocks laid world to ra rn c r mem log y s h e
  goes (WAt r mem log (WJump l)) y s h e = jump_comes m n homes place blocks laid world l r mem log y s h e
  goes (WAt r mem log (WGoto q)) y s h e = goto_comes m n homes place blocks laid world q r mem log y s h e
  goes (WAt r mem log (WExit status)) y s h e = absurd (cc)

  -- an exit: the process ends with this status
  pub exits : (x : WState) (s : State) (status : ℕ) (out : List Written) → Sim m n homes place x s →
      ExitsWith x status out → Comes m world (λ t. ⊥) (EndsLike status out) s
  exits (WAt r mem log (WExit k)) s status out h e =
      leaves m n homes place blocks laid world (λ t. ⊥) (EndsLike status out) k [] s h.fits h.standing
      (subst (λ o. EndsLike status o (k % 256) s.calls) (sym (e.1 ∙ h.silent.0))
      (ap (λ j. j % 256) (sym e.0), h.silent.1))
  exits (WAt r mem log (WThen i c)) s status out h e = absurd e
  exits (WAt r mem log (WJump l)) s status out h e = absurd e
  exits (WAt r mem log (WGoto q)) s status out h e = absurd e

  -- ---- an exit of word code is an exit of the process

  ends_behind : (j i : ℕ) (s u : State) (status : ℕ) (calls : List Call) → run m world j s ≡ Next u →
      run m world i u ≡ Exits status calls → (k : ℕ) × (run m world k s ≡ Exits status calls)
  ends_behind zero i s u status calls e f =
      let is : s ≡ u = cc in (i, subst (λ t. run m world i t ≡ Exits status calls) (sym is) f)
  ends_behind (suc j) i s u status calls e f =
      let a = after_next (step m (world (length s.calls)) s) (run m world j) u e in
      let g = ends_behind j i a.0 u status calls a.2 f in
      (suc g.0, ap (λ o. after o (run m world g.0)) a.1 ∙ g.1)

  -- with its status and all written, or for a failed write
  abbrev pub EndsSo : ℕ → List Written → State → Type 0
  EndsSo status out s =
      (k : ℕ) × (calls : List Call) × Ends m world s k calls × EndsLike status out k calls

  ends_at_once : (s : State) (status : ℕ) (out : List Written) → Comes m world (λ t. ⊥) (EndsLike status out) s →
      EndsSo status out s
  ends_at_once s status out (inl g) = absurd g.3
  ends_at_once s status out (inr g) = (g.1, g.2, (suc g.0, g.3), g.4)

  one_exit : (t : WState) (a b : ℕ) (x y : List Written) → ExitsWith t a x → ExitsWith t b y → (a ≡ b) × (x ≡ y)
  one_exit (WAt r mem log (WExit k)) a b x y e f = (e.0 ∙ sym f.0, e.1 ∙ sym f.1)
  one_exit (WAt r mem log (WThen i c)) a b x y e f = absurd e
  one_exit (WAt r mem log (WJump l)) a b x y e f = absurd e
  one_exit (WAt r mem log (WGoto q)) a b x y e f = absurd e

  -- an exit is where it runs to
  stays : (j : ℕ) (y t : WState) (k : ℕ) (o : List Written) → wrun place blocks j y ≡ Some t → ExitsWith y k o →
      ExitsWith t k o
  stays zero y t k o e f = let is : y ≡ t = cc in subst (λ z. ExitsWith z k o) is f
  stays (suc j) y t k o e f =
      let none = exit_last place blocks y k o f in
      let is : None ≡ Some t = ap (λ z. option_and_then (wrun place blocks j) z) (sym none) ∙ e in
      absurd (cc)

  ends_later : (j : ℕ) (y t : WState) (s : State) (status : ℕ) (out : List Written) →
      C m n homes place blocks laid world y s → wrun place blocks j y ≡ Some t → ExitsWith t status out →
      ((u : State) → Sim m n homes place y u → EndsSo status out u) → EndsSo status out s
  ends_later j y t s status out (inl g) e f rec =
      let r = rec g.1 g.3 in
      let b = ends_behind (suc g.0) r.2.0 s g.1 r.0 r.1 g.2 r.2.1 in
      (r.0, r.1, b, r.3)
  ends_later j y t s status out (inr g) e f rec =
      let over = g.4 in
      let is = one_exit t over.0 status over.1 out (stays j y t over.0 over.1 e over.2) f in (
        g.1,
        g.2,
        (suc g.0, g.3),
        subst (λ o. EndsLike status o g.1 g.2) is.1 (subst (λ k. EndsLike k over.1 g.1 g.2) is.0 over.3),
      )

  pub ends_so : (j : ℕ) (x t : WState) (s : State) (status : ℕ) (out : List Written) → Sim m n homes place x s →
      wrun place blocks j x ≡ Some t → ExitsWith t status out → EndsSo status out s
  ends_so zero x t s status out h e f =
      let is : x ≡ t = cc in
      ends_at_once s status out
      (exits x s status out h (subst (λ z. ExitsWith z status out) (sym is) f))
  ends_so (suc j) x t s status out h e f =
      let a = chained (wrun place blocks j) (wstep place blocks x) t e in
      ends_later j a.0 t s status out (goes x a.0 s h a.1) a.2 f (λ u g. ends_so j a.0 t u status out g a.2 f)
