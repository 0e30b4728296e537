-- Stretches, jumps, ends and calls: the machine goes as word code goes.
use Rattle.std.proofs.Common.{◌≡◌, ℕ, zero, suc, ◌+◌, ◌-◌, ◌<◌, ◌≤◌, ◌^◌, List, [], ◌∷◌, ◌++◌, length, Bool, true}
use Rattle.std.proofs.Common.{false}
use Rattle.std.proofs.Common.{cond, Some, None, refl, ap, sym, ◌∙◌, subst, arith, inl, inr}
use Rattle.std.proofs.Common.{append_assoc, pos, negsuc, SFits, leb-true, leb-false}
use Rattle.std.proofs.Common.{nat_le}
use Rattle.std.specs.Int.{w32}
use Rattle.x_terms.specs.Machine.{Image, State, Answer, Outcome, Next, Exits, Stuck, Call, effect, fetched, step}
use Rattle.x_terms.specs.Machine.{run, after, plus, word, moved, holds, jump_if}
use Rattle.x_terms.specs.declared.instr.Condition.{Condition}
use Rattle.x_terms.specs.declared.instr.Instr.{Instr}
use Rattle.x_code.specs.Bytes.{bytes_of}
use Rattle.x_laws.specs.Core.{Core, core, runs, bytes_all}
use Rattle.x_laws.specs.Code.{far}
use Rattle.x_laws.specs.Going.{Standing, AllFit, Comes}
use Rattle.x_laws.proofs.Running.{Reached, fetches, further, runs_to}

-- ---- bytes and places

pub bytes_both : (xs ys : List Instr) → bytes_all (xs ++ ys) ≡ bytes_all xs ++ bytes_all ys
bytes_both [] ys = refl
bytes_both (x ∷ xs) ys =
    ap (λ b. bytes_of x ++ b) (bytes_both xs ys) ∙ sym (append_assoc (bytes_of x) (bytes_all xs) (bytes_all ys))

pub standing_first : (m : Image) (a : ℕ) (xs ys : List Instr) → Standing m a (bytes_all (xs ++ ys)) →
    Standing m a (bytes_all xs)
standing_first m a xs ys h = record {
  behind = h.behind;
  rest = bytes_all ys ++ h.rest;
  is =
      h.is ∙ ap (λ b. b ++ h.rest) (bytes_both xs ys) ∙ append_assoc (bytes_all xs) (bytes_all ys) h.rest;
}

pub standing_behind : (m : Image) (a : ℕ) (xs ys : List Instr) → Standing m a (bytes_all (xs ++ ys)) →
    Standing m (a + length (bytes_all xs)) (bytes_all ys)
standing_behind m a xs ys h =
    further m a (bytes_all xs) (bytes_all ys) (subst (Standing m a) (bytes_both xs ys) h)

pub first_fit : (xs ys : List Instr) → AllFit (xs ++ ys) → AllFit xs
first_fit [] ys f = tt
first_fit (x ∷ xs) ys f = (f.0, first_fit xs ys f.1)

pub behind_fit : (xs ys : List Instr) → AllFit (xs ++ ys) → AllFit ys
behind_fit [] ys f = f
behind_fit (x ∷ xs) ys f = behind_fit xs ys f.1

-- a jump leads to where it is to lead
far_by : (n to : ℕ) → to < 2 ^ 64 → (b : Bool) → nat_le n to ≡ b →
    SFits w32 (cond b (pos (to - n)) (negsuc (n - to - 1))) →
    plus n (word (cond b (pos (to - n)) (negsuc (n - to - 1)))) ≡ to
far_by n to lt true e f =
    let le : n ≤ to = leb-true n to e in
    omega arith
far_by n to lt false e f =
    let gt : to < n = leb-false n to e in
    let small : n - to - 1 < 2 ^ 31 = f.sfits in
    omega arith

pub far_leads : (n to : ℕ) → to < 2 ^ 64 → SFits w32 (far n to) → plus n (word (far n to)) ≡ to
far_leads n to lt f = far_by n to lt (nat_le n to) refl f

-- ---- steps

next_is : (s t : State) → Next s ≡ Next t → s ≡ t
next_is s t e = cc

pub after_next : (o : Outcome) (f : State → Outcome) (t : State) → after o f ≡ Next t →
    (u : State) × (o ≡ Next u) × (f u ≡ Next t)
after_next (Next u) f t e = (u, refl, e)
after_next (Exits status calls) f t e = absurd (cc)
after_next Stuck f t e = absurd (cc)

-- a conditional jump, where the flags are known
pub jumps_so : (s : State) (to : ℕ) (e : Condition) (a b : ℕ) (test : Bool) → s.flags ≡ Some (a, b) →
    holds e a b ≡ test →
    jump_if s (s.place + 6) to e s.flags ≡ Next (moved s (cond test to (s.place + 6)) s.registers None)
jumps_so s to e a b test f h =
    ap (jump_if s (s.place + 6) to e) f ∙ ap (λ z. Next (moved s (cond z to (s.place + 6)) s.registers None)) h

module _ (m : Image) (world : ℕ → Answer) (P : State → Type 0) (E : ℕ → List Call → Type 0) where
  pub comes_next : (s u : State) → step m (world (length s.calls)) s ≡ Next u → Comes m world P E u →
      Comes m world P E s
  comes_next s u e (inl g) =
      inl (suc g.0, g.1, ap (λ o. after o (run m world (suc g.0))) e ∙ g.2, g.3)
  comes_next s u e (inr g) =
      inr (suc g.0, g.1, g.2, ap (λ o. after o (run m world (suc g.0))) e ∙ g.3, g.4)

  pub comes_at : (s u : State) → step m (world (length s.calls)) s ≡ Next u → P u → Comes m world P E s
  comes_at s u e p = inl (0, u, ap (λ o. after o (run m world 0)) e, p)

  pub comes_end : (s : State) (status : ℕ) (calls : List Call) →
      step m (world (length s.calls)) s ≡ Exits status calls → E status calls → Comes m world P E s
  comes_end s status calls e p = inr (0, status, calls, ap (λ o. after o (run m world 0)) e, p)

  pub comes_behind : (j : ℕ) (s t : State) → run m world j s ≡ Next t → Comes m world P E t → Comes m world P E s
  comes_behind zero s t e g = subst (Comes m world P E) (next_is t s (sym e)) g
  comes_behind (suc j) s t e g =
      let a = after_next (step m (world (length s.calls)) s) (run m world j) t e in
      comes_next s a.0 a.1 (comes_behind j a.0 t a.2 g)

  -- the instruction at the place
  pub one : (s : State) (i : Instr) (is : List Instr) (o : Outcome) → AllFit (i ∷ is) →
      Standing m s.place (bytes_all (i ∷ is)) →
      effect m (world (length s.calls)) s (s.place + length (bytes_of i)) i ≡ o →
      step m (world (length s.calls)) s ≡ o
  one s i is o f st e =
      ap (λ x. fetched m (world (length s.calls)) s x) (fetches m s.place i (bytes_all is) f.0 st) ∙ e

  -- and the next one
  pub one_on : (s u : State) (i : Instr) (is : List Instr) → AllFit (i ∷ is) →
      Standing m s.place (bytes_all (i ∷ is)) →
      effect m (world (length s.calls)) s (s.place + length (bytes_of i)) i ≡ Next u →
      u.place ≡ s.place + length (bytes_of i) →
      (AllFit is → Standing m u.place (bytes_all is) → Comes m world P E u) → Comes m world P E s
  one_on s u i is f st e p k =
      comes_next s u (one s i is (Next u) f st e)
      (k f.1 (subst (λ a. Standing m a (bytes_all is)) (sym p) (further m s.place (bytes_of i) (bytes_all is) st)))

  -- a stretch, and what is behind it
  pub stretch : (xs ys : List Instr) (s : State) (d : Core) → AllFit (xs ++ ys) →
      Standing m s.place (bytes_all (xs ++ ys)) → runs m xs (core s) ≡ Some d →
      ((t : State) → Reached s (s.place + length (bytes_all xs)) d t → AllFit ys → Standing m t.place (bytes_all ys) →
      Comes m world P E t) →
      Comes m world P E s
  stretch xs ys s d f st e k =
      let t = runs_to m xs s d (first_fit xs ys f) (standing_first m s.place xs ys st) e in
      comes_behind (length xs) s t.0 (t.1 world)
      (k t.0 t.2 (behind_fit xs ys f)
      (subst (λ a. Standing m a (bytes_all ys)) (sym t.2.place_is) (standing_behind m s.place xs ys st)))
