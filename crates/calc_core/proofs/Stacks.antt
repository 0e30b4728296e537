-- A stack of frames, the last of which is the innermost: each leads from a task to the task around it.
use Rattle.std.proofs.Common.{◌≡◌, ◌+◌, ℕ, List, [], ◌∷◌, ◌++◌, refl, sym, subst, arith}
use Rattle.calc_core.specs.Stack.{Chain, stack_sum}

module _ {F T : Type 0} (P : F → T → T → Type 0) where
  pub chain_push : (fs : List F) (f : F) (t u w : T) → Chain P fs u w → P f t u → Chain P (fs ++ f ∷ []) t w
  chain_push [] f t u w h p = (t, refl, subst (P f t) h p)
  chain_push (g ∷ fs) f t u w h p = (h.0, chain_push fs f t u h.0 h.1 p, h.2)

  pub chain_pop : (fs : List F) (f : F) (t w : T) → Chain P (fs ++ f ∷ []) t w → (u : T) × P f t u × Chain P fs u w
  chain_pop [] f t w h = (w, subst (λ x. P f x w) (sym h.1) h.2, refl)
  chain_pop (g ∷ fs) f t w h = let p = chain_pop fs f t h.0 h.1 in (p.0, p.1, (h.0, p.2, h.2))

  -- a fact that each frame carries outward
  pub chain_up : (Q : T → Type 0) → ((f : F) (t u : T) → P f t u → Q t → Q u) → (fs : List F) (t w : T) →
      Chain P fs t w → Q t → Q w
  chain_up Q up [] t w h q = subst Q h q
  chain_up Q up (f ∷ fs) t w h q = up f h.0 w h.2 (chain_up Q up fs t h.0 h.1 q)

-- frames that are read in another way, where each leads on as before
pub chain_map : {F T : Type 0} (P Q : F → T → T → Type 0) → ((f : F) (t u : T) → P f t u → Q f t u) →
    (fs : List F) (t w : T) → Chain P fs t w → Chain Q fs t w
chain_map P Q go [] t w h = h
chain_map P Q go (f ∷ fs) t w h = (h.0, chain_map P Q go fs t h.0 h.1, go f h.0 w h.2)

pub sum_push : {F : Type 0} (c : F → ℕ) (fs : List F) (f : F) → stack_sum c (fs ++ f ∷ []) ≡ stack_sum c fs + c f
sum_push c [] f = omega arith
sum_push c (g ∷ fs) f = omega (arith, sum_push c fs f)
