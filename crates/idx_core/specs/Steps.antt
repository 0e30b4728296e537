-- Walks that agree at each variable, and a put below binders.
use Rattle.std.proofs.Common.{◌≡◌, ℕ, ◌+◌, ◌-◌, ◌<◌, ◌≤◌, ◌⊎◌, inl, inr, sym, ap, ◌∙◌, refl, arith}
use Rattle.std.proofs.lemmas.Bool.{cases_order}
use Rattle.idx_core.specs.Over.{deep, At, Over, shifted, putted, IsOver, IsPart}
use Rattle.idx_core.specs.Laws.{deep_is, putted_lt, putted_eq, putted_gt, shift_add}

module _ {P : Type 0} {var : ℕ → P} {over_part : Over P P} (part : IsPart P var over_part) where
  module _ {T : Type 0} {over : Over P T} (is : IsOver P T var over_part over) where
    -- walks that agree from their depths on
    pub over_same : (f g : At P) (a c : ℕ) → ((e i : ℕ) → f (deep a e) i ≡ g (deep c e) i) → (t : T) → over f a t
        ≡ over g c t
    over_same f g a c h t =
        sym (is.keeps (λ d i. var i) a (λ e i. refl) (over f a t))
        ∙ is.after f (λ d i. var i) g a a c
        (λ e i. part.is_over.keeps (λ d j. var j) (deep a e) (λ b j. refl) (f (deep a e) i) ∙ h e i) t

    -- a put for c, seen below d - c binders, is a put for d of what is shifted by d - c
    pub put_step : (c d x : ℕ) (s : P) (t : T) → c ≤ d → d ≤ x → over (putted var over_part c s) x t
        ≡ over (putted var over_part d (over_part (shifted var (d - c)) 0 s)) x t
    put_step c d x s t h k =
        over_same (putted var over_part c s) (putted var over_part d (over_part (shifted var (d - c)) 0 s)) x x
        (λ e i. rw (deep_is x e) (here e i (cases_order i (x + e)))) t
      where
        here : (e i : ℕ) → (i ≡ x + e) ⊎ ((i < x + e) ⊎ (x + e < i)) → putted var over_part c s (x + e) i
            ≡ putted var over_part d (over_part (shifted var (d - c)) 0 s) (x + e) i
        here e i (inl o) =
            let sum : d - c + (x + e - d) ≡ x + e - c = omega arith in
            putted_eq var over_part c s (x + e) i o
            ∙ sym (putted_eq var over_part d (over_part (shifted var (d - c)) 0 s) (x + e) i o
            ∙ shift_add part part.is_over (d - c) (x + e - d) 0 s ∙ ap (λ n. over_part (shifted var n) 0 s) sum)
        here e i (inr (inl o)) = putted_lt var over_part c s (x + e) i o
            ∙ sym (putted_lt var over_part d (over_part (shifted var (d - c)) 0 s) (x + e) i o)
        here e i (inr (inr o)) = putted_gt var over_part c s (x + e) i o
            ∙ sym (putted_gt var over_part d (over_part (shifted var (d - c)) 0 s) (x + e) i o)
