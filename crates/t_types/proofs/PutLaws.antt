-- Laws of a put whose walk stands below more binders than it began with, beside the general laws of shift and put.
use Rattle.std.proofs.Common.{◌≡◌, ℕ, ◌+◌, ◌-◌, ◌<◌, ◌≤◌, ◌⊎◌, inl, inr, sym, ap, ap₂, ◌∙◌, arith}
use Rattle.std.proofs.lemmas.Bool.{cases_lt, cases_order}
use Rattle.idx_core.specs.Over.{At, Over, shifted, putted, IsOver}
use Rattle.idx_core.specs.Laws.{deep_is, shifted_lt, shifted_ge, putted_lt, putted_eq, putted_gt, shift_past, put_put}
use Rattle.idx_core.specs.Laws.{shift_zero_law}
use Rattle.idx_core.specs.Steps.{put_step}
use Rattle.t_types.specs.Tree.{Ty, VarTy, over, shift, put, put_from}
use Rattle.t_types.specs.TreeLaws.{types_part, types_over}

module _ {T : Type 0} {over_tree : Over Ty T} (is : IsOver Ty T VarTy over over_tree) where
  -- a put for c, seen below d - c binders, is a put for d
  pub put_below_is : (c d x : ℕ) (s : Ty) (t : T) → c ≤ d → d ≤ x →
      over_tree (putted VarTy over c s) x t ≡ over_tree (putted VarTy over d (shift (d - c) 0 s)) x t
  put_below_is c d x s t h k = put_step types_part is c d x s t h k

  -- a put past a shift: the shift of the put
  pub put_shifted : (c d k : ℕ) (s : Ty) (t : T) → c ≤ d →
      over_tree (putted VarTy over c s) (d + k) (over_tree (shifted VarTy k) 0 t)
      ≡ over_tree (shifted VarTy k) 0 (over_tree (putted VarTy over c s) d t)
  put_shifted c d k s t le =
      is.after (shifted VarTy k) (putted VarTy over c s) both 0 (d + k) 0
      (λ e i. rw (deep_is (d + k) e, deep_is 0 e) (here e i (cases_lt i (0 + e)) (cases_order i (d + e)))) t
      ∙ sym (is.after (putted VarTy over c s) (shifted VarTy k) both d 0 0
      (λ e i. rw (deep_is d e, deep_is 0 e) (there e i)) t)
    where
      both : At Ty
      both e i = shift k e (putted VarTy over c s (d + e) i)

      there : (e i : ℕ) → shift k (0 + e) (putted VarTy over c s (d + e) i) ≡ both (0 + e) i
      there e i =
          let z : d + (0 + e) ≡ d + e = omega arith in ap (λ n. shift k (0 + e) (putted VarTy over c s n i)) (sym z)

      here : (e i : ℕ) → (i < 0 + e) ⊎ (0 + e ≤ i) → (i ≡ d + e) ⊎ ((i < d + e) ⊎ (d + e < i)) →
          over (putted VarTy over c s) (d + k + e) (shifted VarTy k (0 + e) i) ≡ both (0 + e) i
      here e i (inl l) o =
          ap (over (putted VarTy over c s) (d + k + e)) (shifted_lt VarTy k (0 + e) i l)
          ∙ putted_lt VarTy over c s (d + k + e) i (omega arith)
          ∙ sym (ap (shift k (0 + e)) (putted_lt VarTy over c s (d + (0 + e)) i (omega arith))
          ∙ shifted_lt VarTy k (0 + e) i l)
      here e i (inr g) (inl o) =
          let far : d + k + e - c ≡ d + (0 + e) - c + k = omega arith in
          ap (over (putted VarTy over c s) (d + k + e)) (shifted_ge VarTy k (0 + e) i g)
          ∙ putted_eq VarTy over c s (d + k + e) (i + k) (omega arith) ∙ ap (λ n. shift n 0 s) far
          ∙ sym (ap (shift k (0 + e)) (putted_eq VarTy over c s (d + (0 + e)) i (omega arith))
          ∙ shift_past types_part (d + (0 + e) - c) k (0 + e) s (omega arith))
      here e i (inr g) (inr (inl o)) =
          ap (over (putted VarTy over c s) (d + k + e)) (shifted_ge VarTy k (0 + e) i g)
          ∙ putted_lt VarTy over c s (d + k + e) (i + k) (omega arith)
          ∙ sym (ap (shift k (0 + e)) (putted_lt VarTy over c s (d + (0 + e)) i (omega arith))
          ∙ shifted_ge VarTy k (0 + e) i g)
      here e i (inr g) (inr (inr o)) =
          let far : i + k - 1 ≡ i - 1 + k = omega arith in
          ap (over (putted VarTy over c s) (d + k + e)) (shifted_ge VarTy k (0 + e) i g)
          ∙ putted_gt VarTy over c s (d + k + e) (i + k) (omega arith) ∙ ap VarTy far
          ∙ sym (ap (shift k (0 + e)) (putted_gt VarTy over c s (d + (0 + e)) i (omega arith))
          ∙ shifted_ge VarTy k (0 + e) (i - 1) (omega arith))

-- two puts: one that began outside, seen below d binders, past one of the type u for the variable k below
pub put_past_put : {T : Type 0} {over_tree : Over Ty T} → IsOver Ty T VarTy over over_tree →
    (c d k : ℕ) (s u : Ty) (t : T) → c ≤ d →
    over_tree (putted VarTy over c s) (d + k) (over_tree (putted VarTy over k (shift k 0 u)) k t)
    ≡ over_tree (putted VarTy over k (shift k 0 (put_from c s d u))) k (over_tree (putted VarTy over c s) (d + k + 1) t)
put_past_put {over_tree = over_tree} is c d k s u t le =
    let far : d + k - c + 1 ≡ d + k + 1 - c = omega arith in
    put_below_is is c (d + k) (d + k) s (over_tree (putted VarTy over k (shift k 0 u)) k t) (omega arith) (omega arith)
    ∙ put_put types_part is k (d + k) (shift k 0 u) (shift (d + k - c) 0 s) t (omega arith)
    ∙ ap₂ (λ x y. over_tree (putted VarTy over k x) k (over_tree (putted VarTy over (d + k + 1) y) (d + k + 1) t))
    (sym (put_below_is types_over c (d + k) (d + k) s (shift k 0 u) (omega arith) (omega arith))
    ∙ put_shifted types_over c d k s u le)
    (shift_past types_part (d + k - c) 1 k s (omega arith) ∙ ap (λ n. shift n 0 s) far)
    ∙ ap (over_tree (putted VarTy over k (shift k 0 (put_from c s d u))) k)
    (sym (put_below_is is c (d + k + 1) (d + k + 1) s t (omega arith) (omega arith)))

-- past a put for the innermost variable
pub put_past_first : (c d : ℕ) (s u t : Ty) → c ≤ d →
    put_from c s d (put 0 u t) ≡ put 0 (put_from c s d u) (put_from c s (d + 1) t)
put_past_first c d s u t le =
    let here : d + 0 ≡ d = omega arith in
    sym (ap₂ (λ x n. put_from c s n (put 0 x t)) (shift_zero_law types_over 0 u) here)
    ∙ put_past_put types_over c d 0 s u t le
    ∙ ap₂ (λ x n. put 0 x (put_from c s (n + 1) t)) (shift_zero_law types_over 0 (put_from c s d u)) here
