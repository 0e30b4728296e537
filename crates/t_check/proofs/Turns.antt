-- Types that are put in turn for the first ones that are owed are put in one walk.
use Rattle.std.proofs.Common.{◌≡◌, ℕ, suc, ◌+◌, ◌-◌, ◌<◌, ◌≤◌, List, [], ◌∷◌, length, get_or, refl, sym, ◌∙◌, ap}
use Rattle.std.proofs.Common.{arith, subst, ◌⊎◌, inl, inr}
use Rattle.std.proofs.lemmas.Bool.{cases_lt, cases_order}
use Rattle.idx_core.specs.Over.{deep, At, shifted, putted}
use Rattle.idx_core.specs.Laws.{deep_is, shifted_lt, shifted_ge, putted_lt, putted_eq, putted_gt, shift_add}
use Rattle.t_types.specs.Tree.{Ty, IntTy, VarTy, TFile, over, over_file, shift, put_file}
use Rattle.t_types.specs.TreeLaws.{types_part, types_over, file_over}
use Rattle.t_terms.specs.Registers.{inst_file}
use Rattle.t_intern.specs.Spread.{spread}
use Rattle.t_intern.proofs.Spreads.{spread_lt, spread_in, spread_ge}

-- the types put in one walk, from depth 0 on
abbrev applied : List Ty → At Ty
applied ts = spread 0 ts

applied_lt : (ts : List Ty) (d i : ℕ) → i < d → applied ts d i ≡ VarTy i
applied_lt ts d i h = spread_lt 0 ts d i h

applied_in : (ts : List Ty) (d i : ℕ) → d ≤ i → i < d + length ts →
    applied ts d i ≡ shift d 0 (get_or ts (length ts - 1 - (i - d)) IntTy)
applied_in ts d i h k =
    spread_in 0 ts d i h k ∙ ap (λ m. shift m 0 (get_or ts (length ts - 1 - (i - d)) IntTy)) (omega arith)

applied_ge : (ts : List Ty) (d i : ℕ) → d + length ts ≤ i → applied ts d i ≡ VarTy (i - length ts)
applied_ge ts d i h = spread_ge 0 ts d i h

-- what was shifted past all variables is only shifted less
past : (ts : List Ty) (d : ℕ) (t : Ty) → over (applied ts) d (shift (d + length ts) 0 t) ≡ shift d 0 t
past ts d t =
    types_over.after (shifted VarTy (d + length ts)) (applied ts) (shifted VarTy d) 0 d 0
    (λ e i. rw (deep_is d e, deep_is 0 e) (here e i (cases_lt i (0 + e)))) t
  where
    here : (e i : ℕ) → (i < 0 + e) ⊎ (0 + e ≤ i) → over (applied ts) (d + e) (shifted VarTy (d + length ts) (0 + e) i)
        ≡ shifted VarTy d (0 + e) i
    here e i (inl h) =
        rw (shifted_lt VarTy (d + length ts) (0 + e) i h, shifted_lt VarTy d (0 + e) i h)
        (applied_lt ts (d + e) i (omega (arith, h)))
    here e i (inr h) =
        rw (shifted_ge VarTy (d + length ts) (0 + e) i h, shifted_ge VarTy d (0 + e) i h)
        (applied_ge ts (d + e) (i + (d + length ts)) (omega (arith, h)) ∙ ap VarTy (omega arith))

get_later : (t : Ty) (ts : List Ty) (j k : ℕ) → k ≡ j + 1 → get_or (t ∷ ts) k IntTy ≡ get_or ts j IntTy
get_later t ts j k e =
    let q : suc j ≡ k = omega (arith, e) in subst (λ m. get_or (t ∷ ts) m IntTy ≡ get_or ts j IntTy) q refl

pub in_one : (ts : List Ty) (n : ℕ) (file : TFile) → length ts ≤ n →
    inst_file ts n file ≡ over_file (spread 0 ts) (n - length ts) file
in_one [] n file h =
    sym (file_over.keeps (applied []) (n - 0) (λ e i. nothing (deep (n - 0) e) i (cases_lt i (deep (n - 0) e))) file)
  where
    nothing : (d i : ℕ) → (i < d) ⊎ (d ≤ i) → applied [] d i ≡ VarTy i
    nothing d i (inl h) = applied_lt [] d i h
    nothing d i (inr h) = applied_ge [] d i (omega (arith, h)) ∙ ap VarTy (omega arith)
in_one (t ∷ ts) n file h =
    let k = length ts in
    let c = n - 1 - k in
    let first = in_one ts (n - 1) (put_file (n - 1) (shift (n - 1) 0 t) file) (omega (arith, h)) in
    let same : n - length (t ∷ ts) ≡ c = omega (arith, h) in
    first
    ∙ file_over.after (putted VarTy over (n - 1) (shift (n - 1) 0 t)) (applied ts) (applied (t ∷ ts)) (n - 1) c c
    (λ e i. rw (deep_is c e, deep_is (n - 1) e) (here e i (omega (arith, h)) (cases_order i (n - 1 + e)))) file
    ∙ ap (λ m. over_file (applied (t ∷ ts)) m file) (sym same)
  where
    turn : At Ty
    turn = putted VarTy over (n - 1) (shift (n - 1) 0 t)

    here : (e i : ℕ) → length ts + 1 ≤ n → (i ≡ n - 1 + e) ⊎ ((i < n - 1 + e) ⊎ (n - 1 + e < i)) →
        over (applied ts) (n - 1 - length ts + e) (putted VarTy over (n - 1) (shift (n - 1) 0 t) (n - 1 + e) i)
        ≡ applied (t ∷ ts) (n - 1 - length ts + e) i
    here e i l (inl q) =
        let d = n - 1 - length ts + e in
        let far : n - 1 + e ≡ d + length ts = omega (arith, l) in
        let whole : n - 1 + (n - 1 + e - (n - 1)) ≡ d + length ts = omega (arith, l) in
        let low : d ≤ i = omega (arith, q, far) in
        let high : i < d + length (t ∷ ts) = omega (arith, q, far) in
        let first : length (t ∷ ts) - 1 - (i - d) ≡ 0 = omega (arith, q, far) in
        rw (putted_eq VarTy over (n - 1) (shift (n - 1) 0 t) (n - 1 + e) i q) (
        ap (over (applied ts) d) (types_shift (n - 1) (n - 1 + e - (n - 1)) t ∙ ap (λ m. shift m 0 t) whole)
        ∙ past ts d t
        ∙ sym (applied_in (t ∷ ts) d i low high ∙ ap (λ m. shift d 0 (get_or (t ∷ ts) m IntTy)) first)
        )
      where
        types_shift : (m k : ℕ) (u : Ty) → shift k 0 (shift m 0 u) ≡ shift (m + k) 0 u
        types_shift m k u = shift_add types_part types_over m k 0 u
    here e i l (inr (inl q)) =
        let d = n - 1 - length ts + e in
        rw (putted_lt VarTy over (n - 1) (shift (n - 1) 0 t) (n - 1 + e) i q) (by_depth (cases_lt i d))
      where
        by_depth : (i < n - 1 - length ts + e) ⊎ (n - 1 - length ts + e ≤ i) →
            applied ts (n - 1 - length ts + e) i ≡ applied (t ∷ ts) (n - 1 - length ts + e) i
        by_depth (inl a) =
            applied_lt ts (n - 1 - length ts + e) i a ∙ sym (applied_lt (t ∷ ts) (n - 1 - length ts + e) i a)
        by_depth (inr a) =
            let d = n - 1 - length ts + e in
            let within : i < d + length ts = omega (arith, q, l) in
            applied_in ts d i a within
            ∙ ap (shift d 0)
            (sym (get_later t ts (length ts - 1 - (i - d)) (length (t ∷ ts) - 1 - (i - d))
            (omega (arith, a, within))))
            ∙ sym (applied_in (t ∷ ts) d i a (omega (arith, within)))
    here e i l (inr (inr q)) =
        let d = n - 1 - length ts + e in
        rw (putted_gt VarTy over (n - 1) (shift (n - 1) 0 t) (n - 1 + e) i q) (
        applied_ge ts d (i - 1) (omega (arith, q, l))
        ∙ ap VarTy (omega (arith, q))
        ∙ sym (applied_ge (t ∷ ts) d i (omega (arith, q, l)))
        )
