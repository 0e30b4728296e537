-- A walk over a body, entry by entry.
use Rattle.std.proofs.Common.{◌≡◌, ℕ, ◌+◌, ◌<◌, ◌≤◌, List, [], ◌∷◌, ◌++◌, length, get_or, drop, refl, sym}
use Rattle.std.proofs.Common.{ap, ap₂, ◌∙◌, subst, arith, append_assoc, ◌↔◌}
use Rattle.std.proofs.lemmas.List.{drop_all}
use Rattle.idx_core.specs.Over.{At, BelowAt, AnyDepth}
use Rattle.idx_core.specs.declared.span.Span.{Span}
use Rattle.t_types.specs.Tree.{Ty}
use Rattle.t_terms.specs.declared.instr.Instr.{Instr}
use Rattle.t_terms.specs.Tree.{TInstr, Arith, Bnz, Ld, Malloc, Mov, St, Unpack, TEnd, names_after, over_instr}
use Rattle.t_terms.specs.Tree.{each_instr, each_end}
use Rattle.t_terms.specs.Read.{instr, body}
use Rattle.t_terms.specs.Spanned.{over_body, each_body, body_depth, BodyBelow}
use Rattle.idx_core.proofs.Lists.{next_item}

pub body_push : (ys : List (Instr × Span)) (y : Instr × Span) →
    body (ys ++ (y ∷ [])) ≡ body ys ++ ((instr y.0, y.1) ∷ [])
body_push [] y = refl
body_push (x ∷ ys) y = ap (λ (z : List (TInstr × Span)). (instr x.0, x.1) ∷ z) (body_push ys y)

module _ (f : At Ty) where
  -- what is made and what is to come
  abbrev pub Walk : ℕ → List (Instr × Span) → List (Instr × Span) → ℕ → ℕ → Type 0
  Walk start xs made i depth = over_body f start (body xs) ≡ body made ++ over_body f depth (body (drop i xs))

  pub walk_on : (start : ℕ) (xs made : List (Instr × Span)) (i depth : ℕ) (x y : Instr × Span) → x ≡ get_or xs i x →
      i < length xs → instr y.0 ≡ over_instr f depth (instr x.0) → y.1 ≡ x.1 →
      Walk start xs made i depth → Walk start xs (made ++ (y ∷ [])) (i + 1) (names_after (instr x.0) depth)
  walk_on start xs made i depth x y is lt e1 e2 h =
      h
      ∙ ap (λ (zs : List (Instr × Span)). body made ++ over_body f depth (body zs)) (next_item xs i x is lt)
      ∙ sym (append_assoc (body made) ((over_instr f depth (instr x.0), x.1) ∷ [])
      (over_body f (names_after (instr x.0) depth) (body (drop (i + 1) xs))))
      ∙ ap (λ (zs : List (TInstr × Span)). zs ++ over_body f (names_after (instr x.0) depth) (body (drop (i + 1) xs)))
      (ap₂ (λ (j : TInstr) (s : Span). body made ++ ((j, s) ∷ [])) (sym e1) (sym e2) ∙ sym (body_push made y))

  pub walk_done : (start : ℕ) (xs made : List (Instr × Span)) (i depth : ℕ) → length xs ≤ i →
      Walk start xs made i depth → body made ≡ over_body f start (body xs)
  walk_done start xs made i depth all h =
      sym (h ∙ ap (λ (zs : List (Instr × Span)). body made ++ over_body f depth (body zs)) (drop_all i xs all)
      ∙ nothing (body made))
    where
      nothing : (zs : List (TInstr × Span)) → zs ++ [] ≡ zs
      nothing [] = refl
      nothing (z ∷ zs) = ap (λ (ws : List (TInstr × Span)). z ∷ ws) (nothing zs)

-- the depth of what is to come
abbrev pub DepthAt : ℕ → List (Instr × Span) → ℕ → ℕ → Type 0
DepthAt start xs i depth = body_depth (body xs) start ≡ body_depth (body (drop i xs)) depth

pub depth_on : (start : ℕ) (xs : List (Instr × Span)) (i depth : ℕ) (x : Instr × Span) → x ≡ get_or xs i x →
    i < length xs → DepthAt start xs i depth → DepthAt start xs (i + 1) (names_after (instr x.0) depth)
depth_on start xs i depth x is lt h =
    h ∙ ap (λ (zs : List (Instr × Span)). body_depth (body zs) depth) (next_item xs i x is lt)

-- what each variable of the rest has
module _ (V : ℕ → ℕ → Type 0) (B : ℕ → Type 0) where
  abbrev pub RestHas : List (Instr × Span) → ℕ → ℕ → Type 0
  RestHas xs i depth = each_body V B depth (body (drop i xs))

  abbrev pub HereAndRest : List (Instr × Span) → ℕ → ℕ → Instr × Span → Type 0
  HereAndRest xs i depth x = each_instr V B depth (instr x.0) × B (names_after (instr x.0) depth)
      × RestHas xs (i + 1) (names_after (instr x.0) depth)

  pub here_and_rest : (xs : List (Instr × Span)) (i depth : ℕ) (x : Instr × Span) → x ≡ get_or xs i x → i < length xs →
      RestHas xs i depth → HereAndRest xs i depth x
  here_and_rest xs i depth x is lt h =
      subst (λ (zs : List (Instr × Span)). each_body V B depth (body zs)) (next_item xs i x is lt) h

pub names_grow : (i : TInstr) (d : ℕ) → d ≤ names_after i d
names_grow (Arith op rd rs v) d = omega arith
names_grow (Bnz r v) d = omega arith
names_grow (Ld rd rs j) d = omega arith
names_grow (Malloc rd ts) d = omega arith
names_grow (Mov rd v) d = omega arith
names_grow (St rd j rs) d = omega arith
names_grow (Unpack rd v) d = omega arith

-- The body and its end keep below n exactly where the rest keeps below the depth that was come to.
abbrev pub BelowFrom : ℕ → List (Instr × Span) → TEnd → ℕ → ℕ → Type 0
BelowFrom n xs e i depth = BodyBelow n (body xs) e ↔ BodyBelow depth (body (drop i xs)) e

pub below_on : (n : ℕ) (xs : List (Instr × Span)) (e : TEnd) (i depth : ℕ) (x : Instr × Span) → x ≡ get_or xs i x →
    i < length xs → each_instr BelowAt AnyDepth depth (instr x.0) →
    BelowFrom n xs e i depth → BelowFrom n xs e (i + 1) (names_after (instr x.0) depth)
below_on n xs e i depth x is lt here h =
    let same = next_item xs i x is lt in
    let from : BodyBelow depth (body (drop i xs)) e →
    BodyBelow (names_after (instr x.0) depth) (body (drop (i + 1) xs)) e =
    λ k. let now = subst (λ (zs : List (Instr × Span)). BodyBelow depth (body zs) e) same k in (now.0.2, now.1) in
    let to : BodyBelow (names_after (instr x.0) depth) (body (drop (i + 1) xs)) e →
    BodyBelow depth (body (drop i xs)) e =
    λ k. subst (λ (zs : List (Instr × Span)). BodyBelow depth (body zs) e) (sym same) ((here, tt, k.0), k.1) in
    ((λ k. from (h.0 k)), (λ k. h.1 (to k)))

pub below_here : (n : ℕ) (xs : List (Instr × Span)) (e : TEnd) (i depth : ℕ) (x : Instr × Span) → x ≡ get_or xs i x →
    i < length xs → BelowFrom n xs e i depth → BodyBelow n (body xs) e → each_instr BelowAt AnyDepth depth (instr x.0)
below_here n xs e i depth x is lt h k =
    (subst (λ (zs : List (Instr × Span)). BodyBelow depth (body zs) e) (next_item xs i x is lt) (h.0 k)).0.0

pub below_done : (n : ℕ) (xs : List (Instr × Span)) (e : TEnd) (i depth : ℕ) → length xs ≤ i →
    BelowFrom n xs e i depth → BodyBelow n (body xs) e ↔ each_end BelowAt AnyDepth depth e
below_done n xs e i depth all h =
    let same = drop_all i xs all in (
      (λ k. (subst (λ (zs : List (Instr × Span)). BodyBelow depth (body zs) e) same (h.0 k)).1),
      (λ k. h.1 (subst (λ (zs : List (Instr × Span)). BodyBelow depth (body zs) e) (sym same) (tt, k))),
    )
