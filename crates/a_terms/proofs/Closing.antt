-- Closed types put for the variables of a type.
use Rattle.std.proofs.Common.{◌≡◌, ℕ, zero, suc, ◌+◌, ◌-◌, ◌≤◌, Some, None, refl, sym, ap, ◌∙◌, arith}
use Rattle.std.specs.Prelude.{Bool}
use Rattle.idx_core.specs.Over.{putted, IsOver}
use Rattle.idx_core.specs.Laws as law
use Rattle.idx_core.specs.Steps.{put_step}
use Rattle.a_terms.specs.Tree.{ATy, AInt, AVar, ATuple, ACode, AExists, ATys, NoATys, MoreATys, AFields, NoAFields}
use Rattle.a_terms.specs.Tree.{MoreAFields, arity, over, over_types, ashift, aput, aput_types, aput_fields, ABelow}
use Rattle.a_terms.specs.Tree.{ABelow-types}
use Rattle.a_terms.specs.TreeLaws.{a_part, a_over, a_types_over}
use Rattle.a_terms.specs.Typing.{aapply}
use Rattle.a_terms.specs.TypeLaws.{below_more, below_more_types, closed_shift, put_none, put_none_types}

-- a put undoes a shift
pub undo : (t : ATy) (c : ℕ) (s : ATy) → aput c s (ashift 1 c t) ≡ t
undo t c s = law.put_shift_law a_part a_over c s t

module _ (T : ATy) (closed : ABelow 0 T) where
  -- a put of a closed type, seen below binders
  deeper : {X : Type 0} {over_tree : _} → IsOver ATy X AVar over over_tree → (c d : ℕ) (t : X) → c ≤ d →
      over_tree (putted AVar over c T) d t ≡ over_tree (putted AVar over d T) d t
  deeper {over_tree = o} is c d t le = put_step a_part is c d d T t le (omega arith)
      ∙ ap (λ u. o (putted AVar over d u) d t) (closed_shift T (d - c) 0 closed)

  pub under_types : (c d : ℕ) (ts : ATys) → c ≤ d → over_types (putted AVar over c T) d ts ≡ aput_types d T ts
  under_types c d ts le = deeper a_types_over c d ts le

  pub under_type : (c d : ℕ) (t : ATy) → c ≤ d → over (putted AVar over c T) d t ≡ aput d T t
  under_type c d t le = deeper a_over c d t le

  -- a put of a closed type past a shift
  pub past : (t : ATy) (n j m : ℕ) → m ≡ j + n → aput m T (ashift n 0 t) ≡ ashift n 0 (aput j T t)
  past t n j m e =
      ap (λ q. aput q T (ashift n 0 t)) e ∙ sym (under_type j (j + n) (ashift n 0 t) (omega arith))
      ∙ law.put_past a_part n j T t

  -- two puts
  pub twice : (t : ATy) (i j m : ℕ) (u : ATy) → m ≡ suc j → i ≤ j →
      aput j T (aput i u t) ≡ aput i (aput j T u) (aput m T t)
  twice t i j m u e l =
      let n : suc j ≡ j + 1 = omega arith in
      law.put_put a_part a_over i j u T t l
      ∙ ap (λ v. aput i (aput j T u) (aput (j + 1) v t)) (closed_shift T 1 i closed)
      ∙ ap (λ q. aput i (aput j T u) (aput q T t)) (sym (e ∙ n))

  pub twice_types : (ts : ATys) (i j m : ℕ) (u : ATy) → m ≡ suc j → i ≤ j →
      aput_types j T (aput_types i u ts) ≡ aput_types i (aput j T u) (aput_types m T ts)
  twice_types ts i j m u e l =
      let n : suc j ≡ j + 1 = omega arith in
      law.put_put a_part a_types_over i j u T ts l
      ∙ ap (λ v. aput_types i (aput j T u) (aput_types (j + 1) v ts)) (closed_shift T 1 i closed)
      ∙ ap (λ q. aput_types i (aput j T u) (aput_types q T ts)) (sym (e ∙ n))

-- the index of the first of them, under d binders
abbrev pub top : ℕ → ATys → ℕ
top d NoATys = d
top d (MoreATys T ts) = suc (top d ts)

abbrev pub close : ℕ → ATys → ATy → ATy
close d NoATys t = t
close d (MoreATys T ts) t = close d ts (aput (top d ts) T t)

abbrev pub close_types : ℕ → ATys → ATys → ATys
close_types d NoATys t = t
close_types d (MoreATys T ts) t = close_types d ts (aput_types (top d ts) T t)

abbrev pub close_fields : ℕ → ATys → AFields → AFields
close_fields d NoATys t = t
close_fields d (MoreATys T ts) t = close_fields d ts (aput_fields (top d ts) T t)

abbrev pub snoc : ATys → ATy → ATys
snoc NoATys h = MoreATys h NoATys
snoc (MoreATys T ts) h = MoreATys T (snoc ts h)

abbrev pub both : ATys → ATys → ATys
both NoATys us = us
both (MoreATys T ts) us = MoreATys T (both ts us)

pub top_add : (d n : ℕ) (ts : ATys) → top (d + n) ts ≡ top d ts + n
top_add d n NoATys = refl
top_add d n (MoreATys T ts) = ap suc (top_add d n ts) ∙ omega arith

pub top_least : (d : ℕ) (ts : ATys) → d ≤ top d ts
top_least d NoATys = omega arith
top_least d (MoreATys T ts) = omega (arith, top_least d ts)

top_one : (ts : ATys) → top 1 ts ≡ suc (top 0 ts)
top_one NoATys = refl
top_one (MoreATys T ts) = ap suc (top_one ts)

pub top_suc : (d : ℕ) (ts : ATys) → top (suc d) ts ≡ suc (top d ts)
top_suc d NoATys = refl
top_suc d (MoreATys T ts) = ap suc (top_suc d ts)

pub top_arity : (ts : ATys) → top 0 ts ≡ arity ts
top_arity NoATys = refl
top_arity (MoreATys T ts) = ap suc (top_arity ts)

pub close_int : (d : ℕ) (ts : ATys) → close d ts AInt ≡ AInt
close_int d NoATys = refl
close_int d (MoreATys T ts) = close_int d ts

pub close_tuple : (d : ℕ) (ts : ATys) (fs : AFields) → close d ts (ATuple fs) ≡ ATuple (close_fields d ts fs)
close_tuple d NoATys fs = refl
close_tuple d (MoreATys T ts) fs = close_tuple d ts (aput_fields (top d ts) T fs)

pub close_code : (d n : ℕ) (ts us : ATys) → ABelow-types 0 ts →
    close d ts (ACode n us) ≡ ACode n (close_types (d + n) ts us)
close_code d n NoATys us b = refl
close_code d n (MoreATys T ts) us b =
    ap (λ v. close d ts (ACode n v)) (under_types T b.0 (top d ts) (top d ts + n) us (omega arith))
    ∙ close_code d n ts (aput_types (top d ts + n) T us) b.1
    ∙ ap (λ k. ACode n (close_types (d + n) ts (aput_types k T us))) (sym (top_add d n ts))

pub close_exists : (d : ℕ) (ts : ATys) (t : ATy) → ABelow-types 0 ts →
    close d ts (AExists t) ≡ AExists (close (d + 1) ts t)
close_exists d NoATys t b = refl
close_exists d (MoreATys T ts) t b =
    ap (λ v. close d ts (AExists v)) (under_type T b.0 (top d ts) (top d ts + 1) t (omega arith))
    ∙ close_exists d ts (aput (top d ts + 1) T t) b.1
    ∙ ap (λ k. AExists (close (d + 1) ts (aput k T t))) (sym (top_add d 1 ts))

pub close_none : (d : ℕ) (ts : ATys) (t : ATy) → ABelow d t → close d ts t ≡ t
close_none d NoATys t b = refl
close_none d (MoreATys T ts) t b =
    ap (close d ts) (put_none t (top d ts) T (below_more t d (top d ts) (top_least d ts) b)) ∙ close_none d ts t b

pub close_none_types : (d : ℕ) (ts us : ATys) → ABelow-types d us → close_types d ts us ≡ us
close_none_types d NoATys us b = refl
close_none_types d (MoreATys T ts) us b =
    ap (close_types d ts) (put_none_types us (top d ts) T (below_more_types us d (top d ts) (top_least d ts) b))
    ∙ close_none_types d ts us b

pub close_more : (d : ℕ) (ts : ATys) (t : ATy) (us : ATys) →
    close_types d ts (MoreATys t us) ≡ MoreATys (close d ts t) (close_types d ts us)
close_more d NoATys t us = refl
close_more d (MoreATys T ts) t us = close_more d ts (aput (top d ts) T t) (aput_types (top d ts) T us)

pub close_field : (d : ℕ) (ts : ATys) (t : ATy) (f : Bool) (fs : AFields) →
    close_fields d ts (MoreAFields t f fs) ≡ MoreAFields (close d ts t) f (close_fields d ts fs)
close_field d NoATys t f fs = refl
close_field d (MoreATys T ts) t f fs = close_field d ts (aput (top d ts) T t) f (aput_fields (top d ts) T fs)

pub close_nil : (d : ℕ) (ts : ATys) → close_types d ts NoATys ≡ NoATys
close_nil d NoATys = refl
close_nil d (MoreATys T ts) = close_nil d ts

pub close_end : (d : ℕ) (ts : ATys) → close_fields d ts NoAFields ≡ NoAFields
close_end d NoATys = refl
close_end d (MoreATys T ts) = close_end d ts

-- a packed type
pub close_put : (ts : ATys) (h u : ATy) → ABelow-types 0 ts →
    close 0 ts (aput 0 h u) ≡ aput 0 (close 0 ts h) (close 1 ts u)
close_put NoATys h u b = refl
close_put (MoreATys T ts) h u b =
    ap (close 0 ts) (twice T b.0 u 0 (top 0 ts) (top 1 ts) h (top_one ts) (omega arith))
    ∙ close_put ts (aput (top 0 ts) T h) (aput (top 1 ts) T u) b.1

-- an applied type
pub close_applied : (n : ℕ) (ts : ATys) (t : ATy) (us : ATys) → ABelow-types 0 ts →
    close_types n ts (aput_types n (ashift n 0 t) us)
    ≡ aput_types n (ashift n 0 (close 0 ts t)) (close_types (suc n) ts us)
close_applied n NoATys t us b = refl
close_applied n (MoreATys T ts) t us b =
    let z : 0 + n ≡ n = omega arith in
    let k : top n ts ≡ top 0 ts + n = ap (λ i. top i ts) (sym z) ∙ top_add 0 n ts in
    ap (close_types n ts)
    (twice_types T b.0 us n (top n ts) (top (suc n) ts) (ashift n 0 t) (top_suc n ts) (top_least n ts)
    ∙ ap (λ v. aput_types n v (aput_types (top (suc n) ts) T us)) (past T b.0 t n (top 0 ts) (top n ts) k))
    ∙ close_applied n ts (aput (top 0 ts) T t) (aput_types (top (suc n) ts) T us) b.1

pub top_snoc : (d : ℕ) (ts : ATys) (h : ATy) → top d (snoc ts h) ≡ suc (top d ts)
top_snoc d NoATys h = refl
top_snoc d (MoreATys T ts) h = ap suc (top_snoc d ts h)

-- one more variable
pub close_snoc : (ts : ATys) (h u : ATy) → close 0 (snoc ts h) u ≡ aput 0 h (close 1 ts u)
close_snoc NoATys h u = refl
close_snoc (MoreATys T ts) h u =
    ap (λ k. close 0 (snoc ts h) (aput k T u)) (top_snoc 0 ts h ∙ sym (top_one ts))
    ∙ close_snoc ts h (aput (top 1 ts) T u)

close_past : (ts : ATys) (t : ATy) → ABelow-types 0 ts → close 1 ts (ashift 1 0 t) ≡ ashift 1 0 (close 0 ts t)
close_past NoATys t b = refl
close_past (MoreATys T ts) t b =
    ap (close 1 ts) (past T b.0 t 1 (top 0 ts) (top 1 ts) (top_one ts ∙ omega arith))
    ∙ close_past ts (aput (top 0 ts) T t) b.1

pub close_older : (ts : ATys) (h t : ATy) → ABelow-types 0 ts → close 0 (snoc ts h) (ashift 1 0 t) ≡ close 0 ts t
close_older ts h t b = close_snoc ts h (ashift 1 0 t) ∙ ap (aput 0 h) (close_past ts t b) ∙ undo (close 0 ts t) 0 h

pub closed_snoc : (ts : ATys) (h : ATy) → ABelow-types 0 ts → ABelow 0 h → ABelow-types 0 (snoc ts h)
closed_snoc NoATys h b c = (c, tt)
closed_snoc (MoreATys T ts) h b c = (b.0, closed_snoc ts h b.1 c)

pub closed_both : (ts us : ATys) → ABelow-types 0 ts → ABelow-types 0 us → ABelow-types 0 (both ts us)
closed_both NoATys us b c = c
closed_both (MoreATys T ts) us b c = (b.0, closed_both ts us b.1 c)

-- code applied to closed types
pub apply_both : (ts us : ATys) (s t : ATy) → aapply s ts ≡ Some t → aapply s (both ts us) ≡ aapply t us
apply_both NoATys us s t e = let x : s ≡ t = cc in ap (λ v. aapply v us) x
apply_both (MoreATys T ts) us AInt t e = cc
apply_both (MoreATys T ts) us (AVar n) t e = cc
apply_both (MoreATys T ts) us (ATuple fs) t e = cc
apply_both (MoreATys T ts) us (ACode zero vs) t e = cc
apply_both (MoreATys T ts) us (ACode (suc n) vs) t e = apply_both ts us (ACode n (aput_types n (ashift n 0 T) vs)) t e
apply_both (MoreATys T ts) us (AExists v) t e = cc

pub apply_all : (ts : ATys) (n : ℕ) (us vs : ATys) → ABelow-types 0 ts → aapply (ACode n us) ts ≡ Some (ACode 0 vs) →
    (n ≡ arity ts) × (close_types 0 ts us ≡ vs)
apply_all NoATys n us vs b e = let x : n ≡ 0 = cc in let y : us ≡ vs = cc in (x, y)
apply_all (MoreATys T ts) zero us vs b e = absurd (impossible e)
  where
    impossible : None ≡ Some (ACode 0 vs) → ⊥
    impossible x = cc
apply_all (MoreATys T ts) (suc n) us vs b e =
    let r = apply_all ts n (aput_types n (ashift n 0 T) us) vs b.1 e in
    let k : top 0 ts ≡ n = top_arity ts ∙ sym r.0 in (
      ap suc r.0,
      ap (λ i. close_types 0 ts (aput_types i T us)) k
          ∙ ap (λ v. close_types 0 ts (aput_types n v us)) (sym (closed_shift T n 0 b.0)) ∙ r.1,
    )
