-- The counts before a put are those of the type after it.
use Rattle.std.proofs.Common.{zero, suc, List, [], ◌∷◌, ◌++◌, map, take, length, get_or, sum_by, ◌≡◌, ℕ, ◌+◌, ◌-◌, ◌<◌}
use Rattle.std.proofs.Common.{◌≤◌, ◌⊎◌, inl, inr, if◌then◌else◌, ◌==◌, Bool, true, false, refl, ap, sym, ◌∙◌, arith}
use Rattle.std.proofs.Common.{max, min, eq-eqb}
use Rattle.std.proofs.lemmas.List.{map_more}
use Rattle.std.proofs.lemmas.List.Sums.{sum_by-cons}
use Rattle.std.proofs.lemmas.Bool.{cases_order, ne_eqb}
use Rattle.idx_core.specs.Over.{putted}
use Rattle.idx_core.specs.Laws as laws
use Rattle.f_terms.specs.Ty.{Ty, TInt, TVar, TArrow, TAll, TTuple, TSome, TRef, Tys, NoTys, MoreTys, tys, over}
use Rattle.f_terms.specs.Ty.{over_all, put, size, sizes, depth, depths}
use Rattle.f_terms.specs.Noted.{outside}
use Rattle.f_terms.specs.Read.{tree}
use Rattle.f_terms.specs.declared.types.FType.{FType}
use Rattle.f_terms.proofs.Limited.{same}
use Rattle.f_check.specs.Counts.{put_size, put_sizes, put_depth, put_depths}

module _ (s : Ty) where
  mutual
    pub put_counts : (d : ℕ) (t : Ty) → (size (over (putted TVar over 0 s) d t) ≡ put_size (size s) d t)
        × (depth (over (putted TVar over 0 s) d t) ≡ put_depth (depth s) d t)
    put_counts d TInt = (refl, refl)
    put_counts d (TVar i) = at_var (cases_order i d)
      where
        at_var : (i ≡ d) ⊎ ((i < d) ⊎ (d < i)) → (size (putted TVar over 0 s d i) ≡ put_size (size s) d (TVar i))
            × (depth (putted TVar over 0 s d i) ≡ put_depth (depth s) d (TVar i))
        at_var (inl h) =
            let e = laws.putted_eq TVar over 0 s d i h in
            let x = same (d - 0) 0 s in (
              ap size e ∙ x.0 ∙ sym (ap (λ (b : Bool). if b then size s else 1) (eq-eqb i d h)),
              ap depth e ∙ x.1
                  ∙ sym (ap (λ (b : Bool). if b then depth s else 1) (eq-eqb i d h)),
            )
        at_var (inr (inl h)) =
            let e = laws.putted_lt TVar over 0 s d i h in
            let f = ne_eqb i d (λ z. omega (arith, z, h)) in (
              ap size e ∙ sym (ap (λ (b : Bool). if b then size s else 1) f),
              ap depth e
                  ∙ sym (ap (λ (b : Bool). if b then depth s else 1) f),
            )
        at_var (inr (inr h)) =
            let e = laws.putted_gt TVar over 0 s d i h in
            let f = ne_eqb i d (λ z. omega (arith, z, h)) in (
              ap size e ∙ sym (ap (λ (b : Bool). if b then size s else 1) f),
              ap depth e
                  ∙ sym (ap (λ (b : Bool). if b then depth s else 1) f),
            )
    put_counts d (TArrow a b) =
        let x = put_counts d a in let y = put_counts d b in (omega (arith, x.0, y.0), omega (arith, x.1, y.1))
    put_counts d (TAll t) = let x = put_counts (d + 1) t in (omega (arith, x.0), omega (arith, x.1))
    put_counts d (TTuple ts) = let x = all_counts d ts in (omega (arith, x.0), omega (arith, x.1))
    put_counts d (TSome t) = let x = put_counts (d + 1) t in (omega (arith, x.0), omega (arith, x.1))
    put_counts d (TRef t) = let x = put_counts d t in (omega (arith, x.0), omega (arith, x.1))

    all_counts : (d : ℕ) (ts : Tys) → (sizes (over_all (putted TVar over 0 s) d ts) ≡ put_sizes (size s) d ts)
        × (depths (over_all (putted TVar over 0 s) d ts) ≡ put_depths (depth s) d ts)
    all_counts d NoTys = (refl, refl)
    all_counts d (MoreTys t ts) =
        let x = put_counts d t in let y = all_counts d ts in (omega (arith, x.0, y.0), omega (arith, x.1, y.1))

-- the counts of a put of a type that keeps the limits
pub depth_made : (s t : Ty) (d r : ℕ) → d ≡ min (depth s) 18446744073709551615 → d ≤ 200 →
    r ≡ min (put_depth d 0 t) 18446744073709551615 → r ≡ min (depth (put 0 s t)) 18446744073709551615
depth_made s t d r ed le er =
    let e : d ≡ depth s = omega arith in
    omega (arith, er, (put_counts s 0 t).1, ap (λ w. put_depth w 0 t) e)

pub size_made : (s t : Ty) (w r : ℕ) → w ≡ min (size s) 18446744073709551615 → w ≤ 10000 →
    r ≡ min (put_size w 0 t) 18446744073709551615 → r ≡ min (size (put 0 s t)) 18446744073709551615
size_made s t w r ew le er =
    let e : w ≡ size s = omega arith in
    omega (arith, er, (put_counts s 0 t).0, ap (λ v. put_size v 0 t) e)

-- a type outside of a name is as deep
one_leaf : (b : Bool) → ◌≡◌ {A = ℕ} (if b then 1 else 1) 1
one_leaf true = refl
one_leaf false = refl

mutual
  same_depth : (d : ℕ) (t : Ty) → put_depth 1 d t ≡ depth t
  same_depth d TInt = refl
  same_depth d (TVar i) = one_leaf (i == d)
  same_depth d (TArrow a b) = omega (arith, same_depth d a, same_depth d b)
  same_depth d (TAll t) = omega (arith, same_depth (d + 1) t)
  same_depth d (TTuple ts) = omega (arith, same_depths d ts)
  same_depth d (TSome t) = omega (arith, same_depth (d + 1) t)
  same_depth d (TRef t) = omega (arith, same_depth d t)

  same_depths : (d : ℕ) (ts : Tys) → put_depths 1 d ts ≡ depths ts
  same_depths d NoTys = refl
  same_depths d (MoreTys t ts) = omega (arith, same_depth d t, same_depths d ts)

pub outside_depth : (t : Ty) → depth t ≤ 200 → depth (outside t) ≤ 200
outside_depth t le = omega (arith, (put_counts TInt 0 t).1, same_depth 0 t, le)

-- the parts of a tuple
pub part_depth : (xs : List FType) (i : ℕ) (x : FType) → x ≡ get_or xs i x → i < length xs →
    depth (tree x) ≤ depths (tys (map tree xs))
part_depth [] i x is lt = absurd (omega (arith, lt))
part_depth (y ∷ xs) zero x is lt = omega (arith, ap (λ z. depth (tree z)) is)
part_depth (y ∷ xs) (suc i) x is lt = let r = part_depth xs i x is (omega (arith, lt)) in omega (arith, r)

pub put_sizes_tys : (w d : ℕ) (ts : List FType) →
    put_sizes w d (tys (map tree ts)) ≡ sum_by (λ t. put_size w d (tree t)) ts
put_sizes_tys w d [] = refl
put_sizes_tys w d (t ∷ ts) =
    ap (λ n. put_size w d (tree t) + n) (put_sizes_tys w d ts) ∙ sym (sum_by-cons (λ t. put_size w d (tree t)) t ts)

pub put_depths_more : (w d : ℕ) (ts : List FType) (i : ℕ) (t : FType) → t ≡ get_or ts i t → i < length ts →
    put_depths w d (tys (map tree (take (i + 1) ts))) ≡ max (put_depths w d (tys (map tree (take i ts))))
    (put_depth w d (tree t))
put_depths_more w d ts i t is lt =
    ap (λ (us : List Ty). put_depths w d (tys us))
    (map_more tree ts i t lt ∙ ap (λ (u : FType). map tree (take i ts) ++ tree u ∷ []) (sym is))
    ∙ push (map tree (take i ts)) (tree t)
  where
    push : (us : List Ty) (u : Ty) →
        put_depths w d (tys (us ++ u ∷ [])) ≡ max (put_depths w d (tys us)) (put_depth w d u)
    push [] u = omega arith
    push (x ∷ us) u = omega (arith, push us u)
