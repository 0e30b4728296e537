-- How deep the conversions of types nest.
use Rattle.std.proofs.Common.{◌≡◌, ◌≤◌, ℕ, zero, suc, ◌+◌, ◌*◌, arith, refl}
use Rattle.f_terms.specs.Ty.{Ty, TInt, TVar, TArrow, TAll, TTuple, TSome, TRef, Tys, NoTys, MoreTys, depth, depths}
use Rattle.f_terms.specs.Tm.{Term, MVar, MNum, MFix, MApp, MGen, MInst, MTuple, MProj, MArith, MIf0, MLet, MPack}
use Rattle.f_terms.specs.Tm.{MOpen, MRef, MDeref, MAssign, Terms, NoTerms, MoreTerms}
use Rattle.f_terms.specs.Limits.{Shallow, Within, nodes}
use Rattle.f_terms.specs.Typing.{raised, in_fix, in_open}
use Rattle.f_terms.specs.Accepted.{KeepsLimits}
use Rattle.calc_core.specs.Ends.{under}
use Rattle.k_terms.specs.Reach.{kreach, kreaches, kbinds, kbinds_all, KWithin}
use Rattle.k_laws.specs.Cps.{kty, all_kty, taking}
use Rattle.f_terms.specs.Keeps.{Keeps, AllKeep}
use Rattle.k_laws.specs.Correct.{KeepsReach}
use Rattle.k_laws.proofs.Typed.{each_type}

mutual
  reach_kty : (t : Ty) (r : ℕ → ℕ) → kreach (kty r t) + 7 ≤ 8 * depth t
  reach_kty TInt r = omega arith
  reach_kty (TVar a) r = omega arith
  reach_kty (TArrow a b) r = let x = reach_kty a r in let y = reach_kty b r in omega (arith, x, y)
  reach_kty (TAll t) r = let x = reach_kty t (under 1 r) in omega (arith, x)
  reach_kty (TTuple ts) r = let x = reach_ktys ts r in omega (arith, x)
  reach_kty (TSome t) r = let x = reach_kty t (under 1 r) in omega (arith, x)
  reach_kty (TRef t) r = let x = reach_kty t r in omega (arith, x)

  reach_ktys : (ts : Tys) (r : ℕ → ℕ) → kreaches (all_kty r ts) ≤ 8 * depths ts
  reach_ktys NoTys r = omega arith
  reach_ktys (MoreTys t ts) r = let x = reach_kty t r in let y = reach_ktys ts r in omega (arith, x, y)

mutual
  binds_kty : (t : Ty) (r : ℕ → ℕ) → kbinds (kty r t) + 3 ≤ 3 * depth t
  binds_kty TInt r = omega arith
  binds_kty (TVar a) r = omega arith
  binds_kty (TArrow a b) r = let x = binds_kty a r in let y = binds_kty b r in omega (arith, x, y)
  binds_kty (TAll t) r = let x = binds_kty t (under 1 r) in omega (arith, x)
  binds_kty (TTuple ts) r = let x = binds_ktys ts r in omega (arith, x)
  binds_kty (TSome t) r = let x = binds_kty t (under 1 r) in omega (arith, x)
  binds_kty (TRef t) r = let x = binds_kty t r in omega (arith, x)

  binds_ktys : (ts : Tys) (r : ℕ → ℕ) → kbinds_all (all_kty r ts) ≤ 3 * depths ts
  binds_ktys NoTys r = omega arith
  binds_ktys (MoreTys t ts) r = let x = binds_kty t r in let y = binds_ktys ts r in omega (arith, x, y)

within_kty : (L n : ℕ) (r : ℕ → ℕ) (t : Ty) → n ≤ L → Shallow t → KWithin L 1600 598 n (kty r t)
within_kty L n r t le h =
    let x = reach_kty t r in let y = binds_kty t r in (le, omega (arith, x, h), omega (arith, y, h))

within_taking : (L n : ℕ) (r : ℕ → ℕ) (t : Ty) → n ≤ L → Shallow t → KWithin L 1600 598 n (taking (kty r t))
within_taking L n r t le h =
    let x = reach_kty t r in let y = binds_kty t r in (le, omega (arith, x, h), omega (arith, y, h))

-- the limits bound the depth of the type of each subexpression
mutual
  shallow_all : (e : Term) (n : ℕ) (g : Tys) → KeepsLimits e n g → Keeps Shallow e n g
  shallow_all (MVar i) n g h = λ t k. (h t k).0
  shallow_all (MNum i) n g h = λ t k. (h t k).0
  shallow_all (MFix arg res e) n g h = ((λ t k. (h.0 t k).0), shallow_all e n (in_fix arg res g) h.1)
  shallow_all (MApp f x) n g h = ((λ t k. (h.0 t k).0), shallow_all f n g h.1, shallow_all x n g h.2)
  shallow_all (MGen e) n g h = ((λ t k. (h.0 t k).0), shallow_all e (n + 1) (raised g) h.1)
  shallow_all (MInst e t) n g h = ((λ t k. (h.0 t k).0), shallow_all e n g h.1, h.2.0)
  shallow_all (MTuple es) n g h = ((λ t k. (h.0 t k).0), all_shallow es n g h.1)
  shallow_all (MProj i e) n g h = ((λ t k. (h.0 t k).0), shallow_all e n g h.1)
  shallow_all (MArith op x y) n g h = ((λ t k. (h.0 t k).0), shallow_all x n g h.1, shallow_all y n g h.2)
  shallow_all (MIf0 x y z) n g h =
      ((λ t k. (h.0 t k).0), shallow_all x n g h.1, shallow_all y n g h.2, shallow_all z n g h.3)
  shallow_all (MLet x y) n g h =
      ((λ t k. (h.0 t k).0), shallow_all x n g h.1, (λ s k. shallow_all y n (MoreTys s g) (h.2 s k)))
  shallow_all (MPack hid e s) n g h = ((λ t k. (h.0 t k).0), shallow_all e n g h.1, h.2.0)
  shallow_all (MOpen x y) n g h =
      ((λ t k. (h.0 t k).0), shallow_all x n g h.1, (λ u k. shallow_all y (n + 1) (in_open u g) (h.2 u k)))
  shallow_all (MRef e) n g h = ((λ t k. (h.0 t k).0), shallow_all e n g h.1)
  shallow_all (MDeref e) n g h = ((λ t k. (h.0 t k).0), shallow_all e n g h.1)
  shallow_all (MAssign x y) n g h = ((λ t k. (h.0 t k).0), shallow_all x n g h.1, shallow_all y n g h.2)

  all_shallow : (es : Terms) (n : ℕ) (g : Tys) → AllKeep Within es n g → AllKeep Shallow es n g
  all_shallow NoTerms n g h = tt
  all_shallow (MoreTerms e es) n g h = (shallow_all e n g h.0, all_shallow es n g h.1)

pub reach_kept : KeepsReach
reach_kept e m acc h =
    each_type Shallow (nodes e) (KWithin (nodes e) 1600 598) (within_kty (nodes e)) (within_taking (nodes e))
    (λ t h. omega (arith, h)) e m h (omega arith) (shallow_all e 0 NoTys acc.1) (omega arith)

-- the deepest types: a leaf `<>` under so many arrows
abbrev arrows : ℕ → Ty
arrows zero = TTuple NoTys
arrows (suc d) = TArrow TInt (arrows d)

deepest : kreach (taking (kty (λ i. i) (arrows 199))) ≡ 1597
deepest = refl
