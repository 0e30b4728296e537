-- How large a conversion is.
use Rattle.std.proofs.Common.{◌≡◌, ◌≤◌, ◌-◌, ◌*◌, ℕ, suc, ◌+◌, false, List, [], ◌∷◌, ◌++◌, refl, ap, arith}
use Rattle.f_terms.specs.Ty.{NoTys}
use Rattle.f_terms.specs.Tm.{Term}
use Rattle.k_terms.specs.K.{KTy, KVal, KDecl, KProj, KArith, KUnpack, KCell, KGet, KSet, KTm, KLet, KCall, KIf, NoKTys}
use Rattle.k_terms.specs.K.{NoKVals, MoreKVals}
use Rattle.k_terms.specs.Size.{ksize_v, ksize_vs, ksize_d, ksize_t}
use Rattle.f_terms.specs.Noted.{Noted, EVar, ENum, EFix, EApp, EGen, EInst, ETuple, EProj, EArith, EIf, ELet, EPack}
use Rattle.f_terms.specs.Noted.{EOpen, ERef, EDeref, EAssign, Noteds, NoNoteds, MoreNoteds, bare, bare_all}
use Rattle.k_laws.specs.Cps.{Atom, Level, Literal, Rest, Bind, Pass, value, values, deliver, as_value, bound_once}
use Rattle.k_laws.specs.Cps.{atom_at, kat, packing, to_call, to_inst, to_one, to_two, to_tuple, cps, cps_all, halting}
use Rattle.k_laws.specs.Annotate.{annotate, cps_term}
use Rattle.f_terms.specs.Limits.{nodes, nodes_all}
use Rattle.k_laws.proofs.Types.{same}

one_v : (a : Atom) (d : ℕ) → ksize_v (value a d) ≡ 1
one_v (Level l) d = refl
one_v (Literal n) d = refl

abbrev many : List Atom → ℕ
many [] = 0
many (a ∷ xs) = suc (many xs)

many_vs : (xs : List Atom) (d : ℕ) → ksize_vs (values xs d) ≡ many xs
many_vs [] d = refl
many_vs (a ∷ xs) d = omega (arith, one_v a d, many_vs xs d)

many_more : (xs : List Atom) (a : Atom) → many (xs ++ a ∷ []) ≡ suc (many xs)
many_more [] a = refl
many_more (b ∷ xs) a = ap suc (many_more xs a)

-- a rest has the size n at most, and leaves 1 over; a name leaves nothing over
abbrev Sized : Rest → ℕ → ℕ → Type 0
Sized (Bind form) u n = (u ≡ 1) × ((td d : ℕ) (a : Atom) → ksize_t (form td d a) ≤ n)
Sized (Pass l) u n = (u ≡ 0) × (n ≡ 0)

small : (k : Rest) (u n : ℕ) → Sized k u n → u ≤ 1
small (Bind form) u n h = omega (arith, h.0)
small (Pass l) u n h = omega (arith, h.0)

given : (k : Rest) (u n td d : ℕ) (a : Atom) → Sized k u n → ksize_t (deliver k td d a) + u ≤ n + 3
given (Bind form) u n td d a h = let x = h.1 td d a in omega (arith, x, h.0)
given (Pass l) u n td d a h = omega (arith, one_v a d, h.0, h.1)

handed : (k : Rest) (u n td d : ℕ) (t : KTy) → Sized k u n → ksize_v (as_value t k td d) + u ≤ n + 3
handed (Bind form) u n td d t h = let x = h.1 td (suc (suc d)) (Level (suc d)) in omega (arith, x, h.0)
handed (Pass l) u n td d t h = omega (arith, h.0, h.1)

bound : (k : Rest) (u n td d : ℕ) (t : KTy) (body : ℕ → ℕ → KTm) (m : ℕ) → Sized k u n →
    ((d l : ℕ) → ksize_t (body d l) ≤ m) → ksize_t (bound_once t k td d body) + u ≤ n + 4 + m
bound (Bind form) u n td d t body m h all =
    let x = h.1 td (suc (suc d)) (Level (suc d)) in let y = all (suc d) d in omega (arith, x, h.0, y)
bound (Pass l) u n td d t body m h all = let y = all d l in omega (arith, h.0, h.1, y)

abbrev SizedAt : Noted → Type 0
SizedAt e = (td d : ℕ) (tl : List ℕ) (names : List Atom) (k : Rest) (u n : ℕ) → Sized k u n →
    ksize_t (cps e td d tl names k) + u ≤ 7 * nodes (bare e) + n

-- one part and a declaration of it, two parts and a declaration of them
sizes_one : (e : Noted) → SizedAt e → (make : ℕ → KVal → KDecl) →
    ((td : ℕ) (v : KVal) → ksize_d (make td v) ≡ 1 + ksize_v v) →
    (td d : ℕ) (tl : List ℕ) (names : List Atom) (k : Rest) (u n : ℕ) → Sized k u n →
    ksize_t (cps e td d tl names (to_one make k)) + u ≤ 7 * (1 + nodes (bare e)) + n
sizes_one e se make one td d tl names k u n h =
    let le = small k u n h in
    let y = se td d tl names (to_one make k) 1 (n + 5 - u) (
      refl,
      λ td1 d1 a. let z = given k u n td1 (suc d1) (Level d1) h in
          omega (arith, one td1 (value a d1), one_v a d1, z, le),
    ) in
    omega (arith, y, le)

sizes_two : (x y : Noted) → SizedAt x → SizedAt y → (make : KVal → KVal → KDecl) →
    ((v w : KVal) → ksize_d (make v w) ≡ 1 + ksize_v v + ksize_v w) →
    (td d : ℕ) (tl : List ℕ) (names : List Atom) (k : Rest) (u n : ℕ) → Sized k u n →
    ksize_t (cps x td d tl names (Bind (λ td1 d1 a. cps y td1 d1 tl names (to_two make a k)))) + u ≤ 7
    * (1 + nodes (bare x) + nodes (bare y)) + n
sizes_two x y sx sy make two td d tl names k u n h =
    let le = small k u n h in
    let inner : (td1 d1 : ℕ) (a : Atom) → ksize_t (cps y td1 d1 tl names (to_two make a k)) ≤ 7 * nodes (bare y)
    + (n + 6 - u) =
    λ td1 d1 a. let w =
    sy td1 d1 tl names (to_two make a k) 1 (n + 6 - u) (
      refl,
      λ td2 d2 b. let z = given k u n td2 (suc d2) (Level d2) h in
          omega (arith, two (value a d2) (value b d2), one_v a d2, one_v b d2, z, le),
    ) in omega (arith, w) in
    let v = sx td d tl names (Bind (λ td1 d1 a. cps y td1 d1 tl names (to_two make a k))) 1
    (7 * nodes (bare y) + (n + 6 - u)) (refl, inner) in
    omega (arith, v, le)

mutual
  sizes : (e : Noted) → SizedAt e
  sizes (EVar i) td d tl names k u n h = let x = given k u n td d (atom_at names i) h in omega (arith, x)
  sizes (ENum i) td d tl names k u n h = let x = given k u n td d (Literal i) h in omega (arith, x)
  sizes (EFix arg res e) td d tl names k u n h =
      let x = given k u n td (suc d) (Level d) h in
      let y =
      sizes e td (suc (suc (suc d))) tl (Level (suc d) ∷ Level d ∷ names) (Pass (suc (suc d))) 0 0 (refl, refl) in
      omega (arith, x, y)
  sizes (EGen e t) td d tl names k u n h =
      let x = given k u n td (suc d) (Level d) h in
      let y = sizes e (suc td) (suc (suc d)) (td ∷ tl) names (Pass (suc d)) 0 0 (refl, refl) in
      omega (arith, x, y)
  sizes (EApp f x t) td d tl names k u n h =
      let le = small k u n h in
      let last : (td2 d2 : ℕ) (a b : Atom) →
      ksize_t (KCall (value a d2) NoKTys
      (MoreKVals (value b d2) (MoreKVals (as_value (kat td2 tl t) k td2 d2) NoKVals))) ≤ n + 6 - u =
      λ td2 d2 a b. let y = handed k u n td2 d2 (kat td2 tl t) h in omega (arith, one_v a d2, one_v b d2, y, le) in
      let inner : (td1 d1 : ℕ) (a : Atom) → ksize_t (cps x td1 d1 tl names (to_call tl a t k)) ≤ 7 * nodes (bare x)
      + (n + 6 - u) =
      λ td1 d1 a. let y =
      sizes x td1 d1 tl names (to_call tl a t k) 1 (n + 6 - u) (refl, λ td2 d2 b. last td2 d2 a b) in
      omega (arith, y) in
      let y = sizes f td d tl names (Bind (λ td1 d1 a. cps x td1 d1 tl names (to_call tl a t k))) 1
      (7 * nodes (bare x) + (n + 6 - u)) (refl, inner) in
      omega (arith, y, le)
  sizes (EInst e s t) td d tl names k u n h =
      let le = small k u n h in
      let y = sizes e td d tl names (to_inst tl s t k) 1 (n + 5 - u)
      (refl, λ td1 d1 a. let z = handed k u n td1 d1 (kat td1 tl t) h in omega (arith, one_v a d1, z, le)) in
      omega (arith, y, le)
  sizes (ETuple es t) td d tl names k u n h =
      let le = small k u n h in
      let y = sizes_all es td d tl names [] (to_tuple k) (n + 5 - u)
      (λ td1 d1 xs. let z = given k u n td1 (suc d1) (Level d1) h in omega (arith, many_vs xs d1, z, le)) in
      omega (arith, y, le)
  sizes (EProj i e t) td d tl names k u n h =
      sizes_one e (sizes e) (λ td1 v. KProj i v) (λ td1 v. refl) td d tl names k u n h
  sizes (EArith op x y) td d tl names k u n h =
      sizes_two x y (sizes x) (sizes y) (KArith op) (λ v w. refl) td d tl names k u n h
  sizes (EIf c a b t) td d tl names k u n h =
      let le = small k u n h in
      let both = 2 + 7 * nodes (bare a) + 7 * nodes (bare b) in
      let whole : (d1 l : ℕ) →
      ksize_t (cps c td d1 tl names
      (Bind (λ td2 d2 ca. KIf (value ca d2) (cps a td2 d2 tl names (Pass l)) (cps b td2 d2 tl names (Pass l)))))
      ≤ 7 * nodes (bare c) + both =
      λ d1 l. let y =
      sizes c td d1 tl names
      (Bind (λ td2 d2 ca. KIf (value ca d2) (cps a td2 d2 tl names (Pass l)) (cps b td2 d2 tl names (Pass l)))) 1
      both (
        refl,
        λ td2 d2 ca. let v = sizes a td2 d2 tl names (Pass l) 0 0 (refl, refl) in
            let w = sizes b td2 d2 tl names (Pass l) 0 0 (refl, refl) in
            omega (arith, one_v ca d2, v, w),
      ) in omega (arith, y) in
      let z = bound k u n td d (kat td tl t)
      (λ d1 l. cps c td d1 tl names
      (Bind (λ td2 d2 ca. KIf (value ca d2) (cps a td2 d2 tl names (Pass l)) (cps b td2 d2 tl names (Pass l)))))
      (7 * nodes (bare c) + both) h whole in
      omega (arith, z, le)
  sizes (ELet x y) td d tl names k u n h =
      let le = small k u n h in
      let inner : (td1 d1 : ℕ) (a : Atom) → ksize_t (cps y td1 d1 tl (a ∷ names) k) ≤ 7 * nodes (bare y) + n =
      λ td1 d1 a. let w = sizes y td1 d1 tl (a ∷ names) k u n h in omega (arith, w) in
      let v = sizes x td d tl names (Bind (λ td1 d1 a. cps y td1 d1 tl (a ∷ names) k)) 1 (7 * nodes (bare y) + n)
      (refl, inner) in
      omega (arith, v, le)
  sizes (EPack hid e s) td d tl names k u n h =
      sizes_one e (sizes e) (packing tl hid s) (λ td1 v. refl) td d tl names k u n h
  sizes (EOpen x y t) td d tl names k u n h =
      let le = small k u n h in
      let inner : (td1 d1 : ℕ) (a : Atom) →
      ksize_t (KLet (KUnpack (value a d1)) (cps y (suc td1) (suc d1) (td1 ∷ tl) (Level d1 ∷ names) k)) ≤ 7
      * nodes (bare y) + n + 2 =
      λ td1 d1 a. let w =
      sizes y (suc td1) (suc d1) (td1 ∷ tl) (Level d1 ∷ names) k u n h in omega (arith, w, one_v a d1) in
      let v = sizes x td d tl names
      (Bind (λ td1 d1 a. KLet (KUnpack (value a d1)) (cps y (suc td1) (suc d1) (td1 ∷ tl) (Level d1 ∷ names) k))) 1
      (7 * nodes (bare y) + n + 2) (refl, inner) in
      omega (arith, v, le)
  sizes (ERef e t) td d tl names k u n h =
      sizes_one e (sizes e) (λ td1 v. KCell v) (λ td1 v. refl) td d tl names k u n h
  sizes (EDeref e t) td d tl names k u n h =
      sizes_one e (sizes e) (λ td1 v. KGet v) (λ td1 v. refl) td d tl names k u n h
  sizes (EAssign x y) td d tl names k u n h = sizes_two x y (sizes x) (sizes y) KSet (λ v w. refl) td d tl names k u n h

  sizes_all : (es : Noteds) (td d : ℕ) (tl : List ℕ) (names : List Atom) (done : List Atom)
      (make : ℕ → ℕ → List Atom → KTm) (n : ℕ) → ((td d : ℕ) (xs : List Atom) → ksize_t (make td d xs) ≤ n + many xs) →
      ksize_t (cps_all es td d tl names done make) ≤ 7 * nodes_all (bare_all es) + (n + many done)
  sizes_all NoNoteds td d tl names done make n h = let x = h td d done in omega (arith, x)
  sizes_all (MoreNoteds e es) td d tl names done make n h =
      let m = 7 * nodes_all (bare_all es) + (n + suc (many done)) in
      let inner : (td1 d1 : ℕ) (a : Atom) → ksize_t (cps_all es td1 d1 tl names (done ++ a ∷ []) make) ≤ m =
      λ td1 d1 a. let x =
      sizes_all es td1 d1 tl names (done ++ a ∷ []) make n h in omega (arith, x, many_more done a) in
      let y = sizes e td d tl names (Bind (λ td1 d1 a. cps_all es td1 d1 tl names (done ++ a ∷ []) make)) 1 m
      (refl, inner) in
      omega (arith, y)

pub size_is : (e : Term) → ksize_t (cps_term e) ≤ 7 * nodes e + 1
size_is e =
    let x = sizes (annotate false e NoTys) 0 0 [] [] halting 1 2 (refl, λ td d a. omega (arith, one_v a d)) in
    omega (arith, x, ap nodes (same false e NoTys))
