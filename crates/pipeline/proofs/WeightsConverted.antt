-- Conversion to continuation-passing style keeps the weight.
use Rattle.std.proofs.Common.{◌≡◌, ℕ, suc, ◌+◌, Bool, true, false, List, [], ◌∷◌, ◌++◌, refl, ap, arith}
use Rattle.f_terms.specs.Ty.{NoTys}
use Rattle.f_terms.specs.Tm.{Term}
use Rattle.f_terms.specs.Noted.{Noted, EVar, ENum, EFix, EApp, EGen, EInst, ETuple, EProj, EArith, EIf, ELet, EPack}
use Rattle.f_terms.specs.Noted.{EOpen, ERef, EDeref, EAssign, Noteds, NoNoteds, MoreNoteds, bare, bare_all}
use Rattle.k_terms.specs.K.{KTy, KVal, KVar, KInt, KTuple, KCode, KVals, NoKVals, MoreKVals, KDecl, KName, KProj}
use Rattle.k_terms.specs.K.{KArith}
use Rattle.k_terms.specs.K.{KPack, KUnpack, KCell, KGet, KSet, KTm, KLet, KCall, KIf, KHalt}
use Rattle.k_laws.specs.Cps.{Atom, Level, Literal, Rest, Bind, Pass, value, values, deliver, as_value, bound_once}
use Rattle.k_laws.specs.Cps.{atom_at, kat, packing, to_call, to_inst, to_one, to_two, to_tuple, cps, cps_all, halting}
use Rattle.k_laws.specs.Annotate.{annotate, cps_term}
use Rattle.k_laws.proofs.Types.{same}
use Rattle.pipeline.specs.Weights.{Weights, call_weight, handing, term_weight, terms_weight}

-- what a converted term weighs: a call opens what it calls
abbrev mutual
  pub k_v : Weights → KVal → ℕ
  k_v w (KVar i) = 0
  k_v w (KInt n) = 0
  k_v w (KTuple vs) = k_vs w vs
  k_v w (KCode owes args body) = k_t w body

  pub k_vs : Weights → KVals → ℕ
  k_vs w NoKVals = 0
  k_vs w (MoreKVals v vs) = k_v w v + k_vs w vs

  pub k_d : Weights → KDecl → ℕ
  k_d w (KName v) = k_v w v
  k_d w (KProj i v) = k_v w v
  k_d w (KArith op v u) = w.operation op + (k_v w v + k_v w u)
  k_d w (KPack h v s) = k_v w v
  k_d w (KUnpack v) = w.opening + k_v w v
  k_d w (KCell v) = k_v w v
  k_d w (KGet v) = k_v w v
  k_d w (KSet v u) = k_v w v + k_v w u

  pub k_t : Weights → KTm → ℕ
  k_t w (KLet d t) = k_d w d + k_t w t
  k_t w (KCall f ts vs) = call_weight w + (k_v w f + k_vs w vs)
  k_t w (KIf v t u) = w.choice + (k_v w v + (k_t w t + k_t w u))
  k_t w (KHalt v) = w.halting + k_v w v

module _ (w : Weights) where
  no_weight : (a : Atom) (d : ℕ) → k_v w (value a d) ≡ 0
  no_weight (Level l) d = refl
  no_weight (Literal n) d = refl

  no_weights : (xs : List Atom) (d : ℕ) → k_vs w (values xs d) ≡ 0
  no_weights [] d = refl
  no_weights (a ∷ xs) d = omega (arith, no_weight a d, no_weights xs d)

  -- a rest weighs n; a name weighs nothing, and is in tail place
  abbrev Weighs : Rest → Bool → ℕ → Type 0
  Weighs (Bind form) tail n = (tail ≡ false) × ((td d : ℕ) (a : Atom) → k_t w (form td d a) ≡ n)
  Weighs (Pass l) tail n = (tail ≡ true) × (n ≡ 0)

  given : (k : Rest) (tail : Bool) (n td d : ℕ) (a : Atom) → Weighs k tail n →
      k_t w (deliver k td d a) ≡ handing w tail + n
  given (Bind form) tail n td d a h = let x = ap (handing w) h.0 in omega (arith, h.1 td d a, x)
  given (Pass l) tail n td d a h = let x = ap (handing w) h.0 in omega (arith, no_weight a d, h.1, x)

  handed : (k : Rest) (tail : Bool) (n td d : ℕ) (t : KTy) → Weighs k tail n → k_v w (as_value t k td d) ≡ n
  handed (Bind form) tail n td d t h = h.1 td (suc (suc d)) (Level (suc d))
  handed (Pass l) tail n td d t h = omega (arith, h.1)

  bound : (k : Rest) (tail : Bool) (n td d : ℕ) (t : KTy) (body : ℕ → ℕ → KTm) (m : ℕ) → Weighs k tail n →
      ((d l : ℕ) → k_t w (body d l) ≡ m) → k_t w (bound_once t k td d body) ≡ n + m
  bound (Bind form) tail n td d t body m h all = omega (arith, h.1 td (suc (suc d)) (Level (suc d)), all (suc d) d)
  bound (Pass l) tail n td d t body m h all = omega (arith, h.1, all d l)

  abbrev WeighsAt : Noted → Type 0
  WeighsAt e =
      (td d : ℕ) (tl : List ℕ) (names : List Atom) (k : Rest) (tail : Bool) (n : ℕ) → Weighs k tail n →
      k_t w (cps e td d tl names k) ≡ term_weight w tail (bare e) + n

  -- one part and a declaration of it, which weighs m, and two parts
  one : (e : Noted) → WeighsAt e → (make : ℕ → KVal → KDecl) → ((td : ℕ) (v : KVal) → k_d w (make td v) ≡ k_v w v) →
      (td d : ℕ) (tl : List ℕ) (names : List Atom) (k : Rest) (tail : Bool) (n : ℕ) → Weighs k tail n →
      k_t w (cps e td d tl names (to_one make k)) ≡ handing w tail + term_weight w false (bare e) + n
  one e we make like td d tl names k tail n h =
      let last : (td1 d1 : ℕ) (a : Atom) →
      k_d w (make td1 (value a d1)) + k_t w (deliver k td1 (suc d1) (Level d1)) ≡ handing w tail + n =
      λ td1 d1 a. omega (arith, like td1 (value a d1), no_weight a d1, given k tail n td1 (suc d1) (Level d1) h) in
      let x = we td d tl names (to_one make k) false (handing w tail + n) (refl, last) in
      omega (arith, x)

  two : (x y : Noted) → WeighsAt x → WeighsAt y → (make : KVal → KVal → KDecl) (m : ℕ) →
      ((v u : KVal) → k_d w (make v u) ≡ m + (k_v w v + k_v w u)) →
      (td d : ℕ) (tl : List ℕ) (names : List Atom) (k : Rest) (tail : Bool) (n : ℕ) → Weighs k tail n →
      k_t w (cps x td d tl names (Bind (λ td1 d1 a. cps y td1 d1 tl names (to_two make a k)))) ≡
      handing w tail + (m + (term_weight w false (bare x) + term_weight w false (bare y))) + n
  two x y wx wy make m like td d tl names k tail n h =
      let rest = m + (handing w tail + n) in
      let last : (td2 d2 : ℕ) (a b : Atom) →
      k_d w (make (value a d2) (value b d2)) + k_t w (deliver k td2 (suc d2) (Level d2)) ≡ rest =
      λ td2 d2 a b.
      let g = given k tail n td2 (suc d2) (Level d2) h in
      omega (arith, like (value a d2) (value b d2), no_weight a d2, no_weight b d2, g) in
      let inner : (td1 d1 : ℕ) (a : Atom) →
      k_t w (cps y td1 d1 tl names (to_two make a k)) ≡ term_weight w false (bare y) + rest =
      λ td1 d1 a. wy td1 d1 tl names (to_two make a k) false rest (refl, λ td2 d2 b. last td2 d2 a b) in
      let first = Bind (λ td1 d1 a. cps y td1 d1 tl names (to_two make a k)) in
      let all = wx td d tl names first false (term_weight w false (bare y) + rest) (refl, inner) in
      omega (arith, all)

  mutual
    weighs : (e : Noted) → WeighsAt e
    weighs (EVar i) td d tl names k tail n h = given k tail n td d (atom_at names i) h
    weighs (ENum i) td d tl names k tail n h = given k tail n td d (Literal i) h
    weighs (EFix arg res e) td d tl names k tail n h =
        let ns = Level (suc d) ∷ Level d ∷ names in
        let x = weighs e td (suc (suc (suc d))) tl ns (Pass (suc (suc d))) true 0 (refl, refl) in
        omega (arith, given k tail n td (suc d) (Level d) h, x)
    weighs (EGen e t) td d tl names k tail n h =
        let x = weighs e (suc td) (suc (suc d)) (td ∷ tl) names (Pass (suc d)) true 0 (refl, refl) in
        omega (arith, given k tail n td (suc d) (Level d) h, x)
    weighs (EApp f x t) td d tl names k tail n h =
        let rest = call_weight w + n in
        let last : (td2 d2 : ℕ) (a b : Atom) →
        call_weight w
        + (k_v w (value a d2) + (k_v w (value b d2) + (k_v w (as_value (kat td2 tl t) k td2 d2) + 0))) ≡ rest =
        λ td2 d2 a b. omega (arith, no_weight a d2, no_weight b d2, handed k tail n td2 d2 (kat td2 tl t) h) in
        let inner : (td1 d1 : ℕ) (a : Atom) →
        k_t w (cps x td1 d1 tl names (to_call tl a t k)) ≡ term_weight w false (bare x) + rest =
        λ td1 d1 a. weighs x td1 d1 tl names (to_call tl a t k) false rest (refl, λ td2 d2 b. last td2 d2 a b) in
        let first = Bind (λ td1 d1 a. cps x td1 d1 tl names (to_call tl a t k)) in
        let all = weighs f td d tl names first false (term_weight w false (bare x) + rest) (refl, inner) in
        omega (arith, all)
    weighs (EInst e s t) td d tl names k tail n h =
        let rest = call_weight w + n in
        let last : (td1 d1 : ℕ) (a : Atom) →
        call_weight w + (k_v w (value a d1) + (k_v w (as_value (kat td1 tl t) k td1 d1) + 0)) ≡ rest =
        λ td1 d1 a. omega (arith, no_weight a d1, handed k tail n td1 d1 (kat td1 tl t) h) in
        let all = weighs e td d tl names (to_inst tl s t k) false rest (refl, last) in
        omega (arith, all)
    weighs (ETuple es t) td d tl names k tail n h =
        let rest = handing w tail + n in
        let last : (td1 d1 : ℕ) (xs : List Atom) →
        k_vs w (values xs d1) + k_t w (deliver k td1 (suc d1) (Level d1)) ≡ rest =
        λ td1 d1 xs. omega (arith, no_weights xs d1, given k tail n td1 (suc d1) (Level d1) h) in
        let all = weigh_all es td d tl names [] (to_tuple k) rest last in
        omega (arith, all)
    weighs (EProj i e t) td d tl names k tail n h =
        one e (weighs e) (λ td1 v. KProj i v) (λ td1 v. refl) td d tl names k tail n h
    weighs (EArith op x y) td d tl names k tail n h =
        two x y (weighs x) (weighs y) (KArith op) (w.operation op) (λ v u. refl) td d tl names k tail n h
    weighs (EIf c a b t) td d tl names k tail n h =
        let both = w.choice + (term_weight w true (bare a) + term_weight w true (bare b)) in
        let test : ℕ → Rest = λ l. Bind
        (λ td2 d2 x. KIf (value x d2) (cps a td2 d2 tl names (Pass l)) (cps b td2 d2 tl names (Pass l))) in
        let last : (l td2 d2 : ℕ) (x : Atom) →
        w.choice + (k_v w (value x d2) + (k_t w (cps a td2 d2 tl names (Pass l))
        + k_t w (cps b td2 d2 tl names (Pass l)))) ≡ both =
        λ l td2 d2 x.
        let p = weighs a td2 d2 tl names (Pass l) true 0 (refl, refl) in
        let q = weighs b td2 d2 tl names (Pass l) true 0 (refl, refl) in
        omega (arith, no_weight x d2, p, q) in
        let whole : (d1 l : ℕ) → k_t w (cps c td d1 tl names (test l)) ≡ term_weight w false (bare c) + both =
        λ d1 l. weighs c td d1 tl names (test l) false both (refl, last l) in
        let body : ℕ → ℕ → KTm = λ d1 l. cps c td d1 tl names (test l) in
        let all = bound k tail n td d (kat td tl t) body (term_weight w false (bare c) + both) h whole in
        omega (arith, all)
    weighs (ELet x y) td d tl names k tail n h =
        let first = Bind (λ td1 d1 a. cps y td1 d1 tl (a ∷ names) k) in
        let rest = term_weight w tail (bare y) + n in
        let all = weighs x td d tl names first false rest
        (refl, λ td1 d1 a. weighs y td1 d1 tl (a ∷ names) k tail n h) in
        omega (arith, all)
    weighs (EPack hid e s) td d tl names k tail n h =
        one e (weighs e) (packing tl hid s) (λ td1 v. refl) td d tl names k tail n h
    weighs (EOpen x y t) td d tl names k tail n h =
        let first = Bind
        (λ td1 d1 a. KLet (KUnpack (value a d1)) (cps y (suc td1) (suc d1) (td1 ∷ tl) (Level d1 ∷ names) k)) in
        let rest = w.opening + (term_weight w tail (bare y) + n) in
        let last : (td1 d1 : ℕ) (a : Atom) →
        w.opening + k_v w (value a d1) + k_t w (cps y (suc td1) (suc d1) (td1 ∷ tl) (Level d1 ∷ names) k) ≡ rest =
        λ td1 d1 a.
        let p = weighs y (suc td1) (suc d1) (td1 ∷ tl) (Level d1 ∷ names) k tail n h in
        omega (arith, no_weight a d1, p) in
        let all = weighs x td d tl names first false rest (refl, last) in
        omega (arith, all)
    weighs (ERef e t) td d tl names k tail n h =
        one e (weighs e) (λ td1 v. KCell v) (λ td1 v. refl) td d tl names k tail n h
    weighs (EDeref e t) td d tl names k tail n h =
        one e (weighs e) (λ td1 v. KGet v) (λ td1 v. refl) td d tl names k tail n h
    weighs (EAssign x y) td d tl names k tail n h =
        let all = two x y (weighs x) (weighs y) KSet 0 (λ v u. omega arith) td d tl names k tail n h in
        omega (arith, all)

    weigh_all : (es : Noteds) (td d : ℕ) (tl : List ℕ) (names done : List Atom) (make : ℕ → ℕ → List Atom → KTm)
        (n : ℕ) → ((td d : ℕ) (xs : List Atom) → k_t w (make td d xs) ≡ n) →
        k_t w (cps_all es td d tl names done make) ≡ terms_weight w (bare_all es) + n
    weigh_all NoNoteds td d tl names done make n h = omega (arith, h td d done)
    weigh_all (MoreNoteds e es) td d tl names done make n h =
        let first = Bind (λ td1 d1 a. cps_all es td1 d1 tl names (done ++ a ∷ []) make) in
        let rest = terms_weight w (bare_all es) + n in
        let all = weighs e td d tl names first false rest
        (refl, λ td1 d1 a. weigh_all es td1 d1 tl names (done ++ a ∷ []) make n h) in
        omega (arith, all)

  -- the rest of the whole program halts
  pub converted_weight : (e : Term) → k_t w (cps_term e) ≡ term_weight w false e + w.halting
  converted_weight e =
      let last : (td d : ℕ) (a : Atom) → w.halting + k_v w (value a d) ≡ w.halting =
      λ td d a. omega (arith, no_weight a d) in
      let all = weighs (annotate false e NoTys) 0 0 [] [] halting false w.halting (refl, last) in
      omega (arith, all, ap (term_weight w false) (same false e NoTys))
